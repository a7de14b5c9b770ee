-- What each setting of a network tells.
use Rattle.std.proofs.Common.{◌≡◌, ℕ, ◌<◌, Bool, true, false, cond, List, length, Some, None, refl, sym, ap, ◌∙◌}
use Rattle.std.proofs.Common.{subst, arith}
use Rattle.std.specs.Prelude.{◌↔◌, nat_lt, unwrap_or, IsSome}
use Rattle.std.specs.Option.{ForSome}
use Rattle.std.specs.List.{All, Contains}
use Rattle.std.proofs.lemmas.Bool.{ltb-true, ltb-false}
use Rattle.std.proofs.lemmas.Option.{none-some, same_Some}
use Rattle.std.proofs.lemmas.List.Elements.{All-contains, All-weaker}
use Rattle.ats_group.specs.Group.{Offer, first, verdicts_of}
use Rattle.ats_topology.specs.Topology.{DeclaredTopology}
use Rattle.ats_network.specs.Class.{class_at}
use Rattle.ats_network.specs.Network.{DeclaredNetwork, IsNetwork, senders_of}
use Rattle.ats_network.specs.Residence.{residence_after}
use Rattle.ats_network.specs.Sender.{Sender}
use Rattle.ats_network.specs.Senders.{IsSender, sender_at}
use Rattle.ats_network.proofs.ClassLemmas.{class_at-le}
use Rattle.ats_network.proofs.SenderLemmas.{sender_keeps}
use Rattle.ats_schedulers.specs.Schedulers.{member_behind}
use Rattle.ats_trace.specs.Eligibility.{declared_by, residence_of_groups, scheduled_by}
use Rattle.ats_settings.specs.Settings.{AreSettings, LeavesBridge, port_at_place, scheduler_behind, shaping_of}
use Rattle.ats_settings.specs.declared.setting.Setting.{Setting}
use Rattle.ats_settings.specs.declared.setting.Shaping.{Shaping}
use Rattle.ats_settings.proofs.Behind.{residence_behind}
use Rattle.ats_settings.proofs.BeforeLemmas.{ComesFrom, HasBefore, has_before, port_below}
use Rattle.ats_settings.proofs.Places.{each_setting, setting_from, setting_is}
use Rattle.ats_settings_law.specs.Laws.{AreSetAlike, EachSettingIsTrue, GroupsJudgeAlike, IsKnown}
use Rattle.ats_settings_law.specs.Laws.{IsSchedulerOf, IsTrueOf, SizesPassAlike}
use Rattle.ats_settings_law.proofs.Alike.{AreAlike, IsFit, same-size, same-verdicts}

-- what is told of a sender's scheduler behind a port
abbrev told_behind : DeclaredNetwork → ℕ → ℕ → Shaping
told_behind network sender port =
    shaping_of network (member_behind network.topology (sender_at network sender) port)

shaping_is : (network : DeclaredNetwork) (stream port : ℕ) → IsNetwork network → stream < length (senders_of network)
    → port < length network.topology.ports
    → IsSchedulerOf network stream port (told_behind network stream port)
shaping_is network stream port is exists below =
    let s : Sender = sender_at network stream in
    let keeps : IsSender network.topology s = sender_keeps network stream is exists in
    record {
      rate = refl;
      burst = refl;
      residence = residence_behind network port (class_at s port) below (class_at-le s port keeps.classes);
    }

-- the scheduler of a sender, where it has one
scheduler_is : (network : DeclaredNetwork) (sender port : ℕ) → IsNetwork network → sender < length (senders_of network)
    → port < length network.topology.ports
    → ForSome (scheduler_behind network sender port) (IsSchedulerOf network sender port)
scheduler_is network sender port is exists below = by (nat_lt sender (length network.streams))
  where
    by : (t : Bool)
        → ForSome (cond t (Some (told_behind network sender port)) None) (IsSchedulerOf network sender port)
    by true = λ told e. subst (IsSchedulerOf network sender port)
        (same_Some (told_behind network sender port) told e)
        (shaping_is network sender port is exists below)
    by false = λ told e. absurd (none-some told e)

-- a sender has one exactly where it is a stream
scheduler_if_stream : (network : DeclaredNetwork) (sender port : ℕ)
    → IsSome (scheduler_behind network sender port) ↔ (sender < length network.streams)
scheduler_if_stream network sender port = by (nat_lt sender (length network.streams)) refl
  where
    by : (t : Bool) → nat_lt sender (length network.streams) ≡ t
        → IsSome (cond t (Some (told_behind network sender port)) None) ↔ (sender < length network.streams)
    by true below = (λ h. ltb-true sender (length network.streams) below, λ h. refl)
    by false past = (λ h. cc, λ h. absurd (omega (arith, h, ltb-false sender (length network.streams) past)))

-- what the setting at a place tells is so
true_at : (network : DeclaredNetwork) (sender place before : ℕ) → IsNetwork network
    → LeavesBridge network sender place → ComesFrom network sender place before
    → IsTrueOf network (setting_from network sender place (port_at_place network sender before))
true_at network sender place before is at from =
    let below : port_at_place network sender before < length network.topology.ports =
    port_below network sender before is at.exists from.within in
    record {
      exists = at.exists;
      path = from.is;
      bridge = refl;
      class = refl;
      class_there = refl;
      most = refl;
      shaped = scheduler_if_stream network sender (port_at_place network sender before);
      scheduler = scheduler_is network sender (port_at_place network sender before) is at.exists below;
    }

pub each_setting_is_true : EachSettingIsTrue
each_setting_is_true network settings is are = each_setting (IsTrueOf network) network settings are
    (λ sender place at. (let has : HasBefore network sender place = has_before network sender place is at in
    subst (IsTrueOf network) (sym (setting_is network sender place has.before has.from))
    (true_at network sender place has.before is at has.from)))

-- of one of the settings of a network
true_among : (network : DeclaredNetwork) (settings : List Setting) (s : Setting) → IsNetwork network
    → AreSettings network settings → Contains settings s → IsTrueOf network s
true_among network settings s is are among =
    All-contains (IsTrueOf network) settings s (each_setting_is_true network settings is are) among

-- a frame that both networks know is of a member that is declared alike
fit_of : (one other : DeclaredNetwork) (settings : List Setting) (port : ℕ) (offer : Offer)
    → AreSetAlike one other settings → IsKnown one other settings port offer
    → IsFit (scheduled_by one port) (scheduled_by other port) offer
fit_of one other settings port offer alike known =
    let s : Setting = known.named.setting in
    let here : IsTrueOf one s =
    true_among one settings s alike.is_network alike.is_set known.named.among in
    let there : IsTrueOf other s =
    true_among other settings s alike.is_network_too alike.is_set_too known.named.among in
    let told : IsSchedulerOf one s.sender s.received_from known.scheduler =
    here.scheduler known.scheduler known.shaped in
    let told_there : IsSchedulerOf other s.sender s.received_from known.scheduler =
    there.scheduler known.scheduler known.shaped in
    let Alike : ℕ → ℕ → Type 0 = λ (p m : ℕ). AreAlike (scheduled_by one p m) (scheduled_by other p m) in
    let both : Alike s.received_from s.sender = record {
      rate = sym told.rate ∙ told_there.rate;
      burst = sym told.burst ∙ told_there.burst;
      most = sym here.most ∙ there.most;
    } in
    record {
      alike = subst (Alike port) known.named.of_sender
          (subst (λ (p : ℕ). Alike p s.sender) known.named.behind both);
      least = known.not_short;
      least_there = known.not_short_there;
    }

pub groups_judge_alike : GroupsJudgeAlike
groups_judge_alike one other settings alike port offers known =
    let fit : All (IsFit (scheduled_by one port) (scheduled_by other port)) offers =
    All-weaker (IsKnown one other settings port) (IsFit (scheduled_by one port) (scheduled_by other port))
    (λ offer h. fit_of one other settings port offer alike h) offers known in
    let residence : residence_of_groups one port ≡ residence_of_groups other port =
    ap (λ (t : DeclaredTopology). unwrap_or (residence_after t port) 0) alike.topology in
    same-verdicts (scheduled_by one port) (scheduled_by other port) (residence_of_groups one port) offers fit
    ∙ ap (λ (r : ℕ). verdicts_of (scheduled_by other port) r (first (scheduled_by other port)) offers) residence

pub sizes_pass_alike : SizesPassAlike
sizes_pass_alike one other settings alike port offer named long long_there =
    let s : Setting = named.setting in
    let here : IsTrueOf one s =
    true_among one settings s alike.is_network alike.is_set named.among in
    let there : IsTrueOf other s =
    true_among other settings s alike.is_network_too alike.is_set_too named.among in
    let most : (declared_by one offer.member).max_octets ≡ (declared_by other offer.member).max_octets =
    subst (λ (m : ℕ). (declared_by one m).max_octets ≡ (declared_by other m).max_octets) named.of_sender
    (sym here.most ∙ there.most) in
    same-size (declared_by one offer.member) (declared_by other offer.member) offer.octets most long long_there

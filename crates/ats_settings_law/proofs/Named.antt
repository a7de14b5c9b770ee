-- Each port by which frames leave a bridge is named by one of the settings.
use Rattle.std.proofs.Common.{◌≡◌, ℕ, zero, suc, ◌+◌, ◌<◌, List, ◌∷◌, [], length, refl, sym, ap, ◌∙◌, subst, arith}
use Rattle.std.proofs.Common.{cond, Option, Some}
use Rattle.std.specs.Prelude.{is_some, unwrap_or}
use Rattle.std.specs.List.{Contains, flat_map, range_with_len}
use Rattle.std.proofs.lemmas.List.Elements.{Contains-append_left, Contains-append_right}
use Rattle.std.proofs.lemmas.List.Sorted.{Contains-permutation}
use Rattle.ats_network.specs.Class.{port_before}
use Rattle.ats_network.specs.Network.{senders_of}
use Rattle.ats_network.specs.Sender.{Sender}
use Rattle.ats_network.specs.Senders.{IsSender, sender_at}
use Rattle.ats_network.proofs.SenderLemmas.{sender_keeps}
use Rattle.ats_route_law.proofs.Standing.{StandsBehind, stands_behind}
use Rattle.ats_settings.specs.Settings.{hop_settings, port_behind, sender_settings, setting_at, settings_at}
use Rattle.ats_settings.specs.declared.setting.Setting.{Setting}
use Rattle.ats_settings_law.specs.Laws.{EachHopIsNamed}

-- what is in the list that belongs to a number of a range is in those of all
among_along : (f : ℕ → List Setting) (n a j : ℕ) (x : Setting) → j < n → Contains (f (a + j)) x
    → Contains (flat_map f (range_with_len a n)) x
among_along f zero a j x within has = absurd (omega arith)
among_along f (suc n) a zero x within has =
    let here : a + 0 ≡ a = omega arith in
    Contains-append_left (f a) (flat_map f (range_with_len (a + 1) n)) x
    (subst (λ (k : ℕ). Contains (f k) x) here has)
among_along f (suc n) a (suc j) x within has =
    let later : a + suc j ≡ a + 1 + j = omega arith in
    Contains-append_right (f a) (flat_map f (range_with_len (a + 1) n)) x
    (among_along f n (a + 1) j x (omega arith) (subst (λ (k : ℕ). Contains (f k) x) later has))

pub each_hop_is_named : EachHopIsNamed
each_hop_is_named network settings is are sender exists before port h =
    let s : Sender = sender_at network sender in
    let keeps : IsSender network.topology s = sender_keeps network sender is exists in
    let at : StandsBehind s port = stands_behind network.topology s port before keeps h in
    let x : Setting = setting_at network sender at.place in
    let there : port_behind network sender at.place ≡ Some before = ap (port_before s) at.is ∙ h in
    let one : settings_at network sender at.place ≡ x ∷ [] =
    ap (λ (o : Option ℕ). cond (is_some o) (x ∷ []) []) there in
    let place_is : at.place ≡ 0 + at.place = omega arith in
    let in_sender : Contains (sender_settings network sender) x =
    among_along (settings_at network sender) (length s.ports) 0 at.place x at.within
    (subst (λ (k : ℕ). Contains (settings_at network sender k) x) place_is
    (subst (λ (l : List Setting). Contains l x) (sym one) (0, omega arith, refl))) in
    let own : sender ≡ 0 + sender = omega arith in
    let in_all : Contains (hop_settings network) x =
    among_along (sender_settings network) (length (senders_of network)) 0 sender x exists
    (subst (λ (k : ℕ). Contains (sender_settings network k) x) own in_sender) in
    record {
      named = record {
        setting = x;
        among = Contains-permutation (hop_settings network) settings x are.same in_all;
        of_sender = refl;
        behind = ap (λ (o : Option ℕ). unwrap_or o 0) there;
      };
      sent_to = at.is;
    }

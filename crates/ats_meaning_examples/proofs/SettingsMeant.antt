use Rattle.std.proofs.Common.{◌≡◌, ◌≢◌, ℕ, zero, suc, ◌+◌, ◌*◌, ◌<◌, Option, Some, None, refl, ap, subst, ◌∙◌}
use Rattle.std.proofs.Common.{arith, lit<}
use Rattle.std.proofs.lemmas.Bool.{false≢true}
use Rattle.std.proofs.lemmas.Option.{none-some}
use Rattle.std.specs.Prelude.{Contains}
use Rattle.ats_trace.specs.Eligibility.{declared_by}
use Rattle.ats_settings.specs.Laws.{Tells}
use Rattle.ats_settings.specs.declared.setting.Setting.{Setting}
use Rattle.ats_settings.specs.declared.setting.Shaping.{Shaping}
use Rattle.ats_settings_law.specs.Laws.{IsNamedBetween, IsSchedulerOf, IsTrueOf}
use Rattle.ats_tree_examples.specs.Networks.{split_and_flow, split_by_class}
use Rattle.ats_tree_bound_examples.specs.SetAlike.{settings_of_both, told_of_flow}
use Rattle.ats_meaning_examples.specs.Settings.{NamesBetweenAreExact, SchedulersAreExact, SettingsAreExact}
use Rattle.ats_meaning_examples.specs.Settings.{SettingsAreMeant, TellingIsExact, member_in, shaped, told}

-- What settings tell, by computation.

-- the number of a port, if there is one
abbrev port_in : Option ℕ → ℕ
port_in None = 0
port_in (Some port) = port

not_rate : ¬ IsSchedulerOf split_by_class 0 0 (shaped 100000001 12336 100000)
not_rate is = let e : ◌≡◌ {A = ℕ} 100000001 100000000 = is.rate in absurd (omega arith)

not_burst : ¬ IsSchedulerOf split_by_class 0 0 (shaped 100000000 12335 100000)
not_burst is = let e : ◌≡◌ {A = ℕ} 12335 12336 = is.burst in absurd (omega arith)

not_residence : ¬ IsSchedulerOf split_by_class 0 0 (shaped 100000000 12336 100001)
not_residence is = let e : ◌≡◌ {A = ℕ} 100001 100000 = is.residence in absurd (omega arith)

not_of_other : ¬ IsSchedulerOf split_by_class 1 0 (shaped 100000000 12336 100000)
not_of_other is = let e : ◌≡◌ {A = ℕ} 100000000 50000000 = is.rate in absurd (omega arith)

not_behind_other : ¬ IsSchedulerOf split_by_class 0 2 (shaped 100000000 12336 100000)
not_behind_other is = let e : ◌≡◌ {A = ℕ} 100000 0 = is.residence in absurd (omega arith)

schedulers_are_exact : SchedulersAreExact
schedulers_are_exact = record {
  is = record { rate = refl; burst = refl; residence = refl };
  rate = not_rate;
  burst = not_burst;
  residence = not_residence;
  of_other = not_of_other;
  behind_other = not_behind_other;
}

-- a scheduler, where there is one
abbrev scheduler_in : Option Shaping → Shaping
scheduler_in None = shaped 0 0 0
scheduler_in (Some s) = s

true_of_stream : IsTrueOf split_by_class told
true_of_stream = record {
  exists = lit< tt;
  path = refl;
  bridge = refl;
  class = refl;
  class_there = refl;
  most = refl;
  shaped = (λ some. lit< tt, λ stream. refl);
  scheduler = λ x same. subst (IsSchedulerOf split_by_class 0 0) (ap scheduler_in same)
      (record { rate = refl; burst = refl; residence = refl });
}

true_of_flow : IsTrueOf split_and_flow told_of_flow
true_of_flow = record {
  exists = lit< tt;
  path = refl;
  bridge = refl;
  class = refl;
  class_there = refl;
  most = refl;
  shaped = (
    λ some. absurd (false≢true some),
    λ stream. (let past : 1 < 1 = stream in absurd (omega arith)),
  );
  scheduler = λ x same. absurd (none-some x same);
}

not_a_sender : ¬ IsTrueOf split_by_class (record told { sender = 2 })
not_a_sender is = let past : 2 < 2 = is.exists in absurd (omega arith)

not_other_sender : ¬ IsTrueOf split_by_class (record told { sender = 1 })
not_other_sender is =
    let e : ◌≡◌ {A = ℕ} 100000000 50000000 = (is.scheduler (shaped 100000000 12336 100000) refl).rate in
    absurd (omega arith)

not_received : ¬ IsTrueOf split_by_class (record told { received_from = 2 })
not_received is = let e : ◌≡◌ {A = ℕ} 0 2 = ap port_in is.path in absurd (omega arith)

not_sent : ¬ IsTrueOf split_by_class (record told { sent_to = 0; class_there = 6 })
not_sent is = let e : ◌≡◌ {A = ℕ} 0 1 = ap count is.path in absurd (omega arith)
  where
    count : Option ℕ → ℕ
    count None = 0
    count (Some port) = 1

not_bridge : ¬ IsTrueOf split_by_class (record told { bridge = 2 })
not_bridge is = let e : ◌≡◌ {A = ℕ} 2 3 = is.bridge in absurd (omega arith)

not_class : ¬ IsTrueOf split_by_class (record told { class = 5 })
not_class is = let e : ◌≡◌ {A = ℕ} 5 6 = is.class in absurd (omega arith)

not_class_there : ¬ IsTrueOf split_by_class (record told { class_there = 6 })
not_class_there is = let e : ◌≡◌ {A = ℕ} 6 5 = is.class_there in absurd (omega arith)

not_most : ¬ IsTrueOf split_by_class (record told { max_octets = 1523 })
not_most is = let e : ◌≡◌ {A = ℕ} 1523 1522 = is.most in absurd (omega arith)

not_told_rate : ¬ IsTrueOf split_by_class (record told { scheduler = Some (shaped 100000001 12336 100000) })
not_told_rate is =
    let e : ◌≡◌ {A = ℕ} 100000001 100000000 = (is.scheduler (shaped 100000001 12336 100000) refl).rate in
    absurd (omega arith)

not_told_burst : ¬ IsTrueOf split_by_class (record told { scheduler = Some (shaped 100000000 12335 100000) })
not_told_burst is =
    let e : ◌≡◌ {A = ℕ} 12335 12336 = (is.scheduler (shaped 100000000 12335 100000) refl).burst in
    absurd (omega arith)

not_told_residence : ¬ IsTrueOf split_by_class (record told { scheduler = Some (shaped 100000000 12336 100001) })
not_told_residence is =
    let e : ◌≡◌ {A = ℕ} 100001 100000 = (is.scheduler (shaped 100000000 12336 100001) refl).residence in
    absurd (omega arith)

not_without : ¬ IsTrueOf split_by_class (record told { scheduler = None })
not_without is = false≢true (is.shaped.1 (lit< tt))

not_of_flow : ¬ IsTrueOf split_and_flow (record told_of_flow { scheduler = Some (shaped 100000000 12336 1000000) })
not_of_flow is = let stream : 1 < 1 = is.shaped.0 refl in absurd (omega arith)

settings_are_exact : SettingsAreExact
settings_are_exact = record {
  is = true_of_stream;
  of_flow = true_of_flow;
  no_sender = not_a_sender;
  other_sender = not_other_sender;
  received_from = not_received;
  sent_to = not_sent;
  bridge = not_bridge;
  class = not_class;
  class_there = not_class_there;
  most = not_most;
  rate = not_told_rate;
  burst = not_told_burst;
  residence = not_told_residence;
  no_scheduler = not_without;
  scheduler_of_flow = not_of_flow;
}

-- the numbers of a setting's sender and ports, told by one number
abbrev between : Setting → ℕ
between s = 100 * s.sender + 10 * s.received_from + s.sent_to

-- no setting names a sender between these ports whose number is not that of one of the three
not_between : (sender before port : ℕ) → 2 ≢ 100 * sender + 10 * before + port
    → 4 ≢ 100 * sender + 10 * before + port → 152 ≢ 100 * sender + 10 * before + port
    → ¬ IsNamedBetween settings_of_both sender before port
not_between sender before port one two three is = by is.named.among
  where
    number_is : between is.named.setting ≡ 100 * sender + 10 * before + port
    number_is = omega (arith, is.named.of_sender, is.named.behind, is.sent_to)

    by : Contains settings_of_both is.named.setting → ⊥
    by (zero, within, same) = one (ap between same ∙ number_is)
    by (suc zero, within, same) = two (ap between same ∙ number_is)
    by (suc (suc zero), within, same) = three (ap between same ∙ number_is)
    by (suc (suc (suc k)), within, same) = absurd (omega arith)

between_are_exact : NamesBetweenAreExact
between_are_exact = record {
  is = record {
    named = record { setting = told_of_flow; among = (2, lit< tt, refl); of_sender = refl; behind = refl };
    sent_to = refl;
  };
  sender = not_between 2 5 2 (λ e. omega (arith, e)) (λ e. omega (arith, e)) (λ e. omega (arith, e));
  before = not_between 1 4 2 (λ e. omega (arith, e)) (λ e. omega (arith, e)) (λ e. omega (arith, e));
  port = not_between 1 5 3 (λ e. omega (arith, e)) (λ e. omega (arith, e)) (λ e. omega (arith, e));
  by_two = not_between 1 5 4 (λ e. omega (arith, e)) (λ e. omega (arith, e)) (λ e. omega (arith, e));
}

-- the numbers of a scheduler, where there is one
abbrev rate_in : Option Shaping → ℕ
rate_in None = 0
rate_in (Some s) = s.rate_bps

abbrev burst_in : Option Shaping → ℕ
burst_in None = 0
burst_in (Some s) = s.burst_bits

abbrev residence_in : Option Shaping → ℕ
residence_in None = 0
residence_in (Some s) = s.residence_ns

not_group : ¬ Tells split_by_class told (member_in 5 (declared_by split_by_class 0))
not_group tells = let e : ◌≡◌ {A = ℕ} 5 6 = tells.group in absurd (omega arith)

not_told_of_other : ¬ Tells split_by_class told (member_in 6 (declared_by split_by_class 1))
not_told_of_other tells =
    let e : ◌≡◌ {A = ℕ} 100000000 50000000 = ap rate_in tells.scheduler in
    absurd (omega arith)

not_told_received : ¬ Tells split_by_class (record told { received_from = 2 })
    (member_in 6 (declared_by split_by_class 0))
not_told_received tells = let e : ◌≡◌ {A = ℕ} 6 22 = tells.group in absurd (omega arith)

not_told_class : ¬ Tells split_by_class (record told { class = 5 }) (member_in 6 (declared_by split_by_class 0))
not_told_class tells = let e : ◌≡◌ {A = ℕ} 6 5 = tells.group in absurd (omega arith)

not_told_none : ¬ Tells split_by_class (record told { scheduler = None }) (member_in 6 (declared_by split_by_class 0))
not_told_none tells = let e : ◌≡◌ {A = ℕ} 0 100000000 = ap rate_in tells.scheduler in absurd (omega arith)

not_tells_rate : ¬ Tells split_by_class (record told { scheduler = Some (shaped 100000001 12336 100000) })
    (member_in 6 (declared_by split_by_class 0))
not_tells_rate tells =
    let e : ◌≡◌ {A = ℕ} 100000001 100000000 = ap rate_in tells.scheduler in
    absurd (omega arith)

not_tells_burst : ¬ Tells split_by_class (record told { scheduler = Some (shaped 100000000 12335 100000) })
    (member_in 6 (declared_by split_by_class 0))
not_tells_burst tells = let e : ◌≡◌ {A = ℕ} 12335 12336 = ap burst_in tells.scheduler in absurd (omega arith)

not_tells_residence : ¬ Tells split_by_class (record told { scheduler = Some (shaped 100000000 12336 100001) })
    (member_in 6 (declared_by split_by_class 0))
not_tells_residence tells =
    let e : ◌≡◌ {A = ℕ} 100001 100000 = ap residence_in tells.scheduler in
    absurd (omega arith)

telling_is_exact : TellingIsExact
telling_is_exact = record {
  tells = record { group = refl; scheduler = refl };
  group = not_group;
  of_other = not_told_of_other;
  received_from = not_told_received;
  class = not_told_class;
  no_scheduler = not_told_none;
  rate = not_tells_rate;
  burst = not_tells_burst;
  residence = not_tells_residence;
}

pub settings_are_meant : SettingsAreMeant
settings_are_meant = record {
  schedulers = schedulers_are_exact;
  settings = settings_are_exact;
  between = between_are_exact;
  telling = telling_is_exact;
}

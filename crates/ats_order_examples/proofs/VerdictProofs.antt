use Rattle.std.proofs.Common.{◌≡◌, ◌↔◌, ℕ, ◌<◌, Bool, true, false, List, [], ◌∷◌, get_or, map, refl, sym, ap, subst}
use Rattle.std.proofs.Common.{arith, lit<, lit≤}
use Rattle.std.specs.Prelude.{if◌then◌else◌}
use Rattle.std.proofs.lemmas.Bool.{false≢true}
use Rattle.ats_group.specs.Judge.{ats_judge}
use Rattle.ats_group.specs.declared.verdict.Verdict.{Verdict}
use Rattle.ats_group.specs.declared.verdict.Verdict.TheVariants.{Eligible, Late, Size}
use Rattle.ats_network.specs.Network.{DeclaredNetwork}
use Rattle.ats_trace.specs.Eligibility.{IsJudged, offer_of, residence_of_groups, scheduled_by}
use Rattle.ats_trace.specs.Journey.{Travel}
use Rattle.ats_trace.specs.Parts.{Keeps, Part, flows, groups, released}
use Rattle.ats_trace.specs.Projections.{Handed, handed_by}
use Rattle.ats_trace.specs.Stored.{no_travel}
use Rattle.ats_trace.specs.declared.journey.Ending.TheVariants.{Discard}
use Rattle.ats_examples.specs.BrokenRuns.{ended}
use Rattle.ats_examples.specs.Deviations.{BreaksAlone}
use Rattle.ats_examples.specs.Networks.{fork, line, line_and_flow}
use Rattle.ats_examples.specs.Runs.{hop}
use Rattle.ats_examples.proofs.ChangeProofs.{no_frame, only, time_in}
use Rattle.ats_examples.proofs.InOrder.{two_in_order}
use Rattle.ats_examples.proofs.PartTest.{legal_by, others_by, others_pass}
use Rattle.ats_order_examples.specs.FlowBreaks.{sent_of}
use Rattle.ats_order_examples.specs.Verdicts.{DiscardedAreTold, FlowsAreTold, VerdictsAreJudged}
use Rattle.ats_order_examples.specs.Verdicts.{VerdictsAreJudgedByClocks, VerdictsAreMeant, VerdictsAreTold, arrival_of}
use Rattle.ats_order_examples.specs.Verdicts.{flow_told, never_released, second_told, told_at, verdict_of}

-- Verdicts: of any frames by the words themselves, of worked ones by computation.

-- one of two by a test, both ways
by_test : (test : Bool) (verdict yes_told no_told : Verdict)
    → (verdict ≡ (if test then yes_told else no_told))
    ↔ ((test ≡ true → verdict ≡ yes_told) × (test ≡ false → verdict ≡ no_told))
by_test true verdict yes_told no_told =
    (λ e. (λ t. e, λ f. absurd (false≢true (sym f))), λ h. h.0 refl)
by_test false verdict yes_told no_told =
    (λ e. (λ t. absurd (false≢true t), λ f. e), λ h. h.1 refl)

judged : VerdictsAreJudged
judged = record {
  of_group = λ judge network port handed. (
    λ is. (is.arrivals, is.same, is.in_order, is.verdicts),
    λ h. record { arrivals = h.0; same = h.1; in_order = h.2; verdicts = h.3 },
  );
  of_flow = λ network h. by_test _ h.verdict (Eligible (record { 0 = h.crossing.arrival })) Size;
  own = λ release first hops. (λ h. h, λ h. h);
  own_is_told = λ release h. h;
}

by_clocks : VerdictsAreJudgedByClocks
by_clocks = record {
  of_group = λ shows told network port handed. (
    λ is. (is.arrivals, is.same, is.in_order, is.verdicts, is.times),
    λ h. record { arrivals = h.0; same = h.1; in_order = h.2; verdicts = h.3; times = h.4 },
  );
  eligible = λ shows offer told verdict. (λ h. h, λ h. h);
  late = λ shows offer told verdict. (λ h. h, λ h. h);
  size = λ shows offer verdict. (λ h. h, λ h. h);
}

pub verdicts_are_meant : VerdictsAreMeant
verdicts_are_meant = record { judged = judged; by_clocks = by_clocks }

-- a run that breaks a part, and passes the tests of all others
alone : (part : Part) (network : DeclaredNetwork) (run : List Travel) → ¬ Keeps part network run
    → others_pass part network run ≡ true → BreaksAlone part network run
alone part network run broken others = record { broken = broken; others = others_by part network run others }

-- two frames that come to a group one after the other are told what its judge says of them
two_told : (network : DeclaredNetwork) (port : ℕ) (one other : Handed) → arrival_of one < arrival_of other
    → IsJudged ats_judge network port (one ∷ other ∷ [])
    → map verdict_of (one ∷ other ∷ [])
    ≡ ats_judge (scheduled_by network port) (residence_of_groups network port) (map offer_of (one ∷ other ∷ []))
two_told network port one other before is =
    let same : is.arrivals ≡ one ∷ other ∷ [] =
    two_in_order arrival_of one other is.arrivals before is.same is.in_order in
    subst (λ (handed : List Handed). map verdict_of handed
    ≡ ats_judge (scheduled_by network port) (residence_of_groups network port) (map offer_of handed))
    same is.verdicts

-- so the second of these, as the bridge's group judges it
second_is : (run : List Travel) (one other : Handed) → handed_by fork run 0 6 ≡ one ∷ other ∷ []
    → arrival_of one < arrival_of other → Keeps groups fork run
    → get_or (map verdict_of (one ∷ other ∷ [])) 1 Size
    ≡ get_or (ats_judge (scheduled_by fork 0) (residence_of_groups fork 0) (map offer_of (one ∷ other ∷ []))) 1 Size
second_is run one other are before keeps =
    ap (λ (verdicts : List Verdict). get_or verdicts 1 Size)
    (two_told fork 0 one other before (subst (IsJudged ats_judge fork 0) are (keeps 0 6 (lit< tt) (lit≤ tt))))

abbrev told_of : List Travel → ℕ → Handed
told_of run n = get_or (handed_by fork run 0 6) n no_frame

not_before : ¬ Keeps groups fork (second_told (Late (record { 0 = 137195999 })))
not_before keeps =
    let run : List Travel = second_told (Late (record { 0 = 137195999 })) in
    let soon : ◌≡◌ {A = ℕ} 137195999 137196000 =
    ap time_in (second_is run (told_of run 0) (told_of run 1) refl (lit< tt) keeps) in
    absurd (omega arith)

not_after : ¬ Keeps groups fork (second_told (Late (record { 0 = 137196001 })))
not_after keeps =
    let run : List Travel = second_told (Late (record { 0 = 137196001 })) in
    let later : ◌≡◌ {A = ℕ} 137196001 137196000 =
    ap time_in (second_is run (told_of run 0) (told_of run 1) refl (lit< tt) keeps) in
    absurd (omega arith)

not_for_size : ¬ Keeps groups fork (second_told Size)
not_for_size keeps =
    let run : List Travel = second_told Size in
    let none : ◌≡◌ {A = ℕ} 0 137196000 =
    ap time_in (second_is run (told_of run 0) (told_of run 1) refl (lit< tt) keeps) in
    absurd (omega arith)

-- a frame that is too long, and would be late
abbrev long_as_late : List Travel
long_as_late = ended 1523 (hop 0 0 0 12344000 ∷ told_at 13844000 (Late (record { 0 = 13844000 })) ∷ []) Discard

abbrev long_there : List Handed
long_there = handed_by line long_as_late 0 6

not_long : ¬ Keeps groups line long_as_late
not_long keeps =
    let is : IsJudged ats_judge line 0 long_there = keeps 0 6 (lit< tt) (lit≤ tt) in
    let same : is.arrivals ≡ long_there = only (get_or long_there 0 no_frame) is.arrivals is.same in
    let verdicts : map verdict_of long_there
    ≡ ats_judge (scheduled_by line 0) (residence_of_groups line 0) (map offer_of long_there)
    = subst (λ (handed : List Handed). map verdict_of handed
    ≡ ats_judge (scheduled_by line 0) (residence_of_groups line 0) (map offer_of handed)) same is.verdicts in
    let late : ◌≡◌ {A = ℕ} 13844000 0 = ap (λ (vs : List Verdict). time_in (get_or vs 0 Size)) verdicts in
    absurd (omega arith)

discarded : DiscardedAreTold
discarded = record {
  late = legal_by fork (second_told (Late (record { 0 = 137196000 }))) refl;
  late_before = alone groups fork (second_told (Late (record { 0 = 137195999 }))) not_before refl;
  late_after = alone groups fork (second_told (Late (record { 0 = 137196001 }))) not_after refl;
  late_for_size = alone groups fork (second_told Size) not_for_size refl;
  size_as_late = alone groups line long_as_late not_long refl;
}

-- which of the verdicts it is
abbrev kind_of : Verdict → ℕ
kind_of (Eligible e) = 0
kind_of (Late e) = 1
kind_of Size = 2

flow_not_for_size : ¬ Keeps flows line_and_flow (flow_told Size)
flow_not_for_size keeps =
    let other : ◌≡◌ {A = ℕ} 2 0 = ap kind_of (keeps 0 (lit< tt) 0 no_frame (lit< tt)) in
    absurd (omega arith)

flow_not_late : ¬ Keeps flows line_and_flow (flow_told (Late (record { 0 = 2172000 })))
flow_not_late keeps =
    let other : ◌≡◌ {A = ℕ} 1 0 = ap kind_of (keeps 0 (lit< tt) 0 no_frame (lit< tt)) in
    absurd (omega arith)

abbrev long_of_flow : List Travel
long_of_flow = sent_of 1523 12344000 (told_at 13844000 (Late (record { 0 = 13844000 })) ∷ []) Discard

flow_not_long : ¬ Keeps flows line_and_flow long_of_flow
flow_not_long keeps =
    let other : ◌≡◌ {A = ℕ} 1 2 = ap kind_of (keeps 0 (lit< tt) 0 no_frame (lit< tt)) in
    absurd (omega arith)

not_at_station : ¬ Keeps released line_and_flow never_released
not_at_station keeps =
    let other : ◌≡◌ {A = ℕ} 2 0 = ap kind_of (keeps 0 no_travel (lit< tt)).1 in
    absurd (omega arith)

of_flows : FlowsAreTold
of_flows = record {
  for_size = alone flows line_and_flow (flow_told Size) flow_not_for_size refl;
  as_late = alone flows line_and_flow (flow_told (Late (record { 0 = 2172000 }))) flow_not_late refl;
  size_as_late = alone flows line_and_flow long_of_flow flow_not_long refl;
  never_released = alone released line_and_flow never_released not_at_station refl;
}

pub verdicts_are_told : VerdictsAreTold
verdicts_are_told = record { discarded = discarded; flows = of_flows }

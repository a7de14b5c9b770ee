use Rattle.std.proofs.Common.{◌≡◌, ℕ, zero, suc, ◌+◌, ◌*◌, ◌/◌, ◌<◌, ◌≤◌, List, [], ◌∷◌, refl, sym, subst, arith}
use Rattle.std.proofs.Common.{lit<, lit≤}
use Rattle.std.specs.Prelude.{Contains}
use Rattle.std.proofs.lemmas.List.Elements.{All-cons, All-nil}
use Rattle.ats_clock.specs.Clock.{KeepsClock, declared_clock}
use Rattle.ats_topology.specs.Port.{port_at}
use Rattle.ats_topology.specs.Topology.{node_at}
use Rattle.ats_group.specs.Judge.{bucket_rule}
use Rattle.ats_network.specs.Bridges.{IsBridgeAt}
use Rattle.ats_network.specs.Senders.{sender_at}
use Rattle.ats_clock_run_law.specs.Laws.{IsLegalInTrueTime}
use Rattle.ats_clock_run_law.proofs.TrueTime.{true_time_is_legal}
use Rattle.ats_trace.specs.Clocks.{KeepsNodeClock}
use Rattle.ats_trace.specs.Journey.{Travel}
use Rattle.ats_trace.specs.Run.{releases_of}
use Rattle.ats_trace.specs.Stored.{travel_at}
use Rattle.ats_trace.specs.Talker.{KeepsBuckets, frames_of, read_by, talker_of}
use Rattle.ats_trace.specs.Ways.{listener_count, route_to, way_to}
use Rattle.ats_clock.specs.Rates.{committed}
use Rattle.ats_clock_law.specs.Retiming.{ConformTo}
use Rattle.ats_soundness_law.specs.Runs.{ats_runs}
use Rattle.ats_soundness_law.specs.Sound.{BridgesKeepIn, IsServed, IsServedOn}
use Rattle.ats_soundness_law.specs.TrueTime.{KeepsBucketsIn}
use Rattle.ats_soundness_law.proofs.TrueTime.{certificate_is_sound}
use Rattle.ats_examples.specs.Networks.{two_links}
use Rattle.ats_examples.specs.SoundRuns.{IsCertified}
use Rattle.ats_examples.proofs.BucketTest.{conforms_by, keeps_by}
use Rattle.ats_examples.proofs.NetworkTest.{network_by}
use Rattle.ats_examples.proofs.PartTest.{legal_by}
use Rattle.ats_examples.proofs.RuleTest.{holds_by}
use Rattle.ats_examples.proofs.StationTest.{quiet_by}
use Rattle.ats_clock_examples.specs.Clocked.{IsLegalWith, clock_at}
use Rattle.ats_clock_examples.specs.TalkingBridge.{TalkerGoesByItsClock, TalkerMayNotGoByTrueTime, around_a_tick}
use Rattle.ats_clock_examples.specs.TalkingBridge.{stepping, talker_steps, talking, talking_nodes, talking_rows}
use Rattle.ats_clock_examples.specs.TalkingBridge.{within_a_tick}
use Rattle.ats_clock_examples.proofs.ClockTest.{legal_with_by}
use Rattle.ats_clock_examples.proofs.FromLegal.{keeps_with, kept_with, reads_agree}

-- A bridge that sends its own frames by its clock, by computation.

step_is : (t : ℕ) → (10000000 * (t / 10000000) ≤ t) × (t < 10000000 * (t / 10000000) + 10000000)
step_is t = (omega arith, omega arith)

stepping_keeps : KeepsClock (declared_clock 0 10000000) stepping
stepping_keeps = record {
  in_order = λ s t h. (let a = step_is s in let b = step_is t in omega (arith, a.0, a.1, b.0, b.1));
  no_slower = λ s t h. (let a = step_is s in let b = step_is t in omega (arith, a.0, a.1, b.0, b.1));
  no_faster = λ s t h. (let a = step_is s in let b = step_is t in omega (arith, a.0, a.1, b.0, b.1));
}

ideal_keeps : KeepsClock (declared_clock 0 0) (λ t. t)
ideal_keeps = record {
  in_order = λ s t h. h;
  no_slower = λ s t h. omega (arith, h);
  no_faster = λ s t h. omega (arith, h);
}

keep : (node : ℕ) → KeepsNodeClock (node_at talking.topology.nodes node).kind (clock_at talker_steps node)
keep zero = λ t. refl
keep (suc zero) = λ t. refl
keep (suc (suc zero)) = stepping_keeps
keep (suc (suc (suc zero))) = ideal_keeps
keep (suc (suc (suc (suc node)))) = λ t. refl

certified : IsCertified talking talking_rows
certified = record {
  rules = network_by talking_nodes two_links talking.streams [] refl refl;
  holds = holds_by talking talking_rows refl refl;
}

-- the times that the bridges told the frames
around : IsLegalWith talker_steps talking around_a_tick
around =
    legal_with_by talker_steps ([] ∷ [] ∷ (0 ∷ 10000000 ∷ []) ∷ (12499999 ∷ 13499999 ∷ []) ∷ []) talking around_a_tick
    keep refl

within : IsLegalWith talker_steps talking within_a_tick
within =
    legal_with_by talker_steps ([] ∷ [] ∷ (0 ∷ 0 ∷ []) ∷ (2172000 ∷ 5612000 ∷ []) ∷ []) talking within_a_tick keep refl

kept : KeepsBucketsIn talking around_a_tick around.legal 2
kept = keeps_with talker_steps talking around_a_tick 2 around
    (keeps_by talking (read_by stepping (releases_of around_a_tick)) 2 refl refl)

around_true : IsLegalInTrueTime talking around_a_tick
around_true = true_time_is_legal talking around_a_tick certified.rules (legal_by talking around_a_tick refl)

within_true : IsLegalInTrueTime talking within_a_tick
within_true = true_time_is_legal talking within_a_tick certified.rules (legal_by talking within_a_tick refl)

-- a node keeps its buckets in such a run by the releases as they are
as_released : (run : List Travel) (h : IsLegalInTrueTime talking run)
    → read_by (h.legal.clocks 2) (releases_of run) ≡ read_by (λ t. t) (releases_of run)
as_released run h = reads_agree (h.legal.clocks 2) (λ t. t) (h.true_time 2) (releases_of run)

not_true : ¬ KeepsBucketsIn talking around_a_tick around_true.legal 2
not_true keeps =
    let by_true : KeepsBuckets talking (read_by (λ t. t) (releases_of around_a_tick)) 2 =
    subst (λ rs. KeepsBuckets talking rs 2) (as_released around_a_tick around_true) keeps in
    let over : 1000000000000 * 2000 ≤ 100000000 * 1 + 1000000000000 * 1000 =
    (by_true.streams 0 (lit< tt) refl).within 0 1 (lit≤ tt) (lit< tt) in
    absurd (omega arith)

not_kept : ¬ KeepsBucketsIn talking within_a_tick within.legal 2
not_kept keeps =
    let by_clock : KeepsBuckets talking (read_by stepping (releases_of within_a_tick)) 2 =
    kept_with talker_steps talking within_a_tick 2 within keeps in
    let over : 1000000000000 * 1344 ≤ 100000000 * 0 + 1000000000000 * 1000 =
    (by_clock.streams 0 (lit< tt) refl).within 0 1 (lit≤ tt) (lit< tt) in
    absurd (omega arith)

kept_in_true_time : KeepsBucketsIn talking within_a_tick within_true.legal 2
kept_in_true_time = subst (λ rs. KeepsBuckets talking rs 2) (sym (as_released within_a_tick within_true))
    (keeps_by talking (read_by (λ t. t) (releases_of within_a_tick)) 2 refl refl)

no_less : ¬ ConformTo (committed 100000000 1999) (frames_of 0 (releases_of around_a_tick))
no_less conforms =
    let over : 1000000000000 * 2000 ≤ 100000000 * 1 + 1000000000000 * 1999 =
    conforms.within 0 1 (lit≤ tt) (lit< tt) in
    absurd (omega arith)

-- by the law of soundness: the first port leaves the talker, and at the second bridge no route begins
bridges_keep : BridgesKeepIn ats_runs talking around_a_tick around.legal (2 ∷ 4 ∷ [])
bridges_keep =
    let Keeps : ℕ → Type 0 = λ p. IsBridgeAt talking.topology (port_at talking.topology.ports p).from
    → KeepsBucketsIn talking around_a_tick around.legal (port_at talking.topology.ports p).from in
    All-cons Keeps 2 (4 ∷ []) (λ bridge. kept) (All-cons Keeps 4 []
    (λ bridge. quiet_by bucket_rule talking (read_by (around.legal.clocks 3) (releases_of around_a_tick)) 3 refl)
    (All-nil Keeps))

serve : (j : Travel) → Contains around_a_tick j → j.release.sender ≡ 0 → IsServed talking_rows (sender_at talking 0) j
serve j there is zero within =
    let Served : ℕ → Type 0 = λ (i : ℕ). KeepsBucketsIn talking around_a_tick around.legal (talker_of talking i)
    → (n : ℕ) → n < listener_count (sender_at talking i)
    → BridgesKeepIn ats_runs talking around_a_tick around.legal (route_to (sender_at talking i) n)
    → IsServedOn talking_rows (sender_at talking i) j.release (route_to (sender_at talking i) n)
    (way_to (sender_at talking i) j n) in
    subst Served is ((certificate_is_sound talking talking_rows certified.rules certified.holds).served around_a_tick
    around.legal j there (subst (λ (i : ℕ). i < 1) (sym is) (lit< tt))) kept 0 (lit< tt) bridges_keep
serve j there is (suc n) within = absurd (let one : suc n < 1 = within in omega (arith, one))

abbrev Served : Travel → Type 0
Served j = IsServed talking_rows (sender_at talking 0) j

pub talker_goes_by_its_clock : TalkerGoesByItsClock
talker_goes_by_its_clock = record {
  certified = certified;
  keeps_clock = stepping_keeps;
  legal = around;
  keeps = kept;
  in_true_time = around_true;
  not_in_true_time = not_true;
  output = refl;
  conforms = conforms_by 100000000 2000 (frames_of 0 (releases_of around_a_tick)) refl;
  no_less = no_less;
  bound = refl;
  served = All-cons Served (travel_at around_a_tick 0) (travel_at around_a_tick 1 ∷ [])
      (serve (travel_at around_a_tick 0) (0, lit< tt, refl) refl)
      (All-cons Served (travel_at around_a_tick 1) [] (serve (travel_at around_a_tick 1) (1, lit< tt, refl) refl)
      (All-nil Served));
}

pub talker_may_not_go_by_true_time : TalkerMayNotGoByTrueTime
talker_may_not_go_by_true_time = record {
  legal = within;
  not_kept = not_kept;
  in_true_time = within_true;
  kept_in_true_time = kept_in_true_time;
}

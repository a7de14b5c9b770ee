use Rattle.std.proofs.Common.{◌≡◌, ℕ, zero, suc, ◌≤◌, List, [], ◌∷◌, get_or, refl, sym, ap, subst, arith, lit<, lit≤}
use Rattle.ats_clock_law.specs.Examples.{ticking}
use Rattle.ats_clock_law.specs.TrueTime.{IsTrueEligibility, IsTrueVerdict}
use Rattle.ats_topology.specs.Topology.{node_at}
use Rattle.ats_network.specs.Network.{IsNetwork}
use Rattle.ats_group.specs.declared.verdict.Verdict.TheVariants.{Eligible}
use Rattle.ats_trace.specs.Clocks.{KeepsNodeClock}
use Rattle.ats_trace.specs.Journey.{Travel}
use Rattle.ats_trace.specs.Projections.{Handed, handed_by}
use Rattle.ats_trace.specs.Run.{IsIdeal}
use Rattle.ats_clock_run_law.specs.Laws.{IsLegalInTrueTime}
use Rattle.ats_clock_run_law.proofs.TrueTime.{true_time_is_legal}
use Rattle.ats_examples.specs.ClockedRuns.{slow}
use Rattle.ats_examples.proofs.ChangeProofs.{no_frame, time_in}
use Rattle.ats_examples.proofs.NetworkTest.{long_network_by}
use Rattle.ats_tree_examples.specs.Networks.{branch_ranged_links}
use Rattle.ats_clock_examples.specs.Clocked.{IsLegalWith, clock_at}
use Rattle.ats_clock_examples.specs.ClockedCopies.{CopiesGoByClocks, branching, branching_nodes, each_shows, held_twice}
use Rattle.ats_clock_examples.proofs.ClockTest.{legal_with_by}
use Rattle.ats_clock_examples.proofs.FromLegal.{second_judged}
use Rattle.ats_clock_examples.proofs.OvertakenProofs.{ticking_keeps}
use Rattle.ats_clock_examples.proofs.TwoClockProofs.{slow_keeps}

-- Copies where bridges have clocks, by computation.

keeps : (node : ℕ) → KeepsNodeClock (node_at branching.topology.nodes node).kind (clock_at each_shows node)
keeps zero = λ t. refl
keeps (suc zero) = λ t. refl
keeps (suc (suc zero)) = λ t. refl
keeps (suc (suc (suc zero))) = slow_keeps
keeps (suc (suc (suc (suc zero)))) = ticking_keeps
keeps (suc (suc (suc (suc (suc node))))) = λ t. refl

is_network : IsNetwork branching
is_network = long_network_by branching_nodes branch_ranged_links branching.streams [] refl refl

-- where a frame was told this time, the clock shows it when the frame is eligible, and no sooner
eligible_when : (shown : ℕ → ℕ) (arrival told eligible : ℕ)
    → IsTrueVerdict shown (record { member = 0; arrival = arrival; octets = 64 }) (Eligible (record { 0 = told }))
    (Eligible (record { 0 = eligible }))
    → IsTrueEligibility shown arrival told eligible
eligible_when shown arrival told eligible h =
    let same : eligible ≡ h.0.0 = ap time_in h.1 in subst (IsTrueEligibility shown arrival told) (sym same) h.2

-- the frames as a port hands them on
abbrev handed_on : List Travel → ℕ → List Handed
handed_on run port = handed_by branching run port 6

-- the second bridge told the copy 34360663
not_between_ticks : ¬ IsLegalWith each_shows branching (held_twice 20546000 34360663)
not_between_ticks h =
    let there : List Handed = handed_on (held_twice 20546000 34360663) 4 in
    let is : IsTrueEligibility (h.legal.clocks 4) 28344000 34360663 34360663 =
    eligible_when (h.legal.clocks 4) 28344000 34360663 34360663
    (second_judged (h.legal.clocks 4) ticking (h.legal.told 4) (h.by_clocks 4) branching 4 (get_or there 0 no_frame)
    (get_or there 1 no_frame) (lit< tt) (h.legal.groups 4 6 (lit< tt) (lit≤ tt))) in
    let shows : h.legal.clocks 4 34360663 ≡ 34360000 = h.by_clocks 4 34360663 in
    absurd (omega (arith, is.shown, shows))

-- the first one told the frame 20543945
not_sooner : ¬ IsLegalWith each_shows branching (held_twice 20545329 34368000)
not_sooner h =
    let there : List Handed = handed_on (held_twice 20545329 34368000) 0 in
    let is : IsTrueEligibility (h.legal.clocks 3) 14508000 20543945 20545329 =
    eligible_when (h.legal.clocks 3) 14508000 20543945 20545329
    (second_judged (h.legal.clocks 3) slow (h.legal.told 3) (h.by_clocks 3) branching 0 (get_or there 0 no_frame)
    (get_or there 1 no_frame) (lit< tt) (h.legal.groups 0 6 (lit< tt) (lit≤ tt))) in
    let shows : h.legal.clocks 3 20545329 ≡ 20543274 = h.by_clocks 3 20545329 in
    absurd (omega (arith, is.shown, shows))

-- and by true time it would have told it 20545329
not_ideal : ¬ IsIdeal branching (held_twice 20546000 34368000)
not_ideal ideal =
    let h : IsLegalInTrueTime branching (held_twice 20546000 34368000) =
    true_time_is_legal branching (held_twice 20546000 34368000) is_network ideal in
    let there : List Handed = handed_on (held_twice 20546000 34368000) 0 in
    let is : IsTrueEligibility (h.legal.clocks 3) 14508000 20545329 20546000 =
    eligible_when (h.legal.clocks 3) 14508000 20545329 20546000
    (second_judged (h.legal.clocks 3) (λ t. t) (h.legal.told 3) (h.true_time 3) branching 0 (get_or there 0 no_frame)
    (get_or there 1 no_frame) (lit< tt) (h.legal.groups 0 6 (lit< tt) (lit≤ tt))) in
    let shows : h.legal.clocks 3 20545329 ≡ 20545329 = h.true_time 3 20545329 in
    let soonest : 20546000 ≤ 20545329 = is.least 20545329 (lit≤ tt) (omega (arith, shows)) in
    absurd (omega arith)

pub copies_go_by_clocks : CopiesGoByClocks
copies_go_by_clocks = record {
  network = is_network;
  first_keeps = slow_keeps;
  second_keeps = ticking_keeps;
  first_scheduler = refl;
  second_scheduler = refl;
  legal = legal_with_by each_shows
      ((0 ∷ 6720000 ∷ []) ∷ [] ∷ [] ∷ (13834616 ∷ 20543945 ∷ []) ∷ (27672000 ∷ 34360663 ∷ []) ∷ []) branching
      (held_twice 20546000 34368000) keeps refl;
  not_between_ticks = not_between_ticks;
  not_sooner = not_sooner;
  not_ideal = not_ideal;
}

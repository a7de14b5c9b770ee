use Rattle.std.proofs.Common.{◌≡◌, ℕ, zero, suc, ◌+◌, ◌*◌, ◌/◌, ◌<◌, ◌≤◌, List, [], ◌∷◌, get_or, refl, sym, ap}
use Rattle.std.proofs.Common.{subst, arith, lit<, lit≤}
use Rattle.ats_clock.specs.Clock.{KeepsClock, declared_clock}
use Rattle.ats_clock_law.specs.TrueTime.{IsTrueVerdict}
use Rattle.ats_topology.specs.Topology.{node_at}
use Rattle.ats_group.specs.declared.verdict.Verdict.TheVariants.{Eligible}
use Rattle.ats_trace.specs.Clocks.{IsJudgedBy, KeepsNodeClock}
use Rattle.ats_trace.specs.Projections.{Handed, handed_by}
use Rattle.ats_examples.specs.Networks.{line_links}
use Rattle.ats_examples.proofs.ChangeProofs.{no_frame, time_in}
use Rattle.ats_examples.proofs.InOrder.{in_order}
use Rattle.ats_examples.proofs.NetworkTest.{network_by}
use Rattle.ats_clock_examples.specs.Clocked.{IsLegalWith, clock_at}
use Rattle.ats_clock_examples.specs.Needs.{staying_nodes}
use Rattle.ats_clock_examples.specs.StaysByClock.{bridge_shows}
use Rattle.ats_clock_examples.specs.WithinTicks.{TicksKeepOrder, both_come, shared_line, ticking_slowly}
use Rattle.ats_clock_examples.proofs.ClockTest.{legal_with_by}
use Rattle.ats_clock_examples.proofs.FromLegal.{all_judged}

-- Frames that come within a tick, by computation.

part_is : (t : ℕ) → (2000000 * (t / 2000000) ≤ t) × (t < 2000000 * (t / 2000000) + 2000000)
part_is t = (omega arith, omega arith)

ticking_keeps : KeepsClock (declared_clock 0 2000000) ticking_slowly
ticking_keeps = record {
  in_order = λ s t h. (let a = part_is s in let b = part_is t in omega (arith, a.0, a.1, b.0, b.1));
  no_slower = λ s t h. (let a = part_is s in let b = part_is t in omega (arith, a.0, a.1, b.0, b.1));
  no_faster = λ s t h. (let a = part_is s in let b = part_is t in omega (arith, a.0, a.1, b.0, b.1));
}

keeps : (node : ℕ)
    → KeepsNodeClock (node_at shared_line.topology.nodes node).kind (clock_at (bridge_shows ticking_slowly) node)
keeps zero = λ t. refl
keeps (suc zero) = λ t. refl
keeps (suc (suc zero)) = ticking_keeps
keeps (suc (suc (suc node))) = λ t. refl

not_shown : (shows : ℕ → ℕ) → shows 15180000 ≡ 14000000 → IsTrueVerdict shows
    (record { member = 1; arrival = 15180000; octets = 64 }) (Eligible (record { 0 = 16720000 }))
    (Eligible (record { 0 = 15180000 })) → ⊥
not_shown shows is h =
    let same : 15180000 ≡ h.0.0 = ap time_in h.1 in
    let shown : 16720000 ≤ shows 15180000 = subst (λ (t : ℕ). 16720000 ≤ shows t) (sym same) h.2.shown in
    absurd (omega (arith, is, shown))

not_first : ¬ IsLegalWith (bridge_shows ticking_slowly) shared_line (both_come 15180000 26844000 26172000)
not_first h =
    let there : List Handed = handed_by shared_line (both_come 15180000 26844000 26172000) 0 6 in
    let judges : IsJudgedBy (h.legal.clocks 2) (h.legal.told 2) shared_line 0 there =
    h.legal.groups 0 6 (lit< tt) (lit≤ tt) in
    let sorted : judges.arrivals ≡ there =
    in_order (λ (f : Handed). f.crossing.arrival) (get_or there 0 no_frame) (get_or there 1 no_frame)
    (get_or there 2 no_frame) judges.arrivals (lit< tt) (lit< tt) judges.same judges.in_order in
    not_shown (h.legal.clocks 2) (h.by_clocks 2 15180000)
    (all_judged (h.legal.clocks 2) ticking_slowly (h.legal.told 2) (h.by_clocks 2) shared_line 0 there judges
    sorted).1.1.0

pub ticks_keep_order : TicksKeepOrder
ticks_keep_order = record {
  network = network_by (staying_nodes 1000000 0 2000000) line_links shared_line.streams [] refl refl;
  keeps_clock = ticking_keeps;
  shown = refl;
  shown_again = refl;
  legal = legal_with_by (bridge_shows ticking_slowly)
      ((0 ∷ 6720000 ∷ 6720001 ∷ []) ∷ [] ∷ (12000000 ∷ 16720000 ∷ 16720000 ∷ []) ∷ []) shared_line
      (both_come 18000000 26172000 26844000) keeps refl;
  not_first = not_first;
}

use Rattle.std.proofs.Common.{◌≡◌, ℕ, zero, suc, true, List, [], ◌∷◌, get_or, refl, ap, arith, lit<, lit≤}
use Rattle.std.specs.Prelude.{None}
use Rattle.ats_clock.specs.Clock.{KeepsClock, declared_clock}
use Rattle.ats_clock_law.specs.Examples.{fast, ticking}
use Rattle.ats_clock_law.specs.TrueTime.{IsTrueVerdict}
use Rattle.ats_topology.specs.Faults.{topology_fault}
use Rattle.ats_topology.specs.Topology.{node_at}
use Rattle.ats_network.specs.Network.{IsNetwork}
use Rattle.ats_group.specs.Group.{Offer}
use Rattle.ats_group.specs.declared.verdict.Verdict.TheVariants.{Eligible, Late}
use Rattle.ats_trace.specs.Clocks.{KeepsNodeClock}
use Rattle.ats_trace.specs.Projections.{Handed, handed_by}
use Rattle.ats_examples.specs.ClockedRuns.{slow}
use Rattle.ats_examples.specs.Networks.{line_links}
use Rattle.ats_examples.proofs.ChangeProofs.{no_frame}
use Rattle.ats_examples.proofs.NetworkTest.{network_by, network_passes}
use Rattle.ats_clock_examples.specs.Clocked.{IsLegalWith, clock_at}
use Rattle.ats_clock_examples.specs.Needs.{staying, staying_nodes}
use Rattle.ats_clock_examples.specs.StaysByClock.{FastStays, SlowStays, StaysAreByClock, TickingStays}
use Rattle.ats_clock_examples.specs.StaysByClock.{bridge_shows, discarded, let_go}
use Rattle.ats_clock_examples.proofs.ClockTest.{legal_with_by}
use Rattle.ats_clock_examples.proofs.FromLegal.{second_judged}
use Rattle.ats_clock_examples.proofs.OvertakenProofs.{ticking_keeps}
use Rattle.ats_clock_examples.proofs.TwoClockProofs.{is_eligible, slow_keeps}

-- Stays by clocks, by computation.

is : (residence ppm step : ℕ) → topology_fault (staying_nodes residence ppm step) line_links ≡ None
    → network_passes (staying residence ppm step) ≡ true → IsNetwork (staying residence ppm step)
is residence ppm step =
    network_by (staying_nodes residence ppm step) line_links (staying residence ppm step).streams []

-- the bridge's clock keeps what is declared
pub keeps : (residence ppm step : ℕ) (shows : ℕ → ℕ) → KeepsClock (declared_clock ppm step) shows → (node : ℕ)
    → KeepsNodeClock (node_at (staying residence ppm step).topology.nodes node).kind
    (clock_at (bridge_shows shows) node)
keeps residence ppm step shows own zero = λ t. refl
keeps residence ppm step shows own (suc zero) = λ t. refl
keeps residence ppm step shows own (suc (suc zero)) = own
keeps residence ppm step shows own (suc (suc (suc node))) = λ t. refl

pub fast_keeps : KeepsClock (declared_clock 100 1) fast
fast_keeps = record {
  in_order = λ s t h. omega (arith, h);
  no_slower = λ s t h. omega (arith, h);
  no_faster = λ s t h. omega (arith, h);
}

-- the times that the station told the frames, and the bridge
abbrev pub told : ℕ → ℕ → List (List ℕ)
told first second = (0 ∷ 6720000 ∷ []) ∷ [] ∷ (first ∷ second ∷ []) ∷ []

-- a frame is not eligible that a group finds late, and the other way round
late_is_late : (shows : ℕ → ℕ) (offer : Offer) (told at : ℕ)
    → IsTrueVerdict shows offer (Late (record { 0 = told })) (Eligible (record { 0 = at })) → ⊥
late_is_late shows offer told at h = let wrong : ◌≡◌ {A = ℕ} 1 0 = ap is_eligible h.1 in absurd (omega arith)

eligible_is_eligible : (shows : ℕ → ℕ) (offer : Offer) (told at : ℕ)
    → IsTrueVerdict shows offer (Eligible (record { 0 = told })) (Late (record { 0 = at })) → ⊥
eligible_is_eligible shows offer told at h = let wrong : ◌≡◌ {A = ℕ} 0 1 = ap is_eligible h.1 in absurd (omega arith)

not_let_go : ¬ IsLegalWith (bridge_shows ticking) (staying 6037 0 8000) (let_go 64 20544000)
not_let_go h =
    let there : List Handed = handed_by (staying 6037 0 8000) (let_go 64 20544000) 0 6 in
    late_is_late (h.legal.clocks 2) (record { member = 0; arrival = 14508000; octets = 64 }) 20542000 20544000
    (second_judged (h.legal.clocks 2) ticking (h.legal.told 2) (h.by_clocks 2) (staying 6037 0 8000) 0
    (get_or there 0 no_frame) (get_or there 1 no_frame) (lit< tt) (h.legal.groups 0 6 (lit< tt) (lit≤ tt)))

not_late : ¬ IsLegalWith (bridge_shows slow) (staying 9997 100 1) (discarded 119 24946000)
not_late h =
    let there : List Handed = handed_by (staying 9997 100 1) (discarded 119 24946000) 0 6 in
    eligible_is_eligible (h.legal.clocks 2) (record { member = 0; arrival = 14948000; octets = 119 }) 24943505 24946000
    (second_judged (h.legal.clocks 2) slow (h.legal.told 2) (h.by_clocks 2) (staying 9997 100 1) 0
    (get_or there 0 no_frame) (get_or there 1 no_frame) (lit< tt) (h.legal.groups 0 6 (lit< tt) (lit≤ tt)))

not_let_go_fast : ¬ IsLegalWith (bridge_shows fast) (staying 6037 100 1) (let_go 64 20544658)
not_let_go_fast h =
    let there : List Handed = handed_by (staying 6037 100 1) (let_go 64 20544658) 0 6 in
    late_is_late (h.legal.clocks 2) (record { member = 0; arrival = 14508000; octets = 64 }) 20546712 20544658
    (second_judged (h.legal.clocks 2) fast (h.legal.told 2) (h.by_clocks 2) (staying 6037 100 1) 0
    (get_or there 0 no_frame) (get_or there 1 no_frame) (lit< tt) (h.legal.groups 0 6 (lit< tt) (lit≤ tt)))

by_ticking : (residence : ℕ) (node : ℕ) → KeepsNodeClock (node_at (staying residence 0 8000).topology.nodes node).kind
    (clock_at (bridge_shows ticking) node)
by_ticking residence = keeps residence 0 8000 ticking ticking_keeps

by_slow : (residence : ℕ) (node : ℕ) → KeepsNodeClock (node_at (staying residence 100 1).topology.nodes node).kind
    (clock_at (bridge_shows slow) node)
by_slow residence = keeps residence 100 1 slow slow_keeps

ticks : TickingStays
ticks = record {
  network = is 6038 0 8000 refl refl;
  shown = legal_with_by (bridge_shows ticking) (told 13832000 20542000) (staying 6038 0 8000) (let_go 64 20544000)
      (by_ticking 6038) refl;
  shorter = is 6037 0 8000 refl refl;
  late = legal_with_by (bridge_shows ticking) (told 13832000 0) (staying 6037 0 8000) (discarded 64 20544000)
      (by_ticking 6037) refl;
  not_let_go = not_let_go;
}

deviates : SlowStays
deviates = record {
  network = is 9997 100 1 refl refl;
  shown = legal_with_by (bridge_shows slow) (told 13834616 24943505) (staying 9997 100 1) (let_go 119 24946000)
      (by_slow 9997) refl;
  not_late = not_late;
  shorter = is 9996 100 1 refl refl;
  late = legal_with_by (bridge_shows slow) (told 13834616 0) (staying 9996 100 1) (discarded 119 24946000)
      (by_slow 9996) refl;
}

gains : FastStays
gains = record {
  network = is 6038 100 1 refl refl;
  shown = legal_with_by (bridge_shows fast) (told 13837383 20546712) (staying 6038 100 1) (let_go 64 20544658)
      (keeps 6038 100 1 fast fast_keeps) refl;
  shorter = is 6037 100 1 refl refl;
  late = legal_with_by (bridge_shows fast) (told 13837383 0) (staying 6037 100 1) (discarded 64 20544658)
      (keeps 6037 100 1 fast fast_keeps) refl;
  not_let_go = not_let_go_fast;
}

pub stays_are_by_clock : StaysAreByClock
stays_are_by_clock = record { ticking = ticks; slow = deviates; fast = gains }

use Rattle.std.proofs.Common.{ℕ, zero, suc, [], ◌∷◌, refl, arith}
use Rattle.ats_clock.specs.Clock.{KeepsClock, declared_clock, ideal}
use Rattle.ats_topology.specs.Topology.{node_at}
use Rattle.ats_trace.specs.Clocks.{KeepsNodeClock}
use Rattle.ats_examples.specs.ClockedRuns.{held_until, slow_line}
use Rattle.ats_examples.specs.Networks.{line}
use Rattle.ats_examples.specs.Runs.{regulated}
use Rattle.ats_examples.proofs.PartTest.{legal_by}
use Rattle.ats_clock_examples.specs.AheadRuns.{ClocksMayBeAhead, ahead, ahead_and_slow}
use Rattle.ats_clock_examples.specs.Clocked.{clock_at}
use Rattle.ats_clock_examples.specs.StaysByClock.{bridge_shows}
use Rattle.ats_clock_examples.proofs.ClockTest.{legal_with_by}

-- Runs by clocks that are ahead, by computation.

ahead_keeps : KeepsClock ideal ahead
ahead_keeps = record {
  in_order = λ s t h. omega (arith, h);
  no_slower = λ s t h. omega (arith, h);
  no_faster = λ s t h. omega (arith, h);
}

slow_keeps : KeepsClock (declared_clock 100 8000) ahead_and_slow
slow_keeps = record {
  in_order = λ s t h. omega (arith, h);
  no_slower = λ s t h. omega (arith, h);
  no_faster = λ s t h. omega (arith, h);
}

keeps : (node : ℕ) → KeepsNodeClock (node_at line.topology.nodes node).kind (clock_at (bridge_shows ahead) node)
keeps zero = λ t. refl
keeps (suc zero) = λ t. refl
keeps (suc (suc zero)) = ahead_keeps
keeps (suc (suc (suc node))) = λ t. refl

keeps_slow : (node : ℕ)
    → KeepsNodeClock (node_at slow_line.topology.nodes node).kind (clock_at (bridge_shows ahead_and_slow) node)
keeps_slow zero = λ t. refl
keeps_slow (suc zero) = λ t. refl
keeps_slow (suc (suc zero)) = slow_keeps
keeps_slow (suc (suc (suc node))) = λ t. refl

pub clocks_may_be_ahead : ClocksMayBeAhead
clocks_may_be_ahead = record {
  keeps = ahead_keeps;
  legal = legal_with_by (bridge_shows ahead)
      ((0 ∷ 0 ∷ []) ∷ [] ∷ (1000013836000 ∷ 1000137196000 ∷ []) ∷ []) line regulated keeps refl;
  in_true_time = legal_by line regulated refl;
  slow = legal_with_by (bridge_shows ahead_and_slow)
      ((0 ∷ 6720000 ∷ []) ∷ [] ∷ (1000013834616 ∷ 1000020543945 ∷ []) ∷ []) slow_line (held_until 20546000) keeps_slow
      refl;
}

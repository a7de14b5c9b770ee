use Rattle.std.proofs.Common.{◌≡◌, ℕ, ◌≤◌, [], ◌∷◌, arith, lit<}
use Rattle.ats_trace.specs.OneVerdict.{SendsOnce}
use Rattle.ats_trace.proofs.OneVerdict.{one_verdict}
use Rattle.ats_replay.specs.Laws.{CountsEachOnce}
use Rattle.ats_legal_law.specs.Once.{IsToldOnce}
use Rattle.ats_examples.specs.Networks.{fork, line}
use Rattle.ats_examples.specs.Runs.{one_frame}
use Rattle.ats_examples.proofs.LegalProofs.{examples_legal}
use Rattle.ats_examples.proofs.NetworkProofs.{line_is}
use Rattle.ats_meaning_examples.specs.Once.{OnceIsMeant}
use Rattle.ats_meaning_examples.specs.Once.{both_ways, line_over, sent_alone, thrice}

-- Frames that are sent, told of or counted twice, by computation.

not_by_bridge : ¬ SendsOnce (line_over (0 ∷ 2 ∷ 2 ∷ [])) thrice
not_by_bridge once = let twice : 2 ≤ 1 = once 2 1 in absurd (omega arith)

not_by_station : ¬ SendsOnce (line_over (0 ∷ 0 ∷ 2 ∷ [])) thrice
not_by_station once = let twice : 2 ≤ 1 = once 0 1 in absurd (omega arith)

not_crossed : ¬ IsToldOnce (line_over (0 ∷ 2 ∷ 2 ∷ [])) thrice
not_crossed once = let twice : 2 ≤ 1 = once.crossed 2 1 in absurd (omega arith)

not_handed : ¬ IsToldOnce (line_over (0 ∷ 0 ∷ 2 ∷ [])) thrice
not_handed once = let twice : 2 ≤ 1 = once.handed 0 6 1 in absurd (omega arith)

not_lost : ¬ CountsEachOnce line (sent_alone 0 ∷ [])
not_lost counts = let e : ◌≡◌ {A = ℕ} 0 1 = counts.for_each 0 0 (lit< tt) (lit< tt) in absurd (omega arith)

not_twice : ¬ CountsEachOnce line (both_ways 0 ∷ [])
not_twice counts = let e : ◌≡◌ {A = ℕ} 2 1 = counts.for_each 0 0 (lit< tt) (lit< tt) in absurd (omega arith)

not_for_each : ¬ CountsEachOnce fork (both_ways 0 ∷ sent_alone 1 ∷ [])
not_for_each counts = let e : ◌≡◌ {A = ℕ} 0 1 = counts.for_each 1 0 (lit< tt) (lit< tt) in absurd (omega arith)

not_together : ¬ CountsEachOnce line (sent_alone 7 ∷ [])
not_together counts = let e : ◌≡◌ {A = ℕ} 0 1 = counts.together in absurd (omega arith)

pub once_is_meant : OnceIsMeant
once_is_meant = record {
  sending = record {
    once = (one_verdict line one_frame line_is examples_legal.one_frame.journeys).sent;
    twice_by_bridge = not_by_bridge;
    twice_by_station = not_by_station;
  };
  telling = record { crossed_twice = not_crossed; handed_twice = not_handed };
  counting = record {
    lost = not_lost;
    counted_twice = not_twice;
    not_for_each = not_for_each;
    not_together = not_together;
  };
}

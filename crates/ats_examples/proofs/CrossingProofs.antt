use Rattle.std.proofs.Common.{ℕ, ◌+◌, ◌<◌, ◌≤◌, refl, arith, lit<}
use Rattle.ats_trace.specs.Links.{KeepsTimes}
use Rattle.ats_examples.specs.Crossings.{pair, LinkExamples}
use Rattle.ats_examples.proofs.ChangeProofs.{no_crossing}
use Rattle.ats_examples.proofs.LegalTest.{times_by}

-- it would have to arrive after the first
not_after : (class arrival : ℕ) → arrival ≤ 2172 → ¬ KeepsTimes 700 1500 (pair class arrival)
not_after class arrival early keeps =
    let after : 2172 < arrival = keeps.order 0 no_crossing (lit< tt) 1 no_crossing (lit< tt) (lit< tt) in
    absurd (omega (arith, after, early))

not_late : ¬ KeepsTimes 700 1500 (pair 6 2845)
not_late keeps =
    let late : 2845 ≤ 1344 + 1500 = (keeps.within 1 no_crossing (lit< tt)).latest in
    absurd (omega arith)

pub link_examples : LinkExamples
link_examples = record {
  behind = times_by 700 1500 (pair 6 2173) refl;
  last = times_by 700 1500 (pair 6 2844) refl;
  of_two_classes = times_by 700 1500 (pair 5 2173) refl;
  together = not_after 6 2172 (omega arith);
  overtaken = not_after 6 2044 (omega arith);
  class_overtaken = not_after 5 2171 (omega arith);
  late = not_late;
}

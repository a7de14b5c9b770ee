use Rattle.std.proofs.Common.{refl, lit<}
use Rattle.ats_trace.specs.Parts.{Keeps, way}
use Rattle.ats_trace.specs.Stored.{no_travel}
use Rattle.ats_examples.specs.Networks.{fork, line_and_flow}
use Rattle.ats_examples.proofs.PartTest.{others_by}
use Rattle.ats_order_examples.specs.Discards.{DiscardedAreNotSent, late_and_sent, long_and_sent}

-- What discarded frames break, by computation.

not_late : ¬ Keeps way fork late_and_sent
not_late keeps = (keeps 1 no_travel (lit< tt)).1

not_long : ¬ Keeps way line_and_flow long_and_sent
not_long keeps = (keeps 0 no_travel (lit< tt)).1

pub discarded_are_not_sent : DiscardedAreNotSent
discarded_are_not_sent = record {
  late = record { broken = not_late; others = others_by way fork late_and_sent refl };
  long = record { broken = not_long; others = others_by way line_and_flow long_and_sent refl };
}

use Rattle.std.proofs.Common.{refl}
use Rattle.std.specs.Fmt.{digits}
use Rattle.ats_shape.specs.Text.{frame_text, totals_text}
use Rattle.ats_text_examples.specs.Shaped.{BucketsAreOwn, ShapesAreTold}

-- A shape file by computation.

buckets_are_own : BucketsAreOwn
unfolding digits frame_text totals_text
buckets_are_own = record {
  by_bucket = refl;
  by_quotient = refl;
  verdicts = λ shape. refl;
  lrq_verdicts = λ shape. refl;
}

pub shapes_are_told : ShapesAreTold
unfolding digits frame_text totals_text
shapes_are_told = record {
  read = refl;
  written = refl;
  by_quotient = refl;
  in_turn = refl;
  returned = refl;
  tabbed = refl;
  own = buckets_are_own;
}

use Rattle.std.proofs.Common.{refl}
use Rattle.std.proofs.lemmas.Option.{slice_get-map}
use Rattle.ats_lrq.specs.Narrow.{narrowed_stream}
use Rattle.ats_own_examples.specs.Narrowed.{AllKeepOneFrame}

-- Narrowed bursts, by computation.

pub all_keep_one_frame : AllKeepOneFrame
all_keep_one_frame = record {
  each = λ network i. slice_get-map narrowed_stream network.streams i;
  of_bridge = refl;
  of_behind = refl;
  of_own = refl;
  of_local = refl;
  local_bounds = refl;
}

use Rattle.std.proofs.Common.{refl}
use Rattle.std.specs.Fmt.{digits}
use Rattle.ats_witness_text.specs.Text.{found_text, hop_line, release_line, title_line, witness_line, witness_text}
use Rattle.ats_found_examples.specs.Later.{LaterIsTold, LaterListenersAreTold}

-- Texts by computation.

pub later_is_told : LaterIsTold
unfolding digits witness_text found_text title_line hop_line release_line witness_line
later_is_told = record { second = refl; first = refl }

pub later_listeners_are_told : LaterListenersAreTold
unfolding digits witness_text found_text title_line hop_line release_line witness_line
later_listeners_are_told = record {
  third = refl;
  fourth = refl;
  beside = refl;
  in_another_order = refl;
  in_backward_order = refl;
  of_later = refl;
}

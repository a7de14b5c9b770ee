use Rattle.std.proofs.Common.{◌⊎◌, ℕ, List, ◌∷◌, length, arith, ap, inl, inr, refl}
use Rattle.std.proofs.lemmas.List.{length-append}
use Rattle.ats_io.specs.Text.{lines_of}
use Rattle.ats_shape.specs.FaultLaw.{IsFirstFault, IsWithoutResidence, line_number}
use Rattle.ats_shape.specs.declared.fault.ShapeFault.{ShapeFault}
use Rattle.ats_shape.proofs.FaultFold.{fault_is_first}
use Rattle.ats_schedule.specs.Reading.{release_after}
use Rattle.ats_reading_examples.specs.Lines.{CommentsAreAny, IsNumbered, LinesAreNumbered, LinesAreRead}
use Rattle.ats_reading_examples.specs.Lines.{ReleaseNumbersAreLong, SpacesPart, StreamNumbersAreLong}
use Rattle.ats_reading_examples.proofs.VerbProofs.{verbs_are_two}

-- Lines by computation.

comments_are_any : CommentsAreAny
unfolding release_after
comments_are_any = record {
  shape = refl;
  counted = refl;
  requests = refl;
}

stream_numbers_are_long : StreamNumbersAreLong
unfolding release_after
stream_numbers_are_long = record {
  rate_of_19 = refl;
  rate_of_22 = refl;
  rate_of_36 = refl;
  rate_of_37 = refl;
  burst_of_19 = refl;
  burst_of_22 = refl;
  burst_of_36 = refl;
  burst_of_37 = refl;
  least = refl;
  greatest = refl;
  greatest_of_19 = refl;
}

release_numbers_are_long : ReleaseNumbersAreLong
unfolding release_after
release_numbers_are_long = record {
  time_of_19 = refl;
  time_of_22 = refl;
  time_of_36 = refl;
  time_of_37 = refl;
  back = refl;
  octets_of_19 = refl;
  octets_of_22 = refl;
  octets_of_36 = refl;
  octets_of_37 = refl;
}

-- a first fault stands at one of the lines, or behind the last
within_lines : (lines : List (List ℕ)) (fault : ShapeFault)
    → IsFirstFault lines fault ⊎ IsWithoutResidence lines fault → IsNumbered lines (line_number fault)
within_lines lines fault (inl first) =
    let all = ap length first.cut in
    let parts = length-append first.before (first.line ∷ first.after) in
    (omega (arith, first.found.number), omega (arith, first.found.number, all, parts))
within_lines lines fault (inr behind) =
    let number = ap line_number behind.end in (omega (arith, number), omega (arith, number))

lines_are_numbered : LinesAreNumbered
lines_are_numbered = record {
  form = λ n. refl;
  name = λ n. refl;
  broken = λ n broken. refl;
  unknown = λ n. refl;
  back = λ n. refl;
  limit = λ n. refl;
  first = λ text fault told. within_lines (lines_of text) fault (fault_is_first text fault told);
  frame = refl;
  frame_back = refl;
  frame_form = refl;
}

spaces_part : SpacesPart
unfolding release_after
spaces_part = refl

pub lines_are_read : LinesAreRead
lines_are_read = record {
  comments = comments_are_any;
  words = spaces_part;
  numbered = lines_are_numbered;
  verbs = verbs_are_two;
  streams = stream_numbers_are_long;
  releases = release_numbers_are_long;
}

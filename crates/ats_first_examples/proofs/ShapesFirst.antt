use Rattle.std.proofs.Common.{refl}
use Rattle.ats_first_examples.specs.Shapes.{FrameLinesAreFirst, LinesEnd, OtherLinesAreFirst, ShapesAreFirst}
use Rattle.ats_first_examples.specs.Shapes.{StreamLinesAreFirst}

-- Lines of shape files by computation.

stream_lines_are_first : StreamLinesAreFirst
stream_lines_are_first = record {
  place = refl;
  form = refl;
  long = refl;
  no_name = refl;
  no_rate = refl;
  no_burst = refl;
  no_least = refl;
  no_greatest = refl;
  name = refl;
  rate = refl;
  sizes = refl;
  burst = refl;
  over = refl;
}

frame_lines_are_first : FrameLinesAreFirst
frame_lines_are_first = record {
  form = refl;
  long = refl;
  no_time = refl;
  no_name = refl;
  no_octets = refl;
  octets_below = refl;
  octets_over = refl;
  time_over = refl;
  name = refl;
  back = refl;
  together = refl;
}

other_lines_are_first : OtherLinesAreFirst
other_lines_are_first = record {
  no_line = refl;
  comments_alone = refl;
  stream_before = refl;
  frame_before = refl;
  residence_twice = refl;
  residence_long = refl;
  residence_short = refl;
  capital = refl;
  other_word = refl;
  comment_behind_space = refl;
  earlier = refl;
  earlier_form = refl;
}

lines_end : LinesEnd
lines_end = record {
  no_feed = refl;
  return_alone = refl;
  return_inside = refl;
  counted = refl;
  spaced = refl;
}

pub shapes_are_first : ShapesAreFirst
shapes_are_first = record {
  streams = stream_lines_are_first;
  frames = frame_lines_are_first;
  others = other_lines_are_first;
  ends = lines_end;
}

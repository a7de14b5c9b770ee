use Rattle.std.proofs.Common.{refl}
use Rattle.ats_fault_examples.specs.Numbers.{NumbersAreRead, NamesAreRead, FramesAreCounted, MakingIsNamed}
use Rattle.ats_fault_examples.specs.Numbers.{ReleaseLimits, ShapeLimits, NumbersAreWithin}

-- Numbers and how many there may be, by computation.

numbers_are_read : NumbersAreRead
numbers_are_read = record {
  zero = refl;
  one = refl;
  each_digit = refl;
  longest = refl;
  digit_more = refl;
  empty = refl;
  two_zeros = refl;
  leading_zero = refl;
  plus = refl;
  minus = refl;
  minus_zero = refl;
  grouped = refl;
  point = refl;
  power = refl;
  letter = refl;
  space_before = refl;
  space_behind = refl;
  below_digits = refl;
  above_digits = refl;
}

names_are_read : NamesAreRead
names_are_read = record {
  whole = refl;
  none = refl;
  stored = refl;
  name_bytes = refl;
  alone = refl;
  in_front = refl;
  in_middle = refl;
  at_end = refl;
  fronts = refl;
}

frames_are_counted : FramesAreCounted
frames_are_counted = record { shortest = refl; longest = refl }

making_is_named : MakingIsNamed
making_is_named = record {
  least_seed = refl;
  greatest_seed = refl;
  seed_over = refl;
  seed_none = refl;
  least_count = refl;
  greatest_count = refl;
  count_below = refl;
  count_over = refl;
  count_none = refl;
}

release_limits : ReleaseLimits
release_limits = record { last = refl; more = refl; wider = refl; past = refl }

shape_limits : ShapeLimits
shape_limits = record {
  last_stream = refl;
  stream_over = refl;
  stream_named = refl;
  stream_ruled = refl;
  last_frame = refl;
  frame_over = refl;
  frame_unnamed = refl;
  frame_back = refl;
}

pub numbers_are_within : NumbersAreWithin
numbers_are_within = record {
  numbers = numbers_are_read;
  names = names_are_read;
  frames = frames_are_counted;
  making = making_is_named;
  releases = release_limits;
  shapes = shape_limits;
}

use Rattle.std.proofs.Common.{refl}
use Rattle.ats_command_input.specs.Command.{lrq_with_one, lrq_with_two, with_four, with_one, with_three, with_two}
use Rattle.ats_answer_examples.specs.Words.{MixedAreNamed, OthersAreNone, TooFewAreNone, TooManyAreNone, WordsAreNone}

-- Words by computation.

too_few_are_none : TooFewAreNone
unfolding lrq_with_one lrq_with_two with_four with_one with_three with_two
too_few_are_none = record {
  no_word = refl;
  shape = refl;
  show = refl;
  bound = refl;
  explain = refl;
  settings = refl;
  check = refl;
  conform = refl;
  admit = refl;
  replay = refl;
  capture = refl;
  generate = refl;
  buffers = refl;
  lrq = refl;
  lrq_shape = refl;
  lrq_bound = refl;
  lrq_check = refl;
  record_port = refl;
  witness = refl;
  releases = refl;
  fit = refl;
}

too_many_are_none : TooManyAreNone
unfolding lrq_with_one lrq_with_two with_four with_one with_three with_two
too_many_are_none = record {
  shape = refl;
  show = refl;
  bound = refl;
  explain = refl;
  settings = refl;
  check = refl;
  conform = refl;
  admit = refl;
  replay = refl;
  replay_behind = refl;
  capture = refl;
  generate = refl;
  buffers = refl;
  peaks = refl;
  lrq_shape = refl;
  lrq_bound = refl;
  lrq_check = refl;
  record_port = refl;
  witness = refl;
  releases = refl;
  fit = refl;
}

others_are_none : OthersAreNone
unfolding lrq_with_one lrq_with_two with_four with_one with_three with_two
others_are_none = record {
  lrq_verb = refl;
  lrq_behind = refl;
  front = refl;
  longer = refl;
  order_first = refl;
  replay_order = refl;
  capture_order = refl;
  peaks_order = refl;
  record_order = refl;
  port_first = refl;
  seed = refl;
  seed_over = refl;
  greatest_seed = refl;
  count = refl;
  count_over = refl;
  greatest_count = refl;
}

mixed_are_named : MixedAreNamed
mixed_are_named = record {
  least = refl;
  empty = refl;
  leading_zero = refl;
  no_number = refl;
  space = refl;
  no_colon = refl;
  other_word = refl;
  longer = refl;
}

pub words_are_none : WordsAreNone
words_are_none = record {
  few = too_few_are_none;
  many = too_many_are_none;
  others = others_are_none;
  mixed = mixed_are_named;
}

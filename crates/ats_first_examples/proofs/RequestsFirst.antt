use Rattle.std.proofs.Common.{refl}
use Rattle.ats_first_examples.specs.Asked.{AdmitLinesAreFirst, OtherLinesAreFirst, RequestsAreFirst, RequestsHaveLimit}
use Rattle.ats_first_examples.specs.Asked.{WordsAreFirst}

-- Lines of request files by computation.

admit_lines_are_first : AdmitLinesAreFirst
admit_lines_are_first = record {
  form = refl;
  nodes = refl;
  other_node = refl;
  path = refl;
  same_node = refl;
  at_bridge = refl;
  from_bridge = refl;
  class = refl;
  class_over = refl;
  rate = refl;
  rate_of_lowest = refl;
  sizes = refl;
  burst = refl;
  over = refl;
  none = refl;
}

words_are_first : WordsAreFirst
words_are_first = record {
  long = refl;
  no_name = refl;
  class = refl;
  rate = refl;
  burst = refl;
  least = refl;
  greatest = refl;
  deadline = refl;
  most_digits = refl;
  digits = refl;
  class_digits = refl;
}

other_lines_are_first : OtherLinesAreFirst
other_lines_are_first = record {
  no_line = refl;
  none_asked = refl;
  withdraw_long = refl;
  withdraw_short = refl;
  withdraw_no_name = refl;
  capital = refl;
  other_word = refl;
  other_of_ten = refl;
  longer_word = refl;
  withdraw_of_ten = refl;
  comment_behind_space = refl;
  earlier = refl;
  counted = refl;
}

requests_have_limit : RequestsHaveLimit
requests_have_limit = record {
  last = refl;
  over = refl;
  comment = refl;
  form = refl;
  rules = refl;
}

pub requests_are_first : RequestsAreFirst
requests_are_first = record {
  admit = admit_lines_are_first;
  words = words_are_first;
  others = other_lines_are_first;
  limit = requests_have_limit;
}

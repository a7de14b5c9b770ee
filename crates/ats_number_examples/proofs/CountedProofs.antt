use Rattle.std.proofs.Common.{refl}
use Rattle.ats_number_examples.specs.Counted.{EachCounts, FlowsStay, NumbersAreCounted}

-- Counts and admissions by computation.

each_counts : EachCounts
each_counts = record {
  none_late = refl;
  two_late = refl;
  one_late = refl;
  none_over = refl;
  two_of_one = refl;
  three_of_two = refl;
}

flows_stay : FlowsStay
flows_stay = record {
  after_one = refl;
  after_two = refl;
  lowest = refl;
  withdrawn = refl;
  sum = refl;
  names = refl;
}

pub numbers_are_counted : NumbersAreCounted
numbers_are_counted = record {
  explained = each_counts;
  admitted = flows_stay;
}

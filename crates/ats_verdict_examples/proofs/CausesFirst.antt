use Rattle.std.proofs.Common.{refl}
use Rattle.ats_verdict_examples.specs.FirstCauses.{CausesAreFirst, ClausesAreFirst, FieldsAreFirst, FirstOfAClause}
use Rattle.ats_verdict_examples.specs.FirstCauses.{ReasonsAreFirst, WaitsMayBeLonger}

-- Which cause is named, by computation.

clauses_are_first : ClausesAreFirst
clauses_are_first = record {
  missing = refl;
  stray = refl;
  wrong_before_overload = refl;
  wrong_behind_overload = refl;
  wrong_behind_short = refl;
  overload = refl;
  short = refl;
  overstay = refl;
  late = refl;
  none = refl;
}

first_of_a_clause : FirstOfAClause
first_of_a_clause = record { missing = refl; stray = refl; wrong = refl; short = refl }

fields_are_first : FieldsAreFirst
fields_are_first = record {
  higher = refl;
  equal = refl;
  bursts = refl;
  lower = refl;
  least = refl;
  bound = refl;
  none = refl;
}

waits_may_be_longer : WaitsMayBeLonger
waits_may_be_longer = record { longer = refl; may_stay = refl }

reasons_are_first : ReasonsAreFirst
reasons_are_first = record {
  overload = refl;
  overstay = refl;
  late = refl;
  none = refl;
  both_classes = refl;
  staying_class = refl;
  missing_class = refl;
  lower_class = refl;
  just_more = refl;
  just_the_link = refl;
}

pub causes_are_first : CausesAreFirst
causes_are_first = record {
  clauses = clauses_are_first;
  of_a_clause = first_of_a_clause;
  fields = fields_are_first;
  waits = waits_may_be_longer;
  reasons = reasons_are_first;
}

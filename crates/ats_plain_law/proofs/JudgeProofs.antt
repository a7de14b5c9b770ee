use Rattle.std.proofs.Common.{refl}
use Rattle.ats_plain_law.specs.Judges.{CountsArePlain, GroupsArePlain, JudgesArePlain, RegulatorsArePlain}

-- How groups judge, by either regulator, and how verdicts count.

groups : GroupsArePlain
groups = record {
  all = λ declared residence offers. refl;
  none = λ declared residence state. refl;
  more = λ declared residence state offer offers. refl;
  each = λ declared residence state offer. refl;
  next = λ declared residence state offer. refl;
}

regulators : RegulatorsArePlain
regulators = record {
  all = λ declared residence offers. refl;
  none = λ declared residence state. refl;
  more = λ declared residence state offer offers. refl;
  each = λ declared residence state offer. refl;
  next = λ declared residence state offer. refl;
}

counts : CountsArePlain
counts = record {
  eligible = λ e. refl;
  no_late = λ e. refl;
  no_size = refl;
  late = λ e. refl;
  not_late = λ e. refl;
  size_is_none = refl;
  size = refl;
  not_size = λ e. refl;
  late_is_none = λ e. refl;
}

pub judges_are_plain : JudgesArePlain
judges_are_plain = record {
  groups = groups;
  regulators = regulators;
  counts = counts;
}

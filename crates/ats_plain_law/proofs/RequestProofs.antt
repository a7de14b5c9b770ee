use Rattle.std.proofs.Common.{ℕ, List, Option, Some, Result, refl, ap, ◌∙◌}
use Rattle.ats_tally.specs.declared.reason.Reason.{Reason}
use Rattle.ats_requests.specs.Admission.{first_class, lowest_of}
use Rattle.ats_plain_law.specs.Requests.{ClassesArePlain, EntriesArePlain, RequestsArePlain, RequestsGoInTurn}

-- How requests are answered, one behind the other.

turns : RequestsGoInTurn
turns = record {
  none = λ network. refl;
  more = λ network r rs. refl;
  left = λ network. refl;
  left_by = λ network r rs. refl;
  withdrawn = λ network name. refl;
  admitted = λ network s. refl;
}

entries : EntriesArePlain
entries = record {
  entry = λ network s. refl;
  fault = λ network s. refl;
  reason = λ network s. refl;
  sum = λ network s. refl;
  first_class = λ s. refl;
  unknown = λ network name. refl;
}

classes : ClassesArePlain
classes = record {
  reason = λ network s class. refl;
  none = λ network s. refl;
  taken = λ network s class classes is.
      ap (λ (o : Option Reason). first_class class o (lowest_of network s classes)) is;
  passed = λ network s class other classes why is found.
      ap (λ (o : Option Reason). first_class class o (lowest_of network s classes)) is
      ∙ ap (λ (r : Result ℕ (List Reason)). first_class class (Some why) r) found;
  denied = λ network s class classes why reasons is found.
      ap (λ (o : Option Reason). first_class class o (lowest_of network s classes)) is
      ∙ ap (λ (r : Result ℕ (List Reason)). first_class class (Some why) r) found;
}

pub requests_are_plain : RequestsArePlain
requests_are_plain = record {
  turns = turns;
  entries = entries;
  classes = classes;
}

use Rattle.std.proofs.Common.{refl}
use Rattle.ats_plain_file_law.specs.Reports.{ReportsAreTold}

-- What is printed for a shape.
pub reports_are_told : ReportsAreTold
reports_are_told = record {
  none = refl;
  no_verdict = λ streams n frame frames. refl;
  by_quotients = λ shape. refl;
}

use Rattle.std.proofs.Common.{refl}
use Rattle.ats_plain_text_law.specs.Admits.{AdmitIsWritten, AnswersAreWritten}

-- What `admit` answers.

answers : AnswersAreWritten
answers = record {
  taken = λ t name. refl;
  unknown = λ t name. refl;
  limit = λ t name. refl;
}

pub admit_is_written : AdmitIsWritten
admit_is_written = record {
  refusals = answers;
  all = λ network requests. refl;
}

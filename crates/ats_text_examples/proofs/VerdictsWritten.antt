use Rattle.std.proofs.Common.{refl}
use Rattle.std.specs.Fmt.{digits}
use Rattle.ats_admission_text.specs.Text.{given_text, reason_end}
use Rattle.ats_text_examples.specs.Verdicts.{AnswersAreWritten, AnswersThenStreams, VerdictsAreWritten}

-- Verdicts and answers by computation.

pub verdicts_are_written : VerdictsAreWritten
unfolding digits
verdicts_are_written = record {
  missing = refl;
  stray = refl;
  higher = refl;
  equal = refl;
  bursts = refl;
  lower = refl;
  least = refl;
  bound = refl;
  wait = refl;
  of_network = refl;
  overloaded = refl;
  residence = refl;
  deadline = refl;
  refused = refl;
  size = refl;
  bucket = refl;
  conforms = refl;
}

answers_then_streams : AnswersThenStreams
answers_then_streams network requests = refl

pub answers_are_written : AnswersAreWritten
unfolding digits given_text reason_end
answers_are_written = record { each = refl; joined = answers_then_streams; streams = refl }

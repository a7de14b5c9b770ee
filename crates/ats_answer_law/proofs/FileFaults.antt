use Rattle.std.proofs.Common.{refl}
use Rattle.ats_answer_law.proofs.Either.{either}
use Rattle.ats_answer_law.specs.FileFaults.{FileFaultsAreMeant, FirstFilesAreMeant, KindsOfFaultsAreMeant}
use Rattle.ats_answer_law.specs.FileFaults.{LaterFaultsAreMeant, SecondFilesAreMeant}

-- Which file of each command fails, both ways: each part is written out, and there are no others.

kinds_of_faults_are_meant : KindsOfFaultsAreMeant
kinds_of_faults_are_meant = record {
  shape = λ file bytes text. (
    λ is. either (λ is. (is.long, is.written)) (λ is. (is.0, is.1.few, is.1.first, is.1.written)) is,
    λ is. either (λ is. record { long = is.0; written = is.1 })
        (λ is. (is.0, record { few = is.1; first = is.2; written = is.3 })) is,
  );
  network = λ net bytes text. (
    λ is. either (λ is. (is.long, is.written)) (λ is. (is.0, is.1.few, is.1.first, is.1.written)) is,
    λ is. either (λ is. record { long = is.0; written = is.1 })
        (λ is. (is.0, record { few = is.1; first = is.2; written = is.3 })) is,
  );
  rows = λ file bytes text topology. (
    λ is. either (λ is. (is.long, is.written)) (λ is. (is.0, is.1.few, is.1.first, is.1.written)) is,
    λ is. either (λ is. record { long = is.0; written = is.1 })
        (λ is. (is.0, record { few = is.1; first = is.2; written = is.3 })) is,
  );
  releases = λ file bytes text over. (
    λ is. either (λ is. (is.long, is.written)) (λ is. (is.0, is.1.few, is.1.first, is.1.written)) is,
    λ is. either (λ is. record { long = is.0; written = is.1 })
        (λ is. (is.0, record { few = is.1; first = is.2; written = is.3 })) is,
  );
  requests = λ file bytes text over. (
    λ is. either (λ is. (is.long, is.written)) (λ is. (is.0, is.1.few, is.1.first, is.1.written)) is,
    λ is. either (λ is. record { long = is.0; written = is.1 })
        (λ is. (is.0, record { few = is.1; first = is.2; written = is.3 })) is,
  );
}

later_faults_are_meant : LaterFaultsAreMeant
later_faults_are_meant = record {
  line = λ file words. refl;
  traffic = λ station file bytes text over. (
    λ is. (
      is.0,
      is.1,
      either (λ is. (is.0, is.1.first, is.1.written))
          (λ is. (is.0, is.1, is.2.read, is.2.first, is.2.written)) is.2,
    ),
    λ is. (
      is.0,
      is.1,
      either (λ is. (is.0, record { first = is.1; written = is.2 }))
          (λ is. (is.0, is.1, record { read = is.2; first = is.3; written = is.4 })) is.2,
    ),
  );
  of_port = λ port schedule bytes text over. (λ is. is, λ is. is);
  of_three = λ certificate schedule rows_bytes bytes text declared. (λ is. is, λ is. is);
}

first_files_are_meant : FirstFilesAreMeant
first_files_are_meant = record {
  shape = λ told file text. (λ is. is, λ is. is);
  lrq_shape = λ told file text. (λ is. is, λ is. is);
  show = λ told net text. (λ is. is, λ is. is);
  bound = λ told net text. (λ is. is, λ is. is);
  explain = λ told net text. (λ is. is, λ is. is);
  generate = λ told net seed count text. (λ is. is, λ is. is);
  settings = λ told net text. (λ is. is, λ is. is);
  lrq_bound = λ told net text. (λ is. is, λ is. is);
  witness = λ told net name text. (λ is. is, λ is. is);
  no_command = λ told text is. is;
}

second_files_are_meant : SecondFilesAreMeant
second_files_are_meant = record {
  check = λ told net certificate text. (λ is. is, λ is. is);
  lrq_check = λ told net certificate text. (λ is. is, λ is. is);
  buffers = λ told net certificate text. (λ is. is, λ is. is);
  conform = λ told net schedule text. (λ is. is, λ is. is);
  fit = λ told net schedule text. (λ is. is, λ is. is);
  replay = λ told net schedule order text. (λ is. is, λ is. is);
  port_record = λ told net schedule port order text. (λ is. is, λ is. is);
  admit = λ told net requests text. (λ is. is, λ is. is);
  capture = λ told net station file order text. (λ is. is, λ is. is);
  releases = λ told net station file text. (λ is. is, λ is. is);
  peaks = λ told net certificate schedule order text. (λ is. is, λ is. is);
}

pub file_faults_are_meant : FileFaultsAreMeant
file_faults_are_meant = record {
  kinds_of_faults = kinds_of_faults_are_meant;
  later_faults = later_faults_are_meant;
  first_files = first_files_are_meant;
  second_files = second_files_are_meant;
}

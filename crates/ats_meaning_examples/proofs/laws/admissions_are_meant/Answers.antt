use Rattle.ats_meaning_examples.proofs.AdmissionParts.{admissions_are_meant}
use Rattle.ats_meaning_examples.proofs.laws.admissions_are_meant.Goals as goal

pub returns : goal.returns
returns c = admissions_are_meant

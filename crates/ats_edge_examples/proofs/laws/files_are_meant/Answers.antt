use Rattle.ats_edge_examples.proofs.FilesMeant.{files_are_meant}
use Rattle.ats_edge_examples.proofs.laws.files_are_meant.Goals as goal

pub returns : goal.returns
returns c = files_are_meant

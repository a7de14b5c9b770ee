use Rattle.ats_file_examples.proofs.FormCounted.{form_is_counted}
use Rattle.ats_file_examples.proofs.laws.form_is_counted.Goals as goal

pub returns : goal.returns
returns c = form_is_counted

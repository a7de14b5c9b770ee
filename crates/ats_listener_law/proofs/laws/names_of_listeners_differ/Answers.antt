use Rattle.ats_listener_law.proofs.Names.{names_of_listeners_differ}
use Rattle.ats_listener_law.proofs.laws.names_of_listeners_differ.Goals as goal

pub returns : goal.returns
returns c = names_of_listeners_differ

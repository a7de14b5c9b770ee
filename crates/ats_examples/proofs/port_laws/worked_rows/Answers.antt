use Rattle.ats_examples.proofs.PortProofs.{behind_flow, at_once, in_turn, in_classes}
use Rattle.ats_examples.proofs.port_laws.worked_rows.Goals as goal

pub returns : goal.returns
returns c = record { behind_flow = behind_flow; at_once = at_once; in_turn = in_turn; in_classes = in_classes }

use Rattle.ats_legal_law.proofs.InTurn.{legal_in_turn}
use Rattle.ats_legal_law.proofs.Kept.{kept_in_turn}
use Rattle.ats_legal_law.proofs.OnceOver.{once_over}
use Rattle.ats_legal_law.proofs.laws.runs_go_in_turn.Goals as goal

pub returns : goal.returns
returns c = record { legal = legal_in_turn; kept = kept_in_turn; once_over = once_over }

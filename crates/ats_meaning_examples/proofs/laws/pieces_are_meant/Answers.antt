use Rattle.ats_meaning_examples.proofs.PiecesMeant.{pieces_are_meant}
use Rattle.ats_meaning_examples.proofs.laws.pieces_are_meant.Goals as goal

pub returns : goal.returns
returns c = pieces_are_meant

use Rattle.ats_verdict_text.proofs.refusals.write_refusal.Goals as goal

pub returns-in-RowMissing : goal.returns-in-RowMissing
returns-in-RowMissing c = rw c.in-RowMissing.is c.write_place.ensures

use Rattle.ats_serials.proofs.Rising.{unsearched}
use Rattle.ats_serials.proofs.serials.place_in.Goals as goal

pub returns-in-Err-clause-place : goal.returns-in-Err-clause-place
returns-in-Err-clause-place c n within stands =
    absurd (unsearched c.args.serials.now c.args.serial c.in-Err.field-0 n c.requires.rising c.in-Err.ensures.position
    within stands)

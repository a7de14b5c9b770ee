use Rattle.ats_tally.proofs.Network.{all_within}
use Rattle.ats_checker.proofs.Judged.{higher_below}
use Rattle.ats_checker.proofs.rows.short.Goals as goal

pub least_wait-least-requires-clause-higher : goal.least_wait-least-requires-clause-higher
least_wait-least-requires-clause-higher c = higher_below c.args.tallies.now c.args.row.now c.network.ensures.rules
    c.requires.used c.requires.right c.requires.fits

pub least_wait-least-requires-clause-tally : goal.least_wait-least-requires-clause-tally
least_wait-least-requires-clause-tally c =
    all_within c.args.tallies.now c.args.row.now.port c.args.row.now.class c.tally-tally.result c.network.ensures.rules
    c.requires.form.class_least c.tally-tally.ensures

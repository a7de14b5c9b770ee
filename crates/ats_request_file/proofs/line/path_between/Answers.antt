use Rattle.ats_request_file.proofs.LeastWalks.{answer_valid}
use Rattle.ats_request_file.proofs.line.path_between.Goals as goal

pub returns-clause-valid : goal.returns-clause-valid
returns-clause-valid c =
    answer_valid c.args.topology.now c.args.from c.args.to c.shortest_kept.result c.shortest_kept.ensures.rules
    c.requires.from c.requires.to c.if-from-to.false c.shortest_kept.ensures.value

use Rattle.std.proofs.Common.{sym, ◌∙◌}
use Rattle.ats_network_file.proofs.StepLemmas.{step_read, step_is}
use Rattle.ats_network_file.proofs.kept_steps.KeptSteps.kept_at.Goals as goal

pub goes_to-requires : goal.goes_to-requires
goes_to-requires c = step_read c.args.topology.now c.args.self.now c.args.place c.index.result.now c.in_ok-port.port
    c.requires.kept c.requires.place c.index.ensures c.in_ok-port.was

pub returns-then-goes_to : goal.returns-then-goes_to
returns-then-goes_to c =
    step_is c.args.topology.now c.in_ok-port.port c.args.from c.args.name.now c.ports-ports.ensures.rules.names
    c.ports-ports.ensures.kept
    (step_read c.args.topology.now c.args.self.now c.args.place c.index.result.now c.in_ok-port.port c.requires.kept
    c.requires.place c.index.ensures c.in_ok-port.was)
    (sym c.goes_to.ensures ∙ c.if-goes_to.true)

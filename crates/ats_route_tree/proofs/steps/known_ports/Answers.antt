use Rattle.std.proofs.Common.{sym, ◌∙◌, arith}
use Rattle.ats_route_tree.proofs.Counts.{known_is, none_is}
use Rattle.ats_route_tree.proofs.steps.known_ports.Goals as goal

pub returns-then-comes_to-clause-value : goal.returns-then-comes_to-clause-value
returns-then-comes_to-clause-value c =
    known_is c.args.ports.now c.args.numbers.now c.args.route.now c.loop-count.count c.loop-count-test.true
    c.loop-count.invariant.within (sym c.comes_to.ensures ∙ c.if-comes_to.true) c.loop-count.invariant.out

pub returns-clause-value : goal.returns-clause-value
returns-clause-value c =
    none_is c.args.ports.now c.args.numbers.now c.args.route.now c.loop-count.count
    (omega (arith, c.loop-count-test.false)) c.loop-count.invariant.out

use Rattle.std.proofs.Common.{arith}
use Rattle.ats_streams.proofs.BranchLemmas.{spans_end, spans_here}
use Rattle.ats_route_tree.proofs.Counts.{span_length}
use Rattle.ats_route_tree.proofs.steps.ports_in.Goals as goal

pub overflow_sub-result : goal.overflow_sub-result
overflow_sub-result c = (spans_end c.args.numbers.now c.args.branches.now c.args.leg _ c.requires.are
    c.if-leg-branches.true c.first_place-first.ensures).ordered

pub returns-then-leg-branches : goal.returns-then-leg-branches
returns-then-leg-branches c = span_length c.args.numbers.now c.args.branches.now c.args.leg _ _
    (spans_end c.args.numbers.now c.args.branches.now c.args.leg _ c.requires.are c.if-leg-branches.true
    c.first_place-first.ensures)

pub overflow_sub-result-2 : goal.overflow_sub-result-2
overflow_sub-result-2 c = (spans_here c.args.numbers.now c.args.branches.now c.args.leg _ c.requires.are
    (omega (arith, c.requires.leg, c.if-leg-branches.false)) c.first_place-first.ensures).ordered

pub returns : goal.returns
returns c = span_length c.args.numbers.now c.args.branches.now c.args.leg _ _
    (spans_here c.args.numbers.now c.args.branches.now c.args.leg _ c.requires.are
    (omega (arith, c.requires.leg, c.if-leg-branches.false)) c.first_place-first.ensures)

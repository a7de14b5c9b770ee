use Rattle.std.proofs.Common.{arith}
use Rattle.ats_streams.proofs.BranchLemmas.{spans_here, spans_end}
use Rattle.ats_admission_state.proofs.routes.span_of.Goals as goal

pub returns-then-leg-branches-clause-ordered : goal.returns-then-leg-branches-clause-ordered
returns-then-leg-branches-clause-ordered c = (spans_end c.args.places.now c.args.branches.now c.args.leg _
    c.requires.branches c.if-leg-branches.true c.first_place-first.ensures).ordered

pub returns-then-leg-branches-clause-leg : goal.returns-then-leg-branches-clause-leg
returns-then-leg-branches-clause-leg c = (spans_end c.args.places.now c.args.branches.now c.args.leg _
    c.requires.branches c.if-leg-branches.true c.first_place-first.ensures).leg_is

pub returns-clause-ordered : goal.returns-clause-ordered
returns-clause-ordered c = (spans_here c.args.places.now c.args.branches.now c.args.leg _ c.requires.branches
    (omega (arith, c.requires.leg, c.if-leg-branches.false)) c.first_place-first.ensures).ordered

pub returns-clause-within : goal.returns-clause-within
returns-clause-within c = (spans_here c.args.places.now c.args.branches.now c.args.leg _ c.requires.branches
    (omega (arith, c.requires.leg, c.if-leg-branches.false)) c.first_place-first.ensures).within

pub returns-clause-leg : goal.returns-clause-leg
returns-clause-leg c = (spans_here c.args.places.now c.args.branches.now c.args.leg _ c.requires.branches
    (omega (arith, c.requires.leg, c.if-leg-branches.false)) c.first_place-first.ensures).leg_is

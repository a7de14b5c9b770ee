use Rattle.std.proofs.Common.{◌≡◌, ◌+◌, ◌-◌, ◌/◌, ◌<◌, ◌≤◌, ℕ, List, arith, slice_index_or, subst, sym}
use Rattle.ats_streams.specs.Branches.{no_branch}
use Rattle.ats_streams.specs.declared.branch.Branch.{Branch}
use Rattle.ats_engine_steps.proofs.LegLemmas.{first_is}
use Rattle.ats_engine_steps.proofs.legs.leg_of_place.Goals as goal

pub loop-behind-init : goal.loop-behind-init
loop-behind-init c = (
  omega (arith, c.legs-behind.ensures.value),
  omega (arith, c.legs-behind.ensures.value),
  omega arith,
  λ h. absurd (omega (arith, h, c.legs-behind.ensures.value)),
)

pub overflow_sub-behind : goal.overflow_sub-behind
overflow_sub-behind c = omega (arith, c.loop-behind.invariant.0)

pub branch-stream-requires : goal.branch-stream-requires
branch-stream-requires c = (
  omega (arith, c.loop-behind-test.true),
  omega (arith, c.loop-behind-test.true, c.loop-behind.invariant.0, c.loop-behind.invariant.1),
)

pub loop-behind-smaller-then-branch-place : goal.loop-behind-smaller-then-branch-place
loop-behind-smaller-then-branch-place c = omega (arith, c.loop-behind-test.true)

pub loop-behind-preserved-then-branch-place : goal.loop-behind-preserved-then-branch-place
loop-behind-preserved-then-branch-place c =
    let bs : List Branch = c.args.stream.now.branches in
    let middle : ℕ = c.loop-behind.leg + (c.loop-behind.behind - c.loop-behind.leg) / 2 in
    let some : 1 ≤ middle = omega (arith, c.loop-behind-test.true) in (
      omega (arith, c.loop-behind-test.true, c.loop-behind.invariant.0),
      c.loop-behind.invariant.1,
      subst (λ (n : ℕ). n ≤ c.args.place) (sym (first_is 0 bs middle some))
          (subst (λ (b : Branch). b.first ≤ c.args.place) c.branch-stream.ensures.value
          (omega (arith, c.if-branch-place.true))),
      c.loop-behind.invariant.3,
    )

pub loop-behind-smaller : goal.loop-behind-smaller
loop-behind-smaller c = omega (arith, c.loop-behind-test.true, c.loop-behind.invariant.0)

pub loop-behind-preserved : goal.loop-behind-preserved
loop-behind-preserved c = (
  omega (arith, c.loop-behind-test.true),
  omega (arith, c.loop-behind-test.true, c.loop-behind.invariant.0, c.loop-behind.invariant.1),
  c.loop-behind.invariant.2,
  λ h. subst (λ (b : Branch). c.args.place < b.first) c.branch-stream.ensures.value
      (omega (arith, c.if-branch-place.false)),
)

pub returns-clause-leg : goal.returns-clause-leg
returns-clause-leg c = omega (arith, c.loop-behind.invariant.0, c.loop-behind.invariant.1)

pub returns-clause-from : goal.returns-clause-from
returns-clause-from c = c.loop-behind.invariant.2

pub returns-clause-below : goal.returns-clause-below
returns-clause-below c = λ h.
    (let last : c.loop-behind.behind - 1 ≡ c.loop-behind.leg =
    omega (arith, c.loop-behind-test.false, c.loop-behind.invariant.0) in
    subst (λ (n : ℕ). c.args.place < (slice_index_or c.args.stream.now.branches n no_branch).first) last
    (c.loop-behind.invariant.3 (omega (arith, h, c.loop-behind-test.false, c.loop-behind.invariant.0))))

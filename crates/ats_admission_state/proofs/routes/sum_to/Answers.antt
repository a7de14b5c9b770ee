use Rattle.std.proofs.Common.{◌≡◌, ℕ, ◌+◌, ◌-◌, ◌*◌, ◌^◌, List, length, take, get_or, sum_by, refl, sym, ap, subst}
use Rattle.std.proofs.Common.{◌∙◌, ◌≤◌, arith}
use Rattle.std.proofs.lemmas.List.{take_all}
use Rattle.std.proofs.lemmas.List.Elements.{All-take}
use Rattle.ats_streams.specs.Branches.{leg_at, legs_of, no_branch}
use Rattle.ats_streams.specs.declared.branch.Branch.{Branch}
use Rattle.ats_streams.proofs.BranchLemmas.{leg_falls}
use Rattle.ats_streams.proofs.WalkedRoutes.{front_next, front_whole}
use Rattle.ats_tally.proofs.Along.{IsSummed, along_all, few_first, few_next, sum_small, summed_first, summed_next}
use Rattle.ats_admission_state.specs.Routes.{IsBounded, bound_of}
use Rattle.ats_admission_state.proofs.Ways.{leg_holds}
use Rattle.ats_admission_state.proofs.routes.sum_to.Goals.{After-leg_of-before, After-sum_at-sum-in-loop-at}
use Rattle.ats_admission_state.proofs.routes.sum_to.Goals as goal

pub sum_at-sum-requires-clause-few : goal.sum_at-sum-requires-clause-few
sum_at-sum-requires-clause-few c =
    few_first (bound_of c.args.bounds.now) c.args.places.now c.args.branches.now c.args.leg c.requires.branches
    c.requires.paths c.requires.leg c.leg_of.result.now c.leg_of.ensures

pub sum_at-sum-requires-clause-bounded : goal.sum_at-sum-requires-clause-bounded
sum_at-sum-requires-clause-bounded c =
    leg_holds (IsBounded c.args.bounds.now) c.args.places.now c.args.branches.now c.args.leg c.leg_of.result.now
    c.requires.bounded c.leg_of.ensures

pub loop-at-init : goal.loop-at-init
loop-at-init c =
    let amount : ℕ → ℕ = bound_of c.args.bounds.now in
    let own : List ℕ = c.leg_of.result.now in
    let leg : List ℕ = leg_at (legs_of c.args.places.now c.args.branches.now) c.args.leg in
    let all : take (length own) leg ≡ leg =
    take_all (length own) leg (omega (arith, ap (λ (l : List ℕ). length l) c.leg_of.ensures)) in
    summed_first amount c.args.places.now c.args.branches.now c.args.leg c.requires.branches c.requires.paths
    c.requires.leg own (length own) c.sum_at-sum.result c.leg_of.ensures refl
    (c.sum_at-sum.ensures.value ∙ ap (sum_by amount) (c.leg_of.ensures ∙ sym all)) c.sum_at-sum.ensures.most

pub leg_of-before-requires-clause-leg : goal.leg_of-before-requires-clause-leg
leg_of-before-requires-clause-leg c =
    (front_next c.args.places.now c.args.branches.now c.args.leg c.loop-at.at c.loop-at.invariant.rest _
    c.requires.branches refl c.loop-at.invariant.behind c.loop-at-test.true).within

-- the leg where this one begins has as many places
whole : (c : After-leg_of-before) → (get_or c.args.branches.now (c.loop-at.at - 1) no_branch).hop
    ≡ length (take (get_or c.args.branches.now (c.loop-at.at - 1) no_branch).hop c.leg_of-before.result.now)
whole c =
    front_whole c.args.places.now c.args.branches.now c.loop-at.at c.leg_of-before.result.now c.requires.branches
    c.leg_of-before.ensures c.loop-at.invariant.behind.within c.loop-at-test.true

pub slice_bounds-sum_at-end : goal.slice_bounds-sum_at-end
slice_bounds-sum_at-end c = whole (goal.at.slice_bounds-sum_at-end c).After-leg_of-before

pub sum_at-sum-requires-in-loop-at-clause-few : goal.sum_at-sum-requires-in-loop-at-clause-few
sum_at-sum-requires-in-loop-at-clause-few c =
    let few = few_next (bound_of c.args.bounds.now) c.args.places.now c.args.branches.now c.args.leg
    c.requires.branches c.requires.paths c.requires.leg c.loop-at.at c.loop-at.sum c.loop-at.invariant
    c.loop-at-test.true in
    omega (arith, few, whole (goal.at.sum_at-sum-requires-in-loop-at-clause-few c).After-leg_of-before)

pub sum_at-sum-requires-in-loop-at-clause-bounded : goal.sum_at-sum-requires-in-loop-at-clause-bounded
sum_at-sum-requires-in-loop-at-clause-bounded c =
    let b : Branch = get_or c.args.branches.now (c.loop-at.at - 1) no_branch in
    All-take (IsBounded c.args.bounds.now) b.hop c.leg_of-before.result.now
    (leg_holds (IsBounded c.args.bounds.now) c.args.places.now c.args.branches.now b.leg c.leg_of-before.result.now
    c.requires.bounded c.leg_of-before.ensures)

-- the sum goes on at the leg where this one begins
next : (c : After-sum_at-sum-in-loop-at) → IsSummed (bound_of c.args.bounds.now) c.args.places.now c.args.branches.now
    c.args.leg (get_or c.args.branches.now (c.loop-at.at - 1) no_branch).leg
    (c.loop-at.sum + c.sum_at-sum-in-loop-at.result)
next c =
    let amount : ℕ → ℕ = bound_of c.args.bounds.now in
    let b : Branch = get_or c.args.branches.now (c.loop-at.at - 1) no_branch in
    let more : ℕ = c.sum_at-sum-in-loop-at.result in
    let long = front_whole c.args.places.now c.args.branches.now c.loop-at.at c.leg_of-before.result.now
    c.requires.branches c.leg_of-before.ensures c.loop-at.invariant.behind.within c.loop-at-test.true in
    summed_next amount c.args.places.now c.args.branches.now c.args.leg c.requires.branches c.requires.paths
    c.requires.leg c.loop-at.at c.loop-at.sum more c.loop-at.invariant c.loop-at-test.true
    (c.sum_at-sum-in-loop-at.ensures.value
    ∙ ap (λ (before : List ℕ). sum_by amount (take b.hop before)) c.leg_of-before.ensures)
    (subst (λ (n : ℕ). more ≤ n * 10 ^ 36) (sym long) c.sum_at-sum-in-loop-at.ensures.most)

pub overflow_add-sum : goal.overflow_add-sum
overflow_add-sum c =
    let small = sum_small (bound_of c.args.bounds.now) c.args.places.now c.args.branches.now c.args.leg
    c.requires.branches c.requires.paths c.requires.leg
    (get_or c.args.branches.now (c.loop-at.at - 1) no_branch).leg (c.loop-at.sum + c.sum_at-sum-in-loop-at.result)
    (next c) in
    omega (arith, small)

pub loop-at-smaller : goal.loop-at-smaller
loop-at-smaller c = leg_falls c.args.places.now c.args.branches.now c.loop-at.at c.requires.branches
    c.loop-at.invariant.behind.within c.loop-at-test.true

pub loop-at-preserved : goal.loop-at-preserved
loop-at-preserved c = next c

pub returns : goal.returns
returns c = along_all (bound_of c.args.bounds.now) c.args.places.now c.args.branches.now c.args.leg c.loop-at.at
    c.loop-at.sum c.loop-at.invariant (omega (arith, c.loop-at-test.false))

use Rattle.std.proofs.Common.{◌≤◌, ℕ, ◌-◌, List, length, get_or, refl, sym, subst, arith}
use Rattle.ats_streams.specs.Branches.{leg_at, legs_of, no_branch}
use Rattle.ats_streams.specs.Path.{IsPath}
use Rattle.ats_streams.specs.declared.path.TheConstants.{MAX_PORTS}
use Rattle.ats_streams.proofs.BranchLemmas.{leg_falls}
use Rattle.ats_streams.proofs.WalkedRoutes.{IsBehind, behind_all, behind_first, behind_fits, front_fits, front_next}
use Rattle.ats_streams.proofs.WalkedRoutes.{front_whole, route_path}
use Rattle.ats_streams.proofs.route.route_of.Goals as goal

pub of-route-requires : goal.of-route-requires
of-route-requires c =
    let own : List ℕ = leg_at (legs_of c.args.ports.now c.args.branches.now) c.args.leg in
    subst (λ (l : List ℕ). length l ≤ MAX_PORTS) (sym c.leg_of.ensures)
    (behind_fits c.args.ports.now c.args.branches.now c.args.leg c.args.leg own c.requires.routes c.requires.leg
    (behind_first c.args.ports.now c.args.branches.now c.args.leg c.requires.leg))

pub loop-at-init : goal.loop-at-init
loop-at-init c =
    subst (IsBehind c.args.ports.now c.args.branches.now c.args.leg c.args.leg) (sym c.of-route.ensures)
    (subst (IsBehind c.args.ports.now c.args.branches.now c.args.leg c.args.leg) (sym c.leg_of.ensures)
    (behind_first c.args.ports.now c.args.branches.now c.args.leg c.requires.leg))

pub leg_of-before-requires-clause-leg : goal.leg_of-before-requires-clause-leg
leg_of-before-requires-clause-leg c =
    (front_next c.args.ports.now c.args.branches.now c.args.leg c.loop-at.at c.loop-at.route _ c.requires.branches refl
    c.loop-at.invariant c.loop-at-test.true).within

pub slice_bounds-lead_by-end : goal.slice_bounds-lead_by-end
slice_bounds-lead_by-end c =
    front_whole c.args.ports.now c.args.branches.now c.loop-at.at c.leg_of-before.result.now c.requires.branches
    c.leg_of-before.ensures c.loop-at.invariant.within c.loop-at-test.true

pub lead_by-requires : goal.lead_by-requires
lead_by-requires c =
    front_fits c.args.ports.now c.args.branches.now c.args.leg c.loop-at.at c.loop-at.route c.leg_of-before.result.now
    c.requires.branches c.leg_of-before.ensures c.requires.routes c.requires.leg c.loop-at.invariant c.loop-at-test.true

pub loop-at-smaller : goal.loop-at-smaller
loop-at-smaller c = leg_falls c.args.ports.now c.args.branches.now c.loop-at.at c.requires.branches
    c.loop-at.invariant.within c.loop-at-test.true

pub loop-at-preserved : goal.loop-at-preserved
loop-at-preserved c =
    subst (IsBehind c.args.ports.now c.args.branches.now c.args.leg
    (get_or c.args.branches.now (c.loop-at.at - 1) no_branch).leg) (sym c.lead_by.ensures)
    (front_next c.args.ports.now c.args.branches.now c.args.leg c.loop-at.at c.loop-at.route
    c.leg_of-before.result.now c.requires.branches c.leg_of-before.ensures c.loop-at.invariant c.loop-at-test.true)

pub returns-clause-value : goal.returns-clause-value
returns-clause-value c = behind_all c.args.ports.now c.args.branches.now c.args.leg c.loop-at.at c.loop-at.route
    c.loop-at.invariant (omega (arith, c.loop-at-test.false))

pub returns-clause-path : goal.returns-clause-path
returns-clause-path c =
    subst IsPath (sym (behind_all c.args.ports.now c.args.branches.now c.args.leg c.loop-at.at c.loop-at.route
    c.loop-at.invariant (omega (arith, c.loop-at-test.false))))
    (route_path c.args.ports.now c.args.branches.now c.args.leg c.requires.routes c.requires.leg)

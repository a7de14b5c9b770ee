use Rattle.std.proofs.Common.{◌≡◌, ◌+◌, ◌-◌, ◌≤◌, ◌*◌, ◌^◌, ℕ, length, take, get_or, refl, sym, ap, subst, ◌∙◌, arith}
use Rattle.ats_streams.specs.Branches.{leg_at, legs_of, no_branch}
use Rattle.ats_streams.specs.Stream.{DeclaredStream}
use Rattle.ats_streams.specs.declared.branch.Branch.{Branch}
use Rattle.ats_streams.specs.declared.path.TheConstants.{MAX_PORTS}
use Rattle.ats_streams.proofs.BranchLemmas.{leg_falls}
use Rattle.ats_streams.proofs.WalkedRoutes.{hop_within}
use Rattle.ats_network.specs.Sender.{stream_sender}
use Rattle.ats_certificate.specs.Certificate.{bound_of_hop, bound_on}
use Rattle.ats_tally.proofs.Along.{IsSummed, along_all, few_first, few_next, sum_small, summed_first, summed_next}
use Rattle.ats_tally.proofs.bounds.Bounds.along.Goals.{After-on_leg-sum-in-loop-at}
use Rattle.ats_tally.proofs.bounds.Bounds.along.Goals as goal

pub on_leg-sum-requires-clause-few : goal.on_leg-sum-requires-clause-few
on_leg-sum-requires-clause-few c =
    let s : DeclaredStream = c.args.stream.now in
    few_first (bound_of_hop c.args.self.now.rows (stream_sender s)) s.ports s.branches c.args.leg
    c.leg.ensures.rules.branches c.leg.ensures.rules.routes c.requires.leg c.leg.result.now c.leg.ensures.value

pub loop-at-init : goal.loop-at-init
loop-at-init c =
    let s : DeclaredStream = c.args.stream.now in
    summed_first (bound_of_hop c.args.self.now.rows (stream_sender s)) s.ports s.branches c.args.leg
    c.leg.ensures.rules.branches c.leg.ensures.rules.routes c.requires.leg c.leg.result.now
    (length c.leg.result.now) c.on_leg-sum.result c.leg.ensures.value refl c.on_leg-sum.ensures.value
    c.on_leg-sum.ensures.most

pub on_leg-sum-requires-in-loop-at-clause-leg : goal.on_leg-sum-requires-in-loop-at-clause-leg
on_leg-sum-requires-in-loop-at-clause-leg c =
    let s : DeclaredStream = c.args.stream.now in
    let falls = leg_falls s.ports s.branches c.loop-at.at c.leg.ensures.rules.branches
    c.loop-at.invariant.behind.within c.loop-at-test.true in
    omega (
      arith,
      ap (λ (b : Branch). b.leg) c.branch-branch.ensures.value,
      falls,
      c.loop-at.invariant.behind.within,
    )

pub on_leg-sum-requires-in-loop-at-clause-hops : goal.on_leg-sum-requires-in-loop-at-clause-hops
on_leg-sum-requires-in-loop-at-clause-hops c =
    let s : DeclaredStream = c.args.stream.now in
    let b : Branch = get_or s.branches (c.loop-at.at - 1) no_branch in
    let within = hop_within s.ports s.branches c.loop-at.at c.leg.ensures.rules.branches
    c.loop-at.invariant.behind.within c.loop-at-test.true in
    subst (λ (b : Branch). b.hop ≤ length (leg_at (legs_of s.ports s.branches) b.leg))
    (sym c.branch-branch.ensures.value) (omega (arith, within))

pub on_leg-sum-requires-in-loop-at-clause-few : goal.on_leg-sum-requires-in-loop-at-clause-few
on_leg-sum-requires-in-loop-at-clause-few c =
    let s : DeclaredStream = c.args.stream.now in
    subst (λ (b : Branch). b.hop ≤ MAX_PORTS) (sym c.branch-branch.ensures.value)
    (few_next (bound_of_hop c.args.self.now.rows (stream_sender s)) s.ports s.branches c.args.leg
    c.leg.ensures.rules.branches c.leg.ensures.rules.routes c.requires.leg c.loop-at.at c.loop-at.sum
    c.loop-at.invariant c.loop-at-test.true)

-- the sum goes on at the leg where this one begins
next : (c : After-on_leg-sum-in-loop-at)
    → IsSummed (bound_of_hop c.args.self.now.rows (stream_sender c.args.stream.now)) c.args.stream.now.ports
    c.args.stream.now.branches c.args.leg c.branch-branch.result.leg
    (c.loop-at.sum + c.on_leg-sum-in-loop-at.result)
next c =
    let s : DeclaredStream = c.args.stream.now in
    let rows = c.args.self.now.rows in
    let b : Branch = get_or s.branches (c.loop-at.at - 1) no_branch in
    let more : ℕ = c.on_leg-sum-in-loop-at.result in
    let is : c.branch-branch.result ≡ b = c.branch-branch.ensures.value in
    subst (λ (b : Branch). IsSummed (bound_of_hop rows (stream_sender s)) s.ports s.branches c.args.leg b.leg
    (c.loop-at.sum + more)) (sym is)
    (summed_next (bound_of_hop rows (stream_sender s)) s.ports s.branches c.args.leg
    c.leg.ensures.rules.branches c.leg.ensures.rules.routes c.requires.leg c.loop-at.at c.loop-at.sum more
    c.loop-at.invariant c.loop-at-test.true
    (c.on_leg-sum-in-loop-at.ensures.value
    ∙ ap (λ (b : Branch). bound_on rows s (take b.hop (leg_at (legs_of s.ports s.branches) b.leg))) is)
    (subst (λ (b : Branch). more ≤ b.hop * 10 ^ 36) is c.on_leg-sum-in-loop-at.ensures.most))

pub overflow_add-sum : goal.overflow_add-sum
overflow_add-sum c =
    let s : DeclaredStream = c.args.stream.now in
    let small = sum_small (bound_of_hop c.args.self.now.rows (stream_sender s)) s.ports s.branches c.args.leg
    c.leg.ensures.rules.branches c.leg.ensures.rules.routes c.requires.leg c.branch-branch.result.leg
    (c.loop-at.sum + c.on_leg-sum-in-loop-at.result) (next c) in
    omega (arith, small)

pub loop-at-smaller : goal.loop-at-smaller
loop-at-smaller c =
    let s : DeclaredStream = c.args.stream.now in
    let falls = leg_falls s.ports s.branches c.loop-at.at c.leg.ensures.rules.branches
    c.loop-at.invariant.behind.within c.loop-at-test.true in
    omega (arith, ap (λ (b : Branch). b.leg) c.branch-branch.ensures.value, falls)

pub loop-at-preserved : goal.loop-at-preserved
loop-at-preserved c = next c

pub returns : goal.returns
returns c =
    let s : DeclaredStream = c.args.stream.now in
    along_all (bound_of_hop c.args.self.now.rows (stream_sender s)) s.ports s.branches c.args.leg c.loop-at.at
    c.loop-at.sum c.loop-at.invariant (omega (arith, c.loop-at-test.false))

use Rattle.std.proofs.Common.{◌≡◌, ℕ, List, Option, Some, ap, sym, ◌∙◌, arith}
use Rattle.ats_streams.specs.Branches.{leg_at, routes_of}
use Rattle.ats_streams.specs.Stream.{DeclaredStream}
use Rattle.ats_network.specs.Network.{DeclaredNetwork}
use Rattle.ats_certificate.specs.Certificate.{bound_on}
use Rattle.ats_tally.specs.Listeners.{listener_at}
use Rattle.ats_tally.specs.declared.reason.Reason.TheVariants.{Deadline}
use Rattle.ats_tally.proofs.Reasons.{late_past, not_late}
use Rattle.ats_bound.specs.Least.{least_certificate}
use Rattle.ats_admission_shares.specs.PortShares.{stream_at}
use Rattle.ats_admission_state.specs.Routes.{RouteState, sum_along}
use Rattle.ats_admission_state.proofs.Last.{stream_is}
use Rattle.ats_admission_state.proofs.Routed.{bounded_read, sum_is}
use Rattle.ats_admission_state.proofs.sums.late_for.Goals.{After-sum-sum}
use Rattle.ats_admission_state.proofs.sums.late_for.Goals as goal

pub sum-sum-requires-clause-bounded : goal.sum-sum-requires-clause-bounded
sum-sum-requires-clause-bounded c =
    bounded_read c.args.network.now c.streams.ensures.rules c.args.bounds.now c.requires.least c.args.stream
    c.args.route.now c.requires.stream c.requires.route

-- the sum is that of the bounds along the route
summed : (c : After-sum-sum) → c.sum-sum.result
    ≡ bound_on (least_certificate c.args.network.now) (stream_at c.args.network.now c.args.stream)
    (leg_at (routes_of (stream_at c.args.network.now c.args.stream).ports
    (stream_at c.args.network.now c.args.stream).branches) c.args.leg)
summed c =
    c.sum-sum.ensures
    ∙ ap (λ (route : RouteState). sum_along c.args.bounds.now route c.args.leg) c.requires.route
    ∙ sum_is c.args.network.now c.streams.ensures.rules c.args.bounds.now c.requires.least c.args.stream c.args.leg
    c.requires.stream

pub returns-then-sum-from : goal.returns-then-sum-from
returns-then-sum-from c =
    let network : DeclaredNetwork = c.args.network.now in
    let item = stream_is network c.streams.result.now c.args.stream c.index-streams-stream.result c.requires.stream
    c.streams.ensures.value c.index-streams-stream.is in
    sym (not_late network.topology (least_certificate network) (stream_at network c.args.stream) c.args.leg
    c.sum-sum.result c.requires.leg (summed (goal.at.returns-then-sum-from c).After-sum-sum)
    (omega (
      arith,
      c.if-sum-from.true,
      c.from.ensures,
      c.deadline.ensures.value,
      ap (λ (s : DeclaredStream). s.deadline_ns) item,
    )))

pub returns : goal.returns
returns c =
    let network : DeclaredNetwork = c.args.network.now in
    let s : DeclaredStream = stream_at network c.args.stream in
    let sum : ℕ = c.sum-sum.result in
    let item = stream_is network c.streams.result.now c.args.stream c.index-streams-stream.result c.requires.stream
    c.streams.ensures.value c.index-streams-stream.is in
    let name : c.name.result ≡ s.name = c.name.ensures ∙ ap (λ (s : DeclaredStream). s.name) item in
    let listener : c.listener_name.result ≡ (listener_at network.topology s c.args.leg).name =
    c.listener_name.ensures in
    ap (λ (n : List ℕ). Some (Deadline n c.listener_name.result sum)) name
    ∙ ap (λ (l : Option (List ℕ)). Some (Deadline s.name l sum)) listener
    ∙ sym (late_past network.topology (least_certificate network) s c.args.leg sum c.requires.leg
    (summed (goal.at.returns c).After-sum-sum)
    (omega (
      arith,
      c.if-sum-from.false,
      c.from.ensures,
      c.deadline.ensures.value,
      ap (λ (s : DeclaredStream). s.deadline_ns) item,
    )))

use Rattle.std.proofs.Common.{◌≡◌, ◌≤◌, ℕ, length, Option, None, Ok, ap, sym, ◌∙◌, arith}
use Rattle.ats_num.specs.Failure.{unless}
use Rattle.ats_streams.specs.Stream.{DeclaredStream}
use Rattle.ats_network.specs.Listeners.{listeners_of}
use Rattle.ats_network.specs.Network.{DeclaredNetwork}
use Rattle.ats_tally.specs.Reason.{late_for}
use Rattle.ats_tally.specs.declared.reason.Reason.{Reason}
use Rattle.ats_tally.proofs.Firsts.{first_end}
use Rattle.ats_tally.proofs.ListenerLemmas.{listeners-length}
use Rattle.ats_bound.specs.Least.{least_certificate}
use Rattle.ats_admission_law.specs.Near.{late_at}
use Rattle.ats_admission_shares.specs.PortShares.{stream_at}
use Rattle.ats_admission_state.specs.Judged.{sum_at}
use Rattle.ats_admission_state.specs.Routes.{RouteState, sum_along}
use Rattle.ats_admission_state.proofs.Last.{stream_is}
use Rattle.ats_admission_state.proofs.Routed.{bounded_read, first_sum}
use Rattle.ats_admission_state.proofs.sums.judge_route.Goals as goal

pub sum-requires-clause-bounded : goal.sum-requires-clause-bounded
sum-requires-clause-bounded c =
    bounded_read c.args.network.now c.streams.ensures.rules c.args.bounds.now c.requires.least c.args.stream
    c.args.route.now c.requires.stream c.requires.route

pub returns : goal.returns
returns c =
    let network : DeclaredNetwork = c.args.network.now in
    let n : ℕ = c.args.stream in
    let s : DeclaredStream = stream_at network n in
    let item = stream_is network c.streams.result.now n c.index-streams-stream.result c.requires.stream
    c.streams.ensures.value c.index-streams-stream.is in
    let past : length (listeners_of network.topology s) ≤ c.loop-leg.leg = omega (
      arith,
      listeners-length network.topology s,
      c.loop-leg-test.false,
      c.legs-leg-end.ensures.value,
      ap (λ (s : DeclaredStream). length s.branches) item,
    ) in
    let none : late_at network n ≡ None =
    c.loop-leg.invariant
    ∙ first_end (late_for (least_certificate network) s) (listeners_of network.topology s) c.loop-leg.leg past in
    let sum : c.sum.result ≡ sum_at network n =
    c.sum.ensures ∙ ap (λ (route : RouteState). sum_along c.args.bounds.now route 0) c.requires.route
    ∙ first_sum network c.streams.ensures.rules c.args.bounds.now c.requires.least n c.requires.stream in
    ap Ok sum ∙ sym (ap (λ (o : Option Reason). unless (λ (reason : Reason). reason) o (sum_at network n)) none)

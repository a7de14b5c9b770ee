use Rattle.std.proofs.Common.{◌≡◌, ◌≤◌, ◌*◌, ℕ, List, length, get_or, ap, ◌∙◌, arith}
use Rattle.ats_num.specs.declared.time.TheConstants.{PS_PER_NS}
use Rattle.ats_streams.specs.Branches.{leg_at, routes_of}
use Rattle.ats_streams.specs.Stream.{DeclaredStream}
use Rattle.ats_network.specs.Edits.{no_stream}
use Rattle.ats_network.specs.Network.{DeclaredNetwork}
use Rattle.ats_certificate.specs.Certificate.{bound_on}
use Rattle.ats_certificate.specs.declared.row.Row.{Row}
use Rattle.ats_bound.specs.Least.{least_certificate}
use Rattle.ats_explain.specs.Margins.{margin_on}
use Rattle.ats_explain.specs.declared.margin.Margin.{Margin}
use Rattle.ats_explain.proofs.Numbered.{stream_all, stream_more, stream_read}
use Rattle.ats_explain.proofs.margin.push_margins.Goals.{After-index-streams-stream}
use Rattle.ats_explain.proofs.margin.push_margins.Goals as goal

-- the stream that is looked at
one : (c : After-index-streams-stream) → c.index-streams-stream.result
    ≡ get_or c.args.delays.now.network.streams c.args.stream no_stream
one c = stream_read c.streams.result.now c.args.delays.now.network.streams c.args.stream c.index-streams-stream.result
    (c.streams.ensures.value ∙ ap (λ (n : DeclaredNetwork). n.streams) c.network.ensures.value)
    c.index-streams-stream.is c.requires.stream

pub loop-leg-preserved : goal.loop-leg-preserved
loop-leg-preserved c =
    let network : DeclaredNetwork = c.args.delays.now.network in
    let s : DeclaredStream = get_or network.streams c.args.stream no_stream in
    let item = one (goal.at.loop-leg-preserved c).After-index-streams-stream in
    let listed : c.loop-leg.leg ≤ length s.branches = omega (
      arith,
      c.loop-leg-test.true,
      c.legs-leg-end.ensures.value,
      ap (λ (s : DeclaredStream). length s.branches) item,
    ) in
    let route : List ℕ = leg_at (routes_of s.ports s.branches) c.loop-leg.leg in
    let sum : c.along.result ≡ bound_on (least_certificate network) s route =
    c.along.ensures.value ∙ ap (λ (rows : List Row). bound_on rows s route) c.requires.least in
    let deadline : c.from.result ≡ PS_PER_NS * s.deadline_ns =
    c.from.ensures ∙ c.deadline.ensures.value
    ∙ ap (λ (s : DeclaredStream). PS_PER_NS * s.deadline_ns) item in
    let with : ℕ → ℕ → Margin = λ n k. record { sum = n; deadline = k } in
    let margin : with c.along.result c.from.result ≡ margin_on network s route =
    ap (λ (n : ℕ). with n c.from.result) sum
    ∙ ap (λ (k : ℕ). with (bound_on (least_certificate network) s route) k) deadline in
    stream_more network s c.args.margins.now.items c.loop-leg.margins.items c.push.new.self.items c.loop-leg.leg
    (with c.along.result c.from.result) listed c.loop-leg.invariant margin c.in_ok-push.ensures.items

pub returns : goal.returns
returns c =
    let network : DeclaredNetwork = c.args.delays.now.network in
    let s : DeclaredStream = get_or network.streams c.args.stream no_stream in
    let item = one (goal.at.returns c).After-index-streams-stream in
    stream_all network s c.args.margins.now.items c.loop-leg.margins.items c.loop-leg.leg
    (omega (
      arith,
      c.loop-leg-test.false,
      c.legs-leg-end.ensures.value,
      ap (λ (s : DeclaredStream). length s.branches) item,
    ))
    c.loop-leg.invariant

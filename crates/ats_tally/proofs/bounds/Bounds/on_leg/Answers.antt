use Rattle.std.proofs.Common.{◌≡◌, ◌<◌, ◌+◌, ℕ, List, length, Option, sum_by, take, get_or, ap, sym, ◌∙◌, arith}
use Rattle.std.specs.Prelude.{unwrap_or}
use Rattle.std.proofs.lemmas.List.Sums.{sum_by_more}
use Rattle.ats_streams.specs.Branches.{leg_at, legs_of}
use Rattle.ats_streams.specs.Stream.{DeclaredStream}
use Rattle.ats_network.specs.Sender.{stream_sender}
use Rattle.ats_certificate.specs.Certificate.{bound_at, bound_of_hop}
use Rattle.ats_tally.proofs.Paths.{IsLegHop, leg_hop}
use Rattle.ats_tally.proofs.Placed.{bound_most}
use Rattle.ats_tally.proofs.bounds.Bounds.on_leg.Goals.{In-loop-hop}
use Rattle.ats_tally.proofs.bounds.Bounds.on_leg.Goals as goal

-- what stands at the place of this hop
here : (c : In-loop-hop) → IsLegHop c.args.self.now.rows c.args.stream.now c.args.leg c.loop-hop.hop
    (c.first_place-first.result + c.loop-hop.hop) c.ports-ports.result.now c.classes-classes.result.now
here c = leg_hop c.args.self.now.rows c.args.stream.now c.args.leg c.loop-hop.hop c.first_place-first.result
    c.ports-ports.result.now c.classes-classes.result.now c.ports-ports.ensures.rules c.requires.apart c.requires.leg
    (omega (arith, c.requires.hops, c.loop-hop-test.true)) c.first_place-first.ensures c.ports-ports.ensures.value
    c.classes-classes.ensures.value

pub overflow_add-place : goal.overflow_add-place
overflow_add-place c = let h = here c in omega (arith, h.in_ports, c.ports-ports.type_inv.0)

pub offset_bounds-ports-place : goal.offset_bounds-ports-place
offset_bounds-ports-place c = let h = here c in omega (arith, h.in_ports, c.ports-ports.type_inv.1)

pub bounds-ports-place : goal.bounds-ports-place
bounds-ports-place c = (here (goal.at.bounds-ports-place c).In-loop-hop).in_ports

pub bounds-classes-place : goal.bounds-classes-place
bounds-classes-place c = (here (goal.at.bounds-classes-place c).In-loop-hop).in_classes

pub given-requires-clause-port : goal.given-requires-clause-port
given-requires-clause-port c =
    let h = here (goal.at.given-requires-clause-port c).In-loop-hop in
    omega (arith, h.port_is, c.requires.ports (c.first_place-first.result + c.loop-hop.hop) 0 h.in_stream)

pub overflow_add-sum : goal.overflow_add-sum
overflow_add-sum c =
    let place : ℕ = c.first_place-first.result + c.loop-hop.hop in
    let port : ℕ = get_or c.ports-ports.result.now place 0 in
    let class : ℕ = get_or c.classes-classes.result.now place 0 in
    let value : c.unwrap_or-sum.result ≡ bound_at c.args.self.now.rows port class =
    c.unwrap_or-sum.ensures ∙ ap (λ (o : Option ℕ). unwrap_or o 0) c.given.ensures.value in
    let small = bound_most c.args.self.now.rows port class c.given.ensures.form.each in
    omega (arith, value, small, c.requires.few, c.loop-hop.invariant.most, c.loop-hop-test.true)

pub loop-hop-preserved : goal.loop-hop-preserved
loop-hop-preserved c =
    let stream : DeclaredStream = c.args.stream.now in
    let rows = c.args.self.now.rows in
    let hop : ℕ = c.loop-hop.hop in
    let place : ℕ = c.first_place-first.result + hop in
    let port : ℕ = get_or c.ports-ports.result.now place 0 in
    let class : ℕ = get_or c.classes-classes.result.now place 0 in
    let value : c.unwrap_or-sum.result ≡ bound_at rows port class =
    c.unwrap_or-sum.ensures ∙ ap (λ (o : Option ℕ). unwrap_or o 0) c.given.ensures.value in
    let small = bound_most rows port class c.given.ensures.form.each in
    let h = here (goal.at.loop-hop-preserved c).In-loop-hop in
    let own : List ℕ = leg_at (legs_of stream.ports stream.branches) c.args.leg in
    let so_far : ℕ = sum_by (bound_of_hop rows (stream_sender stream)) (take hop own) in
    let within : hop < length own = omega (arith, c.requires.hops, c.loop-hop-test.true) in
    let more = sum_by_more (bound_of_hop rows (stream_sender stream)) own hop 0 within in
    record {
      sum = ap (λ (n : ℕ). n + c.unwrap_or-sum.result) c.loop-hop.invariant.sum
          ∙ ap (λ (n : ℕ). so_far + n) (value ∙ h.bound_is) ∙ sym more;
      most = omega (arith, value, small, c.loop-hop.invariant.most);
    }

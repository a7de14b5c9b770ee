use Rattle.std.proofs.Common.{◌≡◌, ◌<◌, ℕ, ◌∙◌, List, length, subst, sum_by, sym, take, ap, arith}
use Rattle.std.specs.List.{All, list_any}
use Rattle.std.proofs.lemmas.List.Elements.{All-take}
use Rattle.ats_streams.specs.Branches.{leg_at}
use Rattle.ats_streams.proofs.BranchLemmas.{legs-length, routes-length}
use Rattle.ats_network.specs.Senders.{sender_at}
use Rattle.ats_trace.specs.Ways.{routes_by}
use Rattle.ats_witness.specs.Burst.{time_over}
use Rattle.ats_witness.proofs.LeadLemmas.{passed_over, told_here, told_nowhere}
use Rattle.ats_witness.proofs.StreamLemmas.{route_ports}
use Rattle.ats_witness.proofs.TravelLemmas.{IsOn, is_port, not_on, on_path}
use Rattle.ats_witness.proofs.participant.travel_to.Goals as goal

pub sender_route-route-requires-clause-leg : goal.sender_route-route-requires-clause-leg
sender_route-route-requires-clause-leg c =
    let s = sender_at c.args.network.now c.args.sender in
    omega (arith, c.loop-leg-test.true, c.sender_legs-leg-end.ensures.value, legs-length 0 s.ports s.branches)

pub time_along-requires-clause-ports : goal.time_along-requires-clause-ports
time_along-requires-clause-ports c =
    let network = c.args.network.now in
    let s = sender_at network c.args.sender in
    let leg : ℕ = c.loop-leg.leg in
    let within : leg < length (routes_by s) = omega (
      arith,
      c.loop-leg-test.true,
      c.sender_legs-leg-end.ensures.value,
      legs-length 0 s.ports s.branches,
      routes-length s.ports s.branches,
    ) in
    All-take (λ (p : ℕ). p < length network.topology.ports) c.in-Some.hop c.as_slice-in-Some.result.now
    (subst (All (λ (p : ℕ). p < length network.topology.ports))
    (sym (c.as_slice-in-Some.ensures.value ∙ c.sender_route-route.ensures.value))
    (route_ports network c.args.sender leg c.sender_route-route.ensures.rules c.requires.sender within))

-- this route is the first with the port
pub returns-in-Some-clause-value : goal.returns-in-Some-clause-value
returns-in-Some-clause-value c =
    let network = c.args.network.now in
    let s = sender_at network c.args.sender in
    let leg : ℕ = c.loop-leg.leg in
    let within : leg < length (routes_by s) = omega (
      arith,
      c.loop-leg-test.true,
      c.sender_legs-leg-end.ensures.value,
      legs-length 0 s.ports s.branches,
      routes-length s.ports s.branches,
    ) in
    let route : List ℕ = leg_at (routes_by s) leg in
    let same : c.as_slice.result.now ≡ route = c.as_slice.ensures.value ∙ c.sender_route-route.ensures.value in
    let again : c.as_slice-in-Some.result.now ≡ route =
    c.as_slice-in-Some.ensures.value ∙ c.sender_route-route.ensures.value in
    let on : IsOn c.args.port route c.in-Some.hop =
    subst (λ (l : List ℕ). IsOn c.args.port l c.in-Some.hop) same
    (on_path c.args.port c.as_slice.result.now c.in-Some.hop (sym c.in-Some.ensures.place)) in
    c.time_along.ensures.value
    ∙ ap (λ (l : List ℕ). sum_by (time_over network c.args.octets) (take c.in-Some.hop l)) again
    ∙ ap (sum_by (time_over network c.args.octets))
    (on.before ∙ sym (told_here c.args.port (routes_by s) leg within on.has) ∙ c.loop-leg.invariant)

-- this one does not have it
pub loop-leg-preserved : goal.loop-leg-preserved
loop-leg-preserved c =
    let s = sender_at c.args.network.now c.args.sender in
    let leg : ℕ = c.loop-leg.leg in
    let within : leg < length (routes_by s) = omega (
      arith,
      c.loop-leg-test.true,
      c.sender_legs-leg-end.ensures.value,
      legs-length 0 s.ports s.branches,
      routes-length s.ports s.branches,
    ) in
    let same = c.as_slice.ensures.value ∙ c.sender_route-route.ensures.value in
    sym (passed_over c.args.port (routes_by s) leg within
    (ap (λ (l : List ℕ). list_any (is_port c.args.port) l) (sym same)
    ∙ not_on c.args.port c.as_slice.result.now (sym c.in_default.ensures.place)))
    ∙ c.loop-leg.invariant

-- none has it
pub returns-clause-value : goal.returns-clause-value
returns-clause-value c =
    let network = c.args.network.now in
    let s = sender_at network c.args.sender in
    ap (sum_by (time_over network c.args.octets))
    (sym (told_nowhere c.args.port (routes_by s) c.loop-leg.leg (omega (
      arith,
      c.loop-leg-test.false,
      c.sender_legs-leg-end.ensures.value,
      legs-length 0 s.ports s.branches,
      routes-length s.ports s.branches,
    )))
    ∙ c.loop-leg.invariant)

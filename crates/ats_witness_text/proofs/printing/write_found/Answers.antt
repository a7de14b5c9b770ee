use Rattle.std.proofs.Common.{◌∙◌, ℕ, List, length, ap, arith}
use Rattle.std.proofs.lemmas.List.Elements.{length_all_zip}
use Rattle.ats_network.specs.Senders.{sender_at}
use Rattle.ats_trace.specs.Ways.{route_to}
use Rattle.ats_witness.specs.Found.{IsFoundAt}
use Rattle.ats_witness.proofs.StreamLemmas.{is_listener, route_ports, stream_within}
use Rattle.ats_witness_text.proofs.printing.write_found.Goals as goal

pub write_hops-requires-clause-ports : goal.write_hops-requires-clause-ports
write_hops-requires-clause-ports c =
    let network = c.args.network.now in
    let s = sender_at network c.args.stream in
    rw (c.as_slice.ensures.value, c.sender_route-route.ensures.value, c.topology.ensures.value)
    (route_ports network c.args.stream c.args.listener c.sender_route-route.ensures.rules
    (stream_within network c.args.stream c.requires.stream)
    (is_listener s c.args.listener c.requires.listener))

pub write_hops-requires-clause-fit : goal.write_hops-requires-clause-fit
write_hops-requires-clause-fit c =
    let network = c.args.network.now in
    let many = length_all_zip (IsFoundAt network c.args.stream c.args.listener)
    (route_to (sender_at network c.args.stream) c.args.listener) c.args.found.now.delays c.requires.found.each in
    omega (
      arith,
      many,
      ap (λ (l : List ℕ). length l) c.delays.ensures.value,
      ap (λ (l : List ℕ). length l) (c.as_slice.ensures.value ∙ c.sender_route-route.ensures.value),
    )

use Rattle.std.proofs.Common.{ℕ, List, length, ap, ◌∙◌, arith}
use Rattle.std.proofs.lemmas.List.Elements.{length_all_zip}
use Rattle.ats_network.specs.Senders.{sender_at}
use Rattle.ats_trace.specs.Ways.{route_to}
use Rattle.ats_witness.specs.Found.{IsFoundAt}
use Rattle.ats_witness.proofs.StreamLemmas.{on_this, route_path}
use Rattle.ats_witness.proofs.finding.witness.Goals as goal

pub first_greatest-hop-requires : goal.first_greatest-hop-requires
first_greatest-hop-requires c =
    let network = c.args.network.now in
    let path = route_path network c.args.stream c.args.listener c.delays_of.ensures.rules c.requires.stream
    c.requires.listener in
    let many = length_all_zip (IsFoundAt network c.args.stream c.args.listener)
    (route_to (sender_at network c.args.stream) c.args.listener) c.in_ok-delays.delays.items
    c.in_ok-delays.ensures.each in
    omega (arith, many, path.least, ap (λ (l : List ℕ). length l) c.deref.ensures.value)

pub bounds-as_slice-hop : goal.bounds-as_slice-hop
bounds-as_slice-hop c =
    let network = c.args.network.now in
    let many = length_all_zip (IsFoundAt network c.args.stream c.args.listener)
    (route_to (sender_at network c.args.stream) c.args.listener) c.in_ok-delays.delays.items
    c.in_ok-delays.ensures.each in
    omega (
      arith,
      many,
      ap (λ (l : List ℕ). length l) c.deref.ensures.value,
      ap (λ (l : List ℕ). length l) (c.as_slice.ensures.value ∙ c.sender_route-route.ensures.value),
      c.first_greatest-hop.ensures.0,
    )

pub releases-requires-clause-port : goal.releases-requires-clause-port
releases-requires-clause-port c =
    let network = c.args.network.now in
    let same = c.as_slice.ensures.value ∙ c.sender_route-route.ensures.value in
    let many = length_all_zip (IsFoundAt network c.args.stream c.args.listener)
    (route_to (sender_at network c.args.stream) c.args.listener) c.in_ok-delays.delays.items
    c.in_ok-delays.ensures.each in
    on_this (sender_at network c.args.stream) c.args.listener c.first_greatest-hop.result c.as_slice.result.now same
    c.requires.listener
    (omega (
      arith,
      many,
      ap (λ (l : List ℕ). length l) c.deref.ensures.value,
      ap (λ (l : List ℕ). length l) same,
      c.first_greatest-hop.ensures.0,
    ))

pub overflow_cast-hop : goal.overflow_cast-hop
overflow_cast-hop c =
    let network = c.args.network.now in
    let path = route_path network c.args.stream c.args.listener c.delays_of.ensures.rules c.requires.stream
    c.requires.listener in
    let many = length_all_zip (IsFoundAt network c.args.stream c.args.listener)
    (route_to (sender_at network c.args.stream) c.args.listener) c.in_ok-delays.delays.items
    c.in_ok-delays.ensures.each in
    omega (
      arith,
      many,
      path.most,
      ap (λ (l : List ℕ). length l) c.deref.ensures.value,
      c.first_greatest-hop.ensures.0,
    )

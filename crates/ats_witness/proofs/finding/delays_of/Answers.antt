use Rattle.std.proofs.Common.{◌≡◌, ◌+◌, ◌∙◌, ◌<◌, ℕ, List, [], get_or, length, take, ap, subst, sym, arith, All}
use Rattle.std.specs.List.{AllZip}
use Rattle.std.proofs.lemmas.List.{get_or_default}
use Rattle.std.proofs.lemmas.List.Elements.{All-nil, All-push, all_zip_more}
use Rattle.ats_network.specs.Senders.{sender_at}
use Rattle.ats_bound.specs.Least.{least_certificate}
use Rattle.ats_trace.specs.Ways.{route_to}
use Rattle.ats_witness.specs.Burst.{IsBurstFor}
use Rattle.ats_witness.specs.Found.{IsFoundAt, IsWithinBound}
use Rattle.ats_witness.proofs.StreamLemmas.{on_this, route_path}
use Rattle.ats_witness.proofs.FoundLemmas.{found_within, played_found}
use Rattle.ats_witness.proofs.finding.delays_of.Goals as goal

pub releases-requires-clause-port : goal.releases-requires-clause-port
releases-requires-clause-port c =
    let same = c.as_slice-ports.ensures.value ∙ c.sender_route-route.ensures.value in
    let path = route_path c.args.network.now c.args.stream c.args.listener c.sender_route-route.ensures.rules
    c.requires.stream c.requires.listener in
    on_this (sender_at c.args.network.now c.args.stream) c.args.listener 0 c.as_slice-ports.result.now same
    c.requires.listener (omega (arith, path.least, ap (λ (l : List ℕ). length l) same))

pub play-requires-clause-port : goal.play-requires-clause-port
play-requires-clause-port c =
    let same = c.as_slice-ports.ensures.value ∙ c.sender_route-route.ensures.value in
    let path = route_path c.args.network.now c.args.stream c.args.listener c.sender_route-route.ensures.rules
    c.requires.stream c.requires.listener in
    on_this (sender_at c.args.network.now c.args.stream) c.args.listener 0 c.as_slice-ports.result.now same
    c.requires.listener (omega (arith, path.least, ap (λ (l : List ℕ). length l) same))

pub play_next-requires-clause-port : goal.play_next-requires-clause-port
play_next-requires-clause-port c =
    on_this (sender_at c.args.network.now c.args.stream) c.args.listener c.loop-hop.hop c.as_slice-ports.result.now
    (c.as_slice-ports.ensures.value ∙ c.sender_route-route.ensures.value) c.requires.listener
    (omega (arith, c.loop-hop-test.true))

-- the delay at the first port
pub loop-hop-init : goal.loop-hop-init
loop-hop-init c =
    let network = c.args.network.now in
    let stream = c.args.stream in
    let listener = c.args.listener in
    let route : List ℕ = route_to (sender_at network stream) listener in
    let ports : List ℕ = c.as_slice-ports.result.now in
    let same : ports ≡ route = c.as_slice-ports.ensures.value ∙ c.sender_route-route.ensures.value in
    let path = route_path network stream listener c.sender_route-route.ensures.rules c.requires.stream
    c.requires.listener in
    let least : 0 < length route = omega (arith, path.least) in
    let port : ℕ = get_or ports 0 0 in
    let delay : ℕ = c.in_ok-played.played.delay in
    let found : IsFoundAt network stream listener port delay =
    played_found network stream listener port delay c.in_ok-played.played.burst.items c.in_ok-played.ensures.played
    (subst (IsBurstFor network stream port) (sym c.in_ok-played.ensures.burst) c.in_ok-burst.ensures.burst) in
    let none : c.in_ok-delays.delays.items ≡ [] = c.in_ok-delays.ensures.items in
    let first : port ≡ get_or route 0 port =
    ap (λ (l : List ℕ). get_or l 0 0) same ∙ get_or_default route 0 0 port least in (
      subst (AllZip (IsFoundAt network stream listener) (take 1 route)) (sym c.in_ok-push.ensures.items)
          (all_zip_more (IsFoundAt network stream listener) route c.in_ok-delays.delays.items 0 port delay least first
          (subst (AllZip (IsFoundAt network stream listener) []) (sym none) tt)
          found),
      subst (All (IsWithinBound network stream listener)) (sym c.in_ok-push.ensures.items)
          (All-push (IsWithinBound network stream listener) c.in_ok-delays.delays.items delay
          (subst (All (IsWithinBound network stream listener)) (sym none)
          (All-nil (IsWithinBound network stream listener)))
          (found_within network (least_certificate network) stream listener port delay
          c.sender_route-route.ensures.rules c.requires.holds c.requires.stream found)),
      c.in_ok-played.ensures.played,
    )

-- the delay at the next port, in the burst there
pub loop-hop-preserved : goal.loop-hop-preserved
loop-hop-preserved c =
    let network = c.args.network.now in
    let stream = c.args.stream in
    let listener = c.args.listener in
    let route : List ℕ = route_to (sender_at network stream) listener in
    let ports : List ℕ = c.as_slice-ports.result.now in
    let same : ports ≡ route = c.as_slice-ports.ensures.value ∙ c.sender_route-route.ensures.value in
    let hop : ℕ = c.loop-hop.hop in
    let within : hop < length route =
    omega (arith, c.loop-hop-test.true, ap (λ (l : List ℕ). length l) same) in
    let port : ℕ = get_or ports hop 0 in
    let delay : ℕ = c.in_ok-played-2.played.delay in
    let found : IsFoundAt network stream listener port delay =
    played_found network stream listener port delay c.in_ok-played-2.played.burst.items
    c.in_ok-played-2.ensures.played c.in_ok-played-2.ensures.burst in
    let here : port ≡ get_or route hop port =
    ap (λ (l : List ℕ). get_or l hop 0) same ∙ get_or_default route hop 0 port within in (
      subst (AllZip (IsFoundAt network stream listener) (take (hop + 1) route)) (sym c.in_ok-push-2.ensures.items)
          (all_zip_more (IsFoundAt network stream listener) route c.loop-hop.delays.items hop port delay within here
          c.loop-hop.invariant.0 found),
      subst (All (IsWithinBound network stream listener)) (sym c.in_ok-push-2.ensures.items)
          (All-push (IsWithinBound network stream listener) c.loop-hop.delays.items delay c.loop-hop.invariant.1
          (found_within network (least_certificate network) stream listener port delay
          c.sender_route-route.ensures.rules c.requires.holds c.requires.stream found)),
      c.in_ok-played-2.ensures.played,
    )

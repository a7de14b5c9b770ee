use Rattle.std.proofs.Common.{◌<◌, ◌∷◌, ◌++◌, [], ℕ, List, length, map, take, sym, ap, subst, ◌∙◌, arith}
use Rattle.std.specs.List.{All}
use Rattle.std.proofs.lemmas.List.{map_more}
use Rattle.ats_streams.specs.Stream.{DeclaredStream}
use Rattle.ats_network.specs.Edits.{no_stream}
use Rattle.ats_network.specs.Network.{DeclaredNetwork}
use Rattle.ats_admission_state.specs.Routes.{RouteState, route_of}
use Rattle.ats_admission_state.proofs.Last.{few_ports, stream_is}
use Rattle.ats_admission_state.proofs.opening.stream_routes.Goals as goal

pub of-requires : goal.of-requires
of-requires c =
    let network : DeclaredNetwork = c.args.network.now in
    let i : ℕ = c.loop-stream.stream-index in
    let long = ap (λ (streams : List DeclaredStream). length streams) c.streams-streams.ensures.value in
    let within : i < length network.streams = omega (arith, long, c.loop-stream-test.true) in
    let stream = stream_is network c.streams-streams.result.now i c.stream-item.result within
    c.streams-streams.ensures.value c.stream-item.is in
    subst (λ (s : DeclaredStream). All (λ p. p < 4096) s.ports) (sym stream)
    (few_ports network i c.streams-streams.ensures.rules within)

pub loop-stream-preserved : goal.loop-stream-preserved
loop-stream-preserved c =
    let network : DeclaredNetwork = c.args.network.now in
    let i : ℕ = c.loop-stream.stream-index in
    let long = ap (λ (streams : List DeclaredStream). length streams) c.streams-streams.ensures.value in
    let within : i < length network.streams = omega (arith, long, c.loop-stream-test.true) in
    let stream = stream_is network c.streams-streams.result.now i c.stream-item.result within
    c.streams-streams.ensures.value c.stream-item.is in
    let so_far : List RouteState = map route_of (take i network.streams) in
    c.in_ok-push.ensures.items
    ∙ ap (λ (routes : List RouteState). routes ++ c.in_ok-route.route ∷ []) c.loop-stream.invariant
    ∙ ap (λ (route : RouteState). so_far ++ route ∷ []) (c.in_ok-route.ensures ∙ ap route_of stream)
    ∙ sym (map_more route_of network.streams i no_stream within)

use Rattle.std.proofs.Common.{◌≡◌, ◌<◌, ◌≤◌, ℕ, List, get_or, length, sym, subst, ap, ◌∙◌}
use Rattle.std.proofs.lemmas.List.{get_or_default}
use Rattle.ats_streams.specs.Branches.{leg_at, routes_of}
use Rattle.ats_streams.specs.Stream.{DeclaredStream}
use Rattle.ats_topology.specs.Walks.{ArePorts}
use Rattle.ats_network.specs.Edits.{no_stream}
use Rattle.ats_network.specs.Network.{DeclaredNetwork, network_within}
use Rattle.ats_network.proofs.RoutePorts.{route_ports}
use Rattle.ats_network.proofs.network.Network.listener.Goals as goal

pub station_of-requires-clause-ports : goal.station_of-requires-clause-ports
station_of-requires-clause-ports c =
    let inside : DeclaredNetwork =
    network_within c.self.inside.shape c.self.inside.most_ports c.self.inside.stream_table c.self.inside.flow_table in
    let n : ℕ = c.args.stream in
    let same : c.args.self.now ≡ inside = sym c.self.view_is in
    let within : n < length inside.streams =
    subst (λ (network : DeclaredNetwork). n < length network.streams) same c.requires.stream in
    let there : c.args.leg ≤ length (get_or inside.streams n no_stream).branches =
    subst (λ (network : DeclaredNetwork). c.args.leg ≤ length (get_or network.streams n no_stream).branches) same
    c.requires.leg in
    let item : c.index-streams-stream.result ≡ get_or inside.streams n no_stream =
    c.index-streams-stream.is
    ∙ ap (λ (streams : List DeclaredStream). get_or streams n c.index-streams-stream.result)
    (c.streams.ensures.value ∙ ap (λ (network : DeclaredNetwork). network.streams) same)
    ∙ get_or_default inside.streams n c.index-streams-stream.result no_stream within in
    subst (ArePorts inside.topology.ports)
    (sym (c.as_slice.ensures.value ∙ c.route-route.ensures.value
    ∙ ap (λ (s : DeclaredStream). leg_at (routes_of s.ports s.branches) c.args.leg) item))
    (route_ports inside n c.args.leg c.self.invariant within there)

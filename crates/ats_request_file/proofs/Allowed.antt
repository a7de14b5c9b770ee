use Rattle.std.proofs.Common.{◌≡◌, ℕ, List, [], ◌∷◌, ◌++◌, None, sym, subst}
use Rattle.std.specs.List.{All}
use Rattle.std.proofs.lemmas.List.Elements.{All-push}
use Rattle.ats_topology.specs.Topology.{DeclaredTopology}
use Rattle.ats_streams.specs.Stream.{DeclaredStream, IsStream}
use Rattle.ats_network.specs.Network.{DeclaredNetwork, HasShortRoutes}
use Rattle.ats_network.specs.Path.{IsValidPath}
use Rattle.ats_network.proofs.TreeLemmas.{alone_tree}
use Rattle.ats_requests.specs.Requests.{MayAsk, MayEnter}
use Rattle.ats_requests.specs.declared.request.Request.{Request}

-- one more request that may be made over a network
pub more_allowed : (network : DeclaredNetwork) (requests more : List Request) (request : Request)
    → All (MayAsk network) requests → MayAsk network request → more ≡ requests ++ request ∷ []
    → All (MayAsk network) more
more_allowed network requests more request all asked is =
    subst (λ (rs : List Request). All (MayAsk network) rs) (sym is)
    (All-push (MayAsk network) requests request all asked)

-- a stream over a valid path that is short enough may be asked for
pub may_enter : (network : DeclaredNetwork) (topology : DeclaredTopology) (path : List ℕ) (most : ℕ)
    (stream : DeclaredStream) → topology ≡ network.topology → most ≡ network.most_ports → IsValidPath topology path
    → IsStream stream × (stream.ports ≡ path) × (stream.branches ≡ []) × (stream.identity ≡ None)
    → HasShortRoutes most stream → MayEnter network stream
may_enter network topology path most stream same most_is valid is short =
    let over : IsValidPath network.topology stream.ports =
    subst (λ (t : DeclaredTopology). IsValidPath t stream.ports) same
    (subst (IsValidPath topology) (sym is.1) valid) in
    record {
      rules = is.0;
      tree = alone_tree network.topology stream.ports stream.branches is.2 over;
      short = subst (λ (n : ℕ). HasShortRoutes n stream) most_is short;
      one_listener = is.2;
      unidentified = is.3;
    }

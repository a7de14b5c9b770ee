-- The node at the end of a route.
use Rattle.std.proofs.Common.{◌≡◌, ℕ, suc, ◌-◌, ◌<◌, List, [], ◌∷◌, length, get_or, ap, ◌∙◌, arith}
use Rattle.ats_topology.specs.Port.{port_at}
use Rattle.ats_topology.specs.Topology.{DeclaredTopology, node_at}
use Rattle.ats_topology.specs.Walks.{IsWalk}
use Rattle.ats_topology.specs.declared.port.Port.{Port}
use Rattle.ats_network.specs.Listeners.{end_of}
use Rattle.ats_network.specs.Path.{IsValidPath}
use Rattle.ats_listener_law.specs.Listeners.{StationIsAtTheEnd}

-- a walk ends at the node to which it leads
walk_ends : (ports : List Port) (a b : ℕ) (path : List ℕ) → IsWalk ports a b path → 0 < length path
    → end_of ports path ≡ b
walk_ends ports a b [] walk some = absurd (omega arith)
walk_ends ports a b (p ∷ []) walk some = walk.1
walk_ends ports a b (p ∷ q ∷ path) walk some =
    let last : length (p ∷ q ∷ path) - 1 ≡ suc (length (q ∷ path) - 1) = omega arith in
    ap (λ (k : ℕ). (port_at ports (get_or (p ∷ q ∷ path) k 0)).to) last
    ∙ walk_ends ports (port_at ports p).to b (q ∷ path) walk.1 (omega arith)

pub path_ends : (topology : DeclaredTopology) (route : List ℕ) → (valid : IsValidPath topology route)
    → end_of topology.ports route ≡ valid.listener
path_ends topology route valid =
    walk_ends topology.ports valid.talker valid.listener route valid.walk valid.some

pub station_is_at_the_end : StationIsAtTheEnd
station_is_at_the_end topology route valid =
    ap (λ (n : ℕ). (node_at topology.nodes n).name) (path_ends topology route valid)

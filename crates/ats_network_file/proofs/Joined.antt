-- Routes that a file of format 1 or 2 may declare lead from stations to stations.
use Rattle.std.proofs.Common.{◌≡◌, ℕ, suc, ◌-◌, ◌<◌, true, List, [], ◌∷◌, length, get_or, refl, sym, ap, subst, ◌∙◌}
use Rattle.std.proofs.Common.{arith}
use Rattle.std.specs.List.{All, list_all}
use Rattle.std.proofs.lemmas.Bool.{and_parts}
use Rattle.std.proofs.lemmas.List.Elements.{All-nil, All-cons, All-head, All-tail}
use Rattle.ats_topology.specs.Node.{is_station}
use Rattle.ats_topology.specs.Port.{port_at}
use Rattle.ats_topology.specs.Topology.{DeclaredTopology, IsTopology, node_at}
use Rattle.ats_topology.specs.Walks.{IsWalk}
use Rattle.ats_topology.specs.declared.port.Port.{Port}
use Rattle.ats_network.specs.Ends.{beginning_of, joins_stations}
use Rattle.ats_network.specs.Listeners.{end_of}
use Rattle.ats_network.specs.Path.{IsValidPath}
use Rattle.ats_network.proofs.BridgeLemmas.{listener_within, talker_within}
use Rattle.ats_network.proofs.ValidRoutes.{walk_first}
use Rattle.ats_network_table.specs.declared.format.Format.{Format}
use Rattle.ats_network_table.specs.declared.format.Format.TheVariants.{One, Two, Three}
use Rattle.ats_network_file.specs.Routes.{may_declare}
use Rattle.ats_network_file.specs.Stations.{JoinsStations}

-- a walk ends at the node to which it leads
walk_ends : (ports : List Port) (a b : ℕ) (path : List ℕ) → IsWalk ports a b path → 0 < length path
    → end_of ports path ≡ b
walk_ends ports a b [] walk some = absurd (omega arith)
walk_ends ports a b (p ∷ []) walk some = walk.1
walk_ends ports a b (p ∷ q ∷ path) walk some =
    let last : length (p ∷ q ∷ path) - 1 ≡ suc (length (q ∷ path) - 1) = omega arith in
    ap (λ (k : ℕ). (port_at ports (get_or (p ∷ q ∷ path) k 0)).to) last
    ∙ walk_ends ports (port_at ports p).to b (q ∷ path) walk.1 (omega arith)

joins : (topology : DeclaredTopology) (path : List ℕ) → IsTopology topology → IsValidPath topology path
    → joins_stations topology path ≡ true → JoinsStations topology path
joins topology path is valid test =
    let first : ℕ = beginning_of topology.ports path in
    let last : ℕ = end_of topology.ports path in
    let parts : (is_station (node_at topology.nodes first).kind ≡ true)
    × (is_station (node_at topology.nodes last).kind ≡ true) =
    and_parts (is_station (node_at topology.nodes first).kind) (is_station (node_at topology.nodes last).kind) test in
    let begins : first ≡ valid.talker =
    walk_first topology.ports valid.talker valid.listener path valid.walk valid.some in
    let ends : last ≡ valid.listener =
    walk_ends topology.ports valid.talker valid.listener path valid.walk valid.some in
    record {
      begins = record {
        within = subst (λ (n : ℕ). n < length topology.nodes) (sym begins) (talker_within topology path is valid);
        station = parts.0;
      };
      ends = record {
        within = subst (λ (n : ℕ). n < length topology.nodes) (sym ends) (listener_within topology path is valid);
        station = parts.1;
      };
    }

all_join : (topology : DeclaredTopology) (paths : List (List ℕ)) → IsTopology topology
    → All (IsValidPath topology) paths → list_all (joins_stations topology) paths ≡ true
    → All (JoinsStations topology) paths
all_join topology [] is valid test = All-nil (JoinsStations topology)
all_join topology (path ∷ paths) is valid test =
    let parts : (joins_stations topology path ≡ true) × (list_all (joins_stations topology) paths ≡ true) =
    and_parts (joins_stations topology path) (list_all (joins_stations topology) paths) test in
    All-cons (JoinsStations topology) path paths
    (joins topology path is (All-head (IsValidPath topology) path paths valid) parts.0)
    (all_join topology paths is (All-tail (IsValidPath topology) path paths valid) parts.1)

-- before format 3 a file may declare no others
joining : (format : Format) (topology : DeclaredTopology) (paths : List (List ℕ)) → (format ≡ Three → ⊥)
    → may_declare format topology paths ≡ true → list_all (joins_stations topology) paths ≡ true
joining One topology paths other may = may
joining Two topology paths other may = may
joining Three topology paths other may = absurd (other refl)

pub declared_join : (format : Format) (topology : DeclaredTopology) (paths : List (List ℕ)) → (format ≡ Three → ⊥)
    → IsTopology topology → All (IsValidPath topology) paths → may_declare format topology paths ≡ true
    → All (JoinsStations topology) paths
declared_join format topology paths other is valid may =
    all_join topology paths is valid (joining format topology paths other may)

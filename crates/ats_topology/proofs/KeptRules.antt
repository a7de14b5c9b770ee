use Rattle.std.proofs.Common.{◌≡◌, ℕ, Bool, List, length, sym, ap, ◌∙◌, subst, arith, Option, Some, None, IfSome, true}
use Rattle.std.specs.Prelude.{◌==◌}
use Rattle.std.proofs.lemmas.Bool.{eqb-true, and_parts}
use Rattle.std.specs.List.{All}
use Rattle.std.proofs.lemmas.List.Elements.{All-weaker}
use Rattle.ats_topology.specs.Port.{IsBetween, ArePaired, GoesBetween, port_between, port_at, goes, no_port}
use Rattle.ats_topology.specs.PortTable.{NodePorts}
use Rattle.ats_topology.specs.Topology.{DeclaredTopology, ports_of, topology_of, IsPort, IsTopology, HasLawfulPorts}
use Rattle.ats_topology.specs.Kept.{AreKept}
use Rattle.ats_topology.specs.declared.node.Node.{Node}
use Rattle.ats_topology.specs.declared.link.Link.{Link}
use Rattle.ats_topology.specs.declared.port.Port.{Port}
use Rattle.ats_topology.proofs.Rules.{topology_rules, ports_are_lawful}
use Rattle.ats_topology.proofs.PositionLemmas.{IsFound, found}

-- what is kept beside nodes and links makes them a topology
pub kept_rules : (nodes : List Node) (links : List Link) (table : List (List ℕ))
    (between : NodePorts) {ideal : Bool} (value : DeclaredTopology) → AreKept nodes links table between ideal
    → record { nodes = nodes; links = links; ports = between.ports } ≡ value → IsTopology value
kept_rules nodes links table between value kept is =
    let with_ports : List Port → DeclaredTopology = λ ports. record { nodes = nodes; links = links; ports = ports } in
    subst IsTopology (sym (ap with_ports (ap (λ (v : NodePorts). v.ports) kept.ports)) ∙ is)
    (topology_rules nodes links kept.sound)

-- and its ports keep what those of a topology keep
pub kept_ports : (nodes : List Node) (links : List Link) (table : List (List ℕ))
    (between : NodePorts) {ideal : Bool} (value : DeclaredTopology) → AreKept nodes links table between ideal
    → record { nodes = nodes; links = links; ports = between.ports } ≡ value → HasLawfulPorts value
kept_ports nodes links table between value kept is =
    ports_are_lawful value (kept_rules nodes links table between value kept is)

own_ports : (nodes : List Node) (links : List Link) (table : List (List ℕ)) (between : NodePorts) {ideal : Bool}
    → AreKept nodes links table between ideal → HasLawfulPorts (topology_of nodes links)
own_ports nodes links table between kept =
    ports_are_lawful (topology_of nodes links) (topology_rules nodes links kept.sound)

-- its ports lie between its nodes
pub all_between : (nodes : ℕ) (ports : List Port) → All (IsPort nodes) ports → All (IsBetween nodes) ports
all_between nodes ports each = All-weaker (IsPort nodes) (IsBetween nodes) (λ p h. h.between) ports each

-- the same of the table of ports
pub table_between : (nodes : List Node) (links : List Link) (table : List (List ℕ)) (between : NodePorts) {ideal : Bool}
    → AreKept nodes links table between ideal → All (IsBetween between.nodes) between.ports
table_between nodes links table between kept =
    subst (λ (v : NodePorts). All (IsBetween v.nodes) v.ports) (sym kept.ports)
    (all_between (length nodes) (ports_of nodes links) (own_ports nodes links table between kept).each)

pub table_paired : (nodes : List Node) (links : List Link) (table : List (List ℕ)) (between : NodePorts) {ideal : Bool}
    → AreKept nodes links table between ideal → ArePaired between.ports
table_paired nodes links table between kept =
    subst (λ (v : NodePorts). ArePaired v.ports) (sym kept.ports) (own_ports nodes links table between kept).paired

-- the port that a search finds goes between its nodes
pub goes_between : (ports : List Port) (a b : ℕ) (number : Option ℕ) → number ≡ port_between a b ports
    → IfSome number (GoesBetween ports a b)
goes_between ports a b None is = tt
goes_between ports a b (Some p) is =
    let f : IsFound (goes a b) ports no_port 0 p = found (goes a b) 0 ports p no_port (sym is) in
    let same : f.place ≡ p = omega (arith, f.is) in
    let parts : ((port_at ports f.place).from == a ≡ true) × ((port_at ports f.place).to == b ≡ true) =
    and_parts ((port_at ports f.place).from == a) ((port_at ports f.place).to == b) f.passes in
    subst (GoesBetween ports a b) same (record {
      within = f.within;
      from = eqb-true (port_at ports f.place).from a parts.0;
      to = eqb-true (port_at ports f.place).to b parts.1;
    })

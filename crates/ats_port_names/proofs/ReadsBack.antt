-- The names of ports tell them apart.
use Rattle.std.proofs.Common.{◌≡◌, ◌∙◌, ℕ, ◌+◌, ◌<◌, Bool, true, ◌&&◌, List, [], ◌∷◌, ◌++◌, get_or, length, Some, refl}
use Rattle.std.proofs.Common.{sym, ap, append_assoc, arith}
use Rattle.std.specs.Prelude.{◌==◌, IsTrue, nat_le}
use Rattle.std.specs.Bool.{one_answer}
use Rattle.std.specs.List.{All, list_all, position_from}
use Rattle.std.specs.Str.{bytes_eq}
use Rattle.std.proofs.lemmas.Bool.{and_parts, eqb-true, eq-eqb, false≢true}
use Rattle.std.proofs.lemmas.List.{get_or-map, length-map}
use Rattle.std.proofs.lemmas.List.Elements.{All-head, All-tail}
use Rattle.std.proofs.lemmas.Slice.Eq.{bytes_eq-Decides}
use Rattle.ats_num.specs.Name.{is_name, is_name_byte}
use Rattle.ats_num.specs.Places.{place_of}
use Rattle.ats_topology.specs.Node.{AreApart, names_of}
use Rattle.ats_topology.specs.Port.{goes, no_port, port_at}
use Rattle.ats_topology.specs.Topology.{DeclaredTopology, IsPort, IsTopology, no_node, node_at, ports_of, topology_of}
use Rattle.ats_topology.specs.declared.node.Node.{Node}
use Rattle.ats_topology.specs.declared.link.Link.{Link}
use Rattle.ats_topology.specs.declared.port.Port.{Port}
use Rattle.ats_topology.proofs.Rules.{topology_rules, ports_are_lawful}
use Rattle.ats_port_names.proofs.Ends.{between_ends}
use Rattle.ats_port_names.specs.Laws.{AreSound, PortReadsBack}
use Rattle.ats_port_names.specs.PortName.{name_of}

-- two texts, each of name bytes before a `>`, are the same only where both parts are
record AreSplit (a x b y : List ℕ) : Type 0 where
  front : a ≡ x
  back : b ≡ y

split : (a x b y : List ℕ) → list_all is_name_byte a ≡ true → list_all is_name_byte x ≡ true → a ++ 62 ∷ b ≡ x ++ 62 ∷ y
    → AreSplit a x b y
split [] [] b y h g e = record { front = refl; back = cc e }
split [] (c ∷ x) b y h g e =
    let byte : is_name_byte c ≡ true = (and_parts (is_name_byte c) (list_all is_name_byte x) g).0 in
    let same : c ≡ 62 = cc e in
    absurd (false≢true (ap is_name_byte (sym same) ∙ byte))
split (c ∷ a) [] b y h g e =
    let byte : is_name_byte c ≡ true = (and_parts (is_name_byte c) (list_all is_name_byte a) h).0 in
    let same : c ≡ 62 = cc e in
    absurd (false≢true (ap is_name_byte (sym same) ∙ byte))
split (c ∷ a) (d ∷ x) b y h g e =
    let same : c ≡ d = cc e in
    let tails : a ++ 62 ∷ b ≡ x ++ 62 ∷ y = cc e in
    let rest = split a x b y (and_parts (is_name_byte c) (list_all is_name_byte a) h).1
    (and_parts (is_name_byte d) (list_all is_name_byte x) g).1 tails in
    record { front = rw (same, rest.front) refl; back = rest.back }

-- a name has name bytes only
name_bytes : (text : List ℕ) → IsTrue (is_name text) → list_all is_name_byte text ≡ true
name_bytes text h = (and_parts (nat_le 1 (length text) && nat_le (length text) 32) (list_all is_name_byte text) h).1

-- nodes with one name are one node
one_node : (nodes : List Node) → AreApart (names_of nodes) → (m n : ℕ) → m < length nodes → n < length nodes
    → (node_at nodes m).name ≡ (node_at nodes n).name → m ≡ n
one_node nodes apart m n inside within same =
    let long : length (names_of nodes) ≡ length nodes = simp length-map in
    let at : (k : ℕ) → k < length nodes → place_of (node_at nodes k).name (names_of nodes) ≡ Some k =
    λ k small. ap (λ name. place_of name (names_of nodes))
    (sym (get_or-map (λ (node : Node). node.name) nodes k no_node [] small)) ∙ apart k (omega arith) in
    let both : Some m ≡ Some n = sym (at m inside) ∙ ap (λ name. place_of name (names_of nodes)) same ∙ at n within in
    cc both

-- two searches with tests that agree
position_from-same : (t u : Port → Bool) (k : ℕ) (ports : List Port) → All (λ (port : Port). t port ≡ u port) ports
    → position_from t k ports ≡ position_from u k ports
position_from-same t u k [] same = refl
position_from-same t u k (port ∷ ports) same =
    rw (
      All-head (λ (q : Port). t q ≡ u q) port ports same,
      position_from-same t u (k + 1) ports (All-tail (λ (q : Port). t q ≡ u q) port ports same),
    ) refl

module _ (nodes : List Node) (links : List Link) (sound : AreSound nodes links) where
  rules : IsTopology (topology_of nodes links)
  rules = topology_rules nodes links sound.sound

  valid : (n : ℕ) → n < length nodes → list_all is_name_byte (node_at nodes n).name ≡ true
  valid n within = name_bytes (node_at nodes n).name (sound.names n no_node within)

  -- the names of two ports are the same where they go between the same nodes
  same_ends : (p q : Port) → IsPort (length nodes) p → IsPort (length nodes) q
      → bytes_eq (name_of (topology_of nodes links) p) (name_of (topology_of nodes links) q) ≡ goes p.from p.to q
  same_ends p q is_p is_q =
      let topology = topology_of nodes links in
      one_answer (bytes_eq (name_of topology p) (name_of topology q)) (goes p.from p.to q)
      (bytes_eq-Decides (name_of topology p) (name_of topology q)) (
        λ h. let parts = and_parts (q.from == p.from) (q.to == p.to) h in
            rw (eqb-true q.from p.from parts.0, eqb-true q.to p.to parts.1) refl,
        λ e. let texts : (node_at nodes p.from).name ++ 62 ∷ (node_at nodes p.to).name
            ≡ (node_at nodes q.from).name ++ 62 ∷ (node_at nodes q.to).name =
            sym (append_assoc (node_at nodes p.from).name (62 ∷ []) (node_at nodes p.to).name) ∙ e
            ∙ append_assoc (node_at nodes q.from).name (62 ∷ []) (node_at nodes q.to).name in
            let parts = split (node_at nodes p.from).name (node_at nodes q.from).name (node_at nodes p.to).name
            (node_at nodes q.to).name
            (valid p.from is_p.between.from) (valid q.from is_q.between.from) texts in
            let from : q.from ≡ p.from =
            one_node nodes rules.names q.from p.from is_q.between.from is_p.between.from (sym parts.front) in
            let to : q.to ≡ p.to =
            one_node nodes rules.names q.to p.to is_q.between.to is_p.between.to (sym parts.back) in
            rw (eq-eqb q.from p.from from, eq-eqb q.to p.to to) refl,
      )

pub port_reads_back : PortReadsBack
port_reads_back nodes links sound p within =
    let ports : List Port = ports_of nodes links in
    let port : Port = port_at ports p in
    let topology : DeclaredTopology = topology_of nodes links in
    let each = (ports_are_lawful topology (topology_rules nodes links sound.sound)).each in
    position_from-same (λ (q : Port). bytes_eq (name_of topology port) (name_of topology q))
    (goes port.from port.to) 0 ports
    (λ k d small. same_ends nodes links sound port (get_or ports k d) (each p no_port within) (each k d small))
    ∙ between_ends nodes links sound.sound p within

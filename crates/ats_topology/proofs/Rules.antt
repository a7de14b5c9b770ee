use Rattle.std.proofs.Common.{◌≡◌, ℕ, zero, suc, ◌+◌, ◌*◌, ◌<◌, ◌≤◌, Bool, true, false, cond, not, ◌||◌, List, [], ◌∷◌}
use Rattle.std.proofs.Common.{length, get_or, Option, Some, None, refl, sym, ap, ◌∙◌, arith, eqb, subst, ⊎_elim, IsSome}
use Rattle.std.proofs.Common.{IsTrue}
use Rattle.std.specs.Prelude.{unwrap_or, ◌==◌, nat_lt}
use Rattle.std.specs.List.{All, list_any, count_by, AllByRecursion}
use Rattle.std.specs.Map.{lookup}
use Rattle.std.specs.Str.{bytes_eq}
use Rattle.std.proofs.lemmas.Bool.{cases_lt, false≢true, true≢false, or_parts, eqb-true, ltb-false, not-false}
use Rattle.std.proofs.lemmas.Bool.{and_cases}
use Rattle.std.proofs.lemmas.List.{get_or_past, get_or_default}
use Rattle.std.proofs.lemmas.List.Sums.{sum_by-cons}
use Rattle.std.proofs.lemmas.List.Elements.{All-nil, All-cons, All-head, All-tail, All-weaker}
use Rattle.std.proofs.lemmas.Slice.Eq.{bytes_eq-Decides}
use Rattle.ats_facts.proofs.Options.{option_or-none, cond-none}
use Rattle.ats_num.specs.Places.{place_of}
use Rattle.ats_clock.specs.declared.clock.TheConstants.{MAX_DEVIATION_PPM, MAX_STEP_PS}
use Rattle.ats_topology.specs.Node.{names_of, is_station, least_processing_of, greatest_processing_of, residence_of}
use Rattle.ats_topology.specs.Node.{AreApart, clock_of}
use Rattle.ats_topology.specs.Link.{ends_at, is_self_link}
use Rattle.ats_topology.specs.Rates.{ps_per_bit_of, link_rates, IsPsPerBit}
use Rattle.ats_topology.specs.Port.{port_at, leaves, leads_to, HasBack, ArePaired}
use Rattle.ats_topology.specs.Faults.{topology_fault, node_twice, link_twice, self_link, unknown_node, station_links}
use Rattle.ats_topology.specs.Faults.{bad_rate, is_over, is_node_over, is_link_over, is_badly_linked, bad_processing}
use Rattle.ats_topology.specs.Faults.{has_bad_processing, limit}
use Rattle.ats_topology.specs.Topology.{no_node, node_at, node_number, link_at, port_of, ports_of, topology_of, IsNode}
use Rattle.ats_topology.specs.Topology.{IsLink, IsPort, HasOnePort, DeclaredTopology, IsTopology, HasOneLink}
use Rattle.ats_topology.specs.Topology.{HasLawfulPorts}
use Rattle.ats_topology.specs.declared.fault.TopologyFault.TheVariants.{StationLinks, SelfLink, Limit, BadProcessing}
use Rattle.ats_topology.specs.declared.node.Node.{Node}
use Rattle.ats_topology.specs.declared.link.Link.{Link}
use Rattle.ats_topology.specs.declared.port.Port.{Port}
use Rattle.ats_topology.specs.declared.node.TheConstants.{MAX_NODES, MAX_PROCESSING_NS, MAX_RESIDENCE_NS}
use Rattle.ats_topology.specs.declared.link.TheConstants.{MAX_LINKS, MAX_PROPAGATION_NS}
use Rattle.ats_topology.proofs.PositionLemmas.{all_fail}
use Rattle.ats_topology.proofs.NameLemmas.{length-names_of, name_at}
use Rattle.ats_topology.proofs.Known.{IsOpen, no_place, apart, all_open, number_is, name_there}
use Rattle.ats_topology.proofs.Numbered.{node_number_is, node_number_within, has_rate, length-ports_of}

-- no fault of any kind
pub record HasNoFault (nodes : List Node) (links : List Link) : Type 0 where
  pub apart : node_twice nodes ≡ None
  pub joined : link_twice links ≡ None
  pub differ : self_link links ≡ None
  pub known : unknown_node nodes links ≡ None
  pub stations : station_links nodes links ≡ None
  pub rated : bad_rate links ≡ None
  pub within : is_over nodes links ≡ false
  pub ordered : bad_processing nodes ≡ None

pub no_fault : (nodes : List Node) (links : List Link) → topology_fault nodes links ≡ None → HasNoFault nodes links
no_fault nodes links h =
    let one = option_or-none (node_twice nodes) _ h in
    let two = option_or-none (link_twice links) _ one.1 in
    let three = option_or-none (self_link links) _ two.1 in
    let four = option_or-none (unknown_node nodes links) _ three.1 in
    let five = option_or-none (station_links nodes links) _ four.1 in
    let six = option_or-none (bad_rate links) _ five.1 in
    let seven = option_or-none (limit nodes links) _ six.1 in
    record {
      apart = one.0;
      joined = two.0;
      differ = three.0;
      known = four.0;
      stations = five.0;
      rated = six.0;
      within = cond-none (is_over nodes links) Limit seven.0;
      ordered = seven.1;
    }

any_false : {X : Type 0} (t : X → Bool) (xs : List X) → list_any t xs ≡ false → All (λ (x : X). t x ≡ false) xs
any_false t [] h = All-nil (λ x. t x ≡ false)
any_false t (x ∷ xs) h =
    let parts : (t x ≡ false) × (list_any t xs ≡ false) = or_parts (t x) (list_any t xs) h in
    All-cons (λ y. t y ≡ false) x xs parts.0 (any_false t xs parts.1)

four_parts : (a b d e : Bool) → (a || b || d || e) ≡ false
    → (a ≡ false) × (b ≡ false) × (d ≡ false) × (e ≡ false)
four_parts true b d e h = absurd (true≢false h)
four_parts false true d e h = absurd (true≢false h)
four_parts false false true e h = absurd (true≢false h)
four_parts false false false e h = (refl, refl, refl, h)

-- all that is within its limit
record IsWithinLimits (nodes : List Node) (links : List Link) : Type 0 where
  few_nodes : length nodes ≤ MAX_NODES
  few_links : length links ≤ MAX_LINKS
  each_node : All (λ (node : Node). is_node_over node ≡ false) nodes
  propagation : All (λ (link : Link). link.propagation_ns ≤ MAX_PROPAGATION_NS) links

is_node : (node : Node) → is_node_over node ≡ false → has_bad_processing node ≡ false → IsNode node
is_node node h ordered =
    let a : Bool = nat_lt MAX_PROCESSING_NS (greatest_processing_of node.kind) in
    let b : Bool = nat_lt MAX_RESIDENCE_NS (residence_of node.kind) in
    let d : Bool = nat_lt MAX_DEVIATION_PPM (clock_of node.kind).deviation_ppm in
    let e : Bool = nat_lt MAX_STEP_PS (clock_of node.kind).step_ps in
    let parts : (a ≡ false) × (b ≡ false) × (d ≡ false) × (e ≡ false) = four_parts a b d e h in
    record {
      ordered = ltb-false (greatest_processing_of node.kind) (least_processing_of node.kind) ordered;
      processing = ltb-false MAX_PROCESSING_NS (greatest_processing_of node.kind) parts.0;
      residence = ltb-false MAX_RESIDENCE_NS (residence_of node.kind) parts.1;
      clock = record {
        deviation = ltb-false MAX_DEVIATION_PPM (clock_of node.kind).deviation_ppm parts.2;
        step = ltb-false MAX_STEP_PS (clock_of node.kind).step_ps parts.3;
      };
    }

limits : (nodes : List Node) (links : List Link) → is_over nodes links ≡ false → IsWithinLimits nodes links
limits nodes links h =
    let a : Bool = nat_lt MAX_NODES (length nodes) in
    let b : Bool = nat_lt MAX_LINKS (length links) in
    let d : Bool = list_any is_node_over nodes in
    let e : Bool = list_any is_link_over links in
    let parts : (a ≡ false) × (b ≡ false) × (d ≡ false) × (e ≡ false) = four_parts a b d e h in
    record {
      few_nodes = ltb-false MAX_NODES (length nodes) parts.0;
      few_links = ltb-false MAX_LINKS (length links) parts.1;
      each_node = any_false is_node_over nodes parts.2;
      propagation =
          All-weaker (λ (l : Link). is_link_over l ≡ false) (λ (l : Link). l.propagation_ns ≤ MAX_PROPAGATION_NS)
          (λ l g. ltb-false MAX_PROPAGATION_NS l.propagation_ns g) links (any_false is_link_over links parts.3);
    }

link_of : (nodes : List Node) (link : Link) → IsOpen (names_of nodes) link → IsSome (ps_per_bit_of link.mbps)
    → is_self_link link ≡ false → link.propagation_ns ≤ MAX_PROPAGATION_NS → IsLink nodes link
link_of nodes link o rate self within = record {
  a = subst IsSome (sym o.a_at) refl;
  b = subst IsSome (sym o.b_at) refl;
  differ = λ same. false≢true (sym self ∙ (bytes_eq-Decides link.a link.b).1 same);
  rate = rate;
  propagation = within;
}

-- a value of the table of rates
value_of : (P : ℕ → Type 0) (t : ℕ → Bool) (rows : List (ℕ × ℕ)) (v : ℕ)
    → AllByRecursion (λ (row : ℕ × ℕ). P row.1) rows → lookup t rows ≡ Some v → P v
value_of P t [] v each h = absurd (no_number v h)
  where
    no_number : (n : ℕ) → None ≡ Some n → ⊥
    no_number n g = cc
value_of P t (row ∷ rows) v each h = by (t row.0) h (value_of P t rows v each.1)
  where
    number_is' : (a b : ℕ) → Some a ≡ Some b → a ≡ b
    number_is' a b g = cc

    by : (b : Bool) → cond b (Some row.1) (lookup t rows) ≡ Some v → (lookup t rows ≡ Some v → P v) → P v
    by true g more = subst P (number_is' row.1 v g) each.0
    by false g more = more g

tabled : AllByRecursion (λ (row : ℕ × ℕ). IsPsPerBit row.1) link_rates
tabled = (
  row 100000 refl (omega arith) (omega arith),
  (
    row 10000 refl (omega arith) (omega arith),
    (
      row 1000 refl (omega arith) (omega arith),
      (
        row 400 refl (omega arith) (omega arith),
        (
          row 200 refl (omega arith) (omega arith),
          (
            row 100 refl (omega arith) (omega arith),
            (
              row 40 refl (omega arith) (omega arith),
              (
                row 25 refl (omega arith) (omega arith),
                (row 20 refl (omega arith) (omega arith), (row 10 refl (omega arith) (omega arith), tt)),
              ),
            ),
          ),
        ),
      ),
    ),
  ),
)
  where
    row : (ps : ℕ) → IsTrue (list_any (λ (r : ℕ × ℕ). r.1 == ps) link_rates) → 10 ≤ ps → ps ≤ 100000 → IsPsPerBit ps
    row ps in_table least most = record { tabled = in_table; least = least; most = most }

rate_of : (mbps : ℕ) → IsSome (ps_per_bit_of mbps) → IsPsPerBit (unwrap_or (ps_per_bit_of mbps) 0)
rate_of mbps h = by (ps_per_bit_of mbps) refl h
  where
    by : (o : Option ℕ) → ps_per_bit_of mbps ≡ o → IsSome o → IsPsPerBit (unwrap_or o 0)
    by None e g = absurd (false≢true g)
    by (Some v) e g = value_of IsPsPerBit (λ rate. rate == mbps) link_rates v tabled e

station_is : IsNode no_node
station_is = record {
  ordered = omega arith;
  processing = omega arith;
  residence = omega arith;
  clock = record { deviation = omega arith; step = omega arith };
}

-- so does the node with any number, where one past the end is a station
pub node_is : (nodes : List Node) → All IsNode nodes → (n : ℕ) → IsNode (node_at nodes n)
node_is nodes each n = ⊎_elim (each n no_node)
    (λ h. subst IsNode (sym (get_or_past nodes n no_node h)) station_is) (cases_lt n (length nodes))

-- the port from one end of a link to the other keeps what a port keeps
port_is : (nodes : List Node) (link : Link) (x y : List ℕ) (m n : ℕ) → place_of x (names_of nodes) ≡ Some m
    → place_of y (names_of nodes) ≡ Some n → (m ≡ n → ⊥) → IsSome (ps_per_bit_of link.mbps)
    → link.propagation_ns ≤ MAX_PROPAGATION_NS → All IsNode nodes
    → IsPort (length nodes) (port_of nodes link x y)
port_is nodes link x y m n at_x at_y differ rate within each = record {
  between = record { from = node_number_within nodes x m at_x; to = node_number_within nodes y n at_y };
  differ = λ same. differ (sym (node_number_is nodes x m at_x) ∙ same ∙ node_number_is nodes y n at_y);
  rate = rate_of link.mbps rate;
  ordered = omega (arith, (node_is nodes each (node_number nodes y)).ordered);
  latency = omega (arith, within, (node_is nodes each (node_number nodes y)).processing);
  spread = omega (arith, (node_is nodes each (node_number nodes y)).processing);
}

ports_are : (nodes : List Node) → All IsNode nodes → (links : List Link) → All (IsOpen (names_of nodes)) links
    → All (IsLink nodes) links → All (IsPort (length nodes)) (ports_of nodes links)
ports_are nodes each [] opens links_are = All-nil (IsPort (length nodes))
ports_are nodes each (link ∷ links) opens links_are =
    let o : IsOpen (names_of nodes) link = All-head (IsOpen (names_of nodes)) link links opens in
    let l : IsLink nodes link = All-head (IsLink nodes) link links links_are in
    All-cons (IsPort (length nodes)) (port_of nodes link link.a link.b) (port_of nodes link link.b link.a
    ∷ ports_of nodes links) (port_is nodes link link.a link.b o.a o.b o.a_at o.b_at o.differ l.rate l.propagation each)
    (All-cons (IsPort (length nodes)) (port_of nodes link link.b link.a) (ports_of nodes links)
    (port_is nodes link link.b link.a o.b o.a o.b_at o.a_at (λ e. o.differ (sym e)) l.rate l.propagation each)
    (ports_are nodes each links (All-tail (IsOpen (names_of nodes)) link links opens)
    (All-tail (IsLink nodes) link links links_are)))

-- two ports on is one link on
port_later : (p q : Port) (ports : List Port) (n : ℕ) → port_at (p ∷ q ∷ ports) (n + 2) ≡ port_at ports n
port_later p q ports n = let same : n + 2 ≡ suc (suc n) = omega arith in ap (port_at (p ∷ q ∷ ports)) same

there_at : (nodes : List Node) (links : List Link) (i : ℕ) → i < length links
    → port_at (ports_of nodes links) (2 * i) ≡ port_of nodes (link_at links i) (link_at links i).a (link_at links i).b
there_at nodes [] i within = absurd (omega arith)
there_at nodes (link ∷ links) zero within = refl
there_at nodes (link ∷ links) (suc i) within =
    let on : 2 * suc i ≡ 2 * i + 2 = omega arith in
    ap (port_at (ports_of nodes (link ∷ links))) on ∙ port_later _ _ (ports_of nodes links) (2 * i)
    ∙ there_at nodes links i (omega arith)

back_at : (nodes : List Node) (links : List Link) (i : ℕ)
    → i < length links → port_at (ports_of nodes links) (2 * i + 1)
    ≡ port_of nodes (link_at links i) (link_at links i).b (link_at links i).a
back_at nodes [] i within = absurd (omega arith)
back_at nodes (link ∷ links) zero within = refl
back_at nodes (link ∷ links) (suc i) within =
    let on : 2 * suc i + 1 ≡ (2 * i + 1) + 2 = omega arith in
    ap (port_at (ports_of nodes (link ∷ links))) on ∙ port_later _ _ (ports_of nodes links) (2 * i + 1)
    ∙ back_at nodes links i (omega arith)

-- each port has one that leads back, the other of its link
pub all_paired : (nodes : List Node) (links : List Link) → ArePaired (ports_of nodes links)
all_paired nodes [] p within = absurd (omega arith)
all_paired nodes (link ∷ links) zero within = record { back = suc zero; within = omega arith; from = refl; to = refl }
all_paired nodes (link ∷ links) (suc zero) within = record { back = zero; within = omega arith; from = refl; to = refl }
all_paired nodes (link ∷ links) (suc (suc p)) within =
    let b : HasBack (ports_of nodes links) p = all_paired nodes links p (omega arith) in
    record { back = suc (suc b.back); within = omega (arith, b.within); from = b.from; to = b.to }

abbrev one_if : Bool → ℕ
one_if b = cond b 1 0

one_of : (p q : Bool) → (p ≡ true → q ≡ true → ⊥) → one_if p + one_if q ≡ one_if (p || q)
one_of true true h = absurd (h refl refl)
one_of true false h = refl
one_of false true h = refl
one_of false false h = refl

-- a name is an end of a link by one of its two ends
not_both : (names : List (List ℕ)) (link : Link) → IsOpen names link → (name : List ℕ) → bytes_eq link.a name ≡ true
    → bytes_eq link.b name ≡ true → ⊥
not_both names link o name at_a at_b =
    let same : link.a ≡ link.b = (bytes_eq-Decides link.a name).0 at_a ∙ sym ((bytes_eq-Decides link.b name).0 at_b) in
    o.differ (number o.a o.b (sym o.a_at ∙ ap (λ (x : List ℕ). place_of x names) same ∙ o.b_at))
  where
    number : (a b : ℕ) → Some a ≡ Some b → a ≡ b
    number a b g = cc

number_test : (nodes : List Node) → AreApart (names_of nodes) → (name : List ℕ) (m n : ℕ)
    → place_of name (names_of nodes) ≡ Some m → n < length (names_of nodes)
    → eqb (node_number nodes name) n ≡ bytes_eq name (get_or (names_of nodes) n [])
number_test nodes separate name m n at within = ap (λ (k : ℕ). eqb k n) (node_number_is nodes name m at)
    ∙ number_is (names_of nodes) separate name m n at within

-- as many ports leave a node, and lead to it, as links end at it
count_ports : (nodes : List Node) → AreApart (names_of nodes) → (n : ℕ) → n < length (names_of nodes)
    → (links : List Link) → All (IsOpen (names_of nodes)) links
    → (count_by (leaves n) (ports_of nodes links) ≡ count_by (ends_at (get_or (names_of nodes) n [])) links)
    × (count_by (leads_to n) (ports_of nodes links) ≡ count_by (ends_at (get_or (names_of nodes) n [])) links)
count_ports nodes separate n within [] opens = (refl, refl)
count_ports nodes separate n within (link ∷ links) opens =
    let names : List (List ℕ) = names_of nodes in
    let name : List ℕ = get_or names n [] in
    let o : IsOpen names link = All-head (IsOpen names) link links opens in
    let rest = count_ports nodes separate n within links (All-tail (IsOpen names) link links opens) in
    let there : Port = port_of nodes link link.a link.b in
    let back : Port = port_of nodes link link.b link.a in
    let a : leaves n there ≡ bytes_eq link.a name = number_test nodes separate link.a o.a n o.a_at within in
    let b : leaves n back ≡ bytes_eq link.b name = number_test nodes separate link.b o.b n o.b_at within in
    let one = one_of (bytes_eq link.a name) (bytes_eq link.b name) (not_both names link o name) in
    let as_leaving : (one_if (leaves n there) ≡ one_if (bytes_eq link.a name))
    × (one_if (leaves n back) ≡ one_if (bytes_eq link.b name)) = (ap one_if a, ap one_if b) in
    let as_leading : (one_if (leads_to n there) ≡ one_if (bytes_eq link.b name))
    × (one_if (leads_to n back) ≡ one_if (bytes_eq link.a name)) = (ap one_if b, ap one_if a) in (
      omega (
        arith,
        rest.0,
        one,
        as_leaving.0,
        as_leaving.1,
        sum_by-cons (λ (p : Port). one_if (leaves n p)) there (back ∷ ports_of nodes links),
        sum_by-cons (λ (p : Port). one_if (leaves n p)) back (ports_of nodes links),
        sum_by-cons (λ (l : Link). one_if (ends_at name l)) link links,
      ),
      omega (
        arith,
        rest.1,
        one,
        as_leading.0,
        as_leading.1,
        sum_by-cons (λ (p : Port). one_if (leads_to n p)) there (back ∷ ports_of nodes links),
        sum_by-cons (λ (p : Port). one_if (leads_to n p)) back (ports_of nodes links),
        sum_by-cons (λ (l : Link). one_if (ends_at name l)) link links,
      ),
    )

one_link : (links : List Link) (node : Node) → is_badly_linked links node ≡ false → is_station node.kind ≡ true
    → count_by (ends_at node.name) links ≡ 1
one_link links node fine station =
    ⊎_elim (λ h. absurd (true≢false (sym station ∙ h)))
    (λ h. eqb-true (count_by (ends_at node.name) links) 1 (not-false (count_by (ends_at node.name) links == 1) h))
    (and_cases (is_station node.kind) (not (count_by (ends_at node.name) links == 1)) fine)

-- nodes and links without a fault make a topology
pub topology_rules : (nodes : List Node) (links : List Link) → topology_fault nodes links ≡ None
    → IsTopology (topology_of nodes links)
topology_rules nodes links sound = record {
  numbered = refl;
  names = apart nodes none.apart;
  few_nodes = small.few_nodes;
  few_links = small.few_links;
  each_node = λ k d h. is_node (get_or nodes k d) (small.each_node k d h) (ordered k d h);
  each_link =
      λ k d h. link_of nodes (get_or links k d) (opens k d h) (rate k d h) (self k d h) (small.propagation k d h);
  stations = λ k d h. one_link links (get_or nodes k d) (linked k d h);
}
  where
    none : HasNoFault nodes links
    none = no_fault nodes links sound

    small : IsWithinLimits nodes links
    small = limits nodes links none.within

    ordered : All (λ (node : Node). has_bad_processing node ≡ false) nodes
    ordered = all_fail has_bad_processing 0 nodes (no_place BadProcessing _ none.ordered)

    linked : All (λ (node : Node). is_badly_linked links node ≡ false) nodes
    linked = all_fail (is_badly_linked links) 0 nodes (no_place StationLinks _ none.stations)

    opens : All (IsOpen (names_of nodes)) links
    opens = all_open nodes links none.known none.differ

    self : All (λ (link : Link). is_self_link link ≡ false) links
    self = all_fail is_self_link 0 links (no_place SelfLink _ none.differ)

    rate : All (λ (link : Link). IsSome (ps_per_bit_of link.mbps)) links
    rate k d h = has_rate links none.rated k (get_or links k d) h (get_or_default links k d (get_or links k d) h)

-- the ends of a link of a topology are numbers of two nodes
open_of : (nodes : List Node) (link : Link) → IsLink nodes link → IsOpen (names_of nodes) link
open_of nodes link l =
    let names : List (List ℕ) = names_of nodes in
    let a : (n : ℕ) × (place_of link.a names ≡ Some n) = there (place_of link.a names) l.a in
    let b : (n : ℕ) × (place_of link.b names ≡ Some n) = there (place_of link.b names) l.b in
    record {
      a = a.0;
      b = b.0;
      a_at = a.1;
      b_at = b.1;
      differ = λ same. l.differ ((name_there names link.a a.0 a.1).1 ∙ ap (λ (n : ℕ). get_or names n []) same
          ∙ sym (name_there names link.b b.0 b.1).1);
    }
  where
    there : (o : Option ℕ) → IsSome o → (n : ℕ) × (o ≡ Some n)
    there None h = absurd (false≢true h)
    there (Some n) h = (n, refl)

-- what the ports of the links of nodes and links keep, where these make a topology
ports_keep : (nodes : List Node) (links : List Link) → AreApart (names_of nodes) → All IsNode nodes
    → All (IsLink nodes) links
    → All (λ (node : Node). IsTrue (is_station node.kind) → HasOneLink links node) nodes
    → HasLawfulPorts (topology_of nodes links)
ports_keep nodes links separate each_node each_link linked = record {
  two_each = length-ports_of nodes links;
  each = ports_are nodes each_node links opens each_link;
  link_ports = λ i h. record { there = there_at nodes links i h; back = back_at nodes links i h };
  stations = station;
  paired = all_paired nodes links;
}
  where
    opens : All (IsOpen (names_of nodes)) links
    opens k d h = open_of nodes (get_or links k d) (each_link k d h)

    station : (n : ℕ) → n < length nodes → IsTrue (is_station (node_at nodes n).kind)
        → HasOnePort (ports_of nodes links) n
    station n within is =
        let node : Node = node_at nodes n in
        let named : n < length (names_of nodes) = omega (arith, length-names_of nodes) in
        let name : get_or (names_of nodes) n [] ≡ node.name =
        name_at nodes n node within (get_or_default nodes n no_node node within) in
        let one : count_by (ends_at (get_or (names_of nodes) n [])) links ≡ 1 =
        ap (λ (x : List ℕ). count_by (ends_at x) links) name ∙ linked n no_node within is in
        let counts = count_ports nodes separate n named links opens in
        record { leaves = counts.0 ∙ one; leads = counts.1 ∙ one }

-- what the ports of a topology keep follows from its rules
pub ports_are_lawful : (topology : DeclaredTopology) → IsTopology topology → HasLawfulPorts topology
ports_are_lawful topology t =
    let with_ports : List Port → DeclaredTopology =
    λ ports. record { nodes = topology.nodes; links = topology.links; ports = ports } in
    subst HasLawfulPorts (sym (ap with_ports t.numbered))
    (ports_keep topology.nodes topology.links t.names t.each_node t.each_link t.stations)

-- What makes a topology has no fault.
use Rattle.std.proofs.Common.{◌≡◌, ◌∙◌, inl, inr, ℕ, ◌<◌, Bool, true, false, ◌||◌, ◌&&◌, not, List, [], ◌∷◌}
use Rattle.std.proofs.Common.{length, get_or, take, Option, Some, None, refl, sym, ap, subst, arith}
use Rattle.std.specs.Prelude.{IsSome, IsTrue, is_none, is_some, nat_lt, ◌==◌}
use Rattle.std.specs.List.{All, count_by, list_any}
use Rattle.std.specs.Str.{bytes_eq}
use Rattle.std.proofs.lemmas.Bool.{and_from, and_parts, eq-eqb, false≢true, le-ltb, not_from_true, or_from, or_left}
use Rattle.std.proofs.lemmas.Bool.{or_right}
use Rattle.std.proofs.lemmas.List.{get_or-take, get_or_default, length-take-le}
use Rattle.std.proofs.lemmas.List.Elements.{All-head}
use Rattle.std.proofs.lemmas.List.Folds.{list_any_at, list_any_none}
use Rattle.std.proofs.lemmas.Option.{same_Some}
use Rattle.ats_facts.proofs.Bytes.{bytes_eq-same, bytes_eq-true}
use Rattle.ats_facts.proofs.Lists.{all_right}
use Rattle.ats_num.specs.Places.{place_of}
use Rattle.ats_topology.specs.Faults.{has_bad_processing, has_bad_rate, has_unknown_end, is_badly_linked}
use Rattle.ats_topology.specs.Faults.{is_link_again, is_link_over, is_name_again, is_node_over, is_over, no_link}
use Rattle.ats_topology.specs.Faults.{topology_fault}
use Rattle.ats_topology.specs.Link.{ends_at, is_self_link, joins}
use Rattle.ats_topology.specs.Node.{AreApart, clock_of, greatest_processing_of, is_station, least_processing_of}
use Rattle.ats_topology.specs.Node.{names_of, residence_of}
use Rattle.ats_topology.specs.Rates.{ps_per_bit_of}
use Rattle.ats_topology.specs.Topology.{HasOneLink, IsLink, IsNode, IsTopology, topology_of}
use Rattle.ats_topology.specs.declared.fault.TopologyFault.{TopologyFault}
use Rattle.ats_topology.specs.declared.fault.TopologyFault.TheVariants.{NodeTwice, LinkTwice, SelfLink, UnknownNode}
use Rattle.ats_topology.specs.declared.fault.TopologyFault.TheVariants.{StationLinks, BadRate, Limit, BadProcessing}
use Rattle.ats_topology.specs.declared.link.Link.{Link}
use Rattle.ats_topology.specs.declared.link.TheConstants.{MAX_LINKS, MAX_PROPAGATION_NS}
use Rattle.ats_topology.specs.declared.node.Node.{Node}
use Rattle.ats_topology.specs.declared.node.TheConstants.{MAX_NODES, MAX_PROCESSING_NS, MAX_RESIDENCE_NS}
use Rattle.ats_topology.proofs.Known.{name_there}
use Rattle.ats_topology.proofs.NameLemmas.{length-names_of}
use Rattle.ats_topology.proofs.Rules.{topology_rules}
use Rattle.ats_network_file_law.specs.Accepted.{JoinOnce, JoinTheSame, TopologiesAreAccepted}
use Rattle.ats_network_file_law.specs.First.{IsFirstIn}
use Rattle.ats_network_file_law.specs.TopologyFaults.{AreFaultless, IsFirstFault}
use Rattle.ats_network_file_law.proofs.FirstFaults.{fault_is_first}

-- links that join the same nodes pass the test
joins_same : (link other : Link) → JoinTheSame link other → joins other.a other.b link ≡ true
joins_same link other (inl same) =
    or_left (bytes_eq link.a other.a && bytes_eq link.b other.b) (bytes_eq link.a other.b && bytes_eq link.b other.a)
    (and_from (bytes_eq link.a other.a) (bytes_eq link.b other.b) (equal link.a other.a same.0)
    (equal link.b other.b same.1))
  where
    equal : (xs ys : List ℕ) → xs ≡ ys → bytes_eq xs ys ≡ true
    equal xs ys e = ap (bytes_eq xs) (sym e) ∙ bytes_eq-same xs
joins_same link other (inr same) =
    or_right (bytes_eq link.a other.a && bytes_eq link.b other.b) (bytes_eq link.a other.b && bytes_eq link.b other.a)
    (and_from (bytes_eq link.a other.b) (bytes_eq link.b other.a) (equal link.a other.b same.0)
    (equal link.b other.a same.1))
  where
    equal : (xs ys : List ℕ) → xs ≡ ys → bytes_eq xs ys ≡ true
    equal xs ys e = ap (bytes_eq xs) (sym e) ∙ bytes_eq-same xs

-- and links that pass it join the same nodes
same_joined : (link other : Link) (p q r s : Bool) → bytes_eq link.a other.a ≡ p → bytes_eq link.b other.b ≡ q
    → bytes_eq link.a other.b ≡ r → bytes_eq link.b other.a ≡ s → ((p && q) || (r && s)) ≡ true
    → JoinTheSame link other
same_joined link other true true r s a b c d h =
    inl (bytes_eq-true link.a other.a a, bytes_eq-true link.b other.b b)
same_joined link other true false true true a b c d h =
    inr (bytes_eq-true link.a other.b c, bytes_eq-true link.b other.a d)
same_joined link other false q true true a b c d h =
    inr (bytes_eq-true link.a other.b c, bytes_eq-true link.b other.a d)
same_joined link other true false true false a b c d h = absurd (false≢true h)
same_joined link other true false false s a b c d h = absurd (false≢true h)
same_joined link other false q true false a b c d h = absurd (false≢true h)
same_joined link other false q false s a b c d h = absurd (false≢true h)

-- where no link joins again what an earlier one does, no two join the same nodes
joined_once : (links : List Link) → ((i : ℕ) → i < length links → is_link_again links i ≡ false) → JoinOnce links
joined_once links none i j d before within same =
    let later : Link = get_or links j no_link in
    let earlier : List Link = take j links in
    let inside : i < length links = omega (arith, before, within) in
    let long : length earlier ≡ j = length-take-le j links (omega (arith, within)) in
    let there : get_or earlier i d ≡ get_or links i d = get_or-take j links i d before in
    let at : get_or links j d ≡ later = get_or_default links j d no_link within in
    let passes : joins later.a later.b (get_or earlier i d) ≡ true =
    ap (joins later.a later.b) there ∙ ap (λ (l : Link). joins l.a l.b (get_or links i d)) (sym at)
    ∙ joins_same (get_or links i d) (get_or links j d) same in
    false≢true (sym (none j within)
    ∙ list_any_at (joins later.a later.b) earlier i d (omega (arith, before, long)) passes)

-- an entry of a list that passes a test, with what each entry keeps
record PassesOne {E : Type 0} (P : E → Type 0) (test : E → Bool) : Type 0 where
  entry : E
  keeps : P entry
  passes : test entry ≡ true

passes_one : {E : Type 0} (P : E → Type 0) (test : E → Bool) (entries : List E) (n : ℕ) → All P entries
    → IsFirstIn test entries n → PassesOne P test
passes_one P test entries n all first =
    let behind : All P (first.entry ∷ first.after) =
    all_right P first.before (first.entry ∷ first.after) (subst (All P) (sym first.cut) all) in
    record { entry = first.entry; keeps = All-head P first.entry first.after behind; passes = first.passes }

is_there : (o : Option ℕ) → IsSome o → is_none o ≡ false
is_there None h = absurd (false≢true h)
is_there (Some n) h = refl

-- a name that stands at its own place alone stands at no earlier one
not_again : (names : List (List ℕ)) (i : ℕ) → AreApart names → i < length names → is_name_again names i ≡ true → ⊥
not_again names i apart within again = by (place_of name (take i names)) refl again
  where
    name : List ℕ
    name = get_or names i []

    by : (o : Option ℕ) → place_of name (take i names) ≡ o → is_some o ≡ true → ⊥
    by None e h = false≢true h
    by (Some k) e h =
        let found = name_there (take i names) name k e in
        let long : length (take i names) ≡ i = length-take-le i names (omega (arith, within)) in
        let earlier : k < i = omega (arith, found.0, long) in
        let same : name ≡ get_or names k [] = found.1 ∙ get_or-take i names k [] earlier in
        let one : i ≡ k = same_Some i k (sym (apart i within) ∙ ap (λ (x : List ℕ). place_of x names) same
        ∙ apart k (omega (arith, earlier, within))) in
        omega (arith, one, earlier)

-- nor does a link join again what an earlier one does
not_joined_again : (links : List Link) (i : ℕ) → JoinOnce links → i < length links → is_link_again links i ≡ true → ⊥
not_joined_again links i once within again =
    let link : Link = get_or links i no_link in
    let earlier : List Link = take i links in
    let long : length earlier ≡ i = length-take-le i links (omega (arith, within)) in
    false≢true (sym (list_any_none (joins link.a link.b) earlier (λ k d below.
    fails k d (omega (arith, below, long)))) ∙ again)
  where
    fails : (k : ℕ) (d : Link) → k < i
        → joins (get_or links i no_link).a (get_or links i no_link).b (get_or (take i links) k d) ≡ false
    fails k d before = by (joins later.a later.b other) refl
      where
        later : Link
        later = get_or links i no_link

        other : Link
        other = get_or (take i links) k d

        there : get_or links k d ≡ other
        there = sym (get_or-take i links k d before)

        by : (t : Bool) → joins later.a later.b other ≡ t → joins later.a later.b other ≡ false
        by false e = e
        by true e =
            let same : JoinTheSame other later = same_joined other later _ _ _ _ refl refl refl refl e in
            absurd (once k i d before within (subst (λ (l : Link). JoinTheSame l (get_or links i d)) (sym there)
            (subst (JoinTheSame other) (get_or_default links i no_link d within) same)))

four_false : (a b d e : Bool) → a ≡ false → b ≡ false → d ≡ false → e ≡ false → (a || b || d || e) ≡ false
four_false a b d e h g i k = rw (h, g, i, k) refl

node_within : (node : Node) → IsNode node → is_node_over node ≡ false
node_within node is =
    four_false (nat_lt MAX_PROCESSING_NS (greatest_processing_of node.kind))
    (nat_lt MAX_RESIDENCE_NS (residence_of node.kind)) _ _
    (le-ltb MAX_PROCESSING_NS (greatest_processing_of node.kind) is.processing)
    (le-ltb MAX_RESIDENCE_NS (residence_of node.kind) is.residence)
    (le-ltb _ (clock_of node.kind).deviation_ppm is.clock.deviation)
    (le-ltb _ (clock_of node.kind).step_ps is.clock.step)

all_within : (nodes : List Node) (links : List Link) → IsTopology (topology_of nodes links)
    → is_over nodes links ≡ false
all_within nodes links is =
    four_false (nat_lt MAX_NODES (length nodes)) (nat_lt MAX_LINKS (length links)) (list_any is_node_over nodes)
    (list_any is_link_over links)
    (le-ltb MAX_NODES (length nodes) is.few_nodes)
    (le-ltb MAX_LINKS (length links) is.few_links)
    (list_any_none is_node_over nodes (λ k d below. node_within (get_or nodes k d) (is.each_node k d below)))
    (list_any_none is_link_over links (λ k d below.
    le-ltb MAX_PROPAGATION_NS (get_or links k d).propagation_ns (is.each_link k d below).propagation))

-- where nodes and links make a topology, and no two links join the same nodes, no fault is the first
no_first : (nodes : List Node) (links : List Link) → IsTopology (topology_of nodes links) → JoinOnce links
    → (fault : TopologyFault) → IsFirstFault nodes links fault → ⊥
no_first nodes links is once (NodeTwice n) h =
    let least = h.least in
    not_again (names_of nodes) h.place is.names (omega (arith, least.below, length-names_of nodes)) least.passes
no_first nodes links is once (LinkTwice n) h =
    let least = h.1.least in not_joined_again links h.1.place once least.below least.passes
no_first nodes links is once (SelfLink n) h =
    let one = passes_one (IsLink nodes) is_self_link links n is.each_link h.1 in
    one.keeps.differ (bytes_eq-true one.entry.a one.entry.b one.passes)
no_first nodes links is once (UnknownNode n) h =
    let one = passes_one (IsLink nodes) (has_unknown_end (names_of nodes)) links n is.each_link h.1 in
    let a : Option ℕ = place_of one.entry.a (names_of nodes) in
    let b : Option ℕ = place_of one.entry.b (names_of nodes) in
    false≢true (sym (or_from (is_none a) (is_none b) (is_there a one.keeps.a) (is_there b one.keeps.b)) ∙ one.passes)
no_first nodes links is once (StationLinks n) h =
    let Keeps : Node → Type 0 = λ (node : Node). IsTrue (is_station node.kind) → HasOneLink links node in
    let one = passes_one Keeps (is_badly_linked links) nodes n is.stations h.1 in
    let count : ℕ = count_by (ends_at one.entry.name) links in
    let parts = and_parts (is_station one.entry.kind) (not (count == 1)) one.passes in
    false≢true (sym (not_from_true (count == 1) (eq-eqb count 1 (one.keeps parts.0))) ∙ parts.1)
no_first nodes links is once (BadRate n) h =
    let one = passes_one (IsLink nodes) has_bad_rate links n is.each_link h.1 in
    false≢true (sym (is_there (ps_per_bit_of one.entry.mbps) one.keeps.rate) ∙ one.passes)
no_first nodes links is once Limit h = false≢true (sym (all_within nodes links is) ∙ h.1)
no_first nodes links is once (BadProcessing n) h =
    let one = passes_one IsNode has_bad_processing nodes n is.each_node h.1 in
    let greatest : ℕ = greatest_processing_of one.entry.kind in
    false≢true (sym (le-ltb greatest (least_processing_of one.entry.kind) one.keeps.ordered) ∙ one.passes)

-- so they have none
pub no_fault : (nodes : List Node) (links : List Link) → IsTopology (topology_of nodes links) → JoinOnce links
    → topology_fault nodes links ≡ None
no_fault nodes links is once = by (topology_fault nodes links) refl
  where
    by : (o : Option TopologyFault) → topology_fault nodes links ≡ o → topology_fault nodes links ≡ None
    by None e = e
    by (Some fault) e = absurd (no_first nodes links is once fault (((fault_is_first nodes links).first fault).0 e))

pub topologies_are_accepted : TopologiesAreAccepted
topologies_are_accepted nodes links = (
  λ none.
      let kept : AreFaultless nodes links = (fault_is_first nodes links).none.0 none in
      (topology_rules nodes links none, joined_once links kept.0.0.0.0.0.0.1),
  λ h. no_fault nodes links h.0 h.1,
)

-- What is the first fault of nodes and links is found.
use Rattle.std.proofs.Common.{◌≡◌, ◌∙◌, ℕ, ◌+◌, ◌<◌, Bool, true, false, cond, List, [], ◌∷◌, ◌++◌, length, Option, Some}
use Rattle.std.proofs.Common.{None, ◌⊎◌, inl, inr, refl, sym, ap, arith}
use Rattle.std.specs.List.{position_from}
use Rattle.std.specs.Option.{option_or}
use Rattle.std.proofs.lemmas.Bool.{cases_order, false≢true}
use Rattle.std.proofs.lemmas.List.Elements.{All-head, All-tail}
use Rattle.ats_topology.specs.Faults.{bad_processing, bad_rate, fault_at, first_below, has_bad_processing, has_bad_rate}
use Rattle.ats_topology.specs.Faults.{has_unknown_end, is_badly_linked, is_link_again, is_name_again, limit, link_twice}
use Rattle.ats_topology.specs.Faults.{node_twice, self_link, station_links, topology_fault, unknown_node}
use Rattle.ats_topology.specs.Laws.{IsLeastBelow}
use Rattle.ats_topology.specs.Link.{is_self_link}
use Rattle.ats_topology.specs.Node.{names_of}
use Rattle.ats_topology.specs.declared.fault.TopologyFault.{TopologyFault}
use Rattle.ats_topology.specs.declared.fault.TopologyFault.TheVariants.{NodeTwice, LinkTwice, SelfLink, UnknownNode}
use Rattle.ats_topology.specs.declared.fault.TopologyFault.TheVariants.{StationLinks, BadRate, Limit, BadProcessing}
use Rattle.ats_topology.specs.declared.link.Link.{Link}
use Rattle.ats_topology.specs.declared.node.Node.{Node}
use Rattle.ats_topology.proofs.LawLemmas.{first_least}
use Rattle.ats_network_file_law.specs.First.{IsFirstIn, IsFirstPlace, NoneIn, NonePlace}
use Rattle.ats_network_file_law.specs.TopologyFaults.{AreBetweenTwo, AreFaultless, AreJoinedOnce, AreKnown, AreLinked}
use Rattle.ats_network_file_law.specs.TopologyFaults.{AreNamedOnce, AreRated, AreWithin, IsFirstFault}

-- behind entries that fail, one that passes is found
placed : {E : Type 0} (test : E → Bool) (before : List E) (entry : E) (after : List E) (from : ℕ) → test entry ≡ true
    → NoneIn test before → position_from test from (before ++ entry ∷ after) ≡ Some (from + length before)
placed test [] entry after from passes none =
    ap (λ b. cond b (Some from) (position_from test (from + 1) after)) passes ∙ ap Some (omega arith)
placed {E} test (x ∷ before) entry after from passes none =
    ap (λ b. cond b (Some from) (position_from test (from + 1) (before ++ entry ∷ after)))
    (All-head (λ (e : E). test e ≡ false) x before none)
    ∙ placed test before entry after (from + 1) passes (All-tail (λ (e : E). test e ≡ false) x before none)
    ∙ ap Some (omega arith)

first_in_found : {E : Type 0} (kind : ℕ → TopologyFault) (test : E → Bool) (entries : List E) (n : ℕ)
    → IsFirstIn test entries n → fault_at kind (position_from test 0 entries) ≡ Some (kind n)
first_in_found {E} kind test entries n f =
    let counted = f.counted in
    ap (λ (es : List E). fault_at kind (position_from test 0 es)) (sym f.cut)
    ∙ ap (fault_at kind) (placed test f.before f.entry f.after 0 f.passes f.earlier)
    ∙ ap (λ (m : ℕ). Some (kind m)) (omega (arith, counted))

none_in_found : {E : Type 0} (test : E → Bool) (entries : List E) (from : ℕ) → NoneIn test entries
    → position_from test from entries ≡ None
none_in_found test [] from none = refl
none_in_found {E} test (x ∷ entries) from none =
    ap (λ b. cond b (Some from) (position_from test (from + 1) entries))
    (All-head (λ (e : E). test e ≡ false) x entries none)
    ∙ none_in_found test entries (from + 1) (All-tail (λ (e : E). test e ≡ false) x entries none)

-- two least places are the same
one_least : (test : ℕ → Bool) (count i j : ℕ) → IsLeastBelow test count i → IsLeastBelow test count j → i ≡ j
one_least test count i j l m = by (cases_order i j)
  where
    by : (i ≡ j) ⊎ ((i < j) ⊎ (j < i)) → i ≡ j
    by (inl same) = same
    by (inr (inl below)) = absurd (false≢true (sym (m.before i below) ∙ l.passes))
    by (inr (inr above)) = absurd (false≢true (sym (l.before j above) ∙ m.passes))

first_place_found : (kind : ℕ → TopologyFault) (test : ℕ → Bool) (count n : ℕ) → IsFirstPlace test count n
    → fault_at kind (first_below test count) ≡ Some (kind n)
first_place_found kind test count n f = by (first_below test count) refl
  where
    by : (o : Option ℕ) → first_below test count ≡ o → fault_at kind (first_below test count) ≡ Some (kind n)
    by None e =
        let least = f.least in
        absurd (false≢true (sym ((first_least test count).1 e f.place least.below) ∙ least.passes))
    by (Some i) e =
        let same : i ≡ f.place = one_least test count i f.place ((first_least test count).0 i e) f.least in
        let counted = f.counted in
        ap (fault_at kind) e ∙ ap (λ (m : ℕ). Some (kind m)) (omega (arith, same, counted))

none_place_found : (test : ℕ → Bool) (count : ℕ) → NonePlace test count → first_below test count ≡ None
none_place_found test count none = by (first_below test count) refl
  where
    by : (o : Option ℕ) → first_below test count ≡ o → first_below test count ≡ None
    by None e = e
    by (Some i) e =
        let least : IsLeastBelow test count i = (first_least test count).0 i e in
        absurd (false≢true (sym (none i least.below) ∙ least.passes))

-- of two, the first has a fault, or has none
here : (a rest : Option TopologyFault) (fault : TopologyFault) → a ≡ Some fault → option_or a rest ≡ Some fault
here a rest fault h = ap (λ (o : Option TopologyFault). option_or o rest) h

skip : (kind : ℕ → TopologyFault) (place : Option ℕ) (rest : Option TopologyFault) → place ≡ None
    → option_or (fault_at kind place) rest ≡ rest
skip kind place rest h = ap (λ (o : Option ℕ). option_or (fault_at kind o) rest) h

-- the faults of one kind and of those behind it
abbrev from_limit : List Node → List Link → Option TopologyFault
from_limit nodes links = option_or (limit nodes links) (bad_processing nodes)

abbrev from_rate : List Node → List Link → Option TopologyFault
from_rate nodes links = option_or (bad_rate links) (from_limit nodes links)

abbrev from_stations : List Node → List Link → Option TopologyFault
from_stations nodes links = option_or (station_links nodes links) (from_rate nodes links)

abbrev from_unknown : List Node → List Link → Option TopologyFault
from_unknown nodes links = option_or (unknown_node nodes links) (from_stations nodes links)

abbrev from_self : List Node → List Link → Option TopologyFault
from_self nodes links = option_or (self_link links) (from_unknown nodes links)

abbrev from_links : List Node → List Link → Option TopologyFault
from_links nodes links = option_or (link_twice links) (from_self nodes links)

-- where the kinds before are not there, it comes to these
named : (nodes : List Node) (links : List Link) → AreNamedOnce nodes
    → topology_fault nodes links ≡ from_links nodes links
named nodes links h =
    skip NodeTwice (first_below (is_name_again (names_of nodes)) (length nodes)) (from_links nodes links)
    (none_place_found (is_name_again (names_of nodes)) (length nodes) h)

joined : (nodes : List Node) (links : List Link) → AreJoinedOnce nodes links
    → topology_fault nodes links ≡ from_self nodes links
joined nodes links h =
    named nodes links h.0 ∙ skip LinkTwice (first_below (is_link_again links) (length links)) (from_self nodes links)
    (none_place_found (is_link_again links) (length links) h.1)

two : (nodes : List Node) (links : List Link) → AreBetweenTwo nodes links
    → topology_fault nodes links ≡ from_unknown nodes links
two nodes links h =
    joined nodes links h.0 ∙ skip SelfLink (position_from is_self_link 0 links) (from_unknown nodes links)
    (none_in_found is_self_link links 0 h.1)

known : (nodes : List Node) (links : List Link) → AreKnown nodes links
    → topology_fault nodes links ≡ from_stations nodes links
known nodes links h =
    two nodes links h.0
    ∙ skip UnknownNode (position_from (has_unknown_end (names_of nodes)) 0 links) (from_stations nodes links)
    (none_in_found (has_unknown_end (names_of nodes)) links 0 h.1)

linked : (nodes : List Node) (links : List Link) → AreLinked nodes links
    → topology_fault nodes links ≡ from_rate nodes links
linked nodes links h =
    known nodes links h.0 ∙ skip StationLinks (position_from (is_badly_linked links) 0 nodes) (from_rate nodes links)
    (none_in_found (is_badly_linked links) nodes 0 h.1)

rated : (nodes : List Node) (links : List Link) → AreRated nodes links
    → topology_fault nodes links ≡ from_limit nodes links
rated nodes links h =
    linked nodes links h.0 ∙ skip BadRate (position_from has_bad_rate 0 links) (from_limit nodes links)
    (none_in_found has_bad_rate links 0 h.1)

within : (nodes : List Node) (links : List Link) → AreWithin nodes links
    → topology_fault nodes links ≡ bad_processing nodes
within nodes links h =
    rated nodes links h.0
    ∙ ap (λ b. let o : Option TopologyFault = cond b (Some Limit) None in option_or o (bad_processing nodes)) h.1

pub fault_found : (nodes : List Node) (links : List Link) (fault : TopologyFault) → IsFirstFault nodes links fault
    → topology_fault nodes links ≡ Some fault
fault_found nodes links (NodeTwice n) h =
    here (node_twice nodes) (from_links nodes links) (NodeTwice n)
    (first_place_found NodeTwice (is_name_again (names_of nodes)) (length nodes) n h)
fault_found nodes links (LinkTwice n) h =
    named nodes links h.0 ∙ here (link_twice links) (from_self nodes links) (LinkTwice n)
    (first_place_found LinkTwice (is_link_again links) (length links) n h.1)
fault_found nodes links (SelfLink n) h =
    joined nodes links h.0 ∙ here (self_link links) (from_unknown nodes links) (SelfLink n)
    (first_in_found SelfLink is_self_link links n h.1)
fault_found nodes links (UnknownNode n) h =
    two nodes links h.0 ∙ here (unknown_node nodes links) (from_stations nodes links) (UnknownNode n)
    (first_in_found UnknownNode (has_unknown_end (names_of nodes)) links n h.1)
fault_found nodes links (StationLinks n) h =
    known nodes links h.0 ∙ here (station_links nodes links) (from_rate nodes links) (StationLinks n)
    (first_in_found StationLinks (is_badly_linked links) nodes n h.1)
fault_found nodes links (BadRate n) h =
    linked nodes links h.0 ∙ here (bad_rate links) (from_limit nodes links) (BadRate n)
    (first_in_found BadRate has_bad_rate links n h.1)
fault_found nodes links Limit h =
    rated nodes links h.0
    ∙ ap (λ b. let o : Option TopologyFault = cond b (Some Limit) None in option_or o (bad_processing nodes)) h.1
fault_found nodes links (BadProcessing n) h =
    within nodes links h.0 ∙ first_in_found BadProcessing has_bad_processing nodes n h.1

pub none_found : (nodes : List Node) (links : List Link) → AreFaultless nodes links → topology_fault nodes links ≡ None
none_found nodes links h =
    within nodes links h.0 ∙ ap (fault_at BadProcessing) (none_in_found has_bad_processing nodes 0 h.1)

-- The fault of nodes and links is their first.
use Rattle.std.proofs.Common.{◌≡◌, ℕ, ◌+◌, Bool, true, false, cond, List, [], ◌∷◌, ◌++◌, length, Option, Some, None}
use Rattle.std.proofs.Common.{refl, ap, subst, arith}
use Rattle.std.specs.List.{All, position_from}
use Rattle.std.specs.Option.{option_or}
use Rattle.std.proofs.lemmas.List.Elements.{All-nil, All-cons}
use Rattle.ats_topology.specs.Faults.{bad_rate, fault_at, first_below, has_bad_processing, has_bad_rate}
use Rattle.ats_topology.specs.Faults.{has_unknown_end, is_badly_linked, is_link_again, is_name_again, is_over, limit}
use Rattle.ats_topology.specs.Faults.{link_twice, node_twice, self_link, station_links, unknown_node}
use Rattle.ats_topology.specs.Link.{is_self_link}
use Rattle.ats_topology.specs.Node.{names_of}
use Rattle.ats_topology.specs.declared.fault.TopologyFault.{TopologyFault}
use Rattle.ats_topology.specs.declared.fault.TopologyFault.TheVariants.{NodeTwice, LinkTwice, SelfLink, UnknownNode}
use Rattle.ats_topology.specs.declared.fault.TopologyFault.TheVariants.{StationLinks, BadRate, Limit, BadProcessing}
use Rattle.ats_topology.specs.declared.link.Link.{Link}
use Rattle.ats_topology.specs.declared.node.Node.{Node}
use Rattle.ats_topology.proofs.LawLemmas.{first_least}
use Rattle.ats_network_file_law.specs.First.{IsFirstIn, IsFirstPlace, NoneIn, NonePlace}
use Rattle.ats_network_file_law.specs.TopologyFaults.{AreFaultless, AreRated, IsFirstFault, TopologyFaultIsTheFirst}
use Rattle.ats_network_file_law.proofs.FoundFaults.{fault_found, none_found}

-- where the first entry that passes stands, counted from a number
record Sought {E : Type 0} (test : E → Bool) (entries : List E) (from place : ℕ) : Type 0 where
  before : List E
  entry : E
  after : List E
  cut : before ++ entry ∷ after ≡ entries
  passes : test entry ≡ true
  earlier : All (λ e. test e ≡ false) before
  counted : place ≡ from + length before

sought : {E : Type 0} (test : E → Bool) (entries : List E) (from place : ℕ)
    → position_from test from entries ≡ Some place → Sought test entries from place
sought test [] from place h = cc h
sought {E} test (x ∷ entries) from place h = by (test x) refl (λ later. sought test entries (from + 1) place later) h
  where
    by : (t : Bool) → test x ≡ t
        → (position_from test (from + 1) entries ≡ Some place → Sought test entries (from + 1) place)
        → cond t (Some from) (position_from test (from + 1) entries) ≡ Some place
        → Sought test (x ∷ entries) from place
    by true e rest h =
        let same : from ≡ place = cc h in
        record {
          before = [];
          entry = x;
          after = entries;
          cut = refl;
          passes = e;
          earlier = All-nil (λ (e : E). test e ≡ false);
          counted = omega (arith, same);
        }
    by false e rest h =
        let more = rest h in
        record {
          before = x ∷ more.before;
          entry = more.entry;
          after = more.after;
          cut = ap (λ (es : List E). x ∷ es) more.cut;
          passes = more.passes;
          earlier = All-cons (λ (e : E). test e ≡ false) x more.before e more.earlier;
          counted = omega (arith, more.counted);
        }

first_in : {E : Type 0} (test : E → Bool) (entries : List E) (i : ℕ) → position_from test 0 entries ≡ Some i
    → IsFirstIn test entries (i + 1)
first_in test entries i h =
    let found = sought test entries 0 i h in
    record {
      before = found.before;
      entry = found.entry;
      after = found.after;
      cut = found.cut;
      passes = found.passes;
      earlier = found.earlier;
      counted = omega (arith, found.counted);
    }

none_in : {E : Type 0} (test : E → Bool) (entries : List E) (from : ℕ) → position_from test from entries ≡ None
    → NoneIn test entries
none_in {E} test [] from h = All-nil (λ (e : E). test e ≡ false)
none_in {E} test (x ∷ entries) from h = by (test x) refl (λ later. none_in test entries (from + 1) later) h
  where
    by : (t : Bool) → test x ≡ t → (position_from test (from + 1) entries ≡ None → NoneIn test entries)
        → cond t (Some from) (position_from test (from + 1) entries) ≡ None → NoneIn test (x ∷ entries)
    by true e rest h = cc h
    by false e rest h = All-cons (λ (e : E). test e ≡ false) x entries e (rest h)

-- what an option says of a fault, and what it says where it has none
record Answers (P : TopologyFault → Type 0) (N : Type 0) (o : Option TopologyFault) : Type 0 where
  some : (fault : TopologyFault) → o ≡ Some fault → P fault
  none : o ≡ None → N

-- of two, the first answers, else the second
either : (P : TopologyFault → Type 0) (N M : Type 0) (a rest : Option TopologyFault) → Answers P N a
    → (N → Answers P M rest) → Answers P M (option_or a rest)
either P N M None rest first more = more (first.none refl)
either P N M (Some fault) rest first more = record { some = first.some; none = λ h. cc h }

-- a fault of one kind, by the place of its entry
at : (P : TopologyFault → Type 0) (N : Type 0) (kind : ℕ → TopologyFault) (place : Option ℕ)
    → ((i : ℕ) → place ≡ Some i → P (kind (i + 1))) → (place ≡ None → N) → Answers P N (fault_at kind place)
at P N kind None some none = record { some = λ fault h. cc h; none = λ h. none refl }
at P N kind (Some i) some none = record {
  some = λ fault h. let same : kind (i + 1) ≡ fault = cc h in subst P same (some i refl);
  none = λ h. cc h;
}

-- a list of entries, with what was gone through before it
in_entries : {E : Type 0} (P : TopologyFault → Type 0) (B : Type 0) (kind : ℕ → TopologyFault) (test : E → Bool)
    (entries : List E) → B → ((n : ℕ) → B × IsFirstIn test entries n → P (kind n))
    → Answers P (B × NoneIn test entries) (fault_at kind (position_from test 0 entries))
in_entries P B kind test entries gone gives = at P (B × NoneIn test entries) kind (position_from test 0 entries)
    (λ i h. gives (i + 1) (gone, first_in test entries i h)) (λ h. (gone, none_in test entries 0 h))

-- a test on places
first_place : (test : ℕ → Bool) (count i : ℕ) → first_below test count ≡ Some i → IsFirstPlace test count (i + 1)
first_place test count i h = record { place = i; least = (first_least test count).0 i h; counted = refl }

none_place : (test : ℕ → Bool) (count : ℕ) → first_below test count ≡ None → NonePlace test count
none_place test count h = (first_least test count).1 h

over : (nodes : List Node) (links : List Link) → AreRated nodes links
    → Answers (IsFirstFault nodes links) (AreRated nodes links × (is_over nodes links ≡ false)) (limit nodes links)
over nodes links gone = by (is_over nodes links) refl
  where
    by : (t : Bool) → is_over nodes links ≡ t
        → Answers (IsFirstFault nodes links) (AreRated nodes links × (is_over nodes links ≡ false))
        (cond t (Some Limit) None)
    by true e = record {
      some = λ fault h. let same : Limit ≡ fault = cc h in subst (IsFirstFault nodes links) same (gone, e);
      none = λ h. cc h;
    }
    by false e = record { some = λ fault h. cc h; none = λ h. (gone, e) }

pub fault_is_first : TopologyFaultIsTheFirst
fault_is_first nodes links =
    let P : TopologyFault → Type 0 = IsFirstFault nodes links in
    let M : Type 0 = AreFaultless nodes links in
    let all = either P _ M (node_twice nodes) _
    (at P _ NodeTwice (first_below (is_name_again (names_of nodes)) (length nodes))
    (λ i h. first_place (is_name_again (names_of nodes)) (length nodes) i h)
    (λ h. none_place (is_name_again (names_of nodes)) (length nodes) h))
    (λ named. either P _ M (link_twice links) _
    (at P _ LinkTwice (first_below (is_link_again links) (length links))
    (λ i h. (named, first_place (is_link_again links) (length links) i h))
    (λ h. (named, none_place (is_link_again links) (length links) h)))
    (λ joined. either P _ M (self_link links) _
    (in_entries P _ SelfLink is_self_link links joined (λ n h. h))
    (λ two. either P _ M (unknown_node nodes links) _
    (in_entries P _ UnknownNode (has_unknown_end (names_of nodes)) links two (λ n h. h))
    (λ known. either P _ M (station_links nodes links) _
    (in_entries P _ StationLinks (is_badly_linked links) nodes known (λ n h. h))
    (λ linked. either P _ M (bad_rate links) _
    (in_entries P _ BadRate has_bad_rate links linked (λ n h. h))
    (λ rated. either P _ M (limit nodes links) _ (over nodes links rated)
    (λ within. in_entries P _ BadProcessing has_bad_processing nodes within (λ n h. h)))))))) in
    record {
      first = λ fault. (all.some fault, fault_found nodes links fault);
      none = (all.none, none_found nodes links);
    }

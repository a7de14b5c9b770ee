use Rattle.std.proofs.Common.{◌≡◌, ◌∙◌, ℕ, Bool, true, false, [], ◌∷◌, List, length, Option, Some, get_or, refl, sym}
use Rattle.std.proofs.Common.{ap}
use Rattle.std.specs.Prelude.{◌==◌, codes, unwrap_or}
use Rattle.std.specs.Str.{bytes_eq}
use Rattle.std.proofs.lemmas.Bool.{false≢true}
use Rattle.ats_num.specs.Places.{place_of}
use Rattle.ats_topology.specs.Node.{names_of, residence_of}
use Rattle.ats_topology.specs.Topology.{DeclaredTopology, link_at, node_at}
use Rattle.ats_topology.specs.declared.node.Node.{Node}
use Rattle.ats_topology.specs.declared.link.Link.{Link}
use Rattle.ats_network.specs.Shortest.{shortest_of}
use Rattle.ats_network_file_law.specs.Entries.{IsBetweenEnds}
use Rattle.ats_network_file_law.proofs.Entries.{each_entry_stands}
use Rattle.ats_examples.specs.Networks.{fork}
use Rattle.ats_examples.proofs.Tests.{lt_of}
use Rattle.ats_file_examples.specs.AtPorts.{several_at_ports, several_document, several_text}
use Rattle.ats_file_examples.specs.Forked as forked
use Rattle.ats_file_examples.proofs.ForkRead.{fork_is_read}
use Rattle.ats_file_examples.proofs.PortsRead.{ports_are_read}
use Rattle.ats_edge_examples.specs.EachEntry.{EachEntryCounts, EachHasItsPlace, LegsCount, NumbersCount, PathsCount}
use Rattle.ats_edge_examples.specs.EachEntry.{RoutesCount, TablesCount, tables, three_ways}

-- Networks of tables by the law that each entry stands, and others by what is not equal.

-- where a test tells two things apart, they are not equal
differ : {X : Type 0} {a b : X} → a ≡ b → (test : X → Bool) → test a ≡ false → test b ≡ true → ⊥
differ same test fails passes = false≢true (sym fails ∙ ap test same ∙ passes)

some_is : (a b : ℕ) → (let o : Option ℕ = Some a in o ≡ Some b) → a ≡ b
some_is a b h = cc h

-- a path that is not the shortest between the nodes with two names is not the one of these ends
not_between : (topology : DeclaredTopology) (from to path : List ℕ) (a b : ℕ)
    → place_of from (names_of topology.nodes) ≡ Some a → place_of to (names_of topology.nodes) ≡ Some b
    → bytes_eq (unwrap_or (shortest_of topology a b) []) path ≡ false → bytes_eq path path ≡ true
    → IsBetweenEnds topology from to path → ⊥
not_between topology from to path a b begins ends fails passes is =
    let first : a ≡ is.first = some_is a is.first (sym begins ∙ is.begins) in
    let last : b ≡ is.last = some_is b is.last (sym ends ∙ is.ends) in
    let found : shortest_of topology a b ≡ Some path =
    ap (λ (n : ℕ). shortest_of topology n b) first ∙ ap (λ (n : ℕ). shortest_of topology is.first n) last
    ∙ is.least in
    differ found (λ (walk : Option (List ℕ)). bytes_eq (unwrap_or walk []) path) fails passes

numbers : NumbersCount
numbers = record {
  is = each_entry_stands (forked.forked_text forked.ends_text forked.classes_text) tables _ fork_is_read.tables
      fork_is_read.by_ends;
  name = λ h. differ h.streams.0.name (λ (name : List ℕ). bytes_eq name (codes "a")) refl refl;
  rate = λ h. differ h.streams.0.rate (λ (n : ℕ). n == 100000000) refl refl;
  burst = λ h. differ h.streams.0.burst (λ (n : ℕ). n == 12336) refl refl;
  least = λ h. differ h.streams.0.least (λ (n : ℕ). n == 64) refl refl;
  greatest = λ h. differ h.streams.0.greatest (λ (n : ℕ). n == 1522) refl refl;
  deadline = λ h. differ h.streams.0.deadline (λ (n : ℕ). n == 26672) refl refl;
  address = λ h. differ h.streams.0.identity
      (λ (pair : Option (ℕ × ℕ)). (unwrap_or pair (0, 0)).0 == 0x01005E000001) refl refl;
  vlan = λ h. differ h.streams.0.identity (λ (pair : Option (ℕ × ℕ)). (unwrap_or pair (0, 0)).1 == 5) refl refl;
  no_identity = λ h. differ h.streams.0.identity (λ (pair : Option (ℕ × ℕ)). (unwrap_or pair (0, 0)).1 == 5)
      refl refl;
}

routes : RoutesCount
routes = record {
  class = λ h. differ h.streams.0.classes (λ (classes : List ℕ). get_or classes 2 0 == 4) refl refl;
  first_class = λ h. differ h.streams.0.classes (λ (classes : List ℕ). get_or classes 2 0 == 4) refl refl;
  turned = λ h. not_between fork.topology (codes "s1") (codes "s2") (0 ∷ 5 ∷ []) 0 1 refl refl refl refl
      h.streams.0.routes.0;
  to_first = λ h. h.streams.0.routes.1;
}

tables_count : TablesCount
tables_count = record {
  no_stream = λ h. h.streams;
  stream_twice = λ h. h.streams.1;
  residence = λ h. differ h.nodes (λ (nodes : List Node). residence_of (node_at nodes 3).kind == 11664) refl refl;
  node = λ h. differ h.nodes (λ (nodes : List Node). length nodes == 4) refl refl;
  link = λ h. differ h.links (λ (links : List Link). bytes_eq (link_at links 2).a (codes "s3")) refl refl;
  short = λ h. differ h.most (λ (n : ℕ). n == 64) refl refl;
  flow = λ h. h.flows;
}

-- the name of the node where a path begins
abbrev begins_with : List ℕ → List (List ℕ) → Bool
begins_with name names = bytes_eq (get_or names 0 []) name

places : EachHasItsPlace
places = record {
  are = each_entry_stands several_text several_document several_at_ports ports_are_read.several_tables
      ports_are_read.several_network;
  no_first_stream = λ h. h.streams.1.1.1.1;
  no_last_stream = λ h. h.streams.1.1.1.1;
  stream_astray = λ h. differ h.streams.1.0.routes.0 (begins_with (codes "s1")) refl refl;
  no_first_flow = λ h. h.flows.1.1.1.1;
  no_last_flow = λ h. h.flows.1.1.1.1;
  flow_renamed = λ h. differ h.flows.0.name (λ (name : List ℕ). bytes_eq name (codes "f")) refl refl;
  flow_longer = λ h. differ h.flows.0.greatest (λ (n : ℕ). n == 1500) refl refl;
  flow_turned = λ h. differ h.flows.0.route (begins_with (codes "b1")) refl refl;
  last_flow_astray = λ h. differ h.flows.1.1.1.1.0.route (begins_with (codes "b1")) refl refl;
}

paths : PathsCount
paths = record {
  shortest = record { first = 0; last = 1; begins = refl; ends = refl; least = refl };
  longer = not_between three_ways (codes "s1") (codes "s2") (0 ∷ 6 ∷ 8 ∷ 4 ∷ []) 0 1 refl refl refl refl;
  later = not_between three_ways (codes "s1") (codes "s2") (0 ∷ 10 ∷ 4 ∷ []) 0 1 refl refl refl refl;
  back = not_between three_ways (codes "s1") (codes "s2") (5 ∷ 3 ∷ 1 ∷ []) 0 1 refl refl refl refl;
  named = refl;
  not_named = λ h. differ h (λ (names : List (List ℕ)). length names == 5) refl refl;
}

legs : LegsCount
legs = record {
  at_branch = λ h. differ (h.branches.begin.1.0.at_talker refl) (λ (n : ℕ). n == 0) refl refl;
  sent_twice = λ h. h.streams.0.tree.apart 1 3 0 (lt_of 1 3 refl) (lt_of 3 5 refl) refl;
  back = λ h. h.valid.apart 0 2 0 (lt_of 0 2 refl) (lt_of 2 3 refl) refl;
}

pub each_entry_counts : EachEntryCounts
each_entry_counts = record {
  numbers = numbers;
  routes = routes;
  tables = tables_count;
  places = places;
  paths = paths;
  legs = legs;
}

use Rattle.std.proofs.Common.{◌≡◌, ◌∙◌, ℕ, ◌<◌, Bool, true, false, List, [], length, get_or, Option, Some, None, refl}
use Rattle.std.proofs.Common.{arith, subst, sym}
use Rattle.std.specs.Prelude.{if◌then◌else◌}
use Rattle.std.specs.Option.{option_and_then}
use Rattle.std.specs.Str.{bytes_eq}
use Rattle.std.proofs.lemmas.List.{get_or-map, length-map}
use Rattle.std.proofs.lemmas.Option.{none-some, same_Some}
use Rattle.ats_facts.proofs.Bytes.{bytes_eq-true}
use Rattle.ats_num.specs.Name.{is_name, name_of}
use Rattle.ats_num.specs.Places.{place_of}
use Rattle.ats_topology.specs.Node.{is_station, names_of}
use Rattle.ats_topology.specs.Port.{no_port}
use Rattle.ats_topology.specs.Topology.{DeclaredTopology, if_station, no_node, node_at, station_named}
use Rattle.ats_topology.specs.declared.node.Node.{Node}
use Rattle.ats_topology.specs.declared.port.Port.{Port}
use Rattle.ats_topology.proofs.PositionLemmas.{found}
use Rattle.ats_streams.specs.Stream.{DeclaredStream}
use Rattle.ats_network.specs.Edits.{no_stream}
use Rattle.ats_port_names.specs.PortName.{name_of as written, port_named}
use Rattle.ats_command_input.specs.Stream.{stream_named}
use Rattle.ats_exact_examples.specs.Named.{IsNodeNamed, IsPortNamed, IsStreamNamed, NamesAreExact}

-- What stands at the place that a search by names finds.

stream_is : (streams : List DeclaredStream) (word : List ℕ) (n : ℕ) → stream_named streams word ≡ Some n
    → IsStreamNamed streams word n
stream_is streams word n named =
    let at = found (λ (stream : DeclaredStream). bytes_eq stream.name word) 0 streams n no_stream named in
    let same : at.place ≡ n = omega (arith, at.is) in
    subst (IsStreamNamed streams word) same (record {
      there = at.within;
      so = bytes_eq-true (get_or streams at.place no_stream).name word at.passes;
    })

port_is : (topology : DeclaredTopology) (text : List ℕ) (p : ℕ) → port_named topology text ≡ Some p
    → IsPortNamed topology text p
port_is topology text p named =
    let at = found (λ (port : Port). bytes_eq text (written topology port)) 0 topology.ports p no_port named in
    let same : at.place ≡ p = omega (arith, at.is) in
    subst (IsPortNamed topology text) same (record {
      there = at.within;
      so = sym (bytes_eq-true text (written topology (get_or topology.ports at.place no_port)) at.passes);
    })

-- a step behind another found something where both did
record Both {A B : Type 0} (f : A → Option B) (o : Option A) (y : B) : Type 0 where
  first : A
  is : o ≡ Some first
  gives : f first ≡ Some y

both : {A B : Type 0} (f : A → Option B) (o : Option A) (y : B) → option_and_then f o ≡ Some y → Both f o y
both f None y h = absurd (none-some y h)
both f (Some x) y h = record { first = x; is = refl; gives = h }

-- what passes a test is what was tested
kept : {A : Type 0} (b : Bool) (x y : A) → (if b then Some x else None) ≡ Some y → x ≡ y
kept true x y h = same_Some x y h
kept false x y h = absurd (none-some y h)

node_is : (topology : DeclaredTopology) (name : List ℕ) (n : ℕ) → place_of name (names_of topology.nodes) ≡ Some n
    → IsNodeNamed topology name n
node_is topology name n placed =
    let at = found (bytes_eq name) 0 (names_of topology.nodes) n [] placed in
    let same : at.place ≡ n = omega (arith, at.is) in
    let within : at.place < length topology.nodes =
    omega (arith, at.within, length-map topology.nodes (λ (node : Node). node.name)) in
    subst (IsNodeNamed topology name) same (record {
      there = within;
      so =
          sym (get_or-map (λ (node : Node). node.name) topology.nodes at.place no_node [] within)
          ∙ sym (bytes_eq-true name (get_or (names_of topology.nodes) at.place []) at.passes);
    })

station_is : (topology : DeclaredTopology) (word : List ℕ) (n : ℕ) → station_named topology word ≡ Some n
    → IsNodeNamed topology word n
station_is topology word n named =
    let last = both (if_station topology)
    (option_and_then (λ name. place_of name (names_of topology.nodes)) (name_of word)) n named in
    let placed = both (λ name. place_of name (names_of topology.nodes)) (name_of word) last.first last.is in
    let name : word ≡ placed.first = kept (is_name word) word placed.first placed.is in
    let number : last.first ≡ n =
    kept (is_station (node_at topology.nodes last.first).kind) last.first n last.gives in
    subst (λ (w : List ℕ). IsNodeNamed topology w n) (sym name)
    (subst (IsNodeNamed topology placed.first) number (node_is topology placed.first last.first placed.gives))

pub names_are_exact : NamesAreExact
names_are_exact = record { stream = stream_is; port = port_is; station = station_is }

-- A stream whose classes are set, and a stream that is taken out again.
use Rattle.std.proofs.Common.{◌≡◌, ℕ, zero, suc, ◌-◌, ◌<◌, List, [], ◌∷◌, ◌++◌, length, get_or, set}
use Rattle.std.proofs.Common.{Option, Some, refl, sym, ap, subst, ◌∙◌, arith, length-append}
use Rattle.std.proofs.Math.Seq.{get_or-append_seam, map-set_same, set-append_seam}
use Rattle.std.specs.List.{remove}
use Rattle.std.proofs.lemmas.List.{append-nil, get_or-map, get_or-set_same, length-map, length-set, set-set}
use Rattle.std.proofs.lemmas.List.Edits.{remove-append_right}
use Rattle.ats_num.specs.Places.{place_of}
use Rattle.ats_streams.specs.Stream.{DeclaredStream, with_class}
use Rattle.ats_topology.specs.Topology.{DeclaredTopology}
use Rattle.ats_network.specs.Edits.{classed, less_at, no_stream, with_class_at, without_named}
use Rattle.ats_network.specs.Network.{DeclaredNetwork, IsNetwork, network_within}
use Rattle.ats_network.specs.Pushes.{with_stream}
use Rattle.ats_network.specs.Tables.{stream_names}
use Rattle.ats_network.proofs.Edited.{streams_apart}
use Rattle.ats_admission.specs.Judged.{AreSameBut}
use Rattle.ats_admission_shares.specs.PortShares.{without_at}

abbrev name : DeclaredStream → List ℕ
name s = s.name

abbrev pub path : DeclaredStream → List ℕ
path s = s.ports

-- a network with other streams
abbrev pub over : DeclaredNetwork → List DeclaredStream → DeclaredNetwork
over network streams = record network { streams = streams }

-- the others are the same, whatever stands at a place
pub remove-set : {X : Type 0} (xs : List X) (n : ℕ) (x : X) → remove (set xs n x) n ≡ remove xs n
remove-set [] n x = refl
remove-set (y ∷ xs) zero x = refl
remove-set (y ∷ xs) (suc n) x = ap (λ (t : List _). y ∷ t) (remove-set xs n x)

-- nothing is changed at first
pub same_at_first : (n : ℕ) (network : DeclaredNetwork) → AreSameBut n network network
same_at_first n network = record {
  topology = refl;
  most_ports = refl;
  flows = refl;
  many = refl;
  names = refl;
  paths = refl;
  others = refl;
  classed = λ class. refl;
}

-- the class that was set last counts
classed_twice : (streams : List DeclaredStream) (n first second : ℕ) → n < length streams
    → classed (classed streams n first) n second ≡ classed streams n second
classed_twice streams n first second within =
    let before : DeclaredStream = get_or streams n no_stream in
    ap (λ (s : DeclaredStream). set (set streams n (with_class before first)) n (with_class s second))
    (get_or-set_same streams n (with_class before first) no_stream within)
    ∙ set-set streams n (with_class before first) (with_class before second)

-- so it stays where a class is set
pub same_classed : (n class : ℕ) (old between new : DeclaredNetwork) → n < length old.streams
    → AreSameBut n old between → new ≡ with_class_at between n class → AreSameBut n old new
same_classed n class old between new within same is =
    subst (λ (t : DeclaredNetwork). AreSameBut n old t) (sym is) (record {
      topology = same.topology;
      most_ports = same.most_ports;
      flows = same.flows;
      many = length-set between.streams n _ ∙ same.many;
      names = map-set_same name between.streams n _ no_stream refl ∙ same.names;
      paths = map-set_same path between.streams n _ no_stream refl ∙ same.paths;
      others = remove-set between.streams n _ ∙ same.others;
      classed = λ next. ap (over between) (classed_twice between.streams n class next
          (omega (arith, within, same.many))) ∙ same.classed next;
    })

-- the class of a stream that was added last
pub classed_last : (network : DeclaredNetwork) (stream : DeclaredStream) (class : ℕ)
    → with_class_at (with_stream network stream) (length network.streams) class
    ≡ with_stream network (with_class stream class)
classed_last network stream class =
    ap (over network)
    (ap (λ (s : DeclaredStream). set (network.streams ++ stream ∷ []) (length network.streams) (with_class s class))
    (get_or-append_seam network.streams stream [] no_stream)
    ∙ set-append_seam network.streams stream [] (with_class stream class))

-- the stream that was added last is found at its place
last_found : (network : DeclaredNetwork) (stream : DeclaredStream) → IsNetwork (with_stream network stream)
    → place_of stream.name (stream_names (network.streams ++ stream ∷ [])) ≡ Some (length network.streams)
last_found network stream is =
    let streams : List DeclaredStream = network.streams ++ stream ∷ [] in
    let within : length network.streams < length streams = omega (arith, length-append network.streams (stream ∷ [])) in
    let at : get_or (stream_names streams) (length network.streams) [] ≡ stream.name =
    get_or-map name streams (length network.streams) no_stream [] within
    ∙ ap name (get_or-append_seam network.streams stream [] no_stream) in
    ap (λ (q : List ℕ). place_of q (stream_names streams)) (sym at)
    ∙ streams_apart (with_stream network stream) is (length network.streams)
    (omega (arith, within, length-map streams name))

-- a stream that was added last is found at its place, whatever its classes
pub still_found : (network : DeclaredNetwork) (stream : DeclaredStream) (between : DeclaredNetwork)
    → IsNetwork (with_stream network stream)
    → AreSameBut (length network.streams) (with_stream network stream) between
    → place_of stream.name (stream_names between.streams) ≡ Some (length network.streams)
still_found network stream between is same =
    ap (place_of stream.name) same.names ∙ last_found network stream is

-- the others are the same networks
same_less : (n : ℕ) (old new : DeclaredNetwork) → AreSameBut n old new → without_at new n ≡ without_at old n
same_less n old new same =
    ap (over new) same.others
    ∙ ap (λ (t : DeclaredTopology). network_within t new.most_ports (remove old.streams n) new.flows) same.topology
    ∙ ap (λ (most : ℕ). network_within old.topology most (remove old.streams n) new.flows) same.most_ports
    ∙ ap (network_within old.topology old.most_ports (remove old.streams n)) same.flows

-- without the last stream, the network is what it was
pub without_last : (network : DeclaredNetwork) (stream : DeclaredStream)
    → without_at (with_stream network stream) (length network.streams) ≡ network
without_last network stream =
    ap (over network)
    (remove-append_right network.streams (stream ∷ []) (length network.streams) (length network.streams) refl
    (omega arith)
    ∙ ap (λ (k : ℕ). network.streams ++ remove (stream ∷ []) k)
    (let e : length network.streams - length network.streams ≡ 0 = omega arith in e)
    ∙ append-nil network.streams)

-- so it is where that stream is taken out again, whatever its classes
pub undone : (network : DeclaredNetwork) (stream : DeclaredStream) (between new : DeclaredNetwork)
    → AreSameBut (length network.streams) (with_stream network stream) between
    → new ≡ without_at between (length network.streams) → new ≡ network
undone network stream between new same taken =
    taken ∙ same_less (length network.streams) (with_stream network stream) between same ∙ without_last network stream

-- without the stream of a name, a network is without the one of its number
pub named_at : (network : DeclaredNetwork) (q : List ℕ) (n : ℕ) → place_of q (stream_names network.streams) ≡ Some n
    → without_named network q ≡ without_at network n
named_at network q n found = ap (λ (o : Option ℕ). over network (less_at o network.streams)) found

-- so it is what it was where a stream that was added last is taken out by its name
pub taken_again : (network : DeclaredNetwork) (stream : DeclaredStream) (new : DeclaredNetwork)
    → IsNetwork (with_stream network stream) → new ≡ without_named (with_stream network stream) stream.name
    → new ≡ network
taken_again network stream new is taken =
    undone network stream (with_stream network stream) new
    (same_at_first (length network.streams) (with_stream network stream))
    (taken ∙ named_at (with_stream network stream) stream.name (length network.streams) (last_found network stream is))

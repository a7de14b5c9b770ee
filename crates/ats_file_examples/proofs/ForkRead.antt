use Rattle.std.proofs.Common.{◌≡◌, ℕ, List, [], ◌∷◌, Some, Result, Ok, Err, refl, ap}
use Rattle.std.specs.Prelude.{codes}
use Rattle.std.specs.List.{All}
use Rattle.std.proofs.lemmas.List.Elements.{All-cons, All-nil}
use Rattle.ats_num.specs.Failure.{◌>>=◌, unless}
use Rattle.ats_network.specs.Network.{DeclaredNetwork, long_network}
use Rattle.ats_network.specs.Path.{IsValidPath}
use Rattle.ats_network.specs.Pushes.{stream_push_fault, with_stream}
use Rattle.ats_route_tree.specs.Legs.{DeclaredLegs}
use Rattle.ats_network_table.specs.declared.format.Format.TheVariants.{Three}
use Rattle.ats_network_toml.specs.Document as file
use Rattle.ats_network_toml.specs.Reading.{document_of}
use Rattle.ats_network_file.specs.Reading.{network_in}
use Rattle.ats_network_file.specs.Routes.{ports_of_each}
use Rattle.ats_network_file.specs.Senders.{all_added, flow_added, legs_in, refusal_of, stream_added, stream_made}
use Rattle.ats_network_file.specs.Senders.{stream_over}
use Rattle.ats_network_file.specs.declared.fault.NetFault.{NetFault}
use Rattle.ats_network_file.specs.declared.fault.NetFault.TheVariants as fault
use Rattle.ats_network_file.specs.declared.senders.SenderTable.TheVariants.{Stream}
use Rattle.ats_network_file.proofs.LegsFound.{legs_are, no_tree}
use Rattle.ats_examples.proofs.NetworkTest.{valid_from_by}
use Rattle.ats_examples.specs.Networks.{fork}
use Rattle.ats_file_examples.specs.Forked.{ForkIsRead, classes_text, document_with, ends_routes}
use Rattle.ats_file_examples.specs.Forked.{ends_text, forked, forked_text, paths_routes, paths_text}
use Rattle.ats_file_examples.proofs.Parsing.{parsed}
use Rattle.ats_file_examples.proofs.Steps.{at_stream, document_is, network_is, one_more, stream_is}

-- A stream with two listeners: its tables by computation, and its legs by a test of the ports of its routes.

to_second : IsValidPath fork.topology (0 ∷ 2 ∷ [])
to_second = valid_from_by fork.topology 0 (0 ∷ 2 ∷ []) refl

to_third : IsValidPath fork.topology (0 ∷ 5 ∷ [])
to_third = valid_from_by fork.topology 0 (0 ∷ 5 ∷ []) refl

both : (p q : List ℕ) → IsValidPath fork.topology p → IsValidPath fork.topology q
    → All (IsValidPath fork.topology) (p ∷ q ∷ [])
both p q first second =
    let P : List ℕ → Type 0 = IsValidPath fork.topology in
    All-cons P p (q ∷ []) first (All-cons P q [] second (All-nil P))

-- its legs, however its routes are written
abbrev legs : DeclaredLegs
legs = record { ports = 0 ∷ 2 ∷ 5 ∷ []; branches = record { first = 2; leg = 0; hop = 1 } ∷ [] }

legs_of : (routes : List file.DeclaredRoute)
    → ports_of_each fork.topology routes ≡ Some ((0 ∷ 2 ∷ []) ∷ (0 ∷ 5 ∷ []) ∷ [])
    → legs_in Three fork.topology (at_stream 1) routes ≡ Ok legs
legs_of routes ports =
    legs_are Three fork.topology (at_stream 1) routes ((0 ∷ 2 ∷ []) ∷ (0 ∷ 5 ∷ []) ∷ []) legs ports
    (both (0 ∷ 2 ∷ []) (0 ∷ 5 ∷ []) to_second to_third) refl refl

-- the network without the stream
abbrev none_yet : DeclaredNetwork
none_yet = long_network fork.topology [] []

-- what becomes of the stream of an entry over these legs
abbrev over : file.DeclaredStream → Result DeclaredNetwork NetFault
over entry =
    stream_made none_yet.topology none_yet.most_ports (at_stream 1) entry (stream_over legs entry)
    >>= λ stream. unless (refusal_of (at_stream 1)) (stream_push_fault none_yet stream) (with_stream none_yet stream)

-- the network of tables whose one stream comes to this
stream_comes : (entry : file.DeclaredStream) (due : Result DeclaredNetwork NetFault)
    → stream_added Three none_yet (at_stream 1) entry ≡ due
    → (all_added (stream_added Three) none_yet ((at_stream 1, entry) ∷ [])
    >>= λ streamed. all_added (flow_added Three) streamed []) ≡ due
stream_comes entry (Ok next) is =
    ap (λ (s : Result DeclaredNetwork NetFault). s >>= λ streamed. all_added (flow_added Three) streamed [])
    (one_more (stream_added Three) none_yet next (at_stream 1) entry [] is)
stream_comes entry (Err why) is =
    ap (λ (s : Result DeclaredNetwork NetFault). (s >>= λ next. all_added (stream_added Three) next [])
    >>= λ streamed. all_added (flow_added Three) streamed []) is

-- the entry of its stream
abbrev entry : List file.DeclaredRoute → List ℕ → file.DeclaredStream
entry routes classes = record {
  name = codes "a";
  routes = routes;
  classes = classes;
  rate_bps = 100000000;
  burst_bits = 12336;
  min_octets = 64;
  max_octets = 1522;
  deadline_ns = 26672;
  identity = Some (0x01005E000001, 5);
}

added : (routes : List file.DeclaredRoute) (given classes : List ℕ)
    → ports_of_each fork.topology routes ≡ Some ((0 ∷ 2 ∷ []) ∷ (0 ∷ 5 ∷ []) ∷ [])
    → over (entry routes given) ≡ Ok (forked classes)
    → network_in (document_with routes given) ≡ Ok (forked classes)
added routes given classes ports made =
    stream_comes (entry routes given) (Ok (forked classes))
    (stream_is Three none_yet (at_stream 1) (entry routes given) legs (Ok (forked classes)) (legs_of routes ports) made)

-- the tables of the four texts
tables_are : document_of (forked_text ends_text classes_text) ≡ Ok (document_with ends_routes (6 ∷ 5 ∷ 4 ∷ []))
unfolding parsed
tables_are =
    document_is (forked_text ends_text classes_text) (Ok (document_with ends_routes (6 ∷ 5 ∷ 4 ∷ []))) refl refl

paths_are : document_of (forked_text paths_text classes_text) ≡ Ok (document_with paths_routes (6 ∷ 5 ∷ 4 ∷ []))
unfolding parsed
paths_are =
    document_is (forked_text paths_text classes_text) (Ok (document_with paths_routes (6 ∷ 5 ∷ 4 ∷ []))) refl refl

class_is : document_of (forked_text ends_text (codes "class = 6\n")) ≡ Ok (document_with ends_routes (6 ∷ []))
unfolding parsed
class_is = document_is (forked_text ends_text (codes "class = 6\n")) (Ok (document_with ends_routes (6 ∷ []))) refl refl

abbrev twice : List file.DeclaredRoute
twice = file.ends (codes "s1") (codes "s2") ∷ file.ends (codes "s1") (codes "s2") ∷ []

abbrev twice_text : List ℕ
twice_text = forked_text (codes "from = \"s1\"\nto = [\"s2\", \"s2\"]\n") classes_text

twice_is : document_of twice_text ≡ Ok (document_with twice (6 ∷ 5 ∷ 4 ∷ []))
unfolding parsed
twice_is = document_is twice_text (Ok (document_with twice (6 ∷ 5 ∷ 4 ∷ []))) refl refl

no_legs : legs_in Three fork.topology (at_stream 1) twice ≡ Err (fault.BadPath Stream 1)
no_legs = no_tree Three fork.topology (at_stream 1) twice ((0 ∷ 2 ∷ []) ∷ (0 ∷ 2 ∷ []) ∷ []) refl
    (both (0 ∷ 2 ∷ []) (0 ∷ 2 ∷ []) to_second to_second) refl

refused : network_in (document_with twice (6 ∷ 5 ∷ 4 ∷ [])) ≡ Err (fault.BadPath Stream 1)
refused = stream_comes (entry twice (6 ∷ 5 ∷ 4 ∷ [])) (Err (fault.BadPath Stream 1))
    (ap (λ (r : Result DeclaredLegs NetFault). r >>= λ found. stream_made none_yet.topology 64 (at_stream 1)
    (entry twice (6 ∷ 5 ∷ 4 ∷ []))
    (stream_over found (entry twice (6 ∷ 5 ∷ 4 ∷ [])))
    >>= λ stream. unless (refusal_of (at_stream 1)) (stream_push_fault none_yet stream) (with_stream none_yet stream))
    no_legs)

pub fork_is_read : ForkIsRead
fork_is_read = record {
  tables = tables_are;
  tables_by_paths = paths_are;
  by_ends = network_is (forked_text ends_text classes_text) (document_with ends_routes (6 ∷ 5 ∷ 4 ∷ []))
      (Ok (forked (6 ∷ 5 ∷ 4 ∷ []))) tables_are (added ends_routes (6 ∷ 5 ∷ 4 ∷ []) (6 ∷ 5 ∷ 4 ∷ []) refl refl);
  by_paths = network_is (forked_text paths_text classes_text) (document_with paths_routes (6 ∷ 5 ∷ 4 ∷ []))
      (Ok (forked (6 ∷ 5 ∷ 4 ∷ []))) paths_are (added paths_routes (6 ∷ 5 ∷ 4 ∷ []) (6 ∷ 5 ∷ 4 ∷ []) refl refl);
  one_class = network_is (forked_text ends_text (codes "class = 6\n")) (document_with ends_routes (6 ∷ []))
      (Ok (forked (6 ∷ 6 ∷ 6 ∷ []))) class_is (added ends_routes (6 ∷ []) (6 ∷ 6 ∷ 6 ∷ []) refl refl);
  listener_twice = network_is twice_text (document_with twice (6 ∷ 5 ∷ 4 ∷ [])) (Err (fault.BadPath Stream 1)) twice_is
      refused;
}

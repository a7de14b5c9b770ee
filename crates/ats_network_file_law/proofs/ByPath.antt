-- With one listener each, streams are those that are written by their paths.
use Rattle.std.proofs.Common.{◌≡◌, ◌∙◌, ℕ, ◌+◌, List, [], ◌∷◌, ◌++◌, Option, Some, None, Result, Ok, Err, refl, sym, ap}
use Rattle.std.proofs.Common.{subst}
use Rattle.std.specs.Prelude.{option_and_then}
use Rattle.std.specs.Option.{option_map}
use Rattle.std.specs.List.{AllZip}
use Rattle.ats_num.specs.Failure.{◌>>=◌, ok_where, or_fault, unless}
use Rattle.ats_streams.specs.Branches.{routes_of}
use Rattle.ats_topology.specs.Faults.{topology_fault}
use Rattle.ats_topology.specs.Topology.{DeclaredTopology, topology_of}
use Rattle.ats_topology.specs.declared.fault.TopologyFault.{TopologyFault}
use Rattle.ats_topology.specs.declared.link.Link.{Link}
use Rattle.ats_topology.specs.declared.node.Node.{Node}
use Rattle.ats_network.specs.Network.{DeclaredNetwork, network_within}
use Rattle.ats_network.specs.Pushes.{stream_push_fault, with_stream}
use Rattle.ats_route_tree.specs.Legs.{DeclaredLegs}
use Rattle.ats_network_toml.specs.Document as file
use Rattle.ats_network_table.specs.declared.format.Format.{Format}
use Rattle.ats_network_file.specs.Reading.{links_of, most_ports_of, network_in, nodes_of}
use Rattle.ats_network_file.specs.Routes.{legs_with, may_declare, ports_of, ports_of_each}
use Rattle.ats_network_file.specs.LinkLocal.{streams_at}
use Rattle.ats_network_file.specs.Senders.{all_added, alone, flow_added, flows_in, legs_in, placed, refusal_of}
use Rattle.ats_network_file.specs.Senders.{stream_added, stream_made, stream_over}
use Rattle.ats_network_file.specs.declared.senders.Place.{Place}
use Rattle.ats_network_file.specs.declared.senders.SenderTable.TheVariants.{LinkLocal, Stream}
use Rattle.ats_network_file.specs.declared.fault.NetFault.{NetFault}
use Rattle.ats_network_file.specs.declared.fault.NetFault.TheVariants as net
use Rattle.ats_network_file_law.specs.OneListener.{AreWrittenByPath, IsWrittenByPath, OneListenerIsByPath}
use Rattle.ats_network_file_law.specs.Entries.{names_along}
use Rattle.ats_network_file_law.proofs.Entries.{stream_stands}
use Rattle.ats_network_file_law.proofs.Several.{IsPathAt, path_at}
use Rattle.ats_network_file_law.proofs.WrittenPaths.{path_back}

-- what comes behind a step is the same
same_behind : {A B F : Type 0} (r : Result A F) (k l : A → Result B F) → ((x : A) → r ≡ Ok x → k x ≡ l x)
    → (r >>= k) ≡ (r >>= l)
same_behind (Err e) k l same = refl
same_behind (Ok x) k l same = same x refl

-- the legs of one route are those of a path with the same ports
legs_same : (format : Format) (topology : DeclaredTopology) (n : Place) (route other : file.DeclaredRoute)
    → ports_of topology route ≡ ports_of topology other
    → legs_in format topology n (route ∷ []) ≡ legs_in format topology n (other ∷ [])
legs_same format topology n route other same =
    ap (λ (o : Option (List ℕ)). or_fault (net.BadPath n.table n.number) (option_and_then (legs_with topology)
    (option_and_then (λ ports. option_map (λ more. ports ∷ more) (ports_of_each topology [])) o))
    >>= λ l. ok_where (may_declare format topology (routes_of l.ports l.branches))
    (net.BadPath n.table n.number) l) same

-- what becomes of the legs of an entry
abbrev over : DeclaredNetwork → Place → file.DeclaredStream → DeclaredLegs → Result DeclaredNetwork NetFault
over s n e legs =
    stream_made s.topology s.most_ports n e (stream_over legs e)
    >>= λ stream. unless (refusal_of n) (stream_push_fault s stream) (with_stream s stream)

-- the ports of a route are those of its path
record IsWritten (topology : DeclaredTopology) (entry by : file.DeclaredStream) : Type 0 where
  route : file.DeclaredRoute
  names : List (List ℕ)
  one : entry.routes ≡ route ∷ []
  path : by.routes ≡ file.path names ∷ []
  same : ports_of topology route ≡ ports_of topology (file.path names)
  else_same : record entry { routes = by.routes } ≡ by

written : (nodes : List Node) (links : List Link) (entry by : file.DeclaredStream) → topology_fault nodes links ≡ None
    → IsWrittenByPath (topology_of nodes links) entry by → IsWritten (topology_of nodes links) entry by
written nodes links entry by none w =
    let topology : DeclaredTopology = topology_of nodes links in
    let at : IsPathAt topology w.route w.path = path_at topology w.route w.path w.found in
    record {
      route = w.route;
      names = names_along topology w.path;
      one = w.one;
      path = w.names;
      same = at.ports ∙ sym (path_back nodes links w.path none at.valid);
      else_same = w.else_same;
    }

all_written : (nodes : List Node) (links : List Link) (es bys : List file.DeclaredStream)
    → topology_fault nodes links ≡ None → AllZip (IsWrittenByPath (topology_of nodes links)) es bys
    → AllZip (IsWritten (topology_of nodes links)) es bys
all_written nodes links [] [] none zipped = tt
all_written nodes links [] (by ∷ bys) none zipped = absurd zipped
all_written nodes links (e ∷ es) [] none zipped = absurd zipped
all_written nodes links (e ∷ es) (by ∷ bys) none zipped =
    (written nodes links e by none zipped.0, all_written nodes links es bys none zipped.1)

added_same : (format : Format) (s : DeclaredNetwork) (n : Place) (e by : file.DeclaredStream)
    → IsWritten s.topology e by → stream_added format s n e ≡ stream_added format s n by
added_same format s n e by w =
    ap (λ (r : Result DeclaredLegs NetFault). r >>= over s n e)
    (ap (legs_in format s.topology n) w.one ∙ legs_same format s.topology n w.route (file.path w.names) w.same
    ∙ ap (legs_in format s.topology n) (sym w.path))
    ∙ ap (stream_added format s n) w.else_same

-- a stream that is added leaves the topology
same_topology : (format : Format) (s : DeclaredNetwork) (n : Place) (e : file.DeclaredStream) (next : DeclaredNetwork)
    → stream_added format s n e ≡ Ok next → next.topology ≡ s.topology
same_topology format s n e next h =
    ap (λ (m : DeclaredNetwork). m.topology) (stream_stands format s n e next h).added

all_same : (format : Format) (topology : DeclaredTopology) (s : DeclaredNetwork) (n : ℕ)
    (es bys : List file.DeclaredStream) (rest : List (Place × file.DeclaredStream)) → s.topology ≡ topology
    → AllZip (IsWritten topology) es bys
    → all_added (stream_added format) s (placed alone Stream n es ++ rest)
    ≡ all_added (stream_added format) s (placed alone Stream n bys ++ rest)
all_same format topology s n [] [] rest over zipped = refl
all_same format topology s n [] (by ∷ bys) rest over zipped = absurd zipped
all_same format topology s n (e ∷ es) [] rest over zipped = absurd zipped
all_same format topology s n (e ∷ es) (by ∷ bys) rest over zipped =
    let place : Place = record { table = Stream; number = n } in
    same_behind (stream_added format s place e)
    (λ next. all_added (stream_added format) next (placed alone Stream (n + 1) es ++ rest))
    (λ next. all_added (stream_added format) next (placed alone Stream (n + 1) bys ++ rest))
    (λ next is. all_same format topology next (n + 1) es bys rest (same_topology format s place e next is ∙ over)
    zipped.1)
    ∙ ap (λ (r : Result DeclaredNetwork NetFault). r
    >>= λ next. all_added (stream_added format) next (placed alone Stream (n + 1) bys ++ rest))
    (added_same format s place e by (subst (λ (t : DeclaredTopology). IsWritten t e by) (sym over) zipped.0))

-- the streams over a topology without a fault
abbrev streams_over : file.DeclaredDocument → List file.DeclaredStream → DeclaredTopology
    → Result DeclaredNetwork NetFault
streams_over d streams topology =
    all_added (stream_added d.format) (network_within topology (most_ports_of d.format) [] [])
    (placed alone Stream 1 streams ++ placed (streams_at topology) LinkLocal 1 d.link_locals)
    >>= λ s. all_added (flow_added d.format) s (flows_in topology d)

document_same : (d by : file.DeclaredDocument) → AreWrittenByPath d by
    → network_in d ≡ network_in (record d { streams = by.streams })
document_same d by w = based (topology_fault (nodes_of d) (links_of d)) refl
  where
    topology : DeclaredTopology
    topology = topology_of (nodes_of d) (links_of d)

    based : (o : Option TopologyFault) → topology_fault (nodes_of d) (links_of d) ≡ o
        → (unless net.Topology o topology >>= streams_over d d.streams)
        ≡ (unless net.Topology o topology >>= streams_over d by.streams)
    based (Some fault) e = refl
    based None e =
        ap (λ (r : Result DeclaredNetwork NetFault). r >>= λ s. all_added (flow_added d.format) s (flows_in topology d))
        (all_same d.format topology (network_within topology (most_ports_of d.format) [] []) 1 d.streams by.streams
        (placed (streams_at topology) LinkLocal 1 d.link_locals) refl
        (all_written (nodes_of d) (links_of d) d.streams by.streams e w.streams))

pub one_listener_is_by_path : OneListenerIsByPath
one_listener_is_by_path d by w = document_same d by w ∙ ap network_in w.else_same

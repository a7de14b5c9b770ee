-- The fault of a document's senders is their first.
use Rattle.std.proofs.Common.{◌≡◌, ◌∙◌, ℕ, ◌+◌, List, [], ◌∷◌, ◌++◌, length, map, Option, None, Result, Ok, refl, sym}
use Rattle.std.proofs.Common.{ap}
use Rattle.std.specs.List.{enumerate_from, flat_map}
use Rattle.std.proofs.Common.{subst}
use Rattle.std.proofs.lemmas.List.{append-nil}
use Rattle.ats_num.specs.Failure.{◌>>=◌, unless}
use Rattle.ats_topology.specs.Faults.{topology_fault}
use Rattle.ats_topology.specs.Topology.{DeclaredTopology, topology_of}
use Rattle.ats_topology.specs.declared.fault.TopologyFault.{TopologyFault}
use Rattle.ats_network.specs.Network.{DeclaredNetwork, network_within}
use Rattle.ats_network_toml.specs.Document as file
use Rattle.ats_network_table.specs.declared.format.Format.{Format}
use Rattle.ats_network_file.specs.Reading.{links_of, most_ports_of, network_in, nodes_of}
use Rattle.ats_network_file.specs.LinkLocal.{flows_at, streams_at}
use Rattle.ats_network_file.specs.Senders.{all_added, at_place, flow_added, flows_in, placed, stream_added, streams_in}
use Rattle.ats_network_file.specs.declared.senders.Place.{Place}
use Rattle.ats_network_file.specs.declared.senders.SenderTable.{SenderTable}
use Rattle.ats_network_file.specs.declared.senders.SenderTable.TheVariants.{Flow, LinkLocal, LinkLocalFlow, Stream}
use Rattle.ats_network_file.specs.declared.fault.NetFault.{NetFault}
use Rattle.ats_network_file.specs.declared.fault.NetFault.TheVariants as net
use Rattle.ats_network_file_law.specs.SenderFaults.{IsFirstRefused, SenderEntry, SenderFaultIsTheFirst, as_flow}
use Rattle.ats_network_file_law.specs.SenderFaults.{as_stream, counted, itself, sender_entries}
use Rattle.ats_network_file_law.proofs.Ends.{unchanged}
use Rattle.ats_network_file_law.proofs.SenderEntries.{FlowsStand, StreamsStand, flow_tells, names_there, stream_tells}
use Rattle.ats_network_file_law.proofs.SenderWalks.{IsFirstBehind, Tells, nothing, walk}

-- behind the last entry there is none with a fault
none_left : (format : Format) (topology : DeclaredTopology) (done : List SenderEntry) (s : DeclaredNetwork)
    → Tells format topology done [] (Ok s)
none_left format topology done s = record {
  first = λ f h. cc h;
  given = λ f h. absurd (nothing h.before h.entry h.after h.cut);
}

-- the flows behind the streams
flows_tell : (format : Format) (topology : DeclaredTopology) (flows : List (Place × file.DeclaredFlow))
    (done : List SenderEntry) (s : DeclaredNetwork) → StreamsStand format topology done s
    → Tells format topology done (map as_flow flows) (all_added (flow_added format) s flows)
flows_tell format topology flows done s h =
    subst (Tells format topology done (map as_flow flows)) (unchanged (all_added (flow_added format) s flows))
    (subst (λ (es : List SenderEntry). Tells format topology done es
    (all_added (flow_added format) s flows >>= λ x. Ok x))
    (append-nil (map as_flow flows))
    (walk format topology as_flow (flow_added format) (FlowsStand format topology)
    (λ done s e h. flow_tells format topology done s e.0 e.1 h) [] (λ x. Ok x)
    (λ done s h. none_left format topology done s) done s flows start))
  where
    start : FlowsStand format topology done s
    start = record {
      over = h.over;
      most = h.most;
      names = names_there format topology done s h;
      many = ap (λ fs. length fs) h.flows ∙ sym h.no_flows;
    }

-- a topology without senders, with the most ports of a route that a document's format gives
abbrev without_senders : file.DeclaredDocument → DeclaredTopology → DeclaredNetwork
without_senders d topology = network_within topology (most_ports_of d.format) [] []

-- what the senders of a document make of a topology
abbrev onward : file.DeclaredDocument → DeclaredTopology → Result DeclaredNetwork NetFault
onward d topology =
    all_added (stream_added d.format) (without_senders d topology) (streams_in topology d)
    >>= λ s. all_added (flow_added d.format) s (flows_in topology d)

-- the senders as they are added
abbrev added_entries : DeclaredTopology → file.DeclaredDocument → List SenderEntry
added_entries topology d = map as_stream (streams_in topology d) ++ map as_flow (flows_in topology d)

-- entries are counted from a number on as they are placed
counted_from : {E S : Type 0} (table : SenderTable) (each : E → List S) (n : ℕ) (entries : List E)
    → flat_map (λ e. map (λ s. (let p : Place = record { table = table; number = e.0 } in p, s)) (each e.1))
    (enumerate_from n entries)
    ≡ placed each table n entries
counted_from table each n [] = refl
counted_from table each n (e ∷ entries) =
    ap (λ more. map (at_place (record { table = table; number = n })) (each e) ++ more)
    (counted_from table each (n + 1) entries)

-- the senders that the law counts are those that are added
entries_are : (topology : DeclaredTopology) (d : file.DeclaredDocument)
    → added_entries topology d ≡ sender_entries topology d
entries_are topology d = sym (ap (λ (es : List SenderEntry). es ++ map as_flow flows) streams_same
    ∙ ap (λ (es : List SenderEntry). map as_stream (streams_in topology d) ++ es) flows_same)
  where
    flows : List (Place × file.DeclaredFlow)
    flows = counted Flow itself d.flows ++ counted LinkLocalFlow (flows_at topology) d.link_local_flows

    streams_same : map as_stream
        (counted Stream itself d.streams ++ counted LinkLocal (streams_at topology) d.link_locals)
        ≡ map as_stream (streams_in topology d)
    streams_same =
        ap (λ es. map as_stream (es ++ counted LinkLocal (streams_at topology) d.link_locals))
        (counted_from Stream itself 1 d.streams)
        ∙ ap (λ es. map as_stream (placed itself Stream 1 d.streams ++ es))
        (counted_from LinkLocal (streams_at topology) 1 d.link_locals)

    flows_same : map as_flow flows ≡ map as_flow (flows_in topology d)
    flows_same =
        ap (λ es. map as_flow (es ++ counted LinkLocalFlow (flows_at topology) d.link_local_flows))
        (counted_from Flow itself 1 d.flows)
        ∙ ap (λ es. map as_flow (placed itself Flow 1 d.flows ++ es))
        (counted_from LinkLocalFlow (flows_at topology) 1 d.link_local_flows)

added_tell : (topology : DeclaredTopology) (d : file.DeclaredDocument)
    → Tells d.format topology [] (added_entries topology d) (onward d topology)
added_tell topology d =
    walk d.format topology as_stream (stream_added d.format) (StreamsStand d.format topology)
    (λ done s e h. stream_tells d.format topology done s e.0 e.1 h) (map as_flow (flows_in topology d))
    (λ s. all_added (flow_added d.format) s (flows_in topology d))
    (flows_tell d.format topology (flows_in topology d)) [] (without_senders d topology) (streams_in topology d) start
  where
    start : StreamsStand d.format topology [] (without_senders d topology)
    start = record {
      over = refl;
      most = refl;
      names = refl;
      identities = refl;
      many = refl;
      legs = [];
      routed = tt;
      ports = refl;
      flows = refl;
      no_flows = refl;
    }

senders_tell : (topology : DeclaredTopology) (d : file.DeclaredDocument)
    → Tells d.format topology [] (sender_entries topology d) (onward d topology)
senders_tell topology d =
    subst (λ (es : List SenderEntry). Tells d.format topology [] es (onward d topology)) (entries_are topology d)
    (added_tell topology d)

-- a topology without a fault is gone on from
based : (d : file.DeclaredDocument) → topology_fault (nodes_of d) (links_of d) ≡ None
    → network_in d ≡ onward d (topology_of (nodes_of d) (links_of d))
based d h =
    ap (λ (o : Option TopologyFault). unless net.Topology o (topology_of (nodes_of d) (links_of d)) >>= onward d) h

behind : (format : Format) (topology : DeclaredTopology) (entries : List SenderEntry) (f : NetFault)
    → IsFirstRefused format topology entries f → IsFirstBehind format topology [] entries f
behind format topology entries f h = record {
  before = h.before;
  entry = h.entry;
  after = h.after;
  cut = h.cut;
  taken = h.taken;
  found = h.found;
}

refused : (format : Format) (topology : DeclaredTopology) (entries : List SenderEntry) (f : NetFault)
    → IsFirstBehind format topology [] entries f → IsFirstRefused format topology entries f
refused format topology entries f h = record {
  before = h.before;
  entry = h.entry;
  after = h.after;
  cut = h.cut;
  taken = h.taken;
  found = h.found;
}

pub fault_is_first : SenderFaultIsTheFirst
fault_is_first d f none =
    let topology : DeclaredTopology = topology_of (nodes_of d) (links_of d) in
    let tells = senders_tell topology d in (
      λ h. refused d.format topology (sender_entries topology d) f (tells.first f (sym (based d none) ∙ h)),
      λ h. based d none ∙ tells.given f (behind d.format topology (sender_entries topology d) f h),
    )

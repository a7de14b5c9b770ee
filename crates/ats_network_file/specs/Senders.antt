use Rattle.std.specs.Prelude.{ℕ, ◌+◌, if◌then◌else◌, List, [], ◌∷◌, ◌++◌, length, map, Option, Some, None}
use Rattle.std.specs.Prelude.{Result, Ok}
use Rattle.std.specs.Option.{option_or}
use Rattle.ats_topology.specs.Topology.{DeclaredTopology}
use Rattle.ats_streams.specs.Branches.{routes_of}
use Rattle.ats_streams.specs.Stream.{DeclaredStream, branching_stream, classes_for, stream_fault_within}
use Rattle.ats_streams.specs.Flow.{DeclaredFlow, declared_flow, flow_fault_within}
use Rattle.ats_streams.specs.declared.fault.StreamFault.{StreamFault}
use Rattle.ats_streams.specs.declared.fault.StreamFault.TheVariants as rule
use Rattle.ats_network.specs.Network.{DeclaredNetwork}
use Rattle.ats_network.specs.Rates.{is_overrated}
use Rattle.ats_network.specs.Sender.{stream_sender}
use Rattle.ats_route_tree.specs.Legs.{DeclaredLegs}
use Rattle.ats_network.specs.Pushes.{with_stream, with_flow, stream_push_fault, flow_push_fault}
use Rattle.ats_network.specs.declared.fault.PushFault.{PushFault}
use Rattle.ats_network.specs.declared.fault.PushFault.TheVariants.{NameTaken, IdentityTaken, Limit}
use Rattle.ats_network_table.specs.declared.format.Format.{Format}
use Rattle.ats_network_table.specs.declared.table.Table.{Table}
use Rattle.ats_network_table.specs.declared.table.Table.TheVariants as table
use Rattle.ats_network_table.specs.declared.fault.DocumentFault.TheVariants as form
use Rattle.ats_network_toml.specs.Document as file
use Rattle.ats_num.specs.Failure.{◌>>=◌, or_fault, ok_where, unless}
use Rattle.ats_network_file.specs.Routes.{is_valid, legs_of, may_declare, ports_of}
use Rattle.ats_network_file.specs.LinkLocal.{flows_at, streams_at}
use Rattle.ats_network_file.specs.declared.senders.Place.{Place}
use Rattle.ats_network_file.specs.declared.senders.SenderTable.{SenderTable}
use Rattle.ats_network_file.specs.declared.senders.SenderTable.TheVariants.{Stream, LinkLocal, Flow, LinkLocalFlow}
use Rattle.ats_network_file.specs.declared.fault.NetFault.{NetFault}
use Rattle.ats_network_file.specs.declared.fault.NetFault.TheVariants.{Form, BadPath, Sender, SenderTwice}
use Rattle.ats_network_file.specs.declared.fault.NetFault.TheVariants.{IdentityTwice}

-- the table of a sender among all tables of a file
abbrev pub table_of : SenderTable → Table
table_of Stream = table.Stream
table_of LinkLocal = table.LinkLocal
table_of Flow = table.Flow
table_of LinkLocalFlow = table.LinkLocalFlow

-- a sender with the place of its entry
abbrev pub at_place : {S : Type 0} → Place → S → Place × S
at_place place sender = (place, sender)

-- each sender that the entries of a table stand for, in order, with the place of its entry; the first entry has this
-- number
abbrev pub placed : {E S : Type 0} → (E → List S) → SenderTable → ℕ → List E → List (Place × S)
placed each table n [] = []
placed each table n (e ∷ entries) =
    map (at_place (record { table = table; number = n })) (each e) ++ placed each table (n + 1) entries

-- an entry that stands for itself
abbrev pub alone : {E : Type 0} → E → List E
alone e = e ∷ []

-- the streams of a document, with their places: those that stand there, and those at ports; and its flows
abbrev pub streams_in : DeclaredTopology → file.DeclaredDocument → List (Place × file.DeclaredStream)
streams_in topology d = placed alone Stream 1 d.streams ++ placed (streams_at topology) LinkLocal 1 d.link_locals

abbrev pub flows_in : DeclaredTopology → file.DeclaredDocument → List (Place × file.DeclaredFlow)
flows_in topology d = placed alone Flow 1 d.flows ++ placed (flows_at topology) LinkLocalFlow 1 d.link_local_flows

-- the path of a flow entry, which is valid, and which a file of the format may declare
abbrev pub path_in : Format → DeclaredTopology → Place → file.DeclaredRoute → Result (List ℕ) NetFault
path_in format topology place route = do
  path ← or_fault (BadPath place.table place.number) (ports_of topology route)
  valid ← ok_where (is_valid topology path) (BadPath place.table place.number) path
  ok_where (may_declare format topology (valid ∷ [])) (BadPath place.table place.number) valid

-- the legs of a stream entry: the tree that they make has the entry's routes, which a file of the format may declare
abbrev pub legs_in : Format → DeclaredTopology → Place → List file.DeclaredRoute → Result DeclaredLegs NetFault
legs_in format topology place routes = do
  legs ← or_fault (BadPath place.table place.number) (legs_of topology routes)
  ok_where (may_declare format topology (routes_of legs.ports legs.branches)) (BadPath place.table place.number) legs

-- a stream entry over legs; a single class stands for each of its ports
abbrev pub stream_over : DeclaredLegs → file.DeclaredStream → DeclaredStream
stream_over legs e =
    branching_stream e.name legs.ports legs.branches (classes_for (length legs.ports) e.classes) e.rate_bps e.burst_bits
    e.min_octets e.max_octets e.deadline_ns e.identity

-- a flow entry over a path
abbrev pub flow_over : List ℕ → file.DeclaredFlow → DeclaredFlow
flow_over path e = declared_flow e.name path e.max_octets

-- the limit on rates and bursts: by the clocks on its way, one of a stream is over the limits of a scheduler
abbrev pub rate_fault : DeclaredTopology → DeclaredStream → Option StreamFault
rate_fault topology stream = if is_overrated topology (stream_sender stream) then Some rule.Limit else None

-- the first rule that a stream over a topology breaks, where a route may have so many ports: the rules of each stream,
-- then this limit
abbrev pub stream_fault_over : DeclaredTopology → ℕ → List ℕ → DeclaredStream → Option StreamFault
stream_fault_over topology most given stream =
    option_or (stream_fault_within most given stream) (rate_fault topology stream)

-- the stream of an entry or a flow, or the first rule that it breaks
abbrev pub stream_made : DeclaredTopology → ℕ → Place → file.DeclaredStream → DeclaredStream
    → Result DeclaredStream NetFault
stream_made topology most place e stream =
    unless (Sender place.table place.number) (stream_fault_over topology most e.classes stream) stream

abbrev pub flow_made : ℕ → Place → DeclaredFlow → Result DeclaredFlow NetFault
flow_made most place flow = unless (Sender place.table place.number) (flow_fault_within most flow) flow

-- why a network does not take the sender of an entry: an earlier sender has its name, an earlier stream its identity,
-- or there are as many as a network may have
abbrev pub refusal_of : Place → PushFault → NetFault
refusal_of place NameTaken = SenderTwice place.table place.number
refusal_of place IdentityTaken = IdentityTwice place.number
refusal_of place Limit = Form (form.Limit (table_of place.table))

-- the network with the stream of an entry, in view of what was declared before it
abbrev pub stream_added : Format → DeclaredNetwork → Place → file.DeclaredStream → Result DeclaredNetwork NetFault
stream_added format network place e = do
  legs ← legs_in format network.topology place e.routes
  stream ← stream_made network.topology network.most_ports place e (stream_over legs e)
  unless (refusal_of place) (stream_push_fault network stream) (with_stream network stream)

-- the network with the flow of an entry
abbrev pub flow_added : Format → DeclaredNetwork → Place → file.DeclaredFlow → Result DeclaredNetwork NetFault
flow_added format network place e = do
  path ← path_in format network.topology place e.route
  flow ← flow_made network.most_ports place (flow_over path e)
  unless (refusal_of place) (flow_push_fault network flow) (with_flow network flow)

-- the network with these senders, one after another
abbrev pub all_added : {E : Type 0} → (DeclaredNetwork → Place → E → Result DeclaredNetwork NetFault) → DeclaredNetwork
    → List (Place × E) → Result DeclaredNetwork NetFault
all_added added network [] = Ok network
all_added added network (e ∷ entries) = do
  next ← added network e.0 e.1
  all_added added next entries

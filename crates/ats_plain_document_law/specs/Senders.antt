use Rattle.std.specs.Prelude.{◌≡◌, ℕ, true, false, List, [], ◌∷◌, ◌++◌, length, map, Some, None, Result, Ok, Err}
use Rattle.std.specs.List.{enumerate_from, flat_map}
use Rattle.ats_num.specs.Failure.{◌>>=◌}
use Rattle.ats_topology.specs.Topology.{DeclaredTopology}
use Rattle.ats_streams.specs.Branches.{routes_of}
use Rattle.ats_streams.specs.Flow.{flow_fault_within}
use Rattle.ats_streams.specs.Stream.{classes_for}
use Rattle.ats_streams.specs.declared.fault.StreamFault.{StreamFault}
use Rattle.ats_network.specs.Network.{DeclaredNetwork}
use Rattle.ats_network.specs.Pushes.{flow_push_fault, stream_push_fault, with_flow, with_stream}
use Rattle.ats_network.specs.declared.fault.PushFault.{PushFault}
use Rattle.ats_network.specs.declared.fault.PushFault.TheVariants.{IdentityTaken, Limit, NameTaken}
use Rattle.ats_route_tree.specs.Legs.{DeclaredLegs}
use Rattle.ats_network_table.specs.declared.fault.DocumentFault.TheVariants as form
use Rattle.ats_network_table.specs.declared.format.Format.{Format}
use Rattle.ats_network_table.specs.declared.table.Table.TheVariants as table
use Rattle.ats_network_toml.specs.Document as file
use Rattle.ats_network_file.specs.LinkLocal.{flows_at, streams_at}
use Rattle.ats_network_file.specs.Routes.{is_valid, legs_of, may_declare, ports_of}
use Rattle.ats_network_file.specs.Senders.{all_added, flow_added, flow_over, flows_in, refusal_of, stream_added}
use Rattle.ats_network_file.specs.Senders.{stream_fault_over, stream_over, streams_in, table_of}
use Rattle.ats_network_file.specs.declared.fault.NetFault.{NetFault}
use Rattle.ats_network_file.specs.declared.fault.NetFault.TheVariants.{BadPath, Form, IdentityTwice, Sender}
use Rattle.ats_network_file.specs.declared.fault.NetFault.TheVariants.{SenderTwice}
use Rattle.ats_network_file.specs.declared.senders.Place.{Place}
use Rattle.ats_network_file.specs.declared.senders.SenderTable.TheVariants.{Flow, LinkLocal, LinkLocalFlow, Stream}

-- a stream has the name, the numbers and the identity of its entry, the ports and the branches of its legs, and a class
-- for each of these ports; a flow the name and the greatest octets of its entry, and its path
pub record SendersAreOfEntries : Type 0 where
  pub name : (legs : DeclaredLegs) (e : file.DeclaredStream) → (stream_over legs e).name ≡ e.name
  pub ports : (legs : DeclaredLegs) (e : file.DeclaredStream) → (stream_over legs e).ports ≡ legs.ports
  pub branches : (legs : DeclaredLegs) (e : file.DeclaredStream) → (stream_over legs e).branches ≡ legs.branches
  pub classes : (legs : DeclaredLegs) (e : file.DeclaredStream) → (stream_over legs e).classes
      ≡ classes_for (length legs.ports) e.classes
  pub rate : (legs : DeclaredLegs) (e : file.DeclaredStream) → (stream_over legs e).rate ≡ e.rate_bps
  pub burst : (legs : DeclaredLegs) (e : file.DeclaredStream) → (stream_over legs e).burst_bits ≡ e.burst_bits
  pub least : (legs : DeclaredLegs) (e : file.DeclaredStream) → (stream_over legs e).min_octets ≡ e.min_octets
  pub greatest : (legs : DeclaredLegs) (e : file.DeclaredStream) → (stream_over legs e).max_octets ≡ e.max_octets
  pub deadline : (legs : DeclaredLegs) (e : file.DeclaredStream) → (stream_over legs e).deadline_ns ≡ e.deadline_ns
  pub identity : (legs : DeclaredLegs) (e : file.DeclaredStream) → (stream_over legs e).identity ≡ e.identity
  pub flow_name : (path : List ℕ) (e : file.DeclaredFlow) → (flow_over path e).name ≡ e.name
  pub flow_path : (path : List ℕ) (e : file.DeclaredFlow) → (flow_over path e).path ≡ path
  pub flow_greatest : (path : List ℕ) (e : file.DeclaredFlow) → (flow_over path e).max_octets ≡ e.max_octets

-- the streams of a document are those of its entries and behind them those that each table for a port stands for, and
-- its flows too; each with its table and the number of its entry there, counted from 1
pub record SendersAreInOrder : Type 0 where
  pub streams : (t : DeclaredTopology) (d : file.DeclaredDocument) → streams_in t d
      ≡ map (λ e. (record { table = Stream; number = e.0 }, e.1)) (enumerate_from 1 d.streams)
      ++ flat_map (λ e. map (λ s. (record { table = LinkLocal; number = e.0 }, s)) (streams_at t e.1))
      (enumerate_from 1 d.link_locals)
  pub flows : (t : DeclaredTopology) (d : file.DeclaredDocument) → flows_in t d
      ≡ map (λ e. (record { table = Flow; number = e.0 }, e.1)) (enumerate_from 1 d.flows)
      ++ flat_map (λ e. map (λ s. (record { table = LinkLocalFlow; number = e.0 }, s)) (flows_at t e.1))
      (enumerate_from 1 d.link_local_flows)

-- a stream is refused where no tree has its routes; else where its routes may not be declared in the format; else where
-- it breaks a rule; else where the network does not take it; and else it is added
pub record StreamsAreAdded : Type 0 where
  pub no_tree : (f : Format) (network : DeclaredNetwork) (place : Place) (e : file.DeclaredStream)
      → legs_of network.topology e.routes ≡ None
      → stream_added f network place e ≡ Err (BadPath place.table place.number)
  pub no_routes : (f : Format) (network : DeclaredNetwork) (place : Place) (e : file.DeclaredStream)
      (legs : DeclaredLegs) → legs_of network.topology e.routes ≡ Some legs
      → may_declare f network.topology (routes_of legs.ports legs.branches) ≡ false
      → stream_added f network place e ≡ Err (BadPath place.table place.number)
  pub breaks : (f : Format) (network : DeclaredNetwork) (place : Place) (e : file.DeclaredStream)
      (legs : DeclaredLegs) (fault : StreamFault) → legs_of network.topology e.routes ≡ Some legs
      → may_declare f network.topology (routes_of legs.ports legs.branches) ≡ true
      → stream_fault_over network.topology network.most_ports e.classes (stream_over legs e) ≡ Some fault
      → stream_added f network place e ≡ Err (Sender place.table place.number fault)
  pub refused : (f : Format) (network : DeclaredNetwork) (place : Place) (e : file.DeclaredStream)
      (legs : DeclaredLegs) (reason : PushFault) → legs_of network.topology e.routes ≡ Some legs
      → may_declare f network.topology (routes_of legs.ports legs.branches) ≡ true
      → stream_fault_over network.topology network.most_ports e.classes (stream_over legs e) ≡ None
      → stream_push_fault network (stream_over legs e) ≡ Some reason
      → stream_added f network place e ≡ Err (refusal_of place reason)
  pub added : (f : Format) (network : DeclaredNetwork) (place : Place) (e : file.DeclaredStream)
      (legs : DeclaredLegs) → legs_of network.topology e.routes ≡ Some legs
      → may_declare f network.topology (routes_of legs.ports legs.branches) ≡ true
      → stream_fault_over network.topology network.most_ports e.classes (stream_over legs e) ≡ None
      → stream_push_fault network (stream_over legs e) ≡ None
      → stream_added f network place e ≡ Ok (with_stream network (stream_over legs e))

-- and so is a flow, whose ports have to be a valid path
pub record FlowsAreAdded : Type 0 where
  pub no_ports : (f : Format) (network : DeclaredNetwork) (place : Place) (e : file.DeclaredFlow)
      → ports_of network.topology e.route ≡ None
      → flow_added f network place e ≡ Err (BadPath place.table place.number)
  pub no_path : (f : Format) (network : DeclaredNetwork) (place : Place) (e : file.DeclaredFlow) (path : List ℕ)
      → ports_of network.topology e.route ≡ Some path → is_valid network.topology path ≡ false
      → flow_added f network place e ≡ Err (BadPath place.table place.number)
  pub no_route : (f : Format) (network : DeclaredNetwork) (place : Place) (e : file.DeclaredFlow) (path : List ℕ)
      → ports_of network.topology e.route ≡ Some path → is_valid network.topology path ≡ true
      → may_declare f network.topology (path ∷ []) ≡ false
      → flow_added f network place e ≡ Err (BadPath place.table place.number)
  pub breaks : (f : Format) (network : DeclaredNetwork) (place : Place) (e : file.DeclaredFlow) (path : List ℕ)
      (fault : StreamFault) → ports_of network.topology e.route ≡ Some path → is_valid network.topology path ≡ true
      → may_declare f network.topology (path ∷ []) ≡ true
      → flow_fault_within network.most_ports (flow_over path e) ≡ Some fault
      → flow_added f network place e ≡ Err (Sender place.table place.number fault)
  pub refused : (f : Format) (network : DeclaredNetwork) (place : Place) (e : file.DeclaredFlow) (path : List ℕ)
      (reason : PushFault) → ports_of network.topology e.route ≡ Some path → is_valid network.topology path ≡ true
      → may_declare f network.topology (path ∷ []) ≡ true
      → flow_fault_within network.most_ports (flow_over path e) ≡ None
      → flow_push_fault network (flow_over path e) ≡ Some reason
      → flow_added f network place e ≡ Err (refusal_of place reason)
  pub added : (f : Format) (network : DeclaredNetwork) (place : Place) (e : file.DeclaredFlow) (path : List ℕ)
      → ports_of network.topology e.route ≡ Some path → is_valid network.topology path ≡ true
      → may_declare f network.topology (path ∷ []) ≡ true
      → flow_fault_within network.most_ports (flow_over path e) ≡ None
      → flow_push_fault network (flow_over path e) ≡ None
      → flow_added f network place e ≡ Ok (with_flow network (flow_over path e))

-- a name that an earlier sender has is told with the table and the number of the later one, an identity with its
-- number, and a limit with its table
pub record RefusalsAreTold : Type 0 where
  pub name : (place : Place) → refusal_of place NameTaken ≡ SenderTwice place.table place.number
  pub identity : (place : Place) → refusal_of place IdentityTaken ≡ IdentityTwice place.number
  pub limit : (place : Place) → refusal_of place Limit ≡ Form (form.Limit (table_of place.table))
  pub stream : table_of Stream ≡ table.Stream
  pub link_local : table_of LinkLocal ≡ table.LinkLocal
  pub flow : table_of Flow ≡ table.Flow
  pub link_local_flow : table_of LinkLocalFlow ≡ table.LinkLocalFlow

-- senders are added one behind the other, each to the network with those before it, as far as the first that is refused
pub record AddedInTurn (E : Type 0) : Type 0 where
  pub none : (added : DeclaredNetwork → Place → E → Result DeclaredNetwork NetFault) (network : DeclaredNetwork)
      → all_added added network [] ≡ Ok network
  pub more : (added : DeclaredNetwork → Place → E → Result DeclaredNetwork NetFault) (network : DeclaredNetwork)
      (e : Place × E) (entries : List (Place × E)) → all_added added network (e ∷ entries)
      ≡ (added network e.0 e.1 >>= λ next. all_added added next entries)

pub record SendersAreDeclared : Type 0 where
  pub entries : SendersAreOfEntries
  pub order : SendersAreInOrder
  pub streams : StreamsAreAdded
  pub flows : FlowsAreAdded
  pub refusals : RefusalsAreTold
  pub streams_in_turn : AddedInTurn file.DeclaredStream
  pub flows_in_turn : AddedInTurn file.DeclaredFlow

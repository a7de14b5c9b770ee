use Rattle.std.specs.Prelude.{◌≡◌, ◌↔◌, ◌⊎◌, ℕ, ◌≤◌, ◌<◌, Bool, true, false, List, [], ◌∷◌, ◌++◌, length, map}
use Rattle.std.specs.Prelude.{filter, sum_by, Option, Some, None, is_some, Err}
use Rattle.std.specs.List.{AllZip, enumerate_from, flat_map, list_any}
use Rattle.ats_num.specs.Places.{place_of}
use Rattle.ats_topology.specs.Faults.{topology_fault}
use Rattle.ats_topology.specs.Topology.{DeclaredTopology, topology_of}
use Rattle.ats_streams.specs.Flow.{flow_fault_within}
use Rattle.ats_streams.specs.declared.fault.StreamFault.{StreamFault}
use Rattle.ats_network.specs.Pushes.{is_identity}
use Rattle.ats_network.specs.declared.network.TheConstants.{MAX_STREAMS, MAX_FLOWS, MAX_PORTS_TOGETHER}
use Rattle.ats_route_tree.specs.Legs.{DeclaredLegs, HaveRoutes}
use Rattle.ats_network_table.specs.declared.fault.DocumentFault.TheVariants as form
use Rattle.ats_network_table.specs.declared.format.Format.{Format}
use Rattle.ats_network_toml.specs.Document as file
use Rattle.ats_network_file.specs.LinkLocal.{flows_at, streams_at}
use Rattle.ats_network_file.specs.Reading.{links_of, most_ports_of, network_in, nodes_of}
use Rattle.ats_network_file.specs.Routes.{may_declare, ports_of}
use Rattle.ats_network_file.specs.Senders.{flow_over, stream_fault_over, stream_over, table_of}
use Rattle.ats_network_file.specs.declared.senders.Place.{Place}
use Rattle.ats_network_file.specs.declared.senders.SenderTable.{SenderTable}
use Rattle.ats_network_file.specs.declared.senders.SenderTable.TheVariants.{Flow, LinkLocal, LinkLocalFlow, Stream}
use Rattle.ats_network_file.specs.declared.fault.NetFault.{NetFault}
use Rattle.ats_network_file.specs.declared.fault.NetFault.TheVariants.{BadPath, Form, IdentityTwice, Sender}
use Rattle.ats_network_file.specs.declared.fault.NetFault.TheVariants.{SenderTwice}

-- what declares a sender, with the place of its entry in the file: a stream or a flow
pub data SenderEntry : Type 0 where
  stream : Place → file.DeclaredStream → SenderEntry
  flow : Place → file.DeclaredFlow → SenderEntry

abbrev pub as_stream : Place × file.DeclaredStream → SenderEntry
as_stream e = stream e.0 e.1

abbrev pub as_flow : Place × file.DeclaredFlow → SenderEntry
as_flow e = flow e.0 e.1

-- the senders of the entries of a table, each at its entry's number, which counts from 1
abbrev pub counted : {E S : Type 0} → SenderTable → (E → List S) → List E → List (Place × S)
counted table each entries =
    flat_map (λ e. map (λ s. (record { table = table; number = e.0 }, s)) (each e.1)) (enumerate_from 1 entries)

-- an entry of a stream or flow declares itself alone
abbrev pub itself : {E : Type 0} → E → List E
itself e = e ∷ []

-- the senders of a document over a topology: the streams, those for each port, the flows, those for each port
abbrev pub sender_entries : DeclaredTopology → file.DeclaredDocument → List SenderEntry
sender_entries topology d =
    map as_stream (counted Stream itself d.streams ++ counted LinkLocal (streams_at topology) d.link_locals)
    ++ map as_flow (counted Flow itself d.flows ++ counted LinkLocalFlow (flows_at topology) d.link_local_flows)

-- where the entry of a sender stands
abbrev pub place_in : SenderEntry → Place
place_in (stream place e) = place
place_in (flow place e) = place

-- whether it declares a stream or a flow
pub data Kind : Type 0 where
  a_stream : Kind
  a_flow : Kind

abbrev pub kind_in : SenderEntry → Kind
kind_in (stream place e) = a_stream
kind_in (flow place e) = a_flow

-- its name, the routes to its listeners, and the identity of its frames, which no flow has
abbrev pub name_in : SenderEntry → List ℕ
name_in (stream place e) = e.name
name_in (flow place e) = e.name

abbrev pub routes_in : SenderEntry → List file.DeclaredRoute
routes_in (stream place e) = e.routes
routes_in (flow place e) = e.route ∷ []

abbrev pub identity_in : SenderEntry → Option (ℕ × ℕ)
identity_in (stream place e) = e.identity
identity_in (flow place e) = None

-- the first rule that an entry breaks over legs, if it breaks one, where a route may have so many ports; the last one
-- of a stream is that no rate or burst of it is, by the clocks on its way, over the limits of a scheduler
abbrev pub broken_over : DeclaredTopology → ℕ → SenderEntry → DeclaredLegs → Option StreamFault
broken_over topology most (stream place e) legs = stream_fault_over topology most e.classes (stream_over legs e)
broken_over topology most (flow place e) legs = flow_fault_within most (flow_over legs.ports e)

-- one of these entries has this name
abbrev pub is_name_given : List SenderEntry → List ℕ → Bool
is_name_given entries name = is_some (place_of name (map name_in entries))

-- an identity is given, and one of these entries has it
abbrev pub is_identity_given : List SenderEntry → Option (ℕ × ℕ) → Bool
is_identity_given entries None = false
is_identity_given entries (Some identity) = list_any (is_identity identity) (map identity_in entries)

-- how many of these are streams, or flows, and how many a network takes of them
abbrev pub stands_in : Kind → SenderEntry → Bool
stands_in a_stream (stream place e) = true
stands_in a_stream (flow place e) = false
stands_in a_flow (stream place e) = false
stands_in a_flow (flow place e) = true

abbrev pub count_in : Kind → List SenderEntry → ℕ
count_in kind entries = length (filter (stands_in kind) entries)

abbrev pub most_in : Kind → ℕ
most_in a_stream = MAX_STREAMS
most_in a_flow = MAX_FLOWS

-- a route has these ports
abbrev pub HasPorts : DeclaredTopology → file.DeclaredRoute → List ℕ → Type 0
HasPorts topology route ports = ports_of topology route ≡ Some ports

-- the ports of the entry's routes are those of the routes of a tree, which has these legs, and a file of the format may
-- declare these routes; that of a flow is a path
pub record IsRouted (format : Format) (topology : DeclaredTopology) (entry : SenderEntry) (legs : DeclaredLegs)
    : Type 0 where
  pub routes : List (List ℕ)
  pub ports : AllZip (HasPorts topology) (routes_in entry) routes
  pub have : HaveRoutes topology routes legs
  pub may : may_declare format topology routes ≡ true

-- no tree has its routes, or a file of the format may not declare them
abbrev pub IsPathless : Format → DeclaredTopology → SenderEntry → Type 0
IsPathless format topology entry = (legs : DeclaredLegs) → IsRouted format topology entry legs → ⊥

-- it has legs, and over them breaks this rule first
pub record IsBreach (format : Format) (topology : DeclaredTopology) (entry : SenderEntry) (fault : StreamFault)
    : Type 0 where
  pub legs : DeclaredLegs
  pub routed : IsRouted format topology entry legs
  pub broken : broken_over topology (most_ports_of format) entry legs ≡ Some fault

-- it has legs, and over them breaks no rule
pub record IsRuled (format : Format) (topology : DeclaredTopology) (entry : SenderEntry) : Type 0 where
  pub legs : DeclaredLegs
  pub routed : IsRouted format topology entry legs
  pub kept : broken_over topology (most_ports_of format) entry legs ≡ None

-- it breaks no rule, and an entry before it has its name
pub record IsNameTwice (format : Format) (topology : DeclaredTopology) (before : List SenderEntry)
    (entry : SenderEntry) : Type 0 where
  pub ruled : IsRuled format topology entry
  pub taken : is_name_given before (name_in entry) ≡ true

-- it breaks no rule, and no entry before it has its name
pub record IsNew (format : Format) (topology : DeclaredTopology) (before : List SenderEntry) (entry : SenderEntry)
    : Type 0 where
  pub ruled : IsRuled format topology entry
  pub named : is_name_given before (name_in entry) ≡ false

-- and an entry before it has its identity
pub record IsIdentityTwice (format : Format) (topology : DeclaredTopology) (before : List SenderEntry)
    (entry : SenderEntry) : Type 0 where
  pub new : IsNew format topology before entry
  pub taken : is_identity_given before (identity_in entry) ≡ true

-- the ports of some legs, counted together
abbrev pub ports_together : List DeclaredLegs → ℕ
ports_together legs = sum_by (λ (l : DeclaredLegs). length l.ports) legs

-- the streams before a stream and the stream itself have more ports together than the streams of a network may have
pub record IsPortsPast (format : Format) (topology : DeclaredTopology) (before : List SenderEntry)
    (entry : SenderEntry) : Type 0 where
  pub stands : kind_in entry ≡ a_stream
  pub legs : List DeclaredLegs
  pub routed : AllZip (IsRouted format topology) (filter (stands_in a_stream) before ++ entry ∷ []) legs
  pub past : MAX_PORTS_TOGETHER < ports_together legs

-- as many streams, or flows, stand before it as a network takes, or the streams so far have too many ports
abbrev pub IsOverLimit : Format → DeclaredTopology → List SenderEntry → SenderEntry → Type 0
IsOverLimit format topology before entry =
    (most_in (kind_in entry) ≤ count_in (kind_in entry) before) ⊎ IsPortsPast format topology before entry

-- nothing is wrong with it but that it is over a limit
pub record IsPast (format : Format) (topology : DeclaredTopology) (before : List SenderEntry) (entry : SenderEntry)
    : Type 0 where
  pub new : IsNew format topology before entry
  pub own : is_identity_given before (identity_in entry) ≡ false
  pub past : IsOverLimit format topology before entry

-- the entry of a sender has this number in this table
pub record IsAt (entry : SenderEntry) (table : SenderTable) (number : ℕ) : Type 0 where
  pub stands : table ≡ (place_in entry).table
  pub counted : number ≡ (place_in entry).number

-- the entry behind these has this fault, which names its place
abbrev pub HasFault : Format → DeclaredTopology → List SenderEntry → SenderEntry → NetFault → Type 0
HasFault format topology before entry (BadPath t n) = IsAt entry t n × IsPathless format topology entry
HasFault format topology before entry (Sender t n fault) = IsAt entry t n × IsBreach format topology entry fault
HasFault format topology before entry (SenderTwice t n) =
    IsAt entry t n × IsNameTwice format topology before entry
HasFault format topology before entry (IdentityTwice n) =
    (n ≡ (place_in entry).number) × IsIdentityTwice format topology before entry
HasFault format topology before entry (Form (form.Limit t)) =
    (t ≡ table_of (place_in entry).table) × IsPast format topology before entry
HasFault format topology before entry _ = ⊥

-- no entry has a fault behind those before it
abbrev pub AreTaken : Format → DeclaredTopology → List SenderEntry → Type 0
AreTaken format topology entries = (before : List SenderEntry) (entry : SenderEntry) (after : List SenderEntry)
    (fault : NetFault) → before ++ entry ∷ after ≡ entries → HasFault format topology before entry fault → ⊥

-- an entry has this fault, and no entry before it has any
pub record IsFirstRefused (format : Format) (topology : DeclaredTopology) (entries : List SenderEntry)
    (fault : NetFault) : Type 0 where
  pub before : List SenderEntry
  pub entry : SenderEntry
  pub after : List SenderEntry
  pub cut : before ++ entry ∷ after ≡ entries
  pub taken : AreTaken format topology before
  pub found : HasFault format topology before entry fault

-- a document whose nodes and links have no fault gives a fault exactly where it is the first of its senders
abbrev pub SenderFaultIsTheFirst : Type 0
SenderFaultIsTheFirst = (d : file.DeclaredDocument) (fault : NetFault) → topology_fault (nodes_of d) (links_of d) ≡ None
    → network_in d ≡ Err fault ↔ IsFirstRefused d.format (topology_of (nodes_of d) (links_of d))
    (sender_entries (topology_of (nodes_of d) (links_of d)) d) fault

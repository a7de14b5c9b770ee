use Rattle.std.specs.Prelude.{◌≡◌, ◌↔◌, [], ◌∷◌, Some, Ok, Err}
use Rattle.ats_network_table.specs.Walk.{Entry, classes_at, clock_at, deadline_at, formed, identity_at, long_at}
use Rattle.ats_network_table.specs.Walk.{name_at, short_at, short_name_at}
use Rattle.ats_network_table.specs.Words.{greatest_processing_key, least_processing_key}
use Rattle.ats_network_table.specs.declared.fault.DocumentFault.{DocumentFault}
use Rattle.ats_network_table.specs.declared.key.Key.TheVariants as key
use Rattle.ats_network_toml.specs.Document.{DeclaredFlow, DeclaredLinkLocal, DeclaredLinkLocalFlow, DeclaredStream}
use Rattle.ats_network_toml.specs.Entries.{bridge_in, flow_in, link_in, link_local_flow_in, link_local_in, numbers_in}
use Rattle.ats_network_toml.specs.Entries.{route_at, routes_at, station_in, stream_in}
use Rattle.ats_network_toml.specs.declared.entries.BridgeEntry.{BridgeEntry}
use Rattle.ats_network_toml.specs.declared.entries.LinkEntry.{LinkEntry}
use Rattle.ats_network_toml.specs.declared.entries.StationEntry.{StationEntry}
use Rattle.ats_network_toml.specs.declared.entries.StreamNumbers.{StreamNumbers}
use Rattle.ats_plain_document_law.specs.Faults.{fault_in, first_fault}

-- A table gives an entry where it is well formed and what stands with each key is what the entry has; and else its
-- fault is the first of those of its form and of its keys.

-- a station has a name
pub record StationsAreRead : Type 0 where
  pub read : (e : Entry) (s : StationEntry) → station_in e ≡ Ok s
      ↔ ((formed e ≡ Ok tt) × (name_at e key.Name ≡ Ok s.name))
  pub refused : (e : Entry) (fault : DocumentFault) → station_in e ≡ Err fault
      ↔ (first_fault (fault_in (formed e) ∷ fault_in (name_at e key.Name) ∷ []) ≡ Some fault)

-- a bridge has a name, its least and its greatest processing time, its residence, and the two numbers of its clock
pub record BridgesAreRead : Type 0 where
  pub read : (e : Entry) (b : BridgeEntry) → bridge_in e ≡ Ok b
      ↔ ((formed e ≡ Ok tt) × (name_at e key.Name ≡ Ok b.name)
      × (short_at e (least_processing_key e.format) ≡ Ok b.processing_min_ns)
      × (short_at e (greatest_processing_key e.format) ≡ Ok b.processing_max_ns)
      × (short_at e key.ResidenceNs ≡ Ok b.residence_ns) × (clock_at e key.ClockPpm ≡ Ok b.clock_ppm)
      × (clock_at e key.ClockStepPs ≡ Ok b.clock_step_ps))
  pub refused : (e : Entry) (fault : DocumentFault) → bridge_in e ≡ Err fault
      ↔ (first_fault (fault_in (formed e) ∷ fault_in (name_at e key.Name)
      ∷ fault_in (short_at e (least_processing_key e.format)) ∷ fault_in (short_at e (greatest_processing_key e.format))
      ∷ fault_in (short_at e key.ResidenceNs) ∷ fault_in (clock_at e key.ClockPpm)
      ∷ fault_in (clock_at e key.ClockStepPs) ∷ []) ≡ Some fault)

-- a link has two ends, a rate and a propagation
pub record LinksAreRead : Type 0 where
  pub read : (e : Entry) (l : LinkEntry) → link_in e ≡ Ok l
      ↔ ((formed e ≡ Ok tt) × (name_at e key.A ≡ Ok l.a) × (name_at e key.B ≡ Ok l.b)
      × (short_at e key.Mbps ≡ Ok l.mbps) × (short_at e key.PropagationNs ≡ Ok l.propagation_ns))
  pub refused : (e : Entry) (fault : DocumentFault) → link_in e ≡ Err fault
      ↔ (first_fault (fault_in (formed e) ∷ fault_in (name_at e key.A) ∷ fault_in (name_at e key.B)
      ∷ fault_in (short_at e key.Mbps) ∷ fault_in (short_at e key.PropagationNs) ∷ []) ≡ Some fault)

-- the numbers of a stream are its rate, its burst, its least and its greatest octets and its deadline
pub record NumbersAreRead : Type 0 where
  pub read : (e : Entry) (n : StreamNumbers) → numbers_in e ≡ Ok n
      ↔ ((long_at e key.RateBps ≡ Ok n.rate_bps) × (long_at e key.BurstBits ≡ Ok n.burst_bits)
      × (long_at e key.MinOctets ≡ Ok n.min_octets) × (long_at e key.MaxOctets ≡ Ok n.max_octets)
      × (deadline_at e ≡ Ok n.deadline_ns))
  pub refused : (e : Entry) (fault : DocumentFault) → numbers_in e ≡ Err fault
      ↔ (first_fault (fault_in (long_at e key.RateBps) ∷ fault_in (long_at e key.BurstBits)
      ∷ fault_in (long_at e key.MinOctets) ∷ fault_in (long_at e key.MaxOctets) ∷ fault_in (deadline_at e) ∷ [])
      ≡ Some fault)

-- a stream has a name, routes, classes, these numbers and, where one is given, an identity
pub record StreamsAreRead : Type 0 where
  pub read : (e : Entry) (s : DeclaredStream) → stream_in e ≡ Ok s
      ↔ ((formed e ≡ Ok tt) × (name_at e key.Name ≡ Ok s.name) × (routes_at e ≡ Ok s.routes)
      × (classes_at e ≡ Ok s.classes)
      × (numbers_in e ≡ Ok (record {
        rate_bps = s.rate_bps;
        burst_bits = s.burst_bits;
        min_octets = s.min_octets;
        max_octets = s.max_octets;
        deadline_ns = s.deadline_ns;
      })) × (identity_at e ≡ Ok s.identity))
  pub refused : (e : Entry) (fault : DocumentFault) → stream_in e ≡ Err fault
      ↔ (first_fault (fault_in (formed e) ∷ fault_in (name_at e key.Name) ∷ fault_in (routes_at e)
      ∷ fault_in (classes_at e) ∷ fault_in (numbers_in e) ∷ fault_in (identity_at e) ∷ []) ≡ Some fault)

-- a stream for each port has a name to which a port's number may be put, one class and these numbers
pub record LinkLocalsAreRead : Type 0 where
  pub read : (e : Entry) (s : DeclaredLinkLocal) → link_local_in e ≡ Ok s
      ↔ ((formed e ≡ Ok tt) × (short_name_at e key.Name ≡ Ok s.name) × (long_at e key.Class ≡ Ok s.class)
      × (numbers_in e ≡ Ok (record {
        rate_bps = s.rate_bps;
        burst_bits = s.burst_bits;
        min_octets = s.min_octets;
        max_octets = s.max_octets;
        deadline_ns = s.deadline_ns;
      })))
  pub refused : (e : Entry) (fault : DocumentFault) → link_local_in e ≡ Err fault
      ↔ (first_fault (fault_in (formed e) ∷ fault_in (short_name_at e key.Name) ∷ fault_in (long_at e key.Class)
      ∷ fault_in (numbers_in e) ∷ []) ≡ Some fault)

-- a flow has a name, a route and its greatest octets
pub record FlowsAreRead : Type 0 where
  pub read : (e : Entry) (f : DeclaredFlow) → flow_in e ≡ Ok f
      ↔ ((formed e ≡ Ok tt) × (name_at e key.Name ≡ Ok f.name) × (route_at e ≡ Ok f.route)
      × (long_at e key.MaxOctets ≡ Ok f.max_octets))
  pub refused : (e : Entry) (fault : DocumentFault) → flow_in e ≡ Err fault
      ↔ (first_fault (fault_in (formed e) ∷ fault_in (name_at e key.Name) ∷ fault_in (route_at e)
      ∷ fault_in (long_at e key.MaxOctets) ∷ []) ≡ Some fault)

-- a flow for each port has such a name and its greatest octets
pub record LinkLocalFlowsAreRead : Type 0 where
  pub read : (e : Entry) (f : DeclaredLinkLocalFlow) → link_local_flow_in e ≡ Ok f
      ↔ ((formed e ≡ Ok tt) × (short_name_at e key.Name ≡ Ok f.name) × (long_at e key.MaxOctets ≡ Ok f.max_octets))
  pub refused : (e : Entry) (fault : DocumentFault) → link_local_flow_in e ≡ Err fault
      ↔ (first_fault (fault_in (formed e) ∷ fault_in (short_name_at e key.Name)
      ∷ fault_in (long_at e key.MaxOctets) ∷ []) ≡ Some fault)

pub record EntriesAreDeclared : Type 0 where
  pub stations : StationsAreRead
  pub bridges : BridgesAreRead
  pub links : LinksAreRead
  pub numbers : NumbersAreRead
  pub streams : StreamsAreRead
  pub link_locals : LinkLocalsAreRead
  pub flows : FlowsAreRead
  pub link_local_flows : LinkLocalFlowsAreRead

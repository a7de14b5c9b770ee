use Rattle.std.proofs.Common.{◌≡◌, ◌∷◌, [], Option, Ok, refl}
use Rattle.ats_network_table.specs.Walk.{Entry, classes_at, clock_at, deadline_at, formed, identity_at, long_at}
use Rattle.ats_network_table.specs.Walk.{name_at, short_at, short_name_at}
use Rattle.ats_network_table.specs.Words.{greatest_processing_key, least_processing_key}
use Rattle.ats_network_table.specs.declared.fault.DocumentFault.{DocumentFault}
use Rattle.ats_network_table.specs.declared.key.Key.TheVariants as key
use Rattle.ats_network_toml.specs.Document.{DeclaredFlow, DeclaredLinkLocal, DeclaredLinkLocalFlow, DeclaredStream}
use Rattle.ats_network_toml.specs.Entries.{bridge_in, flow_in, link_in, link_local_flow_in, link_local_in, numbers_in}
use Rattle.ats_network_toml.specs.Entries.{route_at, routes_at, station_in, stream_in}
use Rattle.ats_network_toml.specs.declared.entries.BridgeEntry.{BridgeEntry}
use Rattle.ats_network_toml.specs.declared.entries.LinkEntry.{LinkEntry}
use Rattle.ats_network_toml.specs.declared.entries.StationEntry.{StationEntry}
use Rattle.ats_network_toml.specs.declared.entries.StreamNumbers.{StreamNumbers}
use Rattle.ats_plain_document_law.specs.Entries.{BridgesAreRead, EntriesAreDeclared, FlowsAreRead}
use Rattle.ats_plain_document_law.specs.Entries.{LinkLocalFlowsAreRead, LinkLocalsAreRead, LinksAreRead, NumbersAreRead}
use Rattle.ats_plain_document_law.specs.Entries.{StationsAreRead, StreamsAreRead}
use Rattle.ats_plain_document_law.specs.Faults.{fault_in, first_fault}
use Rattle.ats_plain_document_law.proofs.Steps.{Told, next, read_only, refused_by, then_ok}

-- What each table gives, key by key, and which fault it has.

-- the numbers of a stream, together
abbrev as_numbers : DeclaredStream → StreamNumbers
as_numbers s = record {
  rate_bps = s.rate_bps;
  burst_bits = s.burst_bits;
  min_octets = s.min_octets;
  max_octets = s.max_octets;
  deadline_ns = s.deadline_ns;
}

abbrev for_ports : DeclaredLinkLocal → StreamNumbers
for_ports s = record {
  rate_bps = s.rate_bps;
  burst_bits = s.burst_bits;
  min_octets = s.min_octets;
  max_octets = s.max_octets;
  deadline_ns = s.deadline_ns;
}

abbrev GivesStation : Entry → StationEntry → Type 0
GivesStation e x = (formed e ≡ Ok tt) × (name_at e key.Name ≡ Ok x.name)

abbrev station_fault : Entry → Option DocumentFault
station_fault e = first_fault (fault_in (formed e) ∷ fault_in (name_at e key.Name) ∷ [])

station_told : (e : Entry) → Told (GivesStation e) (station_fault e) (station_in e)
station_told e =
    next (GivesStation e) _ (formed e) _ (λ well is_well.
    next (GivesStation e) _ (name_at e key.Name) _ (λ name is_name.
    (refl, (is_well, is_name))))

station_given : (e : Entry) (x : StationEntry) → GivesStation e x → station_in e ≡ Ok x
station_given e x is =
    then_ok (formed e) _ tt _ is.0
    (then_ok (name_at e key.Name) _ x.name _ is.1
    refl)

stations : StationsAreRead
stations = record {
  read = λ e x. (
    (λ h. read_only (GivesStation e) (station_fault e) (station_in e) (station_told e) x h),
    (λ is. station_given e x is),
  );
  refused = λ e fault. refused_by (GivesStation e) (station_fault e) (station_in e) (station_told e) fault;
}

abbrev GivesBridge : Entry → BridgeEntry → Type 0
GivesBridge e x = (formed e ≡ Ok tt) × (name_at e key.Name ≡ Ok x.name)
    × (short_at e (least_processing_key e.format) ≡ Ok x.processing_min_ns)
    × (short_at e (greatest_processing_key e.format) ≡ Ok x.processing_max_ns)
    × (short_at e key.ResidenceNs ≡ Ok x.residence_ns) × (clock_at e key.ClockPpm ≡ Ok x.clock_ppm)
    × (clock_at e key.ClockStepPs ≡ Ok x.clock_step_ps)

abbrev bridge_fault : Entry → Option DocumentFault
bridge_fault e = first_fault (fault_in (formed e) ∷ fault_in (name_at e key.Name)
    ∷ fault_in (short_at e (least_processing_key e.format))
    ∷ fault_in (short_at e (greatest_processing_key e.format)) ∷ fault_in (short_at e key.ResidenceNs)
    ∷ fault_in (clock_at e key.ClockPpm) ∷ fault_in (clock_at e key.ClockStepPs) ∷ [])

bridge_told : (e : Entry) → Told (GivesBridge e) (bridge_fault e) (bridge_in e)
bridge_told e =
    next (GivesBridge e) _ (formed e) _ (λ well is_well.
    next (GivesBridge e) _ (name_at e key.Name) _ (λ name is_name.
    next (GivesBridge e) _ (short_at e (least_processing_key e.format)) _ (λ least is_least.
    next (GivesBridge e) _ (short_at e (greatest_processing_key e.format)) _ (λ most is_most.
    next (GivesBridge e) _ (short_at e key.ResidenceNs) _ (λ residence is_residence.
    next (GivesBridge e) _ (clock_at e key.ClockPpm) _ (λ ppm is_ppm.
    next (GivesBridge e) _ (clock_at e key.ClockStepPs) _ (λ step is_step.
    (refl, (is_well, is_name, is_least, is_most, is_residence, is_ppm, is_step)))))))))

bridge_given : (e : Entry) (x : BridgeEntry) → GivesBridge e x → bridge_in e ≡ Ok x
bridge_given e x is =
    then_ok (formed e) _ tt _ is.0
    (then_ok (name_at e key.Name) _ x.name _ is.1
    (then_ok (short_at e (least_processing_key e.format)) _ x.processing_min_ns _ is.2
    (then_ok (short_at e (greatest_processing_key e.format)) _ x.processing_max_ns _ is.3
    (then_ok (short_at e key.ResidenceNs) _ x.residence_ns _ is.4
    (then_ok (clock_at e key.ClockPpm) _ x.clock_ppm _ is.5
    (then_ok (clock_at e key.ClockStepPs) _ x.clock_step_ps _ is.6
    refl))))))

bridges : BridgesAreRead
bridges = record {
  read = λ e x. (
    (λ h. read_only (GivesBridge e) (bridge_fault e) (bridge_in e) (bridge_told e) x h),
    (λ is. bridge_given e x is),
  );
  refused = λ e fault. refused_by (GivesBridge e) (bridge_fault e) (bridge_in e) (bridge_told e) fault;
}

abbrev GivesLink : Entry → LinkEntry → Type 0
GivesLink e x = (formed e ≡ Ok tt) × (name_at e key.A ≡ Ok x.a) × (name_at e key.B ≡ Ok x.b)
    × (short_at e key.Mbps ≡ Ok x.mbps) × (short_at e key.PropagationNs ≡ Ok x.propagation_ns)

abbrev link_fault : Entry → Option DocumentFault
link_fault e = first_fault (fault_in (formed e) ∷ fault_in (name_at e key.A) ∷ fault_in (name_at e key.B)
    ∷ fault_in (short_at e key.Mbps) ∷ fault_in (short_at e key.PropagationNs) ∷ [])

link_told : (e : Entry) → Told (GivesLink e) (link_fault e) (link_in e)
link_told e =
    next (GivesLink e) _ (formed e) _ (λ well is_well.
    next (GivesLink e) _ (name_at e key.A) _ (λ a is_a.
    next (GivesLink e) _ (name_at e key.B) _ (λ b is_b.
    next (GivesLink e) _ (short_at e key.Mbps) _ (λ mbps is_mbps.
    next (GivesLink e) _ (short_at e key.PropagationNs) _ (λ propagation is_propagation.
    (refl, (is_well, is_a, is_b, is_mbps, is_propagation)))))))

link_given : (e : Entry) (x : LinkEntry) → GivesLink e x → link_in e ≡ Ok x
link_given e x is =
    then_ok (formed e) _ tt _ is.0
    (then_ok (name_at e key.A) _ x.a _ is.1
    (then_ok (name_at e key.B) _ x.b _ is.2
    (then_ok (short_at e key.Mbps) _ x.mbps _ is.3
    (then_ok (short_at e key.PropagationNs) _ x.propagation_ns _ is.4
    refl))))

links : LinksAreRead
links = record {
  read = λ e x. (
    (λ h. read_only (GivesLink e) (link_fault e) (link_in e) (link_told e) x h),
    (λ is. link_given e x is),
  );
  refused = λ e fault. refused_by (GivesLink e) (link_fault e) (link_in e) (link_told e) fault;
}

abbrev GivesNumbers : Entry → StreamNumbers → Type 0
GivesNumbers e x = (long_at e key.RateBps ≡ Ok x.rate_bps) × (long_at e key.BurstBits ≡ Ok x.burst_bits)
    × (long_at e key.MinOctets ≡ Ok x.min_octets) × (long_at e key.MaxOctets ≡ Ok x.max_octets)
    × (deadline_at e ≡ Ok x.deadline_ns)

abbrev numbers_fault : Entry → Option DocumentFault
numbers_fault e = first_fault (fault_in (long_at e key.RateBps) ∷ fault_in (long_at e key.BurstBits)
    ∷ fault_in (long_at e key.MinOctets) ∷ fault_in (long_at e key.MaxOctets) ∷ fault_in (deadline_at e) ∷ [])

numbers_told : (e : Entry) → Told (GivesNumbers e) (numbers_fault e) (numbers_in e)
numbers_told e =
    next (GivesNumbers e) _ (long_at e key.RateBps) _ (λ rate is_rate.
    next (GivesNumbers e) _ (long_at e key.BurstBits) _ (λ burst is_burst.
    next (GivesNumbers e) _ (long_at e key.MinOctets) _ (λ least is_least.
    next (GivesNumbers e) _ (long_at e key.MaxOctets) _ (λ most is_most.
    next (GivesNumbers e) _ (deadline_at e) _ (λ deadline is_deadline.
    (refl, (is_rate, is_burst, is_least, is_most, is_deadline)))))))

numbers_given : (e : Entry) (x : StreamNumbers) → GivesNumbers e x → numbers_in e ≡ Ok x
numbers_given e x is =
    then_ok (long_at e key.RateBps) _ x.rate_bps _ is.0
    (then_ok (long_at e key.BurstBits) _ x.burst_bits _ is.1
    (then_ok (long_at e key.MinOctets) _ x.min_octets _ is.2
    (then_ok (long_at e key.MaxOctets) _ x.max_octets _ is.3
    (then_ok (deadline_at e) _ x.deadline_ns _ is.4
    refl))))

numbers_are : NumbersAreRead
numbers_are = record {
  read = λ e x. (
    (λ h. read_only (GivesNumbers e) (numbers_fault e) (numbers_in e) (numbers_told e) x h),
    (λ is. numbers_given e x is),
  );
  refused = λ e fault. refused_by (GivesNumbers e) (numbers_fault e) (numbers_in e) (numbers_told e) fault;
}

abbrev GivesStream : Entry → DeclaredStream → Type 0
GivesStream e x = (formed e ≡ Ok tt) × (name_at e key.Name ≡ Ok x.name) × (routes_at e ≡ Ok x.routes)
    × (classes_at e ≡ Ok x.classes) × (numbers_in e ≡ Ok (as_numbers x)) × (identity_at e ≡ Ok x.identity)

abbrev stream_fault : Entry → Option DocumentFault
stream_fault e = first_fault (fault_in (formed e) ∷ fault_in (name_at e key.Name) ∷ fault_in (routes_at e)
    ∷ fault_in (classes_at e) ∷ fault_in (numbers_in e) ∷ fault_in (identity_at e) ∷ [])

stream_told : (e : Entry) → Told (GivesStream e) (stream_fault e) (stream_in e)
stream_told e =
    next (GivesStream e) _ (formed e) _ (λ well is_well.
    next (GivesStream e) _ (name_at e key.Name) _ (λ name is_name.
    next (GivesStream e) _ (routes_at e) _ (λ routes is_routes.
    next (GivesStream e) _ (classes_at e) _ (λ classes is_classes.
    next (GivesStream e) _ (numbers_in e) _ (λ numbers is_numbers.
    next (GivesStream e) _ (identity_at e) _ (λ identity is_identity.
    (refl, (is_well, is_name, is_routes, is_classes, is_numbers, is_identity))))))))

stream_given : (e : Entry) (x : DeclaredStream) → GivesStream e x → stream_in e ≡ Ok x
stream_given e x is =
    then_ok (formed e) _ tt _ is.0
    (then_ok (name_at e key.Name) _ x.name _ is.1
    (then_ok (routes_at e) _ x.routes _ is.2
    (then_ok (classes_at e) _ x.classes _ is.3
    (then_ok (numbers_in e) _ (as_numbers x) _ is.4
    (then_ok (identity_at e) _ x.identity _ is.5
    refl)))))

streams : StreamsAreRead
streams = record {
  read = λ e x. (
    (λ h. read_only (GivesStream e) (stream_fault e) (stream_in e) (stream_told e) x h),
    (λ is. stream_given e x is),
  );
  refused = λ e fault. refused_by (GivesStream e) (stream_fault e) (stream_in e) (stream_told e) fault;
}

abbrev GivesLinkLocal : Entry → DeclaredLinkLocal → Type 0
GivesLinkLocal e x = (formed e ≡ Ok tt) × (short_name_at e key.Name ≡ Ok x.name) × (long_at e key.Class ≡ Ok x.class)
    × (numbers_in e ≡ Ok (for_ports x))

abbrev link_local_fault : Entry → Option DocumentFault
link_local_fault e = first_fault (fault_in (formed e) ∷ fault_in (short_name_at e key.Name)
    ∷ fault_in (long_at e key.Class) ∷ fault_in (numbers_in e) ∷ [])

link_local_told : (e : Entry) → Told (GivesLinkLocal e) (link_local_fault e) (link_local_in e)
link_local_told e =
    next (GivesLinkLocal e) _ (formed e) _ (λ well is_well.
    next (GivesLinkLocal e) _ (short_name_at e key.Name) _ (λ name is_name.
    next (GivesLinkLocal e) _ (long_at e key.Class) _ (λ class is_class.
    next (GivesLinkLocal e) _ (numbers_in e) _ (λ numbers is_numbers.
    (refl, (is_well, is_name, is_class, is_numbers))))))

link_local_given : (e : Entry) (x : DeclaredLinkLocal) → GivesLinkLocal e x → link_local_in e ≡ Ok x
link_local_given e x is =
    then_ok (formed e) _ tt _ is.0
    (then_ok (short_name_at e key.Name) _ x.name _ is.1
    (then_ok (long_at e key.Class) _ x.class _ is.2
    (then_ok (numbers_in e) _ (for_ports x) _ is.3
    refl)))

link_locals : LinkLocalsAreRead
link_locals = record {
  read = λ e x. (
    (λ h. read_only (GivesLinkLocal e) (link_local_fault e) (link_local_in e) (link_local_told e) x h),
    (λ is. link_local_given e x is),
  );
  refused = λ e fault. refused_by (GivesLinkLocal e) (link_local_fault e) (link_local_in e) (link_local_told e) fault;
}

abbrev GivesFlow : Entry → DeclaredFlow → Type 0
GivesFlow e x = (formed e ≡ Ok tt) × (name_at e key.Name ≡ Ok x.name) × (route_at e ≡ Ok x.route)
    × (long_at e key.MaxOctets ≡ Ok x.max_octets)

abbrev flow_fault : Entry → Option DocumentFault
flow_fault e = first_fault (fault_in (formed e) ∷ fault_in (name_at e key.Name) ∷ fault_in (route_at e)
    ∷ fault_in (long_at e key.MaxOctets) ∷ [])

flow_told : (e : Entry) → Told (GivesFlow e) (flow_fault e) (flow_in e)
flow_told e =
    next (GivesFlow e) _ (formed e) _ (λ well is_well.
    next (GivesFlow e) _ (name_at e key.Name) _ (λ name is_name.
    next (GivesFlow e) _ (route_at e) _ (λ route is_route.
    next (GivesFlow e) _ (long_at e key.MaxOctets) _ (λ most is_most.
    (refl, (is_well, is_name, is_route, is_most))))))

flow_given : (e : Entry) (x : DeclaredFlow) → GivesFlow e x → flow_in e ≡ Ok x
flow_given e x is =
    then_ok (formed e) _ tt _ is.0
    (then_ok (name_at e key.Name) _ x.name _ is.1
    (then_ok (route_at e) _ x.route _ is.2
    (then_ok (long_at e key.MaxOctets) _ x.max_octets _ is.3
    refl)))

flows : FlowsAreRead
flows = record {
  read = λ e x. (
    (λ h. read_only (GivesFlow e) (flow_fault e) (flow_in e) (flow_told e) x h),
    (λ is. flow_given e x is),
  );
  refused = λ e fault. refused_by (GivesFlow e) (flow_fault e) (flow_in e) (flow_told e) fault;
}

abbrev GivesLinkLocalFlow : Entry → DeclaredLinkLocalFlow → Type 0
GivesLinkLocalFlow e x = (formed e ≡ Ok tt) × (short_name_at e key.Name ≡ Ok x.name)
    × (long_at e key.MaxOctets ≡ Ok x.max_octets)

abbrev link_local_flow_fault : Entry → Option DocumentFault
link_local_flow_fault e = first_fault (fault_in (formed e) ∷ fault_in (short_name_at e key.Name)
    ∷ fault_in (long_at e key.MaxOctets) ∷ [])

link_local_flow_told : (e : Entry) → Told (GivesLinkLocalFlow e) (link_local_flow_fault e) (link_local_flow_in e)
link_local_flow_told e =
    next (GivesLinkLocalFlow e) _ (formed e) _ (λ well is_well.
    next (GivesLinkLocalFlow e) _ (short_name_at e key.Name) _ (λ name is_name.
    next (GivesLinkLocalFlow e) _ (long_at e key.MaxOctets) _ (λ most is_most.
    (refl, (is_well, is_name, is_most)))))

link_local_flow_given : (e : Entry) (x : DeclaredLinkLocalFlow) → GivesLinkLocalFlow e x → link_local_flow_in e ≡ Ok x
link_local_flow_given e x is =
    then_ok (formed e) _ tt _ is.0
    (then_ok (short_name_at e key.Name) _ x.name _ is.1
    (then_ok (long_at e key.MaxOctets) _ x.max_octets _ is.2
    refl))

link_local_flows : LinkLocalFlowsAreRead
link_local_flows = record {
  read = λ e x. (
    (λ h. read_only (GivesLinkLocalFlow e) (link_local_flow_fault e) (link_local_flow_in e)
        (link_local_flow_told e) x h),
    (λ is. link_local_flow_given e x is),
  );
  refused = λ e fault. refused_by (GivesLinkLocalFlow e) (link_local_flow_fault e) (link_local_flow_in e)
      (link_local_flow_told e) fault;
}

pub entries_are_declared : EntriesAreDeclared
entries_are_declared = record {
  stations = stations;
  bridges = bridges;
  links = links;
  numbers = numbers_are;
  streams = streams;
  link_locals = link_locals;
  flows = flows;
  link_local_flows = link_local_flows;
}

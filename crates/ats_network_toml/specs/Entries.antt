use Rattle.std.specs.Prelude.{List, [], ◌∷◌, map, Result, Ok, if◌then◌else◌}
use Rattle.ats_num.specs.Failure.{◌>>=◌}
use Rattle.ats_network_table.specs.Walk.{Entry, has, formed, name_at, short_at, short_name_at, long_at, path_at}
use Rattle.ats_network_table.specs.Walk.{classes_at, clock_at}
use Rattle.ats_network_table.specs.Walk.{deadline_at, has_paths, identity_at, listeners_at, paths_at}
use Rattle.ats_network_table.specs.Words.{least_processing_key, greatest_processing_key}
use Rattle.ats_network_table.specs.declared.key.Key.TheVariants as key
use Rattle.ats_network_table.specs.declared.fault.DocumentFault.{DocumentFault}
use Rattle.ats_network_toml.specs.Document.{DeclaredRoute, path, ends, DeclaredStream, DeclaredFlow, DeclaredLinkLocal}
use Rattle.ats_network_toml.specs.Document.{DeclaredLinkLocalFlow}
use Rattle.ats_network_toml.specs.declared.entries.StationEntry.{StationEntry}
use Rattle.ats_network_toml.specs.declared.entries.BridgeEntry.{BridgeEntry}
use Rattle.ats_network_toml.specs.declared.entries.LinkEntry.{LinkEntry}
use Rattle.ats_network_toml.specs.declared.entries.StreamNumbers.{StreamNumbers}

-- the path, or its two ends
abbrev pub route_at : Entry → Result DeclaredRoute DocumentFault
route_at e =
    if has e key.Path then (path_at e >>= λ names. Ok (path names))
    else (name_at e key.From >>= λ from. name_at e key.To >>= λ to. Ok (ends from to))

-- the routes of a stream, one to each listener: its path, its paths, or those from one node to each of the others
abbrev pub routes_at : Entry → Result (List DeclaredRoute) DocumentFault
routes_at e =
    if has e key.Path then (path_at e >>= λ names. Ok (path names ∷ []))
    else if has_paths e then (paths_at e >>= λ paths. Ok (map path paths))
    else (name_at e key.From >>= λ from. listeners_at e >>= λ listeners. Ok (map (ends from) listeners))

abbrev pub station_in : Entry → Result StationEntry DocumentFault
station_in e = do
  well ← formed e
  name ← name_at e key.Name
  Ok (record { name = name })

abbrev pub bridge_in : Entry → Result BridgeEntry DocumentFault
bridge_in e = do
  well ← formed e
  name ← name_at e key.Name
  least ← short_at e (least_processing_key e.format)
  most ← short_at e (greatest_processing_key e.format)
  residence ← short_at e key.ResidenceNs
  ppm ← clock_at e key.ClockPpm
  step ← clock_at e key.ClockStepPs
  Ok (record {
    name = name;
    processing_min_ns = least;
    processing_max_ns = most;
    residence_ns = residence;
    clock_ppm = ppm;
    clock_step_ps = step;
  })

abbrev pub link_in : Entry → Result LinkEntry DocumentFault
link_in e = do
  well ← formed e
  a ← name_at e key.A
  b ← name_at e key.B
  mbps ← short_at e key.Mbps
  propagation ← short_at e key.PropagationNs
  Ok (record { a = a; b = b; mbps = mbps; propagation_ns = propagation })

-- the numbers of a stream
abbrev pub numbers_in : Entry → Result StreamNumbers DocumentFault
numbers_in e = do
  rate ← long_at e key.RateBps
  burst ← long_at e key.BurstBits
  least ← long_at e key.MinOctets
  most ← long_at e key.MaxOctets
  deadline ← deadline_at e
  Ok (record { rate_bps = rate; burst_bits = burst; min_octets = least; max_octets = most; deadline_ns = deadline })

abbrev pub stream_in : Entry → Result DeclaredStream DocumentFault
stream_in e = do
  well ← formed e
  name ← name_at e key.Name
  routes ← routes_at e
  classes ← classes_at e
  numbers ← numbers_in e
  identity ← identity_at e
  Ok (record {
    name = name;
    routes = routes;
    classes = classes;
    rate_bps = numbers.rate_bps;
    burst_bits = numbers.burst_bits;
    min_octets = numbers.min_octets;
    max_octets = numbers.max_octets;
    deadline_ns = numbers.deadline_ns;
    identity = identity;
  })

abbrev pub link_local_in : Entry → Result DeclaredLinkLocal DocumentFault
link_local_in e = do
  well ← formed e
  name ← short_name_at e key.Name
  class ← long_at e key.Class
  numbers ← numbers_in e
  Ok (record {
    name = name;
    class = class;
    rate_bps = numbers.rate_bps;
    burst_bits = numbers.burst_bits;
    min_octets = numbers.min_octets;
    max_octets = numbers.max_octets;
    deadline_ns = numbers.deadline_ns;
  })

abbrev pub link_local_flow_in : Entry → Result DeclaredLinkLocalFlow DocumentFault
link_local_flow_in e = do
  well ← formed e
  name ← short_name_at e key.Name
  most ← long_at e key.MaxOctets
  Ok (record { name = name; max_octets = most })

abbrev pub flow_in : Entry → Result DeclaredFlow DocumentFault
flow_in e = do
  well ← formed e
  name ← name_at e key.Name
  route ← route_at e
  most ← long_at e key.MaxOctets
  Ok (record { name = name; route = route; max_octets = most })

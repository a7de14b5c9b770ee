use Rattle.std.specs.Prelude.{◌≡◌, ℕ, zero, suc, ◌+◌, List, [], ◌∷◌, codes, replicate, Some, None, Result, Ok, Err}
use Rattle.ats_topology.specs.Topology.{DeclaredTopology, topology_of}
use Rattle.ats_topology.specs.declared.node.Node.{Node}
use Rattle.ats_topology.specs.declared.link.Link.{Link}
use Rattle.ats_streams.specs.Flow.{DeclaredFlow, declared_flow}
use Rattle.ats_streams.specs.Stream.{DeclaredStream, declared_stream}
use Rattle.ats_streams.specs.declared.fault.StreamFault.TheVariants.{Limit}
use Rattle.ats_network.specs.Network.{DeclaredNetwork, declared_network, long_network}
use Rattle.ats_network_table.specs.declared.format.Format.TheVariants.{Three, Two}
use Rattle.ats_network_file.specs.Senders.{flow_added, legs_in, path_in, stream_added}
use Rattle.ats_network_file.specs.declared.fault.NetFault.TheVariants as fault
use Rattle.ats_network_file.specs.declared.senders.Place.{Place}
use Rattle.ats_network_file.specs.declared.senders.SenderTable.TheVariants.{Flow, Stream}
use Rattle.ats_network_toml.specs.Document as file
use Rattle.ats_network_toml.specs.Document.{DeclaredRoute, ends, path}
use Rattle.ats_requests.specs.declared.request.Request.{Request}
use Rattle.ats_requests.specs.declared.request.Request.TheVariants.{Admit}
use Rattle.ats_request_file.specs.Reading.{path_between, requests_of}
use Rattle.ats_request_file.specs.declared.fault.RequestFault.{RequestFault}
use Rattle.ats_request_file.specs.declared.fault.RequestFault.TheVariants as request
use Rattle.ats_route_tree.specs.Legs.{DeclaredLegs}
use Rattle.ats_examples.specs.Networks.{bridge, link, station}

-- Paths of as many links as a stream may have, and of one more; and a request for a stream over such links.

-- bridges are named `ba`, `bb` and so on
abbrev pub bridge_name : ℕ → List ℕ
bridge_name k = 98 ∷ (97 + k) ∷ []

-- so many bridges, the first of which has this number, and the links between them; the last one is linked to a station
abbrev pub bridges_from : ℕ → ℕ → List Node
bridges_from k zero = []
bridges_from k (suc n) = bridge (bridge_name k) 1000000 ∷ bridges_from (k + 1) n

abbrev pub links_from : ℕ → ℕ → List Link
links_from k zero = link (bridge_name k) (codes "s2") ∷ []
links_from k (suc n) = link (bridge_name k) (bridge_name (k + 1)) ∷ links_from (k + 1) n

-- one bridge and so many further between two stations, one behind another
abbrev pub chain : ℕ → DeclaredTopology
chain n = topology_of (station (codes "s1") ∷ station (codes "s2") ∷ bridges_from 0 (suc n))
    (link (codes "s1") (bridge_name 0) ∷ links_from 0 n)

-- the names of so many bridges and of the station behind them
abbrev pub names_from : ℕ → ℕ → List (List ℕ)
names_from k zero = codes "s2" ∷ []
names_from k (suc n) = bridge_name k ∷ names_from (k + 1) n

-- the ports of so many links, the first of which has this number
abbrev pub ports_from : ℕ → ℕ → List ℕ
ports_from p zero = []
ports_from p (suc n) = p ∷ ports_from (p + 2) n

-- through all of them by name, and by the two stations
abbrev pub by_names : ℕ → DeclaredRoute
by_names n = path (codes "s1" ∷ names_from 0 (suc n))

abbrev pub by_ends : DeclaredRoute
by_ends = ends (codes "s1") (codes "s2")

-- the legs of one route
abbrev pub one_leg : List ℕ → DeclaredLegs
one_leg ports = record { ports = ports; branches = [] }

-- the first stream of a file, and the first flow
abbrev pub first_stream : Place
first_stream = record { table = Stream; number = 1 }

abbrev pub first_flow : Place
first_flow = record { table = Flow; number = 1 }

-- a path of 16 links is found by the names of its nodes, for a stream and for a flow, and one of 17 links too, so that
-- in formats 1 and 2 it is the limit that is told of it; by its ends one of 8 is found, also for a request
pub record LongPathsAreFound : Type 0 where
  pub names : legs_in Two (chain 14) first_stream (by_names 14 ∷ []) ≡ Ok (one_leg (ports_from 0 16))
  pub of_flow : path_in Two (chain 14) first_flow (by_names 14) ≡ Ok (ports_from 0 16)
  pub names_over : legs_in Two (chain 15) first_stream (by_names 15 ∷ []) ≡ Ok (one_leg (ports_from 0 17))
  pub of_flow_over : path_in Two (chain 15) first_flow (by_names 15) ≡ Ok (ports_from 0 17)
  pub of_ends : legs_in Two (chain 6) first_stream (by_ends ∷ []) ≡ Ok (one_leg (ports_from 0 8))
  pub asked : path_between (chain 6) 0 1 ≡ Some (ports_from 0 8)

-- what is asked with a line of a request file
abbrev pub asked_over : DeclaredNetwork → Result (List Request) RequestFault
asked_over network = requests_of network (codes "admit c s1 s2 5 1000000 672 64 64 10000000\n")

-- the stream of that line, along so many links
abbrev pub asked_along : ℕ → Request
asked_along links = Admit
    (declared_stream (codes "c") (ports_from 0 links) (replicate links 5) 1000000 672 64 64 10000000 None)

-- a request is for a stream along at most 16 links in formats 1 and 2, and where routes may be long along at most 64
pub record LongRequestsAreLimited : Type 0 where
  pub short : asked_over (declared_network (chain 14) [] []) ≡ Ok (asked_along 16 ∷ [])
  pub short_over : asked_over (declared_network (chain 15) [] []) ≡ Err (request.Stream 1 Limit)
  pub over_short : asked_over (long_network (chain 15) [] []) ≡ Ok (asked_along 17 ∷ [])
  pub long : asked_over (long_network (chain 62) [] []) ≡ Ok (asked_along 64 ∷ [])
  pub long_over : asked_over (long_network (chain 63) [] []) ≡ Err (request.Stream 1 Limit)

-- the table of a stream through all bridges of a chain, and of a flow
abbrev pub stream_through : ℕ → file.DeclaredStream
stream_through n = record {
  name = codes "w";
  routes = by_names n ∷ [];
  classes = 1 ∷ [];
  rate_bps = 1;
  burst_bits = 672;
  min_octets = 64;
  max_octets = 64;
  deadline_ns = 1;
  identity = None;
}

abbrev pub flow_through : ℕ → file.DeclaredFlow
flow_through n = record { name = codes "f"; route = by_names n; max_octets = 64 }

-- what stands in the network then, along so many links
abbrev pub stream_along : ℕ → DeclaredStream
stream_along links = declared_stream (codes "w") (ports_from 0 links) (replicate links 1) 1 672 64 64 1 None

abbrev pub flow_along : ℕ → DeclaredFlow
flow_along links = declared_flow (codes "f") (ports_from 0 links) 64

-- a stream and a flow of a file go along at most as many links as their network allows: 16, and in format 3 64
pub record LongRoutesAreLimited : Type 0 where
  pub short : flow_added Two (declared_network (chain 14) [] []) first_flow (flow_through 14)
      ≡ Ok (declared_network (chain 14) [] (flow_along 16 ∷ []))
  pub short_over : flow_added Two (declared_network (chain 15) [] []) first_flow (flow_through 15)
      ≡ Err (fault.Sender Flow 1 Limit)
  pub over_short : flow_added Three (long_network (chain 15) [] []) first_flow (flow_through 15)
      ≡ Ok (long_network (chain 15) [] (flow_along 17 ∷ []))
  pub long : flow_added Three (long_network (chain 62) [] []) first_flow (flow_through 62)
      ≡ Ok (long_network (chain 62) [] (flow_along 64 ∷ []))
  pub long_over : flow_added Three (long_network (chain 63) [] []) first_flow (flow_through 63)
      ≡ Err (fault.Sender Flow 1 Limit)
  pub long_stream : stream_added Three (long_network (chain 62) [] []) first_stream (stream_through 62)
      ≡ Ok (long_network (chain 62) (stream_along 64 ∷ []) [])
  pub long_stream_over : stream_added Three (long_network (chain 63) [] []) first_stream (stream_through 63)
      ≡ Err (fault.Sender Stream 1 Limit)

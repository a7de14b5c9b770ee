use Rattle.std.specs.Prelude.{◌≡◌, ℕ, List, [], ◌∷◌, codes, Option, Some, None, Result, Ok, Err}
use Rattle.ats_topology.specs.declared.fault.TopologyFault.TheVariants.{SelfLink}
use Rattle.ats_streams.specs.declared.fault.StreamFault.TheVariants as rule
use Rattle.ats_network.specs.Network.{DeclaredNetwork, long_network}
use Rattle.ats_network.specs.declared.fault.PushFault.TheVariants as push
use Rattle.ats_route_tree.specs.Legs.{DeclaredLegs}
use Rattle.ats_network_table.specs.declared.fault.DocumentFault.TheVariants.{Limit}
use Rattle.ats_network_table.specs.declared.format.Format.{Format}
use Rattle.ats_network_table.specs.declared.format.Format.TheVariants.{One, Three, Two}
use Rattle.ats_network_table.specs.declared.table.Table.TheVariants as table
use Rattle.ats_network_toml.specs.Document as file
use Rattle.ats_network_toml.specs.declared.entries.LinkEntry.{LinkEntry}
use Rattle.ats_network_file.specs.Reading.{network_in}
use Rattle.ats_network_file.specs.Senders.{legs_in, refusal_of, stream_added}
use Rattle.ats_network_file.specs.declared.fault.NetFault.{NetFault}
use Rattle.ats_network_file.specs.declared.fault.NetFault.TheVariants as fault
use Rattle.ats_network_file.specs.declared.senders.Place.{Place}
use Rattle.ats_network_file.specs.declared.senders.SenderTable.{SenderTable}
use Rattle.ats_network_file.specs.declared.senders.SenderTable.TheVariants.{Flow, LinkLocal, LinkLocalFlow, Stream}
use Rattle.ats_text_examples.specs.Worked.{way}
use Rattle.ats_first_examples.specs.Rules.{clocked, paced}

-- Streams and flows of a network file with several faults at once, and which of them is named.

-- routes by all nodes, and by the ends alone
abbrev pub along : List (List ℕ) → file.DeclaredRoute
along names = file.path names

abbrev pub between : List ℕ → List ℕ → file.DeclaredRoute
between from to = file.ends from to

-- the place of the fifth entry of a table
abbrev pub at_number : SenderTable → Place
at_number table = record { table = table; number = 5 }

-- what is found over the worked network for a route, in a file of this format, and in one of format 2: s1 and s2 are
-- its stations, and b1 and b2 its bridges between them
abbrev pub found_in : Format → file.DeclaredRoute → Result DeclaredLegs NetFault
found_in format route = legs_in format way.topology (at_number Stream) (route ∷ [])

abbrev pub found : file.DeclaredRoute → Result DeclaredLegs NetFault
found = found_in Two

-- the legs of one route
abbrev pub leg : List ℕ → DeclaredLegs
leg path = record { ports = path; branches = [] }

-- a route leads over links to another node, and comes to no node twice. In format 3 it begins and ends at any nodes,
-- and before at stations
pub record RoutesAreJudged : Type 0 where
  pub right : found (along (codes "s1" ∷ codes "b1" ∷ codes "b2" ∷ codes "s2" ∷ [])) ≡ Ok (leg (0 ∷ 2 ∷ 4 ∷ []))
  pub back : found (along (codes "s2" ∷ codes "b2" ∷ codes "b1" ∷ codes "s1" ∷ [])) ≡ Ok (leg (5 ∷ 3 ∷ 1 ∷ []))
  pub shortest : found (between (codes "s1") (codes "s2")) ≡ Ok (leg (0 ∷ 2 ∷ 4 ∷ []))
  pub no_node : found (along (codes "s1" ∷ codes "x" ∷ codes "s2" ∷ [])) ≡ Err (fault.BadPath Stream 5)
  pub no_first : found (along (codes "x" ∷ codes "b2" ∷ codes "s2" ∷ [])) ≡ Err (fault.BadPath Stream 5)
  pub no_link : found (along (codes "s1" ∷ codes "b2" ∷ codes "s2" ∷ [])) ≡ Err (fault.BadPath Stream 5)
  pub from_bridge : found (along (codes "b1" ∷ codes "b2" ∷ codes "s2" ∷ [])) ≡ Err (fault.BadPath Stream 5)
  pub to_bridge : found (along (codes "s1" ∷ codes "b1" ∷ codes "b2" ∷ [])) ≡ Err (fault.BadPath Stream 5)
  pub and_back : found (along (codes "s1" ∷ codes "b1" ∷ codes "s1" ∷ [])) ≡ Err (fault.BadPath Stream 5)
  pub twice : found (along (codes "s1" ∷ codes "b1" ∷ codes "b2" ∷ codes "b1" ∷ codes "b2" ∷ codes "s2" ∷ []))
      ≡ Err (fault.BadPath Stream 5)
  pub one_node : found (along (codes "s1" ∷ [])) ≡ Err (fault.BadPath Stream 5)
  pub one_end : found (between (codes "s1") (codes "s1")) ≡ Err (fault.BadPath Stream 5)
  pub end_at_bridge : found (between (codes "s1") (codes "b2")) ≡ Err (fault.BadPath Stream 5)
  pub begin_at_bridge : found (between (codes "b1") (codes "s2")) ≡ Err (fault.BadPath Stream 5)
  pub no_from : found (between (codes "x") (codes "s2")) ≡ Err (fault.BadPath Stream 5)
  pub no_to : found (between (codes "s1") (codes "x")) ≡ Err (fault.BadPath Stream 5)
  pub from_bridge_in_one : found_in One (along (codes "b1" ∷ codes "b2" ∷ codes "s2" ∷ []))
      ≡ Err (fault.BadPath Stream 5)
  pub from_bridge_in_three : found_in Three (along (codes "b1" ∷ codes "b2" ∷ codes "s2" ∷ [])) ≡ Ok (leg (2 ∷ 4 ∷ []))
  pub to_bridge_in_three : found_in Three (along (codes "s1" ∷ codes "b1" ∷ codes "b2" ∷ [])) ≡ Ok (leg (0 ∷ 2 ∷ []))
  pub bridges_in_three : found_in Three (between (codes "b1") (codes "b2")) ≡ Ok (leg (2 ∷ []))
  pub end_at_bridge_in_three : found_in Three (between (codes "s1") (codes "b2")) ≡ Ok (leg (0 ∷ 2 ∷ []))
  pub begin_at_bridge_in_three : found_in Three (between (codes "b1") (codes "s2")) ≡ Ok (leg (2 ∷ 4 ∷ []))
  pub and_back_in_three : found_in Three (along (codes "s1" ∷ codes "b1" ∷ codes "s1" ∷ []))
      ≡ Err (fault.BadPath Stream 5)

-- a stream's table, and a flow's
abbrev pub stream : List ℕ → file.DeclaredRoute → ℕ → Option (ℕ × ℕ) → file.DeclaredStream
stream name route class identity = record {
  name = name;
  routes = route ∷ [];
  classes = class ∷ [];
  rate_bps = 1;
  burst_bits = 672;
  min_octets = 64;
  max_octets = 64;
  deadline_ns = 1;
  identity = identity;
}

abbrev pub flow : List ℕ → file.DeclaredRoute → ℕ → file.DeclaredFlow
flow name route most = record { name = name; route = route; max_octets = most }

-- a network file of one bridge between two stations, with these links further, and these senders
abbrev pub linked : List ℕ → List ℕ → LinkEntry
linked a b = record { a = a; b = b; mbps = 1000; propagation_ns = 500 }

abbrev pub file_with : List LinkEntry → List file.DeclaredStream → List file.DeclaredFlow → file.DeclaredDocument
file_with links streams flows = record {
  format = Two;
  stations = record { name = codes "s1" } ∷ record { name = codes "s2" } ∷ [];
  bridges =
      record {
        name = codes "b1";
        processing_min_ns = 1;
        processing_max_ns = 1;
        residence_ns = 1;
        clock_ppm = 0;
        clock_step_ps = 0;
      } ∷ [];
  links = linked (codes "s1") (codes "b1") ∷ linked (codes "b1") (codes "s2") ∷ links;
  streams = streams;
  link_locals = [];
  flows = flows;
  link_local_flows = [];
}

-- a stream without a fault, which comes first
abbrev pub first : file.DeclaredStream
first = stream (codes "a") (between (codes "s1") (codes "s2")) 1 (Some (0xA1, 7))

-- what a file comes to with these streams behind it, and these flows
abbrev pub with_senders : List file.DeclaredStream → List file.DeclaredFlow → Result DeclaredNetwork NetFault
with_senders streams flows = network_in (file_with [] (first ∷ streams) flows)

-- routes with a path and without one
abbrev pub there : file.DeclaredRoute
there = between (codes "s1") (codes "s2")

abbrev pub nowhere : file.DeclaredRoute
nowhere = between (codes "s1") (codes "x")

-- a stream has all four faults, and one less each time: its path comes first, then its rules, its name and its identity
pub record StreamsAreFirst : Type 0 where
  pub path : with_senders (stream (codes "a") nowhere 0 (Some (0xA1, 7)) ∷ []) [] ≡ Err (fault.BadPath Stream 2)
  pub class : with_senders (stream (codes "a") there 0 (Some (0xA1, 7)) ∷ []) []
      ≡ Err (fault.Sender Stream 2 rule.BadClass)
  pub name : with_senders (stream (codes "a") there 1 (Some (0xA1, 7)) ∷ []) [] ≡ Err (fault.SenderTwice Stream 2)
  pub identity : with_senders (stream (codes "b") there 1 (Some (0xA1, 7)) ∷ []) [] ≡ Err (fault.IdentityTwice 2)

-- and so has a flow: its path, its size and its name, which a stream may have
pub record FlowsAreFirst : Type 0 where
  pub path : with_senders [] (flow (codes "a") nowhere 63 ∷ []) ≡ Err (fault.BadPath Flow 1)
  pub size : with_senders [] (flow (codes "a") there 63 ∷ []) ≡ Err (fault.Sender Flow 1 rule.BadSizes)
  pub name : with_senders [] (flow (codes "a") there 64 ∷ []) ≡ Err (fault.SenderTwice Flow 1)

-- the stream's table with this rate
abbrev pub at_rate : file.DeclaredStream → ℕ → file.DeclaredStream
at_rate entry rate = record entry { rate_bps = rate }

-- what a stream by this name, route and rate comes to, the fifth of its array in a file of format 3, over a bridge with
-- a slow clock, where a stream has the name w
abbrev pub comes : SenderTable → List ℕ → file.DeclaredRoute → ℕ → Result DeclaredNetwork NetFault
comes table name route rate =
    stream_added Three (long_network (clocked 1000 10000000) (paced (0 ∷ 2 ∷ []) 1 672 ∷ []) []) (at_number table)
    (at_rate (stream name route 1 None) rate)

-- its path comes first, then the rules that go by its numbers alone, then its rate by the clocks on its way, then its
-- name; and so of a stream that begins at the bridge
pub record RatesAreFirst : Type 0 where
  pub path : comes Stream (codes "w") nowhere 99800199801 ≡ Err (fault.BadPath Stream 5)
  pub own : comes Stream (codes "w") there 100000000001 ≡ Err (fault.Sender Stream 5 rule.BadRate)
  pub over : comes Stream (codes "w") there 99800199801 ≡ Err (fault.Sender Stream 5 rule.Limit)
  pub most : comes Stream (codes "w") there 99800199800 ≡ Err (fault.SenderTwice Stream 5)
  pub from_bridge : comes LinkLocal (codes "w") (along (codes "b1" ∷ codes "s2" ∷ [])) 99900099901
      ≡ Err (fault.Sender LinkLocal 5 rule.Limit)
  pub from_bridge_most : comes LinkLocal (codes "w") (along (codes "b1" ∷ codes "s2" ∷ [])) 99900099900
      ≡ Err (fault.SenderTwice LinkLocal 5)

-- nodes and links come before streams, streams before flows, and in each array an earlier entry before a later one,
-- whichever their faults are
pub record EntriesAreFirst : Type 0 where
  pub links : network_in (file_with (linked (codes "b1") (codes "b1") ∷ [])
      (stream (codes "a") nowhere 1 None ∷ []) (flow (codes "f") nowhere 64 ∷ [])) ≡ Err (fault.Topology (SelfLink 3))
  pub streams : with_senders (stream (codes "b") there 1 (Some (0xA1, 7)) ∷ []) (flow (codes "f") nowhere 64 ∷ [])
      ≡ Err (fault.IdentityTwice 2)
  pub earlier : with_senders (stream (codes "b") there 1 (Some (0xA1, 7)) ∷ stream (codes "c") nowhere 1 None ∷ []) []
      ≡ Err (fault.IdentityTwice 2)
  pub earlier_flow : with_senders [] (flow (codes "a") there 64 ∷ flow (codes "f") nowhere 64 ∷ [])
      ≡ Err (fault.SenderTwice Flow 1)

-- why a network does not take the fifth stream or flow, as a fault of the file: the array of those that are too many
-- has too many tables
pub record EntriesAreTold : Type 0 where
  pub stream_name : refusal_of (at_number Stream) push.NameTaken ≡ fault.SenderTwice Stream 5
  pub stream_identity : refusal_of (at_number Stream) push.IdentityTaken ≡ fault.IdentityTwice 5
  pub streams : refusal_of (at_number Stream) push.Limit ≡ fault.Form (Limit table.Stream)
  pub flow_name : refusal_of (at_number Flow) push.NameTaken ≡ fault.SenderTwice Flow 5
  pub flows : refusal_of (at_number Flow) push.Limit ≡ fault.Form (Limit table.Flow)
  pub for_ports : refusal_of (at_number LinkLocal) push.Limit ≡ fault.Form (Limit table.LinkLocal)
  pub name_for_ports : refusal_of (at_number LinkLocalFlow) push.NameTaken ≡ fault.SenderTwice LinkLocalFlow 5

pub record SendersAreFirst : Type 0 where
  pub routes : RoutesAreJudged
  pub streams : StreamsAreFirst
  pub flows : FlowsAreFirst
  pub rates : RatesAreFirst
  pub entries : EntriesAreFirst
  pub told : EntriesAreTold

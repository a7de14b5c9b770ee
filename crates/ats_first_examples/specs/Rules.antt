use Rattle.std.specs.Prelude.{◌≡◌, ℕ, List, [], ◌∷◌, codes, replicate, Option, Some, None}
use Rattle.ats_topology.specs.Topology.{DeclaredTopology, topology_of}
use Rattle.ats_topology.specs.declared.node.Kind.TheVariants.{Bridge}
use Rattle.ats_streams.specs.Fault.{rules_fault}
use Rattle.ats_streams.specs.Flow.{DeclaredFlow, declared_flow, flow_fault}
use Rattle.ats_streams.specs.Stream.{DeclaredStream, declared_stream, stream_fault}
use Rattle.ats_streams.specs.declared.fault.StreamFault.TheVariants as rule
use Rattle.ats_network.specs.Network.{DeclaredNetwork, declared_network}
use Rattle.ats_network.specs.Pushes.{flow_push_fault, stream_push_fault}
use Rattle.ats_network.specs.declared.fault.PushFault.TheVariants as push
use Rattle.ats_requests.specs.Admission.{entry_fault}
use Rattle.ats_requests.specs.declared.denied.Denied.TheVariants as denied
use Rattle.ats_first_examples.specs.Topologies.{sound_links, station}

-- Streams and flows that break several rules at once, and which of them is named.

-- a stream over so many ports, by its rate, burst, least and greatest octets, and deadline
abbrev pub over_ports : ℕ → ℕ → ℕ → ℕ → ℕ → ℕ → DeclaredStream
over_ports ports rate burst least most deadline =
    declared_stream (codes "w") (replicate ports 0) [] rate burst least most deadline None

-- each rule is broken, and one less each time, where a burst can't be too short and too large at once. The numbers of a
-- stream alone, as a shape file has them, go in the same order
pub record StreamRulesAreFirst : Type 0 where
  pub class : stream_fault (0 ∷ []) (over_ports 65 0 671 63 64 0) ≡ Some rule.BadClass
  pub count : stream_fault (1 ∷ 1 ∷ []) (over_ports 65 0 671 63 64 0) ≡ Some rule.BadClass
  pub no_class : stream_fault [] (over_ports 65 0 671 63 64 0) ≡ Some rule.BadClass
  pub rate : stream_fault (1 ∷ []) (over_ports 65 0 671 63 64 0) ≡ Some rule.BadRate
  pub sizes : stream_fault (1 ∷ []) (over_ports 65 1 671 63 64 0) ≡ Some rule.BadSizes
  pub burst : stream_fault (1 ∷ []) (over_ports 65 1 671 64 64 0) ≡ Some rule.BurstBelowFrame
  pub ports : stream_fault (1 ∷ []) (over_ports 65 1 672 64 64 1) ≡ Some rule.Limit
  pub deadline : stream_fault (1 ∷ []) (over_ports 64 1 672 64 64 0) ≡ Some rule.Limit
  pub none : stream_fault (1 ∷ []) (over_ports 64 1 672 64 64 1) ≡ None
  pub class_over_limit : stream_fault (8 ∷ []) (over_ports 1 1 1000000001 64 64 1) ≡ Some rule.BadClass
  pub rate_over_limit : stream_fault (1 ∷ []) (over_ports 1 100000000001 1000000001 64 64 1) ≡ Some rule.BadRate
  pub sizes_over_limit : stream_fault (1 ∷ []) (over_ports 1 1 1000000001 65 64 1) ≡ Some rule.BadSizes
  pub rate_alone : rules_fault 0 671 63 64 ≡ Some rule.BadRate
  pub sizes_alone : rules_fault 1 671 63 64 ≡ Some rule.BadSizes
  pub burst_alone : rules_fault 1 671 64 64 ≡ Some rule.BurstBelowFrame
  pub burst_over : rules_fault 1 1000000001 64 64 ≡ Some rule.Limit
  pub rate_and_over : rules_fault 0 1000000001 63 64 ≡ Some rule.BadRate
  pub none_alone : rules_fault 1 672 64 64 ≡ None

-- the same of a flow
pub record FlowRulesAreFirst : Type 0 where
  pub both : flow_fault (declared_flow (codes "i") (replicate 65 0) 63) ≡ Some rule.BadSizes
  pub ports : flow_fault (declared_flow (codes "i") (replicate 65 0) 64) ≡ Some rule.Limit
  pub none : flow_fault (declared_flow (codes "i") (replicate 64 0) 64) ≡ None

-- a stream with this name, and this address and VLAN identifier, if any
abbrev pub named : List ℕ → Option (ℕ × ℕ) → DeclaredStream
named name identity = declared_stream name (0 ∷ []) (1 ∷ []) 1 672 64 64 1 identity

-- a flow with this name
abbrev pub flow_named : List ℕ → DeclaredFlow
flow_named name = declared_flow name (0 ∷ []) 64

-- so many streams with one name and one identity, and so many flows with one name: how many there are counts, whether a
-- network may have them or not
abbrev pub crowded : ℕ → ℕ → DeclaredNetwork
crowded streams flows =
    declared_network (topology_of [] []) (replicate streams (named (codes "w") (Some (0xA1, 7))))
    (replicate flows (flow_named (codes "i")))

-- of a stream that comes in its name is told first, then its identity, then that there are too many; names of flows are
-- taken too
pub record StreamsComeIn : Type 0 where
  pub all : stream_push_fault (crowded 4096 4096) (named (codes "w") (Some (0xA1, 7))) ≡ Some push.NameTaken
  pub of_flow : stream_push_fault (crowded 4096 4096) (named (codes "i") (Some (0xA1, 7))) ≡ Some push.NameTaken
  pub two : stream_push_fault (crowded 4096 4096) (named (codes "x") (Some (0xA1, 7))) ≡ Some push.IdentityTaken
  pub over : stream_push_fault (crowded 4096 4096) (named (codes "x") (Some (0xA1, 8))) ≡ Some push.Limit
  pub unidentified : stream_push_fault (crowded 4096 4096) (named (codes "x") None) ≡ Some push.Limit
  pub last : stream_push_fault (crowded 4095 4096) (named (codes "x") (Some (0xA1, 8))) ≡ None

-- and so of a flow
pub record FlowsComeIn : Type 0 where
  pub both : flow_push_fault (crowded 4096 4096) (flow_named (codes "i")) ≡ Some push.NameTaken
  pub of_stream : flow_push_fault (crowded 4096 4096) (flow_named (codes "w")) ≡ Some push.NameTaken
  pub over : flow_push_fault (crowded 4096 4096) (flow_named (codes "x")) ≡ Some push.Limit
  pub last : flow_push_fault (crowded 4096 4095) (flow_named (codes "x")) ≡ None

-- from one station over a bridge to the other, where the bridge's clock has this deviation and this step
abbrev pub clocked : ℕ → ℕ → DeclaredTopology
clocked deviation step =
    topology_of (station (codes "s1") ∷ station (codes "s2")
    ∷ record { name = codes "b1"; kind = Bridge 1 1 1 deviation step } ∷ []) sound_links

-- with no stream over it
abbrev pub free_of : ℕ → ℕ → DeclaredNetwork
free_of deviation step = declared_network (clocked deviation step) [] []

-- a stream over these ports, with this rate and burst
abbrev pub paced : List ℕ → ℕ → ℕ → DeclaredStream
paced ports rate burst = declared_stream (codes "w") ports (1 ∷ []) rate burst 64 64 1 None

-- a clock that deviates by 1000 parts in a million, with a step of 10 microseconds: of 99,800,199,800 bits per second
-- its scheduler has 99,900,099,900, and lets through 100,000,000,000 in true time; of one bit per second it has two,
-- and the burst grows by a bit for the scheduler and by one more behind it. Where a stream ends at the bridge, its
-- scheduler there is judged; where the clock is ideal, nothing grows; and the name is told first. Of a stream that a
-- network file declares this is judged before its name
pub record RatesComeIn : Type 0 where
  pub most : stream_push_fault (free_of 1000 10000000) (paced (0 ∷ 2 ∷ []) 99800199800 672) ≡ None
  pub over : stream_push_fault (free_of 1000 10000000) (paced (0 ∷ 2 ∷ []) 99800199801 672) ≡ Some push.Limit
  pub burst_most : stream_push_fault (free_of 1000 10000000) (paced (0 ∷ 2 ∷ []) 1 999999998) ≡ None
  pub burst_over : stream_push_fault (free_of 1000 10000000) (paced (0 ∷ 2 ∷ []) 1 999999999) ≡ Some push.Limit
  pub ends_most : stream_push_fault (free_of 1000 10000000) (paced (0 ∷ []) 99900000000 672) ≡ None
  pub ends_over : stream_push_fault (free_of 1000 10000000) (paced (0 ∷ []) 99900000001 672) ≡ Some push.Limit
  pub ideal : stream_push_fault (free_of 0 0) (paced (0 ∷ 2 ∷ []) 100000000000 1000000000) ≡ None
  pub taken : stream_push_fault
      (declared_network (clocked 1000 10000000) (paced (0 ∷ 2 ∷ []) 1 672 ∷ []) [])
      (paced (0 ∷ 2 ∷ []) 99800199801 672) ≡ Some push.NameTaken
  pub asked_most : entry_fault (free_of 1000 10000000) (paced (0 ∷ 2 ∷ []) 99800199800 672) ≡ None
  pub asked : entry_fault (free_of 1000 10000000) (paced (0 ∷ 2 ∷ []) 99800199801 672) ≡ Some denied.Limit

-- and of a stream that is to be admitted
pub record EntriesAreJudged : Type 0 where
  pub both : entry_fault (crowded 4096 4096) (named (codes "w") None) ≡ Some denied.NameTaken
  pub of_flow : entry_fault (crowded 4096 4096) (named (codes "i") None) ≡ Some denied.NameTaken
  pub over : entry_fault (crowded 4096 4096) (named (codes "x") None) ≡ Some denied.Limit
  pub last : entry_fault (crowded 4095 4096) (named (codes "x") None) ≡ None

pub record RulesAreFirst : Type 0 where
  pub streams : StreamRulesAreFirst
  pub flows : FlowRulesAreFirst
  pub streams_come : StreamsComeIn
  pub flows_come : FlowsComeIn
  pub rates_come : RatesComeIn
  pub entries : EntriesAreJudged

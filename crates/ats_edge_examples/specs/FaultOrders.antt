use Rattle.std.specs.Prelude.{◌≡◌, ℕ, List, [], ◌∷◌, codes, replicate, Option, Some, None}
use Rattle.ats_streams.specs.Flow.{DeclaredFlow, declared_flow, flow_fault, flow_fault_within}
use Rattle.ats_streams.specs.Stream.{DeclaredStream, declared_stream, stream_fault, stream_fault_within}
use Rattle.ats_streams.specs.declared.fault.StreamFault.{StreamFault}
use Rattle.ats_streams.specs.declared.fault.StreamFault.TheVariants.{BadClass, BadRate, BadSizes, BurstBelowFrame}
use Rattle.ats_streams.specs.declared.fault.StreamFault.TheVariants.{Limit}

-- Of which fault a stream or a flow is told that breaks a rule and the limit on routes too.

-- a flow over so many ports with frames of at most so many octets, and its fault in formats 1 and 2
abbrev pub long_flow : ℕ → ℕ → DeclaredFlow
long_flow ports max_octets = declared_flow (codes "i") (replicate ports 0) max_octets

abbrev pub fault_of_flow : ℕ → ℕ → Option StreamFault
fault_of_flow ports max_octets = flow_fault_within 16 (long_flow ports max_octets)

-- a flow's size comes before the limit on its route, be it that of a format or that of each flow. Refuses the two in
-- the other order
pub record SizesComeFirst : Type 0 where
  pub short : fault_of_flow 17 63 ≡ Some BadSizes
  pub long : fault_of_flow 17 2001 ≡ Some BadSizes
  pub of_each : fault_of_flow 65 63 ≡ Some BadSizes
  pub of_none : fault_of_flow 0 63 ≡ Some BadSizes
  pub route : fault_of_flow 17 64 ≡ Some Limit
  pub route_of_each : fault_of_flow 65 2000 ≡ Some Limit
  pub within : fault_of_flow 16 64 ≡ None

-- a stream of class 6 over so many ports with these numbers, and its fault in formats 1 and 2 where a class is given
abbrev pub long_stream : ℕ → ℕ → ℕ → ℕ → ℕ → DeclaredStream
long_stream ports rate burst_bits min_octets max_octets =
    declared_stream (codes "i") (replicate ports 0) (replicate ports 6) rate burst_bits min_octets max_octets 1000000
    None

abbrev pub fault_of_stream : ℕ → ℕ → ℕ → ℕ → ℕ → ℕ → Option StreamFault
fault_of_stream class ports rate burst_bits min_octets max_octets =
    stream_fault_within 16 (class ∷ []) (long_stream ports rate burst_bits min_octets max_octets)

-- each rule on a stream's class, rate, sizes and burst comes before the limit on its routes. Refuses the limit before
-- any of them
pub record RulesComeFirst : Type 0 where
  pub class : fault_of_stream 8 17 100000000 12336 64 1522 ≡ Some BadClass
  pub rate : fault_of_stream 1 17 0 12336 64 1522 ≡ Some BadRate
  pub sizes : fault_of_stream 1 17 100000000 12336 63 1522 ≡ Some BadSizes
  pub burst : fault_of_stream 1 17 100000000 12335 64 1522 ≡ Some BurstBelowFrame
  pub rate_of_each : fault_of_stream 1 65 0 12336 64 1522 ≡ Some BadRate
  pub sizes_of_each : fault_of_stream 1 65 100000000 12336 64 2001 ≡ Some BadSizes
  pub burst_of_each : fault_of_stream 1 65 100000000 12335 64 1522 ≡ Some BurstBelowFrame
  pub route : fault_of_stream 1 17 100000000 12336 64 1522 ≡ Some Limit
  pub within : fault_of_stream 1 16 100000000 12336 64 1522 ≡ None

-- whatever the limit on routes: a fault that each flow or stream would have stays the one that is told
pub record LimitsComeLast : Type 0 where
  pub flow : (most : ℕ) (flow : DeclaredFlow) (fault : StreamFault)
      → flow_fault flow ≡ Some fault → flow_fault_within most flow ≡ Some fault
  pub stream : (most : ℕ) (given : List ℕ) (stream : DeclaredStream) (fault : StreamFault)
      → stream_fault given stream ≡ Some fault → stream_fault_within most given stream ≡ Some fault

pub record FaultsAreInOrder : Type 0 where
  pub sizes : SizesComeFirst
  pub rules : RulesComeFirst
  pub last : LimitsComeLast

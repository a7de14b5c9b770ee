use Rattle.std.specs.Prelude.{◌≡◌, ℕ, List, [], ◌∷◌, codes, replicate, true, false, Some, None, Ok, Err}
use Rattle.std.specs.List.{list_any}
use Rattle.ats_num.specs.Name.{is_name, is_name_byte}
use Rattle.ats_shape.specs.Reading.{residence_in}
use Rattle.ats_shape.specs.declared.fault.ShapeFault.TheVariants.{BadLine}
use Rattle.ats_streams.specs.Flow.{declared_flow, flow_fault}
use Rattle.ats_streams.specs.Stream.{DeclaredStream, declared_stream, stream_fault}
use Rattle.ats_streams.specs.declared.fault.StreamFault.TheVariants as rule
use Rattle.ats_topology.specs.Faults.{is_over, topology_fault}
use Rattle.ats_topology.specs.Rates.{ps_per_bit_of}
use Rattle.ats_topology.specs.declared.fault.TopologyFault.TheVariants.{BadProcessing, BadRate, Limit}
use Rattle.ats_topology.specs.declared.link.Link.{Link}
use Rattle.ats_topology.specs.declared.node.Kind.TheVariants.{Bridge, Station}
use Rattle.ats_topology.specs.declared.node.Node.{Node}

-- The least and greatest numbers that are allowed, and those next to them, which are not.

-- a stream over so many ports, by its rate, burst, least and greatest octets, and deadline
abbrev pub over_ports : ℕ → ℕ → ℕ → ℕ → ℕ → ℕ → DeclaredStream
over_ports ports rate burst least most deadline =
    declared_stream (codes "w") (replicate ports 0) [] rate burst least most deadline None

-- the least and the greatest stream, in classes 1 and 7, and numbers beside each of theirs
pub record StreamLimits : Type 0 where
  pub least : stream_fault (1 ∷ []) (over_ports 1 1 672 64 64 1) ≡ None
  pub greatest : stream_fault (7 ∷ []) (over_ports 64 100000000000 1000000000 64 2000 1000000000) ≡ None
  pub each_class : stream_fault (1 ∷ 7 ∷ 1 ∷ []) (over_ports 3 1 16160 2000 2000 1) ≡ None
  pub class_below : stream_fault (0 ∷ []) (over_ports 1 1 672 64 64 1) ≡ Some rule.BadClass
  pub class_over : stream_fault (8 ∷ []) (over_ports 1 1 672 64 64 1) ≡ Some rule.BadClass
  pub few_classes : stream_fault (1 ∷ 7 ∷ []) (over_ports 3 1 672 64 64 1) ≡ Some rule.BadClass
  pub rate_below : stream_fault (1 ∷ []) (over_ports 1 0 672 64 64 1) ≡ Some rule.BadRate
  pub rate_over : stream_fault (1 ∷ []) (over_ports 1 100000000001 672 64 64 1) ≡ Some rule.BadRate
  pub size_below : stream_fault (1 ∷ []) (over_ports 1 1 672 63 64 1) ≡ Some rule.BadSizes
  pub size_over : stream_fault (1 ∷ []) (over_ports 1 1 16168 64 2001 1) ≡ Some rule.BadSizes
  pub sizes_back : stream_fault (1 ∷ []) (over_ports 1 1 680 65 64 1) ≡ Some rule.BadSizes
  pub burst_below : stream_fault (1 ∷ []) (over_ports 1 1 671 64 64 1) ≡ Some rule.BurstBelowFrame
  pub burst_over : stream_fault (1 ∷ []) (over_ports 1 1 1000000001 64 64 1) ≡ Some rule.Limit
  pub no_port : stream_fault (1 ∷ []) (over_ports 0 1 672 64 64 1) ≡ Some rule.Limit
  pub many_ports : stream_fault (1 ∷ []) (over_ports 65 1 672 64 64 1) ≡ Some rule.Limit
  pub deadline_below : stream_fault (1 ∷ []) (over_ports 1 1 672 64 64 0) ≡ Some rule.Limit
  pub deadline_over : stream_fault (1 ∷ []) (over_ports 1 1 672 64 64 1000000001) ≡ Some rule.Limit

-- and of flows
pub record FlowLimits : Type 0 where
  pub least : flow_fault (declared_flow (codes "i") (replicate 1 0) 64) ≡ None
  pub greatest : flow_fault (declared_flow (codes "i") (replicate 64 0) 2000) ≡ None
  pub size_below : flow_fault (declared_flow (codes "i") (replicate 1 0) 63) ≡ Some rule.BadSizes
  pub size_over : flow_fault (declared_flow (codes "i") (replicate 1 0) 2001) ≡ Some rule.BadSizes
  pub no_port : flow_fault (declared_flow (codes "i") [] 64) ≡ Some rule.Limit
  pub many_ports : flow_fault (declared_flow (codes "i") (replicate 65 0) 64) ≡ Some rule.Limit

-- a station
abbrev pub one_station : Node
one_station = record { name = codes "s1"; kind = Station }

-- a station and a bridge with these least and greatest processing and residence, and a link of this rate and
-- propagation between them
abbrev pub bridged : ℕ → ℕ → ℕ → List Node
bridged least most residence =
    one_station ∷ record { name = codes "b1"; kind = Bridge least most residence 0 0 } ∷ []

-- the same, where the bridge takes no time, and its clock has this deviation and this step
abbrev pub clocked : ℕ → ℕ → List Node
clocked deviation step = one_station ∷ record { name = codes "b1"; kind = Bridge 0 0 0 deviation step } ∷ []

abbrev pub linked : ℕ → ℕ → Link
linked mbps propagation = record { a = codes "s1"; b = codes "b1"; mbps = mbps; propagation_ns = propagation }

abbrev pub one_link : ℕ → ℕ → List Link
one_link mbps propagation = linked mbps propagation ∷ []

-- the greatest times of a bridge and a link, each a nanosecond too long, a clock with the greatest deviation and the
-- greatest step, each one too great, a least processing over the greatest, and a rate that no link has
pub record TopologyLimits : Type 0 where
  pub greatest : topology_fault (bridged 1000000 1000000 1000000000) (one_link 100000 1000000) ≡ None
  pub least : topology_fault (bridged 0 0 0) (one_link 10 0) ≡ None
  pub processing : topology_fault (bridged 0 1000001 0) (one_link 10 0) ≡ Some Limit
  pub residence : topology_fault (bridged 0 0 1000000001) (one_link 10 0) ≡ Some Limit
  pub propagation : topology_fault (bridged 0 0 0) (one_link 10 1000001) ≡ Some Limit
  pub worst_clock : topology_fault (clocked 1000 10000000) (one_link 10 0) ≡ None
  pub deviation : topology_fault (clocked 1001 0) (one_link 10 0) ≡ Some Limit
  pub step : topology_fault (clocked 0 10000001) (one_link 10 0) ≡ Some Limit
  pub processing_back : topology_fault (bridged 6 5 0) (one_link 10 0) ≡ Some (BadProcessing 2)
  pub rate : topology_fault (bridged 0 0 0) (one_link 20 0) ≡ Some (BadRate 1)

-- the most nodes and links that there may be, whatever their names, and one more
pub record CountLimits : Type 0 where
  pub most : is_over (replicate 1024 one_station) (replicate 2048 (linked 10 0)) ≡ false
  pub nodes : is_over (replicate 1025 one_station) [] ≡ true
  pub links : is_over [] (replicate 2049 (linked 10 0)) ≡ true

-- the longest residence that a shape file may give, and a nanosecond more
pub record ResidenceLimits : Type 0 where
  pub greatest : residence_in 5 (codes "residence" ∷ codes "1000000000" ∷ []) ≡ Ok 1000000000
  pub over : residence_in 5 (codes "residence" ∷ codes "1000000001" ∷ []) ≡ Err (BadLine 5)

-- the picoseconds that a bit takes on each link
pub record RatesOfLinks : Type 0 where
  pub r10 : ps_per_bit_of 10 ≡ Some 100000
  pub r100 : ps_per_bit_of 100 ≡ Some 10000
  pub r1000 : ps_per_bit_of 1000 ≡ Some 1000
  pub r2500 : ps_per_bit_of 2500 ≡ Some 400
  pub r5000 : ps_per_bit_of 5000 ≡ Some 200
  pub r10000 : ps_per_bit_of 10000 ≡ Some 100
  pub r25000 : ps_per_bit_of 25000 ≡ Some 40
  pub r40000 : ps_per_bit_of 40000 ≡ Some 25
  pub r50000 : ps_per_bit_of 50000 ≡ Some 20
  pub r100000 : ps_per_bit_of 100000 ≡ Some 10

-- names of 32 bytes with each byte that a name may have, and texts that are no names
pub record NameLimits : Type 0 where
  pub least : is_name (codes "b") ≡ true
  pub small : is_name (codes "abcdefghijklmnopqrstuvwxyz012345") ≡ true
  pub capital : is_name (codes "ABCDEFGHIJKLMNOPQRSTUVWXYZ6789_-") ≡ true
  pub long : is_name (codes "ABCDEFGHIJKLMNOPQRSTUVWXYZ6789_-x") ≡ false
  pub empty : is_name [] ≡ false
  pub point : is_name (codes "a.b") ≡ false
  pub others : list_any is_name_byte (codes " ,./:@[`{") ≡ false

pub record LimitsAreAllowed : Type 0 where
  pub streams : StreamLimits
  pub flows : FlowLimits
  pub topology : TopologyLimits
  pub counts : CountLimits
  pub residence : ResidenceLimits
  pub rates : RatesOfLinks
  pub names : NameLimits

use Rattle.std.specs.Prelude.{◌≡◌, ◌↔◌, ℕ, ◌<◌, true, List, [], ◌∷◌, codes, sum_by, Contains, Option, Some, None}
use Rattle.std.specs.Prelude.{IsSome}
use Rattle.ats_num.specs.Wire.{bits_of}
use Rattle.ats_topology.specs.Topology.{DeclaredTopology}
use Rattle.ats_streams.specs.Branches.{routes_of}
use Rattle.ats_streams.specs.Flow.{declared_flow}
use Rattle.ats_streams.specs.Stream.{DeclaredStream}
use Rattle.ats_network.specs.Class.{class_at}
use Rattle.ats_network.specs.Network.{DeclaredNetwork, declared_network, senders_of}
use Rattle.ats_network.specs.Sender.{Sender, stream_sender}
use Rattle.ats_certificate.specs.Certificate.{bound_on}
use Rattle.ats_certificate.specs.PortSums.{port_sums}
use Rattle.ats_bound.specs.Least.{least_certificate}
use Rattle.ats_explain.specs.Laws.{AreParts, SendsLongest, StreamAddsUp}
use Rattle.ats_explain.specs.Parts.{parts_at, parts_of_hop}
use Rattle.ats_explain.specs.Senders.{lower_name, sends_lower}
use Rattle.ats_explain.specs.declared.parts.Parts.{Parts}
use Rattle.ats_examples.specs.Networks.{flow, line}
use Rattle.ats_verdict_examples.specs.Networks.{below_and_flow}

-- Which parts a bound has, and which it has not.

-- parts with this name and these times: of the longest lower frame, of bursts, of higher classes, of the shortest frame
-- and of the latency, and their sum
abbrev pub parts_of : ℕ → ℕ → ℕ → ℕ → ℕ → ℕ → Option (List ℕ) → Parts
parts_of lower bursts higher frame latency bound sender = record {
  lower = lower;
  sender = sender;
  bursts = bursts;
  higher = higher;
  frame = frame;
  latency = latency;
  bound = bound;
  stay = Some (record { need = 49344000; residence = 1000000000 });
}

-- the name of the flow
abbrev pub of_flow : Option (List ℕ)
of_flow = Some (codes "f")

-- the parts of the small stream at its first port, and what they are not: each time that may be told in place of
-- another, with the sums that go with it; another name, and none; those of the other class there, and of the next port
pub record PartsAreExact : Type 0 where
  pub are : AreParts below_and_flow 0 5 (parts_of 12336000 12336000 24672000 672000 1500000 51516000 of_flow)
  pub lower : ¬ AreParts below_and_flow 0 5 (parts_of 12336001 12336000 24671999 672000 1500000 51516000 of_flow)
  pub bursts : ¬ AreParts below_and_flow 0 5 (parts_of 12336000 12336001 24671999 672000 1500000 51516000 of_flow)
  pub higher : ¬ AreParts below_and_flow 0 5 (parts_of 12336000 12336000 24672001 672000 1500000 51516001 of_flow)
  pub frame : ¬ AreParts below_and_flow 0 5 (parts_of 12336000 12335999 24672001 672001 1500000 51516001 of_flow)
  pub latency : ¬ AreParts below_and_flow 0 5 (parts_of 12336000 12336000 24672000 672000 1500001 51516001 of_flow)
  pub bound : ¬ AreParts below_and_flow 0 5 (parts_of 12336000 12336000 24672000 672000 1500000 51516001 of_flow)
  pub of_other : ¬ AreParts below_and_flow 0 5
      (parts_of 12336000 12336000 24672000 672000 1500000 51516000 (Some (codes "b")))
  pub of_none : ¬ AreParts below_and_flow 0 5 (parts_of 12336000 12336000 24672000 672000 1500000 51516000 None)
  pub of_class : ¬ AreParts below_and_flow 0 5 (parts_at below_and_flow 0 6)
  pub of_port : ¬ AreParts below_and_flow 0 5 (parts_at below_and_flow 2 5)

-- the line with four flows: one the other way, one of shorter frames, and two of equal ones
abbrev pub line_and_flows : DeclaredNetwork
line_and_flows = declared_network line.topology line.streams
    (flow (codes "g") (3 ∷ 1 ∷ []) ∷ declared_flow (codes "h") (0 ∷ 2 ∷ []) 1521
    ∷ flow (codes "f") (0 ∷ 2 ∷ []) ∷ flow (codes "e") (0 ∷ 2 ∷ []) ∷ [])

-- the first with longest frames is named, and not the stream itself, whose frames are as long, nor one that does not
-- use the port, nor one of shorter frames, nor the next with frames as long
pub record NamesAreExact : Type 0 where
  pub first : SendsLongest line_and_flows 0 6 (codes "f")
  pub itself : ¬ SendsLongest line_and_flows 0 6 (codes "a")
  pub elsewhere : ¬ SendsLongest line_and_flows 0 6 (codes "g")
  pub shorter : ¬ SendsLongest line_and_flows 0 6 (codes "h")
  pub next : ¬ SendsLongest line_and_flows 0 6 (codes "e")

-- a sender sends frames of a lower class at a port, whose longest has so many wire bits: the port is one of its own, on
-- its trunk or on a branch, its class there is lower, and nothing else is asked
abbrev pub SendingLowerIsMeant : Type 0
SendingLowerIsMeant = (topology : DeclaredTopology) (port class bits : ℕ) (s : Sender)
    → (sends_lower topology port class bits s ≡ true)
    ↔ (Contains s.ports port × (class_at s port < class) × (bits_of s.max_octets ≡ bits))

-- where a network has such a sender with the longest frame of a lower class, a name is told. Refuses to tell of none
-- where the port is on a branch
abbrev pub SomeIsNamed : Type 0
SomeIsNamed = (network : DeclaredNetwork) (port class : ℕ) (s : Sender) → Contains (senders_of network) s
    → Contains s.ports port → class_at s port < class
    → bits_of s.max_octets ≡ (port_sums network port class).lower → IsSome (lower_name network port class)

-- where the parts of a stream's bounds add up, at each of its ports the parts are those of this port, in the class that
-- the stream has there
abbrev pub PartsAreOfEachPort : Type 0
PartsAreOfEachPort = (network : DeclaredNetwork) (stream : DeclaredStream) (port : ℕ) → StreamAddsUp network stream
    → Contains stream.ports port
    → AreParts network port (class_at (stream_sender stream) port) (parts_of_hop network stream port)

-- and along the route to each listener their bounds are together the sum of the least bounds along it
abbrev pub BoundsAreTogetherTheSum : Type 0
BoundsAreTogetherTheSum = (network : DeclaredNetwork) (stream : DeclaredStream) (route : List ℕ)
    → StreamAddsUp network stream → Contains (routes_of stream.ports stream.branches) route
    → sum_by (λ port. (parts_of_hop network stream port).bound) route
    ≡ bound_on (least_certificate network) stream route

-- parts are told exactly, with the name of the sender of the longest lower frame, of each port of a stream
pub record ExplanationsAreMeant : Type 0 where
  pub parts : PartsAreExact
  pub names : NamesAreExact
  pub sending : SendingLowerIsMeant
  pub some : SomeIsNamed
  pub each_port : PartsAreOfEachPort
  pub sums : BoundsAreTogetherTheSum

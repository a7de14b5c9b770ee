use Rattle.std.specs.Prelude.{◌≡◌, ℕ, true, false, List, [], ◌∷◌, codes, replicate, Some, None}
use Rattle.ats_streams.specs.Branches.{routes_of}
use Rattle.ats_streams.specs.Stream.{DeclaredStream, branching_stream, stream_fault, stream_fault_within}
use Rattle.ats_streams.specs.Flow.{declared_flow, flow_fault_within}
use Rattle.ats_streams.specs.declared.fault.StreamFault.TheVariants.{BadClass, Limit}
use Rattle.ats_network.specs.Network.{ports_together}
use Rattle.ats_network.specs.Pushes.{is_full}
use Rattle.ats_trace.specs.Releases.{ports_of_frames}
use Rattle.ats_trace.specs.declared.journey.Release.{Release}
use Rattle.ats_tree_examples.specs.Networks.{tree_and_flow}

-- How many ports a stream with branches may have on a route, and streams together; and how the ports of frames count.

-- a stream with so many ports, the last of which are those of a branch that begins behind its trunk of this length, at
-- a hop
abbrev pub branching : ℕ → ℕ → ℕ → DeclaredStream
branching ports trunk hop = branching_stream (codes "w") (replicate ports 0)
    (record { first = trunk; leg = 0; hop = hop } ∷ []) [] 1 672 64 64 1 None

-- routes go by the ports in front of a branch and its own: 64 on a route are the most, however many the legs have
-- together. There is a class for each port of each leg
pub record RoutesAreLimited : Type 0 where
  pub longest : stream_fault (1 ∷ []) (branching 65 64 63) ≡ None
  pub over : stream_fault (1 ∷ []) (branching 66 64 63) ≡ Some Limit
  pub two_longest : stream_fault (1 ∷ []) (branching 127 64 1) ≡ None
  pub two_over : stream_fault (1 ∷ []) (branching 128 64 1) ≡ Some Limit
  pub trunk_over : stream_fault (1 ∷ []) (branching 66 65 1) ≡ Some Limit
  pub classes : stream_fault (replicate 65 1) (branching 65 64 63) ≡ None
  pub of_trunk : stream_fault (replicate 64 1) (branching 65 64 63) ≡ Some BadClass
  pub of_routes : stream_fault (replicate 128 1) (branching 65 64 63) ≡ Some BadClass
  pub routes : routes_of (10 ∷ 11 ∷ 12 ∷ 13 ∷ []) (record { first = 3; leg = 0; hop = 1 } ∷ [])
      ≡ (10 ∷ 11 ∷ 12 ∷ []) ∷ (10 ∷ 13 ∷ []) ∷ []

-- where routes are short, 16 are the most, and what else a stream breaks comes before
pub record ShortRoutesAreLimited : Type 0 where
  pub longest : stream_fault_within 16 (1 ∷ []) (branching 31 16 1) ≡ None
  pub over : stream_fault_within 16 (1 ∷ []) (branching 32 16 1) ≡ Some Limit
  pub trunk_over : stream_fault_within 16 (1 ∷ []) (branching 18 17 1) ≡ Some Limit
  pub else_before : stream_fault_within 16 (8 ∷ []) (branching 18 17 1) ≡ Some BadClass
  pub of_flow : flow_fault_within 16 (declared_flow (codes "i") (replicate 16 0) 64) ≡ None
  pub of_flow_over : flow_fault_within 16 (declared_flow (codes "i") (replicate 17 0) 64) ≡ Some Limit
  pub flow_long : flow_fault_within 64 (declared_flow (codes "i") (replicate 64 0) 64) ≡ None
  pub flow_long_over : flow_fault_within 64 (declared_flow (codes "i") (replicate 65 0) 64) ≡ Some Limit
  pub long : stream_fault_within 64 (1 ∷ []) (branching 127 64 1) ≡ None
  pub long_over : stream_fault_within 64 (1 ∷ []) (branching 128 64 1) ≡ Some Limit

-- so many streams with one listener and so many ports each
abbrev pub streams_of : ℕ → ℕ → List DeclaredStream
streams_of count ports =
    replicate count (branching_stream (codes "w") (replicate ports 0) [] [] 1 672 64 64 1 None)

-- the ports of all legs count together, each once: 65,536 are the most, and 4096 streams
pub record PortsAreCounted : Type 0 where
  pub together : ports_together (branching 4 3 1 ∷ branching 31 16 1 ∷ streams_of 2 5) ≡ 45
  pub most : is_full (streams_of 4095 16) (replicate 16 0) ≡ false
  pub over : is_full (streams_of 4095 16) (replicate 17 0) ≡ true
  pub long_most : is_full (streams_of 1023 64) (replicate 64 0) ≡ false
  pub long_over : is_full (streams_of 1024 64) (0 ∷ []) ≡ true
  pub branches_most : is_full (replicate 2114 (branching 31 16 1)) (replicate 2 0) ≡ false
  pub branches_over : is_full (replicate 2114 (branching 31 16 1)) (replicate 3 0) ≡ true
  pub last : is_full (streams_of 4095 1) (0 ∷ []) ≡ false
  pub past : is_full (streams_of 4096 1) (0 ∷ []) ≡ true

-- a release of a sender's frame of 64 octets
abbrev pub released : ℕ → Release
released sender = record { at = record { 0 = 0 }; sender = sender; octets = 64 }

-- a frame has all ports of its sender, each once: the stream's seven, of eight nodes and of thirteen ports of routes,
-- and the flow's three, of four nodes. Refuses that nodes count, or each route's ports
pub record FramesPortsAreCounted : Type 0 where
  pub of_stream : ports_of_frames tree_and_flow (released 0 ∷ []) ≡ 7
  pub of_flow : ports_of_frames tree_and_flow (released 1 ∷ []) ≡ 3
  pub together : ports_of_frames tree_and_flow (released 0 ∷ released 1 ∷ released 0 ∷ []) ≡ 17

pub record LegsAreLimited : Type 0 where
  pub routes : RoutesAreLimited
  pub short : ShortRoutesAreLimited
  pub ports : PortsAreCounted
  pub frames : FramesPortsAreCounted

use Rattle.std.specs.Prelude.{ℕ, List, [], ◌∷◌, codes, None}
use Rattle.ats_topology.specs.Topology.{topology_of}
use Rattle.ats_streams.specs.Stream.{DeclaredStream, declared_stream}
use Rattle.ats_network.specs.Network.{DeclaredNetwork, declared_network}
use Rattle.ats_trace.specs.declared.journey.Release.{Release}
use Rattle.ats_examples.specs.Networks.{line_nodes, line_links, merged_nodes, merged_links, below, flow}

-- Worked networks beside those of `ats_examples`, and a release.

-- a stream with a rate of 100 Mb/s, a burst of one frame of 1522 octets, 64 to 1522 octets, and this deadline in
-- nanoseconds
abbrev pub stream_until : ℕ → List ℕ → List ℕ → List ℕ → DeclaredStream
stream_until deadline_ns name path classes =
    declared_stream name path classes 100000000 12336 64 1522 deadline_ns None

-- the line, whose stream has this deadline
abbrev pub line_until : ℕ → DeclaredNetwork
line_until deadline_ns = declared_network (topology_of line_nodes line_links)
    (stream_until deadline_ns (codes "a") (0 ∷ 2 ∷ []) (6 ∷ 6 ∷ []) ∷ []) []

-- below a stream of class 6 with half the rate of the link, a stream of class 5, and a flow beside them
abbrev pub below_and_flow : DeclaredNetwork
below_and_flow = declared_network below.topology below.streams (flow (codes "f") (0 ∷ 2 ∷ []) ∷ [])

-- before three bridges x begins at one station and y at another, and both end at the third, from which z goes to the
-- first: it shares no port with them. x has this deadline
abbrev pub x_until : ℕ → DeclaredStream
x_until deadline_ns = stream_until deadline_ns (codes "x") (0 ∷ 4 ∷ 6 ∷ 8 ∷ []) (6 ∷ 6 ∷ 6 ∷ 6 ∷ [])

abbrev pub y : DeclaredStream
y = stream_until 1000000 (codes "y") (2 ∷ 4 ∷ 6 ∷ 8 ∷ []) (6 ∷ 6 ∷ 6 ∷ 6 ∷ [])

abbrev pub z : DeclaredStream
z = stream_until 1000000 (codes "z") (9 ∷ 7 ∷ 5 ∷ 1 ∷ []) (6 ∷ 6 ∷ 6 ∷ 6 ∷ [])

abbrev pub of_three : ℕ → DeclaredNetwork
of_three deadline_ns = declared_network (topology_of merged_nodes merged_links) (x_until deadline_ns ∷ y ∷ z ∷ []) []

-- and without y
abbrev pub of_two : ℕ → DeclaredNetwork
of_two deadline_ns = declared_network (topology_of merged_nodes merged_links) (x_until deadline_ns ∷ z ∷ []) []

-- where z has twice the rate of the links
abbrev pub too_fast : DeclaredStream
too_fast =
    declared_stream (codes "z") (9 ∷ 7 ∷ 5 ∷ 1 ∷ []) (6 ∷ 6 ∷ 6 ∷ 6 ∷ []) 2000000000 12336 64 1522 1000000 None

abbrev pub with_too_fast : DeclaredNetwork
with_too_fast = declared_network (topology_of merged_nodes merged_links) (x_until 1000000 ∷ too_fast ∷ []) []

-- a release at this time of the sender with this number, with so many octets
abbrev pub release : ℕ → ℕ → ℕ → Release
release at sender octets = record { at = record { 0 = at }; sender = sender; octets = octets }

use Rattle.std.specs.Prelude.{◌≡◌, List, [], map, None}
use Rattle.ats_topology.specs.Topology.{DeclaredTopology}
use Rattle.ats_streams.specs.Stream.{DeclaredStream}
use Rattle.ats_network.specs.Network.{DeclaredNetwork, HasOneListener}
use Rattle.ats_certificate.specs.Certificate.{bound_along}
use Rattle.ats_certificate.specs.declared.row.Row.{Row}
use Rattle.ats_tally.specs.Delays.{sums_for}
use Rattle.ats_tally.specs.Reason.{late, late_by}

-- a stream with one listener is late by its one sum, and its reason names no listener
abbrev pub OneListenerIsLate : Type 0
OneListenerIsLate = (topology : DeclaredTopology) (rows : List Row) (stream : DeclaredStream) → stream.branches ≡ []
    → late topology rows stream ≡ late_by stream None (bound_along rows stream)

-- where each stream has one listener, there is one sum for each stream
abbrev pub OneSumForEach : Type 0
OneSumForEach = (network : DeclaredNetwork) (rows : List Row) → HasOneListener network
    → sums_for network rows ≡ map (bound_along rows) network.streams

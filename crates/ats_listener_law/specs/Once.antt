use Rattle.std.specs.Prelude.{◌≡◌, ◌↔◌, ℕ, true, List, ◌∷◌, length, map, drop, Contains, count_by, sum_by}
use Rattle.std.specs.Prelude.{if◌then◌else◌}
use Rattle.ats_topology.specs.Topology.{DeclaredTopology}
use Rattle.ats_streams.specs.Branches.{routes_of}
use Rattle.ats_streams.specs.Stream.{DeclaredStream}
use Rattle.ats_network.specs.Class.{seen_at}
use Rattle.ats_network.specs.Network.{DeclaredNetwork}
use Rattle.ats_network.specs.Sender.{Sender, stream_sender}
use Rattle.ats_certificate.specs.Certificate.{bound_along, bound_on, sums_of}
use Rattle.ats_certificate.specs.PortSums.{senders_at, uses}
use Rattle.ats_certificate.specs.declared.row.Row.{Row}
use Rattle.ats_explain.specs.Loads.{rate_at}

-- a sender uses a port exactly where it is one of its ports
abbrev pub UsesItsPorts : Type 0
UsesItsPorts = (port : ℕ) (sender : Sender) → (uses port sender ≡ true) ↔ Contains sender.ports port

-- of senders a port sees each that uses it once
abbrev pub EachIsSeenOnce : Type 0
EachIsSeenOnce = (topology : DeclaredTopology) (port : ℕ) (senders : List Sender)
    → length (senders_at topology port senders) ≡ count_by (uses port) senders

-- and of streams that use it the rate there once
abbrev pub RatesAreSeenOnce : Type 0
RatesAreSeenOnce = (network : DeclaredNetwork) (port : ℕ)
    → rate_at network port
    ≡ sum_by (λ (s : DeclaredStream). if uses port (stream_sender s)
    then (seen_at network.topology port (stream_sender s)).rate else 0) network.streams

-- the first sum of a stream is that of its trunk, and those along the routes to its further listeners follow
abbrev pub FirstSumIsTheTrunks : Type 0
FirstSumIsTheTrunks = (rows : List Row) (stream : DeclaredStream)
    → sums_of rows stream
    ≡ bound_along rows stream ∷ map (bound_on rows stream) (drop 1 (routes_of stream.ports stream.branches))

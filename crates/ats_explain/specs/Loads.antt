use Rattle.std.specs.Prelude.{ℕ, ◌*◌, Bool, map, sum_by}
use Rattle.std.specs.List.{list_any}
use Rattle.ats_topology.specs.Port.{port_at}
use Rattle.ats_network.specs.Sender.{stream_sender}
use Rattle.ats_network.specs.Class.{PortSender}
use Rattle.ats_network.specs.Network.{DeclaredNetwork}
use Rattle.ats_certificate.specs.PortSums.{senders_at, uses}

-- a stream has the port
abbrev pub has_stream : DeclaredNetwork → ℕ → Bool
has_stream network port = list_any (uses port) (map stream_sender network.streams)

-- the rates of the streams that have the port, as it sees them, together: of each once, however many listeners are
-- behind
abbrev pub rate_at : DeclaredNetwork → ℕ → ℕ
rate_at network port =
    sum_by (λ (s : PortSender). s.rate) (senders_at network.topology port (map stream_sender network.streams))

-- the picoseconds of each second that they take of the port
abbrev pub port_load : DeclaredNetwork → ℕ → ℕ
port_load network port = (port_at network.topology.ports port).ps_per_bit * rate_at network port

use Rattle.std.specs.Prelude.{ℕ, ◌+◌, ◌-◌, ◌*◌, Bool, false, IsTrue, nat_lt, List, Option, Some, None}
use Rattle.std.specs.Option.{option_map}
use Rattle.ats_num.specs.declared.time.TheConstants.{PS_PER_NS}
use Rattle.ats_topology.specs.Port.{port_at}
use Rattle.ats_topology.specs.declared.port.Port.{Port}
use Rattle.ats_streams.specs.Stream.{DeclaredStream}
use Rattle.ats_network.specs.Sender.{stream_sender}
use Rattle.ats_network.specs.Class.{class_at}
use Rattle.ats_network.specs.Network.{DeclaredNetwork}
use Rattle.ats_network.specs.Residence.{residence_after}
use Rattle.ats_certificate.specs.PortSums.{is_used}
use Rattle.ats_certificate.specs.Certificate.{need_behind}
use Rattle.ats_certificate.specs.declared.row.Row.{Row}
use Rattle.ats_bound.specs.Least.{least_row}
use Rattle.ats_explain.specs.Senders.{lower_name}
use Rattle.ats_explain.specs.declared.parts.Parts.{Parts}
use Rattle.ats_explain.specs.declared.parts.Stay.{Stay}

-- how long a frame may have to stay behind a port, and how long it may, in picoseconds, where the maximum residence
-- time there is so many nanoseconds; None where the port leads to a station
abbrev pub stay_by : ℕ → Option ℕ → Option Stay
stay_by need residence = option_map (λ ns. record { need = need; residence = PS_PER_NS * ns }) residence

-- so it is, by the clock behind a port, where a frame may have to wait so long at the port
abbrev pub stay_behind : DeclaredNetwork → ℕ → ℕ → Option Stay
stay_behind network port wait =
    stay_by (need_behind network port wait) (residence_after network.topology port)

-- the five parts of a row's bound at a port. lower: the longest lower frame; bursts: the bursts of the class and the
-- higher ones, but for the shortest frame; higher: the rest of the wait; frame: the shortest frame; latency: the
-- port's. The name is that of the sender of the longest lower frame; beside them stands the stay behind the port
abbrev pub parts_by : Port → Row → Option (List ℕ) → Option Stay → Parts
parts_by port row sender stay = record {
  lower = port.ps_per_bit * row.lower;
  sender = sender;
  bursts = port.ps_per_bit * (row.bursts - row.least);
  higher = row.wait - (port.ps_per_bit * row.lower + port.ps_per_bit * (row.bursts - row.least));
  frame = port.ps_per_bit * row.least;
  latency = port.latency.0;
  bound = row.bound;
  stay = stay;
}

-- the parts of the least bound of a port and a class
abbrev pub parts_at : DeclaredNetwork → ℕ → ℕ → Parts
parts_at network port class =
    parts_by (port_at network.topology.ports port) (least_row network (port, class)) (lower_name network port class)
    (stay_behind network port (least_row network (port, class)).wait)

-- the parts of a hop: those of the port, in the class that the stream has there
abbrev pub parts_of_hop : DeclaredNetwork → DeclaredStream → ℕ → Parts
parts_of_hop network stream port = parts_at network port (class_at (stream_sender stream) port)

-- some stream is of the class at the port that the stream has there, as it is at each of its ports
abbrev pub HopIsUsed : DeclaredNetwork → DeclaredStream → ℕ → Type 0
HopIsUsed network stream port = IsTrue (is_used network port (class_at (stream_sender stream) port))

-- a frame may have to stay longer than it may
abbrev pub is_over : Option Stay → Bool
is_over None = false
is_over (Some stay) = nat_lt stay.residence stay.need

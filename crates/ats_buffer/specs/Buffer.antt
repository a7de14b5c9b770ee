use Rattle.std.specs.Prelude.{ℕ, ◌+◌, ◌*◌, ◌/◌, Bool, ◌==◌, List, map, filter, sum_by, Option, unwrap_or}
use Rattle.std.specs.Option.{option_map}
use Rattle.ats_num.specs.declared.time.TheConstants.{PS_PER_SECOND}
use Rattle.ats_clock.specs.declared.committed.Committed.{Committed}
use Rattle.ats_topology.specs.Port.{port_at}
use Rattle.ats_topology.specs.declared.port.Port.{Port}
use Rattle.ats_streams.specs.Stream.{DeclaredStream}
use Rattle.ats_network.specs.Sender.{Sender, stream_sender}
use Rattle.ats_network.specs.Class.{class_at, port_before}
use Rattle.ats_network.specs.Network.{DeclaredNetwork}
use Rattle.ats_network.specs.Rates.{committed_at}
use Rattle.ats_certificate.specs.Certificate.{row_of, residence_needed}
use Rattle.ats_certificate.specs.declared.row.Row.{Row}

-- a number of the row of a port and a class; 0 where there is no row
abbrev pub of_row : (Row → ℕ) → List Row → ℕ → ℕ → ℕ
of_row amount rows port class = unwrap_or (option_map amount (row_of rows port class)) 0

-- how long a frame of the row's class may be at the port, from its eligibility to the end of its transmission: the
-- wait, and the transmission of the shortest frame of the class
abbrev pub stay_of : Port → Row → ℕ
stay_of port row = row.wait + port.ps_per_bit * row.least

-- the stay by the row of a port and a class
abbrev pub stay_at : DeclaredNetwork → List Row → ℕ → ℕ → ℕ
stay_at network rows port class = of_row (stay_of (port_at network.topology.ports port)) rows port class

-- by how much the ways of a class's frames over a port differ: the wait of their row, and the port's spread
abbrev pub way_by : DeclaredNetwork → List Row → ℕ → ℕ → ℕ
way_by network rows port class =
    residence_needed (port_at network.topology.ports port) (of_row (λ (row : Row). row.wait) rows port class)

-- by how much a sender's ways over a port differ, in the class that it has there
abbrev pub way_over : DeclaredNetwork → List Row → Sender → ℕ → ℕ
way_over network rows sender port = way_by network rows port (class_at sender port)

-- the same, where there is such a port; 0 where there is none
abbrev pub way_behind : DeclaredNetwork → List Row → Sender → Option ℕ → ℕ
way_behind network rows sender before = unwrap_or (option_map (way_over network rows sender) before) 0

-- by how much a sender's ways to a port differ: over the port before it, from which its frames come to the node that
-- this one leaves; the first port of the trunk has none before it
abbrev pub way_to : DeclaredNetwork → List Row → Sender → ℕ → ℕ
way_to network rows sender port = way_behind network rows sender (port_before sender port)

-- the port at which a sender's frames that are together at a port are counted: the one before, or this one where there
-- is none
abbrev pub counted_at : Sender → ℕ → ℕ
counted_at sender port = unwrap_or (port_before sender port) port

-- they became eligible there within this time, where the sender has this class at the port
abbrev pub window_at : DeclaredNetwork → List Row → ℕ → ℕ → Sender → ℕ
window_at network rows port class sender = stay_at network rows port class + way_to network rows sender port

-- the most bits of a window of time, of frames that conform to a rate and burst: the burst, and what the rate gives in
-- that time, rounded down
abbrev pub most_bits : Committed → ℕ → ℕ
most_bits seen window = seen.burst_bits + seen.rate * window / PS_PER_SECOND

-- what a sender may have at a port where it has this class
abbrev pub share_of : DeclaredNetwork → List Row → ℕ → ℕ → Sender → ℕ
share_of network rows port class sender =
    most_bits (committed_at network.topology (counted_at sender port) sender)
    (window_at network rows port class sender)

-- the stream has this class at the port
abbrev pub has_class : ℕ → ℕ → DeclaredStream → Bool
has_class port class stream = class_at (stream_sender stream) port == class

-- what a stream may
abbrev pub share_at : DeclaredNetwork → List Row → ℕ → ℕ → DeclaredStream → ℕ
share_at network rows port class stream = share_of network rows port class (stream_sender stream)

-- what those of these streams may have there together that have the class there
abbrev pub shares_at : DeclaredNetwork → List Row → ℕ → ℕ → List DeclaredStream → ℕ
shares_at network rows port class streams =
    sum_by (share_at network rows port class) (filter (has_class port class) streams)

-- the buffer of a port and a class, in bits, by the rows of a certificate: what all streams may have there together
abbrev pub buffer_at : DeclaredNetwork → List Row → ℕ → ℕ → ℕ
buffer_at network rows port class = shares_at network rows port class network.streams

-- the buffer of each row's port and class, in the order of the rows
abbrev pub buffers_of : DeclaredNetwork → List Row → List ℕ
buffers_of network rows = map (λ (row : Row). buffer_at network rows row.port row.class) rows

use Rattle.std.specs.Prelude.{◌≡◌, ◌⊎◌, ℕ, ◌+◌, ◌-◌, ◌*◌, ◌/◌, ◌<◌, ◌≤◌, Bool, ◌==◌, nat_le, min, max}
use Rattle.std.specs.Prelude.{if◌then◌else◌, List, AllPairs, filter, fold, map, replicate, slice_index_or}
use Rattle.std.specs.Prelude.{sum_by}
use Rattle.ats_num.specs.Wire.{bits_of}
use Rattle.ats_topology.specs.Port.{port_at}
use Rattle.ats_network.specs.Sender.{Sender}
use Rattle.ats_network.specs.Class.{class_at}
use Rattle.ats_network.specs.Network.{DeclaredNetwork, senders_of}
use Rattle.ats_network.specs.Rates.{ports_to}
use Rattle.ats_network.specs.Senders.{sender_at}
use Rattle.ats_certificate.specs.PortSums.{uses}
use Rattle.ats_trace.specs.Ways.{route_to}
use Rattle.ats_trace.specs.declared.journey.Release.{Release}

-- how long a frame of so many octets takes over a port where nothing delays it and it arrives behind the port as late
-- as it may: its transmission, and the port's latency
abbrev pub time_over : DeclaredNetwork → ℕ → ℕ → ℕ
time_over network octets p =
    (port_at network.topology.ports p).ps_per_bit * bits_of octets + (port_at network.topology.ports p).latency.0

-- a sender's travel to a port: what its longest frame takes over the ports in front of that one
abbrev pub travel_to : DeclaredNetwork → ℕ → Sender → ℕ
travel_to network port s = sum_by (time_over network s.max_octets) (ports_to s port)

-- the greatest travel to a port, of all senders that have it
abbrev pub greatest_travel : DeclaredNetwork → ℕ → ℕ
greatest_travel network port = fold max 0 (map (travel_to network port) (filter (uses port) (senders_of network)))

-- a sender interferes with a class at a port: its class there is as high or higher
abbrev pub interferes : ℕ → ℕ → Sender → Bool
interferes port class s = nat_le class (class_at s port)

-- how many longest frames a sender's burst holds whole, but at most 40
abbrev pub whole_frames : Sender → ℕ
whole_frames s = min 40 (s.burst_bits / bits_of s.max_octets)

-- how many frames a sender has in the burst at a port for a class: as many as its burst holds, where it interferes,
-- else one; none where it does not have the port
abbrev pub frames_in_burst : ℕ → ℕ → Sender → ℕ
frames_in_burst port class s =
    if uses port s then (if interferes port class s then whole_frames s else 1) else 0

-- when they are released: where they interfere, so that all of these come to the port at once if nothing delays them, a
-- picosecond after the greatest travel; else a picosecond earlier
abbrev pub time_in_burst : DeclaredNetwork → ℕ → ℕ → Sender → ℕ
time_in_burst network port class s =
    let together = 1 + greatest_travel network port - travel_to network port s in
    if interferes port class s then together else together - 1

-- the burst's frames of the sender with this number: each is a longest one
abbrev pub burst_of : DeclaredNetwork → ℕ → ℕ → ℕ → List Release
burst_of network port class i =
    let s = sender_at network i in
    replicate (frames_in_burst port class s)
    (record { at = record { 0 = time_in_burst network port class s }; sender = i; octets = s.max_octets })

-- the releases of a sender, in order
abbrev pub releases_by : ℕ → List Release → List Release
releases_by i releases = filter (λ (r : Release). r.sender == i) releases

-- a release comes before another one: it is earlier, or at the same time and of no higher sender number
abbrev pub ComesBefore : Release → Release → Type 0
ComesBefore x y = (x.at.0 < y.at.0) ⊎ ((x.at.0 ≡ y.at.0) × (x.sender ≤ y.sender))

-- releases are the burst at a port for a class: of each sender they have its frames in the burst and no other, and they
-- are in the order of times and then of senders
pub record IsBurst (network : DeclaredNetwork) (port class : ℕ) (releases : List Release) : Type 0 where
  pub of_each : (i : ℕ) → releases_by i releases ≡ burst_of network port class i
  pub in_order : AllPairs ComesBefore releases

-- the burst at a port for a stream: for the class that it has there
abbrev pub IsBurstFor : DeclaredNetwork → ℕ → ℕ → List Release → Type 0
IsBurstFor network stream port releases =
    IsBurst network port (class_at (sender_at network stream) port) releases

-- the port at a hop, counted from 0, of the route to a sender's listener
abbrev pub port_on_route : DeclaredNetwork → ℕ → ℕ → ℕ → ℕ
port_on_route network sender listener hop = slice_index_or (route_to (sender_at network sender) listener) hop 0

use Rattle.std.specs.Prelude.{ℕ, ◌+◌, ◌-◌, ◌*◌, ◌/◌, ◌<◌, ◌≤◌, List, length, map, take, unwrap_or}
use Rattle.std.specs.List.{flat_map, range_with_len}
use Rattle.ats_group.specs.declared.member.Member.{Member}
use Rattle.ats_streams.specs.Branches.{leg_at, legs_of}
use Rattle.ats_streams.specs.Stream.{DeclaredStream}
use Rattle.ats_topology.specs.Topology.{DeclaredTopology}
use Rattle.ats_network.specs.Class.{class_at}
use Rattle.ats_network.specs.Network.{DeclaredNetwork}
use Rattle.ats_network.specs.Residence.{residence_after}
use Rattle.ats_network.specs.Rates.{declared_with, scheduled_at}
use Rattle.ats_network.specs.Sender.{Sender, stream_sender}
use Rattle.ats_network.specs.Senders.{sender_at}

-- the number of the group behind a port for a class
abbrev pub group_behind : ℕ → ℕ → ℕ
group_behind port class = 8 * port + class

-- the maximum residence time of the group with a number, in nanoseconds: that of the bridge that its port leads to; 0
-- where this is a station
abbrev pub residence_of : DeclaredNetwork → ℕ → ℕ
residence_of network group = unwrap_or (residence_after network.topology (group / 8)) 0

-- those of all groups
abbrev pub residences_of : DeclaredNetwork → List ℕ
residences_of network = map (residence_of network) (range_with_len 0 (8 * length network.topology.ports))

-- the scheduler of a sender behind a port: in the group of its class at this port, with the rate and burst that it has
-- there
abbrev pub member_behind : DeclaredTopology → Sender → ℕ → Member
member_behind topology s port = record {
  group = group_behind port (class_at s port);
  declared = declared_with (scheduled_at topology port s) s;
}

-- the ports of a leg but the last: behind each of them is a bridge, at which the leg goes on
abbrev pub ports_to_bridges : List ℕ → List ℕ
ports_to_bridges path = take (length path - 1) path

-- the schedulers of a sender along one of its legs
abbrev pub leg_members : DeclaredTopology → Sender → List ℕ → List Member
leg_members topology s path = map (member_behind topology s) (ports_to_bridges path)

-- the schedulers of a stream, leg after leg: where a branch begins, there is none of its own, since the frame comes
-- there by the port before, and meets the one scheduler behind it
abbrev pub stream_members : DeclaredTopology → DeclaredStream → List Member
stream_members topology stream =
    flat_map (leg_members topology (stream_sender stream)) (legs_of stream.ports stream.branches)

-- the schedulers of all streams, one stream after the other
abbrev pub members_of : DeclaredNetwork → List Member
members_of network = flat_map (stream_members network.topology) network.streams

-- the place of a stream's first scheduler among those of these streams: behind those of the streams before it
abbrev pub first_of : DeclaredTopology → List DeclaredStream → ℕ → ℕ
first_of topology streams stream = length (flat_map (stream_members topology) (take stream streams))

-- the place of a leg's first scheduler among those of its sender: behind those of the legs before it
abbrev pub first_in : DeclaredTopology → Sender → ℕ → ℕ
first_in topology s leg = length (flat_map (leg_members topology s) (take leg (legs_of s.ports s.branches)))

-- the ports of a leg of the sender with a number
abbrev pub leg_ports : DeclaredNetwork → ℕ → ℕ → List ℕ
leg_ports network sender leg = leg_at (legs_of (sender_at network sender).ports (sender_at network sender).branches) leg

-- the place of the scheduler that a stream's frame meets before it comes to a hop of a leg: the one behind the port
-- before
abbrev pub scheduler_of : DeclaredNetwork → ℕ → ℕ → ℕ → ℕ
scheduler_of network stream leg hop =
    first_of network.topology network.streams stream + first_in network.topology (sender_at network stream) leg
    + (hop - 1)

-- a hop of a stream's leg that comes behind a scheduler of the leg
pub record IsHop (network : DeclaredNetwork) (stream leg hop : ℕ) : Type 0 where
  pub exists : stream < length network.streams
  pub of_stream : leg ≤ length (sender_at network stream).branches
  pub later : 1 ≤ hop
  pub within : hop < length (leg_ports network stream leg)

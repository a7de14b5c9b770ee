use Rattle.std.specs.Prelude.{◌≡◌, ◌≢◌, ℕ, ◌+◌, ◌*◌, ◌<◌, ◌≤◌, false, List, length, slice_index}
use Rattle.std.specs.Prelude.{All, AllPairs, Contains}
use Rattle.ats_num.specs.declared.time.TheConstants.{PS_PER_SECOND, END}
use Rattle.ats_num.specs.declared.pace.TheConstants.{MAX_SPREAD}
use Rattle.ats_topology.specs.Port.{port_at, spread_of}
use Rattle.ats_streams.specs.declared.path.TheConstants.{MAX_PORTS}
use Rattle.ats_network.specs.Network.{DeclaredNetwork, senders_of}
use Rattle.ats_group.specs.GroupsState.{GroupsState}
use Rattle.ats_schedulers.specs.Schedulers.{members_of}
use Rattle.ats_num.specs.Wire.{IsFrameSize, bits_of}
use Rattle.ats_transmit.specs.Picks.{IsFirstStart}
use Rattle.ats_transmit.specs.Sending.{last_start}
use Rattle.ats_transmit.specs.State.{offered_of}
use Rattle.ats_transmit.specs.declared.sent.Sent.{Sent}
use Rattle.ats_transmit.specs.declared.offer.Offer.{Offer}
use Rattle.ats_trace.specs.HopRecord.{IsEligible}
use Rattle.ats_run_records.specs.Progress.{Progress, last_hop, progress_at}
use Rattle.ats_engine_steps.specs.Course.{Course, sender_of, path_of, place_at, offer_at, arrives_from_at}
use Rattle.ats_engine_steps.specs.Steps.{IsLegAt, class_behind, rows_next}
use Rattle.ats_engine_steps.specs.Ports.{port_state_at}

-- a leg may get one more hop record
pub record HasRoom (records : List Progress) (row : ℕ) : Type 0 where
  pub within : row < length records
  pub more : length (progress_at records row).hops < (progress_at records row).room

-- a frame may come now to the next port of a leg; the groups are those of the network
pub record MayCome (network : DeclaredNetwork) (records : List Progress) (groups : GroupsState) (now row : ℕ)
    : Type 0 where
  pub room : HasRoom records row
  pub sender : (progress_at records row).release.sender < length (senders_of network)
  pub leg : (progress_at records row).leg ≤ length (sender_of network (progress_at records row)).branches
  pub path : (progress_at records row).room ≡ length (path_of network (progress_at records row))
  pub most : (progress_at records row).room ≤ MAX_PORTS
  pub known : groups.members ≡ members_of network
  pub stream : 1 ≤ class_behind network (progress_at records row)
      → (progress_at records row).release.sender < length network.streams
  pub time : now + PS_PER_SECOND ≤ END

-- a frame comes now where the run stands so, to this leg and to those that begin there
pub record MayComeNow {T : Type 0} (network : DeclaredNetwork) (course : Course T) (now row : ℕ) : Type 0 where
  pub stages : length course.stages ≡ length course.records
  pub may_come : MayCome network course.records course.groups now row
  pub frame : (progress_at course.records row).frame < length course.firsts
  pub next : All (HasRoom course.records) (rows_next network course row)
  pub apart : AllPairs (λ (n m : ℕ). n ≢ m) (rows_next network course row)

-- a frame that came to a port of a leg by one hop record at least
pub record IsPlaced (network : DeclaredNetwork) (records : List Progress) (row : ℕ) : Type 0 where
  pub within : row < length records
  pub sender : (progress_at records row).release.sender < length (senders_of network)
  pub leg : (progress_at records row).leg ≤ length (sender_of network (progress_at records row)).branches
  pub came : 0 < length (progress_at records row).hops
  pub on_path : length (progress_at records row).hops ≤ length (path_of network (progress_at records row))
  pub most : length (progress_at records row).hops ≤ MAX_PORTS

-- a frame becomes eligible now along a leg: its port may be offered it
pub record MayBeOffered {T : Type 0} (network : DeclaredNetwork) (course : Course T) (now row : ℕ) : Type 0 where
  pub stages : length course.stages ≡ length course.records
  pub placed : IsPlaced network course.records row
  pub port : place_at network course row < length course.ports
  pub turns : length course.turns ≡ length course.ports
  pub not_held : All (λ (o : Offer). o.frame ≢ (progress_at course.records row).frame)
      (port_state_at course (place_at network course row)).held
  pub not_sent : All (λ (x : Sent). x.frame ≢ (progress_at course.records row).frame)
      (port_state_at course (place_at network course row)).sent
  pub class : (offer_at network course row).class ≤ 7
  pub room : offered_of (port_state_at course (place_at network course row)) (offer_at network course row).class
      < slice_index (port_state_at course (place_at network course row)).rooms (offer_at network course row).class
  pub octets : IsFrameSize (offer_at network course row).octets
  pub later : 0 < length (port_state_at course (place_at network course row)).sent
      → last_start (port_state_at course (place_at network course row)).sent
      < (offer_at network course row).eligible.0

-- a frame passes a port: one of its sender's legs has it, and the frame came there along whichever has, and is eligible
pub record IsThere {T : Type 0} (network : DeclaredNetwork) (course : Course T) (port frame : ℕ) : Type 0 where
  pub trunk : frame < length course.records
  pub numbered : frame < length course.firsts
  pub sender : (progress_at course.records frame).release.sender < length (senders_of network)
  pub passes : Contains (sender_of network (progress_at course.records frame)).ports port
  pub came : (row : ℕ) → IsLegAt network course frame port row → IsPlaced network course.records row
  pub eligible : (row : ℕ) → IsLegAt network course frame port row
      → IsEligible (last_hop (progress_at course.records row)).verdict

-- a port selects now: it is free and due, and whatever it may send ends in time
pub record MaySelect {T : Type 0} (network : DeclaredNetwork) (course : Course T) (now port : ℕ) : Type 0 where
  pub stages : length course.stages ≡ length course.records
  pub within : port < length course.ports
  pub turns : length course.turns ≡ length course.ports
  pub arrivals : length course.arrives_from ≡ length course.ports
  pub links : length course.ports ≡ length network.topology.ports
  pub tie : (port_state_at course port).tie ≡ course.tie
  pub free : (port_state_at course port).is_sending ≡ false
  pub due : IsFirstStart (port_state_at course port).held (port_state_at course port).sent now
  pub there : All (λ (o : Offer). IsThere network course port o.frame) (port_state_at course port).held
  pub time : now < END
  pub ends : All (λ (o : Offer). now + (port_state_at course port).ps_per_bit * bits_of o.octets ≤ END)
      (port_state_at course port).held
  pub spread : spread_of (port_at network.topology.ports port) ≤ MAX_SPREAD
  pub earliest : (port_at network.topology.ports port).earliest.0 ≤ END
  pub from : arrives_from_at course port ≤ END

-- How the burst is made, sender by sender, and put in order: what the clauses of private functions speak of. What the
-- burst is, `Burst` alone says.
use Rattle.std.specs.Prelude.{◌≡◌, ℕ, ◌+◌, ◌*◌, ◌^◌, ◌≤◌, true, max, List, filter, fold, map, IsPermutation}
use Rattle.std.specs.Prelude.{if◌then◌else◌}
use Rattle.std.specs.List.{flat_map, range_with_len}
use Rattle.std.specs.List.Sorted.{IsNonDecreasingBy}
use Rattle.ats_num.specs.Wire.{IsFrameSize}
use Rattle.ats_network.specs.Sender.{Sender}
use Rattle.ats_network.specs.Class.{class_at}
use Rattle.ats_network.specs.Network.{DeclaredNetwork}
use Rattle.ats_certificate.specs.PortSums.{uses}
use Rattle.ats_trace.specs.declared.journey.Release.{Release}
use Rattle.ats_witness.specs.Burst.{burst_of, travel_to}
use Rattle.ats_witness.specs.declared.participant.Participant.{Participant}

-- a sender that has the port, as it takes part in the burst there: its class, its declared burst, the octets of its
-- longest frame, and its travel
pub record IsParticipant (network : DeclaredNetwork) (port : ℕ) (s : Sender) (p : Participant) : Type 0 where
  pub used : uses port s ≡ true
  pub class : p.class ≡ class_at s port
  pub burst : p.burst_bits ≡ s.burst_bits
  pub longest : p.max_octets ≡ s.max_octets
  pub size : IsFrameSize p.max_octets
  pub travel : p.travel ≡ travel_to network port s
  pub most : p.travel ≤ 231424000000

-- the greatest travel so far with one sender more, where it has the port
abbrev pub with_travel : DeclaredNetwork → ℕ → ℕ → Sender → ℕ
with_travel network port greatest s = if uses port s then max greatest (travel_to network port s) else greatest

-- the greatest travel of these senders to a port
abbrev pub greatest_among : DeclaredNetwork → ℕ → List Sender → ℕ
greatest_among network port senders = fold max 0 (map (travel_to network port) (filter (uses port) senders))

-- the frames of the first so many senders in the burst, sender by sender
abbrev pub by_sender : DeclaredNetwork → ℕ → ℕ → ℕ → List Release
by_sender network port class senders = flat_map (burst_of network port class) (range_with_len 0 senders)

-- where a release stands among others: they go by time and then by sender
abbrev pub order_of : Release → ℕ
order_of r = r.at.0 * 2 ^ 32 + r.sender

-- the same releases in that order
pub record AreReordered (releases ordered : List Release) : Type 0 where
  pub same : IsPermutation releases ordered
  pub in_order : IsNonDecreasingBy order_of ordered

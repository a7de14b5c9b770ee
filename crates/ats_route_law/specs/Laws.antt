use Rattle.std.specs.Prelude.{◌≡◌, ℕ, zero, suc, ◌<◌, ◌≤◌, List, length, Option, Some, None, slice_index_or}
use Rattle.ats_clock.specs.Rates.{committed, output_of}
use Rattle.ats_streams.specs.Branches.{leg_at, legs_of, no_branch}
use Rattle.ats_streams.specs.declared.branch.Branch.{Branch}
use Rattle.ats_topology.specs.Topology.{DeclaredTopology}
use Rattle.ats_network.specs.Class.{port_before}
use Rattle.ats_network.specs.Rates.{clock_behind, committed_at, scheduled_at, talker_clock}
use Rattle.ats_network.specs.Sender.{Sender}
use Rattle.ats_network.specs.Senders.{IsSender}

-- the ports of a sender's leg
abbrev pub ports_of_leg : Sender → ℕ → List ℕ
ports_of_leg s leg = leg_at (legs_of s.ports s.branches) leg

-- the port in front of a hop within its leg; the first hop has none there
abbrev pub before_hop : List ℕ → ℕ → Option ℕ
before_hop leg zero = None
before_hop leg (suc hop) = Some (slice_index_or leg hop 0)

-- the port that leads to where a branch begins: the one in front of its hop. Nothing leads to the talker
abbrev pub port_to : Sender → Branch → Option ℕ
port_to s b = before_hop (ports_of_leg s b.leg) b.hop

-- the port in front of a hop of a leg: in the leg, or, where the leg begins, that which leads there; nothing leads to
-- where the trunk begins
abbrev pub in_front_of : Sender → ℕ → ℕ → Option ℕ
in_front_of s leg (suc hop) = Some (slice_index_or (ports_of_leg s leg) hop 0)
in_front_of s zero zero = None
in_front_of s (suc n) zero = port_to s (slice_index_or s.branches n no_branch)

-- on whichever of a sender's routes, this is the port before
abbrev pub PortBeforeIsOne : Type 0
PortBeforeIsOne = (topology : DeclaredTopology) (s : Sender) (leg hop : ℕ) → IsSender topology s
    → leg ≤ length s.branches → hop < length (ports_of_leg s leg)
    → port_before s (slice_index_or (ports_of_leg s leg) hop 0) ≡ in_front_of s leg hop

-- a sender's rate and burst go from hop to hop: to a port with none before it comes what its talker sends, and to each
-- other one what its scheduler behind the port before lets through, each by its own clock
pub record GoHopByHop (topology : DeclaredTopology) (s : Sender) : Type 0 where
  pub first : (port : ℕ) → port_before s port ≡ None
      → committed_at topology port s ≡ output_of (talker_clock topology s) (committed s.rate s.burst_bits)
  pub next : (port before : ℕ) → port_before s port ≡ Some before
      → committed_at topology port s ≡ output_of (clock_behind topology before) (scheduled_at topology before s)

abbrev pub RatesGoHopByHop : Type 0
RatesGoHopByHop = (topology : DeclaredTopology) (s : Sender) → IsSender topology s → GoHopByHop topology s

use Rattle.std.specs.Prelude.{◌≡◌, ℕ, ◌≤◌, ◌==◌, List, ◌∷◌, Option, Some, None, if◌then◌else◌, Contains}
use Rattle.std.specs.Prelude.{All, count_by}
use Rattle.std.specs.Option.{option_or, option_map}
use Rattle.ats_num.specs.declared.time.Ps.{Ps}
use Rattle.ats_topology.specs.Port.{port_at}
use Rattle.ats_network.specs.Network.{DeclaredNetwork, IsNetwork}
use Rattle.ats_network.specs.Senders.{sender_at}
use Rattle.ats_group.specs.declared.verdict.Verdict.{Verdict}
use Rattle.ats_port_rule.specs.Transmission.{Transmission}
use Rattle.ats_trace.specs.Journey.{IsJourney, Leg, Travel, legs_at, legs_in}
use Rattle.ats_trace.specs.Projections.{sent_by}
use Rattle.ats_trace.specs.HopRecord.{HopRecord}

-- A bridge judges a frame once, for all of its ports on which the stream goes on.

-- the record of a frame at a port, along these ports, if there is one
abbrev pub record_along : ℕ → List ℕ → List HopRecord → Option HopRecord
record_along port (p ∷ path) (hop ∷ hops) = if p == port then Some hop else record_along port path hops
record_along port path hops = None

-- and along legs
abbrev pub record_over : ℕ → List (List ℕ) → List Leg → Option HopRecord
record_over port (path ∷ paths) (leg ∷ legs) = option_or (record_along port path leg.hops) (record_over port paths legs)
record_over port paths legs = None

-- the record of a frame at a port of its sender, if it came there
abbrev pub record_of : DeclaredNetwork → Travel → ℕ → Option HopRecord
record_of network journey port = record_over port (legs_at network journey.release.sender) (legs_in journey)

-- when it came there, and what was decided on it
abbrev pub judged_as : HopRecord → Ps × Verdict
judged_as hop = (hop.arrival, hop.verdict)

-- of the ports of a stream that leave one node all have a record of a frame or none has, with one arrival and one
-- verdict
abbrev pub HasOneVerdict : DeclaredNetwork → Travel → Type 0
HasOneVerdict network journey =
    (p q : ℕ) → Contains (sender_at network journey.release.sender).ports p
    → Contains (sender_at network journey.release.sender).ports q
    → (port_at network.topology.ports p).from ≡ (port_at network.topology.ports q).from
    → option_map judged_as (record_of network journey p) ≡ option_map judged_as (record_of network journey q)

-- a frame makes at most one transmission at each port
abbrev pub SendsOnce : DeclaredNetwork → List Travel → Type 0
SendsOnce network run =
    (port frame : ℕ) → count_by (λ (x : Transmission). x.frame == frame) (sent_by network run port) ≤ 1

-- both hold of a run
pub record OneVerdictIn (network : DeclaredNetwork) (run : List Travel) : Type 0 where
  pub judged : (journey : Travel) → Contains run journey → HasOneVerdict network journey
  pub sent : SendsOnce network run

-- so it is where each frame makes a journey: in each legal run, by whatever clocks, and however groups judge
abbrev pub OneVerdict : Type 0
OneVerdict = (network : DeclaredNetwork) (run : List Travel) → IsNetwork network → All (IsJourney network) run
    → OneVerdictIn network run

-- The hops of a sender's legs, and what is left of a frame's way along one.
use Rattle.std.proofs.Common.{◌≡◌, ℕ, zero, suc, ◌+◌, ◌<◌, ◌≤◌, List, length, get_or, inl, inr, ◌⊎◌}
use Rattle.std.proofs.Common.{[], arith}
use Rattle.std.specs.Prelude.{Option, Some, None}
use Rattle.ats_streams.specs.Branches.{first_from, leg_at, no_branch}
use Rattle.ats_streams.proofs.BranchLemmas.{legs-length}
use Rattle.ats_network.specs.Network.{DeclaredNetwork, IsNetwork, senders_of}
use Rattle.ats_network.specs.Sender.{Sender}
use Rattle.ats_network.specs.Senders.{IsSender, sender_at}
use Rattle.ats_network.proofs.SenderLemmas.{sender_keeps}
use Rattle.ats_tally.proofs.Along.{IsPlaced, leg_placed}
use Rattle.ats_tally.proofs.Network.{few_ports}
use Rattle.ats_trace.specs.Journey.{IsCopy, IsJourney, IsWay, Leg, Travel, legs_at, legs_in, no_leg, record_at}
use Rattle.ats_trace.specs.Stored.{leg_in}
use Rattle.ats_trace.specs.HopRecord.{HopRecord}
use Rattle.ats_trace.specs.declared.journey.Ending.{Ending}
use Rattle.ats_trace.proofs.OneVerdict.{copies_many}
use Rattle.ats_route_law.proofs.Leads.{copy_at}

-- the port of a hop of a leg stands behind the leg's first port among those of the sender
pub leg_hop : (network : DeclaredNetwork) (sender leg hop : ℕ) → IsNetwork network
    → sender < length (senders_of network) → leg ≤ length (sender_at network sender).branches
    → hop < length (leg_at (legs_at network sender) leg)
    → IsPlaced (sender_at network sender).ports (leg_at (legs_at network sender) leg)
    (first_from 0 (sender_at network sender).branches leg) hop
leg_hop network sender leg hop net within in_legs in_leg =
    let s : Sender = sender_at network sender in
    let keeps : IsSender network.topology s = sender_keeps network sender net within in
    leg_placed s.ports s.branches leg hop keeps.branches in_legs in_leg

-- a leg has few of them
pub leg_few : (network : DeclaredNetwork) (sender leg : ℕ) → IsNetwork network → sender < length (senders_of network)
    → leg ≤ length (sender_at network sender).branches → length (leg_at (legs_at network sender) leg) ≤ 65536
leg_few network sender leg net within in_legs =
    by (length (leg_at (legs_at network sender) leg))
    (λ hop in_leg. (leg_hop network sender leg hop net within in_legs in_leg).within)
  where
    most : length (sender_at network sender).ports ≤ 65536
    most = few_ports network sender net within

    by : (many : ℕ) → ((hop : ℕ) → hop < many → first_from 0 (sender_at network sender).branches leg + hop
        < length (sender_at network sender).ports) → many ≤ 65536
    by zero below = omega arith
    by (suc n) below = let last = below n (omega arith) in omega (arith, last, most)

-- the rest of a frame's way along a leg, which may be over
abbrev pub IsRest : List ℕ → List HopRecord → Ending → Type 0
IsRest path hops ending = IsWay path hops ending ⊎ (hops ≡ [])

copy_rest : (start : Option HopRecord) (path : List ℕ) (leg : Leg) → IsCopy start path leg
    → IsRest path leg.hops leg.ending
copy_rest (Some start) path leg copy = inl copy.1
copy_rest None path leg copy = inr copy.0

-- a frame has as many legs as its sender
pub as_many : (network : DeclaredNetwork) (j : Travel) → IsJourney network j
    → length (legs_in j) ≡ length (legs_at network j.release.sender)
as_many network j is =
    let s : Sender = sender_at network j.release.sender in
    omega (arith, copies_many s j is.copies, legs-length 0 s.ports s.branches)

-- along each of which it makes its way, or never comes
pub leg_rest : (network : DeclaredNetwork) (j : Travel) (leg : ℕ) → IsJourney network j → leg < length (legs_in j)
    → IsRest (leg_at (legs_at network j.release.sender) leg) (leg_in j leg).hops (leg_in j leg).ending
leg_rest network j zero is within = inl is.way
leg_rest network j (suc n) is within =
    let s : Sender = sender_at network j.release.sender in
    copy_rest (record_at (legs_in j) (get_or s.branches n no_branch))
    (leg_at (legs_at network j.release.sender) (suc n))
    (get_or j.copies n no_leg)
    (copy_at s j n is.copies (omega (arith, within, copies_many s j is.copies)))

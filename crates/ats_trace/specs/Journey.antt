use Rattle.std.specs.Prelude.{◌≡◌, ℕ, ◌<◌, List, [], ◌∷◌, length, slice_get, slice_index_or, Option, Some, None}
use Rattle.std.specs.List.{AllZip}
use Rattle.ats_num.specs.declared.time.Ps.{Ps}
use Rattle.ats_num.specs.Wire.{IsFrameSize}
use Rattle.ats_streams.specs.Branches.{branches_of, legs_of, trunk_of}
use Rattle.ats_streams.specs.declared.branch.Branch.{Branch}
pub use Rattle.ats_network.specs.Class.{class_at}
use Rattle.ats_network.specs.Sender.{Sender}
use Rattle.ats_network.specs.Network.{DeclaredNetwork, senders_of}
use Rattle.ats_network.specs.Senders.{sender_at}
use Rattle.ats_group.specs.declared.verdict.Verdict.{Verdict}
use Rattle.ats_group.specs.declared.verdict.Verdict.TheVariants.{Eligible}
use Rattle.ats_trace.specs.declared.journey.Release.{Release}
use Rattle.ats_trace.specs.HopRecord.{HopRecord}
use Rattle.ats_trace.specs.declared.journey.Ending.{Ending}
use Rattle.ats_trace.specs.declared.journey.Ending.TheVariants.{Sink, Discard}

-- what was recorded of a frame along a leg, at each port of it that the frame came to, and how that ended
pub record Leg : Type 0 where
  pub hops : List HopRecord
  pub ending : Ending

-- what happened to one frame: its release; along the trunk, what was recorded of it at each hop that it came to, and
-- its ending; and what happened to its copies, along each branch
pub record Travel : Type 0 where
  pub release : Release
  pub hops : List HopRecord
  pub ending : Ending
  pub copies : List Leg

-- for numbers past the last leg
abbrev pub no_leg : Leg
no_leg = record { hops = []; ending = Discard }

-- what happened along each leg: the trunk, then each branch
abbrev pub legs_in : Travel → List Leg
legs_in journey = record { hops = journey.hops; ending = journey.ending } ∷ journey.copies

-- what follows a verdict and the times of a transmission: an eligible frame is sent and goes on; a frame with another
-- verdict is not sent, and its way ends
abbrev pub IsSentOrEnds : Type 0 → Verdict → Option (Ps × Ps) → List HopRecord → Ending → Type 0
IsSentOrEnds onward (Eligible e) (Some times) hops ending = onward
IsSentOrEnds onward (Eligible e) None hops ending = ⊥
IsSentOrEnds onward verdict (Some times) hops ending = ⊥
IsSentOrEnds onward verdict None hops ending = (hops ≡ []) × (ending ≡ Discard)

-- the way of a frame over what is left of a leg: a record for each port that it comes to, and behind the last port
-- the leg's listener. When it comes there the links say
abbrev pub IsWay : List ℕ → List HopRecord → Ending → Type 0
IsWay [] [] (Sink at) = Unit {0}
IsWay [] [] Discard = ⊥
IsWay [] (hop ∷ hops) ending = ⊥
IsWay (p ∷ path) [] ending = ⊥
IsWay (p ∷ path) (hop ∷ hops) ending = IsSentOrEnds (IsWay path hops ending) hop.verdict hop.sent hops ending

-- the first hop of a journey: a node's own frame comes to its port at its release, and is eligible then, at a bridge
-- too
abbrev pub IsReleased : Release → List HopRecord → Type 0
IsReleased release [] = ⊥
IsReleased release (hop ∷ hops) = (hop.arrival ≡ release.at) × (hop.verdict ≡ Eligible release.at)

-- the record that a frame has at the hop where a branch begins, if it came there
abbrev pub record_at : List Leg → Branch → Option HopRecord
record_at legs b = slice_get (slice_index_or legs b.leg no_leg).hops b.hop

-- the first hop of a copy: a frame is received by a bridge once, where one ATS scheduler judges it (IEEE Std 802.1Qcr),
-- before it is forwarded to each port on which its stream goes on (IEEE Std 802.1Q, forwarding process); so it has the
-- arrival and the verdict of the frame's record at the hop where the branch begins
abbrev pub BeginsAs : HopRecord → List HopRecord → Type 0
BeginsAs start [] = ⊥
BeginsAs start (hop ∷ hops) = (hop.arrival ≡ start.arrival) × (hop.verdict ≡ start.verdict)

-- what happened to a copy along the ports of its branch: where the frame came to the hop at which the branch begins,
-- the copy begins as the frame's record there and makes its way; where it did not, there is no record, and the copy
-- counts as discarded
abbrev pub IsCopy : Option HopRecord → List ℕ → Leg → Type 0
IsCopy (Some start) path leg = BeginsAs start leg.hops × IsWay path leg.hops leg.ending
IsCopy None path leg = (leg.hops ≡ []) × (leg.ending ≡ Discard)

-- the copies of a frame are, branch by branch, those that its sender's branches make
abbrev pub AreCopies : Sender → Travel → Type 0
AreCopies sender journey =
    AllZip (λ (branch : Branch × List ℕ) (leg : Leg). IsCopy (record_at (legs_in journey) branch.0) branch.1 leg)
    (branches_of sender.ports sender.branches) journey.copies

-- the ports of each leg of the sender with a number, and those of its trunk
abbrev pub legs_at : DeclaredNetwork → ℕ → List (List ℕ)
legs_at network i = legs_of (sender_at network i).ports (sender_at network i).branches

abbrev pub trunk_at : DeclaredNetwork → ℕ → List ℕ
trunk_at network i = trunk_of (sender_at network i).ports (sender_at network i).branches

-- one frame's journey over the legs of its sender
pub record IsJourney (network : DeclaredNetwork) (journey : Travel) : Type 0 where
  pub sender : journey.release.sender < length (senders_of network)
  pub octets : IsFrameSize journey.release.octets
  pub way : IsWay (trunk_at network journey.release.sender) journey.hops journey.ending
  pub released : IsReleased journey.release journey.hops
  pub copies : AreCopies (sender_at network journey.release.sender) journey

-- the frame is one of a stream: these are the first senders, and the flows follow
abbrev pub IsOfStream : DeclaredNetwork → Travel → Type 0
IsOfStream network journey = journey.release.sender < length network.streams

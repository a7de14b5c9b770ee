use Rattle.std.specs.Prelude.{◌≡◌, ℕ, zero, suc, ◌<◌, ◌≤◌, List, [], ◌∷◌, length, Option, Some, None}
use Rattle.std.specs.Prelude.{slice_get, slice_index_or}
use Rattle.ats_num.specs.declared.time.Ps.{Ps}
use Rattle.ats_streams.specs.Branches.{no_branch}
use Rattle.ats_network.specs.Network.{DeclaredNetwork, senders_of}
use Rattle.ats_num.specs.Wire.{IsFrameSize}
use Rattle.ats_group.specs.declared.verdict.Verdict.TheVariants.{Eligible}
use Rattle.ats_trace.specs.Journey.{BeginsAs, IsWay, IsReleased}
use Rattle.ats_trace.specs.Stored.{row_of}
use Rattle.ats_trace.specs.declared.journey.Ending.TheVariants.{Discard}
use Rattle.ats_trace.specs.HopRecord.{HopRecord}
use Rattle.ats_trace.specs.declared.journey.Release.{Release}
use Rattle.ats_run_records.specs.Progress.{Progress, progress_at}
use Rattle.ats_engine_steps.specs.Course.{Course, path_of, sender_of}
use Rattle.ats_engine_steps.specs.declared.stage.Stage.{Stage}
use Rattle.ats_engine_steps.specs.declared.stage.Stage.TheVariants.{Apart, Coming, Due, Waiting, Over}

-- a hop record of a frame that is eligible at this time and was not sent yet
pub record IsDueAt (e : Ps) (hop : HopRecord) : Type 0 where
  pub verdict : hop.verdict ≡ Eligible e
  pub sent : hop.sent ≡ None

-- or at some time
pub record IsUnsent (hop : HopRecord) : Type 0 where
  pub eligible : Ps
  pub verdict : hop.verdict ≡ Eligible eligible
  pub sent : hop.sent ≡ None

-- one that was sent
pub record IsSent (hop : HopRecord) : Type 0 where
  pub eligible : Ps
  pub times : Ps × Ps
  pub verdict : hop.verdict ≡ Eligible eligible
  pub sent : hop.sent ≡ Some times

-- the frame was sent by each port that it came to, and more ports of the leg follow
abbrev pub Goes : List ℕ → List HopRecord → Type 0
Goes [] hops = ⊥
Goes (p ∷ path) [] = Unit {0}
Goes (p ∷ path) (hop ∷ hops) = IsSent hop × Goes path hops

-- the frame was sent by each port that it came to but the last, of which its record says this
abbrev pub Stands : (HopRecord → Type 0) → List ℕ → List HopRecord → Type 0
Stands Last [] hops = ⊥
Stands Last (p ∷ path) [] = ⊥
Stands Last (p ∷ path) (hop ∷ []) = Last hop
Stands Last (p ∷ path) (hop ∷ next ∷ hops) = IsSent hop × Stands Last path (next ∷ hops)

-- a leg begins as it has to: the trunk when the frame is released; a branch, where the frame came to the hop at which
-- it begins, as the record there
abbrev pub HasBegun : ℕ → Release → Option HopRecord → List HopRecord → Type 0
HasBegun zero release start hops = IsReleased release hops
HasBegun (suc copy) release (Some start) hops = BeginsAs start hops
HasBegun (suc copy) release None hops = ⊥

-- or the frame comes to the first port of its trunk when it is released
abbrev pub BeginsBy : ℕ → Release → Option HopRecord → List HopRecord → Ps → Type 0
BeginsBy zero release start [] at = at ≡ release.at
BeginsBy leg release start hops at = HasBegun leg release start hops

-- the way along the leg is not over, and stands so
pub record IsOpen (IsHere : Type 0) (progress : Progress) : Type 0 where
  pub here : IsHere
  pub unended : progress.ending ≡ Discard

-- the way along the leg has ended: it is whole
pub record IsWhole (path : List ℕ) (start : Option HopRecord) (progress : Progress) : Type 0 where
  pub way : IsWay path progress.hops progress.ending
  pub begun : HasBegun progress.leg progress.release start progress.hops

-- the frame stands at a port of the leg, where its record says this
abbrev pub StandsBy : (HopRecord → Type 0) → List ℕ → Option HopRecord → Progress → Type 0
StandsBy Last path start progress = IsOpen
    (Stands Last path progress.hops × HasBegun progress.leg progress.release start progress.hops) progress

-- a frame is as far along a leg as its stage says, where this is the record at the hop at which the leg begins
abbrev pub IsAtStage : List ℕ → Option HopRecord → Progress → Stage → Type 0
IsAtStage path start progress Apart =
    IsOpen ((progress.hops ≡ []) × (start ≡ None) × (1 ≤ progress.leg)) progress
IsAtStage path start progress (Coming at) =
    IsOpen (Goes path progress.hops × BeginsBy progress.leg progress.release start progress.hops at) progress
IsAtStage path start progress (Due at) = StandsBy (IsDueAt at) path start progress
IsAtStage path start progress Waiting = StandsBy IsUnsent path start progress
IsAtStage path start progress Over = IsWhole path start progress

-- the record that a frame has at the hop where one of its legs begins, if it came there; nothing leads to the trunk
abbrev pub start_by : DeclaredNetwork → List ℕ → List Progress → ℕ → Progress → Option HopRecord
start_by network firsts records zero progress = None
start_by network firsts records (suc copy) progress =
    slice_get (progress_at records (row_of firsts progress.frame
    (slice_index_or (sender_of network progress).branches copy no_branch).leg)).hops
    (slice_index_or (sender_of network progress).branches copy no_branch).hop

abbrev pub start_of : {T : Type 0} → DeclaredNetwork → Course T → Progress → Option HopRecord
start_of network course progress = start_by network course.firsts course.records progress.leg progress

-- what is kept of each leg of a frame
pub record IsFrame {T : Type 0} (network : DeclaredNetwork) (course : Course T) (progress : Progress) (stage : Stage)
    : Type 0 where
  pub sender : progress.release.sender < length (senders_of network)
  pub octets : IsFrameSize progress.release.octets
  pub leg : progress.leg ≤ length (sender_of network progress).branches
  pub room : progress.room ≡ length (path_of network progress)
  pub stands : IsAtStage (path_of network progress) (start_of network course progress) progress stage

use Rattle.std.specs.Prelude.{ℕ, ◌<◌, List, All, IfSome}
use Rattle.ats_num.specs.declared.time.Ps.{Ps}
use Rattle.ats_num.specs.declared.time.TheConstants.{END}
use Rattle.ats_group.specs.declared.verdict.Verdict.{Verdict}
use Rattle.ats_group.specs.declared.verdict.Verdict.TheVariants.{Eligible, Late, Size}
use Rattle.ats_trace.specs.Journey.{Leg, Travel}
use Rattle.ats_trace.specs.declared.journey.Ending.{Ending}
use Rattle.ats_trace.specs.declared.journey.Ending.TheVariants.{Sink, Discard}
use Rattle.ats_trace.specs.HopRecord.{HopRecord}

-- an eligible frame is so before this time, and a late one would have been
abbrev pub IsVerdictBefore : ℕ → Verdict → Type 0
IsVerdictBefore time (Eligible e) = e.0 < time
IsVerdictBefore time (Late e) = e.0 < time
IsVerdictBefore time Size = Unit {0}

-- a transmission starts and ends before it
pub record IsSentBefore (time : ℕ) (times : Ps × Ps) : Type 0 where
  pub start : times.0.0 < time
  pub end : times.1.0 < time

-- what was recorded of a frame at a hop was before it
pub record IsHopBefore (time : ℕ) (hop : HopRecord) : Type 0 where
  pub arrival : hop.arrival.0 < time
  pub verdict : IsVerdictBefore time hop.verdict
  pub sent : IfSome hop.sent (IsSentBefore time)

-- a frame arrives at its listener before it
abbrev pub IsEndBefore : ℕ → Ending → Type 0
IsEndBefore time (Sink at) = at.0 < time
IsEndBefore time Discard = Unit {0}

-- what happened along a leg was before it
pub record IsLegBefore (time : ℕ) (leg : Leg) : Type 0 where
  pub hops : All (IsHopBefore time) leg.hops
  pub ending : IsEndBefore time leg.ending

-- all that a journey tells was before it
pub record IsJourneyBefore (time : ℕ) (journey : Travel) : Type 0 where
  pub release : journey.release.at.0 < time
  pub hops : All (IsHopBefore time) journey.hops
  pub ending : IsEndBefore time journey.ending
  pub copies : All (IsLegBefore time) journey.copies

-- each time that a run tells is before the one that no run reaches
abbrev pub IsRunInTime : List Travel → Type 0
IsRunInTime run = All (IsJourneyBefore END) run

use Rattle.std.specs.Prelude.{◌≡◌, ℕ, ◌⊎◌, List, ◌++◌, length, codes, decimal, IfSome, Result, Ok, Err}
use Rattle.std.specs.Global.{Vec}
use Rattle.ats_network.specs.Network.{DeclaredNetwork}
use Rattle.ats_trace.specs.declared.journey.Release.{Release}
use Rattle.ats_conform.specs.Broken.{Breaks}
use Rattle.ats_conform.specs.Releases.{AllKeepBuckets}
use Rattle.ats_conform.specs.declared.broken.Broken.{Broken}
use Rattle.ats_conform.specs.declared.broken.Broken.TheVariants.{Size, Bucket}
use Rattle.ats_verdict_text.specs.Text.{refused_text}
use Rattle.ats_command_input.specs.Answer.{Answer}
use Rattle.ats_command_input.specs.Outcome.{answer_of}
use Rattle.ats_command_input.specs.declared.outcome.Stop.{Stop}
use Rattle.ats_command_input.specs.declared.status.Status.TheVariants.{Done, Refused}
use Rattle.ats_command_due.specs.Replayed.{Scheduled}

-- the line of so many releases by which every node keeps its buckets
abbrev pub conforms_text : ℕ → List ℕ
conforms_text releases = codes "conforms " ++ decimal releases ++ codes "\n"

-- how the first frame breaks what its sender declares, as it is printed
abbrev pub broken_text : Broken → List ℕ
broken_text (Size frame) = codes "size " ++ decimal frame
broken_text (Bucket since frame) = codes "bucket " ++ decimal since ++ codes " " ++ decimal frame

-- done, with the number of releases, by which every node keeps its buckets
pub record IsConforming (network : DeclaredNetwork) (releases : List Release) (answer : Answer) : Type 0 where
  pub keeps : AllKeepBuckets network releases
  pub done : answer ≡ record { status = Done; text = conforms_text (length releases) }

-- refused, with the first frame by which some node does not keep its buckets
pub record IsBroken (network : DeclaredNetwork) (releases : List Release) (answer : Answer) (broken : Broken) : Type 0
  where
    pub breaks : Breaks network releases broken
    pub refused : answer ≡ record { status = Refused; text = refused_text (broken_text broken) }

-- an answer judges releases: it is one of these
abbrev pub JudgesReleases : DeclaredNetwork → List Release → Answer → Type 0
JudgesReleases network releases answer =
    IsConforming network releases answer ⊎ ((broken : Broken) × IsBroken network releases answer broken)

-- the same of what two files declare
abbrev pub JudgesScheduled : Scheduled → Answer → Type 0
JudgesScheduled scheduled answer = JudgesReleases scheduled.network scheduled.releases answer

-- an answer to what is declared, or the answer that stands in its place
abbrev pub IsAnswerTo : {A : Type 0} → (A → Answer → Type 0) → Result A Answer → Answer → Type 0
IsAnswerTo Is (Ok x) answer = Is x answer
IsAnswerTo Is (Err due) answer = answer ≡ due

-- the answer that a call came to, if it came to one, is such an answer
abbrev pub ComesTo : {A : Type 0} → (A → Answer → Type 0) → Result (Vec ℕ) Stop → Result A Answer → Type 0
ComesTo Is result due = IfSome (answer_of result) (IsAnswerTo Is due)

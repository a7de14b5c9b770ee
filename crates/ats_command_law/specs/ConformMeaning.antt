use Rattle.std.specs.Prelude.{◌≡◌, ℕ, ◌⊎◌, List, length, Ok, IsErr}
use Rattle.ats_network.specs.Network.{DeclaredNetwork, IsNetwork}
use Rattle.ats_trace.specs.declared.journey.Release.{Release}
use Rattle.ats_conform.specs.Broken.{Breaks}
use Rattle.ats_conform.specs.Releases.{AllKeepBuckets}
use Rattle.ats_conform.specs.declared.broken.Broken.{Broken}
use Rattle.ats_verdict_text.specs.Text.{refused_text}
use Rattle.ats_command_input.specs.Answer.{Answer}
use Rattle.ats_command_input.specs.Input.{network_in, releases_in}
use Rattle.ats_command_due.specs.Conformed.{broken_text, conforms_text}
use Rattle.ats_command_due.specs.Due.{IsConformAnswer}
use Rattle.ats_command_law.specs.ReplayMeaning.{HasNoReleases}
use Rattle.ats_command_input.specs.declared.status.Status.{Status}
use Rattle.ats_command_input.specs.declared.status.Status.TheVariants.{Done, Input, Refused}

-- two files of these bytes declare this network and these releases, by which every node keeps its buckets, and the
-- text gives their number
pub record AreKept (net schedule net_bytes schedule_bytes text : List ℕ) (network : DeclaredNetwork)
    (releases : List Release) : Type 0 where
  pub network_declared : network_in net net_bytes ≡ Ok network
  pub releases_declared : releases_in network schedule schedule_bytes ≡ Ok releases
  pub rules : IsNetwork network
  pub keeps : AllKeepBuckets network releases
  pub written : text ≡ conforms_text (length releases)

-- they declare this network and these releases, by which some node does not keep its buckets, and the text says how
-- the first frame breaks what its sender declares
pub record AreBroken (net schedule net_bytes schedule_bytes text : List ℕ) (network : DeclaredNetwork)
    (releases : List Release) (broken : Broken) : Type 0 where
  pub network_declared : network_in net net_bytes ≡ Ok network
  pub releases_declared : releases_in network schedule schedule_bytes ≡ Ok releases
  pub rules : IsNetwork network
  pub breaks : Breaks network releases broken
  pub not_kept : ¬ AllKeepBuckets network releases
  pub written : text ≡ refused_text (broken_text broken)

-- what an answer to `conform NET SCHEDULE` says of the bytes of both files, by its text and status; four statuses never
-- come
abbrev pub ConformSays : List ℕ → List ℕ → List ℕ → List ℕ → List ℕ → Status → Type 0
ConformSays net schedule net_bytes schedule_bytes text Done =
    (network : DeclaredNetwork) × (releases : List Release)
    × AreKept net schedule net_bytes schedule_bytes text network releases
ConformSays net schedule net_bytes schedule_bytes text Refused =
    (network : DeclaredNetwork) × (releases : List Release) × (broken : Broken)
    × AreBroken net schedule net_bytes schedule_bytes text network releases broken
ConformSays net schedule net_bytes schedule_bytes text Input =
    IsErr (network_in net net_bytes)
    ⊎ ((network : DeclaredNetwork) × HasNoReleases net schedule net_bytes schedule_bytes network)
ConformSays net schedule net_bytes schedule_bytes text status = ⊥

-- so for all file words and bytes, and each answer
abbrev pub ConformMeans : Type 0
ConformMeans = (net schedule net_bytes schedule_bytes : List ℕ) (answer : Answer)
    → IsConformAnswer net schedule net_bytes schedule_bytes answer
    → ConformSays net schedule net_bytes schedule_bytes answer.text answer.status

use Rattle.std.specs.Prelude.{◌≡◌, ◌↔◌, ℕ, ◌<◌, ◌⊎◌, List, length, Option, Some, Ok, IsErr, slice_index_or}
use Rattle.ats_bucket.specs.Conforming.{Conforms}
use Rattle.ats_network.specs.Network.{DeclaredNetwork, IsNetwork}
use Rattle.ats_network.specs.Senders.{sender_at}
use Rattle.ats_trace.specs.Talker.{frames_of}
use Rattle.ats_trace.specs.declared.journey.Release.{Release}
use Rattle.ats_conform.specs.Releases.{AllKeepBuckets}
use Rattle.ats_fit.specs.Measured.{AreMeasured}
use Rattle.ats_fit.specs.Over.{senders_over}
use Rattle.ats_fit.specs.declared.measured.Measured.{Measured}
use Rattle.ats_fit_text.specs.Text.{fit_text}
use Rattle.ats_command_input.specs.Answer.{Answer}
use Rattle.ats_command_input.specs.Command.{Conform, Fit}
use Rattle.ats_command_input.specs.Input.{network_in, releases_in}
use Rattle.ats_command_due.specs.Due.{IsDueAnswer, IsFitAnswer, told_bytes}
use Rattle.ats_command_law.specs.ReplayMeaning.{HasNoReleases}
use Rattle.ats_command_input.specs.declared.status.Status.{Status}
use Rattle.ats_command_input.specs.declared.status.Status.TheVariants.{Done, Input}

-- a number that is measured of a stream: with this burst its releases conform to its declared rate, and with no bit
-- less do they
pub record IsJustEnough (network : DeclaredNetwork) (releases : List Release) (i burst : ℕ) : Type 0 where
  pub enough : Conforms (sender_at network i).rate burst (frames_of i releases)
  pub no_less : (less : ℕ) → less < burst → ¬ Conforms (sender_at network i).rate less (frames_of i releases)

-- each stream has one among what is measured
abbrev pub StreamsHaveBursts : DeclaredNetwork → List Release → List Measured → Type 0
StreamsHaveBursts network releases measured = (i : ℕ) (d : Measured) → i < length network.streams
    → (burst : ℕ) × ((slice_index_or measured i d).burst_bits ≡ Some burst) × IsJustEnough network releases i burst

-- two files of these bytes declare this network and these releases. The text gives what is measured of the releases of
-- each sender, in order, and how many senders are over what they declare: none exactly where every node keeps its
-- buckets
pub record IsFitOf (net schedule net_bytes schedule_bytes text : List ℕ) (network : DeclaredNetwork)
    (releases : List Release) (measured : List Measured) : Type 0 where
  pub network_declared : network_in net net_bytes ≡ Ok network
  pub releases_declared : releases_in network schedule schedule_bytes ≡ Ok releases
  pub rules : IsNetwork network
  pub are_measured : AreMeasured network releases measured
  pub bursts : StreamsHaveBursts network releases measured
  pub none_over : (senders_over network measured ≡ 0) ↔ AllKeepBuckets network releases
  pub written : text ≡ fit_text network releases measured

-- what an answer to `fit NET SCHEDULE` says of the bytes of both files, by its text and status; five statuses never
-- come
abbrev pub FitSays : List ℕ → List ℕ → List ℕ → List ℕ → List ℕ → Status → Type 0
FitSays net schedule net_bytes schedule_bytes text Done =
    (network : DeclaredNetwork) × (releases : List Release) × (measured : List Measured)
    × IsFitOf net schedule net_bytes schedule_bytes text network releases measured
FitSays net schedule net_bytes schedule_bytes text Input =
    IsErr (network_in net net_bytes)
    ⊎ ((network : DeclaredNetwork) × HasNoReleases net schedule net_bytes schedule_bytes network)
FitSays net schedule net_bytes schedule_bytes text status = ⊥

-- so for all words and bytes, and each answer
abbrev pub FitMeans : Type 0
FitMeans = (net schedule net_bytes schedule_bytes : List ℕ) (answer : Answer)
    → IsFitAnswer net schedule net_bytes schedule_bytes answer
    → FitSays net schedule net_bytes schedule_bytes answer.text answer.status

-- where Done is due to `fit NET SCHEDULE`, its text tells of no sender that is over what it declares exactly where Done
-- is due to `conform NET SCHEDULE`
abbrev pub FitAgreesWithConform : Type 0
FitAgreesWithConform = (told : List ℕ → Option (List ℕ)) (net schedule text : List ℕ) (judged : Answer)
    → IsDueAnswer told (Fit net schedule) (record { status = Done; text = text })
    → IsDueAnswer told (Conform net schedule) judged
    → (network : DeclaredNetwork) × (releases : List Release) × (measured : List Measured)
    × IsFitOf net schedule (told_bytes told net) (told_bytes told schedule) text network releases measured
    × ((senders_over network measured ≡ 0) ↔ (judged.status ≡ Done))

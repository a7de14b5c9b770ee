use Rattle.std.specs.Prelude.{◌≡◌, ℕ, ◌<◌, ◌≤◌, List, Some, Ok, IsErr}
use Rattle.ats_network.specs.Network.{DeclaredNetwork, IsNetwork}
use Rattle.ats_network.specs.Senders.{sender_at}
use Rattle.ats_certificate.specs.Certificate.{Holds}
use Rattle.ats_certificate.specs.declared.row.Row.{Row}
use Rattle.ats_bound.specs.Least.{least_certificate}
use Rattle.ats_trace.specs.Journey.{Travel}
use Rattle.ats_trace.specs.Run.{IsIdeal, releases_of}
use Rattle.ats_trace.specs.Ways.{listener_count}
use Rattle.ats_trace.specs.declared.journey.Release.{Release}
use Rattle.ats_conform.specs.Releases.{AllKeepBuckets}
use Rattle.ats_gen.specs.Made.{AreMade, gen_fault}
use Rattle.ats_gen.specs.declared.fault.GenFault.{GenFault}
use Rattle.ats_replay.specs.Report.{bound_of}
use Rattle.ats_replay.specs.Summary.{summary_for}
use Rattle.ats_verdict_text.specs.Text.{refused_text}
use Rattle.ats_command_input.specs.Answer.{Answer}
use Rattle.ats_command_input.specs.Input.{network_in}
use Rattle.ats_command_law.specs.ConformBounds.{AllDelaysAreWithin}
use Rattle.ats_command_due.specs.Due.{IsGenerateAnswer}
use Rattle.ats_command_due.specs.Generated.{IsReport, gen_fault_text, least_sums}
use Rattle.ats_command_input.specs.declared.status.Status.{Status}
use Rattle.ats_command_input.specs.declared.status.Status.TheVariants.{Done, Input, Refused}

-- where some certificate of the network holds, each frame of each stream is within the least bounds, at each listener
abbrev pub AreWithinLeast : DeclaredNetwork → List Travel → Type 0
AreWithinLeast network run = ((rows : List Row) × Holds network rows)
    → AllDelaysAreWithin network (least_certificate network) run

-- of each sender and each of its listeners the worst delay that `report_text` writes is at most the bound that it
-- writes beside it, where it writes one
abbrev pub EachWorstIsWithin : DeclaredNetwork → List Travel → Type 0
EachWorstIsWithin network run = (sender listener bound : ℕ)
    → listener < listener_count (sender_at network sender)
    → bound_of network (least_sums network) sender listener ≡ Some bound
    → (summary_for network run sender listener).worst.0 ≤ bound

-- so it is of each legal run in which all nodes read true time, with releases by which every node keeps its buckets
abbrev pub PrintedWorstIsWithin : Type 0
PrintedWorstIsWithin = (network : DeclaredNetwork) (run : List Travel) → IsNetwork network → IsIdeal network run
    → AllKeepBuckets network (releases_of run) → EachWorstIsWithin network run

-- a file of these bytes declares this network; these are the releases of so many frames that are made for it from the
-- seed, by which every node keeps its buckets; and the text sums up this run of them, in which the printed
-- worst delay for each listener is within the bound beside it
pub record IsMadeRun (net bytes : List ℕ) (seed count : ℕ) (text : List ℕ) (network : DeclaredNetwork)
    (releases : List Release) (run : List Travel) : Type 0 where
  pub declared : network_in net bytes ≡ Ok network
  pub rules : IsNetwork network
  pub made : AreMade network seed count releases
  pub keeps : AllKeepBuckets network releases
  pub report : IsReport network releases text run
  pub within : AreWithinLeast network run
  pub worst : EachWorstIsWithin network run

-- it declares this network, for which none are made, and the text says why
pub record HasNoneMade (net bytes : List ℕ) (seed count : ℕ) (text : List ℕ) (network : DeclaredNetwork)
    (fault : GenFault) : Type 0 where
  pub declared : network_in net bytes ≡ Ok network
  pub rules : IsNetwork network
  pub none_made : gen_fault network seed count ≡ Some fault
  pub written : text ≡ refused_text (gen_fault_text fault)

-- what an answer to `generate NET SEED COUNT` says of the bytes of the file, by its text and status; four statuses
-- never come
abbrev pub GenerateSays : List ℕ → List ℕ → ℕ → ℕ → List ℕ → Status → Type 0
GenerateSays net bytes seed count text Done =
    (network : DeclaredNetwork) × (releases : List Release) × (run : List Travel)
    × IsMadeRun net bytes seed count text network releases run
GenerateSays net bytes seed count text Input = IsErr (network_in net bytes)
GenerateSays net bytes seed count text Refused =
    (network : DeclaredNetwork) × (fault : GenFault) × HasNoneMade net bytes seed count text network fault
GenerateSays net bytes seed count text status = ⊥

-- so for all file words and bytes, seeds and counts, and each answer
abbrev pub GenerateMeans : Type 0
GenerateMeans = (net bytes : List ℕ) (seed count : ℕ) (answer : Answer)
    → IsGenerateAnswer net seed count bytes answer → GenerateSays net bytes seed count answer.text answer.status

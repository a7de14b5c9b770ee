use Rattle.std.specs.Prelude.{ℕ, ◌↔◌, List}
use Rattle.ats_network.specs.Network.{DeclaredNetwork, IsNetwork}
use Rattle.ats_certificate.specs.Certificate.{Holds}
use Rattle.ats_certificate.specs.declared.row.Row.{Row}
use Rattle.ats_trace.specs.Journey.{Travel}
use Rattle.ats_trace.specs.Run.{IsLegalBy}
use Rattle.ats_trace.specs.Talker.{KeepsBucketsBy}
use Rattle.ats_trace.specs.declared.journey.Release.{Release}
use Rattle.ats_soundness_law.specs.Rules.{Rule, Keeps}
use Rattle.ats_soundness_law.specs.Runs.{in_true_time}
use Rattle.ats_soundness_law.specs.Sound.{IsSoundBy}
use Rattle.ats_lrq.specs.Judge.{lrq_judge, spacing_rule}
use Rattle.ats_lrq.specs.Narrow.{narrowed}

-- a network with narrowed bursts is a network
abbrev pub NarrowedIsNetwork : Type 0
NarrowedIsNetwork = (network : DeclaredNetwork) → IsNetwork network → IsNetwork (narrowed network)

-- a run in which length-rate-quotient regulators judge is legal on a network exactly where it is with narrowed bursts
abbrev pub RunsAreKept : Type 0
RunsAreKept = (network : DeclaredNetwork) (run : List Travel)
    → IsLegalBy lrq_judge (narrowed network) run ↔ IsLegalBy lrq_judge network run

-- and a node keeps its spacing exactly where it does with narrowed bursts
abbrev pub TalkersAreKept : Type 0
TalkersAreKept = (network : DeclaredNetwork) (releases : List Release) (node : ℕ)
    → KeepsBucketsBy spacing_rule (narrowed network) releases node
    ↔ KeepsBucketsBy spacing_rule network releases node

-- where rows keep each of the ten rules, they are sound for these regulators and spaced talkers
abbrev pub SoundBySpacing : Type 0
SoundBySpacing = (network : DeclaredNetwork) (rows : List Row) → IsNetwork network
    → ((ten : Rule) → Keeps ten network rows) → IsSoundBy (in_true_time lrq_judge spacing_rule) network rows

-- so a certificate that holds with narrowed bursts is sound for these regulators and spaced talkers, in the runs of the
-- network as it is declared
abbrev pub NarrowedIsSound : Type 0
NarrowedIsSound = (network : DeclaredNetwork) (rows : List Row) → IsNetwork network → Holds (narrowed network) rows
    → IsSoundBy (in_true_time lrq_judge spacing_rule) network rows

use Rattle.std.specs.Prelude.{◌≡◌, ℕ, List, Option, Some, Contains, slice_get}
use Rattle.ats_network.specs.Network.{DeclaredNetwork}
use Rattle.ats_verdict_text.specs.Stream.{DeclaredStream}
use Rattle.ats_certificate.specs.declared.row.Row.{Row}
use Rattle.ats_trace.specs.Journey.{Travel}
use Rattle.ats_trace.specs.declared.journey.Release.{Release}
use Rattle.ats_conform.specs.Releases.{AllKeepBuckets}
use Rattle.ats_command_input.specs.Command.{Check, Conform, Replay}
use Rattle.ats_command_input.specs.declared.order.Order.{Order}
use Rattle.ats_command_input.specs.declared.status.Status.TheVariants.{Done}
use Rattle.ats_command_due.specs.Due.{IsDueAnswer}
use Rattle.ats_command_law.specs.ReplayMeaning.{AreTextsOf, IsWithinBounds}

-- each frame of a stream is within the bounds of these rows, whichever
abbrev pub AllDelaysAreWithin : DeclaredNetwork → List Row → List Travel → Type 0
AllDelaysAreWithin network rows run = (journey : Travel) → Contains run journey → (stream : DeclaredStream)
    → slice_get network.streams journey.release.sender ≡ Some stream → IsWithinBounds network rows stream journey

-- a network, a certificate and a schedule are told, by whose releases every node keeps its buckets: the first text
-- gives the bounds and sums of these rows, the second the journeys of this run, and all its delays are within them
pub record AreTextsWithin (told : List ℕ → Option (List ℕ)) (net certificate schedule : List ℕ) (order : Order)
    (checked replayed : List ℕ) (network : DeclaredNetwork) (rows : List Row) (releases : List Release)
    (run : List Travel) : Type 0 where
  pub texts : AreTextsOf told net certificate schedule order checked replayed network rows releases run
  pub keeps : AllKeepBuckets network releases
  pub within : AllDelaysAreWithin network rows run

-- where Done is due to `conform NET SCHEDULE`, to `check NET CERT` and to `replay NET SCHEDULE ORDER`, all delays that
-- the third prints of streams are within what the second prints
abbrev pub ConformKeepsBounds : Type 0
ConformKeepsBounds = (told : List ℕ → Option (List ℕ)) (net certificate schedule : List ℕ) (order : Order)
    (conformed checked replayed : List ℕ)
    → IsDueAnswer told (Conform net schedule) (record { status = Done; text = conformed })
    → IsDueAnswer told (Check net certificate) (record { status = Done; text = checked })
    → IsDueAnswer told (Replay net schedule order) (record { status = Done; text = replayed })
    → (network : DeclaredNetwork) × (rows : List Row) × (releases : List Release) × (run : List Travel)
    × AreTextsWithin told net certificate schedule order checked replayed network rows releases run

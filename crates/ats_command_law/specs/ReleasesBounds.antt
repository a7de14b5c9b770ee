use Rattle.std.specs.Prelude.{◌≡◌, ℕ, List, Option, Some, Ok}
use Rattle.ats_network.specs.Network.{DeclaredNetwork}
use Rattle.ats_certificate.specs.declared.row.Row.{Row}
use Rattle.ats_trace.specs.Journey.{Travel}
use Rattle.ats_conform.specs.Releases.{AllKeepBuckets}
use Rattle.ats_pcap.specs.declared.record.Record.{Record}
use Rattle.ats_capture.specs.Traffic.{Traffic}
use Rattle.ats_command_input.specs.Command.{Capture, Check, Conform, Releases, Replay}
use Rattle.ats_command_input.specs.declared.order.Order.{Order}
use Rattle.ats_command_input.specs.declared.status.Status.TheVariants.{Done}
use Rattle.ats_command_due.specs.Due.{IsDueAnswer, told_bytes}
use Rattle.ats_command_due.specs.Replayed.{scheduled_in}
use Rattle.ats_command_law.specs.CaptureMeaning.{IsCapturedRun}
use Rattle.ats_command_law.specs.ConformBounds.{AllDelaysAreWithin, AreTextsWithin}
use Rattle.ats_command_law.specs.Meaning.{IsAccepted}
use Rattle.ats_command_law.specs.ReleasesMeaning.{AreReleased}

-- What other commands make of the text that `releases` prints, where it is told under a name.

-- Done is due to `releases NET STATION FILE`, and its text is told under the name of a schedule
pub record IsToldOn (told : List ℕ → Option (List ℕ)) (net station file schedule released : List ℕ) : Type 0 where
  pub due : IsDueAnswer told (Releases net station file) (record { status = Done; text = released })
  pub told_on : told schedule ≡ Some released

-- so the network and the schedule are this network and the releases of this traffic to each command that reads both:
-- what it says of the schedule it says of the capture
abbrev pub ReleasedIsScheduled : Type 0
ReleasedIsScheduled = (told : List ℕ → Option (List ℕ)) (net station file schedule released : List ℕ)
    → IsToldOn told net station file schedule released
    → (network : DeclaredNetwork) × (place : ℕ) × (records : List Record) × (traffic : Traffic)
    × AreReleased net station file (told_bytes told net) (told_bytes told file) released network place records traffic
    × (scheduled_in net schedule (told_bytes told net) (told_bytes told schedule)
    ≡ Ok (record { network = network; releases = traffic.releases }))

-- a network, a certificate and a capture are told, by whose releases every node keeps its buckets: the first text
-- gives the bounds and sums of these rows, the second the journeys of this run of the capture, and all its delays are
-- within them
pub record IsCaptureWithin (told : List ℕ → Option (List ℕ)) (net certificate station file : List ℕ) (order : Order)
    (checked captured : List ℕ) (network : DeclaredNetwork) (rows : List Row) (place : ℕ) (records : List Record)
    (traffic : Traffic) (run : List Travel) : Type 0 where
  pub accepted :
      IsAccepted net certificate (told_bytes told net) (told_bytes told certificate) checked network rows
  pub of_capture : IsCapturedRun net station file (told_bytes told net) (told_bytes told file) order captured network
      place records traffic run
  pub keeps : AllKeepBuckets network traffic.releases
  pub within : AllDelaysAreWithin network rows run

-- where Done is due to `releases`, to `conform` of its text, to `check`, and to `capture`, or to `replay` of that text,
-- all delays of streams that the last prints are within what `check` prints
pub record ReleasesKeepBounds : Type 0 where
  pub capture : (told : List ℕ → Option (List ℕ)) (net certificate station file schedule : List ℕ) (order : Order)
      (released conformed checked captured : List ℕ) → IsToldOn told net station file schedule released
      → IsDueAnswer told (Conform net schedule) (record { status = Done; text = conformed })
      → IsDueAnswer told (Check net certificate) (record { status = Done; text = checked })
      → IsDueAnswer told (Capture net station file order) (record { status = Done; text = captured })
      → (network : DeclaredNetwork) × (rows : List Row) × (place : ℕ) × (records : List Record) × (traffic : Traffic)
      × (run : List Travel)
      × IsCaptureWithin told net certificate station file order checked captured network rows place records traffic run
  pub replay : (told : List ℕ → Option (List ℕ)) (net certificate station file schedule : List ℕ) (order : Order)
      (released conformed checked replayed : List ℕ) → IsToldOn told net station file schedule released
      → IsDueAnswer told (Conform net schedule) (record { status = Done; text = conformed })
      → IsDueAnswer told (Check net certificate) (record { status = Done; text = checked })
      → IsDueAnswer told (Replay net schedule order) (record { status = Done; text = replayed })
      → (network : DeclaredNetwork) × (rows : List Row) × (place : ℕ) × (records : List Record) × (traffic : Traffic)
      × (run : List Travel)
      × AreReleased net station file (told_bytes told net) (told_bytes told file) released network place records
      traffic
      × AreTextsWithin told net certificate schedule order checked replayed network rows traffic.releases run

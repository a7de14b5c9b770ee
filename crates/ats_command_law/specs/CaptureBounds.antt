use Rattle.std.specs.Prelude.{◌≡◌, ℕ, List, Option, Some, Contains, slice_get}
use Rattle.ats_network.specs.Network.{DeclaredNetwork}
use Rattle.ats_certificate.specs.declared.row.Row.{Row}
use Rattle.ats_trace.specs.Journey.{Travel}
use Rattle.ats_trace.specs.Talker.{talker_of, KeepsBuckets}
use Rattle.ats_trace.specs.declared.journey.Release.{Release}
use Rattle.ats_pcap.specs.declared.record.Record.{Record}
use Rattle.ats_capture.specs.Traffic.{Traffic}
use Rattle.ats_verdict_text.specs.Stream.{DeclaredStream}
use Rattle.ats_command_input.specs.Command.{Capture, Check}
use Rattle.ats_command_input.specs.declared.order.Order.{Order}
use Rattle.ats_command_input.specs.declared.status.Status.TheVariants.{Done}
use Rattle.ats_command_due.specs.Due.{IsDueAnswer, told_bytes}
use Rattle.ats_command_law.specs.Meaning.{IsAccepted}
use Rattle.ats_command_law.specs.CaptureMeaning.{IsCapturedRun}
use Rattle.ats_command_law.specs.ReplayMeaning.{IsWithinBounds}

-- each frame of a stream whose talker keeps its buckets in these releases is within the bounds of these rows. Nothing
-- is asked of bridges: the releases of a capture are all of one station's streams
abbrev pub CapturedAreWithin : DeclaredNetwork → List Row → List Release → List Travel → Type 0
CapturedAreWithin network rows releases run = (journey : Travel) → Contains run journey → (stream : DeclaredStream)
    → slice_get network.streams journey.release.sender ≡ Some stream
    → KeepsBuckets network releases (talker_of network journey.release.sender)
    → IsWithinBounds network rows stream journey

-- where Done is due to `check NET CERT` and to `capture NET STATION FILE ORDER`, what the second prints of each frame
-- of a stream whose talker keeps its buckets in the releases of the capture is within what the first prints
abbrev pub CaptureKeepsBounds : Type 0
CaptureKeepsBounds = (told : List ℕ → Option (List ℕ)) (net certificate station file : List ℕ) (order : Order)
    (checked captured : List ℕ)
    → IsDueAnswer told (Check net certificate) (record { status = Done; text = checked })
    → IsDueAnswer told (Capture net station file order) (record { status = Done; text = captured })
    → (network : DeclaredNetwork) × (rows : List Row) × (place : ℕ) × (records : List Record) × (traffic : Traffic)
    × (run : List Travel)
    × IsAccepted net certificate (told_bytes told net) (told_bytes told certificate) checked network rows
    × IsCapturedRun net station file (told_bytes told net) (told_bytes told file) order captured network place records
    traffic run
    × CapturedAreWithin network rows traffic.releases run

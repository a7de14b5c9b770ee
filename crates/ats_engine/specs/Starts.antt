use Rattle.std.specs.Prelude.{◌≡◌, ℕ, ◌+◌, List, length, take, None, IsPermutation}
use Rattle.ats_events.specs.Contents.{Contents}
use Rattle.ats_network.specs.Network.{DeclaredNetwork}
use Rattle.ats_trace.specs.declared.journey.Release.{Release}
use Rattle.ats_run_records.specs.Progress.{opened}
use Rattle.ats_engine_steps.specs.declared.event.Event.{Event}
use Rattle.ats_engine_proofs.specs.Opened.{released_from}

-- an agenda with the arrivals of the first so many frames at their talkers, and room for an entry of each leg of a
-- frame and each port
pub record AreReleasedTo {O : Type 0} (network : DeclaredNetwork) (releases : List Release) (order : O) (count : ℕ)
    (agenda : Contents O Event) : Type 0 where
  pub entries : IsPermutation (released_from 0 (take count releases)) agenda.entries
  pub capacity : agenda.capacity ≡ length (opened network releases).legs + length network.topology.ports
  pub ordered : agenda.order ≡ order
  pub last : agenda.last ≡ None

-- of all frames
abbrev pub AreReleased : {O : Type 0} → DeclaredNetwork → List Release → O → Contents O Event → Type 0
AreReleased network releases order agenda = AreReleasedTo network releases order (length releases) agenda

use Rattle.std.specs.Prelude.{◌≡◌, ℕ, List, Some, Result, Ok}
use Rattle.ats_network.specs.Network.{DeclaredNetwork}
use Rattle.ats_certificate.specs.declared.row.Row.{Row}
use Rattle.ats_trace.specs.Journey.{Travel}
use Rattle.ats_trace.specs.declared.journey.Release.{Release}
use Rattle.ats_buffer.specs.Buffer.{buffers_of}
use Rattle.ats_buffer.specs.Occupancy.{ArePeaks}
use Rattle.ats_buffer_text.specs.Text.{buffers_text}
use Rattle.ats_num.specs.Failure.{◌>>=◌}
use Rattle.ats_command_input.specs.Answer.{Answer}
use Rattle.ats_command_input.specs.Input.{network_in, releases_in, rows_in}
use Rattle.ats_command_input.specs.declared.order.Order.{Order}
use Rattle.ats_command_due.specs.Judged.{unless_refused}
use Rattle.ats_command_due.specs.Replayed.{IsRunIn}

-- a network, the rows of a certificate for it, and what is to be run on it
pub record Held : Type 0 where
  pub network : DeclaredNetwork
  pub rows : List Row
  pub releases : List Release

abbrev pub held : DeclaredNetwork → List Row → List Release → Held
held network rows releases = record { network = network; rows = rows; releases = releases }

-- a run in this order with exactly these releases, the peaks of the rows in it, and a text that prints each row's
-- buffer and its peak
pub record IsHeldRun (order : Order) (h : Held) (text : List ℕ) (run : List Travel) (peaks : List ℕ) : Type 0 where
  pub is_run : IsRunIn order h.network h.releases run
  pub are_peaks : ArePeaks h.network run h.rows peaks
  pub written : text ≡ buffers_text h.network.topology h.rows (buffers_of h.network h.rows) (Some peaks)

-- a text is that of some such run
abbrev pub IsHeldText : Order → Held → List ℕ → Type 0
IsHeldText order h text = (run : List Travel) × (peaks : List ℕ) × IsHeldRun order h text run peaks

-- what a schedule's file of these bytes declares to be run, unless it has a fault or the certificate does not hold
abbrev pub held_judged : DeclaredNetwork → List Row → List ℕ → List ℕ → Result Held Answer
held_judged network rows schedule bytes = do
  releases ← releases_in network schedule bytes
  unless_refused network rows (held network rows releases)

-- what three files of these bytes declare, or the answer to the first fault: the network's is judged first, then the
-- certificate's, then the schedule's, and then whether the certificate holds
unfoldable pub held_in : List ℕ → List ℕ → List ℕ → List ℕ → List ℕ → List ℕ → Result Held Answer
held_in net certificate schedule net_bytes certificate_bytes schedule_bytes = do
  network ← network_in net net_bytes
  rows ← rows_in network.topology certificate certificate_bytes
  held_judged network rows schedule schedule_bytes

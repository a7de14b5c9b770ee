use Rattle.std.specs.Prelude.{◌≡◌, ◌↔◌, ℕ, List, length, slice_get, slice_index_or, Some}
use Rattle.ats_network.specs.Edits.{no_stream}
use Rattle.ats_network.specs.Network.{DeclaredNetwork}
use Rattle.ats_network.specs.Sender.{stream_sender}
use Rattle.ats_network.specs.Senders.{sender_at}
use Rattle.ats_certificate.specs.Certificate.{bound_on}
use Rattle.ats_bound.specs.Least.{least_certificate}
use Rattle.ats_trace.specs.Ways.{listener_count, route_to}
use Rattle.ats_witness.specs.Found.{FoundDelays}
use Rattle.ats_witness_text.specs.Text.{witness_text}
use Rattle.ats_command_due.specs.Witnessed.{IsWitnessOf, IsWitnessText, IsWitnessed, witnessed}
use Rattle.ats_answer_law.specs.RunMeaning.{AreShown}

-- What a text comes to that is due to `witness`, both ways.

-- the sum of a stream's least bounds along the route to the listener with a number
abbrev pub least_bound_to : DeclaredNetwork → ℕ → ℕ → ℕ
least_bound_to network stream listener =
    bound_on (least_certificate network) (slice_index_or network.streams stream no_stream)
    (route_to (stream_sender (slice_index_or network.streams stream no_stream)) listener)

-- something is found for each listener of a stream: for the one with each number what the runs of the bursts along the
-- route there show; and the text writes that, beside the sum of the least bounds along the route to each
pub record AreAllShown (network : DeclaredNetwork) (stream : ℕ) (text : List ℕ) (founds : List FoundDelays) : Type 0
  where
    pub one_each : length founds ≡ listener_count (sender_at network stream)
    pub each : (listener : ℕ) (found : FoundDelays) → slice_get founds listener ≡ Some found
        → AreShown network stream listener found
    pub written : text ≡ witness_text network stream founds (least_bound_to network stream)

-- a text that is due is just that of some such. Refuses delays that can happen and that no run of the burst at the hop
-- shows, as that of a frame which nothing delays
pub record WitnessesAreMeant : Type 0 where
  pub parts : (network : DeclaredNetwork) (stream : ℕ) (text : List ℕ) (founds : List FoundDelays)
      → IsWitnessOf network stream text founds ↔ AreAllShown network stream text founds
  pub some : (network : DeclaredNetwork) (stream : ℕ) (text : List ℕ) → IsWitnessText network stream text
      ↔ ((founds : List FoundDelays) × AreAllShown network stream text founds)
  pub due : (network : DeclaredNetwork) (stream : ℕ) (text : List ℕ) → IsWitnessed (witnessed network stream) text
      ↔ ((founds : List FoundDelays) × AreAllShown network stream text founds)

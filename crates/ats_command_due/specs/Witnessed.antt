use Rattle.std.specs.Prelude.{◌≡◌, ℕ, List, Result, slice_index_or}
use Rattle.std.specs.List.{AllZip, range_with_len}
use Rattle.std.specs.Option.{option_map}
use Rattle.ats_network.specs.Edits.{no_stream}
use Rattle.ats_network.specs.Network.{DeclaredNetwork}
use Rattle.ats_network.specs.Senders.{sender_at}
use Rattle.ats_bound.specs.Least.{least_certificate}
use Rattle.ats_bound.specs.Reason.{reason_of}
use Rattle.ats_trace.specs.Ways.{listener_count}
use Rattle.ats_verdict_text.specs.Text.{reason_text}
use Rattle.ats_witness_text.specs.Found.{AreFound, FoundDelays, bound_for}
use Rattle.ats_witness_text.specs.Text.{witness_text}
use Rattle.ats_num.specs.Failure.{◌>>=◌}
use Rattle.ats_command_input.specs.Answer.{Answer}
use Rattle.ats_command_input.specs.Input.{network_in}
use Rattle.ats_command_input.specs.Stream.{stream_in}
use Rattle.ats_command_due.specs.Judged.{judged}

-- the sum of the least bounds of a stream along the route to one of its listeners, both by their numbers
abbrev pub least_sum : DeclaredNetwork → ℕ → ℕ → ℕ
least_sum network stream listener =
    bound_for (least_certificate network) (slice_index_or network.streams stream no_stream) listener

-- what is found of a stream for each of its listeners, one by one
abbrev pub AreFoundForEach : DeclaredNetwork → ℕ → List FoundDelays → Type 0
AreFoundForEach network stream founds =
    AllZip (AreFound network stream) (range_with_len 0 (listener_count (sender_at network stream))) founds

-- delays that are found of a stream for each of its listeners, and a text that writes them, beside the sum of the
-- stream's least bounds along the route to each
pub record IsWitnessOf (network : DeclaredNetwork) (stream : ℕ) (text : List ℕ) (founds : List FoundDelays) : Type 0
  where
    pub are_found : AreFoundForEach network stream founds
    pub written : text ≡ witness_text network stream founds (least_sum network stream)

-- a text is that of some such delays
abbrev pub IsWitnessText : DeclaredNetwork → ℕ → List ℕ → Type 0
IsWitnessText network stream text = (founds : List FoundDelays) × IsWitnessOf network stream text founds

-- a network, and the number of one of its streams
pub record Witnessed : Type 0 where
  pub network : DeclaredNetwork
  pub stream : ℕ

abbrev pub witnessed : DeclaredNetwork → ℕ → Witnessed
witnessed network stream = record { network = network; stream = stream }

-- the same of these
abbrev pub IsWitnessed : Witnessed → List ℕ → Type 0
IsWitnessed w text = IsWitnessText w.network w.stream text

-- a stream of a network, unless no certificate of the network holds
unfoldable pub witness_judged : DeclaredNetwork → ℕ → Result Witnessed Answer
witness_judged network stream =
    judged (witnessed network stream) (option_map (reason_text network.topology) (reason_of network))

-- the stream that a word names in the network that a file of these bytes declares, or the answer to the first fault:
-- the network's is judged first, then the word, and then whether some certificate of the network holds
unfoldable pub witnessed_in : List ℕ → List ℕ → List ℕ → Result Witnessed Answer
witnessed_in net name bytes = do
  network ← network_in net bytes
  stream ← stream_in network.streams name
  witness_judged network stream

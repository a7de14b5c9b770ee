use Rattle.std.specs.Prelude.{◌≡◌, ℕ, ◌-◌, ◌==◌, List, [], ◌++◌, codes, decimal, Some, None, slice_index}
use Rattle.std.specs.Prelude.{if◌then◌else◌}
use Rattle.std.specs.List.{enumerate_from, flat_map, zip}
use Rattle.ats_network.specs.Listeners.{station_of}
use Rattle.ats_network.specs.Network.{DeclaredNetwork}
use Rattle.ats_network.specs.Senders.{sender_at}
use Rattle.ats_trace.specs.Ways.{route_to}
use Rattle.ats_witness.specs.Found.{FoundDelays}
use Rattle.ats_witness_text.specs.Text.{found_text, hop_line, release_line, station_at, title_line, witness_line}
use Rattle.ats_witness_text.specs.Text.{witness_text}

-- What is told of what is found, whichever stream and listener it is of.

-- how a listener's title and its last line call a stream of any name: by the name alone, or by this station behind it
pub record ListenersAreCalled : Type 0 where
  pub no_title : (name : List ℕ) → title_line name None ≡ []
  pub title : (name station : List ℕ)
      → title_line name (Some station) ≡ codes "listener " ++ (name ++ codes " " ++ station) ++ codes "\n"
  pub alone : (name : List ℕ) (delay bound : ℕ) → witness_line name None delay bound
      ≡ codes "witness " ++ name ++ codes " delay " ++ decimal delay ++ codes " bound " ++ decimal bound
      ++ codes " gap " ++ decimal (bound - delay) ++ codes "\n"
  pub with_station : (name station : List ℕ) (delay bound : ℕ) → witness_line name (Some station) delay bound
      ≡ codes "witness " ++ (name ++ codes " " ++ station) ++ codes " delay " ++ decimal delay ++ codes " bound "
      ++ decimal bound ++ codes " gap " ++ decimal (bound - delay) ++ codes "\n"

-- of any network: the name, the ports and the station are those of the stream itself that is asked for, and of its own
-- route to this listener. Refuses those of the first stream, or of the first listener, for all
pub record TextsAreOfTheirStream : Type 0 where
  pub called : ListenersAreCalled
  pub station : (network : DeclaredNetwork) (stream listener : ℕ) → station_at network stream listener
      ≡ (if listener == 0 then None
      else Some (station_of network.topology (route_to (sender_at network stream) listener)))
  pub text : (network : DeclaredNetwork) (stream listener : ℕ) (found : FoundDelays) (bound : ℕ)
      → found_text network stream listener found bound
      ≡ title_line (sender_at network stream).name (station_at network stream listener)
      ++ flat_map (hop_line network.topology) (zip (route_to (sender_at network stream) listener) found.delays)
      ++ flat_map (release_line network) found.releases
      ++ witness_line (sender_at network stream).name (station_at network stream listener)
      (slice_index found.delays found.hop) bound
  pub each : (network : DeclaredNetwork) (stream : ℕ) (founds : List FoundDelays) (bound : ℕ → ℕ)
      → witness_text network stream founds bound
      ≡ flat_map (λ (f : ℕ × FoundDelays). found_text network stream f.0 f.1 (bound f.0)) (enumerate_from 0 founds)

use Rattle.std.specs.Prelude.{◌≡◌, ℕ, suc, ◌-◌, ◌++◌, codes, decimal, slice_index}
use Rattle.std.specs.List.{flat_map, zip}
use Rattle.ats_network.specs.Listeners.{station_of}
use Rattle.ats_network.specs.Network.{DeclaredNetwork}
use Rattle.ats_network.specs.Senders.{sender_at}
use Rattle.ats_trace.specs.Ways.{route_to}
use Rattle.ats_witness.specs.Found.{FoundDelays}
use Rattle.ats_witness_text.specs.Text.{found_text, hop_line, release_line}

-- `witness` prints of a listener the delay at each port of its route, the releases that make the one at the hop that is
-- found, and how far this stands below the bound; of a further one behind a line with its station, and with its name in
-- the last line
pub record WitnessIsWritten : Type 0 where
  pub first : (network : DeclaredNetwork) (stream : ℕ) (found : FoundDelays) (bound : ℕ)
      → found_text network stream 0 found bound
      ≡ flat_map (hop_line network.topology) (zip (route_to (sender_at network stream) 0) found.delays)
      ++ flat_map (release_line network) found.releases
      ++ codes "witness " ++ (sender_at network stream).name
      ++ codes " delay " ++ decimal (slice_index found.delays found.hop) ++ codes " bound " ++ decimal bound
      ++ codes " gap " ++ decimal (bound - slice_index found.delays found.hop) ++ codes "\n"
  pub further : (network : DeclaredNetwork) (stream n : ℕ) (found : FoundDelays) (bound : ℕ)
      → found_text network stream (suc n) found bound
      ≡ codes "listener " ++ (sender_at network stream).name ++ codes " "
      ++ station_of network.topology (route_to (sender_at network stream) (suc n)) ++ codes "\n"
      ++ flat_map (hop_line network.topology) (zip (route_to (sender_at network stream) (suc n)) found.delays)
      ++ flat_map (release_line network) found.releases
      ++ codes "witness " ++ (sender_at network stream).name ++ codes " "
      ++ station_of network.topology (route_to (sender_at network stream) (suc n))
      ++ codes " delay " ++ decimal (slice_index found.delays found.hop) ++ codes " bound " ++ decimal bound
      ++ codes " gap " ++ decimal (bound - slice_index found.delays found.hop) ++ codes "\n"

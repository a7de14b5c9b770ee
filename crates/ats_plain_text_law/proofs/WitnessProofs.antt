use Rattle.std.proofs.Common.{◌≡◌, ◌∙◌, ℕ, suc, ◌-◌, Bool, List, ◌++◌, Option, Some, None, ap, append_assoc, arith}
use Rattle.std.specs.Prelude.{codes, decimal, if◌then◌else◌, slice_index}
use Rattle.std.specs.List.{flat_map, zip}
use Rattle.std.proofs.lemmas.Bool.{ne_eqb}
use Rattle.ats_network.specs.Listeners.{station_of}
use Rattle.ats_network.specs.Network.{DeclaredNetwork}
use Rattle.ats_network.specs.Senders.{sender_at}
use Rattle.ats_trace.specs.Ways.{route_to}
use Rattle.ats_witness.specs.Found.{FoundDelays}
use Rattle.ats_witness_text.specs.Text.{found_text, hop_line, release_line, title_line, witness_line}
use Rattle.ats_plain_text_law.specs.Witnesses.{WitnessIsWritten}

-- What `witness` prints.

-- texts in a row: a title, hops, releases, and the last line
rows : (title name space station break hops releases witness a b c d e f : List ℕ)
    → (title ++ (name ++ space ++ station) ++ break) ++ hops ++ releases
    ++ (witness ++ (name ++ space ++ station) ++ a ++ b ++ c ++ d ++ e ++ f ++ break)
    ≡ title ++ name ++ space ++ station ++ break ++ hops ++ releases ++ witness ++ name ++ space ++ station ++ a ++ b
    ++ c ++ d ++ e ++ f ++ break
rows title name space station break hops releases witness a b c d e f = simp append_assoc

rows_of_first : (hops releases witness name a b c d e f break : List ℕ)
    → hops ++ releases ++ (witness ++ name ++ a ++ b ++ c ++ d ++ e ++ f ++ break)
    ≡ hops ++ releases ++ witness ++ name ++ a ++ b ++ c ++ d ++ e ++ f ++ break
rows_of_first hops releases witness name a b c d e f break = simp append_assoc

-- what is told of a listener, by the station that it is told with
abbrev found_by : DeclaredNetwork → ℕ → ℕ → FoundDelays → ℕ → Option (List ℕ) → List ℕ
found_by network stream n found bound station =
    title_line (sender_at network stream).name station
    ++ flat_map (hop_line network.topology) (zip (route_to (sender_at network stream) n) found.delays)
    ++ flat_map (release_line network) found.releases
    ++ witness_line (sender_at network stream).name station (slice_index found.delays found.hop) bound

pub witness_is_written : WitnessIsWritten
unfolding title_line witness_line found_text
witness_is_written = record {
  first = λ network stream found bound.
      rows_of_first (flat_map (hop_line network.topology) (zip (route_to (sender_at network stream) 0) found.delays))
      (flat_map (release_line network) found.releases) (codes "witness ") (sender_at network stream).name
      (codes " delay ") (decimal (slice_index found.delays found.hop)) (codes " bound ") (decimal bound)
      (codes " gap ") (decimal (bound - slice_index found.delays found.hop)) (codes "\n");
  further = λ network stream n found bound.
      ap (λ (b : Bool). found_by network stream (suc n) found bound (if b then None
      else Some (station_of network.topology (route_to (sender_at network stream) (suc n)))))
      (ne_eqb (suc n) 0 (λ is. omega (arith, is)))
      ∙ rows (codes "listener ") (sender_at network stream).name (codes " ")
      (station_of network.topology (route_to (sender_at network stream) (suc n))) (codes "\n")
      (flat_map (hop_line network.topology) (zip (route_to (sender_at network stream) (suc n)) found.delays))
      (flat_map (release_line network) found.releases) (codes "witness ") (codes " delay ")
      (decimal (slice_index found.delays found.hop)) (codes " bound ") (decimal bound) (codes " gap ")
      (decimal (bound - slice_index found.delays found.hop));
}

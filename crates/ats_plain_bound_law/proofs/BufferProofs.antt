use Rattle.std.proofs.Common.{◌≡◌, ℕ, zero, suc, ◌<◌, ◌≤◌, List, [], ◌∷◌, length, slice_get, slice_index, Some}
use Rattle.std.proofs.Common.{refl, subst, arith}
use Rattle.std.proofs.lemmas.Option.{get_or_from_slice_get, none-some, slice_get-get_or}
use Rattle.ats_network.specs.Network.{DeclaredNetwork}
use Rattle.ats_certificate.specs.declared.row.Row.{Row}
use Rattle.ats_trace.specs.Journey.{Travel}
use Rattle.ats_buffer.specs.Occupancy.{ArePeaks, no_row, occupancy, row_at}
use Rattle.ats_plain_bound_law.specs.Buffers.{BuffersAreReckoned}

-- What is held at ports, and how much of it at most.

-- at some time so many bits are held in the place of a row, and at no time more
abbrev IsMost : DeclaredNetwork → List Travel → ℕ → Row → Type 0
IsMost network run peak row = ((time : ℕ) → occupancy network run row.port row.class time ≤ peak)
    × ((time : ℕ) × (occupancy network run row.port row.class time ≡ peak))

within : (rows : List Row) (n : ℕ) (row : Row) → slice_get rows n ≡ Some row → n < length rows
within [] n row is = absurd (none-some row is)
within (one ∷ rows) zero row is = omega arith
within (one ∷ rows) (suc n) row is = let rest = within rows n row is in omega (arith, rest)

abbrev Each : DeclaredNetwork → List Travel → List Row → List ℕ → Type 0
Each network run rows peaks = (length peaks ≡ length rows)
    × ((n : ℕ) (row : Row) → slice_get rows n ≡ Some row → IsMost network run (slice_index peaks n) row)

gives : (network : DeclaredNetwork) (run : List Travel) (rows : List Row) (peaks : List ℕ)
    → ArePeaks network run rows peaks → Each network run rows peaks
gives network run rows peaks are = (
  are.count,
  λ n row is. (
      let peak = are.each n (within rows n row is) in
      subst (IsMost network run (slice_index peaks n)) (get_or_from_slice_get rows n row no_row is)
      (peak.most, peak.reached)),
)

takes : (network : DeclaredNetwork) (run : List Travel) (rows : List Row) (peaks : List ℕ)
    → Each network run rows peaks → ArePeaks network run rows peaks
takes network run rows peaks are = record {
  count = are.0;
  each = λ n below. (
      let peak = are.1 n (row_at rows n) (slice_get-get_or rows n no_row below) in
      record { most = peak.0; reached = peak.1 });
}

pub buffers_are_reckoned : BuffersAreReckoned
buffers_are_reckoned = record {
  buffers = λ network rows. refl;
  peaks = λ network run rows peaks. (gives network run rows peaks, takes network run rows peaks);
}

use Rattle.std.proofs.Common.{◌≡◌, ◌∙◌, ℕ, ◌+◌, List, [], ◌∷◌, ◌++◌, ap, arith, refl, sym}
use Rattle.std.specs.Prelude.{codes, slice_index_or, length}
use Rattle.ats_io.specs.Reads.{IsReading, Read, ReadsInTurn}
use Rattle.ats_reading_examples.specs.Reads.{EachReadIsListed, ReadsAreListed, ReadsHaveNoGaps, read}

-- Reads by computation, and readings that are none by cases.

-- where the read at a place begins
abbrev starts_at : ℕ → List Read → ℕ
starts_at place reads = (slice_index_or reads place (read 0 0)).at

-- how many bytes the first one gave
abbrev first_count : List Read → ℕ
first_count reads = (slice_index_or reads 0 (read 0 0)).count

not_from_1 : (first rest : List Read) → first ++ rest ≡ read 1 4 ∷ [] → rest ≡ [] → ¬ IsReading (codes "n") 0 first
not_from_1 [] rest parts none reading = absurd (omega (arith, ap length parts, ap length none))
not_from_1 (a ∷ first) rest parts none reading =
    let is_1 : a.at ≡ 1 = ap (starts_at 0) parts in
    let is_0 : a.at ≡ 0 = reading.1 in
    absurd (omega (arith, is_1, is_0))

not_behind : ¬ ReadsInTurn (codes "n" ∷ []) [] (read 1 4 ∷ [])
not_behind (made, new, (first, rest, parts, reading, none)) = not_from_1 first rest (parts ∙ sym new) none reading

not_to_7 : (first rest : List Read) → first ++ rest ≡ read 0 5 ∷ read 7 2 ∷ [] → rest ≡ []
    → ¬ IsReading (codes "n") 0 first
not_to_7 [] rest parts none reading = absurd (omega (arith, ap length parts, ap length none))
not_to_7 (a ∷ []) rest parts none reading = absurd (omega (arith, ap length parts, ap length none))
not_to_7 (a ∷ b ∷ first) rest parts none reading =
    let is_7 : b.at ≡ 7 = ap (starts_at 1) parts in
    let five : a.count ≡ 5 = ap first_count parts in
    let on : b.at ≡ 0 + a.count = reading.2.1 in
    absurd (omega (arith, is_7, five, on))

not_over : ¬ ReadsInTurn (codes "n" ∷ []) [] (read 0 5 ∷ read 7 2 ∷ [])
not_over (made, new, (first, rest, parts, reading, none)) = not_to_7 first rest (parts ∙ sym new) none reading

reads_have_no_gaps : ReadsHaveNoGaps
reads_have_no_gaps = record {
  whole = (read 0 5 ∷ read 5 2 ∷ [], refl, (read 0 5 ∷ read 5 2 ∷ [], [], refl, (refl, refl, (refl, refl, tt)), refl));
  not_behind = not_behind;
  not_over = not_over;
}

each_read_is_listed : EachReadIsListed
each_read_is_listed = record { some = refl; none = refl; failed = refl }

pub reads_are_listed : ReadsAreListed
reads_are_listed = record { gaps = reads_have_no_gaps; each = each_read_is_listed }

use Rattle.std.proofs.Common.{◌≡◌, ℕ, ◌+◌, ◌≤◌, List, [], ◌∷◌, ◌++◌, length, refl, sym, ap, ◌∙◌, arith, lit≤}
use Rattle.std.specs.Prelude.{codes}
use Rattle.ats_io.specs.Reads.{Read, IsReading, ReadsInTurn}
use Rattle.ats_text_examples.specs.Outer.{to_the_end, once_more, OutsideIsTold}

-- Counts and reads by computation, and one reading that is none.

-- where the second read begins, and 0 where there is none
abbrev second_at : List Read → ℕ
second_at [] = 0
second_at (first ∷ []) = 0
second_at (first ∷ second ∷ reads) = second.at

-- how many bytes the first read gave
abbrev first_count : List Read → ℕ
first_count [] = 0
first_count (first ∷ reads) = first.count

begins_at : (name : List ℕ) (from : ℕ) (read : Read) (reads : List Read) → IsReading name from (read ∷ reads)
    → read.at ≡ from
begins_at name from read reads h = h.1

read_behind : (name : List ℕ) (from : ℕ) (read : Read) (reads : List Read) → IsReading name from (read ∷ reads)
    → IsReading name (from + read.count) reads
read_behind name from read reads h = h.2

-- a reading of two reads and more goes on where the first one ended
goes_on : (reads : List Read) → length reads ≡ 2 → IsReading (codes "n") 0 reads
    → second_at reads ≡ 0 + first_count reads
goes_on [] two reading = (let e : ◌≡◌ {A = ℕ} 0 2 = two in absurd (omega arith))
goes_on (first ∷ []) two reading = (let e : ◌≡◌ {A = ℕ} 1 2 = two in absurd (omega arith))
goes_on (first ∷ second ∷ reads) two reading =
    begins_at (codes "n") (0 + first.count) second reads
    (read_behind (codes "n") 0 first (second ∷ reads) reading)

nothing_behind : (first rest : List Read) → rest ≡ [] → first ++ rest ≡ first
nothing_behind [] rest none = none
nothing_behind (read ∷ first) rest none = ap (λ reads. read ∷ reads) (nothing_behind first rest none)

not_twice : ¬ ReadsInTurn (codes "n" ∷ []) [] once_more
not_twice (made, made_is, (first, rest, joined, reading, none)) =
    let whole : first ≡ once_more = sym (nothing_behind first rest none) ∙ joined ∙ sym made_is in
    let on : second_at first ≡ 0 + first_count first = goes_on first (ap length whole) reading in
    let second : second_at first ≡ 0 = ap second_at whole in
    let count : first_count first ≡ 5 = ap first_count whole in
    absurd (omega arith)

stood : ¬ (4 ≤ 3)
stood h = absurd (omega arith)

not_full : ¬ (18446744073709551615 ≤ 18446744073709551614)
not_full h = absurd (omega arith)

pub outside_is_told : OutsideIsTold
outside_is_told = record {
  rose = lit≤ tt;
  stood = stood;
  rose_from_none = lit≤ tt;
  full = lit≤ tt;
  not_full = not_full;
  once = (to_the_end, refl, (to_the_end, [], refl, (refl, refl, (refl, refl, tt)), refl));
  not_twice = not_twice;
  behind = refl;
  untold = refl;
}

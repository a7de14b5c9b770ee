-- Lemmas on the reads that were made.
use Rattle.std.proofs.Common.{◌≡◌, ℕ, ◌+◌, List, [], ◌∷◌, ◌++◌, Result, refl, sym, ap, ◌∙◌, subst, append_assoc}
use Rattle.std.proofs.Common.{append-nil, Ok}
use Rattle.ats_io.specs.Reads.{Read, IsReading, AreInTurn, ReadsInTurn, bytes_given, and_read}

-- where a reading ends that begins at a place
abbrev pub end_of : ℕ → List Read → ℕ
end_of from [] = from
end_of from (read ∷ reads) = end_of (from + read.count) reads

-- from `old` to `new` a file was read from its front up to this place, and nothing else
abbrev pub ReadsUpTo : List ℕ → ℕ → List Read → List Read → Type 0
ReadsUpTo name place old new =
    (made : List Read) × (new ≡ old ++ made) × IsReading name 0 made × (end_of 0 made ≡ place)

-- a file that nothing was read of
pub nothing_read : (name : List ℕ) (reads : List Read) → ReadsUpTo name 0 reads reads
nothing_read name reads = ([], sym (append-nil reads), tt, refl)

goes_on : (name : List ℕ) (from : ℕ) (made : List Read) (read : Read) → IsReading name from made → read.name ≡ name
    → read.at ≡ end_of from made → IsReading name from (made ++ read ∷ [])
goes_on name from [] read h named place = (named, place, tt)
goes_on name from (first ∷ made) read h named place =
    (h.0, h.1, goes_on name (from + first.count) made read h.2 named place)

ends_later : (from : ℕ) (made : List Read) (read : Read)
    → end_of from (made ++ read ∷ []) ≡ end_of from made + read.count
ends_later from [] read = refl
ends_later from (first ∷ made) read = ends_later (from + first.count) made read

read_then : {E : Type 0} (name : List ℕ) (place at : ℕ) (old middle new : List Read) (result : Result ℕ E)
    → ReadsUpTo name place old middle → at ≡ place → new ≡ and_read middle name at result
    → ReadsUpTo name (place + bytes_given result) old new
read_then name place at old middle new result h here made =
    let read : Read = record { name = name; at = at; count = bytes_given result } in (
      h.0 ++ read ∷ [],
      made ∙ ap (λ (reads : List Read). reads ++ read ∷ []) h.1 ∙ append_assoc old h.0 (read ∷ []),
      goes_on name 0 h.0 read h.2 refl (here ∙ sym h.3),
      ends_later 0 h.0 read ∙ ap (λ n. n + bytes_given result) h.3,
    )

-- a read that begins where those before it ended goes on with them
pub read_more : {E : Type 0} (name : List ℕ) (place at count later : ℕ) (old middle new : List Read)
    (result : Result ℕ E)
    → ReadsUpTo name place old middle → at ≡ place → new ≡ and_read middle name at result → result ≡ Ok count
    → later ≡ place + count → ReadsUpTo name later old new
read_more {E} name place at count later old middle new result h here made gave ends =
    subst (λ (n : ℕ). ReadsUpTo name n old new)
    (ap (λ (r : Result ℕ E). place + bytes_given r) gave ∙ sym ends)
    (read_then name place at old middle new result h here made)

read_once : (name : List ℕ) (place : ℕ) (old new : List Read) → ReadsUpTo name place old new
    → ReadsInTurn (name ∷ []) old new
read_once name place old new h = (h.0, h.1, (h.0, [], append-nil h.0, h.2, refl))

-- a file was read once, with a read that begins where those before it ended
pub read_last : {E : Type 0} (name : List ℕ) (place at : ℕ) (old middle new : List Read) (result : Result ℕ E)
    → ReadsUpTo name place old middle → at ≡ place → new ≡ and_read middle name at result
    → ReadsInTurn (name ∷ []) old new
read_last name place at old middle new result h here made =
    read_once name (place + bytes_given result) old new (read_then name place at old middle new result h here made)

unread : (names : List (List ℕ)) → AreInTurn names []
unread [] = refl
unread (name ∷ names) = ([], [], refl, tt, unread names)

-- where nothing was read, files were read in turn
pub none_read : (names : List (List ℕ)) (reads : List Read) → ReadsInTurn names reads reads
none_read names reads = ([], sym (append-nil reads), unread names)

turns_join : (names more : List (List ℕ)) (a b : List Read) → AreInTurn names a → AreInTurn more b
    → AreInTurn (names ++ more) (a ++ b)
turns_join [] more a b h k = subst (λ (reads : List Read). AreInTurn more (reads ++ b)) (sym h) k
turns_join (name ∷ names) more a b h k = (
  h.0,
  h.1 ++ b,
  sym (append_assoc h.0 h.1 b) ∙ ap (λ (reads : List Read). reads ++ b) h.2,
  h.3,
  turns_join names more h.1 b h.4 k,
)

-- files that were read behind others
pub read_behind : (names more : List (List ℕ)) (old middle new : List Read) → ReadsInTurn names old middle
    → ReadsInTurn more middle new → ReadsInTurn (names ++ more) old new
read_behind names more old middle new h k = (
  h.0 ++ k.0,
  k.1 ∙ ap (λ (reads : List Read). reads ++ k.0) h.1 ∙ append_assoc old h.0 k.0,
  turns_join names more h.0 k.0 h.2 k.2,
)

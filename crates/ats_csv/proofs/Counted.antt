-- The number of records that are asked of a text makes no difference, once it is above the number of bytes.
use Rattle.std.proofs.Common.{◌≡◌, ◌≤◌, ◌<◌, ◌+◌, ◌⊎◌, ℕ, zero, suc, List, [], ◌∷◌, length, Option, Some, None, refl}
use Rattle.std.proofs.Common.{sym, ◌∙◌, ap, inl, inr, add-one, arith}
use Rattle.std.proofs.lemmas.Bool.{cases_Bool}
use Rattle.csv.specs.Machine.{Read, ends_at_end, field_after, fields_after, is_end, next_record, step}
use Rattle.csv.specs.Reading.{default_config, is_bom, records_from, records_next, strip_bom}
use Rattle.csv.specs.declared.parser.Config.{Config}
use Rattle.csv.specs.declared.parser.State.{State}
use Rattle.csv.specs.declared.parser.State.TheVariants as st
use Rattle.ats_csv.specs.Reading.{records_of}

-- a read took a byte at least, or stood at the end and leaves the state of a new record there
abbrev Shrinks : List ℕ → Read → Type 0
Shrinks bytes read = (length read.2 + 1 ≤ length bytes) ⊎ ((bytes ≡ []) × (read.1 ≡ st.StartRecord) × (read.2 ≡ []))

-- the bytes after a record
shrinks : (cfg : Config) (s : State) (fields : List (List ℕ)) (field bytes : List ℕ) (read : Read)
    → next_record cfg s fields field bytes ≡ Some read → Shrinks bytes read
unfolding next_record
shrinks cfg s fields field [] read e = elim (cases_Bool (ends_at_end s)) [
  | inl at ↦ let f = rw at at e in inr (refl, cc f, cc f)
  | inr not ↦ cc (rw not at e)
]
shrinks cfg s fields field (c ∷ rest) read e = elim (cases_Bool (is_end (step cfg s c).1)) [
  | inl ends ↦ let f = rw ends at e in
      let left : read.2 ≡ rest = cc f in
      inl (rw left (omega arith))
  | inr goes ↦ later (shrinks cfg (step cfg s c).0 (fields_after (step cfg s c).1 fields field)
      (field_after (step cfg s c).1 c field) rest read (rw goes at e))
]
  where
    later : Shrinks rest read → Shrinks (c ∷ rest) read
    later (inl less) = inl (omega arith)
    later (inr (none, start, end)) = inl (rw (end, none) (omega arith))

-- at the end of a text no record begins
pub nothing : (cfg : Config) (n : ℕ) → records_from cfg n st.StartRecord [] ≡ []
unfolding next_record records_from
nothing cfg zero = refl
nothing cfg (suc n) = refl

-- two numbers above that of the bytes
counted : (cfg : Config) (n m : ℕ) (s : State) (bytes : List ℕ) → length bytes < n → length bytes < m
    → records_from cfg n s bytes ≡ records_from cfg m s bytes
unfolding records_from
counted cfg zero m s bytes l k = absurd (omega arith)
counted cfg (suc n) zero s bytes l k = absurd (omega arith)
counted cfg (suc n) (suc m) s bytes l k =
    by (next_record cfg s [] [] bytes) refl (λ read. counted cfg n m read.1 read.2)
  where
    after : (read : Read) → Shrinks bytes read
        → (length read.2 < n → length read.2 < m → records_from cfg n read.1 read.2 ≡ records_from cfg m read.1 read.2)
        → records_from cfg n read.1 read.2 ≡ records_from cfg m read.1 read.2
    after read (inl less) more = more (omega arith) (omega arith)
    after read (inr (none, start, end)) more = rw (start, end) (nothing cfg n ∙ sym (nothing cfg m))

    by : (o : Option Read) → next_record cfg s [] [] bytes ≡ o
        → ((read : Read) → length read.2 < n → length read.2 < m
        → records_from cfg n read.1 read.2 ≡ records_from cfg m read.1 read.2)
        → records_next (records_from cfg n) (next_record cfg s [] [] bytes)
        ≡ records_next (records_from cfg m) (next_record cfg s [] [] bytes)
    by None e more = rw e refl
    by (Some read) e more =
        rw e (ap (λ rest. read.0 ∷ rest) (after read (shrinks cfg s [] [] bytes read e) (more read)))

-- the first record of a text, and those after it
pub counted-first : (cfg : Config) (s : State) (bytes : List ℕ) (read : Read)
    → next_record cfg s [] [] bytes ≡ Some read
    → records_from cfg (length bytes + 1) s bytes ≡ read.0 ∷ records_from cfg (length read.2 + 1) read.1 read.2
unfolding records_from
counted-first cfg s bytes read e =
    rw (add-one (length bytes), e) (ap (λ rest. read.0 ∷ rest) (after (shrinks cfg s [] [] bytes read e)))
  where
    after : Shrinks bytes read
        → records_from cfg (length bytes) read.1 read.2 ≡ records_from cfg (length read.2 + 1) read.1 read.2
    after (inl less) = counted cfg (length bytes) (length read.2 + 1) read.1 read.2 (omega arith) (omega arith)
    after (inr (none, start, end)) = rw (start, end) (nothing cfg (length bytes) ∙ sym (nothing cfg 1))

-- a text in which no record begins
pub counted-none : (cfg : Config) (s : State) (bytes : List ℕ) → next_record cfg s [] [] bytes ≡ None
    → records_from cfg (length bytes + 1) s bytes ≡ []
unfolding records_from
counted-none cfg s bytes e = rw (add-one (length bytes), e) refl

-- no more records than were asked for
counted_few : (cfg : Config) (n : ℕ) (s : State) (bytes : List ℕ) → length (records_from cfg n s bytes) ≤ n
unfolding records_from
counted_few cfg zero s bytes = omega arith
counted_few cfg (suc n) s bytes = by (next_record cfg s [] [] bytes) (λ read. counted_few cfg n read.1 read.2)
  where
    by : (o : Option Read) → ((read : Read) → length (records_from cfg n read.1 read.2) ≤ n)
        → length (records_next (records_from cfg n) o) ≤ suc n
    by None more = omega arith
    by (Some read) more = let few = more read in omega arith

-- a text without its mark is no longer
stripped : (bytes : List ℕ) → length (strip_bom bytes) ≤ length bytes
unfolding strip_bom
stripped [] = omega arith
stripped (a ∷ []) = omega arith
stripped (a ∷ b ∷ []) = omega arith
stripped (a ∷ b ∷ c ∷ rest) = elim (cases_Bool (is_bom a b c)) [
  | inl mark ↦ rw mark (omega arith)
  | inr none ↦ rw none (omega arith)
]

-- a file has at most one record more than bytes
pub few_records : (bytes : List ℕ) → length (records_of bytes) ≤ length bytes + 1
unfolding records_of
few_records bytes =
    let most = counted_few default_config (length (strip_bom bytes) + 1) st.StartRecord (strip_bom bytes) in
    let short = stripped bytes in
    omega arith

use Rattle.std.specs.Prelude.{◌≡◌, ◌↔◌, ◌⊎◌, ℕ, ◌+◌, ◌-◌, ◌^◌, ◌<◌, ◌≤◌, List, [], ◌∷◌, ◌++◌, length, take, drop}
use Rattle.std.specs.Prelude.{Option}
use Rattle.std.specs.Prelude.{Some, None, Result, Ok, Err, IsOkUnless}
use Rattle.ats_num.specs.Failure.{Gives}
use Rattle.ats_num.specs.declared.failure.Failure.{Failure}
use Rattle.ats_num.specs.declared.failure.Failure.TheVariants.{NoMemory}
use Rattle.ats_io.specs.Outside.{IfTold, IsPieceAt, Rose, TakesPrefix, appended}
use Rattle.ats_io.specs.Reads.{AreInTurn, IsReading, Read, ReadsInTurn, and_read, bytes_given}
use Rattle.ats_io.specs.Whole.{TooLongIsDue, WholeIsDue}
use Rattle.ats_io.specs.declared.fault.ReadFault.{ReadFault}
use Rattle.ats_io.specs.declared.fault.ReadFault.TheVariants.{TooLong}

-- What is said of files, sinks and counts of faults, written out, both ways. Contracts ask the outside for these words,
-- and conclude them of calls: one that said less of a file, or more of a count, would keep each contract.

-- a fault came where the count grew, or is the last one of 64 bits
pub record CountsAreMeant : Type 0 where
  pub rose : (before now : ℕ) → Rose before now ↔ ((before < now) ⊎ (2 ^ 64 - 1 ≤ now))

-- a read gives a piece of the file from a place on, and nothing only at its end; what a file holds that is not told is
-- not spoken of
pub record PiecesAreMeant : Type 0 where
  pub told : (bytes other : List ℕ) → IfTold (Some bytes) (λ held. held ≡ other) ↔ (bytes ≡ other)
  pub not_told : (other : List ℕ) → IfTold None (λ held. held ≡ other)
  pub piece : (bytes buffer : List ℕ) (at count : ℕ)
      → IsPieceAt bytes at count buffer
      ↔ ((take count buffer ≡ take count (drop at bytes)) × (count ≤ length (drop at bytes))
      × (count ≡ 0 → length bytes ≤ at))
  pub whole : (held : Option (List ℕ)) (before after limit : ℕ) (result : Result ℕ (Failure ReadFault))
      → WholeIsDue held before after limit result
      ↔ ((bytes : List ℕ) → held ≡ Some bytes → length bytes ≤ limit → ¬ Rose before after
      → IsOkUnless result NoMemory)
  pub too_long : (held : Option (List ℕ)) (before after limit : ℕ) (result : Result ℕ (Failure ReadFault))
      → TooLongIsDue held before after limit result
      ↔ ((bytes : List ℕ) → held ≡ Some bytes → limit < length bytes → ¬ Rose before after
      → Gives result (Err TooLong))

-- a sink holds behind what it held the front of a text, and no more
pub record SinksAreMeant : Type 0 where
  pub held : (bytes piece : List ℕ) → appended (Some bytes) piece ≡ Some (bytes ++ piece)
  pub not_told : (piece : List ℕ) → appended None piece ≡ None
  pub taken : (text : List ℕ) (old new : Option (List ℕ))
      → TakesPrefix text old new
      ↔ ((front : List ℕ) × (rest : List ℕ) × (front ++ rest ≡ text) × (new ≡ appended old front))

-- reads are listed one behind the other; they are one reading of a file where each begins at the end of the one before
-- it, and one reading of files where those of each follow those of the one before it
pub record ReadsAreMeant : Type 0 where
  pub given : (count : ℕ) → bytes_given {E = ReadFault} (Ok count) ≡ count
  pub failed : (fault : ReadFault) → bytes_given {E = ReadFault} (Err fault) ≡ 0
  pub listed : (reads : List Read) (name : List ℕ) (at : ℕ) (result : Result ℕ ReadFault)
      → and_read reads name at result
      ≡ reads ++ record { name = name; at = at; count = bytes_given result } ∷ []
  pub unread : (name : List ℕ) (from : ℕ) → IsReading name from []
  pub reading : (name : List ℕ) (from : ℕ) (read : Read) (reads : List Read)
      → IsReading name from (read ∷ reads)
      ↔ ((read.name ≡ name) × (read.at ≡ from) × IsReading name (from + read.count) reads)
  pub no_file : (reads : List Read) → AreInTurn [] reads ↔ (reads ≡ [])
  pub files : (name : List ℕ) (names : List (List ℕ)) (reads : List Read)
      → AreInTurn (name ∷ names) reads
      ↔ ((first : List Read) × (rest : List Read) × (first ++ rest ≡ reads) × IsReading name 0 first
      × AreInTurn names rest)
  pub made : (names : List (List ℕ)) (old new : List Read)
      → ReadsInTurn names old new ↔ ((made : List Read) × (new ≡ old ++ made) × AreInTurn names made)

pub record OutsideIsMeant : Type 0 where
  pub counts : CountsAreMeant
  pub pieces : PiecesAreMeant
  pub sinks : SinksAreMeant
  pub reads : ReadsAreMeant

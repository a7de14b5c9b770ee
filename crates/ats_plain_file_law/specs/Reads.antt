use Rattle.std.specs.Prelude.{◌≡◌, ◌↔◌, IsTrue, ℕ, ◌+◌, Bool, List, [], ◌∷◌, ◌++◌, ◌^◌, Some, None}
use Rattle.ats_io.specs.Outside.{IfTold}
use Rattle.ats_io.specs.Reads.{IsReading, Read}
use Rattle.ats_io.specs.declared.files.TheConstants.{MAX_PLACE}

-- what is asked of a file is asked of its bytes where they are told, whether they pass a test, or a test with some
-- number; where they are not, nothing is
pub record BytesAreAsked : Type 0 where
  pub told : (bytes : List ℕ) (test : List ℕ → Bool) → IfTold (Some bytes) (λ held. IsTrue (test held))
      ↔ IsTrue (test bytes)
  pub found : (bytes : List ℕ) (test : List ℕ → ℕ → Bool) → IfTold (Some bytes) (λ held. (n : ℕ) × IsTrue (test held n))
      ↔ ((n : ℕ) × IsTrue (test bytes n))
  pub none : (test : List ℕ → Bool) → IfTold None (λ held. IsTrue (test held)) ↔ Unit {0}

-- how many bytes reads gave together
abbrev pub bytes_of : List Read → ℕ
bytes_of [] = 0
bytes_of (read ∷ reads) = read.count + bytes_of reads

pub record FilesAreRead : Type 0 where
  pub asked : BytesAreAsked
  -- no place behind 2^28 is asked for
  pub last_place : MAX_PLACE ≡ 2 ^ 28
  -- reads are one reading of a file from a place on where each is of that file and begins, behind that place, where the
  -- bytes end that all reads before it gave; no reads are one too
  pub reading : (name : List ℕ) (from : ℕ) (reads : List Read) → IsReading name from reads
      ↔ ((before : List Read) (read : Read) (behind : List Read) → reads ≡ before ++ read ∷ behind
      → (read.name ≡ name) × (read.at ≡ from + bytes_of before))

use Rattle.std.specs.Prelude.{◌≡◌, ℕ, ◌+◌, List, [], ◌∷◌, ◌++◌, Result, Ok, Err, refl}
use Rattle.std.specs.Coded.{Coded, code_by, coded×, coded_ℕ, coded_list}

-- a read that was made: of the file of this name, from this place in it, and how many bytes it gave, 0 where it failed
pub record Read : Type 0 where
  pub name : List ℕ
  pub at : ℕ
  pub count : ℕ

-- how many bytes a read gives that comes to this
abbrev pub bytes_given : {E : Type 0} → Result ℕ E → ℕ
bytes_given (Ok count) = count
bytes_given (Err failed) = 0

-- the reads so far, and behind them one of this name from this place, which comes to this
abbrev pub and_read : {E : Type 0} → List Read → List ℕ → ℕ → Result ℕ E → List Read
and_read reads name at result = reads ++ (record { name = name; at = at; count = bytes_given result }) ∷ []

-- the reads are one reading of a file from a place on: each is of this name, and begins where the one before it ended
abbrev pub IsReading : List ℕ → ℕ → List Read → Type 0
IsReading name from [] = Unit {0}
IsReading name from (read ∷ reads) =
    (read.name ≡ name) × (read.at ≡ from) × IsReading name (from + read.count) reads

-- the reads are, one after another, one reading of each of these files from its front; a file may be left unread
abbrev pub AreInTurn : List (List ℕ) → List Read → Type 0
AreInTurn [] reads = reads ≡ []
AreInTurn (name ∷ names) reads =
    (first : List Read) × (rest : List Read) × (first ++ rest ≡ reads) × IsReading name 0 first × AreInTurn names rest

-- from `old` to `new` these files were read, each once and in this order, and nothing else
abbrev pub ReadsInTurn : List (List ℕ) → List Read → List Read → Type 0
ReadsInTurn names old new = (made : List Read) × (new ≡ old ++ made) × AreInTurn names made

-- a list of reads is stored as that of their fields
abbrev pub reads_code : Coded (List Read)
reads_code =
    coded_list (code_by (List ℕ × (ℕ × ℕ)) (coded× (coded_list coded_ℕ) (coded× coded_ℕ coded_ℕ))
    (λ read. (read.name, (read.at, read.count)))
    (λ fields. record { name = fields.0; at = fields.1.0; count = fields.1.1 }) (λ _. refl))

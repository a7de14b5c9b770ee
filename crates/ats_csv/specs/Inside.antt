use Rattle.std.specs.Prelude.{◌≡◌, ℕ, ◌+◌, Bool, true, false, List, [], ◌∷◌, length, Option, Some, None, IsSome, IfSome}
use Rattle.std.specs.Prelude.{IsSomeAnd, ◌≢◌}
use Rattle.std.specs.Borrow.{Bor}
use Rattle.csv.specs.Reading.{Ready, default_config, is_flexible, reader_config, reader_state, reader_trim}
use Rattle.csv.specs.Reading.{records_from, source_of}
use Rattle.csv.specs.declared.parser.State.{State}
use Rattle.csv.specs.declared.reader.Reader.{Reader}
use Rattle.csv.specs.declared.reader.Trim.TheVariants as trim
use Rattle.ats_csv.specs.declared.records.Stage.{Stage}
use Rattle.ats_csv.specs.declared.records.Stage.TheVariants.{Going, Ended, Failed}
use Rattle.ats_csv.specs.declared.records.Taken.{Taken}
use Rattle.ats_csv.specs.declared.records.Taken.TheVariants.{Record, OtherWidth, End}

-- csv's reader of a slice
abbrev pub SliceReader : Type 0
SliceReader = Reader (Bor (List ℕ))

-- the bytes that it has left, where they are known
abbrev pub unread_bytes : SliceReader → Option (List ℕ)
unread_bytes reader = source_of (λ s. Some s.now) reader

-- the records that these bytes begin, in this state of csv's machine
unfoldable pub records_in : State → Option (List ℕ) → List (List (List ℕ))
records_in state None = []
records_in state (Some bytes) = records_from default_config (length bytes + 1) state bytes

-- the records that the reader has left
abbrev pub records_left : SliceReader → List (List (List ℕ))
records_left reader = records_in (reader_state reader) (unread_bytes reader)

-- the reader reads on: with the default settings but for the width, which is not its to judge, without a header, and
-- over bytes that are known
pub record ReadsOnward (reader : SliceReader) : Type 0 where
  pub config : reader_config reader ≡ default_config
  pub trim : reader_trim reader ≡ trim.None
  pub flexible : is_flexible reader ≡ true
  pub ready : Ready reader
  pub known : IsSome (unread_bytes reader)

-- a read gave the first record that was left, and the reader reads on
pub record ReadsRecord (old new : SliceReader) (fields : List (List ℕ)) : Type 0 where
  pub next : records_left old ≡ fields ∷ records_left new
  pub onward : ReadsOnward new

-- what is found of a record with so many fields, and the width of the first record before and after it
abbrev pub Compares : Taken → Option ℕ → Option ℕ → ℕ → Type 0
Compares Record old new count = IfSome old (λ width. count ≡ width) × (new ≡ Some count)
Compares OtherWidth old new count = IsSomeAnd old (λ width. count ≢ width) × (new ≡ old)
Compares End old new count = ⊥

-- the records that are left at a stage
abbrev pub left_at : Stage → SliceReader → List (List (List ℕ))
left_at Going reader = records_left reader
left_at Ended reader = []
left_at Failed reader = []

-- the reader is kept able to read while there may be more
abbrev pub KeepsReading : Stage → SliceReader → Type 0
KeepsReading Going reader = ReadsOnward reader
KeepsReading Ended reader = Unit {0}
KeepsReading Failed reader = Unit {0}

abbrev pub has_failed_at : Stage → Bool
has_failed_at Failed = true
has_failed_at Going = false
has_failed_at Ended = false

use Rattle.std.specs.Prelude.{◌≡◌, ◌≢◌, ℕ, Bool, List, [], ◌∷◌, length, Option, Some, IfSome, IsSomeAnd, unwrap_or}
use Rattle.std.specs.Prelude.{slice_get}
use Rattle.std.specs.Cmp.Lexicographic.{pointwise}
use Rattle.std.specs.Str.{bytes_eq}
use Rattle.csv.specs.Reading.{default_config, records, strip_bom}
use Rattle.ats_csv.specs.declared.records.Taken.{Taken}
use Rattle.ats_csv.specs.declared.records.Taken.TheVariants.{Record, OtherWidth, End}

-- the records of a file: what csv reads of its bytes by its default settings, behind a byte order mark where there is
-- one
unfoldable pub records_of : List ℕ → List (List (List ℕ))
records_of bytes = records default_config (strip_bom bytes)

-- the field of a record at a place, counted from 0; no bytes where there is none
abbrev pub field_of : List (List ℕ) → ℕ → List ℕ
field_of fields place = unwrap_or (slice_get fields place) []

-- whether two records have the same fields, as a file's first record and the header that is due
unfoldable pub same_fields : List (List ℕ) → List (List ℕ) → Bool
same_fields some others = pointwise bytes_eq some others

-- how far a file is read: the records that are left, the number of fields of the first record, where one was taken, the
-- fields of the record that was taken last, and whether memory ran out
pub record Progress : Type 0 where
  pub left : List (List (List ℕ))
  pub width : Option ℕ
  pub fields : List (List ℕ)
  pub failed : Bool

-- the next record was taken, and is as wide as the first
pub record TakesRecord (old new : Progress) : Type 0 where
  pub next : old.left ≡ new.fields ∷ new.left
  pub same : IfSome old.width (λ width. length new.fields ≡ width)
  pub width : new.width ≡ Some (length new.fields)

-- the next record was taken, and has another number of fields than the first
pub record TakesOther (old new : Progress) : Type 0 where
  pub next : old.left ≡ new.fields ∷ new.left
  pub other : IsSomeAnd old.width (λ width. length new.fields ≢ width)
  pub width : new.width ≡ old.width

-- no record was left
pub record IsAtEnd (old new : Progress) : Type 0 where
  pub none : old.left ≡ []
  pub left : new.left ≡ []
  pub fields : new.fields ≡ []
  pub width : new.width ≡ old.width

-- what was taken, from one state to the next
abbrev pub Takes : Taken → Progress → Progress → Type 0
Takes Record old new = TakesRecord old new
Takes OtherWidth old new = TakesOther old new
Takes End old new = IsAtEnd old new

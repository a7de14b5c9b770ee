use Rattle.std.specs.Prelude.{◌≢◌, ℕ, ◌<◌, List, [], ◌∷◌, ◌++◌, All, decimal}
use Rattle.std.specs.List.{flat_map, join_with_byte}
use Rattle.ats_csv.specs.declared.writing.Field.{Field}
use Rattle.ats_csv.specs.declared.writing.Field.TheVariants.{Text, Number}

-- the bytes of a field: a text as it stands, a number in decimal
abbrev pub bytes_of : Field → List ℕ
bytes_of (Text text) = text.now
bytes_of (Number n) = decimal n

-- the plain text of a record: its fields as they stand, a comma between each two, and LF
abbrev pub record_text : List (List ℕ) → List ℕ
record_text fields = join_with_byte 44 fields ++ 10 ∷ []

-- fields with a comma before each
abbrev pub further : List (List ℕ) → List ℕ
further fields = flat_map (λ field. 44 ∷ field) fields

-- the plain text of records, one after the other
abbrev pub text_of : List (List (List ℕ)) → List ℕ
text_of records = flat_map record_text records

-- a byte that stands for itself: ASCII, and no comma, quotation mark, CR or LF
pub record IsPlainByte (byte : ℕ) : Type 0 where
  pub ascii : byte < 128
  pub no_comma : byte ≢ 44
  pub no_quote : byte ≢ 34
  pub no_return : byte ≢ 13
  pub no_feed : byte ≢ 10

-- a record whose plain text reads back: its fields have plain bytes only, and it is neither without a field nor one
-- empty field, since both have the text of a blank line
pub record IsPlain (fields : List (List ℕ)) : Type 0 where
  pub bytes : All (All IsPlainByte) fields
  pub some : fields ≢ []
  pub visible : fields ≢ [] ∷ []

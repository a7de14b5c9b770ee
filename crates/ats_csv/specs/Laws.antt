use Rattle.std.specs.Prelude.{◌≡◌, ℕ, List, ◌∷◌, All}
use Rattle.ats_csv.specs.Plain.{IsPlain, text_of}
use Rattle.ats_csv.specs.Reading.{records_of}

-- the plain text of plain records reads as these records
abbrev pub PlainReadsBack : Type 0
PlainReadsBack = (records : List (List (List ℕ))) → All IsPlain records → records_of (text_of records) ≡ records

-- a byte order mark in front of it changes nothing
abbrev pub MarkIsPassed : Type 0
MarkIsPassed = (records : List (List (List ℕ))) → All IsPlain records
    → records_of (0xEF ∷ 0xBB ∷ 0xBF ∷ text_of records) ≡ records

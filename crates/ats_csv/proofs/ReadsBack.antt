-- The plain text of plain records reads as these records.
use Rattle.std.proofs.Common.{◌≡◌, ◌∙◌, ◌<◌, ◌≤◌, ◌+◌, ◌==◌, ℕ, zero, suc, false, List, [], ◌∷◌, ◌++◌, Some, length}
use Rattle.std.proofs.Common.{refl, ap, length-append, arith}
use Rattle.std.specs.Prelude.{All}
use Rattle.std.specs.List.{list_any}
use Rattle.std.proofs.lemmas.Bool.{ne_eqb}
use Rattle.std.proofs.lemmas.List.Elements.{All-head, All-tail}
use Rattle.csv.specs.Machine.{next_record}
use Rattle.csv.specs.Reading.{default_config, records_from, strip_bom}
use Rattle.csv.specs.Writing.{default_writer, field_text, fields_text, is_blank, needs_byte, row_text}
use Rattle.csv.specs.declared.parser.State.TheVariants as st
use Rattle.csv.proofs.RoundTrip.{read-write}
use Rattle.ats_csv.proofs.Counted.{nothing}
use Rattle.ats_csv.proofs.Plain.{join_is}
use Rattle.ats_csv.specs.Laws.{MarkIsPassed, PlainReadsBack}
use Rattle.ats_csv.specs.Plain.{IsPlain, IsPlainByte, further, record_text, text_of}
use Rattle.ats_csv.specs.Reading.{records_of}

-- a plain byte calls for no quotation marks
plain_byte : (byte : ℕ) → IsPlainByte byte → needs_byte default_writer byte ≡ false
plain_byte byte p =
    rw (ne_eqb byte 44 p.no_comma, ne_eqb byte 34 p.no_quote, ne_eqb byte 13 p.no_return, ne_eqb byte 10 p.no_feed) refl

plain_field : (field : List ℕ) → All IsPlainByte field → list_any (needs_byte default_writer) field ≡ false
plain_field [] p = refl
plain_field (byte ∷ field) p =
    rw (plain_byte byte (All-head IsPlainByte byte field p)) (plain_field field (All-tail IsPlainByte byte field p))

-- so csv's writer puts it down as it stands
field_plain : (field : List ℕ) → All IsPlainByte field → field_text default_writer field ≡ field
field_plain field p = rw (plain_field field p) refl

further_plain : (fields : List (List ℕ)) → All (All IsPlainByte) fields
    → fields_text default_writer fields ≡ further fields
unfolding fields_text
further_plain [] p = refl
further_plain (field ∷ fields) p =
    let head = field_plain field (All-head (All IsPlainByte) field fields p) in
    let tail = further_plain fields (All-tail (All IsPlainByte) field fields p) in
    rw (head, tail) refl

-- a plain record shows a byte
shown : (field : List ℕ) (fields : List (List ℕ)) → IsPlain (field ∷ fields)
    → is_blank default_writer (field ∷ fields) ≡ false
unfolding is_blank
shown [] [] p = absurd (p.visible refl)
shown (byte ∷ field) [] p =
    let plain = field_plain (byte ∷ field) (All-head (All IsPlainByte) (byte ∷ field) [] p.bytes) in
    ap (λ text. length text == 0) plain ∙ ne_eqb (suc (length field)) 0 (λ e. cc e)
shown field (next ∷ fields) p = refl

-- csv's writer puts down its plain text
record_plain : (fields : List (List ℕ)) → IsPlain fields → row_text default_writer fields ≡ record_text fields
record_plain [] p = absurd (p.some refl)
record_plain (field ∷ fields) p =
    let head = field_plain field (All-head (All IsPlainByte) field fields p.bytes) in
    let tail = further_plain fields (All-tail (All IsPlainByte) field fields p.bytes) in
    rw (shown field fields p, head, tail, join_is field fields) refl

-- csv's reader takes it from the front of a text
record_taken : (fields : List (List ℕ)) (tail : List ℕ) → IsPlain fields
    → next_record default_config st.StartRecord [] [] (record_text fields ++ tail) ≡ Some (fields, st.StartRecord, tail)
record_taken [] tail p = absurd (p.some refl)
record_taken (field ∷ fields) tail p = rw (record_plain (field ∷ fields) p) at (read-write (field ∷ fields) tail)

-- a record's text has an LF at least
record_long : (fields : List (List ℕ)) (tail : List ℕ) → length tail + 1 ≤ length (record_text fields ++ tail)
record_long fields tail =
    simp length-append (omega arith)

-- and all records from a whole text
records_taken : (n : ℕ) (records : List (List (List ℕ))) → All IsPlain records → length (text_of records) < n
    → records_from default_config n st.StartRecord (text_of records) ≡ records
unfolding records_from
records_taken zero records p l = absurd (omega arith)
records_taken (suc n) [] p l = nothing default_config (suc n)
records_taken (suc n) (fields ∷ records) p l =
    let head = record_taken fields (text_of records) (All-head IsPlain fields records p) in
    let long = record_long fields (text_of records) in
    let rest = records_taken n records (All-tail IsPlain fields records p) (omega arith) in
    rw head (ap (λ later. fields ∷ later) rest)

-- a text that begins with ASCII has no byte order mark
abbrev BeginsPlain : List ℕ → Type 0
BeginsPlain [] = Unit {0}
BeginsPlain (byte ∷ text) = byte < 128

unmarked : (text : List ℕ) → BeginsPlain text → strip_bom text ≡ text
unfolding strip_bom
unmarked [] p = refl
unmarked (a ∷ []) p = refl
unmarked (a ∷ b ∷ []) p = refl
unmarked (a ∷ b ∷ c ∷ text) p = rw (ne_eqb a 0xEF (λ e. omega arith)) refl

marked : (text : List ℕ) → strip_bom (0xEF ∷ 0xBB ∷ 0xBF ∷ text) ≡ text
unfolding strip_bom
marked text = refl

begins : (records : List (List (List ℕ))) → All IsPlain records → BeginsPlain (text_of records)
begins [] p = tt
begins (fields ∷ records) p = first fields (text_of records) (All-head IsPlain fields records p)
  where
    first : (fields : List (List ℕ)) (tail : List ℕ) → IsPlain fields → BeginsPlain (record_text fields ++ tail)
    first [] tail q = absurd (q.some refl)
    first ((byte ∷ field) ∷ []) tail q =
        (All-head IsPlainByte byte field (All-head (All IsPlainByte) (byte ∷ field) [] q.bytes)).ascii
    first ([] ∷ []) tail q = absurd (q.visible refl)
    first ((byte ∷ field) ∷ next ∷ fields) tail q =
        (All-head IsPlainByte byte field (All-head (All IsPlainByte) (byte ∷ field) (next ∷ fields) q.bytes)).ascii
    first ([] ∷ next ∷ fields) tail q = omega arith

pub plain_reads_back : PlainReadsBack
unfolding records_of
plain_reads_back records p =
    rw (unmarked (text_of records) (begins records p))
    (records_taken (length (text_of records) + 1) records p (omega arith))

pub mark_is_passed : MarkIsPassed
unfolding records_of
mark_is_passed records p =
    rw (marked (text_of records)) (records_taken (length (text_of records) + 1) records p (omega arith))

use Rattle.std.proofs.Common.{◌≡◌, ℕ, zero, suc, ◌+◌, ◌<◌, ◌≤◌, Bool, false, List, [], ◌∷◌, ◌++◌, length, map, drop}
use Rattle.std.proofs.Common.{take, flat_map, All, Option, Some, None, Result, Ok, Err, refl, sym, ap, ◌∙◌, arith}
use Rattle.std.proofs.Common.{append_assoc, append-nil}
use Rattle.std.specs.Prelude.{◌==◌, nat_lt, if◌then◌else◌}
use Rattle.std.proofs.Math.ListN.{drop_of_length-le}
use Rattle.std.proofs.lemmas.Bool.{le-ltb, ne_eqb}
use Rattle.std.proofs.lemmas.List.{length-append, take_all}
use Rattle.std.proofs.lemmas.List.Elements.{All-head, All-tail}
use Rattle.ats_num.specs.Failure.{◌>>=◌}
use Rattle.ats_pcap.specs.Capture.{Position, captured_of, form_of, header_fault, is_whole, position_of, read_on}
use Rattle.ats_pcap.specs.Capture.{position_at, record_fault, record_of, records_at, without}
use Rattle.ats_pcap.specs.Identity.{address_of, identity_of}
use Rattle.ats_pcap.specs.Numbers.{number16}
use Rattle.ats_pcap.specs.Inside.{IsOpen}
use Rattle.ats_pcap.specs.declared.fault.CaptureFault.{CaptureFault}
use Rattle.ats_pcap.specs.declared.fault.CaptureFault.TheVariants.{CutShort, Limit, RecordTooLong}
use Rattle.ats_pcap.specs.declared.form.Form.{Form}
use Rattle.ats_pcap.specs.declared.record.Record.{Record}
use Rattle.ats_pcap.proofs.Records.{identity_of-front}
use Rattle.ats_pcap.proofs.Whole.{Passes, passed, passed-open, position_of-passed}
use Rattle.ats_exact_examples.specs.Captures.{IdentityIsInFront, IsWholeRecord, RecordsAreRead, WholeRecordsAreRead}

-- What identifies a frame, and whole records one after another.

identity_is_in_front : IdentityIsInFront
unfolding identity_of address_of number16
identity_is_in_front = record { all = λ frame. sym (identity_of-front frame); outer = refl }

-- a whole record behind fewer than 1,000,000 has no fault
by_tests : (form : Form) (before there : ℕ) (bytes : List ℕ) → (there == 0) ≡ false → (before == 1_000_000) ≡ false
    → nat_lt there 16 ≡ false → nat_lt 262_144 (captured_of form bytes) ≡ false
    → record_fault form before there bytes ≡ None
unfolding record_fault
by_tests form before there bytes some room header short =
    let of : Bool → Bool → Bool → Bool → Option CaptureFault = λ none full few long.
    if none then None else if full then Some (Limit 1_000_001) else if few then None
    else if long then Some (RecordTooLong (before + 1)) else None in
    ap (λ b. of b (before == 1_000_000) (nat_lt there 16) (nat_lt 262_144 (captured_of form bytes))) some
    ∙ ap (λ b. of false b (nat_lt there 16) (nat_lt 262_144 (captured_of form bytes))) room
    ∙ ap (λ b. of false false b (nat_lt 262_144 (captured_of form bytes))) header
    ∙ ap (of false false false) short

not_full : (before : ℕ) → before < 1_000_000 → (before == 1_000_000) ≡ false
not_full before room = ne_eqb before 1_000_000 (λ same. absurd (omega (arith, room, same)))

not_none : (there : ℕ) → 16 ≤ there → (there == 0) ≡ false
not_none there enough = ne_eqb there 0 (λ none. absurd (omega (arith, enough, none)))

no_fault : (form : Form) (before : ℕ) (bytes : List ℕ) → before < 1_000_000 → IsWholeRecord form bytes
    → record_fault form before (length bytes) bytes ≡ None
no_fault form before bytes room is =
    let enough : 16 ≤ length bytes = omega (arith, is.exact) in
    by_tests form before (length bytes) bytes (not_none (length bytes) enough) (not_full before room)
    (le-ltb (length bytes) 16 enough) (le-ltb 262_144 (captured_of form bytes) is.few)

-- behind the header
abbrev behind : List ℕ → List Record → Position
behind header records = record { header = header; records = records; there = 0; front = [] }

is_open : (header : List ℕ) (records : List Record) → length header ≡ 24 → length records ≤ 1_000_000
    → IsOpen (behind header records)
is_open header records long few = record {
  header = omega (arith, long);
  before = λ _. refl;
  few = few;
  front = refl;
  short = λ some. absurd (omega (arith, some));
  within = λ some. absurd (omega (arith, some));
}

passes : (header : List ℕ) (records : List Record) (part : List ℕ) → length header ≡ 24
    → length records < 1_000_000 → IsWholeRecord (form_of header) part → Passes (behind header records) part
passes header records part long room is = record {
  is_open = is_open header records long (omega (arith, room));
  header = omega (arith, long);
  none = refl;
  exact = is.exact;
  fine = no_fault (form_of header) (length records) part room is;
}

-- at its end nothing is read on
none_on : (turns : ℕ) (form : Form) → read_on turns form (record { records = []; rest = [] })
    ≡ Ok (record { records = []; rest = [] })
unfolding record_fault is_whole
none_on zero form = refl
none_on (suc turns) form = refl

begun : (header : List ℕ) → length header ≡ 24 → header_fault header ≡ None
    → position_of header ≡ Ok (behind header [])
unfolding position_of
begun header long fine =
    let most : length header ≤ 24 = omega (arith, long) in
    ap (λ (fault : Option CaptureFault). without fault
    (read_on (length header) (form_of header) (record { records = []; rest = drop 24 header })
    >>= λ reach. Ok (position_at (take 24 header) reach))) fine
    ∙ ap (λ (rest : List ℕ). read_on (length header) (form_of header) (record { records = []; rest = rest })
    >>= λ reach. Ok (position_at (take 24 header) reach)) (drop_of_length-le header most)
    ∙ ap (λ read. read >>= λ reach. Ok (position_at (take 24 header) reach)) (none_on (length header) (form_of header))
    ∙ ap (λ (front : List ℕ). Ok (behind front [])) (take_all 24 header most)

-- and each further record is read behind those before it
further : (header bytes : List ℕ) (records : List Record) (parts : List (List ℕ)) → length header ≡ 24
    → position_of bytes ≡ Ok (behind header records) → All (IsWholeRecord (form_of header)) parts
    → length records + length parts ≤ 1_000_000
    → position_of (bytes ++ flat_map (λ part. part) parts)
    ≡ Ok (behind header (records ++ map (record_of (form_of header)) parts))
further header bytes records [] long at are few =
    ap position_of (append-nil bytes) ∙ at
    ∙ ap (λ (rs : List Record). Ok (behind header rs)) (sym (append-nil records))
further header bytes records (part ∷ parts) long at are few =
    let form : Form = form_of header in
    let more : List Record = records ++ record_of form part ∷ [] in
    let room : length records < 1_000_000 = omega (arith, few) in
    let next : position_of (bytes ++ part) ≡ Ok (behind header more) =
    position_of-passed bytes part (behind header records) at
    (passes header records part long room (All-head (IsWholeRecord form) part parts are)) in
    let one_more : length more ≡ length records + 1 = length-append records (record_of form part ∷ []) in
    ap position_of (sym (append_assoc bytes part (flat_map (λ some. some) parts)))
    ∙ further header (bytes ++ part) more parts long next (All-tail (IsWholeRecord form) part parts are)
    (omega (arith, few, one_more))
    ∙ ap (λ (rs : List Record). Ok (behind header rs))
    (append_assoc records (record_of form part ∷ []) (map (record_of form) parts))

whole_records_are_read : WholeRecordsAreRead
whole_records_are_read header parts long fine are few =
    ap (λ (end : Result Position CaptureFault). end >>= records_at)
    (further header header [] parts long (begun header long fine) are (omega (arith, few)))
    ∙ ap (λ (b : Bool). if b then Err (CutShort 0) else Ok (map (record_of (form_of header)) parts))
    (le-ltb (length header) 24 (omega (arith, long)))

pub records_are_read : RecordsAreRead
records_are_read = record { identity = identity_is_in_front; whole = whole_records_are_read }

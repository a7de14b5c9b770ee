-- A whole record that is taken at once.
use Rattle.std.proofs.Common.{◌≡◌, ℕ, ◌+◌, ◌≤◌, min, Bool, true, false, List, [], ◌∷◌, ◌++◌, length, take, Option}
use Rattle.std.proofs.Common.{Some, None, Ok, sym}
use Rattle.std.proofs.Common.{subst, ap, ◌∙◌, refl, arith}
use Rattle.std.proofs.lemmas.List.{length-take, nil_from_length}
use Rattle.std.proofs.lemmas.Option.{none-some}
use Rattle.ats_pcap.specs.Capture.{Position, captured_of, form_of, is_whole, position_of, record_fault, record_of}
use Rattle.ats_pcap.specs.Inside.{IsOpen, MayEnd, settled, size_where, whole_size}
use Rattle.ats_pcap.specs.declared.fault.CaptureFault.{CaptureFault}
use Rattle.ats_pcap.specs.declared.form.Form.{Form}
use Rattle.ats_pcap.specs.declared.record.Record.{Record}
use Rattle.ats_pcap.proofs.Records.{captured_of-append, captured_of-front, is_whole-from, is_whole-front}
use Rattle.ats_pcap.proofs.Records.{record_fault-front, record_fault-same, record_of-front, whole_bytes}
use Rattle.ats_pcap.proofs.Settled.{behind_passed, settled_none}
use Rattle.ats_pcap.proofs.Taken.{by_judgement, in_record, longer, settled_open, taken_in_record}

-- a position at the first byte of a record, and the bytes of this record, which has no fault
pub record Passes (p : Position) (part : List ℕ) : Type 0 where
  pub is_open : IsOpen p
  pub header : 24 ≤ length p.header
  pub none : p.there ≡ 0
  pub exact : length part ≡ 16 + captured_of (form_of p.header) part
  pub fine : record_fault (form_of p.header) (length p.records) (length part) part ≡ None

-- behind it
abbrev pub passed : Position → List ℕ → Position
passed p part = record {
  header = p.header;
  records = p.records ++ record_of (form_of p.header) part ∷ [];
  there = 0;
  front = [];
}

-- nothing is kept of a record before its first byte
pub front_none : (p : Position) → IsOpen p → p.there ≡ 0 → p.front ≡ []
front_none p is_open none = nil_from_length p.front (omega (arith, is_open.front, none))

-- the position at the end of the record, before it is looked at
abbrev whole : Position → List ℕ → Position
whole p part = record { header = p.header; records = p.records; there = length part; front = take 32 part }

whole_is : (p : Position) (part : List ℕ) → Passes p part → whole p part ≡ longer p part
whole_is p part s =
    let of : ℕ → List ℕ → Position = λ there front.
    record { header = p.header; records = p.records; there = there; front = take 32 (front ++ part) } in
    let at : length part ≡ p.there + length part = omega (arith, s.none) in
    ap (λ n. of n []) at ∙ ap (of (p.there + length part)) (sym (front_none p s.is_open s.none))

may_end : (p : Position) (part : List ℕ) → Passes p part → MayEnd (whole p part)
may_end p part s =
    let kept : length (take 32 part) ≡ min 32 (length part) = length-take 32 part in
    let counted : captured_of (form_of p.header) (take 32 part) ≡ captured_of (form_of p.header) part =
    captured_of-front (form_of p.header) part (omega (arith, s.exact)) in
    record {
      header = s.header;
      few = s.is_open.few;
      some = omega (arith, s.exact);
      front = omega (arith, kept);
      most = λ _. omega (arith, counted, s.exact);
    }

settled_whole : (p : Position) (part : List ℕ) → Passes p part → settled (whole p part) ≡ Ok (passed p part)
settled_whole p part s =
    let form : Form = form_of p.header in
    let there : is_whole form (length part) (take 32 part) ≡ true =
    is_whole-front form part
    ∙ is_whole-from form (length part) part (omega (arith, s.exact)) (omega (arith, s.exact)) in
    settled_none (whole p part) (record_fault-front form (length p.records) part ∙ s.fine)
    ∙ ap Ok (behind_passed (whole p part) (take 32 part) form (record_of form part) refl refl (sym there)
    (sym (record_of-front form part s.exact)))

-- the joined bytes end behind the record
pub position_of-passed : (bytes part : List ℕ) (p : Position) → position_of bytes ≡ Ok p → Passes p part
    → position_of (bytes ++ part) ≡ Ok (passed p part)
position_of-passed bytes part p h s =
    in_record bytes part p h s.header (subst MayEnd (whole_is p part s) (may_end p part s))
    ∙ taken_in_record p part s.header ∙ ap settled (sym (whole_is p part s)) ∙ settled_whole p part s

-- which is between two bytes
pub passed-open : (p : Position) (part : List ℕ) → Passes p part → IsOpen (passed p part)
passed-open p part s =
    let at : Position = whole p part in
    settled_open at (passed p part) (may_end p part s)
    (record_fault (form_of at.header) (length at.records) at.there at.front) refl
    (is_whole (form_of at.header) at.there at.front) refl
    (sym (by_judgement at) ∙ settled_whole p part s) s.is_open.header

-- what the size of a whole record says of the bytes that it is the size of
pub record HasWhole (form : Form) (before : ℕ) (bytes : List ℕ) (size : ℕ) : Type 0 where
  pub is : size ≡ 16 + captured_of form bytes
  pub within : size ≤ length bytes
  pub fine : record_fault form before (length bytes) bytes ≡ None

same_Some : (a b : ℕ) → Some a ≡ Some b → a ≡ b
same_Some a b h = cc

pub has_whole : (form : Form) (before : ℕ) (bytes : List ℕ) (size : ℕ) → whole_size form before bytes ≡ Some size
    → HasWhole form before bytes size
unfolding whole_size
has_whole form before bytes size h =
    by (record_fault form before (length bytes) bytes) refl (is_whole form (length bytes) bytes) refl h
  where
    by : (fault : Option CaptureFault) → record_fault form before (length bytes) bytes ≡ fault
        → (all : Bool) → is_whole form (length bytes) bytes ≡ all
        → size_where fault all (16 + captured_of form bytes) ≡ Some size → HasWhole form before bytes size
    by (Some f) e all w g = absurd (none-some size g)
    by None e false w g = absurd (none-some size g)
    by None e true w g =
        let there : (16 ≤ length bytes) × (16 + captured_of form bytes ≤ length bytes) =
        whole_bytes form (length bytes) bytes w in
        let same : 16 + captured_of form bytes ≡ size = same_Some (16 + captured_of form bytes) size g in
        record {
          is = sym same;
          within = omega (arith, same, there.1);
          fine = e;
        }

-- the bytes of a whole record, cut off from what is behind them
pub passes : (p : Position) (rest part after : List ℕ) (form : Form) (size : ℕ) → IsOpen p → 24 ≤ length p.header
    → p.there ≡ 0 → form ≡ form_of p.header → HasWhole form (length p.records) rest size → part ++ after ≡ rest
    → length part ≡ size → Passes p part
passes p rest part after form size is_open header none is_form has split long =
    let of : HasWhole (form_of p.header) (length p.records) (part ++ after) size =
    subst (λ (f : Form). HasWhole f (length p.records) (part ++ after) size) is_form
    (subst (λ (bs : List ℕ). HasWhole form (length p.records) bs size) (sym split) has) in
    let enough : 16 ≤ length part = omega (arith, of.is, long) in
    let counted : captured_of (form_of p.header) (part ++ after) ≡ captured_of (form_of p.header) part =
    captured_of-append (form_of p.header) part after enough in
    record {
      is_open = is_open;
      header = header;
      none = none;
      exact = omega (arith, of.is, long, counted);
      fine = sym (record_fault-same (form_of p.header) (length p.records) part after enough) ∙ of.fine;
    }

-- the position behind it, with nothing kept of the next record
pub passed_is : (p : Position) (part : List ℕ) (form : Form) (r : Record) (records : List Record) → IsOpen p
    → p.there ≡ 0 → form ≡ form_of p.header → r ≡ record_of form part → records ≡ p.records ++ r ∷ []
    → passed p part ≡ record { header = p.header; records = records; there = p.there; front = p.front }
passed_is p part form r records is_open none is_form is_record more =
    let of : List Record → ℕ → List ℕ → Position = λ rs there front.
    record { header = p.header; records = rs; there = there; front = front } in
    ap (λ f. of (p.records ++ record_of f part ∷ []) 0 []) (sym is_form)
    ∙ ap (λ x. of (p.records ++ x ∷ []) 0 []) (sym is_record)
    ∙ ap (λ rs. of rs 0 []) (sym more)
    ∙ ap (λ n. of records n []) (sym none)
    ∙ ap (of records p.there) (sym (front_none p is_open none))

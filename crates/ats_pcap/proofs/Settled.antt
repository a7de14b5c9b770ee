use Rattle.std.proofs.Common.{◌≡◌, ℕ, ◌≤◌, Bool, true, false, List, [], ◌∷◌, ◌++◌, length, min, Option, Some, None, Ok}
use Rattle.std.proofs.Common.{Err, if◌then◌else◌, sym, ap, ◌∙◌, arith}
use Rattle.ats_pcap.specs.Capture.{Position, form_of, is_whole, record_fault, record_of, without}
use Rattle.ats_pcap.specs.Inside.{behind_whole, settled}
use Rattle.ats_pcap.specs.declared.fault.CaptureFault.{CaptureFault}
use Rattle.ats_pcap.specs.declared.form.Form.{Form}
use Rattle.ats_pcap.specs.declared.record.Record.{Record}
use Rattle.ats_pcap.proofs.Records.{whole_bytes}

-- the fault of the bytes after the last record, by the form and the bytes that the code has
pub fault_seen : (p : Position) (header front : List ℕ) (form : Form) (count : ℕ) (fault : Option CaptureFault)
    → header ≡ p.header → form ≡ form_of header → front ≡ p.front → count ≡ length p.records
    → fault ≡ record_fault form count p.there front
    → record_fault (form_of p.header) (length p.records) p.there p.front ≡ fault
fault_seen p header front form count fault is_header is_form is_front is_count h =
    sym (h ∙ ap (λ f. record_fault f count p.there front) (is_form ∙ ap form_of is_header)
    ∙ ap (λ n. record_fault (form_of p.header) n p.there front) is_count
    ∙ ap (record_fault (form_of p.header) (length p.records) p.there) is_front)

pub settled_fault : (p : Position) (fault : CaptureFault)
    → record_fault (form_of p.header) (length p.records) p.there p.front ≡ Some fault → settled p ≡ Err fault
unfolding settled
settled_fault p fault h = ap (λ o. without o (Ok (behind_whole p))) h

pub settled_none : (p : Position)
    → record_fault (form_of p.header) (length p.records) p.there p.front ≡ None → settled p ≡ Ok (behind_whole p)
unfolding settled
settled_none p h = ap (λ o. without o (Ok (behind_whole p))) h

-- a record that is not whole stays as it is, and a whole one is kept
whole_seen : (p : Position) (front : List ℕ) (form : Form) (whole : Bool) → form ≡ form_of p.header → front ≡ p.front
    → whole ≡ is_whole form p.there front → is_whole (form_of p.header) p.there p.front ≡ whole
whole_seen p front form whole is_form is_front h =
    sym (h ∙ ap (λ f. is_whole f p.there front) is_form ∙ ap (is_whole (form_of p.header) p.there) is_front)

abbrev passed : Position → Record → Position
passed p r = record { header = p.header; records = p.records ++ r ∷ []; there = 0; front = [] }

pub behind_open : (p : Position) (front : List ℕ) (form : Form) → form ≡ form_of p.header → front ≡ p.front
    → false ≡ is_whole form p.there front → behind_whole p ≡ p
behind_open p front form is_form is_front h =
    ap (λ b. if b then passed p (record_of (form_of p.header) p.front) else p)
    (whole_seen p front form false is_form is_front h)

pub behind_passed : (p : Position) (front : List ℕ) (form : Form) (r : Record) → form ≡ form_of p.header
    → front ≡ p.front → true ≡ is_whole form p.there front → r ≡ record_of form front
    → behind_whole p ≡ record { header = p.header; records = p.records ++ r ∷ []; there = 0; front = [] }
behind_passed p front form r is_form is_front h is_record =
    ap (λ b. if b then passed p (record_of (form_of p.header) p.front) else p)
    (whole_seen p front form true is_form is_front h)
    ∙ sym (ap (passed p) (is_record ∙ ap (λ f. record_of f front) is_form
    ∙ ap (record_of (form_of p.header)) is_front))

-- a whole record has its header among the bytes that are kept
pub whole_front : (p : Position) (front : List ℕ) (form : Form) → front ≡ p.front → length p.front ≡ min p.there 32
    → true ≡ is_whole form p.there front → 16 ≤ length front
whole_front p front form is_front kept h =
    let there : (16 ≤ p.there) × (_ ≤ p.there) = whole_bytes form p.there front (sym h) in
    let same : length front ≡ length p.front = ap length is_front in
    omega (arith, there.0, same, kept)

use Rattle.std.proofs.Common.{◌≡◌, ℕ, zero, suc, ◌+◌, ◌-◌, ◌<◌, ◌≤◌, Bool, true, false, List, [], ◌∷◌, ◌++◌, length}
use Rattle.std.proofs.Common.{drop, Option, Some, None, Result, Ok, if◌then◌else◌, refl, sym, ap, ◌∙◌, arith, inl, inr}
use Rattle.std.proofs.lemmas.Bool.{cases_lt}
use Rattle.std.proofs.lemmas.List.{length-append, length-drop, drop-append-le}
use Rattle.ats_num.specs.Failure.{◌>>=◌}
use Rattle.ats_pcap.specs.Capture.{Reach, captured_of, is_whole, past_record, read_on, record_fault, record_of, without}
use Rattle.ats_pcap.specs.declared.fault.CaptureFault.{CaptureFault}
use Rattle.ats_pcap.specs.declared.form.Form.{Form}
use Rattle.ats_pcap.specs.declared.record.Record.{Record}
use Rattle.ats_pcap.proofs.Records.{captured_of-append, is_whole-append, record_fault-append, record_fault-same}
use Rattle.ats_pcap.proofs.Records.{record_of-append, whole_bytes}

-- as far, with a further part behind it
abbrev pub further : Reach → List ℕ → Reach
further reach part = record { records = reach.records; rest = reach.rest ++ part }

-- what the bytes after the last record show, of which there are so many: a fault, a whole record, or neither
abbrev pub turn : Form → Reach → ℕ → Result Reach CaptureFault → Result Reach CaptureFault
turn form reach there next = without (record_fault form (length reach.records) there reach.rest)
    (if is_whole form there reach.rest then next else Ok reach)

turn_at_end : (form : Form) (reach : Reach) (next : Result Reach CaptureFault) → turn form reach 0 next ≡ Ok reach
unfolding record_fault is_whole
turn_at_end form reach next = refl

-- where no byte is left, reading is at its end
pub at_end : (turns : ℕ) (form : Form) (reach : Reach) → length reach.rest ≡ 0 → read_on turns form reach ≡ Ok reach
at_end zero form reach h = refl
at_end (suc turns) form reach h =
    ap (λ n. turn form reach n (read_on turns form (past_record form reach))) h
    ∙ turn_at_end form reach (read_on turns form (past_record form reach))

-- as many turns as bytes are enough
pub fuel : (m k : ℕ) (form : Form) (reach : Reach) → length reach.rest ≤ m → length reach.rest ≤ k
    → read_on m form reach ≡ read_on k form reach
fuel zero k form reach h g =
    let none : length reach.rest ≡ 0 = omega (arith, h) in
    at_end zero form reach none ∙ sym (at_end k form reach none)
fuel (suc m) zero form reach h g =
    let none : length reach.rest ≡ 0 = omega (arith, g) in
    at_end (suc m) form reach none ∙ sym (at_end zero form reach none)
fuel (suc m) (suc k) form reach h g =
    let size : ℕ = 16 + captured_of form reach.rest in
    let more : 16 ≤ size = omega arith in
    let left : length (drop size reach.rest) ≡ length reach.rest - size = length-drop size reach.rest in
    ap (turn form reach (length reach.rest)) (fuel m k form (past_record form reach) (omega (arith, left, more, h))
    (omega (arith, left, more, g)))

-- a record further, and then a part behind it, or the other way round
past_further : (form : Form) (reach : Reach) (part : List ℕ) → 16 + captured_of form reach.rest ≤ length reach.rest
    → past_record form (further reach part) ≡ further (past_record form reach) part
past_further form reach part h =
    let of : Record → List ℕ → Reach = λ r rest. record { records = reach.records ++ r ∷ []; rest = rest } in
    let whole : List ℕ = reach.rest ++ part in
    ap (λ r. of r (drop (16 + captured_of form whole) whole)) (record_of-append form reach.rest part h)
    ∙ ap (λ n. of (record_of form reach.rest) (drop (16 + n) whole))
    (captured_of-append form reach.rest part (omega (arith, h)))
    ∙ ap (of (record_of form reach.rest)) (drop-append-le (16 + captured_of form reach.rest) reach.rest part h)

-- one turn with a further part: as without it where there is a fault or a whole record, and else from there on
one_turn : (form : Form) (reach : Reach) (part : List ℕ) (next : Result Reach CaptureFault)
    (after : Reach → Result Reach CaptureFault) (reading : Reach → Result Reach CaptureFault)
    → 0 < length reach.rest
    → reading (further (past_record form reach) part) ≡ (next >>= after)
    → turn form (further reach part) (length (reach.rest ++ part)) (reading (past_record form (further reach part)))
    ≡ after reach
    → (fault : Option CaptureFault) → record_fault form (length reach.records) (length reach.rest) reach.rest ≡ fault
    → (whole : Bool) → is_whole form (length reach.rest) reach.rest ≡ whole
    → turn form (further reach part) (length (reach.rest ++ part)) (reading (past_record form (further reach part)))
    ≡ (turn form reach (length reach.rest) next >>= after)
one_turn form reach part next after reading some step rest (Some f) e whole w =
    let here : Result Reach CaptureFault = if is_whole form (length reach.rest) reach.rest then next else Ok reach in
    let there : Result Reach CaptureFault = if is_whole form (length (reach.rest ++ part)) (reach.rest ++ part)
    then reading (past_record form (further reach part)) else Ok (further reach part) in
    ap (λ o. without o there) (record_fault-append form (length reach.records) reach.rest part f some e)
    ∙ sym (ap (λ o. without o here >>= after) e)
one_turn form reach part next after reading some step rest None e true w =
    let size : (16 ≤ length reach.rest) × (16 + captured_of form reach.rest ≤ length reach.rest) =
    whole_bytes form (length reach.rest) reach.rest w in
    let here : Bool → Result Reach CaptureFault = λ b. if b then next else Ok reach in
    let there : Bool → Result Reach CaptureFault = λ b.
    if b then reading (past_record form (further reach part)) else Ok (further reach part) in
    ap (λ o. without o (there (is_whole form (length (reach.rest ++ part)) (reach.rest ++ part))))
    (record_fault-same form (length reach.records) reach.rest part size.0 ∙ e)
    ∙ ap there (is_whole-append form reach.rest part w)
    ∙ ap reading (past_further form reach part size.1)
    ∙ step
    ∙ sym (ap (λ o. without o (here (is_whole form (length reach.rest) reach.rest)) >>= after) e
    ∙ ap (λ b. here b >>= after) w)
one_turn form reach part next after reading some step rest None e false w =
    let here : Bool → Result Reach CaptureFault = λ b. if b then next else Ok reach in
    rest
    ∙ sym (ap (λ o. without o (here (is_whole form (length reach.rest) reach.rest)) >>= after) e
    ∙ ap (λ b. here b >>= after) w)

-- reading may stop anywhere, and go on from there when more bytes have come
pub read_on-append : (m n k : ℕ) (form : Form) (reach : Reach) (part : List ℕ) → length reach.rest ≤ m
    → length reach.rest + length part ≤ n → length reach.rest + length part ≤ k
    → read_on n form (further reach part) ≡ (read_on m form reach >>= λ r. read_on k form (further r part))
read_on-append zero n k form reach part hm hn hk =
    let both : length (reach.rest ++ part) ≡ length reach.rest + length part = length-append reach.rest part in
    fuel n k form (further reach part) (omega (arith, both, hn)) (omega (arith, both, hk))
read_on-append (suc m) zero k form reach part hm hn hk =
    let both : length (reach.rest ++ part) ≡ length reach.rest + length part = length-append reach.rest part in
    let none : length reach.rest ≡ 0 = omega (arith, hn) in
    fuel zero k form (further reach part) (omega (arith, both, hn)) (omega (arith, both, hk))
    ∙ sym (ap (λ x. x >>= λ r. read_on k form (further r part)) (at_end (suc m) form reach none))
read_on-append (suc m) (suc n) k form reach part hm hn hk =
    let both : length (reach.rest ++ part) ≡ length reach.rest + length part = length-append reach.rest part in
    let size : ℕ = 16 + captured_of form reach.rest in
    let more : 16 ≤ size = omega arith in
    let left : length (drop size reach.rest) ≡ length reach.rest - size = length-drop size reach.rest in
    let on : read_on (suc n) form (further reach part) ≡ read_on k form (further reach part) =
    fuel (suc n) k form (further reach part) (omega (arith, both, hn)) (omega (arith, both, hk)) in
    elim (cases_lt 0 (length reach.rest)) as (λ _. read_on (suc n) form (further reach part)
    ≡ (read_on (suc m) form reach >>= λ r. read_on k form (further r part))) [
      | inl some ↦ (
          one_turn form reach part (read_on m form (past_record form reach)) (λ r. read_on k form (further r part))
          (read_on n form) some
          (read_on-append m n k form (past_record form reach) part (omega (arith, left, more, hm, some))
          (omega (arith, left, more, hn, some)) (omega (arith, left, more, hk, some))) on
          (record_fault form (length reach.records) (length reach.rest) reach.rest) refl
          (is_whole form (length reach.rest) reach.rest) refl)
      | inr none ↦ (
          let nothing : length reach.rest ≡ 0 = omega (arith, none) in
          on ∙ sym (ap (λ x. x >>= λ r. read_on k form (further r part)) (at_end (suc m) form reach nothing)))
    ]

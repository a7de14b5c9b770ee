use Rattle.std.proofs.Common.{◌≡◌, ℕ, ◌+◌, ◌-◌, ◌*◌, ◌%◌, ◌<◌, ◌≤◌, min, max, Bool, true, false, ◌&&◌, ◌==◌, nat_lt}
use Rattle.std.proofs.Common.{nat_le, List, ◌∷◌, ◌++◌, length, take, drop, Option, Some, None, if◌then◌else◌, refl}
use Rattle.std.proofs.Common.{sym, ap, ◌∙◌, arith, inl, inr, ◌⊎◌}
use Rattle.std.specs.Int.{w64, from_be_bytes}
use Rattle.std.proofs.lemmas.Bool.{cases_lt, lt-ltb, le-ltb, le-leb, lt-leb, leb-true, ltb-false, ne_eqb}
use Rattle.std.proofs.lemmas.Bool.{eqb-false, true≢false}
use Rattle.std.proofs.lemmas.List.{length-append, length-drop, length-take, take-append-le, take_all}
use Rattle.std.proofs.lemmas.List.{drop-take}
use Rattle.std.proofs.lemmas.Option.{none-some}
use Rattle.ats_pcap.specs.Capture.{captured_of, is_whole, nanos_of, record_fault, record_of}
use Rattle.ats_pcap.specs.Identity.{address_of, identity_of}
use Rattle.ats_pcap.specs.Numbers.{number16, number32}
use Rattle.ats_pcap.specs.declared.fault.CaptureFault.{CaptureFault}
use Rattle.ats_pcap.specs.declared.fault.CaptureFault.TheVariants.{RecordTooLong, Limit}
use Rattle.ats_pcap.specs.declared.form.ByteOrder.TheVariants.{HighFirst}
use Rattle.ats_pcap.specs.declared.form.Form.{Form}
use Rattle.ats_pcap.specs.declared.record.Record.{Record}
use Rattle.ats_pcap.proofs.Places.{by_front, number16-append, number32-append, part-append}

-- once the header of a record is there, its captured bytes are counted
pub captured_of-append : (form : Form) (xs ys : List ℕ) → 16 ≤ length xs
    → captured_of form (xs ++ ys) ≡ captured_of form xs
captured_of-append form xs ys h = number32-append form.order 8 xs ys (omega (arith, h))

pub captured_of-front : (form : Form) (xs : List ℕ) → 16 ≤ length xs
    → captured_of form (take 32 xs) ≡ captured_of form xs
captured_of-front form xs h = by_front (captured_of form) 16 (captured_of-append form) 32 xs (omega arith) h

-- the fault of a record by four tests
abbrev of_tests : Bool → Bool → Bool → Bool → ℕ → Option CaptureFault
of_tests none full few long before = if none then None else if full then Some (Limit 1_000_001)
    else if few then None else if long then Some (RecordTooLong (before + 1)) else None

-- by which tests: no byte, no further record, a header that is not all there, too many captured bytes
by_tests : (form : Form) (before there : ℕ) (bytes : List ℕ) → record_fault form before there bytes
    ≡ of_tests (there == 0) (before == 1_000_000) (nat_lt there 16) (nat_lt 262_144 (captured_of form bytes)) before
unfolding record_fault
by_tests form before there bytes = refl

pub not_zero : (n : ℕ) → 0 < n → (n == 0) ≡ false
not_zero n h = ne_eqb n 0 (λ e. omega (arith, e, h))

-- the fault is seen in the first bytes
pub record_fault-front : (form : Form) (before : ℕ) (xs : List ℕ)
    → record_fault form before (length xs) (take 32 xs) ≡ record_fault form before (length xs) xs
record_fault-front form before xs =
    by_tests form before (length xs) (take 32 xs) ∙ by (cases_lt (length xs) 16)
    ∙ sym (by_tests form before (length xs) xs)
  where
    by : (length xs < 16) ⊎ (16 ≤ length xs)
        → of_tests (length xs == 0) (before == 1_000_000) (nat_lt (length xs) 16)
        (nat_lt 262_144 (captured_of form (take 32 xs))) before
        ≡ of_tests (length xs == 0) (before == 1_000_000) (nat_lt (length xs) 16)
        (nat_lt 262_144 (captured_of form xs)) before
    by (inl short) =
        let few : nat_lt (length xs) 16 ≡ true = lt-ltb (length xs) 16 short in
        ap (λ f. of_tests (length xs == 0) (before == 1_000_000) f
        (nat_lt 262_144 (captured_of form (take 32 xs))) before) few
        ∙ sym (ap (λ f. of_tests (length xs == 0) (before == 1_000_000) f
        (nat_lt 262_144 (captured_of form xs)) before) few)
    by (inr there) =
        ap (λ n. of_tests (length xs == 0) (before == 1_000_000) (nat_lt (length xs) 16) (nat_lt 262_144 n) before)
        (captured_of-front form xs there)

-- once the header of a record is there, its fault doesn't change
pub record_fault-same : (form : Form) (before : ℕ) (xs ys : List ℕ) → 16 ≤ length xs
    → record_fault form before (length (xs ++ ys)) (xs ++ ys) ≡ record_fault form before (length xs) xs
record_fault-same form before xs ys h =
    let both : length (xs ++ ys) ≡ length xs + length ys = length-append xs ys in
    let none : ((length (xs ++ ys)) == 0) ≡ (length xs == 0) =
    not_zero (length (xs ++ ys)) (omega (arith, both, h)) ∙ sym (not_zero (length xs) (omega (arith, h))) in
    let few : nat_lt (length (xs ++ ys)) 16 ≡ nat_lt (length xs) 16 =
    le-ltb (length (xs ++ ys)) 16 (omega (arith, both, h)) ∙ sym (le-ltb (length xs) 16 h) in
    let long : ℕ → Bool = λ n. nat_lt 262_144 n in
    by_tests form before (length (xs ++ ys)) (xs ++ ys)
    ∙ ap (λ b. of_tests b (before == 1_000_000) (nat_lt (length (xs ++ ys)) 16)
    (long (captured_of form (xs ++ ys))) before) none
    ∙ ap (λ b. of_tests (length xs == 0) (before == 1_000_000) b (long (captured_of form (xs ++ ys))) before) few
    ∙ ap (λ n. of_tests (length xs == 0) (before == 1_000_000) (nat_lt (length xs) 16) (long n) before)
    (captured_of-append form xs ys h)
    ∙ sym (by_tests form before (length xs) xs)

-- that a capture has no further record is seen with the first byte of one
limit_stays : (full few long more : Bool) (before : ℕ) (fault : CaptureFault)
    → of_tests false full true long before ≡ Some fault → of_tests false full few more before ≡ Some fault
limit_stays true few long more before fault h = h
limit_stays false few long more before fault h = absurd (none-some fault h)

-- a fault of a record that shows stays
pub record_fault-append : (form : Form) (before : ℕ) (xs ys : List ℕ) (fault : CaptureFault) → 0 < length xs
    → record_fault form before (length xs) xs ≡ Some fault
    → record_fault form before (length (xs ++ ys)) (xs ++ ys) ≡ Some fault
record_fault-append form before xs ys fault some h = by (cases_lt (length xs) 16)
  where
    by : (length xs < 16) ⊎ (16 ≤ length xs)
        → record_fault form before (length (xs ++ ys)) (xs ++ ys) ≡ Some fault
    by (inl short) =
        let both : length (xs ++ ys) ≡ length xs + length ys = length-append xs ys in
        let few : nat_lt (length xs) 16 ≡ true = lt-ltb (length xs) 16 short in
        let shown : of_tests false (before == 1_000_000) true (nat_lt 262_144 (captured_of form xs)) before
        ≡ Some fault =
        sym (by_tests form before (length xs) xs
        ∙ ap (λ b. of_tests b (before == 1_000_000) (nat_lt (length xs) 16)
        (nat_lt 262_144 (captured_of form xs)) before) (not_zero (length xs) some)
        ∙ ap (λ b. of_tests false (before == 1_000_000) b (nat_lt 262_144 (captured_of form xs)) before) few) ∙ h in
        by_tests form before (length (xs ++ ys)) (xs ++ ys)
        ∙ ap (λ b. of_tests b (before == 1_000_000) (nat_lt (length (xs ++ ys)) 16)
        (nat_lt 262_144 (captured_of form (xs ++ ys))) before)
        (not_zero (length (xs ++ ys)) (omega (arith, both, some)))
        ∙ limit_stays (before == 1_000_000) (nat_lt (length (xs ++ ys)) 16) (nat_lt 262_144 (captured_of form xs))
        (nat_lt 262_144 (captured_of form (xs ++ ys))) before fault shown
    by (inr there) = record_fault-same form before xs ys there ∙ h

-- a record with bytes and without a fault is none too many, and its captured bytes are few enough once they are counted
pub record RecordAllowed (form : Form) (before there : ℕ) (bytes : List ℕ) : Type 0 where
  pub room : before ≡ 1_000_000 → ⊥
  pub short : 16 ≤ there → captured_of form bytes ≤ 262_144

tests_none : (full few long : Bool) (before : ℕ) → of_tests false full few long before ≡ None
    → (full ≡ false) × (few ≡ false → long ≡ false)
tests_none true few long before h = absurd (none-some (Limit 1_000_001) (sym h))
tests_none false true long before h = (refl, λ e. absurd (true≢false e))
tests_none false false true before h = absurd (none-some (RecordTooLong (before + 1)) (sym h))
tests_none false false false before h = (refl, λ e. refl)

pub allowed : (form : Form) (before there : ℕ) (bytes : List ℕ) → 0 < there
    → record_fault form before there bytes ≡ None → RecordAllowed form before there bytes
allowed form before there bytes some h =
    let tests : of_tests false (before == 1_000_000) (nat_lt there 16) (nat_lt 262_144 (captured_of form bytes)) before
    ≡ None =
    sym (by_tests form before there bytes ∙ ap (λ b. of_tests b (before == 1_000_000) (nat_lt there 16)
    (nat_lt 262_144 (captured_of form bytes)) before) (not_zero there some)) ∙ h in
    let parts : ((before == 1_000_000) ≡ false)
    × (nat_lt there 16 ≡ false → nat_lt 262_144 (captured_of form bytes) ≡ false) =
    tests_none (before == 1_000_000) (nat_lt there 16) (nat_lt 262_144 (captured_of form bytes)) before tests in
    record {
      room = eqb-false before 1_000_000 parts.0;
      short = λ enough. ltb-false 262_144 (captured_of form bytes) (parts.1 (le-ltb there 16 enough));
    }

-- a record is whole exactly where its header and its captured bytes are there
and_parts : (a b : Bool) → (a && b) ≡ true → (a ≡ true) × (b ≡ true)
and_parts true b h = (refl, h)
and_parts false b h = absurd (true≢false (sym h))

pub whole_bytes : (form : Form) (there : ℕ) (bytes : List ℕ) → is_whole form there bytes ≡ true
    → (16 ≤ there) × (16 + captured_of form bytes ≤ there)
unfolding is_whole
whole_bytes form there bytes h =
    let parts : (nat_le 16 there ≡ true) × (nat_le (16 + captured_of form bytes) there ≡ true) =
    and_parts (nat_le 16 there) (nat_le (16 + captured_of form bytes) there) h in
    (leb-true 16 there parts.0, leb-true (16 + captured_of form bytes) there parts.1)

pub is_whole-from : (form : Form) (there : ℕ) (bytes : List ℕ) → 16 ≤ there → 16 + captured_of form bytes ≤ there
    → is_whole form there bytes ≡ true
unfolding is_whole
is_whole-from form there bytes h g =
    ap (λ b. b && nat_le (16 + captured_of form bytes) there) (le-leb 16 there h)
    ∙ le-leb (16 + captured_of form bytes) there g

pub not_whole : (form : Form) (there : ℕ) (bytes : List ℕ) → is_whole form there bytes ≡ false → 16 ≤ there
    → there < 16 + captured_of form bytes
not_whole form there bytes h enough = by (cases_lt there (16 + captured_of form bytes))
  where
    by : (there < 16 + captured_of form bytes) ⊎ (16 + captured_of form bytes ≤ there)
        → there < 16 + captured_of form bytes
    by (inl less) = less
    by (inr all) = absurd (true≢false (sym (is_whole-from form there bytes enough all) ∙ h))

pub is_whole-append : (form : Form) (xs ys : List ℕ) → is_whole form (length xs) xs ≡ true
    → is_whole form (length (xs ++ ys)) (xs ++ ys) ≡ true
is_whole-append form xs ys h =
    let parts : (16 ≤ length xs) × (16 + captured_of form xs ≤ length xs) = whole_bytes form (length xs) xs h in
    let both : length (xs ++ ys) ≡ length xs + length ys = length-append xs ys in
    let same : captured_of form (xs ++ ys) ≡ captured_of form xs = captured_of-append form xs ys parts.0 in
    is_whole-from form (length (xs ++ ys)) (xs ++ ys) (omega (arith, both, parts.0))
    (omega (arith, both, same, parts.1))

pub is_whole-front : (form : Form) (xs : List ℕ)
    → is_whole form (length xs) (take 32 xs) ≡ is_whole form (length xs) xs
unfolding is_whole
is_whole-front form xs = by (cases_lt (length xs) 16)
  where
    by : (length xs < 16) ⊎ (16 ≤ length xs)
        → (nat_le 16 (length xs) && nat_le (16 + captured_of form (take 32 xs)) (length xs))
        ≡ (nat_le 16 (length xs) && nat_le (16 + captured_of form xs) (length xs))
    by (inl short) =
        let no : nat_le 16 (length xs) ≡ false = lt-leb 16 (length xs) short in
        ap (λ b. b && nat_le (16 + captured_of form (take 32 xs)) (length xs)) no
        ∙ sym (ap (λ b. b && nat_le (16 + captured_of form xs) (length xs)) no)
    by (inr there) =
        ap (λ n. nat_le 16 (length xs) && nat_le (16 + n) (length xs)) (captured_of-front form xs there)

-- what identifies a frame is seen in its first 16 bytes
address_of-append : (xs ys : List ℕ) → 16 ≤ length xs → address_of (xs ++ ys) ≡ address_of xs
unfolding address_of
address_of-append xs ys h =
    ap (λ (six : List ℕ). from_be_bytes w64 (0 ∷ 0 ∷ six)) (take-append-le 6 xs ys (omega (arith, h)))

pub identity_of-append : (xs ys : List ℕ) → 16 ≤ length xs → identity_of (xs ++ ys) ≡ identity_of xs
unfolding identity_of
identity_of-append xs ys h =
    let of : Bool → ℕ → ℕ → ℕ → Option (ℕ × ℕ) = λ enough tag address vlan.
    if enough && (tag == 0x8100) then Some (address, vlan % 4096) else None in
    let both : length (xs ++ ys) ≡ length xs + length ys = length-append xs ys in
    let enough : nat_le 16 (length (xs ++ ys)) ≡ nat_le 16 (length xs) =
    le-leb 16 (length (xs ++ ys)) (omega (arith, both, h)) ∙ sym (le-leb 16 (length xs) h) in
    ap (λ b. of b (number16 HighFirst 12 (xs ++ ys)) (address_of (xs ++ ys)) (number16 HighFirst 14 (xs ++ ys))) enough
    ∙ ap (λ n. of (nat_le 16 (length xs)) n (address_of (xs ++ ys)) (number16 HighFirst 14 (xs ++ ys)))
    (number16-append HighFirst 12 xs ys (omega (arith, h)))
    ∙ ap (λ n. of (nat_le 16 (length xs)) (number16 HighFirst 12 xs) n (number16 HighFirst 14 (xs ++ ys)))
    (address_of-append xs ys h)
    ∙ ap (of (nat_le 16 (length xs)) (number16 HighFirst 12 xs) (address_of xs))
    (number16-append HighFirst 14 xs ys (omega (arith, h)))

pub identity_of-front : (frame : List ℕ) → identity_of (take 16 frame) ≡ identity_of frame
identity_of-front frame = by (cases_lt (length frame) 16)
  where
    by : (length frame < 16) ⊎ (16 ≤ length frame) → identity_of (take 16 frame) ≡ identity_of frame
    by (inl short) = ap identity_of (take_all 16 frame (omega (arith, short)))
    by (inr there) = by_front identity_of 16 identity_of-append 16 frame (omega arith) there

-- a record of these numbers and this identity
abbrev with_numbers : Form → ℕ → ℕ → ℕ → Option (ℕ × ℕ) → Record
with_numbers form seconds fraction original identity = record {
  nanos = seconds * 1_000_000_000 + fraction * nanos_of form.fraction;
  octets = max original 60 + 4;
  identity = identity;
}

abbrev captured_bytes : Form → List ℕ → List ℕ
captured_bytes form bytes = take (captured_of form bytes) (drop 16 bytes)

by_numbers : (form : Form) (bytes : List ℕ) → record_of form bytes
    ≡ with_numbers form (number32 form.order 0 bytes) (number32 form.order 4 bytes) (number32 form.order 12 bytes)
    (identity_of (captured_bytes form bytes))
unfolding record_of
by_numbers form bytes = refl

-- two beginnings of a record with the same header and the same identity make the same record
same_record : (form : Form) (xs ys : List ℕ)
    → ((place : ℕ) → place + 4 ≤ 16 → number32 form.order place xs ≡ number32 form.order place ys)
    → identity_of (captured_bytes form xs) ≡ identity_of (captured_bytes form ys)
    → record_of form xs ≡ record_of form ys
same_record form xs ys same identity =
    by_numbers form xs
    ∙ ap (λ n. with_numbers form n (number32 form.order 4 xs) (number32 form.order 12 xs)
    (identity_of (captured_bytes form xs))) (same 0 (omega arith))
    ∙ ap (λ n. with_numbers form (number32 form.order 0 ys) n (number32 form.order 12 xs)
    (identity_of (captured_bytes form xs))) (same 4 (omega arith))
    ∙ ap (λ n. with_numbers form (number32 form.order 0 ys) (number32 form.order 4 ys) n
    (identity_of (captured_bytes form xs))) (same 12 (omega arith))
    ∙ ap (with_numbers form (number32 form.order 0 ys) (number32 form.order 4 ys) (number32 form.order 12 ys)) identity
    ∙ sym (by_numbers form ys)

-- a whole record is the same, whatever comes behind it
pub record_of-append : (form : Form) (xs ys : List ℕ) → 16 + captured_of form xs ≤ length xs
    → record_of form (xs ++ ys) ≡ record_of form xs
record_of-append form xs ys h =
    let enough : 16 ≤ length xs = omega (arith, h) in
    let numbers : (place : ℕ) → place + 4 ≤ 16
    → number32 form.order place (xs ++ ys) ≡ number32 form.order place xs =
    λ place fits. number32-append form.order place xs ys (omega (arith, fits, enough)) in
    let bytes : captured_bytes form (xs ++ ys) ≡ captured_bytes form xs =
    ap (λ n. take n (drop 16 (xs ++ ys))) (captured_of-append form xs ys enough)
    ∙ part-append (captured_of form xs) 16 xs ys h in
    same_record form (xs ++ ys) xs numbers (ap identity_of bytes)

-- and it is seen in its first 32 bytes, where no bytes are behind it
pub record_of-front : (form : Form) (xs : List ℕ) → length xs ≡ 16 + captured_of form xs
    → record_of form (take 32 xs) ≡ record_of form xs
record_of-front form xs h =
    let enough : 16 ≤ length xs = omega (arith, h) in
    let numbers : (place : ℕ) → place + 4 ≤ 16
    → number32 form.order place (take 32 xs) ≡ number32 form.order place xs =
    λ place fits. by_front (number32 form.order place) 16
    (λ some more there. number32-append form.order place some more (omega (arith, fits, there))) 32 xs (omega arith)
    enough in
    let frame : List ℕ = drop 16 xs in
    let captured : ℕ = captured_of form xs in
    let size : length frame ≡ length xs - 16 = length-drop 16 xs in
    let front_size : length (take 16 frame) ≡ min 16 (length frame) = length-take 16 frame in
    let identity : identity_of (captured_bytes form (take 32 xs)) ≡ identity_of (captured_bytes form xs) =
    ap (λ n. identity_of (take n (drop 16 (take 32 xs)))) (captured_of-front form xs enough)
    ∙ ap (λ (zs : List ℕ). identity_of (take captured zs)) (drop-take 16 16 xs)
    ∙ ap identity_of (take_all captured (take 16 frame) (omega (arith, front_size, size, h)))
    ∙ identity_of-front frame
    ∙ sym (ap identity_of (take_all captured frame (omega (arith, size, h)))) in
    same_record form (take 32 xs) xs numbers identity

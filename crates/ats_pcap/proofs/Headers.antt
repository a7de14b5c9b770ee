use Rattle.std.proofs.Common.{◌≡◌, ℕ, ◌+◌, ◌<◌, ◌≤◌, Bool, ◌==◌, ◌&&◌, nat_lt, List, ◌++◌, length}
use Rattle.std.proofs.Common.{Option, Some, None, if◌then◌else◌, refl, sym, ap, ◌∙◌, arith, inl, inr, ◌⊎◌}
use Rattle.std.proofs.lemmas.Bool.{cases_lt, lt-ltb, le-ltb}
use Rattle.std.proofs.lemmas.List.{length-append}
use Rattle.std.proofs.lemmas.Option.{none-some}
use Rattle.ats_pcap.specs.Capture.{first_fault, form_of, header_fault, is_magic, link_fault, magic_fault, order_of}
use Rattle.ats_pcap.specs.Capture.{version_fault}
use Rattle.ats_pcap.specs.Numbers.{number16, number32}
use Rattle.ats_pcap.specs.declared.fault.CaptureFault.{CaptureFault}
use Rattle.ats_pcap.specs.declared.fault.CaptureFault.TheVariants.{BadMagic, PcapNg, BadVersion, BadLink}
use Rattle.ats_pcap.specs.declared.form.ByteOrder.{ByteOrder}
use Rattle.ats_pcap.specs.declared.form.ByteOrder.TheVariants.{LowFirst, HighFirst}
use Rattle.ats_pcap.specs.declared.form.Form.{Form}
use Rattle.ats_pcap.specs.declared.form.Fraction.TheVariants.{Microseconds, Nanoseconds}
use Rattle.ats_pcap.proofs.Places.{number16-append, number32-append}

-- with its first four bytes a header says how all numbers are written
pub order_of-append : (xs ys : List ℕ) → 4 ≤ length xs → order_of (xs ++ ys) ≡ order_of xs
unfolding order_of
order_of-append xs ys h =
    let of_number : ℕ → ByteOrder = λ n. if is_magic n then LowFirst else HighFirst in
    ap of_number (number32-append LowFirst 0 xs ys h)

pub ordered32 : (place : ℕ) (xs ys : List ℕ) → 4 ≤ length xs → place + 4 ≤ length xs
    → number32 (order_of (xs ++ ys)) place (xs ++ ys) ≡ number32 (order_of xs) place xs
ordered32 place xs ys h there =
    ap (λ o. number32 o place (xs ++ ys)) (order_of-append xs ys h) ∙ number32-append (order_of xs) place xs ys there

pub ordered16 : (place : ℕ) (xs ys : List ℕ) → 4 ≤ length xs → place + 2 ≤ length xs
    → number16 (order_of (xs ++ ys)) place (xs ++ ys) ≡ number16 (order_of xs) place xs
ordered16 place xs ys h there =
    ap (λ o. number16 o place (xs ++ ys)) (order_of-append xs ys h) ∙ number16-append (order_of xs) place xs ys there

pub form_of-append : (xs ys : List ℕ) → 4 ≤ length xs → form_of (xs ++ ys) ≡ form_of xs
unfolding form_of
form_of-append xs ys h =
    let with : ByteOrder → ℕ → Form = λ o n. record {
      order = o;
      fraction = if n == 0xA1B23C4D then Nanoseconds else Microseconds;
    } in
    ap (λ o. with o (number32 (order_of (xs ++ ys)) 0 (xs ++ ys))) (order_of-append xs ys h)
    ∙ ap (with (order_of xs)) (ordered32 0 xs ys h h)

-- whether there are too few bytes, where there are enough, stays so
enough : (count : ℕ) (xs ys : List ℕ) → count ≤ length xs
    → nat_lt (length (xs ++ ys)) count ≡ nat_lt (length xs) count
enough count xs ys h =
    let both : length (xs ++ ys) ≡ length xs + length ys = length-append xs ys in
    le-ltb (length (xs ++ ys)) count (omega (arith, both, h)) ∙ sym (le-ltb (length xs) count h)

-- each of the three parts of a header is judged once its bytes are there
pub magic_fault-append : (xs ys : List ℕ) → 4 ≤ length xs → magic_fault (xs ++ ys) ≡ magic_fault xs
magic_fault-append xs ys h =
    let of : Bool → ℕ → ℕ → Option CaptureFault = λ few pcapng own. if few then None
    else if pcapng == 0x0A0D0D0A then Some PcapNg
    else if is_magic own then None else Some BadMagic in
    ap (λ few. of few (number32 HighFirst 0 (xs ++ ys)) (number32 (order_of (xs ++ ys)) 0 (xs ++ ys)))
    (enough 4 xs ys h)
    ∙ ap (λ n. of (nat_lt (length xs) 4) n (number32 (order_of (xs ++ ys)) 0 (xs ++ ys)))
    (number32-append HighFirst 0 xs ys h)
    ∙ ap (of (nat_lt (length xs) 4) (number32 HighFirst 0 xs)) (ordered32 0 xs ys h h)

pub version_fault-append : (xs ys : List ℕ) → 8 ≤ length xs → version_fault (xs ++ ys) ≡ version_fault xs
version_fault-append xs ys h =
    let of : Bool → ℕ → ℕ → Option CaptureFault = λ few major minor. if few then None
    else if (major == 2) && (minor == 4) then None else Some BadVersion in
    let four : 4 ≤ length xs = omega (arith, h) in
    ap (λ few. of few (number16 (order_of (xs ++ ys)) 4 (xs ++ ys)) (number16 (order_of (xs ++ ys)) 6 (xs ++ ys)))
    (enough 8 xs ys h)
    ∙ ap (λ n. of (nat_lt (length xs) 8) n (number16 (order_of (xs ++ ys)) 6 (xs ++ ys)))
    (ordered16 4 xs ys four (omega (arith, h)))
    ∙ ap (of (nat_lt (length xs) 8) (number16 (order_of xs) 4 xs)) (ordered16 6 xs ys four h)

pub link_fault-append : (xs ys : List ℕ) → 24 ≤ length xs → link_fault (xs ++ ys) ≡ link_fault xs
link_fault-append xs ys h =
    let of : Bool → ℕ → Option CaptureFault = λ few link. if few then None
    else if link == 1 then None else Some BadLink in
    ap (λ few. of few (number32 (order_of (xs ++ ys)) 20 (xs ++ ys))) (enough 24 xs ys h)
    ∙ ap (of (nat_lt (length xs) 24)) (ordered32 20 xs ys (omega (arith, h)) h)

-- a whole header says the same, whatever comes behind it
pub header_fault-append : (xs ys : List ℕ) → 24 ≤ length xs → header_fault (xs ++ ys) ≡ header_fault xs
unfolding header_fault
header_fault-append xs ys h =
    ap (λ a. first_fault a (first_fault (version_fault (xs ++ ys)) (link_fault (xs ++ ys))))
    (magic_fault-append xs ys (omega (arith, h)))
    ∙ ap (λ b. first_fault (magic_fault xs) (first_fault b (link_fault (xs ++ ys))))
    (version_fault-append xs ys (omega (arith, h)))
    ∙ ap (λ c. first_fault (magic_fault xs) (first_fault (version_fault xs) c)) (link_fault-append xs ys h)

-- a part that is judged once so many bytes are there shows its fault from then on
stays : (judge : List ℕ → Option CaptureFault) (count : ℕ)
    → ((xs : List ℕ) → length xs < count → judge xs ≡ None)
    → ((xs ys : List ℕ) → count ≤ length xs → judge (xs ++ ys) ≡ judge xs)
    → (xs ys : List ℕ) (fault : CaptureFault) → judge xs ≡ Some fault
    → (count ≤ length xs) × (judge (xs ++ ys) ≡ Some fault)
stays judge count few same xs ys fault h = by (cases_lt (length xs) count)
  where
    by : (length xs < count) ⊎ (count ≤ length xs) → (count ≤ length xs) × (judge (xs ++ ys) ≡ Some fault)
    by (inl short) = absurd (none-some fault (sym (few xs short) ∙ h))
    by (inr there) = (there, same xs ys there ∙ h)

few_magic : (xs : List ℕ) → length xs < 4 → magic_fault xs ≡ None
few_magic xs h =
    ap (λ few. if few then None else if number32 HighFirst 0 xs == 0x0A0D0D0A then Some PcapNg
    else if is_magic (number32 (order_of xs) 0 xs) then None else Some BadMagic) (lt-ltb (length xs) 4 h)

few_version : (xs : List ℕ) → length xs < 8 → version_fault xs ≡ None
few_version xs h =
    ap (λ few. if few then None
    else if (number16 (order_of xs) 4 xs == 2) && (number16 (order_of xs) 6 xs == 4) then None else Some BadVersion)
    (lt-ltb (length xs) 8 h)

few_link : (xs : List ℕ) → length xs < 24 → link_fault xs ≡ None
few_link xs h =
    ap (λ few. if few then None else if number32 (order_of xs) 20 xs == 1 then None else Some BadLink)
    (lt-ltb (length xs) 24 h)

-- the first fault that a header shows stays the first, however the bytes go on
pub header_fault-stays : (xs ys : List ℕ) (fault : CaptureFault) → header_fault xs ≡ Some fault
    → header_fault (xs ++ ys) ≡ Some fault
unfolding header_fault
header_fault-stays xs ys fault h = by (magic_fault xs) refl (version_fault xs) refl h
  where
    by : (m : Option CaptureFault) → magic_fault xs ≡ m → (v : Option CaptureFault) → version_fault xs ≡ v
        → first_fault m (first_fault v (link_fault xs)) ≡ Some fault → header_fault (xs ++ ys) ≡ Some fault
    by (Some first) m v is_v e =
        let kept : (4 ≤ length xs) × (magic_fault (xs ++ ys) ≡ Some first) =
        stays magic_fault 4 few_magic magic_fault-append xs ys first m in
        ap (λ a. first_fault a (first_fault (version_fault (xs ++ ys)) (link_fault (xs ++ ys)))) kept.1 ∙ e
    by None m (Some second) v e =
        let kept : (8 ≤ length xs) × (version_fault (xs ++ ys) ≡ Some second) =
        stays version_fault 8 few_version version_fault-append xs ys second v in
        let none : magic_fault (xs ++ ys) ≡ None = magic_fault-append xs ys (omega (arith, kept.0)) ∙ m in
        ap (λ a. first_fault a (first_fault (version_fault (xs ++ ys)) (link_fault (xs ++ ys)))) none
        ∙ ap (λ b. first_fault b (link_fault (xs ++ ys))) kept.1 ∙ e
    by None m None v e =
        let kept : (24 ≤ length xs) × (link_fault (xs ++ ys) ≡ Some fault) =
        stays link_fault 24 few_link link_fault-append xs ys fault e in
        let no_magic : magic_fault (xs ++ ys) ≡ None = magic_fault-append xs ys (omega (arith, kept.0)) ∙ m in
        let no_version : version_fault (xs ++ ys) ≡ None = version_fault-append xs ys (omega (arith, kept.0)) ∙ v in
        ap (λ a. first_fault a (first_fault (version_fault (xs ++ ys)) (link_fault (xs ++ ys)))) no_magic
        ∙ ap (λ b. first_fault b (link_fault (xs ++ ys))) no_version ∙ kept.1

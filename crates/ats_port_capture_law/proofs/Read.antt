-- What is read of one record.
use Rattle.std.proofs.Common.{◌≡◌, ◌∙◌, ℕ, ◌+◌, ◌*◌, ◌/◌, ◌%◌, ◌<◌, ◌≤◌, ◌^◌, max, List, ◌∷◌, length, take}
use Rattle.std.proofs.Common.{Bool, true, ◌==◌, ◌&&◌, nat_le, if◌then◌else◌}
use Rattle.std.proofs.Common.{drop, Option, Some, None, refl, sym, ap, arith}
use Rattle.std.specs.Int.{from_be_bytes, to_be_bytes, w64}
use Rattle.std.proofs.lemmas.List.{take_all}
use Rattle.std.proofs.lemmas.Nat.{from_be_bytes-to_be_bytes_2, from_be_bytes-to_be_bytes_8, from_le_bytes-to_le_bytes_4}
use Rattle.ats_pcap.specs.Capture.{form_of, header_fault, order_of, record_of}
use Rattle.ats_pcap.specs.Identity.{address_of, identity_of}
use Rattle.ats_pcap.specs.Numbers.{number16, number32}
use Rattle.ats_pcap.specs.declared.form.ByteOrder.TheVariants.{HighFirst, LowFirst}
use Rattle.ats_pcap.specs.declared.form.Form.{Form}
use Rattle.ats_pcap.specs.declared.form.Fraction.TheVariants.{Nanoseconds}
use Rattle.ats_pcap.specs.declared.record.Record.{Record}
use Rattle.ats_port_capture.specs.Capture.{header, record_bytes}
use Rattle.ats_port_capture.specs.Frame.{tagged, untagged}
use Rattle.ats_port_capture.specs.Numbers.{high_first16, high_first32, high_first48, low_first16, low_first32}

-- how the header says that numbers and times are written
abbrev pub nanos_form : Form
nanos_form = record { order = LowFirst; fraction = Nanoseconds }

pub header_long : length header ≡ 24
unfolding header low_first16 low_first32
header_long = refl

pub form_of-header : form_of header ≡ nanos_form
unfolding header low_first16 low_first32 form_of order_of number32
form_of-header = refl

pub header_fault-none : header_fault header ≡ None
unfolding header low_first16 low_first32 header_fault order_of number16 number32
header_fault-none = refl

-- the four numbers of a record
second_at : (nanos octets : ℕ) (kept : List ℕ) → nanos / 1_000_000_000 < 2 ^ 32
    → number32 LowFirst 0 (record_bytes nanos octets kept) ≡ nanos / 1_000_000_000
unfolding number32 record_bytes low_first32
second_at nanos octets kept fits = from_le_bytes-to_le_bytes_4 (nanos / 1_000_000_000) fits

fraction_at : (nanos octets : ℕ) (kept : List ℕ)
    → number32 LowFirst 4 (record_bytes nanos octets kept) ≡ nanos % 1_000_000_000
unfolding number32 record_bytes low_first32
fraction_at nanos octets kept = from_le_bytes-to_le_bytes_4 (nanos % 1_000_000_000) (omega arith)

pub kept_at : (nanos octets : ℕ) (kept : List ℕ) → length kept < 2 ^ 32
    → number32 LowFirst 8 (record_bytes nanos octets kept) ≡ length kept
unfolding number32 record_bytes low_first32
kept_at nanos octets kept short = from_le_bytes-to_le_bytes_4 (length kept) short

octets_at : (nanos octets : ℕ) (kept : List ℕ) → octets < 2 ^ 32
    → number32 LowFirst 12 (record_bytes nanos octets kept) ≡ octets
unfolding number32 record_bytes low_first32
octets_at nanos octets kept short = from_le_bytes-to_le_bytes_4 octets short

behind : (nanos octets : ℕ) (kept : List ℕ) → drop 16 (record_bytes nanos octets kept) ≡ kept
unfolding record_bytes low_first32
behind nanos octets kept = refl

pub record_long : (nanos octets : ℕ) (kept : List ℕ) → length (record_bytes nanos octets kept) ≡ 16 + length kept
unfolding record_bytes low_first32
record_long nanos octets kept = omega arith

-- what identifies a stream in the first bytes of its frame
address_whole : (address : ℕ) → address < 2 ^ 48 → 0 ∷ 0 ∷ high_first48 address ≡ to_be_bytes w64 address
unfolding high_first48
address_whole address within =
    let highest : address / 256 ^ 7 % 256 ≡ 0 = omega arith in
    let next : address / 256 ^ 6 % 256 ≡ 0 = omega arith in
    ap (λ (n : ℕ). n ∷ 0 ∷ drop 2 (to_be_bytes w64 address)) (sym highest)
    ∙ ap (λ (n : ℕ). address / 256 ^ 7 % 256 ∷ n ∷ drop 2 (to_be_bytes w64 address)) (sym next)

address_read : (address vlan class : ℕ) → address < 2 ^ 48 → address_of (tagged address vlan class) ≡ address
unfolding address_of tagged high_first16 high_first48
address_read address vlan class within =
    ap (from_be_bytes w64) (address_whole address within) ∙ from_be_bytes-to_be_bytes_8 address (omega arith)

tag_read : (address vlan class : ℕ) → number16 HighFirst 12 (tagged address vlan class) ≡ 0x8100
unfolding number16 tagged high_first16 high_first48
tag_read address vlan class = refl

vlan_read : (address vlan class : ℕ) → vlan < 4096 → class ≤ 7
    → number16 HighFirst 14 (tagged address vlan class) % 4096 ≡ vlan
unfolding number16 tagged high_first16 high_first48
vlan_read address vlan class within most =
    ap (λ (n : ℕ). n % 4096) (from_be_bytes-to_be_bytes_2 (class * 8192 + vlan) (omega arith)) ∙ omega arith

tagged_long : (address vlan class : ℕ) → length (tagged address vlan class) ≡ 18
unfolding tagged high_first16 high_first48
tagged_long address vlan class = refl

pub tagged_identity : (address vlan class : ℕ) → address < 2 ^ 48 → vlan < 4096 → class ≤ 7
    → identity_of (tagged address vlan class) ≡ Some (address, vlan)
unfolding identity_of
tagged_identity address vlan class within small most =
    let of : Bool → ℕ → ℕ → ℕ → Option (ℕ × ℕ) = λ enough tag a v.
    if enough && (tag == 0x8100) then Some (a, v) else None in
    let frame : List ℕ = tagged address vlan class in
    ap (λ (n : ℕ). of (nat_le 16 n) (number16 HighFirst 12 frame) (address_of frame)
    (number16 HighFirst 14 frame % 4096)) (tagged_long address vlan class)
    ∙ ap (λ (n : ℕ). of true n (address_of frame) (number16 HighFirst 14 frame % 4096)) (tag_read address vlan class)
    ∙ ap (λ (n : ℕ). of true 0x8100 n (number16 HighFirst 14 frame % 4096)) (address_read address vlan class within)
    ∙ ap (λ (n : ℕ). of true 0x8100 address n) (vlan_read address vlan class small most)

pub untagged_identity : (sender : ℕ) → identity_of (untagged sender) ≡ None
unfolding identity_of untagged high_first16 high_first32 high_first48
untagged_identity sender = refl

-- so a record is read
pub record_read : (nanos octets : ℕ) (kept : List ℕ) (identity : Option (ℕ × ℕ)) → nanos / 1_000_000_000 < 2 ^ 32
    → octets < 2 ^ 32 → length kept < 2 ^ 32 → identity_of kept ≡ identity
    → record_of nanos_form (record_bytes nanos octets kept)
    ≡ record { nanos = nanos; octets = max octets 60 + 4; identity = identity }
unfolding record_of
record_read nanos octets kept identity fits short few is =
    let bytes : List ℕ = record_bytes nanos octets kept in
    let of : ℕ → ℕ → ℕ → Option (ℕ × ℕ) → Record = λ second fraction original i.
    record { nanos = second * 1_000_000_000 + fraction * 1; octets = max original 60 + 4; identity = i } in
    let all : take (number32 LowFirst 8 bytes) (drop 16 bytes) ≡ kept =
    ap (λ (n : ℕ). take n (drop 16 bytes)) (kept_at nanos octets kept few)
    ∙ ap (take (length kept)) (behind nanos octets kept) ∙ take_all (length kept) kept (omega arith) in
    ap (λ (n : ℕ). of n (number32 LowFirst 4 bytes) (number32 LowFirst 12 bytes)
    (identity_of (take (number32 LowFirst 8 bytes) (drop 16 bytes)))) (second_at nanos octets kept fits)
    ∙ ap (λ (n : ℕ). of (nanos / 1_000_000_000) n (number32 LowFirst 12 bytes)
    (identity_of (take (number32 LowFirst 8 bytes) (drop 16 bytes)))) (fraction_at nanos octets kept)
    ∙ ap (λ (n : ℕ). of (nanos / 1_000_000_000) (nanos % 1_000_000_000) n
    (identity_of (take (number32 LowFirst 8 bytes) (drop 16 bytes)))) (octets_at nanos octets kept short)
    ∙ ap (λ (l : List ℕ). of (nanos / 1_000_000_000) (nanos % 1_000_000_000) octets (identity_of l)) all
    ∙ ap (of (nanos / 1_000_000_000) (nanos % 1_000_000_000) octets) is
    ∙ ap (λ (n : ℕ). record { nanos = n; octets = max octets 60 + 4; identity = identity }) (omega arith)

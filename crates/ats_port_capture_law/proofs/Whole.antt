-- What is read of all records of a capture.
use Rattle.std.proofs.Common.{◌≡◌, ◌∙◌, ℕ, ◌+◌, ◌-◌, ◌*◌, ◌/◌, ◌<◌, ◌≤◌, ◌^◌, Bool, true, false, List, [], ◌∷◌, ◌++◌}
use Rattle.std.proofs.Common.{length, map, Option, Some, None, Ok, refl, sym, ap, subst, append_assoc, arith}
use Rattle.std.proofs.Common.{◌==◌, nat_lt, if◌then◌else◌}
use Rattle.std.specs.Prelude.{slice_get}
use Rattle.std.specs.List.{All, flat_map}
use Rattle.std.specs.Option.{option_and_then}
use Rattle.std.proofs.lemmas.Bool.{le-ltb, ne_eqb}
use Rattle.std.proofs.lemmas.List.{append-nil, length-append}
use Rattle.std.proofs.lemmas.List.Elements.{All-head, All-tail}
use Rattle.std.proofs.lemmas.Option.{get_or_from_slice_get, none-some, slice_get_within}
use Rattle.ats_streams.specs.Stream.{DeclaredStream, IsIdentity, IsStream, MayIdentify}
use Rattle.ats_network.specs.Edits.{no_stream}
use Rattle.ats_network.specs.Network.{DeclaredNetwork, IsNetwork}
use Rattle.ats_port_rule.specs.Transmission.{Transmission}
use Rattle.ats_trace.specs.Journey.{Travel}
use Rattle.ats_pcap.specs.Capture.{Position, captured_of, form_of, header_fault, is_whole, order_of, position_of}
use Rattle.ats_pcap.specs.Capture.{record_fault, records_at}
use Rattle.ats_pcap.specs.Capture as capture
use Rattle.ats_pcap.specs.Identity.{identity_of}
use Rattle.ats_pcap.specs.Inside.{IsOpen}
use Rattle.ats_pcap.specs.Numbers.{number16, number32}
use Rattle.ats_pcap.specs.declared.fault.CaptureFault.TheVariants.{Limit, RecordTooLong}
use Rattle.ats_pcap.specs.declared.form.Form.{Form}
use Rattle.ats_pcap.specs.declared.record.Record.{Record}
use Rattle.ats_pcap.proofs.Whole.{Passes, position_of-passed}
use Rattle.ats_port_capture.specs.Capture.{header, nanos_of, octets_of, record_of}
use Rattle.ats_port_capture.specs.Frame.{captured_bytes, tagged, untagged}
use Rattle.ats_port_capture.specs.Frame as frame
use Rattle.ats_port_capture.specs.Numbers.{low_first16, low_first32}
use Rattle.ats_port_capture.proofs.Records.{tagged_long, untagged_long}
use Rattle.ats_port_capture_law.specs.Laws.{found_of}
use Rattle.ats_port_capture_law.proofs.Members.{IsReadable}
use Rattle.ats_port_capture_law.proofs.Read.{form_of-header, header_long, kept_at, nanos_form, record_long, record_read}
use Rattle.ats_port_capture_law.proofs.Read.{tagged_identity, untagged_identity}

-- the identity that a sender declares is one
identity_valid : (network : DeclaredNetwork) (sender : ℕ) → IsNetwork network
    → MayIdentify (frame.identity_of network sender)
identity_valid network sender net = by (slice_get network.streams sender) refl
  where
    by : (o : Option DeclaredStream) → slice_get network.streams sender ≡ o
        → MayIdentify (option_and_then (λ (s : DeclaredStream). s.identity) o)
    by None e = λ pair is. absurd (none-some pair is)
    by (Some stream) e =
        let is : IsStream stream =
        subst IsStream (get_or_from_slice_get network.streams sender stream no_stream e)
        (net.streams sender no_stream (slice_get_within network.streams sender stream e)) in
        is.identity

-- and it is read of the first bytes of a frame
identity_read : (identity : Option (ℕ × ℕ)) (sender class : ℕ) → MayIdentify identity → class ≤ 7
    → identity_of (captured_bytes identity sender class) ≡ identity
identity_read None sender class valid most = untagged_identity sender
identity_read (Some (address, vlan)) sender class valid most =
    let is : IsIdentity address vlan = valid (address, vlan) refl in
    tagged_identity address vlan class is.within (omega (arith, is.most)) most

kept_short : (identity : Option (ℕ × ℕ)) (sender class : ℕ) → length (captured_bytes identity sender class) ≤ 18
kept_short None sender class = omega (arith, untagged_long sender)
kept_short (Some (address, vlan)) sender class = omega (arith, tagged_long address vlan class)

-- a record that is none too many and not too long has no fault
no_fault : (none full few long : Bool) (before : ℕ) → full ≡ false → long ≡ false
    → (if none then None else if full then Some (Limit 1_000_001) else if few then None
    else if long then Some (RecordTooLong (before + 1)) else None) ≡ None
no_fault true full few long before f l = refl
no_fault false true few long before f l = cc
no_fault false false true long before f l = refl
no_fault false false false true before f l = cc
no_fault false false false false before f l = refl

record_fine : (form : Form) (before there : ℕ) (bytes : List ℕ) → before < 1_000_000
    → captured_of form bytes ≤ 262_144 → record_fault form before there bytes ≡ None
unfolding record_fault
record_fine form before there bytes room short =
    no_fault (there == 0) (before == 1_000_000) (nat_lt there 16) (nat_lt 262_144 (captured_of form bytes)) before
    (ne_eqb before 1_000_000 (λ e. omega arith)) (le-ltb 262_144 (captured_of form bytes) short)

-- behind the header and these records, where the next byte is the first of a record
abbrev pub behind : List Record → Position
behind records = record { header = header; records = records; there = 0; front = [] }

behind_open : (records : List Record) → length records ≤ 1_000_000 → IsOpen (behind records)
behind_open records few = record {
  header = omega (arith, header_long);
  before = λ short. refl;
  few = few;
  front = omega arith;
  short = λ enough. absurd (omega arith);
  within = λ enough. absurd (omega arith);
}

pub header_read : position_of header ≡ Ok (behind [])
unfolding position_of header_fault order_of form_of number16 number32 record_fault is_whole
    header low_first16 low_first32
header_read = refl

-- a transmission that can be read back, and starts in a second of 32 bits
pub record MayBeRead (run : List Travel) (t : Transmission) : Type 0 where
  pub readable : IsReadable run t
  pub fits : nanos_of t / 1_000_000_000 < 2 ^ 32

-- its record passes behind others
found_read : (network : DeclaredNetwork) (run : List Travel) (t : Transmission) → IsNetwork network → MayBeRead run t
    → capture.record_of nanos_form (record_of network run t) ≡ found_of network run t
found_read network run t net may =
    let identity : Option (ℕ × ℕ) = frame.identity_of network t.sender in
    let short = kept_short identity t.sender t.class in
    record_read (nanos_of t) (octets_of run t.frame - 4) (captured_bytes identity t.sender t.class) identity may.fits
    (omega (arith, may.readable.octets.most)) (omega (arith, short))
    (identity_read identity t.sender t.class (identity_valid network t.sender net) may.readable.class)
    ∙ ap (λ (n : ℕ). record { nanos = nanos_of t; octets = n; identity = identity })
    (omega (arith, may.readable.octets.least))

passes : (network : DeclaredNetwork) (run : List Travel) (t : Transmission) (records : List Record)
    → length records < 1_000_000 → Passes (behind records) (record_of network run t)
passes network run t records room =
    let kept : List ℕ = captured_bytes (frame.identity_of network t.sender) t.sender t.class in
    let part : List ℕ = record_of network run t in
    let short = kept_short (frame.identity_of network t.sender) t.sender t.class in
    let long : length part ≡ 16 + length kept = record_long (nanos_of t) (octets_of run t.frame - 4) kept in
    let count : captured_of (form_of header) part ≡ length kept =
    ap (λ (f : Form). captured_of f part) form_of-header
    ∙ kept_at (nanos_of t) (octets_of run t.frame - 4) kept (omega (arith, short)) in
    record {
      is_open = behind_open records (omega arith);
      header = omega (arith, header_long);
      none = refl;
      exact = omega (arith, long, count);
      fine = record_fine (form_of header) (length records) (length part) part room (omega (arith, count, short));
    }

one_read : (network : DeclaredNetwork) (run : List Travel) (t : Transmission) (bytes : List ℕ) (records : List Record)
    → IsNetwork network → MayBeRead run t → length records < 1_000_000 → position_of bytes ≡ Ok (behind records)
    → position_of (bytes ++ record_of network run t) ≡ Ok (behind (records ++ found_of network run t ∷ []))
one_read network run t bytes records net may room before =
    position_of-passed bytes (record_of network run t) (behind records) before (passes network run t records room)
    ∙ ap (λ (f : Form). Ok (behind (records ++ capture.record_of f (record_of network run t) ∷ []))) form_of-header
    ∙ ap (λ (r : Record). Ok (behind (records ++ r ∷ []))) (found_read network run t net may)

pub all_read : (network : DeclaredNetwork) (run : List Travel) (sent : List Transmission) (bytes : List ℕ)
    (records : List Record) → IsNetwork network → All (MayBeRead run) sent → length records + length sent ≤ 1_000_000
    → position_of bytes ≡ Ok (behind records)
    → position_of (bytes ++ flat_map (record_of network run) sent)
    ≡ Ok (behind (records ++ map (found_of network run) sent))
all_read network run [] bytes records net may few before =
    ap position_of (append-nil bytes) ∙ before ∙ ap (λ (l : List Record). Ok (behind l)) (sym (append-nil records))
all_read network run (t ∷ sent) bytes records net may few before =
    let here : List ℕ = record_of network run t in
    let r : Record = found_of network run t in
    let next = one_read network run t bytes records net (All-head (MayBeRead run) t sent may) (omega arith) before in
    let long = length-append records (r ∷ []) in
    ap position_of (sym (append_assoc bytes here (flat_map (record_of network run) sent)))
    ∙ all_read network run sent (bytes ++ here) (records ++ r ∷ []) net (All-tail (MayBeRead run) t sent may)
    (omega (arith, long)) next
    ∙ ap (λ (l : List Record). Ok (behind l)) (append_assoc records (r ∷ []) (map (found_of network run) sent))

-- the records at the end
pub records_behind : (records : List Record) → records_at (behind records) ≡ Ok records
unfolding header low_first16 low_first32
records_behind records = refl

-- the bytes of a capture are not too many
pub capture_short : (network : DeclaredNetwork) (run : List Travel) (sent : List Transmission)
    → length (flat_map (record_of network run) sent) ≤ 34 * length sent
capture_short network run [] = omega arith
capture_short network run (t ∷ sent) =
    let kept : List ℕ = captured_bytes (frame.identity_of network t.sender) t.sender t.class in
    let short = kept_short (frame.identity_of network t.sender) t.sender t.class in
    let long : length (record_of network run t) ≡ 16 + length kept =
    record_long (nanos_of t) (octets_of run t.frame - 4) kept in
    let both = length-append (record_of network run t) (flat_map (record_of network run) sent) in
    omega (arith, short, long, both, capture_short network run sent)

use Rattle.std.proofs.Common.{◌≢◌, ℕ, zero, suc, ◌+◌, Bool, true, false, List, [], length, drop, Option, Some, None}
use Rattle.std.proofs.Common.{Result, Ok, Err}
use Rattle.std.specs.Prelude.{◌==◌, ◌&&◌, nat_lt, IfErr, IfSome, if◌then◌else◌, take}
use Rattle.ats_num.specs.Failure.{◌>>=◌}
use Rattle.ats_pcap.specs.Capture.{Reach, captured_of, first_fault, form_of, header_fault, is_magic, is_whole}
use Rattle.ats_pcap.specs.Capture.{link_fault, magic_fault, order_of, past_record, position_at, position_of, read_on}
use Rattle.ats_pcap.specs.Capture.{record_fault, version_fault, without}
use Rattle.ats_pcap.specs.Numbers.{number16, number32}
use Rattle.ats_pcap.specs.declared.fault.CaptureFault.{CaptureFault}
use Rattle.ats_pcap.specs.declared.fault.CaptureFault.TheVariants.{BadMagic, PcapNg, BadVersion, BadLink, CutShort}
use Rattle.ats_pcap.specs.declared.fault.CaptureFault.TheVariants.{RecordTooLong, Limit}
use Rattle.ats_pcap.specs.declared.form.ByteOrder.TheVariants.{HighFirst}
use Rattle.ats_pcap.specs.declared.form.Form.{Form}

-- That a capture is cut short shows at its end alone.

-- a fault is no end inside a record
abbrev pub IsNoCut : CaptureFault → Type 0
IsNoCut e = (n : ℕ) → e ≢ CutShort n

-- a fault behind two tests, and behind one
one_of : (p q : Bool) (e : CaptureFault) → IsNoCut e → IfSome (if p then None else if q then None else Some e) IsNoCut
one_of true q e h = tt
one_of false true e h = tt
one_of false false e h = h

magic_shows : (bytes : List ℕ) → IfSome (magic_fault bytes) IsNoCut
magic_shows bytes = by (nat_lt (length bytes) 4) (number32 HighFirst 0 bytes == 0x0A0D0D0A)
    (is_magic (number32 (order_of bytes) 0 bytes))
  where
    by : (p q r : Bool)
        → IfSome (if p then None else if q then Some PcapNg else if r then None else Some BadMagic) IsNoCut
    by true q r = tt
    by false true r = λ n h. cc
    by false false r = one_of false r BadMagic (λ n h. cc)

version_shows : (bytes : List ℕ) → IfSome (version_fault bytes) IsNoCut
version_shows bytes = one_of (nat_lt (length bytes) 8)
    ((number16 (order_of bytes) 4 bytes == 2) && (number16 (order_of bytes) 6 bytes == 4)) BadVersion (λ n h. cc)

link_shows : (bytes : List ℕ) → IfSome (link_fault bytes) IsNoCut
link_shows bytes = one_of (nat_lt (length bytes) 24) (number32 (order_of bytes) 20 bytes == 1) BadLink (λ n h. cc)

first_shows : (one other : Option CaptureFault) → IfSome one IsNoCut → IfSome other IsNoCut
    → IfSome (first_fault one other) IsNoCut
first_shows None other h k = k
first_shows (Some e) other h k = h

header_shows : (bytes : List ℕ) → IfSome (header_fault bytes) IsNoCut
unfolding header_fault
header_shows bytes = first_shows (magic_fault bytes) (first_fault (version_fault bytes) (link_fault bytes))
    (magic_shows bytes) (first_shows (version_fault bytes) (link_fault bytes) (version_shows bytes) (link_shows bytes))

record_shows : (form : Form) (before there : ℕ) (bytes : List ℕ) → IfSome (record_fault form before there bytes) IsNoCut
unfolding record_fault
record_shows form before there bytes =
    by (there == 0) (before == 1000000) (nat_lt there 16) (nat_lt 262144 (captured_of form bytes))
  where
    by : (p q r s : Bool) → IfSome (if p then None else if q then Some (Limit 1000001) else if r then None
        else if s then Some (RecordTooLong (before + 1)) else None) IsNoCut
    by true q r s = tt
    by false true r s = λ n h. cc
    by false false true s = tt
    by false false false true = λ n h. cc
    by false false false false = tt

without_shows : {A : Type 0} (fault : Option CaptureFault) (due : Result A CaptureFault) → IfSome fault IsNoCut
    → IfErr due IsNoCut → IfErr (without fault due) IsNoCut
without_shows None due h k = k
without_shows (Some e) due h k = h

read_shows : (turns : ℕ) (form : Form) (reach : Reach) → IfErr (read_on turns form reach) IsNoCut
read_shows zero form reach = tt
read_shows (suc turns) form reach = without_shows
    (record_fault form (length reach.records) (length reach.rest) reach.rest)
    (if is_whole form (length reach.rest) reach.rest then read_on turns form (past_record form reach) else Ok reach)
    (record_shows form (length reach.records) (length reach.rest) reach.rest)
    (by (is_whole form (length reach.rest) reach.rest) (read_shows turns form (past_record form reach)))
  where
    by : (whole : Bool) → IfErr (read_on turns form (past_record form reach)) IsNoCut
        → IfErr (if whole then read_on turns form (past_record form reach) else Ok reach) IsNoCut
    by true h = h
    by false h = tt

step_shows : (header : List ℕ) (due : Result Reach CaptureFault) → IfErr due IsNoCut
    → IfErr (due >>= λ reach. Ok (position_at header reach)) IsNoCut
step_shows header (Ok reach) h = tt
step_shows header (Err e) h = h

pub position_shows : (bytes : List ℕ) → IfErr (position_of bytes) IsNoCut
unfolding position_of
position_shows bytes =
    let start : Reach = record { records = []; rest = drop 24 bytes } in
    without_shows (header_fault bytes)
    (read_on (length bytes) (form_of bytes) start >>= λ reach. Ok (position_at (take 24 bytes) reach))
    (header_shows bytes)
    (step_shows (take 24 bytes) (read_on (length bytes) (form_of bytes) start)
    (read_shows (length bytes) (form_of bytes) start))

-- What each record of a capture keeps.
use Rattle.std.proofs.Common.{◌≡◌, ℕ, zero, suc, ◌+◌, Bool, true, false, ◌==◌, nat_lt, cond, List, length, take}
use Rattle.std.proofs.Common.{Option, Some, None, Result, Ok, Err, subst, arith}
use Rattle.std.specs.Prelude.{All, IfOk}
use Rattle.std.specs.Global.{Vec}
use Rattle.std.proofs.lemmas.List.Elements.{All-nil, All-push}
use Rattle.ats_num.specs.Failure.{◌>>=◌}
use Rattle.ats_num.specs.declared.failure.Failure.{Failure}
use Rattle.ats_pcap.specs.Capture.{Position, Reach, form_of, header_fault, is_whole, past_record, position_at}
use Rattle.ats_pcap.specs.Capture.{position_of}
use Rattle.ats_pcap.specs.Capture.{read_on, record_fault, record_of, records_at, records_of, without}
use Rattle.ats_pcap.specs.declared.fault.CaptureFault.{CaptureFault}
use Rattle.ats_pcap.specs.declared.fault.CaptureFault.TheVariants.{CutShort}
use Rattle.ats_pcap.specs.declared.form.Form.{Form}
use Rattle.ats_pcap.specs.declared.record.Record.{Record}
use Rattle.ats_capture.specs.Reading.{GivesUnlessFailed, IsLongEnough, of_file}
use Rattle.ats_capture.specs.declared.fault.RecordsFault.{RecordsFault}

-- what holds behind a fault or without one
behind : {A : Type 0} (P : A → Type 0) (fault : Option CaptureFault) (due : Result A CaptureFault) → IfOk due P
    → IfOk (without fault due) P
behind P None due h = h
behind P (Some fault) due h = tt

-- and whatever a test says
either : {A : Type 0} (P : A → Type 0) (b : Bool) (x y : Result A CaptureFault) → IfOk x P → IfOk y P
    → IfOk (cond b x y) P
either P true x y h k = h
either P false x y h k = k

-- and after a step
after : {A B : Type 0} (P : A → Type 0) (Q : B → Type 0) (x : Result A CaptureFault) (f : A → Result B CaptureFault)
    → IfOk x P → ((a : A) → P a → IfOk (f a) Q) → IfOk (x >>= f) Q
after P Q (Ok a) f h k = k a h
after P Q (Err e) f h k = tt

-- a record has the octets of a frame at least
long_enough : (form : Form) (bytes : List ℕ) → IsLongEnough (record_of form bytes)
unfolding record_of
long_enough form bytes = omega arith

read_keeps : (turns : ℕ) (form : Form) (reach : Reach) → All IsLongEnough reach.records
    → IfOk (read_on turns form reach) (λ (r : Reach). All IsLongEnough r.records)
read_keeps zero form reach h = h
read_keeps (suc turns) form reach h =
    let Long : Reach → Type 0 = λ r. All IsLongEnough r.records in
    behind Long (record_fault form (length reach.records) (length reach.rest) reach.rest) _
    (either Long (is_whole form (length reach.rest) reach.rest) (read_on turns form (past_record form reach)) (Ok reach)
    (read_keeps turns form (past_record form reach)
    (All-push IsLongEnough reach.records (record_of form reach.rest) h (long_enough form reach.rest))) h)

position_keeps : (bytes : List ℕ) → IfOk (position_of bytes) (λ (p : Position). All IsLongEnough p.records)
unfolding position_of
position_keeps bytes =
    let Long : Reach → Type 0 = λ r. All IsLongEnough r.records in
    let LongAt : Position → Type 0 = λ p. All IsLongEnough p.records in
    behind LongAt (header_fault bytes) _
    (after Long LongAt (read_on (length bytes) (form_of bytes) _) (λ reach. Ok (position_at (take 24 bytes) reach))
    (read_keeps (length bytes) (form_of bytes) _ (All-nil IsLongEnough)) (λ reach h. h))

-- the records of a capture are long enough
pub records_keep : (bytes : List ℕ) → IfOk (records_of bytes) (All IsLongEnough)
records_keep bytes =
    let LongAt : Position → Type 0 = λ p. All IsLongEnough p.records in
    after LongAt (All IsLongEnough) (position_of bytes) records_at (position_keeps bytes) (λ p h.
    either (All IsLongEnough) (nat_lt (length p.header) 24) (Err (CutShort 0)) (last p) tt
    (either (All IsLongEnough) (p.there == 0) (Ok p.records) (Err (CutShort (length p.records + 1))) h tt))
  where
    last : Position → Result (List Record) CaptureFault
    last p = cond (p.there == 0) (Ok p.records) (Err (CutShort (length p.records + 1)))

-- and so are those that were read
pub read_long : (result : Result (Vec Record) (Failure RecordsFault)) (bytes : List ℕ)
    → GivesUnlessFailed result (of_file (records_of bytes)) → IfOk result (λ records. All IsLongEnough records.items)
read_long (Ok records) bytes h = by (records_of bytes) (records_keep bytes) h
  where
    by : (due : Result (List Record) CaptureFault) → IfOk due (All IsLongEnough) → of_file due ≡ Ok records.items
        → All IsLongEnough records.items
    by (Ok rs) long e = let same : rs ≡ records.items = cc in subst (All IsLongEnough) same long
    by (Err f) long e = cc
read_long (Err e) bytes h = tt

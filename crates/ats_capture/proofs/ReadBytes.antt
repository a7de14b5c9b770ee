-- What a reader stands for that is fed a file from its front on.
use Rattle.std.proofs.Common.{◌≡◌, ◌≢◌, ℕ, ◌+◌, ◌-◌, ◌<◌, ◌≤◌, cond, List, [], ◌++◌, length, inl, inr, ◌⊎◌}
use Rattle.std.proofs.Common.{take, drop, Option, Some, None, Result, Ok, Err, refl, sym, ap, ◌∙◌, subst, arith}
use Rattle.std.proofs.Common.{take-append-drop, length-append, length-take, length-take-le, length-drop, min}
use Rattle.std.specs.Global.{Vec}
use Rattle.std.proofs.lemmas.Bool.{cases_lt, lt-ltb, le-ltb}
use Rattle.ats_io.specs.Outside.{IfTold, IsPieceAt}
use Rattle.ats_io.proofs.Fronts.{front_more, front_all, take_two}
use Rattle.ats_num.specs.Failure.{◌>>=◌}
use Rattle.ats_num.specs.declared.failure.Failure.{Failure}
use Rattle.ats_num.specs.declared.failure.Failure.TheVariants.{Fault, NoMemory}
use Rattle.ats_pcap.specs.Capture.{Position, header_fault, position_of, records_at, records_of}
use Rattle.ats_pcap.specs.Reading.{Reading, Shows, StandsFor, UnlessMemory}
use Rattle.ats_pcap.specs.declared.fault.CaptureFault.{CaptureFault}
use Rattle.ats_pcap.specs.declared.record.Record.{Record}
use Rattle.ats_pcap.proofs.Taken.{position_of-fault}
use Rattle.ats_capture.specs.Inside.{Refuses}
use Rattle.ats_capture.specs.Reading.{GivesUnlessFailed, of_file, records_in}
use Rattle.ats_capture.specs.declared.fault.RecordsFault.{RecordsFault}
use Rattle.ats_capture.specs.declared.fault.RecordsFault.TheVariants.{Failed, TooLong, Capture}
use Rattle.ats_capture.specs.declared.reading.TheConstants.{MAX_BYTES}

-- a reader was fed so many bytes and goes on: it stands for them, and where the file's bytes are told, for the first of
-- these
pub record Reads (told : Option (List ℕ)) (at : ℕ) (reader : Reading) : Type 0 where
  pub read : List ℕ
  pub size : at ≡ length read
  pub stands : StandsFor reader read
  pub going : reader.failure ≡ None
  pub front : IfTold told (λ bytes. read ≡ take (length read) bytes)

-- without bytes there is no fault
no_bytes : (end : Position) → end ≡ record { header = []; records = []; there = 0; front = [] }
    → position_of [] ≡ Ok end
unfolding position_of header_fault
no_bytes end e = ap Ok (sym e)

not_stopped : (failure : Option (Failure CaptureFault)) (position : Position) → Shows failure position (position_of [])
    → failure ≡ None
not_stopped None position h = refl
not_stopped (Some NoMemory) position h = absurd h
not_stopped (Some (Fault fault)) position h =
    let none = no_bytes (record { header = []; records = []; there = 0; front = [] }) refl in cc

-- a new reader was fed nothing
pub reads_nothing : (told : Option (List ℕ)) (reader : Reading) → StandsFor reader [] → Reads told 0 reader
reads_nothing told reader stands = record {
  read = [];
  size = refl;
  stands = stands;
  going = not_stopped reader.failure reader.position stands;
  front = λ bytes told. refl;
}

-- where there are not too many bytes, all count
records_in-short : (bytes : List ℕ) → length bytes ≤ MAX_BYTES → records_in bytes ≡ of_file (records_of bytes)
unfolding records_in
records_in-short bytes few =
    ap (λ b. cond b (of_file (position_of (take MAX_BYTES bytes)) >>= (λ _. Err TooLong)) (of_file (records_of bytes)))
    (le-ltb MAX_BYTES (length bytes) few)

-- and else the first
records_in-long : (bytes : List ℕ) → MAX_BYTES < length bytes
    → records_in bytes ≡ (of_file (position_of (take MAX_BYTES bytes)) >>= (λ _. Err TooLong))
unfolding records_in
records_in-long bytes many =
    ap (λ b. cond b (of_file (position_of (take MAX_BYTES bytes)) >>= (λ _. Err TooLong)) (of_file (records_of bytes)))
    (lt-ltb MAX_BYTES (length bytes) many)

-- at the end of a file its records are due, or the fault of all its bytes
pub ended_due : (told : Option (List ℕ)) (at count : ℕ) (reader : Reading) (bytes buffer : List ℕ)
    (result : Result (Vec Record) (Failure RecordsFault)) → Reads told at reader → told ≡ Some bytes → count ≡ 0
    → at ≤ MAX_BYTES → IsPieceAt bytes at count buffer
    → ((read : List ℕ) → StandsFor reader read → GivesUnlessFailed result (of_file (records_of read)))
    → GivesUnlessFailed result (records_in bytes)
ended_due told at count reader bytes buffer result r is none within piece due =
    let all : r.read ≡ bytes = front_all bytes r.read buffer at count (r.front bytes is) r.size none piece in
    let end : length bytes ≤ at = piece.ends none in
    let few : length bytes ≤ MAX_BYTES = omega arith in
    subst (GivesUnlessFailed result) (sym (records_in-short bytes few))
    (subst (λ (bs : List ℕ). GivesUnlessFailed result (of_file (records_of bs))) all (due r.read r.stands))

-- where there are more bytes than may be and the first show no fault, the file is too long
pub over_due : (told : Option (List ℕ)) (at count : ℕ) (reader : Reading) (bytes buffer : List ℕ) → Reads told at reader
    → told ≡ Some bytes → 0 < count → at ≡ MAX_BYTES → IsPieceAt bytes at count buffer
    → records_in bytes ≡ Err TooLong
over_due told at count reader bytes buffer r is some full piece =
    let left : length (drop at bytes) ≡ length bytes - at = length-drop at bytes in
    let size : length r.read ≡ MAX_BYTES = sym r.size ∙ full in
    let first : r.read ≡ take MAX_BYTES bytes = r.front bytes is ∙ ap (λ n. take n bytes) size in
    let fine : position_of r.read ≡ Ok reader.position =
    stands_open reader.failure reader.position r.read r.going r.stands in
    records_in-long bytes (omega (arith, piece.within))
    ∙ ap (λ (x : Result Position CaptureFault). of_file x >>= (λ _. Err TooLong))
    (ap position_of (sym first) ∙ fine)
  where
    stands_open : (failure : Option (Failure CaptureFault)) (position : Position) (read : List ℕ) → failure ≡ None
        → Shows failure position (position_of read) → position_of read ≡ Ok position
    stands_open failure position read e h =
        subst (λ (o : Option (Failure CaptureFault)). Shows o position (position_of read)) e h

-- a fault that a front of the bytes shows is the first one of the file
shown_fault : (front bytes : List ℕ) (fault : CaptureFault) → position_of front ≡ Err fault
    → front ≡ take (length front) bytes → length front ≤ MAX_BYTES → records_in bytes ≡ Err (Capture fault)
shown_fault front bytes fault h is few = by (cases_lt MAX_BYTES (length bytes))
  where
    by : (MAX_BYTES < length bytes) ⊎ (length bytes ≤ MAX_BYTES) → records_in bytes ≡ Err (Capture fault)
    by (inl many) =
        let rest : List ℕ = take (MAX_BYTES - length front) (drop (length front) bytes) in
        let sum : length front + (MAX_BYTES - length front) ≡ MAX_BYTES = omega arith in
        let whole : take MAX_BYTES bytes ≡ front ++ rest = ap (λ n. take n bytes) (sym sum)
        ∙ take_two (length front) (MAX_BYTES - length front) bytes (omega arith) ∙ ap (λ xs. xs ++ rest) (sym is) in
        records_in-long bytes many
        ∙ ap (λ (x : Result Position CaptureFault). of_file x >>= (λ _. Err TooLong))
        (ap position_of whole ∙ position_of-fault front rest fault h)
    by (inr short) =
        let rest : List ℕ = drop (length front) bytes in
        let whole : bytes ≡ front ++ rest =
        sym (take-append-drop (length front) bytes) ∙ ap (λ xs. xs ++ rest) (sym is) in
        records_in-short bytes short
        ∙ ap (λ (x : Result Position CaptureFault). of_file (x >>= records_at))
        (ap position_of whole ∙ position_of-fault front rest fault h)

-- a piece that is refused shows the first fault of the file
pub refusal_due : (e : Failure RecordsFault) (stopped : Option (Failure CaptureFault)) (position : Position)
    (front bytes : List ℕ) → Refuses (Err e) stopped → UnlessMemory stopped (Shows stopped position (position_of front))
    → front ≡ take (length front) bytes → length front ≤ MAX_BYTES → GivesUnlessFailed (Err e) (records_in bytes)
refusal_due NoMemory stopped position front bytes why stands is few = tt
refusal_due (Fault Failed) stopped position front bytes why stands is few = tt
refusal_due (Fault TooLong) stopped position front bytes why stands is few = absurd why
refusal_due (Fault (Capture fault)) stopped position front bytes why stands is few =
    shown_fault front bytes fault
    (subst (λ (o : Option (Failure CaptureFault)). UnlessMemory o (Shows o position (position_of front))) why stands)
    is few

-- with a piece more, which was read behind the others
piece_size : (piece buffer : List ℕ) (count : ℕ) → piece ≡ take count buffer → count ≤ length buffer
    → length piece ≡ count
piece_size piece buffer count e fits = ap length e ∙ length-take-le count buffer fits

pub joined_front : (told : Option (List ℕ)) (at count : ℕ) (reader : Reading) (r : Reads told at reader)
    (piece buffer bytes : List ℕ) → piece ≡ take count buffer → told ≡ Some bytes → IsPieceAt bytes at count buffer
    → r.read ++ piece ≡ take (length (r.read ++ piece)) bytes
joined_front told at count reader r piece buffer bytes e is there =
    front_more bytes r.read (r.read ++ piece) buffer at count (r.front bytes is) r.size there
    (ap (λ (xs : List ℕ). r.read ++ xs) e)

pub joined_size : (told : Option (List ℕ)) (at count : ℕ) (reader : Reading) (r : Reads told at reader)
    (piece buffer : List ℕ) → piece ≡ take count buffer → count ≤ length buffer
    → at + count ≡ length (r.read ++ piece)
joined_size told at count reader r piece buffer e fits =
    let size : length piece ≡ count = piece_size piece buffer count e fits in
    let both : length (r.read ++ piece) ≡ length r.read + length piece = length-append r.read piece in
    omega (arith, r.size)

-- a piece that is taken is one of the bytes read
pub fed : (told : Option (List ℕ)) (at count : ℕ) (old new : Reading) (piece buffer : List ℕ) → Reads told at old
    → new.failure ≡ None
    → ((bytes : List ℕ) → StandsFor old bytes → UnlessMemory new.failure (StandsFor new (bytes ++ piece)))
    → piece ≡ take count buffer → count ≤ length buffer → IfTold told (λ bytes. IsPieceAt bytes at count buffer)
    → Reads told (at + count) new
fed told at count old new piece buffer r going stands e fits there = record {
  read = r.read ++ piece;
  size = joined_size told at count old r piece buffer e fits;
  stands = subst (λ (o : Option (Failure CaptureFault)). UnlessMemory o (StandsFor new (r.read ++ piece))) going
      (stands r.read r.stands);
  going = going;
  front = λ bytes is. joined_front told at count old r piece buffer bytes e is (there bytes is);
}

-- a piece that was read within the room ends where the bytes may end at most
pub piece_within : (at count room : ℕ) (old new : List ℕ) → at ≤ MAX_BYTES → at ≢ MAX_BYTES
    → (at < MAX_BYTES → at + room ≤ MAX_BYTES) → length new ≡ length (take room old) → count ≤ length new
    → at + count ≤ MAX_BYTES
piece_within at count room old new most other within same fits =
    let below : at < MAX_BYTES = omega arith in
    let sum : at + room ≤ MAX_BYTES = within below in
    let left : length (take room old) ≡ min room (length old) = length-take room old in
    omega (arith, same, fits)

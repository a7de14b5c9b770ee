use Rattle.std.proofs.Common.{◌≡◌, ℕ, suc, ◌+◌, ◌-◌, ◌<◌, ◌≤◌, min, Bool, true, false, nat_lt, List, [], ◌∷◌, ◌++◌}
use Rattle.std.proofs.Common.{length, take, drop, Option, Some, None, Result, Ok, Err, if◌then◌else◌, refl, sym}
use Rattle.std.proofs.Common.{subst, ap, ◌∙◌, arith, inl, inr, ◌⊎◌}
use Rattle.std.proofs.Math.ListN.{drop_of_length-le}
use Rattle.std.proofs.lemmas.Bool.{cases_lt, lt-ltb, le-ltb}
use Rattle.std.proofs.lemmas.List.{length-append, length-drop, length-take, drop-append-le, take-append-le, take_all}
use Rattle.ats_num.specs.Failure.{◌>>=◌}
use Rattle.ats_pcap.specs.Capture.{Position, Reach, captured_of, form_of, header_fault, is_whole, past_record}
use Rattle.ats_pcap.specs.Capture.{position_at, position_of, read_on, record_fault, record_of, without}
use Rattle.ats_pcap.specs.Inside.{IsOpen, MayEnd, room_at, settled, taken}
use Rattle.ats_pcap.specs.declared.fault.CaptureFault.{CaptureFault}
use Rattle.ats_pcap.specs.declared.form.Form.{Form}
use Rattle.ats_pcap.specs.declared.record.Record.{Record}
use Rattle.ats_pcap.proofs.Fronts.{front-append}
use Rattle.ats_pcap.proofs.Headers.{form_of-append, header_fault-append, header_fault-stays}
use Rattle.ats_pcap.proofs.Places.{by_front}
use Rattle.ats_pcap.proofs.Records.{RecordAllowed, allowed, captured_of-append, captured_of-front, is_whole-front}
use Rattle.ats_pcap.proofs.Records.{not_whole, record_fault-front, record_of-front, whole_bytes}
use Rattle.ats_pcap.proofs.Resumed.{at_end, further, read_on-append, turn}
use Rattle.ats_pcap.proofs.Tests.{Err-Ok, same_Ok}

-- how far a capture is read behind its header, and where that is
abbrev begun : List ℕ → Reach
begun bytes = record { records = []; rest = drop 24 bytes }

abbrev placed : List ℕ → Result Reach CaptureFault → Result Position CaptureFault
placed header read = read >>= λ reach. Ok (position_at header reach)

by_parts : (bytes : List ℕ) → position_of bytes
    ≡ without (header_fault bytes) (placed (take 24 bytes) (read_on (length bytes) (form_of bytes) (begun bytes)))
unfolding position_of
by_parts bytes = refl

-- a capture that ends in its header or right behind it
short_capture : (xs : List ℕ) → length xs ≤ 24 → position_of xs
    ≡ without (header_fault xs) (Ok (record { header = xs; records = []; there = 0; front = [] }))
short_capture xs h =
    let left : drop 24 xs ≡ [] = drop_of_length-le xs h in
    let none : length (drop 24 xs) ≡ 0 = ap length left in
    by_parts xs
    ∙ ap (λ x. without (header_fault xs) (placed (take 24 xs) x)) (at_end (length xs) (form_of xs) (begun xs) none)
    ∙ ap (λ (header : List ℕ). without (header_fault xs)
    (Ok (position_at header (begun xs)))) (take_all 24 xs h)
    ∙ ap (λ (rest : List ℕ). without (header_fault xs)
    (Ok (position_at xs (record { records = []; rest = rest })))) left

-- what is known of a capture without a fault so far
record Opened (bytes : List ℕ) (p : Position) : Type 0 where
  none : header_fault bytes ≡ None
  reach : Reach
  reached : read_on (length bytes) (form_of bytes) (begun bytes) ≡ Ok reach
  place : position_at (take 24 bytes) reach ≡ p

opened : (bytes : List ℕ) (p : Position) → position_of bytes ≡ Ok p → Opened bytes p
opened bytes p h =
    by (header_fault bytes) refl (read_on (length bytes) (form_of bytes) (begun bytes)) refl (sym (by_parts bytes) ∙ h)
  where
    by : (fault : Option CaptureFault) → header_fault bytes ≡ fault → (read : Result Reach CaptureFault)
        → read_on (length bytes) (form_of bytes) (begun bytes) ≡ read
        → without fault (placed (take 24 bytes) read) ≡ Ok p → Opened bytes p
    by (Some f) e read r g = absurd (Err-Ok f p g)
    by None e (Err f) r g = absurd (Err-Ok f p g)
    by None e (Ok reach) r g = record {
      none = e;
      reach = reach;
      reached = r;
      place = same_Ok (position_at (take 24 bytes) reach) p g;
    }

-- a capture whose header is whole and that goes on: it is read on from where it was
onward : (k : ℕ) (bytes part : List ℕ) → 24 ≤ length bytes → header_fault bytes ≡ None
    → length bytes + length part ≤ k
    → position_of (bytes ++ part) ≡ placed (take 24 bytes) (read_on (length bytes) (form_of bytes) (begun bytes)
    >>= λ r. read_on k (form_of bytes) (further r part))
onward k bytes part h none enough =
    let all : List ℕ = bytes ++ part in
    let both : length all ≡ length bytes + length part = length-append bytes part in
    let left : length (drop 24 bytes) ≡ length bytes - 24 = length-drop 24 bytes in
    by_parts all
    ∙ ap (λ o. without o (placed (take 24 all) (read_on (length all) (form_of all) (begun all))))
    (header_fault-append bytes part h ∙ none)
    ∙ ap (λ (header : List ℕ). placed header (read_on (length all) (form_of all) (begun all)))
    (take-append-le 24 bytes part h)
    ∙ ap (λ form. placed (take 24 bytes) (read_on (length all) form (begun all)))
    (form_of-append bytes part (omega (arith, h)))
    ∙ ap (λ (rest : List ℕ). placed (take 24 bytes) (read_on (length all) (form_of bytes)
    (record { records = []; rest = rest }))) (drop-append-le 24 bytes part h)
    ∙ ap (placed (take 24 bytes)) (read_on-append (length bytes) (length all) k (form_of bytes) (begun bytes) part
    (omega (arith, left)) (omega (arith, left, both)) (omega (arith, left, enough)))

-- a fault that a capture shows is its first one, however it goes on
pub position_of-fault : (bytes part : List ℕ) (fault : CaptureFault) → position_of bytes ≡ Err fault
    → position_of (bytes ++ part) ≡ Err fault
position_of-fault bytes part fault h =
    by (cases_lt (length bytes) 24) (header_fault bytes) refl
    (read_on (length bytes) (form_of bytes) (begun bytes)) refl (sym (by_parts bytes) ∙ h)
  where
    by : (length bytes < 24) ⊎ (24 ≤ length bytes) → (first : Option CaptureFault) → header_fault bytes ≡ first
        → (read : Result Reach CaptureFault) → read_on (length bytes) (form_of bytes) (begun bytes) ≡ read
        → without first (placed (take 24 bytes) read) ≡ Err fault → position_of (bytes ++ part) ≡ Err fault
    by size (Some f) e read r g =
        let all : List ℕ = bytes ++ part in
        by_parts all
        ∙ ap (λ o. without o (placed (take 24 all) (read_on (length all) (form_of all) (begun all))))
        (header_fault-stays bytes part f e) ∙ g
    by (inl short) None e read r g =
        let here : Position = record { header = bytes; records = []; there = 0; front = [] } in
        let open_here : position_of bytes ≡ Ok here =
        short_capture bytes (omega (arith, short)) ∙ ap (λ o. without o (Ok here)) e in
        absurd (Err-Ok fault here (sym h ∙ open_here))
    by (inr long) None e (Err f) r g =
        onward (length bytes + length part) bytes part long e (omega arith)
        ∙ ap (λ x. placed (take 24 bytes) (x >>= λ r. read_on (length bytes + length part) (form_of bytes)
        (further r part))) r ∙ g
    by (inr long) None e (Ok reach) r g =
        absurd (Err-Ok fault (position_at (take 24 bytes) reach) (sym g))

-- the header of a record and its captured bytes have as much room as is left of them
pub room_in_header : (p : Position) → length p.header < 24 → room_at p ≡ 24 - length p.header
unfolding room_at
room_in_header p h =
    ap (λ b. if b then 24 - length p.header else if nat_lt p.there 16 then 16 - p.there
    else 16 + captured_of (form_of p.header) p.front - p.there) (lt-ltb (length p.header) 24 h)

room_in_record : (p : Position) → 24 ≤ length p.header → room_at p
    ≡ (if nat_lt p.there 16 then 16 - p.there else 16 + captured_of (form_of p.header) p.front - p.there)
unfolding room_at
room_in_record p h =
    ap (λ b. if b then 24 - length p.header else if nat_lt p.there 16 then 16 - p.there
    else 16 + captured_of (form_of p.header) p.front - p.there) (le-ltb (length p.header) 24 h)

-- bytes of a record that are within the room end at its end at most
within_room : (p : Position) (count : ℕ) → 24 ≤ length p.header → 0 < count → count ≤ room_at p
    → 16 ≤ p.there + count
    → (p.there + count ≡ 16) ⊎ ((16 ≤ p.there) × (p.there + count ≤ 16 + captured_of (form_of p.header) p.front))
within_room p count h some fits enough = by (cases_lt p.there 16)
  where
    by : (p.there < 16) ⊎ (16 ≤ p.there)
        → (p.there + count ≡ 16)
        ⊎ ((16 ≤ p.there) × (p.there + count ≤ 16 + captured_of (form_of p.header) p.front))
    by (inl short) =
        let room : room_at p ≡ 16 - p.there = room_in_record p h
        ∙ ap (λ b. if b then 16 - p.there else 16 + captured_of (form_of p.header) p.front - p.there)
        (lt-ltb p.there 16 short) in
        inl (omega (arith, room, fits, enough, short))
    by (inr there) =
        let room : room_at p ≡ 16 + captured_of (form_of p.header) p.front - p.there = room_in_record p h
        ∙ ap (λ b. if b then 16 - p.there else 16 + captured_of (form_of p.header) p.front - p.there)
        (le-ltb p.there 16 there) in
        inr (there, omega (arith, room, fits, some))

-- the position after bytes of a record, before it is looked at
abbrev pub longer : Position → List ℕ → Position
longer p part = record p { there = p.there + length part; front = take 32 (p.front ++ part) }

-- these bytes are at most all of the record
pub longer-may_end : (p : Position) (part : List ℕ) → IsOpen p → 24 ≤ length p.header → 0 < length part
    → length part ≤ room_at p → MayEnd (longer p part)
longer-may_end p part is_open h some fits =
    let kept : length (take 32 (p.front ++ part)) ≡ min 32 (length (p.front ++ part)) =
    length-take 32 (p.front ++ part) in
    let both : length (p.front ++ part) ≡ length p.front + length part = length-append p.front part in
    record {
      header = h;
      few = is_open.few;
      some = omega (arith, some);
      front = omega (arith, kept, both, is_open.front);
      most = λ enough. most enough (within_room p (length part) h some fits enough);
    }
  where
    most : 16 ≤ p.there + length part
        → (p.there + length part ≡ 16)
        ⊎ ((16 ≤ p.there) × (p.there + length part ≤ 16 + captured_of (form_of p.header) p.front))
        → p.there + length part ≤ 16 + captured_of (form_of p.header) (take 32 (p.front ++ part))
    most enough (inl e) = omega (arith, e)
    most enough (inr more) =
        let kept : 16 ≤ length p.front = omega (arith, is_open.front, more.0) in
        let both : length (p.front ++ part) ≡ length p.front + length part = length-append p.front part in
        let same : captured_of (form_of p.header) (take 32 (p.front ++ part)) ≡ captured_of (form_of p.header) p.front =
        captured_of-front (form_of p.header) (p.front ++ part) (omega (arith, both, kept))
        ∙ captured_of-append (form_of p.header) p.front part kept in
        omega (arith, same, more.1)

-- the room and what is there are small numbers
pub room_bound : (p : Position) (count : ℕ) → IsOpen p → 24 ≤ length p.header → 0 < count → count ≤ room_at p
    → p.there + count ≤ 262_160
room_bound p count is_open h some fits = by (cases_lt (p.there + count) 16)
  where
    more : (p.there + count ≡ 16)
        ⊎ ((16 ≤ p.there) × (p.there + count ≤ 16 + captured_of (form_of p.header) p.front))
        → p.there + count ≤ 262_160
    more (inl e) = omega (arith, e)
    more (inr there) = omega (arith, there.1, is_open.short there.0)

    by : (p.there + count < 16) ⊎ (16 ≤ p.there + count) → p.there + count ≤ 262_160
    by (inl short) = omega (arith, short)
    by (inr enough) = more (within_room p count h some fits enough)

-- one turn of reading, and what is made of it by what is kept of the bytes
abbrev pub judged : Position → Option CaptureFault → Bool → Result Position CaptureFault
judged p fault whole = without fault (Ok (if whole then record {
  header = p.header;
  records = p.records ++ record_of (form_of p.header) p.front ∷ [];
  there = 0;
  front = [];
} else p))

pub by_judgement : (p : Position) → settled p
    ≡ judged p (record_fault (form_of p.header) (length p.records) p.there p.front)
    (is_whole (form_of p.header) p.there p.front)
unfolding settled
by_judgement p = refl

one_turn : (k : ℕ) (header : List ℕ) (q : Reach)
    → (16 ≤ length q.rest → length q.rest ≤ 16 + captured_of (form_of header) q.rest)
    → (fault : Option CaptureFault)
    → record_fault (form_of header) (length q.records) (length q.rest) q.rest ≡ fault
    → (whole : Bool) → is_whole (form_of header) (length q.rest) q.rest ≡ whole
    → placed header
    (turn (form_of header) q (length q.rest) (read_on k (form_of header) (past_record (form_of header) q)))
    ≡ settled (position_at header q)
one_turn k header q most (Some f) e whole w =
    let form : Form = form_of header in
    let p : Position = position_at header q in
    ap (λ o. placed header (without o (if is_whole form (length q.rest) q.rest
    then read_on k form (past_record form q) else Ok q))) e
    ∙ sym (by_judgement p
    ∙ ap (λ o. judged p o (is_whole form (length q.rest) (take 32 q.rest)))
    (record_fault-front form (length q.records) q.rest ∙ e))
one_turn k header q most None e false w =
    let form : Form = form_of header in
    let p : Position = position_at header q in
    ap (λ o. placed header (without o (if is_whole form (length q.rest) q.rest
    then read_on k form (past_record form q) else Ok q))) e
    ∙ ap (λ b. placed header (if b then read_on k form (past_record form q) else Ok q)) w
    ∙ sym (by_judgement p
    ∙ ap (λ o. judged p o (is_whole form (length q.rest) (take 32 q.rest)))
    (record_fault-front form (length q.records) q.rest ∙ e)
    ∙ ap (judged p None) (is_whole-front form q.rest ∙ w))
one_turn k header q most None e true w =
    let form : Form = form_of header in
    let p : Position = position_at header q in
    let size : (16 ≤ length q.rest) × (16 + captured_of form q.rest ≤ length q.rest) =
    whole_bytes form (length q.rest) q.rest w in
    let bound : length q.rest ≤ 16 + captured_of form q.rest = most size.0 in
    let exact : length q.rest ≡ 16 + captured_of form q.rest = omega (arith, bound, size.1) in
    let left : drop (16 + captured_of form q.rest) q.rest ≡ [] = drop_of_length-le q.rest bound in
    let of : Record → List ℕ → Position = λ r rest.
    position_at header (record { records = q.records ++ r ∷ []; rest = rest }) in
    ap (λ o. placed header (without o (if is_whole form (length q.rest) q.rest
    then read_on k form (past_record form q) else Ok q))) e
    ∙ ap (λ b. placed header (if b then read_on k form (past_record form q) else Ok q)) w
    ∙ ap (placed header) (at_end k form (past_record form q) (ap length left))
    ∙ ap (λ (rest : List ℕ). Ok (of (record_of form q.rest) rest)) left
    ∙ sym (by_judgement p
    ∙ ap (λ o. judged p o (is_whole form (length q.rest) (take 32 q.rest)))
    (record_fault-front form (length q.records) q.rest ∙ e)
    ∙ ap (judged p None) (is_whole-front form q.rest ∙ w)
    ∙ ap (λ r. Ok (of r [])) (record_of-front form q.rest exact))

-- where a part is taken
pub taken_in_header : (p : Position) (part : List ℕ) → length p.header < 24 → taken p part
    ≡ without (header_fault (p.header ++ part)) (Ok (record p { header = p.header ++ part }))
unfolding taken
taken_in_header p part h =
    ap (λ b. if b then without (header_fault (p.header ++ part)) (Ok (record p { header = p.header ++ part }))
    else settled (longer p part)) (lt-ltb (length p.header) 24 h)

pub taken_in_record : (p : Position) (part : List ℕ) → 24 ≤ length p.header → taken p part ≡ settled (longer p part)
unfolding taken
taken_in_record p part h =
    ap (λ b. if b then without (header_fault (p.header ++ part)) (Ok (record p { header = p.header ++ part }))
    else settled (longer p part)) (le-ltb (length p.header) 24 h)

-- a part within the room, taken at once, is what the joined bytes say: in the header
in_header : (bytes part : List ℕ) (p : Position) → position_of bytes ≡ Ok p → length p.header < 24
    → length part ≤ room_at p → position_of (bytes ++ part) ≡ taken p part
in_header bytes part p h short fits =
    let o : Opened bytes p = opened bytes p h in
    let kept : take 24 bytes ≡ p.header = ap (λ (q : Position). q.header) o.place in
    let size : length (take 24 bytes) ≡ min 24 (length bytes) = length-take 24 bytes in
    let same_size : length (take 24 bytes) ≡ length p.header = ap length kept in
    let few : length bytes < 24 = omega (arith, size, same_size, short) in
    let here : Position = record { header = bytes; records = []; there = 0; front = [] } in
    let at : position_of bytes ≡ Ok here =
    short_capture bytes (omega (arith, few)) ∙ ap (λ f. without f (Ok here)) o.none in
    let is_here : here ≡ p = same_Ok here p (sym at ∙ h) in
    let both : length (bytes ++ part) ≡ length bytes + length part = length-append bytes part in
    let header_size : length bytes ≡ length p.header = ap (λ (q : Position). length q.header) is_here in
    let room : room_at p ≡ 24 - length p.header = room_in_header p short in
    short_capture (bytes ++ part) (omega (arith, both, header_size, room, fits, few))
    ∙ sym (taken_in_header here part few) ∙ ap (λ q. taken q part) is_here

-- and behind it
pub in_record : (bytes part : List ℕ) (p : Position) → position_of bytes ≡ Ok p → 24 ≤ length p.header
    → MayEnd (longer p part) → position_of (bytes ++ part) ≡ taken p part
in_record bytes part p h long may_end = at (opened bytes p h)
  where
    at : Opened bytes p → position_of (bytes ++ part) ≡ taken p part
    at o =
        let reach : Reach = o.reach in
        let header : List ℕ = take 24 bytes in
        let here : Position = position_at header reach in
        let size : length (take 24 bytes) ≡ min 24 (length bytes) = length-take 24 bytes in
        let same_size : length (take 24 bytes) ≡ length p.header = ap (λ (q : Position). length q.header) o.place in
        let enough : 24 ≤ length bytes = omega (arith, size, same_size, long) in
        let header_long : 24 ≤ length header = omega (arith, same_size, long) in
        let form : form_of bytes ≡ form_of header =
        sym (by_front form_of 4 form_of-append 24 bytes (omega arith) (omega (arith, enough))) in
        let k : ℕ = length bytes + length part in
        let on : Reach = further reach part in
        let both : length (reach.rest ++ part) ≡ length reach.rest + length part = length-append reach.rest part in
        let may : MayEnd (longer here part) =
        subst (λ (q : Position). MayEnd (longer q part)) (sym o.place) may_end in
        let front : take 32 (take 32 reach.rest ++ part) ≡ take 32 (reach.rest ++ part) =
        front-append 32 reach.rest part in
        let most : 16 ≤ length on.rest → length on.rest ≤ 16 + captured_of (form_of header) on.rest = λ there.
        let counted : captured_of (form_of header) (take 32 (take 32 reach.rest ++ part))
        ≡ captured_of (form_of header) on.rest =
        ap (captured_of (form_of header)) front ∙ captured_of-front (form_of header) on.rest there in
        let all : length reach.rest + length part
        ≤ 16 + captured_of (form_of header) (take 32 (take 32 reach.rest ++ part)) =
        may.most (omega (arith, both, there)) in
        omega (arith, both, counted, all) in
        onward (suc k) bytes part enough o.none (omega arith)
        ∙ ap (λ x. placed header (x >>= λ r. read_on (suc k) (form_of bytes) (further r part))) o.reached
        ∙ ap (λ f. placed header (read_on (suc k) f on)) form
        ∙ one_turn k header on most (record_fault (form_of header) (length on.records) (length on.rest) on.rest) refl
        (is_whole (form_of header) (length on.rest) on.rest) refl
        ∙ ap (λ n. settled (record {
          header = header;
          records = reach.records;
          there = n;
          front = take 32 (reach.rest ++ part);
        })) both
        ∙ ap (λ (f : List ℕ). settled (record {
          header = header;
          records = reach.records;
          there = length reach.rest + length part;
          front = f;
        })) (sym front)
        ∙ sym (taken_in_record here part header_long)
        ∙ ap (λ q. taken q part) o.place

-- in the header or behind it
pub position_of-taken : (bytes part : List ℕ) (p : Position) → position_of bytes ≡ Ok p → IsOpen p
    → 0 < length part → length part ≤ room_at p → position_of (bytes ++ part) ≡ taken p part
position_of-taken bytes part p h is_open some fits = by (cases_lt (length p.header) 24)
  where
    by : (length p.header < 24) ⊎ (24 ≤ length p.header) → position_of (bytes ++ part) ≡ taken p part
    by (inl short) = in_header bytes part p h short fits
    by (inr long) = in_record bytes part p h long (longer-may_end p part is_open long some fits)

-- what is taken without a fault leaves the position between two bytes
pub settled_open : (p q : Position) → MayEnd p → (fault : Option CaptureFault)
    → record_fault (form_of p.header) (length p.records) p.there p.front ≡ fault
    → (whole : Bool) → is_whole (form_of p.header) p.there p.front ≡ whole
    → judged p fault whole ≡ Ok q → length p.header ≤ 24 → IsOpen q
settled_open p q may (Some f) e whole w h header = absurd (Err-Ok f q h)
settled_open p q may None e true w h header =
    let fine : RecordAllowed (form_of p.header) (length p.records) p.there p.front =
    allowed (form_of p.header) (length p.records) p.there p.front may.some e in
    let r : Record = record_of (form_of p.header) p.front in
    let more : length (p.records ++ r ∷ []) ≡ length p.records + 1 = length-append p.records (r ∷ []) in
    let fewer : length p.records < 1_000_000 = less (cases_lt (length p.records) 1_000_000) fine.room in
    let after : Position = record { header = p.header; records = p.records ++ r ∷ []; there = 0; front = [] } in
    subst IsOpen (same_Ok after q h) (record {
      header = header;
      before = λ _. refl;
      few = omega (arith, more, fewer);
      front = refl;
      short = λ there. absurd (none there);
      within = λ there. absurd (none there);
    })
  where
    less : (length p.records < 1_000_000) ⊎ (1_000_000 ≤ length p.records) → (length p.records ≡ 1_000_000 → ⊥)
        → length p.records < 1_000_000
    less (inl below) other = below
    less (inr all) other = absurd (other (omega (arith, all, may.few)))

    none : 16 ≤ 0 → ⊥
    none there = omega (arith, there)
settled_open p q may None e false w h header =
    let fine : RecordAllowed (form_of p.header) (length p.records) p.there p.front =
    allowed (form_of p.header) (length p.records) p.there p.front may.some e in
    subst IsOpen (same_Ok p q h) (record {
      header = header;
      before = λ short. omega (arith, short, may.header);
      few = may.few;
      front = may.front;
      short = fine.short;
      within = not_whole (form_of p.header) p.there p.front w;
    })

pub taken-open : (p q : Position) (part : List ℕ) → IsOpen p → 0 < length part → length part ≤ room_at p
    → taken p part ≡ Ok q → IsOpen q
taken-open p q part is_open some fits h = by (cases_lt (length p.header) 24)
  where
    nothing : p.there ≡ 0 → 16 ≤ p.there → ⊥
    nothing e there = omega (arith, e, there)

    in_front : (fault : Option CaptureFault) → without fault (Ok (record p { header = p.header ++ part })) ≡ Ok q
        → length p.header < 24 → IsOpen q
    in_front (Some f) e short = absurd (Err-Ok f q e)
    in_front None e short =
        let none : p.there ≡ 0 = is_open.before short in
        let both : length (p.header ++ part) ≡ length p.header + length part = length-append p.header part in
        let room : room_at p ≡ 24 - length p.header = room_in_header p short in
        subst IsOpen (same_Ok (record p { header = p.header ++ part }) q e) (record {
          header = omega (arith, both, room, fits, short);
          before = λ _. none;
          few = is_open.few;
          front = is_open.front;
          short = λ there. absurd (nothing none there);
          within = λ there. absurd (nothing none there);
        })

    by : (length p.header < 24) ⊎ (24 ≤ length p.header) → IsOpen q
    by (inl short) = in_front (header_fault (p.header ++ part)) (sym (taken_in_header p part short) ∙ h) short
    by (inr long) =
        let after : Position = longer p part in
        settled_open after q (longer-may_end p part is_open long some fits)
        (record_fault (form_of after.header) (length after.records) after.there after.front) refl
        (is_whole (form_of after.header) after.there after.front) refl
        (sym (by_judgement after) ∙ sym (taken_in_record p part long) ∙ h) is_open.header

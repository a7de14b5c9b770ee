use Rattle.std.proofs.Common.{◌≡◌, ◌≢◌, ℕ, ◌+◌, ◌-◌, ◌<◌, ◌≤◌, inl, inr, List, length, get_or}
use Rattle.std.proofs.Common.{set, drop, slice_range, Some, refl, sym, ap, ◌∙◌, arith}
use Rattle.std.proofs.lemmas.List.{get_or-set_same, get_or-set_other, length-set, get_or_default}
use Rattle.std.proofs.lemmas.List.{get_or-take, get_or-drop}
use Rattle.std.proofs.lemmas.Bool.{cases_eq, cases_lt}
use Rattle.ats_num.specs.declared.time.Ps.{Ps}
use Rattle.ats_trace.specs.HopRecord.{HopRecord}
use Rattle.ats_trace.specs.declared.journey.Journey.{Journey}
use Rattle.ats_trace.specs.declared.journey.Span.{Span}
use Rattle.ats_run_records.specs.declared.opening.TheConstants.{MAX_ROOM}
use Rattle.ats_run_records.specs.Progress.{Ledger, Progress, last_hop, progress_at, with_hop, with_sent, no_hop}
use Rattle.ats_run_records.specs.Inside.{progress_of, progresses, no_journey, no_span, span_at, end_of_room}
use Rattle.ats_run_records.specs.Inside.{AreRecords, IsLaid, ledger_of}
use Rattle.ats_run_records.proofs.Rooms.{row_at, AreEven, even-laid, length-progresses, progresses-at, changed}
use Rattle.ats_run_records.proofs.Rooms.{range-set-before, range-set-behind, range-more, range-set-inside, length-range}

-- this is the span of one row of all
pub record IsFound (all : List Progress) (journeys : List Journey) (spans : List Span) (frames : List ℕ)
    (hops : List HopRecord) (row : ℕ) (span : Span) : Type 0 where
  pub seen : progresses journeys spans frames hops ≡ all
  pub laid : IsLaid journeys spans frames hops
  pub within : row < length all
  pub is : span ≡ get_or spans row span

pub length-all : (all : List Progress) (journeys : List Journey) (spans : List Span) (frames : List ℕ)
    (hops : List HopRecord) → progresses journeys spans frames hops ≡ all → IsLaid journeys spans frames hops
    → length all ≡ length journeys
length-all all journeys spans frames hops seen laid =
    sym (ap (λ (ps : List Progress). length ps) seen)
    ∙ length-progresses (length journeys) journeys spans frames hops (even-laid journeys spans frames hops laid)

-- what is stored of a row is its progress
pub stored : (all : List Progress) (journeys : List Journey) (spans : List Span) (frames : List ℕ)
    (hops : List HopRecord) (row : ℕ) → progresses journeys spans frames hops ≡ all
    → IsLaid journeys spans frames hops → row < length all
    → progress_at all row ≡ progress_of hops (row_at journeys spans frames row)
stored all journeys spans frames hops row seen laid within =
    sym (ap (λ (ps : List Progress). progress_at ps row) seen)
    ∙ progresses-at (length journeys) journeys spans frames hops row (even-laid journeys spans frames hops laid)
    (omega (arith, length-all all journeys spans frames hops seen laid))

-- the records are laid, and seen as what has happened along all legs
pub in-place : {ledger : Ledger} {journeys : List Journey} {spans : List Span} {frames firsts : List ℕ}
    {hops : List HopRecord} {row : ℕ} {span : Span} → AreRecords journeys spans frames firsts hops
    → ledger_of journeys spans frames firsts hops ≡ ledger → row < length ledger.legs
    → span ≡ get_or spans row span → IsFound ledger.legs journeys spans frames hops row span
in-place are seen within is = record {
  seen = ap (λ (l : Ledger). l.legs) seen;
  laid = are.laid;
  within = within;
  is = is;
}

-- a row of them has its place in each list
pub in-rows : {ledger : Ledger} {journeys : List Journey} {spans : List Span} {frames firsts : List ℕ}
    {hops : List HopRecord} → AreRecords journeys spans frames firsts hops
    → ledger_of journeys spans frames firsts hops ≡ ledger → length ledger.legs ≡ length journeys
in-rows {ledger} {journeys} {spans} {frames} {firsts} {hops} are seen =
    length-all ledger.legs journeys spans frames hops (ap (λ (l : Ledger). l.legs) seen) are.laid

-- what is stored of it
pub frame-is : {ledger : Ledger} {journeys : List Journey} {spans : List Span} {frames firsts : List ℕ}
    {hops : List HopRecord} {row frame : ℕ} → AreRecords journeys spans frames firsts hops
    → ledger_of journeys spans frames firsts hops ≡ ledger → row < length ledger.legs
    → frame ≡ get_or frames row frame → frame ≡ (progress_at ledger.legs row).frame
frame-is {ledger} {journeys} {spans} {frames} {firsts} {hops} {row} {frame} are seen within is =
    is ∙ get_or_default frames row frame 0 (omega (arith, within, in-rows are seen, are.laid.framed))
    ∙ sym (ap (λ (p : Progress). p.frame) (stored ledger.legs journeys spans frames hops row
    (ap (λ (l : Ledger). l.legs) seen) are.laid within))

pub leg-is : {ledger : Ledger} {journeys : List Journey} {spans : List Span} {frames firsts : List ℕ}
    {hops : List HopRecord} {row : ℕ} {span : Span} → AreRecords journeys spans frames firsts hops
    → ledger_of journeys spans frames firsts hops ≡ ledger → row < length ledger.legs
    → span ≡ get_or spans row span → span.leg ≡ (progress_at ledger.legs row).leg
leg-is {ledger} {journeys} {spans} {frames} {firsts} {hops} {row} {span} are seen within is =
    ap (λ (s : Span). s.leg)
    (is ∙ get_or_default spans row span no_span (omega (arith, within, in-rows are seen, are.laid.spanned)))
    ∙ sym (ap (λ (p : Progress). p.leg) (stored ledger.legs journeys spans frames hops row
    (ap (λ (l : Ledger). l.legs) seen) are.laid within))

pub release-is : {ledger : Ledger} {journeys : List Journey} {spans : List Span} {frames firsts : List ℕ}
    {hops : List HopRecord} {row : ℕ} {journey : Journey} → AreRecords journeys spans frames firsts hops
    → ledger_of journeys spans frames firsts hops ≡ ledger → row < length ledger.legs
    → journey ≡ get_or journeys row journey → journey.release ≡ (progress_at ledger.legs row).release
release-is {ledger} {journeys} {spans} {frames} {firsts} {hops} {row} {journey} are seen within is =
    ap (λ (j : Journey). j.release)
    (is ∙ get_or_default journeys row journey no_journey (omega (arith, within, in-rows are seen)))
    ∙ sym (ap (λ (p : Progress). p.release) (stored ledger.legs journeys spans frames hops row
    (ap (λ (l : Ledger). l.legs) seen) are.laid within))

pub in-spans : {all : List Progress} {journeys : List Journey} {spans : List Span} {frames : List ℕ}
    {hops : List HopRecord} {row : ℕ} {span : Span} → IsFound all journeys spans frames hops row span
    → row < length journeys
in-spans {all} {journeys} {spans} {frames} {hops} found =
    omega (arith, found.within, length-all all journeys spans frames hops found.seen found.laid)

pub span-is : {all : List Progress} {journeys : List Journey} {spans : List Span} {frames : List ℕ}
    {hops : List HopRecord} {row : ℕ} {span : Span} → IsFound all journeys spans frames hops row span
    → span ≡ span_at spans row
span-is {spans = spans} {row = row} {span = span} found =
    found.is ∙ get_or_default spans row span no_span (omega (arith, in-spans found, found.laid.spanned))

-- its records are those of its span
pub hops-is : {all : List Progress} {journeys : List Journey} {spans : List Span} {frames : List ℕ}
    {hops : List HopRecord} {row : ℕ} {span : Span} → IsFound all journeys spans frames hops row span
    → slice_range hops span.first (span.first + span.count) ≡ (progress_at all row).hops
hops-is {all} {journeys} {spans} {frames} {hops} {row} {span} found =
    ap (λ (s : Span). slice_range hops s.first (s.first + s.count)) (span-is found)
    ∙ sym (ap (λ (p : Progress). p.hops)
    (stored all journeys spans frames hops row found.seen found.laid found.within))

-- and its room is in the list of all
pub record IsRoom (span : Span) (room most : ℕ) : Type 0 where
  pub counts : span.count ≤ room
  pub within : span.first + room ≤ most
  pub small : room ≤ MAX_ROOM

pub room-is : {all : List Progress} {journeys : List Journey} {spans : List Span} {frames : List ℕ}
    {hops : List HopRecord} {row : ℕ} {span : Span} → IsFound all journeys spans frames hops row span
    → IsRoom span (span_at spans row).room (length hops)
room-is {spans = spans} {row = row} found =
    let below = in-spans found in
    let same = span-is found in
    record {
      counts = omega (arith, found.laid.counts row below, ap (λ (s : Span). s.count) same);
      within = omega (arith, found.laid.within row below, ap (λ (s : Span). s.first) same);
      small = found.laid.rooms row below;
    }

pub count-is : {all : List Progress} {journeys : List Journey} {spans : List Span} {frames : List ℕ}
    {hops : List HopRecord} {row : ℕ} {span : Span} → IsFound all journeys spans frames hops row span
    → length (progress_at all row).hops ≡ span.count
count-is {hops = hops} {span = span} found =
    let room = room-is found in
    ap (λ (hs : List HopRecord). length hs) (sym (hops-is found))
    ∙ length-range hops span.first span.count (omega (arith, room.counts, room.within))

pub more-room : {all : List Progress} {journeys : List Journey} {spans : List Span} {frames : List ℕ}
    {hops : List HopRecord} {row : ℕ} {span : Span} → IsFound all journeys spans frames hops row span
    → length (progress_at all row).hops < (progress_at all row).room → span.count < (span_at spans row).room
more-room {all} {journeys} {spans} {frames} {hops} {row} found more =
    omega (
      arith,
      more,
      count-is found,
      ap (λ (p : Progress). p.room)
          (stored all journeys spans frames hops row found.seen found.laid found.within),
    )

-- the change of a stored row is the change of its progress
pub changed_all : (all : List Progress) (journeys : List Journey) (spans : List Span) (frames : List ℕ)
    (hops : List HopRecord) (row : ℕ) (f : Progress → Progress) → progresses journeys spans frames hops ≡ all
    → IsLaid journeys spans frames hops → row < length all
    → set (progresses journeys spans frames hops) row (f (progress_of hops (row_at journeys spans frames row)))
    ≡ set all row (f (progress_at all row))
changed_all all journeys spans frames hops row f seen laid within =
    ap (λ (p : Progress). set (progresses journeys spans frames hops) row (f p))
    (sym (stored all journeys spans frames hops row seen laid within))
    ∙ ap (λ (ps : List Progress). set ps row (f (progress_at all row))) seen

-- a record in the room of one row is in no range of another one
pub other-range : (journeys : List Journey) (spans : List Span) (frames : List ℕ) (hops : List HopRecord)
    (row i k : ℕ) (hop : HopRecord) → IsLaid journeys spans frames hops → row < length journeys
    → i < length journeys → i ≢ row → (span_at spans row).first ≤ k → k < end_of_room spans row
    → slice_range (set hops k hop) (span_at spans i).first ((span_at spans i).first + (span_at spans i).count)
    ≡ slice_range hops (span_at spans i).first ((span_at spans i).first + (span_at spans i).count)
other-range journeys spans frames hops row i k hop laid within below other reached inside =
    let first : ℕ = (span_at spans i).first in
    let count : ℕ = (span_at spans i).count in
    elim (cases_lt i row) [
      | inl before ↦
          (let apart = laid.apart i row before within in
          let counts = laid.counts i below in
          range-set-behind hops k first (first + count) hop (omega arith) (omega arith))
      | inr behind ↦
          (let after : row < i = omega arith in
          let apart = laid.apart row i after below in
          range-set-before hops k first (first + count) hop (omega arith))
    ]

-- one record more in a row's span
abbrev pub grown : Span → Span
grown span = record { first = span.first; leg = span.leg; count = span.count + 1; room = span.room }

-- what does not count the records stays
pub kept-grown : (f : Span → ℕ) (spans : List Span) (row i : ℕ) (span : Span) → row < length spans
    → span ≡ span_at spans row → f (grown span) ≡ f span
    → f (span_at (set spans row (grown span)) i) ≡ f (span_at spans i)
kept-grown f spans row i span within is kept = elim (cases_eq i row) [
  | inl same ↦
      (ap (λ (k : ℕ). f (span_at (set spans row (grown span)) k)) same
      ∙ ap f (get_or-set_same spans row (grown span) no_span within)
      ∙ kept ∙ ap f is
      ∙ sym (ap (λ (k : ℕ). f (span_at spans k)) same))
  | inr other ↦
      ap f (get_or-set_other spans row i (grown span) no_span other)
]

pub count-grown : (spans : List Span) (row i room : ℕ) (span : Span) → row < length spans
    → (i ≢ row → (span_at spans i).count ≤ room) → (i ≡ row → span.count < room)
    → (span_at (set spans row (grown span)) i).count ≤ room
count-grown spans row i room span within others own = elim (cases_eq i row) [
  | inl same ↦
      (let less = own same in
      omega (
        arith,
        ap (λ (k : ℕ). (span_at (set spans row (grown span)) k).count) same,
        ap (λ (s : Span). s.count) (get_or-set_same spans row (grown span) no_span within),
      ))
  | inr other ↦
      (let most = others other in
      omega (
        arith,
        ap (λ (s : Span). s.count) (get_or-set_other spans row i (grown span) no_span other),
      ))
]

pub laid-push : {all : List Progress} {journeys : List Journey} {spans : List Span} {frames : List ℕ}
    {hops : List HopRecord} {row : ℕ} {span : Span} (hop : HopRecord)
    → IsFound all journeys spans frames hops row span → span.count < (span_at spans row).room
    → IsLaid journeys (set spans row (grown span)) frames (set hops (span.first + span.count) hop)
laid-push {journeys = journeys} {spans = spans} {frames = frames} {hops = hops} {row = row} {span = span} hop
    found more =
    let laid = found.laid in
    let below = in-spans found in
    let is = span-is found in
    let within : row < length spans = omega (arith, laid.spanned) in
    let same : length (set hops (span.first + span.count) hop) ≡ length hops =
    length-set hops (span.first + span.count) hop in
    let firsts = λ (i : ℕ). kept-grown (λ (s : Span). s.first) spans row i span within is refl in
    let rooms = λ (i : ℕ). kept-grown (λ (s : Span). s.room) spans row i span within is refl in
    record {
      few = laid.few;
      spanned = length-set spans row (grown span) ∙ laid.spanned;
      framed = laid.framed;
      counted = omega (arith, laid.counted);
      rooms = λ i h. omega (arith, laid.rooms i h, rooms i);
      counts = λ i h. omega (
        arith,
        rooms i,
        count-grown spans row i (span_at spans i).room span within
            (λ _. laid.counts i h) (λ e. omega (arith, more, ap (λ (k : ℕ). (span_at spans k).room) e)),
      );
      within = λ i h. omega (arith, laid.within i h, firsts i, rooms i);
      apart = λ i j h g. omega (arith, laid.apart i j h g, firsts i, firsts j, rooms i);
    }

pub view-push : {all : List Progress} {journeys : List Journey} {spans : List Span} {frames : List ℕ}
    {hops : List HopRecord} {row : ℕ} {span : Span} (hop : HopRecord)
    → IsFound all journeys spans frames hops row span → span.count < (span_at spans row).room
    → progresses journeys (set spans row (grown span)) frames (set hops (span.first + span.count) hop)
    ≡ set all row (with_hop (progress_at all row) hop)
view-push {all} {journeys} {spans} {frames} {hops} {row} {span} hop found more =
    let laid = found.laid in
    let below = in-spans found in
    let is = span-is found in
    let n : ℕ = length journeys in
    let within : row < length spans = omega (arith, laid.spanned) in
    let room = room-is found in
    let even = even-laid journeys spans frames hops laid in
    let place : ℕ = span.first + span.count in
    let places : List Span = set spans row (grown span) in
    let made : List HopRecord = set hops place hop in
    let even_after : AreEven n journeys places frames = record {
      rows = refl;
      spanned = length-set spans row (grown span) ∙ laid.spanned;
      framed = laid.framed;
    } in
    let now : span_at places row ≡ grown span = get_or-set_same spans row (grown span) no_span within in
    let with_span : Span → List HopRecord → Progress = λ (s : Span) (hs : List HopRecord).
    progress_of hs (get_or journeys row no_journey, (s, get_or frames row 0)) in
    changed n journeys journeys spans places frames frames hops made row
    (with_hop (progress_of hops (row_at journeys spans frames row)) hop) even even_after below
    (ap (λ (s : Span). with_span s made) now
    ∙ ap (λ (hs : List HopRecord). record (with_span span hops) { hops = hs })
    (range-more hops span.first span.count hop (omega arith))
    ∙ ap (λ (s : Span). with_hop (with_span s hops) hop) is)
    (λ i h other.
    ap (λ (s : Span). progress_of made (get_or journeys i no_journey, (s, get_or frames i 0)))
    (get_or-set_other spans row i (grown span) no_span other)
    ∙ ap (λ (hs : List HopRecord). record (progress_of hops (row_at journeys spans frames i)) { hops = hs })
    (other-range journeys spans frames hops row i place hop laid below h other
    (omega (arith, ap (λ (s : Span). s.first) is)) (omega (arith, ap (λ (s : Span). s.first) is))))
    ∙ changed_all all journeys spans frames hops row (λ (p : Progress). with_hop p hop) found.seen laid found.within

-- the times of a transmission in a hop record
abbrev pub timed : HopRecord → Ps → Ps → HopRecord
timed hop start end = record { arrival = hop.arrival; verdict = hop.verdict; sent = Some (start, end) }

-- the last record of a range stands before its end
pub last-range : (hops : List HopRecord) (first count : ℕ) (hop : HopRecord) → first + count ≤ length hops
    → 0 < count → hop ≡ get_or hops (first + count - 1) hop
    → hop ≡ get_or (slice_range hops first (first + count)) (count - 1) no_hop
last-range hops first count hop within some is =
    let place : first + count - 1 ≡ first + (count - 1) = omega arith in
    is ∙ get_or_default hops (first + count - 1) hop no_hop (omega arith)
    ∙ ap (λ (k : ℕ). get_or hops k no_hop) place
    ∙ sym (get_or-drop first hops (count - 1) no_hop)
    ∙ sym (get_or-take (first + count - first) (drop first hops) (count - 1) no_hop (omega arith))

-- the one that is found at the end of a row's range is the row's last
pub last-is : {all : List Progress} {journeys : List Journey} {spans : List Span} {frames : List ℕ}
    {hops : List HopRecord} {row : ℕ} {span : Span} (hop : HopRecord)
    → IsFound all journeys spans frames hops row span → 0 < length (progress_at all row).hops
    → hop ≡ get_or hops (span.first + span.count - 1) hop → hop ≡ last_hop (progress_at all row)
last-is {all} {journeys} {spans} {frames} {hops} {row} {span} hop found some is =
    let room = room-is found in
    let more : 0 < span.count = omega (arith, count-is found) in
    last-range hops span.first span.count hop (omega (arith, room.counts, room.within)) more is
    ∙ ap (λ (hs : List HopRecord). get_or hs (span.count - 1) no_hop) (hops-is found)
    ∙ ap (λ (n : ℕ). get_or (progress_at all row).hops (n - 1) no_hop) (sym (count-is found))

pub laid-send : {all : List Progress} {journeys : List Journey} {spans : List Span} {frames : List ℕ}
    {hops : List HopRecord} {row : ℕ} {span : Span} (k : ℕ) (hop : HopRecord)
    → IsFound all journeys spans frames hops row span → IsLaid journeys spans frames (set hops k hop)
laid-send {hops = hops} k hop found =
    let laid = found.laid in
    let same : length (set hops k hop) ≡ length hops = length-set hops k hop in
    record {
      few = laid.few;
      spanned = laid.spanned;
      framed = laid.framed;
      counted = omega (arith, laid.counted);
      rooms = laid.rooms;
      counts = laid.counts;
      within = λ i h. omega (arith, laid.within i h);
      apart = laid.apart;
    }

sent-range : (hops : List HopRecord) (first count : ℕ) (hop : HopRecord) (start end : Ps)
    → first + count ≤ length hops → 0 < count → hop ≡ get_or hops (first + count - 1) hop
    → slice_range (set hops (first + count - 1) (timed hop start end)) first (first + count)
    ≡ set (slice_range hops first (first + count)) (length (slice_range hops first (first + count)) - 1)
    (timed (get_or (slice_range hops first (first + count))
    (length (slice_range hops first (first + count)) - 1) no_hop) start end)
sent-range hops first count hop start end within some is =
    let range : List HopRecord = slice_range hops first (first + count) in
    let long : length range ≡ count = length-range hops first count within in
    let place : first + count - 1 ≡ first + (count - 1) = omega arith in
    let last : count - 1 ≡ length range - 1 = omega arith in
    ap (λ (k : ℕ). slice_range (set hops k (timed hop start end)) first (first + count)) place
    ∙ range-set-inside hops first count (count - 1) (timed hop start end) (omega arith)
    ∙ ap (λ (h : HopRecord). set range (count - 1) (timed h start end)) (last-range hops first count hop within some is)
    ∙ ap (λ (k : ℕ). set range k (timed (get_or range k no_hop) start end)) last

pub view-send : {all : List Progress} {journeys : List Journey} {spans : List Span} {frames : List ℕ}
    {hops : List HopRecord} {row : ℕ} {span : Span} (hop sent : HopRecord) (start end : Ps)
    → IsFound all journeys spans frames hops row span → 0 < length (progress_at all row).hops
    → hop ≡ get_or hops (span.first + span.count - 1) hop → sent ≡ timed hop start end
    → progresses journeys spans frames (set hops (span.first + span.count - 1) sent)
    ≡ set all row (with_sent (progress_at all row) start end)
view-send {all} {journeys} {spans} {frames} {hops} {row} {span} hop sent start end found some is told =
    let laid = found.laid in
    let below = in-spans found in
    let own = span-is found in
    let n : ℕ = length journeys in
    let room = room-is found in
    let more : 0 < span.count = omega (arith, count-is found) in
    let even = even-laid journeys spans frames hops laid in
    let place : ℕ = span.first + span.count - 1 in
    let made : List HopRecord = set hops place (timed hop start end) in
    let with_span : Span → Progress = λ (s : Span).
    progress_of made (get_or journeys row no_journey, (s, get_or frames row 0)) in
    let sent_in : Span → Progress = λ (s : Span).
    with_sent (progress_of hops (get_or journeys row no_journey, (s, get_or frames row 0))) start end in
    ap (λ (h : HopRecord). progresses journeys spans frames (set hops place h)) told
    ∙ changed n journeys journeys spans spans frames frames hops made row
    (with_sent (progress_of hops (row_at journeys spans frames row)) start end) even even below
    (ap with_span (sym own)
    ∙ ap (λ (hs : List HopRecord). record (progress_of hops
    (get_or journeys row no_journey, (span, get_or frames row 0))) { hops = hs })
    (sent-range hops span.first span.count hop start end (omega (arith, room.counts, room.within)) more is)
    ∙ ap sent_in own)
    (λ i h other.
    ap (λ (hs : List HopRecord). record (progress_of hops (row_at journeys spans frames i)) { hops = hs })
    (other-range journeys spans frames hops row i place (timed hop start end) laid below h other
    (omega (arith, ap (λ (s : Span). s.first) own))
    (omega (arith, room.counts, ap (λ (s : Span). s.first) own))))
    ∙ changed_all all journeys spans frames hops row (λ (p : Progress). with_sent p start end) found.seen laid
    found.within

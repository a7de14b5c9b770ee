use Rattle.std.proofs.Common.{◌≡◌, ℕ, zero, suc, ◌+◌, ◌-◌, ◌<◌, ◌≤◌, List, [], ◌∷◌, ◌++◌, length, map}
use Rattle.std.proofs.Common.{All, take, drop, sum_by, refl, sym, ap, ◌∙◌, arith, append_assoc}
use Rattle.std.proofs.lemmas.List.{length-map, map-append, append-nil}
use Rattle.std.proofs.lemmas.List.Elements.{All-head, All-tail}
use Rattle.std.proofs.lemmas.List.Sums.{sum_by-cons, sum_by-append}
use Rattle.ats_trace.specs.HopRecord.{HopRecord}
use Rattle.ats_trace.specs.declared.journey.Journey.{Journey}
use Rattle.ats_trace.specs.declared.journey.Span.{Span}
use Rattle.ats_trace.specs.declared.run.TheConstants.{MAX_HOPS}
use Rattle.ats_run_records.specs.declared.opening.Rows.{Rows}
use Rattle.ats_run_records.specs.declared.opening.TheConstants.{MAX_ROOM}
use Rattle.ats_run_records.specs.Progress.{Progress, unmoved}
use Rattle.ats_run_records.specs.Opening.{AreAdded, AreOpened}
use Rattle.ats_run_records.specs.Inside.{progresses, opened_row, opened_span, spans_from, span_at, end_of_room, IsLaid}

-- how many hop records there may be along legs
abbrev pub rooms_of : List Progress → ℕ
rooms_of legs = sum_by (λ (leg : Progress). leg.room) legs

abbrev pub frame_of : Progress → ℕ
frame_of leg = leg.frame

-- the spans of more legs come behind those of the first ones
pub spans_from-append : (first : ℕ) (legs more : List Progress)
    → spans_from first (legs ++ more) ≡ spans_from first legs ++ spans_from (first + rooms_of legs) more
spans_from-append first [] more = ap (λ (n : ℕ). spans_from n more) (omega arith)
spans_from-append first (l ∷ legs) more =
    ap (λ (spans : List Span). opened_span first l ∷ spans)
    (spans_from-append (first + l.room) legs more
    ∙ ap (λ (n : ℕ). spans_from (first + l.room) legs ++ spans_from n more)
    (omega (arith, sum_by-cons (λ (leg : Progress). leg.room) l legs)))

pub length-spans_from : (first : ℕ) (legs : List Progress) → length (spans_from first legs) ≡ length legs
length-spans_from first [] = refl
length-spans_from first (l ∷ legs) = omega (arith, length-spans_from (first + l.room) legs)

-- no leg is there yet
pub added-none : (rows : Rows) → AreAdded [] rows rows
added-none rows = record {
  journeys = sym (append-nil rows.journeys.items);
  spans = sym (append-nil rows.spans.items);
  frames = sym (append-nil rows.frames.items);
  room = omega arith;
}

-- legs that are added behind others that were
pub added-more : {legs more : List Progress} {old between new : Rows} → AreAdded legs old between
    → AreAdded more between new → AreAdded (legs ++ more) old new
added-more {legs} {more} {old} {between} {new} first second = record {
  journeys = second.journeys ∙ ap (λ (js : List Journey). js ++ map opened_row more) first.journeys
      ∙ append_assoc old.journeys.items (map opened_row legs) (map opened_row more)
      ∙ ap (λ (js : List Journey). old.journeys.items ++ js) (sym (map-append opened_row legs more));
  spans = second.spans
      ∙ ap (λ (n : ℕ). between.spans.items ++ spans_from n more) first.room
      ∙ ap (λ (ss : List Span). ss ++ spans_from (old.room + rooms_of legs) more) first.spans
      ∙ append_assoc old.spans.items (spans_from old.room legs) (spans_from (old.room + rooms_of legs) more)
      ∙ ap (λ (ss : List Span). old.spans.items ++ ss) (sym (spans_from-append old.room legs more));
  frames = second.frames ∙ ap (λ (fs : List ℕ). fs ++ map frame_of more) first.frames
      ∙ append_assoc old.frames.items (map frame_of legs) (map frame_of more)
      ∙ ap (λ (fs : List ℕ). old.frames.items ++ fs) (sym (map-append frame_of legs more));
  room = omega (arith, first.room, second.room, sum_by-append (λ (leg : Progress). leg.room) legs more);
}

-- or behind those that were opened
pub opened-more : {legs more : List Progress} {old new : Rows} → AreOpened legs old → AreAdded more old new
    → AreOpened (legs ++ more) new
opened-more {legs} {more} {old} {new} first second =
    let none : rooms_of legs ≡ 0 + rooms_of legs = omega arith in
    record {
      journeys = second.journeys ∙ ap (λ (js : List Journey). js ++ map opened_row more) first.journeys
          ∙ sym (map-append opened_row legs more);
      spans = second.spans
          ∙ ap (λ (n : ℕ). old.spans.items ++ spans_from n more) first.room
          ∙ ap (λ (ss : List Span). ss ++ spans_from (rooms_of legs) more) first.spans
          ∙ ap (λ (n : ℕ). spans_from 0 legs ++ spans_from n more) none
          ∙ sym (spans_from-append 0 legs more);
      frames = second.frames ∙ ap (λ (fs : List ℕ). fs ++ map frame_of more) first.frames
          ∙ sym (map-append frame_of legs more);
      room = omega (arith, first.room, second.room, sum_by-append (λ (leg : Progress). leg.room) legs more);
    }

-- the room of each leg ends by the sum
pub room-from : (first : ℕ) (legs : List Progress) (i : ℕ) → i < length legs
    → (first ≤ (span_at (spans_from first legs) i).first)
    × (end_of_room (spans_from first legs) i ≤ first + rooms_of legs)
room-from first [] i h = absurd (omega arith)
room-from first (l ∷ legs) zero h =
    (omega arith, omega (arith, sum_by-cons (λ (leg : Progress). leg.room) l legs))
room-from first (l ∷ legs) (suc i) h =
    let rest = room-from (first + l.room) legs i (omega arith) in
    (omega (arith, rest.0), omega (arith, rest.1, sum_by-cons (λ (leg : Progress). leg.room) l legs))

-- and where the next one begins, or before
pub apart-from : (first : ℕ) (legs : List Progress) (i j : ℕ) → i < j → j < length legs
    → end_of_room (spans_from first legs) i ≤ (span_at (spans_from first legs) j).first
apart-from first [] i j h g = absurd (omega arith)
apart-from first (l ∷ legs) i zero h g = absurd (omega arith)
apart-from first (l ∷ legs) zero (suc j) h g = omega (arith, (room-from (first + l.room) legs j (omega arith)).0)
apart-from first (l ∷ legs) (suc i) (suc j) h g = apart-from (first + l.room) legs i j (omega arith) (omega arith)

-- it is empty, and not greater than that of any leg
pub count-from : (first : ℕ) (legs : List Progress) (i : ℕ) → (span_at (spans_from first legs) i).count ≡ 0
count-from first [] i = refl
count-from first (l ∷ legs) zero = refl
count-from first (l ∷ legs) (suc i) = count-from (first + l.room) legs i

pub most-from : (first : ℕ) (legs : List Progress) (i : ℕ) → All (λ (leg : Progress). leg.room ≤ MAX_ROOM) legs
    → (span_at (spans_from first legs) i).room ≤ MAX_ROOM
most-from first [] i all = omega arith
most-from first (l ∷ legs) zero all = All-head (λ (leg : Progress). leg.room ≤ MAX_ROOM) l legs all
most-from first (l ∷ legs) (suc i) all =
    most-from (first + l.room) legs i (All-tail (λ (leg : Progress). leg.room ≤ MAX_ROOM) l legs all)

pub laid-open : (legs : List Progress) (hops : List HopRecord) → length legs ≤ MAX_HOPS
    → All (λ (leg : Progress). leg.room ≤ MAX_ROOM) legs → length hops ≡ rooms_of legs → rooms_of legs ≤ MAX_HOPS
    → IsLaid (map opened_row legs) (spans_from 0 legs) (map frame_of legs) hops
laid-open legs hops few most long bounded =
    let rows = length-map legs opened_row in
    let marks = length-map legs frame_of in
    let spans = length-spans_from 0 legs in
    record {
      few = omega (arith, rows);
      spanned = omega (arith, rows, spans);
      framed = omega (arith, rows, marks);
      counted = omega arith;
      rooms = λ i h. most-from 0 legs i most;
      counts = λ i h. omega (arith, count-from 0 legs i);
      within = λ i h. omega (arith, (room-from 0 legs i (omega (arith, rows))).1);
      apart = λ i j h g. apart-from 0 legs i j h (omega (arith, rows));
    }

-- a leg along which nothing has happened
abbrev pub IsUnmoved : Progress → Type 0
IsUnmoved leg = leg ≡ unmoved leg.frame leg.leg leg.release leg.room

pub view-open : (legs : List Progress) (first : ℕ) (hops : List HopRecord) → All IsUnmoved legs
    → progresses (map opened_row legs) (spans_from first legs) (map frame_of legs) hops ≡ legs
view-open [] first hops all = refl
view-open (l ∷ legs) first hops all =
    let none : first + 0 - first ≡ 0 = omega arith in
    ap (λ (n : ℕ). record (unmoved l.frame l.leg l.release l.room) { hops = take n (drop first hops) }
    ∷ progresses (map opened_row legs) (spans_from (first + l.room) legs) (map frame_of legs) hops) none
    ∙ ap (λ (p : Progress).
    p ∷ progresses (map opened_row legs) (spans_from (first + l.room) legs) (map frame_of legs) hops)
    (sym (All-head IsUnmoved l legs all))
    ∙ ap (λ (ps : List Progress). l ∷ ps)
    (view-open legs (first + l.room) hops (All-tail IsUnmoved l legs all))

use Rattle.std.proofs.Common.{◌≡◌, ℕ, ◌<◌, List, [], ◌∷◌, length, map, get_or, set, refl, sym, ap}
use Rattle.std.proofs.Common.{subst, ◌∙◌, arith}
use Rattle.std.proofs.lemmas.List.{get_or-set_same, get_or-set_other, length-set, get_or_default}
use Rattle.ats_trace.specs.Stored.{AreFirsts, AreRows, gathered, leg_of, legs_told, travels_of}
use Rattle.ats_trace.specs.Journey.{Leg}
use Rattle.ats_trace.specs.declared.journey.Ending.{Ending}
use Rattle.ats_trace.specs.HopRecord.{HopRecord}
use Rattle.ats_trace.specs.declared.journey.Journey.{Journey}
use Rattle.ats_trace.specs.declared.journey.Release.{Release}
use Rattle.ats_trace.specs.declared.journey.Span.{Span}
use Rattle.ats_run_records.specs.Progress.{Ledger, Progress, progress_at, with_ending, with_leg, told_of, finished}
use Rattle.ats_run_records.specs.Inside.{progress_of, progresses, ledger_of, no_journey, no_span, span_at}
use Rattle.ats_run_records.specs.Inside.{AreRecords, IsLaid}
use Rattle.ats_run_records.proofs.Rooms.{row_at, AreEven, even-laid, changed}
use Rattle.ats_run_records.proofs.Writes.{length-all, changed_all}

-- a leg that has ended so
abbrev pub closed_row : Journey → Ending → Journey
closed_row journey ending = record { release = journey.release; ending = ending }

pub laid-close : {journeys : List Journey} {spans : List Span} {frames : List ℕ} {hops : List HopRecord}
    (row : ℕ) (journey : Journey) → IsLaid journeys spans frames hops
    → IsLaid (set journeys row journey) spans frames hops
laid-close {journeys} row journey laid =
    let same : length (set journeys row journey) ≡ length journeys = length-set journeys row journey in
    record {
      few = omega (arith, laid.few);
      spanned = omega (arith, laid.spanned);
      framed = omega (arith, laid.framed);
      counted = laid.counted;
      rooms = λ i h. laid.rooms i (omega arith);
      counts = λ i h. laid.counts i (omega arith);
      within = λ i h. laid.within i (omega arith);
      apart = λ i j h g. laid.apart i j h (omega arith);
    }

pub records-close : {journeys : List Journey} {spans : List Span} {frames firsts : List ℕ} {hops : List HopRecord}
    (row : ℕ) (journey : Journey) → AreRecords journeys spans frames firsts hops
    → AreRecords (set journeys row journey) spans frames firsts hops
records-close {journeys} {spans} {frames} {firsts} {hops} row journey are = record {
  laid = laid-close row journey are.laid;
  few = are.few;
  copies = subst (λ (n : ℕ). AreFirsts (length firsts) n firsts) (sym (length-set journeys row journey)) are.copies;
}

-- where spans and records change alone
pub records-write : {journeys : List Journey} {spans places : List Span} {frames firsts : List ℕ}
    {hops made : List HopRecord} → AreRecords journeys spans frames firsts hops → IsLaid journeys places frames made
    → AreRecords journeys places frames firsts made
records-write are laid = record { laid = laid; few = are.few; copies = are.copies }

pub view-close : {all : List Progress} {journeys : List Journey} {spans : List Span} {frames : List ℕ}
    {hops : List HopRecord} (row : ℕ) (journey : Journey) (ending : Ending)
    → progresses journeys spans frames hops ≡ all → IsLaid journeys spans frames hops → row < length all
    → journey ≡ get_or journeys row journey
    → progresses (set journeys row (closed_row journey ending)) spans frames hops
    ≡ set all row (with_ending (progress_at all row) ending)
view-close {all} {journeys} {spans} {frames} {hops} row journey ending seen laid within is =
    let n : ℕ = length journeys in
    let below : row < n = omega (arith, length-all all journeys spans frames hops seen laid) in
    let closed = closed_row journey ending in
    let rows : List Journey = set journeys row closed in
    let even = even-laid journeys spans frames hops laid in
    let even_after : AreEven n rows spans frames = record {
      rows = length-set journeys row closed;
      spanned = laid.spanned;
      framed = laid.framed;
    } in
    let with_row : Journey → Progress = λ (j : Journey). progress_of hops (j, (span_at spans row, get_or frames row 0))
    in
    changed n journeys rows spans spans frames frames hops hops row
    (with_ending (progress_of hops (row_at journeys spans frames row)) ending) even even_after below
    (ap with_row (get_or-set_same journeys row closed no_journey below)
    ∙ ap (λ (j : Journey). with_ending (with_row j) ending) (is ∙ get_or_default journeys row journey no_journey below))
    (λ i h other.
    ap (λ (j : Journey). progress_of hops (j, (span_at spans i, get_or frames i 0)))
    (get_or-set_other journeys row i closed no_journey other))
    ∙ changed_all all journeys spans frames hops row (λ (p : Progress). with_ending p ending) seen laid within

-- what is told of legs of which one has changed
pub told-again : (ledger : Ledger) (before after : List Progress) (firsts : List ℕ) (row : ℕ) (p : Progress)
    → record { legs = before; firsts = firsts } ≡ ledger → after ≡ set ledger.legs row p
    → record { legs = after; firsts = firsts } ≡ with_leg ledger row p
told-again ledger before after firsts row p seen changes =
    ap (λ (legs : List Progress). record { legs = legs; firsts = firsts }) changes
    ∙ ap (λ (l : Ledger). record { legs = set ledger.legs row p; firsts = l.firsts }) seen

-- rows, spans and records make a run
pub rows-laid : (journeys : List Journey) (spans : List Span) (frames firsts : List ℕ) (hops : List HopRecord)
    → AreRecords journeys spans frames firsts hops → AreRows journeys spans firsts hops
rows-laid journeys spans frames firsts hops are = record {
  few = are.few;
  few_legs = are.laid.few;
  copies = are.copies;
  spanned = are.laid.spanned;
  within = λ i d h.
      (let below : i < length journeys = omega (arith, are.laid.spanned) in
      let same = get_or_default spans i d no_span h in
      omega (
        arith,
        are.laid.counts i below,
        are.laid.within i below,
        ap (λ (s : Span). s.first) same,
        ap (λ (s : Span). s.count) same,
      ));
}

-- which tell what the progress of each leg tells
pub told-rows : (journeys : List Journey) (spans : List Span) (frames : List ℕ) (hops : List HopRecord)
    → length spans ≡ length journeys → length frames ≡ length journeys
    → legs_told journeys spans hops ≡ map told_of (progresses journeys spans frames hops)
told-rows [] spans frames hops spanned framed = refl
told-rows (j ∷ journeys) [] frames hops spanned framed = absurd (omega arith)
told-rows (j ∷ journeys) (s ∷ spans) [] hops spanned framed = absurd (omega arith)
told-rows (j ∷ journeys) (s ∷ spans) (f ∷ frames) hops spanned framed =
    ap (λ (legs : List (Release × Leg)). leg_of hops (j, s) ∷ legs)
    (told-rows journeys spans frames hops (omega arith) (omega arith))

-- so their run is that of the records
pub run-of : (journeys : List Journey) (spans : List Span) (frames firsts : List ℕ) (hops : List HopRecord)
    → IsLaid journeys spans frames hops
    → travels_of journeys spans firsts hops ≡ finished (ledger_of journeys spans frames firsts hops)
run-of journeys spans frames firsts hops laid =
    ap (λ (legs : List (Release × Leg)). gathered legs firsts)
    (told-rows journeys spans frames hops laid.spanned laid.framed)

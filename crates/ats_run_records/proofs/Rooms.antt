use Rattle.std.proofs.Common.{◌≡◌, ◌≢◌, ℕ, ◌+◌, ◌-◌, ◌<◌, ◌≤◌, inl, inr, List, [], ◌∷◌, ◌++◌, length, get_or}
use Rattle.std.proofs.Common.{take, drop, set, slice_range, refl, sym, ap, ◌∙◌, arith}
use Rattle.std.specs.List.{zip}
use Rattle.std.proofs.lemmas.List.{get_or-map, length-map, ext_get_or, get_or-set_same, get_or-set_other, length-set}
use Rattle.std.proofs.lemmas.List.{drop-set-lt, drop-set-add, take-set-le, take_more_set, length-drop}
use Rattle.std.proofs.lemmas.List.{length-take}
use Rattle.std.proofs.Math.Seq.{take-set-lt}
use Rattle.std.proofs.lemmas.Slice.Zip.{get_or-zip, length-zip}
use Rattle.std.proofs.lemmas.Bool.{cases_eq}
use Rattle.ats_trace.specs.HopRecord.{HopRecord}
use Rattle.ats_trace.specs.declared.journey.Journey.{Journey}
use Rattle.ats_trace.specs.declared.journey.Span.{Span}
use Rattle.ats_run_records.specs.Progress.{Progress, no_progress, progress_at}
use Rattle.ats_run_records.specs.Inside.{progress_of, progresses, no_journey, no_span, span_at}
use Rattle.ats_run_records.specs.Inside.{IsLaid}

-- what is kept of the leg with this row
abbrev pub row_at : List Journey → List Span → List ℕ → ℕ → Journey × (Span × ℕ)
row_at journeys spans frames i = (get_or journeys i no_journey, (span_at spans i, get_or frames i 0))

-- each list has one entry for each of so many rows
pub record AreEven (n : ℕ) (journeys : List Journey) (spans : List Span) (frames : List ℕ) : Type 0 where
  pub rows : length journeys ≡ n
  pub spanned : length spans ≡ n
  pub framed : length frames ≡ n

pub even-laid : (journeys : List Journey) (spans : List Span) (frames : List ℕ) (hops : List HopRecord)
    → IsLaid journeys spans frames hops → AreEven (length journeys) journeys spans frames
even-laid journeys spans frames hops laid = record { rows = refl; spanned = laid.spanned; framed = laid.framed }

length-rows : (n : ℕ) (journeys : List Journey) (spans : List Span) (frames : List ℕ)
    → AreEven n journeys spans frames → length (zip journeys (zip spans frames)) ≡ n
length-rows n journeys spans frames even =
    omega (
      arith,
      even.rows,
      even.spanned,
      even.framed,
      length-zip spans frames,
      length-zip journeys (zip spans frames),
    )

pub length-progresses : (n : ℕ) (journeys : List Journey) (spans : List Span) (frames : List ℕ)
    (hops : List HopRecord) → AreEven n journeys spans frames → length (progresses journeys spans frames hops) ≡ n
length-progresses n journeys spans frames hops even =
    length-map (zip journeys (zip spans frames)) (progress_of hops) ∙ length-rows n journeys spans frames even

pub progresses-at : (n : ℕ) (journeys : List Journey) (spans : List Span) (frames : List ℕ)
    (hops : List HopRecord) (i : ℕ) → AreEven n journeys spans frames → i < n
    → progress_at (progresses journeys spans frames hops) i ≡ progress_of hops (row_at journeys spans frames i)
progresses-at n journeys spans frames hops i even within =
    let empty : Journey × (Span × ℕ) = (no_journey, (no_span, 0)) in
    let long : length (zip spans frames) ≡ n = omega (arith, even.spanned, even.framed, length-zip spans frames) in
    get_or-map (progress_of hops) (zip journeys (zip spans frames)) i empty no_progress
    (omega (arith, length-rows n journeys spans frames even))
    ∙ ap (progress_of hops) (get_or-zip journeys (zip spans frames) i empty (omega (arith, even.rows)) (omega arith)
    ∙ ap (λ (s : Span × ℕ). (get_or journeys i no_journey, s))
    (get_or-zip spans frames i (no_span, 0) (omega (arith, even.spanned)) (omega (arith, even.framed))))

-- where the progress of one row changes and no other one, the list of all changes in its place
pub changed : (n : ℕ) (journeys rows : List Journey) (spans places : List Span) (frames marks : List ℕ)
    (hops made : List HopRecord) (row : ℕ) (p : Progress)
    → AreEven n journeys spans frames → AreEven n rows places marks → row < n
    → progress_of made (row_at rows places marks row) ≡ p
    → ((i : ℕ) → i < n → i ≢ row
    → progress_of made (row_at rows places marks i) ≡ progress_of hops (row_at journeys spans frames i))
    → progresses rows places marks made ≡ set (progresses journeys spans frames hops) row p
changed n journeys rows spans places frames marks hops made row p old new within here there =
    let before : List Progress = progresses journeys spans frames hops in
    let after : List Progress = progresses rows places marks made in
    let long : length before ≡ n = length-progresses n journeys spans frames hops old in
    let as_long : length after ≡ n = length-progresses n rows places marks made new in
    let set_long : length (set before row p) ≡ length before = length-set before row p in
    ext_get_or no_progress after (set before row p) (omega arith)
    (λ i below.
    (let below_n : i < n = omega arith in
    progresses-at n rows places marks made i new below_n ∙ elim (cases_eq i row) [
      | inl same ↦
          ap (λ (k : ℕ). progress_of made (row_at rows places marks k)) same ∙ here
          ∙ sym (ap (λ (k : ℕ). get_or (set before row p) k no_progress) same
          ∙ get_or-set_same before row p no_progress (omega arith))
      | inr other ↦
          there i below_n other ∙ sym (progresses-at n journeys spans frames hops i old below_n)
          ∙ sym (get_or-set_other before row i p no_progress other)
    ]))

-- a record outside of a range is no part of it
pub range-set-before : (hops : List HopRecord) (k first end : ℕ) (hop : HopRecord) → k < first
    → slice_range (set hops k hop) first end ≡ slice_range hops first end
range-set-before hops k first end hop before =
    ap (take (end - first)) (drop-set-lt first hops k hop before)

pub range-set-behind : (hops : List HopRecord) (k first end : ℕ) (hop : HopRecord) → first ≤ k → end ≤ k
    → slice_range (set hops k hop) first end ≡ slice_range hops first end
range-set-behind hops k first end hop reached behind =
    let at : k ≡ first + (k - first) = omega arith in
    ap (λ (i : ℕ). take (end - first) (drop first (set hops i hop))) at
    ∙ ap (take (end - first)) (drop-set-add first hops (k - first) hop)
    ∙ take-set-le (end - first) (drop first hops) (k - first) hop (omega arith)

-- a record that comes right behind a range becomes its last
pub range-more : (hops : List HopRecord) (first count : ℕ) (hop : HopRecord) → first + count < length hops
    → slice_range (set hops (first + count) hop) first (first + (count + 1))
    ≡ slice_range hops first (first + count) ++ hop ∷ []
range-more hops first count hop within =
    let more : first + (count + 1) - first ≡ count + 1 = omega arith in
    let same : first + count - first ≡ count = omega arith in
    ap (λ (n : ℕ). take n (drop first (set hops (first + count) hop))) more
    ∙ ap (take (count + 1)) (drop-set-add first hops count hop)
    ∙ take_more_set (drop first hops) count hop (omega (arith, length-drop first hops))
    ∙ ap (λ (n : ℕ). take n (drop first hops) ++ hop ∷ []) (sym same)

-- a record in a range that is written again is written again in the range
pub range-set-inside : (hops : List HopRecord) (first count k : ℕ) (hop : HopRecord) → k < count
    → slice_range (set hops (first + k) hop) first (first + count)
    ≡ set (slice_range hops first (first + count)) k hop
range-set-inside hops first count k hop inside =
    ap (take (first + count - first)) (drop-set-add first hops k hop)
    ∙ take-set-lt (first + count - first) (drop first hops) k hop (omega arith)

-- so many records has a range
pub length-range : (hops : List HopRecord) (first count : ℕ) → first + count ≤ length hops
    → length (slice_range hops first (first + count)) ≡ count
length-range hops first count within =
    omega (arith, length-take (first + count - first) (drop first hops), length-drop first hops)

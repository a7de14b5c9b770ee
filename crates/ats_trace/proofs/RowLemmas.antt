use Rattle.std.proofs.Common.{◌≡◌, ℕ, zero, suc, ◌+◌, ◌-◌, ◌<◌, ◌≤◌, List, [], ◌∷◌, length, map, take, drop, get_or}
use Rattle.std.proofs.Common.{All}
use Rattle.std.proofs.Common.{inl, inr, refl, sym, ap, subst, ◌∙◌, arith, length-take, length-drop}
use Rattle.std.specs.List.{zip, slice_range}
use Rattle.std.proofs.lemmas.List.{get_or-map, get_or-take, get_or-drop, get_or_default, length-map}
use Rattle.std.proofs.lemmas.Bool.{cases_lt}
use Rattle.std.proofs.lemmas.Slice.Zip.{get_or-zip, length-zip}
use Rattle.ats_trace.specs.Journey.{Leg, Travel, legs_in, no_leg}
use Rattle.ats_trace.specs.Stored.{AreFirsts, AreRows, no_travel, travel_at, leg_in, journey_of, copies_of, row_of}
use Rattle.ats_trace.specs.Stored.{end_of}
use Rattle.ats_trace.specs.Stored.{travel_by, gathered, leg_of, legs_told, travels_of}
use Rattle.ats_trace.specs.HopRecord.{HopRecord}
use Rattle.ats_trace.specs.declared.journey.Journey.{Journey}
use Rattle.ats_trace.specs.declared.journey.Release.{Release}
use Rattle.ats_trace.specs.declared.journey.Span.{Span}

-- for numbers past the last row
abbrev pub no_row : Release × Leg
no_row = (no_travel.release, no_leg)

-- each frame has its copies
pub length-copies_of : {X : Type 0} (rows : List X) (firsts : List ℕ) → length (copies_of rows firsts) ≡ length firsts
length-copies_of rows [] = refl
length-copies_of rows (first ∷ firsts) = ap suc (length-copies_of rows firsts)

-- from its place up to that of the next one
pub copies-at : {X : Type 0} (rows : List X) (firsts : List ℕ) (frame : ℕ) → frame < length firsts
    → get_or (copies_of rows firsts) frame []
    ≡ slice_range rows (get_or firsts frame 0) (end_of firsts (length rows) frame)
copies-at rows [] frame within = absurd (omega arith)
copies-at rows (first ∷ firsts) zero within = refl
copies-at rows (first ∷ firsts) (suc frame) within = copies-at rows firsts frame (omega arith)

-- the copies of a frame begin no later than they end, which is within the rows
pub record IsPlaced (first end rows : ℕ) : Type 0 where
  pub ascends : first ≤ end
  pub within : end ≤ rows

pub placed : (rows : ℕ) (firsts : List ℕ) (frame : ℕ) → AreFirsts (length firsts) rows firsts → frame < length firsts
    → IsPlaced (get_or firsts frame 0) (end_of firsts rows frame) rows
placed rows firsts frame are within = elim (cases_lt (suc frame) (length firsts)) [
  | inl more ↦
      (let same : get_or firsts (suc frame) rows ≡ get_or firsts (suc frame) 0 =
      get_or_default firsts (suc frame) rows 0 more in
      record {
        ascends = omega (arith, same, are.in_order frame (suc frame) 0 (omega arith) more);
        within = omega (arith, same, are.within (suc frame) 0 more);
      })
  | inr last ↦
      (let same : get_or firsts (suc frame) rows ≡ rows = get_or_past firsts (suc frame) rows (omega arith) in
      record {
        ascends = omega (arith, same, are.within frame 0 within);
        within = omega (arith, same);
      })
]
  where
    get_or_past : (xs : List ℕ) (i d : ℕ) → length xs ≤ i → get_or xs i d ≡ d
    get_or_past [] i d past = refl
    get_or_past (x ∷ xs) zero d past = absurd (omega arith)
    get_or_past (x ∷ xs) (suc i) d past = get_or_past xs i d (omega arith)

-- there are as many legs as rows
pub length-told : (journeys : List Journey) (spans : List Span) (hops : List HopRecord)
    → length spans ≡ length journeys → length (legs_told journeys spans hops) ≡ length journeys
length-told journeys spans hops spanned =
    omega (arith, length-map (zip journeys spans) (leg_of hops), length-zip journeys spans, spanned)

-- and as many frames as places
pub length-gathered : (legs : List (Release × Leg)) (firsts : List ℕ) → length firsts ≤ length legs
    → length (gathered legs firsts) ≡ length firsts
length-gathered legs firsts trunks =
    omega (
      arith,
      length-map (zip (take (length firsts) legs) (copies_of legs firsts)) travel_by,
      length-zip (take (length firsts) legs) (copies_of legs firsts),
      length-take (length firsts) legs,
      length-copies_of legs firsts,
      trunks,
    )

-- what happened to a frame is what its rows tell
pub travel-at : (legs : List (Release × Leg)) (firsts : List ℕ) (frame : ℕ) → length firsts ≤ length legs
    → frame < length firsts
    → travel_at (gathered legs firsts) frame
    ≡ travel_by (
      get_or legs frame no_row,
      slice_range legs (get_or firsts frame 0) (end_of firsts (length legs) frame),
    )
travel-at legs firsts frame trunks within =
    let n : ℕ = length firsts in
    let few : length (take n legs) ≡ n = omega (arith, length-take n legs, trunks) in
    let many : length (copies_of legs firsts) ≡ n = length-copies_of legs firsts in
    get_or-map travel_by (zip (take n legs) (copies_of legs firsts)) frame (no_row, []) no_travel
    (omega (arith, length-zip (take n legs) (copies_of legs firsts), few, many, within))
    ∙ ap travel_by (get_or-zip (take n legs) (copies_of legs firsts) frame (no_row, [])
    (omega (arith, few, within)) (omega (arith, many, within)))
    ∙ ap (λ (t : Release × Leg). travel_by (t, get_or (copies_of legs firsts) frame []))
    (get_or-take n legs frame no_row within)
    ∙ ap (λ (cs : List (Release × Leg)). travel_by (get_or legs frame no_row, cs)) (copies-at legs firsts frame within)

-- a leg of a frame has its row, which tells what happened along it
pub record IsRow (legs : List (Release × Leg)) (firsts : List ℕ) (frame leg : ℕ) (journey : Travel) : Type 0 where
  pub within : row_of firsts frame leg < length legs
  pub tells : leg_in journey leg ≡ (get_or legs (row_of firsts frame leg) no_row).1

row-by : (legs : List (Release × Leg)) (firsts : List ℕ) (frame leg first end : ℕ) → frame < length legs
    → get_or firsts frame 0 ≡ first
    → leg < length (legs_in (travel_by (get_or legs frame no_row, slice_range legs first end)))
    → IsRow legs firsts frame leg (travel_by (get_or legs frame no_row, slice_range legs first end))
row-by legs firsts frame zero first end trunk is within = record { within = trunk; tells = refl }
row-by legs firsts frame (suc k) first end trunk is within =
    let copies : List (Release × Leg) = take (end - first) (drop first legs) in
    let mapped = length-map copies (λ (copy : Release × Leg). copy.1) in
    let cut = length-take (end - first) (drop first legs) in
    let rest = length-drop first legs in
    let below : k < length copies = omega (arith, within, mapped) in
    record {
      within = omega (arith, below, cut, rest, is);
      tells = get_or-map (λ (copy : Release × Leg). copy.1) copies k no_row no_leg below
          ∙ ap (λ (row : Release × Leg). row.1) (get_or-take (end - first) (drop first legs) k no_row
          (omega (arith, below, cut)) ∙ get_or-drop first legs k no_row)
          ∙ ap (λ (n : ℕ). (get_or legs (n + k) no_row).1) (sym is);
    }

pub row-in : (legs : List (Release × Leg)) (firsts : List ℕ) (frame leg : ℕ) → length firsts ≤ length legs
    → frame < length firsts → leg < length (legs_in (travel_at (gathered legs firsts) frame))
    → IsRow legs firsts frame leg (travel_at (gathered legs firsts) frame)
row-in legs firsts frame leg trunks within below =
    let told = travel-at legs firsts frame trunks within in
    subst (IsRow legs firsts frame leg) (sym told)
    (row-by legs firsts frame leg (get_or firsts frame 0) (end_of firsts (length legs) frame)
    (omega (arith, trunks, within)) refl
    (subst (λ (t : Travel). leg < length (legs_in t)) told below))

-- Of a run that is stored.

-- it has a frame for each place
pub length-run : (run : List Travel) (journeys : List Journey) (spans : List Span) (firsts : List ℕ)
    (hops : List HopRecord) → travels_of journeys spans firsts hops ≡ run → AreRows journeys spans firsts hops
    → length run ≡ length firsts
length-run run journeys spans firsts hops seen rows =
    let told = length-told journeys spans hops rows.spanned in
    sym (ap (λ (r : List Travel). length r) seen)
    ∙ length-gathered (legs_told journeys spans hops) firsts (omega (arith, told, rows.copies.trunks))

pub none-run : (run : List Travel) (firsts : List ℕ) → length run ≡ length firsts
    → (length firsts ≡ 0 → run ≡ []) × (run ≡ [] → length firsts ≡ 0)
none-run [] firsts same = (λ none. refl, λ none. sym same)
none-run (j ∷ run) firsts same =
    (λ none. absurd (omega arith), λ none. absurd (omega (arith, ap (λ (r : List Travel). length r) none)))

-- each row of a trunk is the frame's own
pub journeys-run : (run : List Travel) (journeys : List Journey) (spans : List Span) (firsts : List ℕ)
    (hops : List HopRecord) → travels_of journeys spans firsts hops ≡ run → AreRows journeys spans firsts hops
    → take (length firsts) journeys ≡ map journey_of run
journeys-run run journeys spans firsts hops seen rows =
    first-rows (length firsts) journeys spans hops (copies_of (legs_told journeys spans hops) firsts)
    rows.spanned (length-copies_of (legs_told journeys spans hops) firsts) rows.copies.trunks
    ∙ ap (map journey_of) seen
  where
    first-rows : (n : ℕ) (js : List Journey) (ss : List Span) (hs : List HopRecord)
        (copies : List (List (Release × Leg))) → length ss ≡ length js → length copies ≡ n → n ≤ length js
        → take n js ≡ map journey_of (map travel_by (zip (take n (legs_told js ss hs)) copies))
    first-rows zero js ss hs [] spanned many few = refl
    first-rows zero js ss hs (c ∷ copies) spanned many few = absurd (omega arith)
    first-rows (suc n) [] ss hs copies spanned many few = absurd (omega arith)
    first-rows (suc n) (j ∷ js) [] hs copies spanned many few = absurd (omega arith)
    first-rows (suc n) (j ∷ js) (s ∷ ss) hs [] spanned many few = absurd (omega arith)
    first-rows (suc n) (j ∷ js) (s ∷ ss) hs (c ∷ copies) spanned many few =
        ap (λ (rest : List Journey). j ∷ rest) (first-rows n js ss hs copies (omega arith) (omega arith) (omega arith))

-- the row of a leg is there, and with its span it tells what happened along the leg
pub record IsStored (journeys : List Journey) (spans : List Span) (hops : List HopRecord) (row : ℕ) (leg : Leg)
    : Type 0 where
  pub within : row < length journeys
  pub tells : (j : Journey) (s : Span) → (leg_of hops (get_or journeys row j, get_or spans row s)).1 ≡ leg

pub stored : (run : List Travel) (journeys : List Journey) (spans : List Span) (firsts : List ℕ)
    (hops : List HopRecord) (frame leg : ℕ) → travels_of journeys spans firsts hops ≡ run
    → AreRows journeys spans firsts hops → frame < length run → leg < length (legs_in (travel_at run frame))
    → IsStored journeys spans hops (row_of firsts frame leg) (leg_in (travel_at run frame) leg)
stored run journeys spans firsts hops frame leg seen rows within below =
    let legs : List (Release × Leg) = legs_told journeys spans hops in
    let told : length legs ≡ length journeys = length-told journeys spans hops rows.spanned in
    let long = length-run run journeys spans firsts hops seen rows in
    let row : IsRow legs firsts frame leg (travel_at run frame) =
    subst (λ (r : List Travel). IsRow legs firsts frame leg (travel_at r frame)) seen
    (row-in legs firsts frame leg (omega (arith, told, rows.copies.trunks)) (omega (arith, long, within))
    (subst (λ (r : List Travel). leg < length (legs_in (travel_at r frame))) (sym seen) below)) in
    let n : ℕ = row_of firsts frame leg in
    let there : n < length journeys = omega (arith, row.within, told) in
    record {
      within = there;
      tells = λ j s.
          (sym (row.tells
          ∙ ap (λ (r : Release × Leg). r.1)
          (get_or-map (leg_of hops) (zip journeys spans) n (j, s) no_row
          (omega (arith, there, length-zip journeys spans, rows.spanned))
          ∙ ap (leg_of hops) (get_or-zip journeys spans n (j, s) there (omega (arith, there, rows.spanned))))));
    }

-- a frame has a leg for its trunk and one for each row of a copy
pub legs-stored : (run : List Travel) (journeys : List Journey) (spans : List Span) (firsts : List ℕ)
    (hops : List HopRecord) (frame : ℕ) → travels_of journeys spans firsts hops ≡ run
    → AreRows journeys spans firsts hops → frame < length run
    → length (legs_in (travel_at run frame))
    ≡ 1 + (end_of firsts (length journeys) frame - get_or firsts frame 0)
legs-stored run journeys spans firsts hops frame seen rows within =
    let legs : List (Release × Leg) = legs_told journeys spans hops in
    let told : length legs ≡ length journeys = length-told journeys spans hops rows.spanned in
    let long = length-run run journeys spans firsts hops seen rows in
    let first : ℕ = get_or firsts frame 0 in
    let end : ℕ = end_of firsts (length legs) frame in
    let place : IsPlaced first end (length legs) =
    placed (length legs) firsts frame
    (subst (λ (n : ℕ). AreFirsts (length firsts) n firsts) (sym told) rows.copies) (omega (arith, long, within)) in
    let copies : List (Release × Leg) = take (end - first) (drop first legs) in
    let many : length (legs_in (travel_by (get_or legs frame no_row, copies))) ≡ 1 + (end - first) =
    omega (
      arith,
      length-map copies (λ (copy : Release × Leg). copy.1),
      length-take (end - first) (drop first legs),
      length-drop first legs,
      place.ascends,
      place.within,
    ) in
    ap (λ (t : Travel). length (legs_in t))
    (ap (λ (r : List Travel). travel_at r frame) (sym seen)
    ∙ travel-at legs firsts frame (omega (arith, told, rows.copies.trunks)) (omega (arith, long, within)))
    ∙ many
    ∙ ap (λ (n : ℕ). 1 + (end_of firsts n frame - first)) told

-- the row of a leg, as it is looked up
pub looked-up : (run : List Travel) (journeys : List Journey) (spans : List Span) (firsts held : List ℕ)
    (hops : List HopRecord) (frame leg row : ℕ) → travels_of journeys spans firsts hops ≡ run
    → AreRows journeys spans firsts hops → frame < length run → leg < length (legs_in (travel_at run frame))
    → held ≡ firsts → row ≡ row_of held frame leg
    → IsStored journeys spans hops row (leg_in (travel_at run frame) leg)
looked-up run journeys spans firsts held hops frame leg row seen rows within below same is =
    subst (λ (n : ℕ). IsStored journeys spans hops n (leg_in (travel_at run frame) leg))
    (sym (is ∙ ap (λ (ns : List ℕ). row_of ns frame leg) same))
    (stored run journeys spans firsts hops frame leg seen rows within below)

-- the records of its span are those of the leg
pub hops-told : (journeys : List Journey) (spans : List Span) (hops held : List HopRecord) (row : ℕ) (leg : Leg)
    (span : Span) → IsStored journeys spans hops row leg → span ≡ get_or spans row span → held ≡ hops
    → slice_range held span.first (span.first + span.count) ≡ leg.hops
hops-told journeys spans hops held row leg span row-is is same =
    ap (λ (hs : List HopRecord). slice_range hs span.first (span.first + span.count)) same
    ∙ ap (λ (s : Span). slice_range hops s.first (s.first + s.count)) is
    ∙ ap (λ (l : Leg). l.hops) (row-is.tells (record { release = no_travel.release; ending = no_leg.ending }) span)

-- and they are there
pub span-within : (spans : List Span) (hops held : List HopRecord) (row : ℕ) (span : Span)
    → All (λ (s : Span). s.first + s.count ≤ length hops) spans → row < length spans
    → span ≡ get_or spans row span → held ≡ hops → span.first + span.count ≤ length held
span-within spans hops held row span each within is same =
    let here : (get_or spans row span).first + (get_or spans row span).count ≤ length hops =
    each row span within in
    omega (arith, here, ap (λ (s : Span). s.first + s.count) is, ap (λ (hs : List HopRecord). length hs) same)

-- the legs of a frame, as they are counted
pub record AreCounted (first end legs : ℕ) : Type 0 where
  pub ascends : first ≤ end
  pub all : 1 + (end - first) ≡ legs

pub counted : (run : List Travel) (journeys : List Journey) (spans : List Span) (firsts held : List ℕ)
    (hops : List HopRecord) (frame first end rows : ℕ) → travels_of journeys spans firsts hops ≡ run
    → AreRows journeys spans firsts hops → frame < length run → first ≡ get_or firsts frame first → held ≡ firsts
    → rows ≡ length journeys → end ≡ end_of held rows frame
    → AreCounted first end (length (legs_in (travel_at run frame)))
counted run journeys spans firsts held hops frame first end rows seen are within is same many ends =
    let long = length-run run journeys spans firsts hops seen are in
    let below : frame < length firsts = omega (arith, long, within) in
    let begins : first ≡ get_or firsts frame 0 = is ∙ get_or_default firsts frame first 0 below in
    let stops : end ≡ end_of firsts (length journeys) frame =
    ends ∙ ap (λ (ns : List ℕ). end_of ns rows frame) same ∙ ap (λ (n : ℕ). end_of firsts n frame) many in
    let place = placed (length journeys) firsts frame are.copies below in
    record {
      ascends = omega (arith, begins, stops, place.ascends);
      all = ap (λ (n : ℕ). 1 + (n - first)) stops
          ∙ ap (λ (n : ℕ). 1 + (end_of firsts (length journeys) frame - n)) begins
          ∙ sym (legs-stored run journeys spans firsts hops frame seen are within);
    }

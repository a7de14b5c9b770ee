use Rattle.std.proofs.Common.{◌≡◌, ℕ, ◌+◌, ◌-◌, ◌*◌, ◌<◌, ◌≤◌, Bool, true, false, List}
use Rattle.std.proofs.Common.{[], ◌∷◌, ◌++◌, length, map, sum_by}
use Rattle.std.proofs.Common.{IfSome, get_or, Option, Some, None, All, if◌then◌else◌, refl, sym, ap, ◌∙◌, subst, arith}
use Rattle.std.proofs.lemmas.Bool.{ltb-true, ltb-false}
use Rattle.std.proofs.lemmas.List.{map-append, length-map, get_or_append_left, get_or_at, get_or-map}
use Rattle.std.proofs.lemmas.List.Sums.{sum_by-cons}
use Rattle.ats_num.specs.declared.time.TheConstants.{PS_PER_SECOND}
use Rattle.ats_bucket.specs.Conforming.{Frame}
use Rattle.ats_conform.specs.declared.meter.Metered.{Metered}
use Rattle.ats_conform.specs.declared.start.Start.{Start}
use Rattle.ats_conform.specs.Metering.{counted, frame_in, metered}
use Rattle.ats_conform.specs.Start.{is_worse, worse_of}
use Rattle.ats_conform.specs.MeterInside.{time_at, bits_before, IsWorstPlace, IsWorst, IsWorstOf}
use Rattle.ats_conform.proofs.Places.{time-old, time-new, bits-old, bits-all}
use Rattle.ats_conform.proofs.WorstPlaces.{worst-first, worst-kept, worst-moved}

-- the bits of metered frames are those that are counted
pub sum-counted : (taken : List Metered) → sum_by (λ (f : Frame). f.bits) (counted taken) ≡ sum_by
    (λ (m : Metered). m.bits) taken
sum-counted [] = refl
sum-counted (m ∷ taken) =
    sum_by-cons (λ (f : Frame). f.bits) (frame_in m) (counted taken)
    ∙ ap (λ (n : ℕ). m.bits + n) (sum-counted taken) ∙ sym (sum_by-cons (λ (n : Metered). n.bits) m taken)

-- the start at a place of a list is that of the list with one more
kept : (rate : ℕ) (taken : List Metered) (x : Metered) (start : Start) → (w : IsWorst rate taken start)
    → IsWorstPlace rate (counted taken ++ frame_in x ∷ []) w.place → IsWorst rate (taken ++ x ∷ []) start
kept rate taken x start w worst =
    let numbered : Metered → ℕ = λ m. m.frame in
    let same : counted (taken ++ x ∷ []) ≡ counted taken ++ frame_in x ∷ [] = map-append frame_in taken (x ∷ []) in
    let here : w.place < length (counted taken) = w.worst.within in
    record {
      place = w.place;
      number = ap (λ (l : List ℕ). get_or l w.place 0) (map-append numbered taken (x ∷ []))
          ∙ get_or_append_left (map numbered taken) (x.frame ∷ []) 0 w.place
          (omega (arith, here, length-map taken numbered, length-map taken frame_in)) ∙ w.number;
      time = ap (λ (l : List Frame). time_at l w.place) same ∙ time-old (counted taken) (frame_in x) w.place here ∙
          w.time;
      bits = ap (λ (l : List Frame). bits_before l w.place) same
          ∙ bits-old (counted taken) (frame_in x) w.place (omega arith) ∙ w.bits;
      worst = subst (λ (l : List Frame). IsWorstPlace rate l w.place) (sym same) worst;
    }

-- the last of a list as a start
latest : (rate : ℕ) (taken : List Metered) (frame at bits before : ℕ) → sum_by (λ (m : Metered). m.bits) taken ≡ before
    → IsWorstPlace rate (counted taken ++ frame_in (metered frame at bits) ∷ []) (length (counted taken))
    → IsWorst rate (taken ++ metered frame at bits ∷ [])
    (record { frame = frame; at = record { 0 = at }; before = before })
latest rate taken frame at bits before sent worst =
    let x : Metered = metered frame at bits in
    let numbered : Metered → ℕ = λ m. m.frame in
    let same : counted (taken ++ x ∷ []) ≡ counted taken ++ frame_in x ∷ [] = map-append frame_in taken (x ∷ []) in
    let n : ℕ = length (counted taken) in
    record {
      place = n;
      number = ap (λ (l : List ℕ). get_or l n 0) (map-append numbered taken (x ∷ []))
          ∙ get_or_at (map numbered taken) frame [] 0 n
          (omega (arith, length-map taken numbered, length-map taken frame_in));
      time = ap (λ (l : List Frame). time_at l n) same ∙ time-new (counted taken) (frame_in x);
      bits = ap (λ (l : List Frame). bits_before l n) same ∙ bits-old (counted taken) (frame_in x) n (omega arith)
          ∙ bits-all (counted taken) ∙ sum-counted taken ∙ sent;
      worst = subst (λ (l : List Frame). IsWorstPlace rate l n) (sym same) worst;
    }

-- a start is one of the frames, so no later than what no frame is later than
pub earlier : (rate : ℕ) (taken : List Metered) (start : Start) (at : ℕ) → IsWorst rate taken start
    → All (λ (m : Metered). m.at.0 ≤ at) taken → start.at.0 ≤ at
earlier rate taken start at w order =
    let none : Metered = metered 0 0 0 in
    let here : w.place < length taken = omega (arith, w.worst.within, length-map taken frame_in) in
    let time : Frame → ℕ = λ f. f.at in
    let first : time_at (counted taken) w.place ≡ (get_or (counted taken) w.place (frame_in none)).at =
    get_or-map time (counted taken) w.place (frame_in none) 0 w.worst.within in
    let second : get_or (counted taken) w.place (frame_in none) ≡ frame_in (get_or taken w.place none) =
    get_or-map frame_in taken w.place none (frame_in none) here in
    let third : (get_or (counted taken) w.place (frame_in none)).at ≡ (get_or taken w.place none).at.0 =
    ap time second in
    omega (arith, order w.place none here, first, third, w.time)

-- by whether the next frame is a worse start
chosen : (rate : ℕ) (taken : List Metered) (start : Start) (frame at bits before : ℕ) → IsWorst rate taken start
    → start.at.0 ≤ at → sum_by (λ (m : Metered). m.bits) taken ≡ before
    → (b : Bool) → is_worse rate (record { frame = frame; at = record { 0 = at }; before = before }) start ≡ b
    → IsWorst rate (taken ++ metered frame at bits ∷ [])
    (if b then (record { frame = frame; at = record { 0 = at }; before = before }) else start)
chosen rate taken start frame at bits before w order sent true e =
    let x : Frame = frame_in (metered frame at bits) in
    let all : sum_by (λ (f : Frame). f.bits) (counted taken) ≡ before = sum-counted taken ∙ sent in
    let more : PS_PER_SECOND * (before - start.before) < rate * (at - start.at.0) = ltb-true _ _ e in
    latest rate taken frame at bits before sent
    (worst-moved rate (counted taken) x w.place w.worst (rw w.time order) (rw (all, w.time, w.bits) more))
chosen rate taken start frame at bits before w order sent false e =
    let x : Frame = frame_in (metered frame at bits) in
    let all : sum_by (λ (f : Frame). f.bits) (counted taken) ≡ before = sum-counted taken ∙ sent in
    let no_more : rate * (at - start.at.0) ≤ PS_PER_SECOND * (before - start.before) = ltb-false _ _ e in
    kept rate taken (metered frame at bits) start w
    (worst-kept rate (counted taken) x w.place w.worst (rw w.time order) (rw (all, w.time, w.bits) no_more))

-- the worst start of frames and of one more, which is no earlier than the worst of them
pub worst-push : (rate : ℕ) (taken : List Metered) (worst : Option Start) (frame at bits before : ℕ)
    → IsWorstOf rate taken worst → All (λ (m : Metered). m.at.0 ≤ at) taken
    → sum_by (λ (m : Metered). m.bits) taken ≡ before
    → IsWorst rate (taken ++ metered frame at bits ∷ [])
    (worse_of rate worst (record { frame = frame; at = record { 0 = at }; before = before }))
worst-push rate taken None frame at bits before none order sent =
    let Holds : List Metered → Type 0 =
    λ l. sum_by (λ (m : Metered). m.bits) l ≡ before → IsWorst rate (l ++ metered frame at bits ∷ [])
    (record { frame = frame; at = record { 0 = at }; before = before }) in
    let empty : Holds [] = λ s. latest rate [] frame at bits before s
    (worst-first rate (frame_in (metered frame at bits))) in
    subst Holds (sym none) empty sent
worst-push rate taken (Some start) frame at bits before w order sent =
    let next : Start = record { frame = frame; at = record { 0 = at }; before = before } in
    chosen rate taken start frame at bits before w (earlier rate taken start at w order) sent
    (is_worse rate next start) refl

-- that start, where there is one, is no later than what no frame is later than
pub earlier_if : (rate : ℕ) (taken : List Metered) (worst : Option Start) (at : ℕ) → IsWorstOf rate taken worst
    → All (λ (m : Metered). m.at.0 ≤ at) taken → IfSome worst (λ (start : Start). start.at.0 ≤ at)
earlier_if rate taken None at w order = tt
earlier_if rate taken (Some start) at w order = earlier rate taken start at w order

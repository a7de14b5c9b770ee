-- What a run tells in the end: each frame's trunk and its copies have their rows.
use Rattle.std.proofs.Common.{◌≡◌, ℕ, zero, suc, ◌+◌, ◌-◌, ◌<◌, ◌≤◌, List, [], ◌∷◌, ◌++◌, length, map, take, drop}
use Rattle.std.proofs.Common.{get_or, refl, sym, ap, subst, ◌∙◌, arith}
use Rattle.std.specs.List.{slice_range, zip}
use Rattle.std.proofs.Math.Seq.{take-append_seam}
use Rattle.std.proofs.lemmas.List.{get_or-map, length-append, length-drop, length-map, length-take}
use Rattle.std.proofs.lemmas.List.{take-map}
use Rattle.ats_network.specs.Network.{DeclaredNetwork}
use Rattle.ats_trace.specs.Journey.{Leg, Travel}
use Rattle.ats_trace.specs.Run.{HasReleases, releases_of}
use Rattle.ats_trace.specs.Stored.{copies_of, end_of, leg_in, row_of, travel_at, travel_by}
use Rattle.ats_trace.specs.declared.journey.Release.{Release}
use Rattle.ats_trace.proofs.RowLemmas.{length-copies_of, no_row, placed, row-in, travel-at}
use Rattle.ats_run_records.specs.Progress.{Ledger, Progress, copies_count, copies_of_frame, copies_opened, finished}
use Rattle.ats_run_records.specs.Progress.{firsts_from, no_progress, progress_at, told_of, trunks_opened}
use Rattle.ats_run_records.proofs.AllCounts.{length-trunks}
use Rattle.ats_run_records.proofs.Counts.{length-copies}
use Rattle.ats_engine_steps.specs.Course.{Course}
use Rattle.ats_engine_steps.specs.Invariant.{IsShaped, opened_again}
use Rattle.ats_engine_proofs.proofs.Rows.{IsRowFor, firsts-are, frames-all, row-is, rows-all, trunk-is}

-- what has happened to all frames
abbrev pub ledger_in : {T : Type 0} → Course T → Ledger
ledger_in course = record { legs = course.records; firsts = course.firsts }

-- what is told of each leg
abbrev pub told_in : {T : Type 0} → Course T → List (Release × Leg)
told_in course = map told_of course.records

-- Each frame has as many copies as its sender has branches.

-- as they are opened
ends-from : (network : DeclaredNetwork) (first other : ℕ) (releases : List Release) (rows frame : ℕ) (d : Release)
    → rows ≡ first + length (copies_opened network other releases) → frame < length releases
    → end_of (firsts_from network first releases) rows frame
    ≡ get_or (firsts_from network first releases) frame 0 + copies_count network (get_or releases frame d)
ends-from network first other [] rows frame d all within = absurd (omega arith)
ends-from network first other (r ∷ []) rows zero d all within =
    let one : length (copies_of_frame network other r) ≡ copies_count network r =
    length-copies network other r in
    omega (arith, all, one, length-append (copies_of_frame network other r) [])
ends-from network first other (r ∷ s ∷ releases) rows zero d all within = refl
ends-from network first other (r ∷ releases) rows (suc frame) d all within =
    let one : length (copies_of_frame network other r) ≡ copies_count network r =
    length-copies network other r in
    ends-from network (first + copies_count network r) (other + 1) releases rows frame d
    (omega (
      arith,
      all,
      one,
      length-append (copies_of_frame network other r) (copies_opened network (other + 1) releases),
    )) (omega arith)

-- so the copies of a frame end where they begin and so many are
pub copies-end : {T : Type 0} {network : DeclaredNetwork} {releases : List Release} {course : Course T}
    → IsShaped network releases course → (frame : ℕ) (d : Release) → frame < length releases
    → end_of course.firsts (length course.records) frame
    ≡ get_or course.firsts frame 0 + copies_count network (get_or releases frame d)
copies-end {T} {network} {releases} {course} shape frame d within =
    let n : ℕ = length course.records in
    let all : n ≡ length releases + length (copies_opened network 0 releases) =
    omega (
      arith,
      rows-all shape,
      length-append (trunks_opened network 0 releases) (copies_opened network 0 releases),
      length-trunks network 0 releases,
    ) in
    ap (λ (firsts : List ℕ). end_of firsts n frame) shape.firsts
    ∙ ends-from network (length releases) 0 releases n frame d all within
    ∙ ap (λ (firsts : List ℕ). get_or firsts frame 0 + copies_count network (get_or releases frame d))
    (sym shape.firsts)

-- The releases of the frames are those of the rows of their trunks.

-- those that were opened have them
released-from : (network : DeclaredNetwork) (frame : ℕ) (releases : List Release)
    → map (λ (p : Progress). p.release) (trunks_opened network frame releases) ≡ releases
released-from network frame [] = refl
released-from network frame (r ∷ releases) =
    ap (λ (rs : List Release). r ∷ rs) (released-from network (frame + 1) releases)

released-again : (ps : List Progress)
    → map (λ (p : Progress). p.release) (map opened_again ps) ≡ map (λ (p : Progress). p.release) ps
released-again [] = refl
released-again (p ∷ ps) = ap (λ (rs : List Release). p.release ∷ rs) (released-again ps)

pub trunks-released : {T : Type 0} {network : DeclaredNetwork} {releases : List Release} {course : Course T}
    → IsShaped network releases course
    → map (λ (p : Progress). p.release) (take (length course.firsts) course.records) ≡ releases
trunks-released {T} {network} {releases} {course} shape =
    let release : Progress → Release = λ (p : Progress). p.release in
    let n : ℕ = length course.firsts in
    let trunks : List Progress = trunks_opened network 0 releases in
    let copies : List Progress = copies_opened network 0 releases in
    let long : n ≡ length trunks = frames-all shape ∙ sym (length-trunks network 0 releases) in
    sym (released-again (take n course.records))
    ∙ ap (map release) (sym (take-map opened_again n course.records) ∙ ap (take n) shape.legs
    ∙ ap (λ (k : ℕ). take k (trunks ++ copies)) long ∙ take-append_seam trunks copies)
    ∙ released-from network 0 releases

-- so they are in what is told
gathered-released : (rows : List (Release × Leg)) (copies : List (List (Release × Leg)))
    → length copies ≡ length rows
    → releases_of (map travel_by (zip rows copies)) ≡ map (λ (row : Release × Leg). row.0) rows
gathered-released [] copies same = refl
gathered-released (row ∷ rows) [] same = absurd (omega arith)
gathered-released (row ∷ rows) (c ∷ copies) same =
    ap (λ (rs : List Release). row.0 ∷ rs) (gathered-released rows copies (omega arith))

told-released : (ps : List Progress)
    → map (λ (row : Release × Leg). row.0) (map told_of ps) ≡ map (λ (p : Progress). p.release) ps
told-released [] = refl
told-released (p ∷ ps) = ap (λ (rs : List Release). p.release ∷ rs) (told-released ps)

pub releases-told : {T : Type 0} {network : DeclaredNetwork} {releases : List Release} {course : Course T}
    → IsShaped network releases course → HasReleases releases (finished (ledger_in course))
releases-told {T} {network} {releases} {course} shape =
    let n : ℕ = length course.firsts in
    let rows : List (Release × Leg) = take n (told_in course) in
    let few : n ≤ length course.records = (firsts-are shape).trunks in
    let long : length rows ≡ n =
    omega (arith, length-take n (told_in course), length-map course.records told_of, few) in
    let many : length (copies_of (told_in course) course.firsts) ≡ n = length-copies_of (told_in course) course.firsts
    in
    gathered-released rows (copies_of (told_in course) course.firsts) (many ∙ sym long)
    ∙ ap (map (λ (row : Release × Leg). row.0)) (take-map told_of n course.records)
    ∙ told-released (take n course.records)
    ∙ trunks-released shape

-- The journey of a frame, by its rows.

-- what is told of a row
told-at : {T : Type 0} (course : Course T) (row : ℕ) → row < length course.records
    → get_or (told_in course) row no_row ≡ told_of (progress_at course.records row)
told-at course row within = get_or-map told_of course.records row no_progress no_row within

-- the copies of a frame among the rows
abbrev copies_told : {T : Type 0} → Course T → ℕ → List (Release × Leg)
copies_told course frame =
    slice_range (told_in course) (get_or course.firsts frame 0)
    (end_of course.firsts (length (told_in course)) frame)

-- along the trunk
abbrev trunk_in : Travel → Leg
trunk_in journey = record { hops = journey.hops; ending = journey.ending }

-- a frame's journey is told by the row of its trunk and those of its copies, each leg by its own
pub record IsTold {T : Type 0} (network : DeclaredNetwork) (course : Course T) (frame : ℕ) (journey : Travel)
    : Type 0 where
  pub release : journey.release ≡ (progress_at course.records frame).release
  pub trunk : record { hops = journey.hops; ending = journey.ending } ≡ (told_of (progress_at course.records frame)).1
  pub many : length journey.copies ≡ copies_count network (progress_at course.records frame).release
  pub each : (leg : ℕ) → leg ≤ copies_count network (progress_at course.records frame).release
      → leg_in journey leg ≡ (told_of (progress_at course.records (row_of course.firsts frame leg))).1

-- the release of a frame's trunk
trunk-released : {T : Type 0} {network : DeclaredNetwork} {releases : List Release} {course : Course T}
    → IsShaped network releases course → (frame : ℕ) (d : Release) → frame < length course.firsts
    → get_or releases frame d ≡ (progress_at course.records frame).release
trunk-released {T} {network} {releases} {course} shape frame d within =
    let trunk : IsRowFor course frame 0 = trunk-is shape frame within in
    sym ((row-is shape frame trunk.within).released d ∙ ap (λ (n : ℕ). get_or releases n d) trunk.of_frame)

pub journey-told : {T : Type 0} {network : DeclaredNetwork} {releases : List Release} {course : Course T}
    → IsShaped network releases course → (frame : ℕ) → frame < length course.firsts
    → IsTold network course frame (travel_at (finished (ledger_in course)) frame)
journey-told {T} {network} {releases} {course} shape frame within =
    let told : List (Release × Leg) = told_in course in
    let firsts : List ℕ = course.firsts in
    let p : Progress = progress_at course.records frame in
    let j : Travel = travel_at (finished (ledger_in course)) frame in
    let first : ℕ = get_or firsts frame 0 in
    let end : ℕ = end_of firsts (length told) frame in
    let copies : List (Release × Leg) = copies_told course frame in
    let long : length told ≡ length course.records = length-map course.records told_of in
    let are = firsts-are shape in
    let few : length firsts ≤ length told = omega (arith, are.trunks) in
    let trunk : IsRowFor course frame 0 = trunk-is shape frame within in
    let same : j ≡ travel_by (get_or told frame no_row, copies) = travel-at told firsts frame few within in
    let row : get_or told frame no_row ≡ told_of p = told-at course frame trunk.within in
    let place = placed (length course.records) firsts frame are within in
    let ends : end ≡ first + copies_count network p.release =
    ap (λ (n : ℕ). end_of firsts n frame) long
    ∙ copies-end shape frame p.release (omega (arith, frames-all shape))
    ∙ ap (λ (r : Release). first + copies_count network r) (trunk-released shape frame p.release within) in
    let many : length j.copies ≡ copies_count network p.release =
    ap (λ (t : Travel). length t.copies) same
    ∙ omega (
      arith,
      length-map copies (λ (copy : Release × Leg). copy.1),
      length-take (end - first) (drop first told),
      length-drop first told,
      ends,
      long,
      place.within,
      ap (λ (n : ℕ). end_of firsts n frame) long,
    ) in
    record {
      release = subst (λ (r : Release × Leg). j.release ≡ r.0) row (ap (λ (t : Travel). t.release) same);
      trunk = subst (λ (r : Release × Leg). trunk_in j ≡ r.1) row (ap trunk_in same);
      many = many;
      each = λ leg there.
          (let is = row-in told firsts frame leg few within (omega (arith, many)) in
          let row : ℕ = row_of firsts frame leg in
          subst (λ (r : Release × Leg). leg_in j leg ≡ r.1)
          (told-at course row (omega (arith, is.within, long))) is.tells);
    }

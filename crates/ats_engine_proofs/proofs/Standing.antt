-- Where the frame of the next event stands, and the run so far as it goes on along one leg, or along several.
use Rattle.std.proofs.Common.{◌≡◌, ◌≢◌, ℕ, ◌<◌, List, [], ◌∷◌, length, get_or, set, All, IsPermutation, refl, sym, ap}
use Rattle.std.proofs.Common.{◌∙◌, subst, suc, zero, arith}
use Rattle.std.specs.List.{flat_map, zip}
use Rattle.std.proofs.lemmas.List.{get_or-set_other}
use Rattle.std.proofs.lemmas.List.Elements.{All-head, All-tail}
use Rattle.std.proofs.lemmas.Slice.Zip.{get_or-zip, length-zip}
use Rattle.ats_network.specs.Network.{DeclaredNetwork}
use Rattle.ats_events.specs.declared.moment.Moment.{Moment}
use Rattle.ats_trace.specs.declared.journey.Release.{Release}
use Rattle.ats_trace.specs.HopRecord.{HopRecord}
use Rattle.ats_run_records.specs.Progress.{Progress, no_progress, progress_at}
use Rattle.ats_engine_steps.specs.Course.{Course, stage_at}
use Rattle.ats_engine_steps.specs.Frames.{IsFrame, Goes, Stands, IsSent}
use Rattle.ats_engine_steps.specs.Steps.{set_each}
use Rattle.ats_engine_steps.specs.declared.event.Event.{Event}
use Rattle.ats_engine_steps.specs.declared.event.Event.TheVariants.{Arrival, Selection}
use Rattle.ats_engine_steps.specs.declared.stage.Stage.{Stage}
use Rattle.ats_engine_steps.specs.declared.stage.Stage.TheVariants.{Coming, Due, Over}
use Rattle.ats_engine_steps.specs.declared.turn.Turn.TheVariants.{Selecting}
use Rattle.ats_engine_proofs.specs.Next.{IsEligibleNow, IsNext}
use Rattle.ats_engine_proofs.proofs.Gathered.{gather-same, gather-more}
use Rattle.ats_engine_proofs.proofs.Parts.{IsLast}
use Rattle.ats_engine_proofs.proofs.Stages.{next-coming, next-due, next-selecting, stage-within}
use Rattle.ats_engine_proofs.proofs.Stages.{turn-within}

module _ {T : Type 0} {key : T → ℕ → ℕ → ℕ} {wait : ℕ → ℕ → ℕ} {network : DeclaredNetwork} {releases : List Release}
    {course : Course T} {now : Moment} {entries : List (Moment × Event)} where
  -- the leg along which a frame arrives next is one of the course
  pub arriving-within : {row : ℕ} → IsNext key wait network releases course now (Arrival row) entries
      → row < length course.records
  arriving-within {row} next =
      stage-within course row (Coming now.at) next.holds.shape.stages (next-coming next) (λ e. cc)

  -- and the frame stands so there
  pub arriving-frame : {row : ℕ} → IsNext key wait network releases course now (Arrival row) entries
      → IsFrame network course (progress_at course.records row) (Coming now.at)
  arriving-frame {row} next =
      subst (IsFrame network course (progress_at course.records row)) (next-coming next)
      (next.holds.frames row (arriving-within next))

  -- the one along which a frame becomes eligible next too
  pub due-within : {row : ℕ} → IsEligibleNow key wait network releases course now row entries
      → row < length course.records
  due-within {row} next =
      stage-within course row (Due now.at) next.holds.shape.stages (next-due next) (λ e. cc)

  -- where it stands so
  pub due-frame : {row : ℕ} → IsEligibleNow key wait network releases course now row entries
      → IsFrame network course (progress_at course.records row) (Due now.at)
  due-frame {row} next =
      subst (IsFrame network course (progress_at course.records row)) (next-due next)
      (next.holds.frames row (due-within next))

  -- and the port that selects next is one of the network
  pub selecting-within : {port : ℕ} → IsNext key wait network releases course now (Selection port) entries
      → port < length network.topology.ports
  selecting-within {port} next =
      omega (
        arith,
        next.holds.shape.turns,
        turn-within course port (Selecting now.at) (next-selecting next) (λ e. cc),
      )

-- a frame that has a last record, of which this is said, stands at the port of it
pub stands-split : (Last : HopRecord → Type 0) (path : List ℕ) (hops : List HopRecord) → Stands Last path hops
    → IsLast Last path hops
stands-split Last [] hops stands = absurd stands
stands-split Last (p ∷ path) [] stands = absurd stands
stands-split Last (p ∷ path) (hop ∷ []) stands = record {
  passed = [];
  port = p;
  ahead = path;
  before = [];
  last = hop;
  along = refl;
  recorded = refl;
  same = refl;
  here = stands;
}
stands-split Last (p ∷ path) (hop ∷ next ∷ hops) stands =
    let rest : IsLast Last path (next ∷ hops) = stands-split Last path (next ∷ hops) stands.1 in
    record {
      passed = p ∷ rest.passed;
      port = rest.port;
      ahead = rest.ahead;
      before = hop ∷ rest.before;
      last = rest.last;
      along = ap (λ (ps : List ℕ). p ∷ ps) rest.along;
      recorded = ap (λ (hs : List HopRecord). hop ∷ hs) rest.recorded;
      same = ap suc rest.same;
      here = rest.here;
    }

-- and one that was sent by each port that it came to, by the last of them too
pub goes-split : (path : List ℕ) (hops : List HopRecord) → Goes path hops → 0 < length hops → IsLast IsSent path hops
goes-split [] hops goes some = absurd goes
goes-split (p ∷ path) [] goes some = absurd (omega arith)
goes-split (p ∷ path) (hop ∷ []) goes some = record {
  passed = [];
  port = p;
  ahead = path;
  before = [];
  last = hop;
  along = refl;
  recorded = refl;
  same = refl;
  here = goes.0;
}
goes-split (p ∷ path) (hop ∷ next ∷ hops) goes some =
    let rest : IsLast IsSent path (next ∷ hops) = goes-split path (next ∷ hops) goes.1 (omega arith) in
    record {
      passed = p ∷ rest.passed;
      port = rest.port;
      ahead = rest.ahead;
      before = hop ∷ rest.before;
      last = rest.last;
      along = ap (λ (ps : List ℕ). p ∷ ps) rest.along;
      recorded = ap (λ (hs : List HopRecord). hop ∷ hs) rest.recorded;
      same = ap suc rest.same;
      here = rest.here;
    }

-- a leg of a course goes on: the frame is at this stage of it then, and this has happened there
pub record Advances {T : Type 0} (old new : Course T) (row : ℕ) (stage : Stage) (progress : Progress) : Type 0 where
  pub within : row < length old.records
  pub many : length old.stages ≡ length old.records
  pub stages : new.stages ≡ set old.stages row stage
  pub records : new.records ≡ set old.records row progress

-- two lists that are set at one place, pair by pair
zip-set : {X Y : Type 0} (xs : List X) (ys : List Y) (n : ℕ) (x : X) (y : Y)
    → zip (set xs n x) (set ys n y) ≡ set (zip xs ys) n (x, y)
zip-set [] ys n x y = refl
zip-set (a ∷ xs) [] n x y = by n
  where
    by : (n : ℕ) → zip (set (a ∷ xs) n x) (set [] n y) ≡ set (zip (a ∷ xs) []) n (x, y)
    by zero = refl
    by (suc n) = refl
zip-set (a ∷ xs) (b ∷ ys) zero x y = refl
zip-set {X} {Y} (a ∷ xs) (b ∷ ys) (suc n) x y = ap (λ (zs : List (X × Y)). (a, b) ∷ zs) (zip-set xs ys n x y)

-- and at several
zip-set_each : {X Y : Type 0} (places : List ℕ) (f : ℕ → X) (g : ℕ → Y) (xs : List X) (ys : List Y)
    → zip (set_each places f xs) (set_each places g ys) ≡ set_each places (λ (n : ℕ). (f n, g n)) (zip xs ys)
zip-set_each [] f g xs ys = refl
zip-set_each {X} {Y} (n ∷ places) f g xs ys =
    zip-set_each places f g (set xs n (f n)) (set ys n (g n))
    ∙ ap (set_each places (λ (m : ℕ). (f m, g m))) (zip-set xs ys n (f n) (g n))

-- the row of a leg, of stages and records
pub row-of-both : {T : Type 0} (course : Course T) (row : ℕ) → length course.stages ≡ length course.records
    → row < length course.records
    → get_or (zip course.stages course.records) row (Over, no_progress)
    ≡ (stage_at course row, progress_at course.records row)
row-of-both course row many within =
    get_or-zip course.stages course.records row (Over, no_progress) (omega (arith, many, within)) within

module _ {T : Type 0} {old new : Course T} {row : ℕ} {stage : Stage} {progress : Progress} where
  -- what is gathered of the records stays where the leg's own part does
  pub records-same : {X : Type 0} (part : Progress → List X) → Advances old new row stage progress
      → part progress ≡ part (progress_at old.records row) → flat_map part new.records ≡ flat_map part old.records
  records-same {X} part step same =
      ap (flat_map part) step.records ∙ gather-same part row old.records progress no_progress same

  -- and has one element more where that has one more
  pub records-more : {X : Type 0} (part : Progress → List X) (x : X) → Advances old new row stage progress
      → IsPermutation (x ∷ part (progress_at old.records row)) (part progress)
      → IsPermutation (x ∷ flat_map part old.records) (flat_map part new.records)
  records-more {X} part x step more =
      subst (λ (ps : List Progress). IsPermutation (x ∷ flat_map part old.records) (flat_map part ps))
      (sym step.records) (gather-more part row old.records progress no_progress x more step.within)

  -- so of stages and records
  both-set : Advances old new row stage progress
      → zip new.stages new.records ≡ set (zip old.stages old.records) row (stage, progress)
  both-set step =
      ap (λ (ss : List Stage). zip ss new.records) step.stages
      ∙ ap (zip (set old.stages row stage)) step.records
      ∙ zip-set old.stages old.records row stage progress

  -- what is gathered of both stays where the leg's own part does
  pub both-same : {X : Type 0} (part : Stage × Progress → List X) → Advances old new row stage progress
      → part (stage, progress) ≡ part (stage_at old row, progress_at old.records row)
      → flat_map part (zip new.stages new.records) ≡ flat_map part (zip old.stages old.records)
  both-same {X} part step same =
      ap (flat_map part) (both-set step)
      ∙ gather-same part row (zip old.stages old.records) (stage, progress) (Over, no_progress)
      (same ∙ sym (ap part (row-of-both old row step.many step.within)))

  -- and has one element more where that has one more
  pub both-more : {X : Type 0} (part : Stage × Progress → List X) (x : X) → Advances old new row stage progress
      → IsPermutation (x ∷ part (stage_at old row, progress_at old.records row)) (part (stage, progress))
      → IsPermutation (x ∷ flat_map part (zip old.stages old.records)) (flat_map part (zip new.stages new.records))
  both-more {X} part x step more =
      let rows : List (Stage × Progress) = zip old.stages old.records in
      subst (λ (rs : List (Stage × Progress)). IsPermutation (x ∷ flat_map part rows) (flat_map part rs))
      (sym (both-set step))
      (gather-more part row rows (stage, progress) (Over, no_progress) x
      (subst (λ (r : Stage × Progress). IsPermutation (x ∷ part r) (part (stage, progress)))
      (sym (row-of-both old row step.many step.within)) more)
      (omega (arith, length-zip old.stages old.records, step.many, step.within)))

-- what holds of a new element and of each that was there holds of each that is
pub at-set : {X : Type 0} (P : X → Type 0) (xs : List X) (n : ℕ) (x : X) (m : ℕ) (d : X) → P x → P (get_or xs m d)
    → P (get_or (set xs n x) m d)
at-set P [] n x m d here there = there
at-set P (y ∷ xs) zero x zero d here there = here
at-set P (y ∷ xs) zero x (suc m) d here there = there
at-set P (y ∷ xs) (suc n) x zero d here there = there
at-set P (y ∷ xs) (suc n) x (suc m) d here there = at-set P xs n x m d here there

-- setting rows that gave nothing to others that give nothing leaves all as it was
gather-none : {X Y : Type 0} (part : X → List Y) (places : List ℕ) (new : ℕ → X) (rows : List X) (d : X)
    → All (λ (n : ℕ). (part (new n) ≡ []) × (part (get_or rows n d) ≡ [])) places
    → flat_map part (set_each places new rows) ≡ flat_map part rows
gather-none part [] new rows d none = refl
gather-none {X} {Y} part (n ∷ places) new rows d none =
    let Nothing : X → Type 0 = λ (x : X). part x ≡ [] in
    let Empty : List X → ℕ → Type 0 = λ (xs : List X) (m : ℕ). Nothing (new m) × Nothing (get_or xs m d) in
    let here : Empty rows n = All-head (Empty rows) n places none in
    gather-none part places new (set rows n (new n)) d
    (λ k e h. let each = All-tail (Empty rows) n places none k e h in
    (each.0, at-set Nothing rows n (new n) (get_or places k e) d here.0 each.1))
    ∙ gather-same part n rows (new n) d (here.0 ∙ sym here.1)

-- several legs of a course go on: along all but the first nothing has happened before
pub record Enters {T : Type 0} (old new : Course T) (row : ℕ) (rest : List ℕ) (stage : Stage) (next : ℕ → Progress)
    : Type 0 where
  pub within : row < length old.records
  pub many : length old.stages ≡ length old.records
  pub apart : All (λ (n : ℕ). row ≢ n) rest
  pub there : All (λ (n : ℕ). n < length old.records) rest
  pub stages : new.stages ≡ set_each (row ∷ rest) (λ (n : ℕ). stage) old.stages
  pub records : new.records ≡ set_each (row ∷ rest) next old.records

-- so the other rows still give nothing when the first has gone on
still-none : {X Y : Type 0} (part : X → List Y) (row : ℕ) (rest : List ℕ) (new : ℕ → X) (rows : List X) (d : X)
    → All (λ (n : ℕ). row ≢ n) rest → All (λ (n : ℕ). (part (new n) ≡ []) × (part (get_or rows n d) ≡ [])) rest
    → flat_map part (set_each rest new (set rows row (new row))) ≡ flat_map part (set rows row (new row))
still-none part row rest new rows d apart none =
    gather-none part rest new (set rows row (new row)) d (λ k e h.
    let n : ℕ = get_or rest k e in (
      (none k e h).0,
      ap part (get_or-set_other rows row n (new row) d (λ same. apart k e h (sym same))) ∙ (none k e h).1,
    ))

module _ {T : Type 0} {old new : Course T} {row : ℕ} {rest : List ℕ} {stage : Stage} {next : ℕ → Progress} where
  -- what is gathered of the records stays where the first leg's own part does, and the others give nothing
  pub entered-same : {X : Type 0} (part : Progress → List X) → Enters old new row rest stage next
      → All (λ (n : ℕ). (part (next n) ≡ []) × (part (progress_at old.records n) ≡ [])) rest
      → part (next row) ≡ part (progress_at old.records row)
      → flat_map part new.records ≡ flat_map part old.records
  entered-same {X} part step none same =
      ap (flat_map part) step.records
      ∙ still-none part row rest next old.records no_progress step.apart none
      ∙ gather-same part row old.records (next row) no_progress same

  -- and has one element more where that has one more
  pub entered-more : {X : Type 0} (part : Progress → List X) (x : X) → Enters old new row rest stage next
      → All (λ (n : ℕ). (part (next n) ≡ []) × (part (progress_at old.records n) ≡ [])) rest
      → IsPermutation (x ∷ part (progress_at old.records row)) (part (next row))
      → IsPermutation (x ∷ flat_map part old.records) (flat_map part new.records)
  entered-more {X} part x step none more =
      subst (IsPermutation (x ∷ flat_map part old.records))
      (sym (ap (flat_map part) step.records
      ∙ still-none part row rest next old.records no_progress step.apart none))
      (gather-more part row old.records (next row) no_progress x more step.within)

  -- so of stages and records
  pub entered-both : {X : Type 0} (part : Stage × Progress → List X) → Enters old new row rest stage next
      → All (λ (n : ℕ). (part (stage, next n) ≡ []) × (part (stage_at old n, progress_at old.records n) ≡ [])) rest
      → part (stage, next row) ≡ part (stage_at old row, progress_at old.records row)
      → flat_map part (zip new.stages new.records) ≡ flat_map part (zip old.stages old.records)
  entered-both {X} part step none same =
      let rows : List (Stage × Progress) = zip old.stages old.records in
      let both : ℕ → Stage × Progress = λ (n : ℕ). (stage, next n) in
      ap (λ (ss : List Stage). flat_map part (zip ss new.records)) step.stages
      ∙ ap (λ (ps : List Progress). flat_map part (zip (set_each (row ∷ rest) (λ (n : ℕ). stage) old.stages) ps))
      step.records
      ∙ ap (flat_map part) (zip-set_each (row ∷ rest) (λ (n : ℕ). stage) next old.stages old.records)
      ∙ still-none part row rest both rows (Over, no_progress) step.apart (λ k e h. (
        (none k e h).0,
        ap part (row-of-both old (get_or rest k e) step.many (step.there k e h)) ∙ (none k e h).1,
      ))
      ∙ gather-same part row rows (both row) (Over, no_progress)
      (same ∙ sym (ap part (row-of-both old row step.many step.within)))

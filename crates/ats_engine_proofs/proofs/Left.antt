-- What the frames take still, once one of them took a step.
use Rattle.std.proofs.Common.{◌≡◌, ℕ, zero, suc, ◌+◌, ◌<◌, ◌≤◌, List, [], ◌∷◌, length, get_or, set, All, sym, ap, ◌∙◌}
use Rattle.std.proofs.Common.{arith}
use Rattle.std.specs.Prelude.{◌≢◌, AllPairs, sum_by}
use Rattle.std.specs.List.{zip}
use Rattle.std.proofs.lemmas.List.{get_or-set_other, length-set}
use Rattle.std.proofs.lemmas.List.Elements.{All-head, All-tail}
use Rattle.std.proofs.lemmas.List.Sums.{sum_by-cons}
use Rattle.ats_facts.proofs.Lists.{pairs_head, pairs_tail}
use Rattle.ats_run_records.specs.Progress.{Progress, no_progress, progress_at}
use Rattle.ats_engine_steps.specs.Course.{Course, stage_at}
use Rattle.ats_engine_steps.specs.Steps.{set_each}
use Rattle.ats_engine_steps.specs.declared.stage.Stage.{Stage}
use Rattle.ats_engine_steps.specs.declared.stage.Stage.TheVariants.{Over}

-- a sum over all frames, once the stage and the record of one are set
left-set : (f : Stage × Progress → ℕ) (stages : List Stage) (records : List Progress) (row : ℕ) (s : Stage)
    (p : Progress) → length stages ≡ length records → row < length records
    → sum_by f (zip (set stages row s) (set records row p))
    + f (get_or stages row Over, progress_at records row)
    ≡ sum_by f (zip stages records) + f (s, p)
left-set f [] [] row s p even within = absurd (omega arith)
left-set f [] (q ∷ records) row s p even within = absurd (omega arith)
left-set f (t ∷ stages) [] row s p even within = absurd (omega arith)
left-set f (t ∷ stages) (q ∷ records) zero s p even within =
    omega (arith, sum_by-cons f (s, p) (zip stages records), sum_by-cons f (t, q) (zip stages records))
left-set f (t ∷ stages) (q ∷ records) (suc k) s p even within =
    omega (
      arith,
      left-set f stages records k s p (omega arith) (omega arith),
      sum_by-cons f (t, q) (zip (set stages k s) (set records k p)),
      sum_by-cons f (t, q) (zip stages records),
    )

-- so after a step that moves one frame
pub left-after : {T : Type 0} (f : Stage × Progress → ℕ) (old new : Course T) (row : ℕ) (was s : Stage)
    (p : Progress) → length old.stages ≡ length old.records → row < length old.records
    → stage_at old row ≡ was → new.stages ≡ set old.stages row s → new.records ≡ set old.records row p
    → sum_by f (zip new.stages new.records) + f (was, progress_at old.records row)
    ≡ sum_by f (zip old.stages old.records) + f (s, p)
left-after f old new row was s p even within is staged recorded =
    let stands : f (stage_at old row, progress_at old.records row) ≡ f (was, progress_at old.records row) =
    ap (λ (t : Stage). f (t, progress_at old.records row)) is in
    let moved : sum_by f (zip new.stages new.records)
    ≡ sum_by f (zip (set old.stages row s) (set old.records row p)) =
    ap (λ (ss : List Stage). sum_by f (zip ss new.records)) staged
    ∙ ap (λ (ps : List Progress). sum_by f (zip (set old.stages row s) ps)) recorded in
    omega (arith, left-set f old.stages old.records row s p even within)

-- with the stages and the records of several rows set, of which none takes more then than it did, no more is left
left-set_each : (f : Stage × Progress → ℕ) (s : Stage) (new : ℕ → Progress) (rows : List ℕ) (stages : List Stage)
    (records : List Progress) → length stages ≡ length records → All (λ (n : ℕ). n < length records) rows
    → AllPairs (λ (n m : ℕ). n ≢ m) rows
    → All (λ (n : ℕ). f (s, new n) ≤ f (get_or stages n Over, progress_at records n)) rows
    → sum_by f (zip (set_each rows (λ (n : ℕ). s) stages) (set_each rows new records))
    ≤ sum_by f (zip stages records)
left-set_each f s new [] stages records even within apart less = omega arith
left-set_each f s new (n ∷ rows) stages records even within apart less =
    let Within : List Progress → ℕ → Type 0 = λ (ps : List Progress) (m : ℕ). m < length ps in
    let Less : List Stage → List Progress → ℕ → Type 0 =
    λ (ss : List Stage) (ps : List Progress) (m : ℕ). f (s, new m) ≤ f (get_or ss m Over, progress_at ps m) in
    let ss : List Stage = set stages n s in
    let ps : List Progress = set records n (new n) in
    let others : All (λ (m : ℕ). n ≢ m) rows = pairs_head (λ (n m : ℕ). n ≢ m) n rows apart in
    let long : length ps ≡ length records = length-set records n (new n) in
    let rest = left-set_each f s new rows ss ps (omega (arith, length-set stages n s))
    (λ k d h. omega (arith, All-tail (Within records) n rows within k d h))
    (pairs_tail (λ (n m : ℕ). n ≢ m) n rows apart)
    (λ k d h. (
    let m : ℕ = get_or rows k d in
    let other : m ≢ n = λ same. others k d h (sym same) in
    let stage : get_or ss m Over ≡ get_or stages m Over = get_or-set_other stages n m s Over other in
    let record_is : progress_at ps m ≡ progress_at records m = get_or-set_other records n m (new n) no_progress other in
    let same : f (get_or ss m Over, progress_at ps m) ≡ f (get_or stages m Over, progress_at records m) =
    ap (λ (t : Stage). f (t, progress_at ps m)) stage ∙ ap (λ (p : Progress). f (get_or stages m Over, p)) record_is in
    omega (arith, All-tail (Less stages records) n rows less k d h))) in
    omega (
      arith,
      rest,
      left-set f stages records n s (new n) even (All-head (Within records) n rows within),
      All-head (Less stages records) n rows less,
    )

-- so after an arrival, at which a row and others are set, of which none takes more then than it did
pub left-entered : {T : Type 0} (f : Stage × Progress → ℕ) (old new : Course T) (row : ℕ) (others : List ℕ)
    (was s : Stage) (next : ℕ → Progress) → length old.stages ≡ length old.records
    → All (λ (n : ℕ). n < length old.records) (row ∷ others) → AllPairs (λ (n m : ℕ). n ≢ m) (row ∷ others)
    → stage_at old row ≡ was → new.stages ≡ set_each (row ∷ others) (λ (n : ℕ). s) old.stages
    → new.records ≡ set_each (row ∷ others) next old.records
    → All (λ (n : ℕ). f (s, next n) ≤ f (stage_at old n, progress_at old.records n)) others
    → sum_by f (zip new.stages new.records) + f (was, progress_at old.records row)
    ≤ sum_by f (zip old.stages old.records) + f (s, next row)
left-entered {T} f old new row others was s next even within apart is staged recorded less =
    let Within : ℕ → Type 0 = λ (n : ℕ). n < length old.records in
    let ss : List Stage = set old.stages row s in
    let ps : List Progress = set old.records row (next row) in
    let differ : All (λ (m : ℕ). row ≢ m) others = pairs_head (λ (n m : ℕ). n ≢ m) row others apart in
    let long : length ps ≡ length old.records = length-set old.records row (next row) in
    let rest : sum_by f (zip (set_each others (λ (n : ℕ). s) ss) (set_each others next ps)) ≤ sum_by f (zip ss ps) =
    left-set_each f s next others ss ps (omega (arith, length-set old.stages row s))
    (λ k d h. omega (arith, All-tail Within row others within k d h))
    (pairs_tail (λ (n m : ℕ). n ≢ m) row others apart)
    (λ k d h. (
    let m : ℕ = get_or others k d in
    let other : m ≢ row = λ same. differ k d h (sym same) in
    let stage : get_or ss m Over ≡ stage_at old m = get_or-set_other old.stages row m s Over other in
    let record_is : progress_at ps m ≡ progress_at old.records m =
    get_or-set_other old.records row m (next row) no_progress other in
    let same : f (get_or ss m Over, progress_at ps m) ≡ f (stage_at old m, progress_at old.records m) =
    ap (λ (t : Stage). f (t, progress_at ps m)) stage ∙ ap (λ (p : Progress). f (stage_at old m, p)) record_is in
    omega (arith, less k d h))) in
    let stands : f (stage_at old row, progress_at old.records row) ≡ f (was, progress_at old.records row) =
    ap (λ (t : Stage). f (t, progress_at old.records row)) is in
    let moved : sum_by f (zip new.stages new.records)
    ≡ sum_by f (zip (set_each others (λ (n : ℕ). s) ss) (set_each others next ps)) =
    ap (λ (stages : List Stage). sum_by f (zip stages new.records)) staged
    ∙ ap (λ (records : List Progress). sum_by f (zip (set_each others (λ (n : ℕ). s) ss) records)) recorded in
    omega (arith, left-set f old.stages old.records row s (next row) even (All-head Within row others within))

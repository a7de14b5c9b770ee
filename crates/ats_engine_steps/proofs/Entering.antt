-- The rows of the legs to which a frame comes at once, and what each of them gets.
use Rattle.std.proofs.Common.{◌≡◌, ◌∙◌, ℕ, zero, suc, ◌+◌, ◌-◌, ◌<◌, ◌≤◌, List, [], ◌∷◌, ◌++◌, length, map, get_or, set}
use Rattle.std.proofs.Common.{Bool, true, false, cond, All, refl, sym, ap, subst, arith}
use Rattle.std.specs.Prelude.{◌≢◌, if◌then◌else◌, AllPairs, Option, Some, None, filter}
use Rattle.std.specs.List.{range_with_len}
use Rattle.std.proofs.lemmas.List.{append-nil, get_or-set_other, get_or-set_same, length-set, map-append}
use Rattle.std.proofs.lemmas.List.Elements.{All-head, All-tail, filter-append}
use Rattle.ats_facts.proofs.Lists.{all_left, all_right, pairs_head}
use Rattle.ats_num.specs.declared.time.Ps.{Ps}
use Rattle.ats_group.specs.GroupsState.{GroupsState}
use Rattle.ats_group.specs.declared.verdict.Verdict.{Verdict}
use Rattle.ats_network.specs.Network.{DeclaredNetwork}
use Rattle.ats_trace.proofs.Legs.{pairs_across}
use Rattle.ats_events.specs.declared.moment.Moment.{Moment}
use Rattle.ats_trace.specs.Stored.{row_of}
use Rattle.ats_trace.specs.HopRecord.{HopRecord}
use Rattle.ats_run_records.specs.Progress.{Progress, no_progress, progress_at, with_hop}
use Rattle.ats_engine_steps.specs.Conditions.{HasRoom, MayComeNow}
use Rattle.ats_engine_steps.specs.Course.{Course, sender_of}
use Rattle.ats_engine_steps.specs.Steps.{Comes, begins_in, came, due_by, entered, groups_now, row_begun}
use Rattle.ats_engine_steps.specs.Steps.{rows_next, set_each, stage_by, verdict_now}
use Rattle.ats_engine_steps.specs.Seen.{course_of}
use Rattle.ats_engine_steps.specs.declared.stage.Stage.{Stage}
use Rattle.ats_engine_steps.specs.declared.state.State.{State}

-- one more of the elements that are set
pub set_each-push : {X : Type 0} (places : List ℕ) (place : ℕ) (new : ℕ → X) (xs : List X)
    → set_each (places ++ place ∷ []) new xs ≡ set (set_each places new xs) place (new place)
set_each-push [] place new xs = refl
set_each-push (n ∷ places) place new xs = set_each-push places place new (set xs n (new n))

pub length-set_each : {X : Type 0} (places : List ℕ) (new : ℕ → X) (xs : List X)
    → length (set_each places new xs) ≡ length xs
length-set_each [] new xs = refl
length-set_each (n ∷ places) new xs = length-set_each places new (set xs n (new n)) ∙ length-set xs n (new n)

-- an element at another place stays
pub get_or-set_each_other : {X : Type 0} (places : List ℕ) (new : ℕ → X) (xs : List X) (place : ℕ) (d : X)
    → All (λ n. n ≢ place) places → get_or (set_each places new xs) place d ≡ get_or xs place d
get_or-set_each_other [] new xs place d apart = refl
get_or-set_each_other (n ∷ places) new xs place d apart =
    get_or-set_each_other places new (set xs n (new n)) place d (All-tail (λ m. m ≢ place) n places apart)
    ∙ get_or-set_other xs n place (new n) d (λ same. All-head (λ m. m ≢ place) n places apart (sym same))

-- the rows of the legs to which a frame comes at a hop of a leg, of which so many copies are asked for
abbrev pub rows_to : DeclaredNetwork → List ℕ → ℕ → Progress → ℕ → ℕ → List ℕ
rows_to network firsts row progress hop copies =
    row ∷ map (row_of firsts progress.frame) (filter (begins_in network progress hop) (range_with_len 1 copies))

range-split : (from n m : ℕ) → range_with_len from (n + m) ≡ range_with_len from n ++ range_with_len (from + n) m
range-split from zero m =
    let none : 0 + m ≡ m = omega arith in
    let here : from ≡ from + 0 = omega arith in
    ap (range_with_len from) none ∙ ap (λ (k : ℕ). range_with_len k m) here
range-split from (suc n) m =
    let more : suc n + m ≡ suc (n + m) = omega arith in
    let next : from + 1 + n ≡ from + suc n = omega arith in
    ap (range_with_len from) more
    ∙ ap (λ (ns : List ℕ). from ∷ ns) (range-split (from + 1) n m
    ∙ ap (λ (k : ℕ). range_with_len (from + 1) n ++ range_with_len k m) next)

-- those of the first copies come first
rows-split : (network : DeclaredNetwork) (firsts : List ℕ) (row : ℕ) (progress : Progress) (hop n m : ℕ)
    → rows_to network firsts row progress hop (n + m)
    ≡ rows_to network firsts row progress hop n
    ++ map (row_of firsts progress.frame) (filter (begins_in network progress hop) (range_with_len (1 + n) m))
rows-split network firsts row progress hop n m =
    let begins : ℕ → Bool = begins_in network progress hop in
    let named : ℕ → ℕ = row_of firsts progress.frame in
    ap (λ (ns : List ℕ). row ∷ map named (filter begins ns)) (range-split 1 n m)
    ∙ ap (λ (ns : List ℕ). row ∷ map named ns)
    (filter-append begins (range_with_len 1 n) (range_with_len (1 + n) m))
    ∙ ap (λ (ns : List ℕ). row ∷ ns)
    (map-append named (filter begins (range_with_len 1 n)) (filter begins (range_with_len (1 + n) m)))

filter-one : (test : ℕ → Bool) (n : ℕ) (b : Bool) → test n ≡ b → filter test (n ∷ []) ≡ cond b (n ∷ []) []
filter-one test n b is = ap (λ (c : Bool). cond c (n ∷ []) []) is

-- one copy more, which begins there
pub rows-more : (network : DeclaredNetwork) (firsts : List ℕ) (row : ℕ) (progress : Progress) (hop n : ℕ)
    → begins_in network progress hop (1 + n) ≡ true
    → rows_to network firsts row progress hop (1 + n)
    ≡ rows_to network firsts row progress hop n ++ row_of firsts progress.frame (1 + n) ∷ []
rows-more network firsts row progress hop n begins =
    let one : 1 + n ≡ n + 1 = omega arith in
    ap (rows_to network firsts row progress hop) one
    ∙ rows-split network firsts row progress hop n 1
    ∙ ap (λ (ns : List ℕ). rows_to network firsts row progress hop n ++ map (row_of firsts progress.frame) ns)
    (filter-one (begins_in network progress hop) (1 + n) true begins)

-- or which does not
pub rows-same : (network : DeclaredNetwork) (firsts : List ℕ) (row : ℕ) (progress : Progress) (hop n : ℕ)
    → begins_in network progress hop (1 + n) ≡ false
    → rows_to network firsts row progress hop (1 + n) ≡ rows_to network firsts row progress hop n
rows-same network firsts row progress hop n begins =
    let one : 1 + n ≡ n + 1 = omega arith in
    ap (rows_to network firsts row progress hop) one
    ∙ rows-split network firsts row progress hop n 1
    ∙ ap (λ (ns : List ℕ). rows_to network firsts row progress hop n ++ map (row_of firsts progress.frame) ns)
    (filter-one (begins_in network progress hop) (1 + n) false begins)
    ∙ append-nil (rows_to network firsts row progress hop n)

-- the row of a copy that begins at the hop of a leg to which the frame comes next; it is not yet among those of the
-- copies before it
pub record IsNextRow {T : Type 0} (network : DeclaredNetwork) (course : Course T) (row n other : ℕ) : Type 0 where
  pub room : HasRoom course.records other
  pub apart : All (λ (m : ℕ). m ≢ other) (rows_to network course.firsts row (progress_at course.records row)
      (length (progress_at course.records row).hops) n)

pub next_row : {T : Type 0} (network : DeclaredNetwork) (course : Course T) (now row n : ℕ)
    → MayComeNow network course now row → 1 + n ≤ length (sender_of network (progress_at course.records row)).branches
    → begins_in network (progress_at course.records row) (length (progress_at course.records row).hops) (1 + n) ≡ true
    → IsNextRow network course row n (row_of course.firsts (progress_at course.records row).frame (1 + n))
next_row network course now row n may there begins =
    let p : Progress = progress_at course.records row in
    let hop : ℕ = length p.hops in
    let test : ℕ → Bool = begins_in network p hop in
    let named : ℕ → ℕ = row_of course.firsts p.frame in
    let m : ℕ = length (sender_of network p).branches - (1 + n) in
    let before : List ℕ = rows_to network course.firsts row p hop n in
    let behind : List ℕ = map named (filter test (range_with_len (1 + n + 1) m)) in
    let first : filter test (range_with_len (1 + n) (suc m)) ≡ (1 + n) ∷ filter test (range_with_len (1 + n + 1) m) =
    ap (λ (b : Bool). cond b ((1 + n) ∷ filter test (range_with_len (1 + n + 1) m))
    (filter test (range_with_len (1 + n + 1) m))) begins in
    let many : length (sender_of network p).branches ≡ n + suc m = omega arith in
    let whole : rows_next network course row ≡ before ++ named (1 + n) ∷ behind =
    ap (rows_to network course.firsts row p hop) many
    ∙ rows-split network course.firsts row p hop n (suc m)
    ∙ ap (λ (ns : List ℕ). before ++ map named ns) first in
    let rooms : All (HasRoom course.records) (before ++ named (1 + n) ∷ behind) =
    subst (All (HasRoom course.records)) whole may.next in
    let pairs : AllPairs (λ (i j : ℕ). i ≢ j) (before ++ named (1 + n) ∷ behind) =
    subst (AllPairs (λ (i j : ℕ). i ≢ j)) whole may.apart in
    record {
      room = All-head (HasRoom course.records) (named (1 + n)) behind
          (all_right (HasRoom course.records) before (named (1 + n) ∷ behind) rooms);
      apart = λ i d within.
          All-head (λ (j : ℕ). get_or before i d ≢ j) (named (1 + n)) behind
          (pairs_across (λ (i j : ℕ). i ≢ j) before (named (1 + n) ∷ behind) pairs i d within);
    }

-- the leg to which the frame came has its record, whatever copies it came to as well
pub row-after : {T : Type 0} {X : Type 0} (network : DeclaredNetwork) (course : Course T) (now row n : ℕ) (new : ℕ → X)
    (xs : List X) (d : X) → MayComeNow network course now row
    → n ≤ length (sender_of network (progress_at course.records row)).branches → row < length xs
    → get_or (set_each (rows_to network course.firsts row (progress_at course.records row)
    (length (progress_at course.records row).hops) n) new xs) row d ≡ new row
row-after network course now row n new xs d may there within =
    let p : Progress = progress_at course.records row in
    let hop : ℕ = length p.hops in
    let test : ℕ → Bool = begins_in network p hop in
    let named : ℕ → ℕ = row_of course.firsts p.frame in
    let m : ℕ = length (sender_of network p).branches - n in
    let others : List ℕ = map named (filter test (range_with_len 1 n)) in
    let many : length (sender_of network p).branches ≡ n + m = omega arith in
    let whole : rows_next network course row ≡ row ∷ others ++ map named (filter test (range_with_len (1 + n) m)) =
    ap (rows_to network course.firsts row p hop) many ∙ rows-split network course.firsts row p hop n m in
    let pairs : AllPairs (λ (i j : ℕ). i ≢ j) (row ∷ others ++ map named (filter test (range_with_len (1 + n) m))) =
    subst (AllPairs (λ (i j : ℕ). i ≢ j)) whole may.apart in
    let apart : All (λ (j : ℕ). row ≢ j) others =
    all_left (λ (j : ℕ). row ≢ j) others (map named (filter test (range_with_len (1 + n) m)))
    (pairs_head (λ (i j : ℕ). i ≢ j) row (others ++ map named (filter test (range_with_len (1 + n) m))) pairs) in
    get_or-set_each_other others new (set xs row (new row)) row d
    (λ i e below same. apart i e below (sym same))
    ∙ get_or-set_same xs row (new row) d within

-- the course of a run in which each of these legs got the hop record of a frame
abbrev pub entered_rows : {T : Type 0} → Course T → GroupsState → List ℕ → Ps → Verdict → Course T
entered_rows old groups rows at verdict = record old {
  stages = set_each rows (λ (n : ℕ). stage_by verdict) old.stages;
  records = set_each rows (λ (n : ℕ). with_hop (progress_at old.records n) (came at verdict)) old.records;
  groups = groups;
}

-- one leg more
pub entered-more : {T : Type 0} (old course new : Course T) (groups : GroupsState) (rows : List ℕ) (other : ℕ) (at : Ps)
    (verdict : Verdict) → course ≡ entered_rows old groups rows at verdict → All (λ (m : ℕ). m ≢ other) rows
    → new ≡ entered course other at verdict → new ≡ entered_rows old groups (rows ++ other ∷ []) at verdict
entered-more {T} old course new groups rows other at verdict is apart becomes =
    let hop : ℕ → Progress = λ (n : ℕ). with_hop (progress_at old.records n) (came at verdict) in
    let stage : ℕ → Stage = λ (n : ℕ). stage_by verdict in
    let so : List Stage → List Progress → Course T =
    λ (ss : List Stage) (ps : List Progress). record old { stages = ss; records = ps; groups = groups } in
    becomes
    ∙ ap (λ (c : Course T). entered c other at verdict) is
    ∙ ap (λ (p : Progress). so (set (set_each rows stage old.stages) other (stage_by verdict))
    (set (set_each rows hop old.records) other (with_hop p (came at verdict))))
    (get_or-set_each_other rows hop old.records other no_progress apart)
    ∙ ap (λ (ss : List Stage). so ss (set (set_each rows hop old.records) other (hop other)))
    (sym (set_each-push rows other stage old.stages))
    ∙ ap (so (set_each (rows ++ other ∷ []) stage old.stages)) (sym (set_each-push rows other hop old.records))

-- the course of a run in which one leg more got it, or none
pub entered-next : {T S : Type 0} (old course : Course T) (state joined : State T S) (groups : GroupsState)
    (rows next : List ℕ) (other : ℕ) (at : Ps) (verdict : Verdict) → joined ≡ state
    → course ≡ entered_rows old groups rows at verdict → All (λ (m : ℕ). m ≢ other) rows
    → course_of state ≡ entered course other at verdict → next ≡ rows ++ other ∷ []
    → course_of joined ≡ entered_rows old groups next at verdict
entered-next {T} {S} old course state joined groups rows next other at verdict joins is apart becomes more =
    ap (λ (s : State T S). course_of s) joins
    ∙ entered-more old course (course_of state) groups rows other at verdict is apart becomes
    ∙ ap (λ (ns : List ℕ). entered_rows old groups ns at verdict) (sym more)

pub entered-same : {T S : Type 0} (old : Course T) (state joined : State T S) (groups : GroupsState)
    (rows next : List ℕ) (at : Ps) (verdict : Verdict) → joined ≡ state
    → course_of state ≡ entered_rows old groups rows at verdict → next ≡ rows
    → course_of joined ≡ entered_rows old groups next at verdict
entered-same {T} {S} old state joined groups rows next at verdict joins is same =
    ap (λ (s : State T S). course_of s) joins
    ∙ is
    ∙ ap (λ (ns : List ℕ). entered_rows old groups ns at verdict) (sym same)

-- when a frame with a verdict is eligible
pub same-due : (verdict told : Verdict) → verdict ≡ told → due_by told ≡ due_by verdict
same-due verdict told is = ap due_by (sym is)

-- what stands in the rows then
pub record IsEntered {T : Type 0} (old course : Course T) (row : ℕ) (hop : HopRecord) : Type 0 where
  pub progress : progress_at course.records row ≡ with_hop (progress_at old.records row) hop
  pub firsts : course.firsts ≡ old.firsts
  pub rows : length course.records ≡ length old.records
  pub stages : length course.stages ≡ length old.stages

pub entered-so : {T : Type 0} (network : DeclaredNetwork) (old course : Course T) (groups : GroupsState) (now row n : ℕ)
    (at : Ps) (verdict : Verdict) → MayComeNow network old now row
    → n ≤ length (sender_of network (progress_at old.records row)).branches
    → course ≡ entered_rows old groups (rows_to network old.firsts row (progress_at old.records row)
    (length (progress_at old.records row).hops) n) at verdict
    → IsEntered old course row (came at verdict)
entered-so {T} network old course groups now row n at verdict may there is =
    let rows : List ℕ = rows_to network old.firsts row (progress_at old.records row)
    (length (progress_at old.records row).hops) n in
    let hop : ℕ → Progress = λ (k : ℕ). with_hop (progress_at old.records k) (came at verdict) in
    record {
      progress = ap (λ (c : Course T). progress_at c.records row) is
          ∙ row-after network old now row n hop old.records no_progress may there may.may_come.room.within;
      firsts = ap (λ (c : Course T). c.firsts) is;
      rows = ap (λ (c : Course T). length c.records) is ∙ length-set_each rows hop old.records;
      stages = ap (λ (c : Course T). length c.stages) is
          ∙ length-set_each rows (λ (k : ℕ). stage_by verdict) old.stages;
    }

some-other : (b : Bool) (row other : ℕ) → Some other ≡ (if b then Some row else None) → (b ≡ true) × (other ≡ row)
some-other true row other is = (refl, cc)
some-other false row other is = absurd cc

no-other : (b : Bool) (row : ℕ) (found : Option ℕ) → found ≡ (if b then Some row else None)
    → ((other : ℕ) → found ≢ Some other) → b ≡ false
no-other true row found is none = absurd (none row is)
no-other false row found is none = refl

-- the row of the copy that the loop comes to next
pub record IsOther {T : Type 0} (network : DeclaredNetwork) (old course : Course T) (row copy other : ℕ) : Type 0 where
  pub room : HasRoom course.records other
  pub stages : other < length course.stages
  pub apart : All (λ (m : ℕ). m ≢ other) (rows_to network old.firsts row (progress_at old.records row)
      (length (progress_at old.records row).hops) (copy - 1))
  pub rows : rows_to network old.firsts row (progress_at old.records row)
      (length (progress_at old.records row).hops) (copy + 1 - 1)
      ≡ rows_to network old.firsts row (progress_at old.records row)
      (length (progress_at old.records row).hops) (copy - 1) ++ other ∷ []

pub other-row : {T : Type 0} (network : DeclaredNetwork) (old course : Course T) (groups : GroupsState)
    (now row copy hop other : ℕ) (at : Ps) (verdict : Verdict) → MayComeNow network old now row → 1 ≤ copy
    → copy ≤ length (sender_of network (progress_at old.records row)).branches
    → course ≡ entered_rows old groups (rows_to network old.firsts row (progress_at old.records row)
    (length (progress_at old.records row).hops) (copy - 1)) at verdict
    → hop ≡ length (progress_at old.records row).hops
    → Some other ≡ row_begun network course.firsts (progress_at course.records row) hop copy
    → IsOther network old course row copy other
other-row {T} network old course groups now row copy hop other at verdict may from there is same found =
    let p : Progress = progress_at old.records row in
    let n : ℕ = copy - 1 in
    let next : copy ≡ 1 + n = omega arith in
    let in_old : IsEntered old course row (came at verdict) =
    entered-so network old course groups now row n at verdict may (omega arith) is in
    let told : Some other ≡ row_begun network old.firsts p (length p.hops) (1 + n) =
    found
    ∙ ap (λ (firsts : List ℕ). row_begun network firsts (progress_at course.records row) hop copy) in_old.firsts
    ∙ ap (λ (q : Progress). row_begun network old.firsts q hop copy) in_old.progress
    ∙ ap (λ (k : ℕ). row_begun network old.firsts p k copy) same
    ∙ ap (row_begun network old.firsts p (length p.hops)) next in
    let one : (begins_in network p (length p.hops) (1 + n) ≡ true) × (other ≡ row_of old.firsts p.frame (1 + n)) =
    some-other (begins_in network p (length p.hops) (1 + n)) (row_of old.firsts p.frame (1 + n)) other told in
    let it : IsNextRow network old row n other =
    subst (IsNextRow network old row n) (sym one.1) (next_row network old now row n may (omega arith) one.0) in
    let kept : progress_at course.records other ≡ progress_at old.records other =
    ap (λ (c : Course T). progress_at c.records other) is
    ∙ get_or-set_each_other (rows_to network old.firsts row p (length p.hops) n)
    (λ (k : ℕ). with_hop (progress_at old.records k) (came at verdict)) old.records other no_progress it.apart in
    let further : copy + 1 - 1 ≡ 1 + n = omega arith in
    record {
      room = record {
        within = omega (arith, it.room.within, in_old.rows);
        more = subst (λ (q : Progress). length q.hops < q.room) (sym kept) it.room.more;
      };
      stages = omega (arith, it.room.within, in_old.stages, may.stages);
      apart = it.apart;
      rows = ap (rows_to network old.firsts row p (length p.hops)) further
          ∙ rows-more network old.firsts row p (length p.hops) n one.0
          ∙ ap (λ (k : ℕ). rows_to network old.firsts row p (length p.hops) n ++ k ∷ []) (sym one.1);
    }

-- it has a row
pub there-row : {T : Type 0} (network : DeclaredNetwork) (old course : Course T) (groups : GroupsState)
    (now row copy hop : ℕ) (at : Ps) (verdict : Verdict) → MayComeNow network old now row → 1 ≤ copy
    → copy ≤ length (sender_of network (progress_at old.records row)).branches
    → course ≡ entered_rows old groups (rows_to network old.firsts row (progress_at old.records row)
    (length (progress_at old.records row).hops) (copy - 1)) at verdict
    → hop ≡ length (progress_at old.records row).hops
    → begins_in network (progress_at course.records row) hop copy ≡ true
    → row_of course.firsts (progress_at course.records row).frame copy < length course.records
there-row {T} network old course groups now row copy hop at verdict may from there is same begins =
    let other : ℕ = row_of course.firsts (progress_at course.records row).frame copy in
    let it : IsOther network old course row copy other =
    other-row network old course groups now row copy hop other at verdict may from there is same
    (ap (λ (b : Bool). if b then Some other else None) (sym begins)) in
    it.room.within

-- or where it does not begin there
pub no-row : {T : Type 0} (network : DeclaredNetwork) (old course : Course T) (groups : GroupsState)
    (now row copy hop : ℕ) (found : Option ℕ) (at : Ps) (verdict : Verdict) → MayComeNow network old now row → 1 ≤ copy
    → copy ≤ length (sender_of network (progress_at old.records row)).branches
    → course ≡ entered_rows old groups (rows_to network old.firsts row (progress_at old.records row)
    (length (progress_at old.records row).hops) (copy - 1)) at verdict
    → hop ≡ length (progress_at old.records row).hops
    → found ≡ row_begun network course.firsts (progress_at course.records row) hop copy
    → ((other : ℕ) → found ≢ Some other)
    → rows_to network old.firsts row (progress_at old.records row) (length (progress_at old.records row).hops)
    (copy + 1 - 1)
    ≡ rows_to network old.firsts row (progress_at old.records row) (length (progress_at old.records row).hops)
    (copy - 1)
no-row {T} network old course groups now row copy hop found at verdict may from there is same begun none =
    let p : Progress = progress_at old.records row in
    let n : ℕ = copy - 1 in
    let next : copy ≡ 1 + n = omega arith in
    let in_old : IsEntered old course row (came at verdict) =
    entered-so network old course groups now row n at verdict may (omega arith) is in
    let told : found ≡ row_begun network old.firsts p (length p.hops) (1 + n) =
    begun
    ∙ ap (λ (firsts : List ℕ). row_begun network firsts (progress_at course.records row) hop copy) in_old.firsts
    ∙ ap (λ (q : Progress). row_begun network old.firsts q hop copy) in_old.progress
    ∙ ap (λ (k : ℕ). row_begun network old.firsts p k copy) same
    ∙ ap (row_begun network old.firsts p (length p.hops)) next in
    let further : copy + 1 - 1 ≡ 1 + n = omega arith in
    ap (rows_to network old.firsts row p (length p.hops)) further
    ∙ rows-same network old.firsts row p (length p.hops) n
    (no-other (begins_in network p (length p.hops) (1 + n)) (row_of old.firsts p.frame (1 + n)) found told none)

-- when all copies were asked for, the frame has come
pub all-entered : {T : Type 0} (network : DeclaredNetwork) (old course : Course T) (now : Moment) (row n : ℕ)
    (verdict : Verdict) (due : Option Ps)
    → verdict ≡ verdict_now network old.groups (progress_at old.records row) now.at.0
    → n ≡ length (sender_of network (progress_at old.records row)).branches
    → course ≡ entered_rows old (groups_now network old.groups (progress_at old.records row) now.at.0)
    (rows_to network old.firsts row (progress_at old.records row) (length (progress_at old.records row).hops) n)
    now.at verdict
    → due ≡ due_by verdict → Comes network old (record course { last = now }) now row due
all-entered {T} network old course now row n verdict due judged all is brings =
    let p : Progress = progress_at old.records row in
    record {
      verdict = verdict;
      rows = rows_to network old.firsts row p (length p.hops) n;
      judged = judged;
      next = ap (rows_to network old.firsts row p (length p.hops)) all;
      becomes = ap (λ (c : Course T). record c { last = now }) is;
      brings = brings;
    }

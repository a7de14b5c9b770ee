-- Where nothing is to happen any more, what is told of each frame is a journey.
use Rattle.std.proofs.Common.{◌≡◌, ℕ, suc, ◌<◌, List, [], ◌∷◌, length, get_or, drop, All, Option, Some, None}
use Rattle.std.proofs.Common.{sym, ap, ◌∙◌, subst, inl, inr, arith}
use Rattle.std.specs.Prelude.{slice_get, ◌⊎◌}
use Rattle.std.specs.List.{AllZip}
use Rattle.std.proofs.lemmas.Grind.{get_or_after_one}
use Rattle.std.proofs.lemmas.List.{length-drop, length-map}
use Rattle.std.proofs.lemmas.List.Elements.{All-from_get_or}
use Rattle.std.proofs.lemmas.Slice.Zip.{get_or-zip, length-zip}
use Rattle.ats_streams.specs.Branches.{branches_of, leg_at, legs_of, no_branch}
use Rattle.ats_streams.specs.declared.branch.Branch.{Branch}
use Rattle.ats_streams.proofs.BranchLemmas.{begins_at, legs-length}
use Rattle.ats_network.specs.Network.{DeclaredNetwork}
use Rattle.ats_network.specs.Sender.{Sender}
use Rattle.ats_network.specs.Senders.{IsSender, sender_at}
use Rattle.ats_network.proofs.SenderLemmas.{sender_keeps}
use Rattle.ats_trace.specs.Journey.{AreCopies, IsCopy, IsJourney, IsReleased, IsWay, Leg, Travel, legs_at}
use Rattle.ats_trace.specs.Journey.{legs_in, no_leg, record_at}
use Rattle.ats_trace.specs.Stored.{no_travel, row_of, travel_at}
use Rattle.ats_trace.specs.HopRecord.{HopRecord}
use Rattle.ats_trace.specs.declared.journey.Release.{Release}
use Rattle.ats_trace.proofs.RowLemmas.{length-gathered}
use Rattle.ats_run_records.specs.Progress.{Progress, copies_count, finished, progress_at, told_of}
use Rattle.ats_engine_steps.specs.Course.{Course, path_of, sender_of, stage_at}
use Rattle.ats_engine_steps.specs.Frames.{HasBegun, IsAtStage, IsFrame, start_by, start_of}
use Rattle.ats_engine_steps.specs.Invariant.{Holds}
use Rattle.ats_engine_steps.specs.declared.stage.Stage.TheVariants.{Apart, Over}
use Rattle.ats_engine_proofs.proofs.Finished.{IsTold, journey-told, ledger_in, told_in}
use Rattle.ats_engine_proofs.proofs.Rows.{IsRowFor, firsts-are, row-for, trunk-is}

-- a relation of elements place by place
all-zipped : {A B : Type 0} (R : A → B → Type 0) (xs : List A) (ys : List B) (d : A) (e : B)
    → length ys ≡ length xs → ((i : ℕ) → i < length xs → R (get_or xs i d) (get_or ys i e)) → AllZip R xs ys
all-zipped R [] [] d e same each = tt
all-zipped R [] (y ∷ ys) d e same each = absurd (omega arith)
all-zipped R (x ∷ xs) [] d e same each = absurd (omega arith)
all-zipped R (x ∷ xs) (y ∷ ys) d e same each =
    (each 0 (omega arith), all-zipped R xs ys d e (omega arith) (λ i h. each (suc i) (omega arith)))

-- a leg is whole, or the frame has not come there
abbrev HasEnded : List ℕ → Option HopRecord → Progress → Type 0
HasEnded path start p = IsAtStage path start p Over ⊎ IsAtStage path start p Apart

-- one that has ended is a copy
copy-ended : (path : List ℕ) (start : Option HopRecord) (copy : ℕ) (p : Progress) → p.leg ≡ suc copy
    → HasEnded path start p → IsCopy start path (told_of p).1
copy-ended path None copy p is (inl whole) =
    absurd (subst (λ (leg : ℕ). HasBegun leg p.release None p.hops) is whole.begun)
copy-ended path None copy p is (inr apart) = (apart.here.0, apart.unended)
copy-ended path (Some start) copy p is (inl whole) =
    (subst (λ (leg : ℕ). HasBegun leg p.release (Some start) p.hops) is whole.begun, whole.way)
copy-ended path (Some start) copy p is (inr apart) = cc (apart.here.1)

-- and the trunk makes its way from the release
record IsTrunk (path : List ℕ) (p : Progress) : Type 0 where
  way : IsWay path p.hops p.ending
  released : IsReleased p.release p.hops

trunk-ended : (path : List ℕ) (start : Option HopRecord) (p : Progress) → p.leg ≡ 0 → HasEnded path start p
    → IsTrunk path p
trunk-ended path start p is (inl whole) = record {
  way = whole.way;
  released = subst (λ (leg : ℕ). HasBegun leg p.release start p.hops) is whole.begun;
}
trunk-ended path start p is (inr apart) = absurd (omega (arith, is, apart.here.2))

-- each row of a run where nothing is to happen has ended
abbrev AreEnded : {T : Type 0} → Course T → Type 0
AreEnded course =
    (row : ℕ) → row < length course.records → (stage_at course row ≡ Over) ⊎ (stage_at course row ≡ Apart)

row-ended : {T : Type 0} {key : T → ℕ → ℕ → ℕ} {wait : ℕ → ℕ → ℕ} {network : DeclaredNetwork}
    {releases : List Release} {course : Course T} → Holds key wait network releases course [] → AreEnded course
    → (row : ℕ) → row < length course.records
    → HasEnded (path_of network (progress_at course.records row))
    (start_of network course (progress_at course.records row)) (progress_at course.records row)
row-ended {T} {key} {wait} {network} {releases} {course} holds ended row within = by (ended row within)
  where
    by : (stage_at course row ≡ Over) ⊎ (stage_at course row ≡ Apart)
        → HasEnded (path_of network (progress_at course.records row))
        (start_of network course (progress_at course.records row)) (progress_at course.records row)
    by (inl over) =
        inl (subst (IsFrame network course (progress_at course.records row)) over (holds.frames row within)).stands
    by (inr apart) =
        inr (subst (IsFrame network course (progress_at course.records row)) apart (holds.frames row within)).stands

-- the branch with a number, and its ports
branch-at : (s : Sender) (k : ℕ) → k < length s.branches
    → get_or (branches_of s.ports s.branches) k (no_branch, [])
    ≡ (get_or s.branches k no_branch, leg_at (legs_of s.ports s.branches) (suc k))
branch-at s k within =
    let legs : List (List ℕ) = legs_of s.ports s.branches in
    let rest : List (List ℕ) = drop 1 legs in
    get_or-zip s.branches rest k (no_branch, []) within
    (omega (arith, length-drop 1 legs, legs-length 0 s.ports s.branches))
    ∙ ap (λ (path : List ℕ). (get_or s.branches k no_branch, path))
    (get_or_after_one legs k [] ∙ ap (leg_at legs) (omega arith))

-- there are as many as branches
branches-many : (s : Sender) → length (branches_of s.ports s.branches) ≡ length s.branches
branches-many s =
    let legs : List (List ℕ) = legs_of s.ports s.branches in
    omega (
      arith,
      length-zip s.branches (drop 1 legs),
      length-drop 1 legs,
      legs-length 0 s.ports s.branches,
    )

-- what is told of each copy of a frame is a copy
copy-told : {T : Type 0} {key : T → ℕ → ℕ → ℕ} {wait : ℕ → ℕ → ℕ} {network : DeclaredNetwork}
    {releases : List Release} {course : Course T} → Holds key wait network releases course [] → AreEnded course
    → (frame k : ℕ) → frame < length course.firsts
    → k < copies_count network (progress_at course.records frame).release
    → IsCopy (record_at (legs_in (travel_at (finished (ledger_in course)) frame))
    (get_or (sender_of network (progress_at course.records frame)).branches k no_branch))
    (leg_at (legs_at network (progress_at course.records frame).release.sender) (suc k))
    (get_or (travel_at (finished (ledger_in course)) frame).copies k no_leg)
copy-told {T} {key} {wait} {network} {releases} {course} holds ended frame k within below =
    let j : Travel = travel_at (finished (ledger_in course)) frame in
    let p : Progress = progress_at course.records frame in
    let s : Sender = sender_of network p in
    let b : Branch = get_or s.branches k no_branch in
    let told : IsTold network course frame j = journey-told holds.shape frame within in
    let row : IsRowFor course frame (suc k) = row-for holds.shape frame (suc k) within (omega arith) in
    let q : Progress = progress_at course.records (row_of course.firsts frame (suc k)) in
    let own : get_or j.copies k no_leg ≡ (told_of q).1 = told.each (suc k) (omega arith) in
    let trunk : IsRowFor course frame 0 = trunk-is holds.shape frame within in
    let known = (holds.frames frame trunk.within).sender in
    let keeps : IsSender network.topology s = sender_keeps network p.release.sender holds.rules known in
    let begins = begins_at (legs_of s.ports s.branches) 1 s.branches k keeps.branches.begin below in
    let start : start_of network course q ≡ record_at (legs_in j) b =
    ap (λ (leg : ℕ). start_by network course.firsts course.records leg q) row.of_leg
    ∙ ap (λ (r : Release). slice_get (progress_at course.records (row_of course.firsts q.frame
    (get_or (sender_at network r.sender).branches k no_branch).leg)).hops
    (get_or (sender_at network r.sender).branches k no_branch).hop) row.release
    ∙ ap (λ (f : ℕ). slice_get (progress_at course.records (row_of course.firsts f b.leg)).hops b.hop) row.of_frame
    ∙ sym (ap (λ (l : Leg). slice_get l.hops b.hop) (told.each b.leg (omega (arith, begins.earlier, below)))) in
    let path : path_of network q ≡ leg_at (legs_at network p.release.sender) (suc k) =
    ap (λ (r : Release). leg_at (legs_at network r.sender) q.leg) row.release
    ∙ ap (leg_at (legs_at network p.release.sender)) row.of_leg in
    subst (λ (l : Leg). IsCopy (record_at (legs_in j) b) (leg_at (legs_at network p.release.sender) (suc k)) l)
    (sym own)
    (copy-ended (leg_at (legs_at network p.release.sender) (suc k)) (record_at (legs_in j) b) k q row.of_leg
    (subst (λ (o : Option HopRecord). HasEnded (leg_at (legs_at network p.release.sender) (suc k)) o q) start
    (subst (λ (ports : List ℕ). HasEnded ports (start_of network course q) q) path
    (row-ended holds ended (row_of course.firsts frame (suc k)) row.within))))

-- so all are
copies-told : {T : Type 0} {key : T → ℕ → ℕ → ℕ} {wait : ℕ → ℕ → ℕ} {network : DeclaredNetwork}
    {releases : List Release} {course : Course T} → Holds key wait network releases course [] → AreEnded course
    → (frame : ℕ) → frame < length course.firsts
    → AreCopies (sender_of network (progress_at course.records frame)) (travel_at (finished (ledger_in course)) frame)
copies-told {T} {key} {wait} {network} {releases} {course} holds ended frame within =
    let j : Travel = travel_at (finished (ledger_in course)) frame in
    let s : Sender = sender_of network (progress_at course.records frame) in
    let told : IsTold network course frame j = journey-told holds.shape frame within in
    let R : Branch × List ℕ → Leg → Type 0 =
    λ (branch : Branch × List ℕ) (leg : Leg). IsCopy (record_at (legs_in j) branch.0) branch.1 leg in
    let many = branches-many s in
    all-zipped R (branches_of s.ports s.branches) j.copies (no_branch, []) no_leg (told.many ∙ sym many)
    (λ k h. subst (λ (b : Branch × List ℕ). R b (get_or j.copies k no_leg))
    (sym (branch-at s k (omega (arith, h, many))))
    (copy-told holds ended frame k within (omega (arith, h, many))))

-- what is told of a frame is a journey
journey-finished : {T : Type 0} {key : T → ℕ → ℕ → ℕ} {wait : ℕ → ℕ → ℕ} {network : DeclaredNetwork}
    {releases : List Release} {course : Course T} → Holds key wait network releases course [] → AreEnded course
    → (frame : ℕ) → frame < length course.firsts
    → IsJourney network (travel_at (finished (ledger_in course)) frame)
journey-finished {T} {key} {wait} {network} {releases} {course} holds ended frame within =
    let j : Travel = travel_at (finished (ledger_in course)) frame in
    let p : Progress = progress_at course.records frame in
    let told : IsTold network course frame j = journey-told holds.shape frame within in
    let trunk : IsRowFor course frame 0 = trunk-is holds.shape frame within in
    let is : IsFrame network course p (stage_at course frame) = holds.frames frame trunk.within in
    let path : List ℕ = leg_at (legs_at network p.release.sender) 0 in
    let first : IsTrunk path p = trunk-ended path (start_of network course p) p trunk.of_leg
    (subst (λ (leg : ℕ). HasEnded (leg_at (legs_at network p.release.sender) leg) (start_of network course p) p)
    trunk.of_leg (row-ended holds ended frame trunk.within)) in
    let whole : IsJourney network
    (record j { release = p.release; hops = p.hops; ending = p.ending }) = record {
      sender = is.sender;
      octets = is.octets;
      way = first.way;
      released = first.released;
      copies = subst (λ (l : Leg). AreCopies (sender_of network p) (record j { hops = l.hops; ending = l.ending }))
          told.trunk (copies-told holds ended frame within);
    } in
    subst (λ (r : Release). IsJourney network (record j { release = r })) (sym told.release)
    (subst (λ (l : Leg). IsJourney network (record j { release = p.release; hops = l.hops; ending = l.ending }))
    (sym told.trunk) whole)

-- so it is of each frame
pub journeys-finished : {T : Type 0} {key : T → ℕ → ℕ → ℕ} {wait : ℕ → ℕ → ℕ} {network : DeclaredNetwork}
    {releases : List Release} {course : Course T} → Holds key wait network releases course [] → AreEnded course
    → All (IsJourney network) (finished (ledger_in course))
journeys-finished {T} {key} {wait} {network} {releases} {course} holds ended =
    let told : length (told_in course) ≡ length course.records = length-map course.records told_of in
    let long : length (finished (ledger_in course)) ≡ length course.firsts =
    length-gathered (told_in course) course.firsts (omega (arith, told, (firsts-are holds.shape).trunks)) in
    All-from_get_or (IsJourney network) (finished (ledger_in course)) no_travel
    (λ frame within. journey-finished holds ended frame (omega (arith, within, long)))

-- The rows of a run: which leg of which frame each stands for, which row each leg has, and which rows a step moves.
use Rattle.std.proofs.Common.{◌≡◌, ◌≢◌, ℕ, zero, suc, ◌+◌, ◌-◌, ◌<◌, ◌≤◌, true, List, [], ◌∷◌, length, get_or, set, All}
use Rattle.std.proofs.Common.{map, filter, ◌⊎◌, inl, inr, refl, sym, ap, ◌∙◌, subst, arith}
use Rattle.std.specs.Prelude.{◌==◌, ◌&&◌, AllPairs, Contains}
use Rattle.std.specs.List.{range_with_len}
use Rattle.std.proofs.lemmas.Bool.{and_from, cases_eq, eq-eqb, eqb-true}
use Rattle.std.proofs.lemmas.List.{get_or-map, get_or-set_other, get_or-set_same, length-map, length-set}
use Rattle.std.proofs.lemmas.List.Elements.{All-cons, All-filter, All-head, All-map, All-nil, All-tail, Contains-get_or}
use Rattle.std.proofs.lemmas.List.Elements.{Contains-append_right, filter_passes}
use Rattle.std.proofs.lemmas.List.FromFn.{length-range_with_len, get_or-range_with_len}
use Rattle.std.proofs.lemmas.List.Kept.{AllPairs-cons, AllPairs-filter}
use Rattle.ats_streams.specs.Branches.{BeginsEarlier, leg_at, legs_of, no_branch}
use Rattle.ats_streams.specs.declared.branch.Branch.{Branch}
use Rattle.ats_streams.proofs.BranchLemmas.{begins_at as earlier_at}
use Rattle.ats_network.specs.Network.{DeclaredNetwork, IsNetwork, senders_of}
use Rattle.ats_network.specs.Sender.{Sender}
use Rattle.ats_network.proofs.SenderLemmas.{sender_keeps}
use Rattle.ats_trace.specs.Journey.{legs_at}
use Rattle.ats_trace.specs.Stored.{AreFirsts, row_of}
use Rattle.ats_trace.specs.declared.journey.Release.{Release}
use Rattle.ats_run_records.specs.Progress.{Progress, copies_count, leg_opened, no_progress, opened, progress_at}
use Rattle.ats_engine_steps.specs.Course.{Course, path_of, place_of, place_at, sender_of}
use Rattle.ats_engine_steps.specs.Invariant.{IsShaped, opened_again}
use Rattle.ats_engine_steps.specs.Steps.{IsLegAt, begins_at, begins_in, rows_next, set_each}
use Rattle.ats_engine_proofs.proofs.LegPorts.{leg-one}
use Rattle.ats_engine_proofs.proofs.ListFacts.{and-left, and-right, contains-filter, contains-map, pairs-map}
use Rattle.ats_engine_proofs.proofs.OpenedRows.{IsOpenedAs, IsOpenedRow, opened-as, opened-firsts, opened-row}

-- a row is as it was opened, but for what has happened along it
pub again : {T : Type 0} {network : DeclaredNetwork} {releases : List Release} {course : Course T}
    → IsShaped network releases course → (row : ℕ) → row < length course.records
    → opened_again (progress_at course.records row) ≡ get_or (opened network releases).legs row no_progress
again {T} {network} {releases} {course} shape row within =
    sym (get_or-map opened_again course.records row no_progress no_progress within)
    ∙ ap (λ (ps : List Progress). get_or ps row no_progress) shape.legs

-- there are as many rows
pub rows-all : {T : Type 0} {network : DeclaredNetwork} {releases : List Release} {course : Course T}
    → IsShaped network releases course → length course.records ≡ length (opened network releases).legs
rows-all {T} {network} {releases} {course} shape =
    sym (length-map course.records opened_again) ∙ ap (λ (ps : List Progress). length ps) shape.legs

-- a row stands for a leg of a frame of the run, and is the one that they name
pub record IsRow {T : Type 0} (network : DeclaredNetwork) (releases : List Release) (course : Course T) (row : ℕ)
    : Type 0 where
  pub frame : (progress_at course.records row).frame < length releases
  pub released : (d : Release)
      → (progress_at course.records row).release ≡ get_or releases (progress_at course.records row).frame d
  pub leg : (progress_at course.records row).leg ≤ length (sender_of network (progress_at course.records row)).branches
  pub room : (progress_at course.records row).room ≡ length (path_of network (progress_at course.records row))
  pub named : row_of course.firsts (progress_at course.records row).frame (progress_at course.records row).leg ≡ row

pub row-is : {T : Type 0} {network : DeclaredNetwork} {releases : List Release} {course : Course T}
    → IsShaped network releases course → (row : ℕ) → row < length course.records
    → IsRow network releases course row
row-is {T} {network} {releases} {course} shape row within =
    let p : Progress = progress_at course.records row in
    let at : IsOpenedRow network releases row =
    opened-row network releases row (omega (arith, within, rows-all shape)) in
    let opens : IsOpenedAs network releases (row_of (opened network releases).firsts at.frame at.leg) at.frame at.leg =
    opened-as network releases at.frame at.leg at.within at.there in
    let is : (r : Release) → opened_again p ≡ leg_opened network at.frame (get_or releases at.frame r) at.leg =
    λ r. again shape row within ∙ ap (λ (n : ℕ). get_or (opened network releases).legs n no_progress) (sym at.named)
    ∙ opens.is no_progress r in
    let frame : p.frame ≡ at.frame = ap (λ (q : Progress). q.frame) (is p.release) in
    let leg : p.leg ≡ at.leg = ap (λ (q : Progress). q.leg) (is p.release) in
    let release : (r : Release) → p.release ≡ get_or releases at.frame r =
    λ r. ap (λ (q : Progress). q.release) (is r) in
    record {
      frame = subst (λ (n : ℕ). n < length releases) (sym frame) at.within;
      released = λ r. release r ∙ ap (λ (n : ℕ). get_or releases n r) (sym frame);
      leg = subst (λ (n : ℕ). n ≤ copies_count network p.release) (sym leg)
          (subst (λ (r : Release). at.leg ≤ copies_count network r) (sym (release p.release)) (at.there p.release));
      room = ap (λ (q : Progress). q.room) (is p.release)
          ∙ ap (λ (r : Release). length (leg_at (legs_at network r.sender) at.leg)) (sym (release p.release))
          ∙ ap (λ (n : ℕ). length (leg_at (legs_at network p.release.sender) n)) (sym leg);
      named = ap (λ (ns : List ℕ). row_of ns p.frame p.leg) shape.firsts
          ∙ ap (λ (n : ℕ). row_of (opened network releases).firsts n p.leg) frame
          ∙ ap (row_of (opened network releases).firsts at.frame) leg
          ∙ at.named;
    }

-- there is a first copy's place for each frame, and a row for each trunk
pub frames-all : {T : Type 0} {network : DeclaredNetwork} {releases : List Release} {course : Course T}
    → IsShaped network releases course → length course.firsts ≡ length releases
frames-all {T} {network} {releases} {course} shape =
    ap (λ (ns : List ℕ). length ns) shape.firsts ∙ (opened-firsts network releases).all

pub firsts-are : {T : Type 0} {network : DeclaredNetwork} {releases : List Release} {course : Course T}
    → IsShaped network releases course → AreFirsts (length course.firsts) (length course.records) course.firsts
firsts-are {T} {network} {releases} {course} shape =
    subst (λ (ns : List ℕ). AreFirsts (length ns) (length course.records) ns) (sym shape.firsts)
    (subst (λ (n : ℕ). AreFirsts n (length course.records) (opened network releases).firsts)
    (sym (opened-firsts network releases).all)
    (subst (λ (n : ℕ). AreFirsts (length releases) n (opened network releases).firsts) (sym (rows-all shape))
    (opened-firsts network releases)))

-- the leg of a frame, as it was opened
named-as : {T : Type 0} {network : DeclaredNetwork} {releases : List Release} {course : Course T}
    → IsShaped network releases course → (frame leg : ℕ) → frame < length releases
    → ((r : Release) → leg ≤ copies_count network (get_or releases frame r))
    → (row_of course.firsts frame leg < length course.records)
    × ((r : Release) → opened_again (progress_at course.records (row_of course.firsts frame leg))
    ≡ leg_opened network frame (get_or releases frame r) leg)
named-as {T} {network} {releases} {course} shape frame leg known there =
    let row : ℕ = row_of course.firsts frame leg in
    let same : row_of (opened network releases).firsts frame leg ≡ row =
    ap (λ (ns : List ℕ). row_of ns frame leg) (sym shape.firsts) in
    let at : IsOpenedAs network releases row frame leg =
    subst (λ (n : ℕ). IsOpenedAs network releases n frame leg) same
    (opened-as network releases frame leg known there) in
    let within : row < length course.records = omega (arith, at.within, rows-all shape) in
    (within, λ r. again shape row within ∙ at.is no_progress r)

-- a leg of a frame of the run has its row
pub record IsRowFor {T : Type 0} (course : Course T) (frame leg : ℕ) : Type 0 where
  pub within : row_of course.firsts frame leg < length course.records
  pub of_frame : (progress_at course.records (row_of course.firsts frame leg)).frame ≡ frame
  pub of_leg : (progress_at course.records (row_of course.firsts frame leg)).leg ≡ leg
  pub release : (progress_at course.records (row_of course.firsts frame leg)).release
      ≡ (progress_at course.records frame).release

pub row-for : {T : Type 0} {network : DeclaredNetwork} {releases : List Release} {course : Course T}
    → IsShaped network releases course → (frame leg : ℕ) → frame < length course.firsts
    → leg ≤ length (sender_of network (progress_at course.records frame)).branches → IsRowFor course frame leg
row-for {T} {network} {releases} {course} shape frame leg within there =
    let known : frame < length releases = omega (arith, within, frames-all shape) in
    let trunk = named-as shape frame 0 known (λ r. omega arith) in
    let own : Progress = progress_at course.records frame in
    let release : (r : Release) → own.release ≡ get_or releases frame r =
    λ r. ap (λ (q : Progress). q.release) (trunk.1 r) in
    let at = named-as shape frame leg known
    (λ r. subst (λ (x : Release). leg ≤ copies_count network x) (release r) there) in
    record {
      within = at.0;
      of_frame = ap (λ (q : Progress). q.frame) (at.1 own.release);
      of_leg = ap (λ (q : Progress). q.leg) (at.1 own.release);
      release = ap (λ (q : Progress). q.release) (at.1 own.release) ∙ sym (release own.release);
    }

-- the row of a frame's number is its trunk
pub trunk-is : {T : Type 0} {network : DeclaredNetwork} {releases : List Release} {course : Course T}
    → IsShaped network releases course → (frame : ℕ) → frame < length course.firsts → IsRowFor course frame 0
trunk-is {T} {network} {releases} {course} shape frame within = row-for shape frame 0 within (omega arith)

-- all rows of a frame have its release
pub release-one : {T : Type 0} {network : DeclaredNetwork} {releases : List Release} {course : Course T}
    → IsShaped network releases course → (row : ℕ) → row < length course.records
    → (progress_at course.records (progress_at course.records row).frame).release
    ≡ (progress_at course.records row).release
release-one {T} {network} {releases} {course} shape row within =
    let p : Progress = progress_at course.records row in
    let is = row-is shape row within in
    let known : p.frame < length course.firsts = omega (arith, is.frame, frames-all shape) in
    let trunk = trunk-is shape p.frame known in
    (row-is shape p.frame trunk.within).released p.release
    ∙ ap (λ (n : ℕ). get_or releases n p.release) trunk.of_frame
    ∙ sym (is.released p.release)

-- rows of one leg of one frame are one
pub row-one : {T : Type 0} {network : DeclaredNetwork} {releases : List Release} {course : Course T}
    → IsShaped network releases course → (row other : ℕ) → row < length course.records → other < length course.records
    → (progress_at course.records row).frame ≡ (progress_at course.records other).frame
    → (progress_at course.records row).leg ≡ (progress_at course.records other).leg → row ≡ other
row-one {T} {network} {releases} {course} shape row other within there frame leg =
    let p : Progress = progress_at course.records row in
    let q : Progress = progress_at course.records other in
    sym (row-is shape row within).named
    ∙ ap (λ (n : ℕ). row_of course.firsts n p.leg) frame
    ∙ ap (row_of course.firsts q.frame) leg
    ∙ (row-is shape other there).named

-- a leg begins at a hop of another one of its frame
pub record BeginsThere {T : Type 0} (network : DeclaredNetwork) (course : Course T) (row hop begun : ℕ) : Type 0 where
  pub within : begun < length course.records
  pub frame : (progress_at course.records begun).frame ≡ (progress_at course.records row).frame
  pub release : (progress_at course.records begun).release ≡ (progress_at course.records row).release
  pub copy : ℕ
  pub is : (progress_at course.records begun).leg ≡ suc copy
  pub there : copy < length (sender_of network (progress_at course.records row)).branches
  pub leg : (get_or (sender_of network (progress_at course.records row)).branches copy no_branch).leg
      ≡ (progress_at course.records row).leg
  pub at_hop : (get_or (sender_of network (progress_at course.records row)).branches copy no_branch).hop ≡ hop

-- it is not that one itself, whose leg is an earlier one
pub begins-later : {T : Type 0} {network : DeclaredNetwork} {releases : List Release} {course : Course T}
    → IsNetwork network → IsShaped network releases course → (row hop begun : ℕ)
    → (progress_at course.records row).release.sender < length (senders_of network)
    → BeginsThere network course row hop begun
    → (progress_at course.records row).leg < (progress_at course.records begun).leg
begins-later {T} {network} {releases} {course} rules shape row hop begun known begins =
    let p : Progress = progress_at course.records row in
    let s : Sender = sender_of network p in
    let b : BeginsEarlier (legs_of s.ports s.branches) (1 + begins.copy)
    (get_or s.branches begins.copy no_branch) =
    earlier_at (legs_of s.ports s.branches) 1 s.branches begins.copy
    (sender_keeps network p.release.sender rules known).branches.begin begins.there in
    omega (arith, b.earlier, begins.leg, begins.is)

-- the copy with a number of a frame of which some leg has this row
named-copy : {T : Type 0} {network : DeclaredNetwork} {releases : List Release} {course : Course T}
    → IsShaped network releases course → (row copy : ℕ) → row < length course.records
    → copy < length (sender_of network (progress_at course.records row)).branches
    → IsRowFor course (progress_at course.records row).frame (suc copy)
named-copy {T} {network} {releases} {course} shape row copy within there =
    let p : Progress = progress_at course.records row in
    let is = row-is shape row within in
    row-for shape p.frame (suc copy) (omega (arith, is.frame, frames-all shape))
    (subst (λ (r : Release). suc copy ≤ copies_count network r) (sym (release-one shape row within))
    (omega (arith, there)))

-- it begins at a hop of the leg with this row where the test passes
begun-by : {T : Type 0} {network : DeclaredNetwork} {releases : List Release} {course : Course T}
    → IsShaped network releases course → (row hop leg : ℕ) → row < length course.records → 1 ≤ leg
    → leg ≤ length (sender_of network (progress_at course.records row)).branches
    → begins_in network (progress_at course.records row) hop leg ≡ true
    → BeginsThere network course row hop (row_of course.firsts (progress_at course.records row).frame leg)
begun-by {T} {network} {releases} {course} shape row hop zero within some there passes = absurd (omega arith)
begun-by {T} {network} {releases} {course} shape row hop (suc copy) within some there passes =
    let p : Progress = progress_at course.records row in
    let b : Branch = get_or (sender_of network p).branches copy no_branch in
    let none : suc copy - 1 ≡ copy = omega arith in
    let test : (b.leg == p.leg && b.hop == hop) ≡ true =
    ap (λ (n : ℕ). begins_at p.leg hop (get_or (sender_of network p).branches n no_branch)) (sym none) ∙ passes in
    let at = named-copy shape row copy within (omega (arith, there)) in
    record {
      within = at.within;
      frame = at.of_frame;
      release = at.release ∙ release-one shape row within;
      copy = copy;
      is = at.of_leg;
      there = omega (arith, there);
      leg = eqb-true b.leg p.leg (and-left (b.leg == p.leg) (b.hop == hop) test);
      at_hop = eqb-true b.hop hop (and-right (b.leg == p.leg) (b.hop == hop) test);
    }

-- the numbers of the copies that begin at a hop
abbrev begun_legs : DeclaredNetwork → Progress → ℕ → List ℕ
begun_legs network p hop =
    filter (begins_in network p hop) (range_with_len 1 (length (sender_of network p).branches))

-- each is one of the copies
legs-within : (network : DeclaredNetwork) (p : Progress) (hop : ℕ)
    → All (λ (leg : ℕ). (1 ≤ leg) × (leg ≤ length (sender_of network p).branches)) (begun_legs network p hop)
legs-within network p hop =
    let count : ℕ = length (sender_of network p).branches in
    All-filter (begins_in network p hop) (λ (leg : ℕ). (1 ≤ leg) × (leg ≤ count)) (range_with_len 1 count)
    (λ k d h. (
    let below : k < count = omega (arith, length-range_with_len 1 count, h) in
    let is = get_or-range_with_len 1 count k d below in
    (omega (arith, is), omega (arith, is, below))))

-- the rows to which a frame comes next are that of the leg, and those of the legs that begin there
pub next-are : {T : Type 0} {network : DeclaredNetwork} {releases : List Release} {course : Course T}
    → IsShaped network releases course → (row : ℕ) → row < length course.records
    → All (λ (n : ℕ). (n ≡ row) ⊎ BeginsThere network course row (length (progress_at course.records row).hops) n)
    (rows_next network course row)
next-are {T} {network} {releases} {course} shape row within =
    let p : Progress = progress_at course.records row in
    let hop : ℕ = length p.hops in
    let legs : List ℕ = begun_legs network p hop in
    let Is : ℕ → Type 0 = λ (n : ℕ). (n ≡ row) ⊎ BeginsThere network course row hop n in
    All-cons Is row (map (row_of course.firsts p.frame) legs) (inl refl)
    (All-map Is (row_of course.firsts p.frame) legs (λ k d h. (
    let there = legs-within network p hop k d h in
    inr (begun-by shape row hop (get_or legs k d) within there.0 there.1
    (filter_passes (begins_in network p hop) (range_with_len 1 (length (sender_of network p).branches)) k d h)))))

pub next-own : {T : Type 0} (network : DeclaredNetwork) (course : Course T) (row : ℕ)
    → Contains (rows_next network course row) row
next-own {T} network course row = (0, omega arith, refl)

pub next-begun : {T : Type 0} {network : DeclaredNetwork} {releases : List Release} {course : Course T}
    → IsShaped network releases course → (row begun : ℕ) → row < length course.records
    → BeginsThere network course row (length (progress_at course.records row).hops) begun
    → Contains (rows_next network course row) begun
next-begun {T} {network} {releases} {course} shape row begun within begins =
    let p : Progress = progress_at course.records row in
    let hop : ℕ = length p.hops in
    let count : ℕ = length (sender_of network p).branches in
    let b : Branch = get_or (sender_of network p).branches begins.copy no_branch in
    let leg : ℕ = suc begins.copy in
    let range : List ℕ = range_with_len 1 count in
    let here : get_or range begins.copy leg ≡ leg =
    get_or-range_with_len 1 count begins.copy leg begins.there ∙ (omega arith) in
    let has : Contains range leg =
    (begins.copy, omega (arith, length-range_with_len 1 count, begins.there), here) in
    let none : leg - 1 ≡ begins.copy = omega arith in
    let passes : begins_in network p hop leg ≡ true =
    ap (λ (n : ℕ). begins_at p.leg hop (get_or (sender_of network p).branches n no_branch)) none
    ∙ and_from (b.leg == p.leg) (b.hop == hop) (eq-eqb b.leg p.leg begins.leg) (eq-eqb b.hop hop begins.at_hop) in
    let kept : Contains (begun_legs network p hop) leg =
    contains-filter (begins_in network p hop) range leg has passes in
    let named : Contains (map (row_of course.firsts p.frame) (begun_legs network p hop))
    (row_of course.firsts p.frame leg) =
    contains-map (row_of course.firsts p.frame) (begun_legs network p hop) leg kept in
    let is : row_of course.firsts p.frame leg ≡ begun =
    ap (λ (n : ℕ). row_of course.firsts n leg) (sym begins.frame)
    ∙ ap (row_of course.firsts (progress_at course.records begun).frame) (sym begins.is)
    ∙ (row-is shape begun begins.within).named in
    subst (Contains (rows_next network course row)) is
    (Contains-append_right (row ∷ []) (map (row_of course.firsts p.frame) (begun_legs network p hop))
    (row_of course.firsts p.frame leg) named)

-- rows of a frame rise with its legs
row-rises : {T : Type 0} {network : DeclaredNetwork} {releases : List Release} {course : Course T}
    → IsShaped network releases course → (frame leg later : ℕ) → frame < length course.firsts → leg < later
    → row_of course.firsts frame leg < row_of course.firsts frame later
row-rises shape frame leg zero within before = absurd (omega arith)
row-rises {T} {network} {releases} {course} shape frame zero (suc later) within before =
    omega (arith, (firsts-are shape).behind frame 0 within, within)
row-rises shape frame (suc leg) (suc later) within before = omega (arith, before)

-- they are different
pub next-apart : {T : Type 0} {network : DeclaredNetwork} {releases : List Release} {course : Course T}
    → IsNetwork network → IsShaped network releases course → (row : ℕ) → row < length course.records
    → (progress_at course.records row).release.sender < length (senders_of network)
    → AllPairs (λ (n m : ℕ). n ≢ m) (rows_next network course row)
next-apart {T} {network} {releases} {course} rules shape row within known =
    let p : Progress = progress_at course.records row in
    let hop : ℕ = length p.hops in
    let count : ℕ = length (sender_of network p).branches in
    let legs : List ℕ = begun_legs network p hop in
    let name : ℕ → ℕ = row_of course.firsts p.frame in
    let Differ : ℕ → ℕ → Type 0 = λ (n m : ℕ). n ≢ m in
    let framed : p.frame < length course.firsts = omega (arith, (row-is shape row within).frame, frames-all shape) in
    let range : AllPairs (λ (a b : ℕ). a < b) (range_with_len 1 count) =
    λ i j d before below. (
    let last : j < count = omega (arith, length-range_with_len 1 count, below) in
    omega (
      arith,
      get_or-range_with_len 1 count i d (omega (arith, before, last)),
      get_or-range_with_len 1 count j d last,
      before,
    )) in
    let rise : AllPairs (λ (a b : ℕ). a < b) legs =
    AllPairs-filter (λ (a b : ℕ). a < b) (begins_in network p hop) (range_with_len 1 count) range in
    let apart : AllPairs Differ (map name legs) =
    pairs-map Differ name legs (λ i j d before below same.
    omega (arith, row-rises shape p.frame (get_or legs i d) (get_or legs j d) framed (rise i j d before below), same))
    in
    AllPairs-cons Differ row (map name legs)
    (All-map (λ (n : ℕ). row ≢ n) name legs (λ k d h same. (
    let there = legs-within network p hop k d h in
    let begins = begun-by shape row hop (get_or legs k d) within there.0 there.1
    (filter_passes (begins_in network p hop) (range_with_len 1 count) k d h) in
    let later = begins-later rules shape row hop (name (get_or legs k d)) known begins in
    omega (arith, later, ap (λ (n : ℕ). (progress_at course.records n).leg) same)))) apart

-- A list of which some elements are new ones.

pub length-set_each : {X : Type 0} (rows : List ℕ) (new : ℕ → X) (xs : List X)
    → length (set_each rows new xs) ≡ length xs
length-set_each [] new xs = refl
length-set_each (n ∷ rows) new xs = length-set_each rows new (set xs n (new n)) ∙ length-set xs n (new n)

-- what a list has, and what is not behind its first element, is this one
head-is : (m : ℕ) (rows : List ℕ) (n : ℕ) → Contains (m ∷ rows) n → All (λ (k : ℕ). n ≢ k) rows → n ≡ m
head-is m rows n has off = by has.0 has.1 has.2
  where
    by : (k : ℕ) → k < length (m ∷ rows) → get_or (m ∷ rows) k n ≡ n → n ≡ m
    by zero within same = sym same
    by (suc k) within same = absurd (off k n (omega arith) (sym same))

-- a number is one of a list, or another than each
pub in-or-off : (rows : List ℕ) (n : ℕ) → Contains rows n ⊎ All (λ (m : ℕ). n ≢ m) rows
in-or-off [] n = inr (All-nil (λ (m : ℕ). n ≢ m))
in-or-off (m ∷ rows) n = elim (cases_eq n m) [
  | inl same ↦ inl (0, omega arith, sym same)
  | inr other ↦ (elim (in-or-off rows n) [
    | inl has ↦ inl (suc has.0, omega (arith, has.1), has.2)
    | inr off ↦ inr (All-cons (λ (k : ℕ). n ≢ k) m rows other off)
  ])
]

pub set_each-off : {X : Type 0} (rows : List ℕ) (new : ℕ → X) (xs : List X) (n : ℕ) (d : X)
    → All (λ (m : ℕ). n ≢ m) rows → get_or (set_each rows new xs) n d ≡ get_or xs n d
set_each-off [] new xs n d off = refl
set_each-off {X} (m ∷ rows) new xs n d off =
    set_each-off rows new (set xs m (new m)) n d (All-tail (λ (k : ℕ). n ≢ k) m rows off)
    ∙ get_or-set_other xs m n (new m) d (All-head (λ (k : ℕ). n ≢ k) m rows off)

pub set_each-at : {X : Type 0} (rows : List ℕ) (new : ℕ → X) (xs : List X) (n : ℕ) (d : X) → Contains rows n
    → n < length xs → get_or (set_each rows new xs) n d ≡ new n
set_each-at [] new xs n d has within = absurd (omega (arith, has.1))
set_each-at {X} (m ∷ rows) new xs n d has within =
    let next : List X = set xs m (new m) in
    elim (in-or-off rows n) as (λ _. get_or (set_each rows new next) n d ≡ new n) [
      | inl later ↦ set_each-at rows new next n d later (omega (arith, length-set xs m (new m), within))
      | inr off ↦
          (let same : n ≡ m = head-is m rows n has off in
          set_each-off rows new next n d off
          ∙ ap (λ (k : ℕ). get_or next k d) same
          ∙ get_or-set_same xs m (new m) d (subst (λ (k : ℕ). k < length xs) same within)
          ∙ ap new (sym same))
    ]

-- A port and a frame name one leg.

-- rows of one frame whose legs have one port are one
pub port-one : {T : Type 0} {network : DeclaredNetwork} {releases : List Release} {course : Course T}
    → IsNetwork network → IsShaped network releases course → (row other port : ℕ) → row < length course.records
    → other < length course.records
    → (progress_at course.records row).release.sender < length (senders_of network)
    → (progress_at course.records row).frame ≡ (progress_at course.records other).frame
    → Contains (path_of network (progress_at course.records row)) port
    → Contains (path_of network (progress_at course.records other)) port → row ≡ other
port-one {T} {network} {releases} {course} rules shape row other port within there known frame has has_too =
    let p : Progress = progress_at course.records row in
    let q : Progress = progress_at course.records other in
    let release : p.release ≡ q.release =
    sym (release-one shape row within)
    ∙ ap (λ (n : ℕ). (progress_at course.records n).release) frame
    ∙ release-one shape other there in
    let same : Contains (leg_at (legs_at network p.release.sender) q.leg) port =
    subst (λ (r : Release). Contains (leg_at (legs_at network r.sender) q.leg) port) (sym release) has_too in
    row-one shape row other within there frame
    (leg-one network p.release.sender p.leg q.leg port rules known has same)

-- the port of a last hop record is one of the leg
pub place-has : (network : DeclaredNetwork) (progress : Progress) → 0 < length progress.hops
    → length progress.hops ≤ length (path_of network progress)
    → Contains (path_of network progress) (place_of network progress)
place-has network progress some most =
    Contains-get_or (path_of network progress) (length progress.hops - 1) 0 (omega arith)

-- so it names, with the frame, the row
pub place-names : {T : Type 0} {network : DeclaredNetwork} {releases : List Release} {course : Course T}
    → IsShaped network releases course → (row : ℕ) → row < length course.records
    → 0 < length (progress_at course.records row).hops
    → length (progress_at course.records row).hops ≤ length (path_of network (progress_at course.records row))
    → IsLegAt network course (progress_at course.records row).frame (place_at network course row) row
place-names {T} {network} {releases} {course} shape row within some most =
    let p : Progress = progress_at course.records row in
    let is = row-is shape row within in
    let release : p.release ≡ (progress_at course.records p.frame).release = sym (release-one shape row within) in
    record {
      leg = p.leg;
      there = subst (λ (r : Release). p.leg ≤ copies_count network r) release is.leg;
      has = subst (λ (r : Release). Contains (leg_at (legs_at network r.sender) p.leg) (place_of network p)) release
          (place-has network p some most);
      is = sym is.named;
    }

-- they name no other
pub named-one : {T : Type 0} {network : DeclaredNetwork} {releases : List Release} {course : Course T}
    → IsNetwork network → IsShaped network releases course → (frame port row other : ℕ)
    → frame < length course.firsts → (progress_at course.records frame).release.sender < length (senders_of network)
    → IsLegAt network course frame port row → IsLegAt network course frame port other → row ≡ other
named-one {T} {network} {releases} {course} rules shape frame port row other within known named named_too =
    let sender : ℕ = (progress_at course.records frame).release.sender in
    named.is
    ∙ ap (row_of course.firsts frame)
    (leg-one network sender named.leg named_too.leg port rules known named.has named_too.has)
    ∙ sym named_too.is

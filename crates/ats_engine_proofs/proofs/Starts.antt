-- What a step does to the records at which legs begin.
use Rattle.std.proofs.Common.{◌≡◌, ◌≢◌, ℕ, zero, suc, ◌+◌, ◌<◌, ◌≤◌, List, [], ◌∷◌, ◌++◌, length, get_or, set, All}
use Rattle.std.proofs.Common.{◌⊎◌, Option, Some, slice_get, refl, sym, ap, ◌∙◌, subst, inl, inr, arith}
use Rattle.std.specs.Prelude.{Contains}
use Rattle.std.proofs.lemmas.List.Elements.{All-contains}
use Rattle.std.proofs.lemmas.Option.{slice_get_past}
use Rattle.ats_num.specs.declared.time.Ps.{Ps}
use Rattle.ats_streams.specs.Branches.{BeginsEarlier, legs_of, no_branch}
use Rattle.ats_streams.proofs.BranchLemmas.{behind_or_talker}
use Rattle.ats_streams.specs.declared.branch.Branch.{Branch}
use Rattle.ats_streams.proofs.BranchLemmas.{begins_at as earlier_at}
use Rattle.ats_network.specs.Network.{DeclaredNetwork, senders_of}
use Rattle.ats_network.specs.Sender.{Sender}
use Rattle.ats_network.specs.Senders.{sender_at}
use Rattle.ats_network.proofs.SenderLemmas.{sender_keeps}
use Rattle.ats_group.specs.declared.verdict.Verdict.{Verdict}
use Rattle.ats_events.specs.declared.moment.Moment.{Moment}
use Rattle.ats_trace.specs.Stored.{row_of}
use Rattle.ats_trace.specs.declared.journey.Ending.{Ending}
use Rattle.ats_trace.specs.HopRecord.{HopRecord}
use Rattle.ats_trace.specs.declared.journey.Release.{Release}
use Rattle.ats_run_records.specs.Progress.{Progress, copies_count, no_progress, progress_at, with_hop}
use Rattle.ats_engine_steps.specs.Course.{Course, sender_of, stage_at}
use Rattle.ats_engine_steps.specs.Frames.{start_by, start_of}
use Rattle.ats_engine_steps.specs.Steps.{Comes, came, rows_next, set_each, stage_by}
use Rattle.ats_engine_steps.specs.declared.event.Event.{Event}
use Rattle.ats_engine_steps.specs.declared.event.Event.TheVariants.{Arrival}
use Rattle.ats_engine_steps.specs.declared.stage.Stage.{Stage}
use Rattle.ats_engine_steps.specs.declared.stage.Stage.TheVariants.{Over}
use Rattle.ats_engine_proofs.specs.Next.{IsNext}
use Rattle.ats_engine_proofs.proofs.Begun.{begun-apart}
use Rattle.ats_engine_proofs.proofs.Rows.{BeginsThere, IsRowFor, frames-all, in-or-off}
use Rattle.ats_engine_proofs.proofs.Rows.{next-are, next-own, release-one, row-for, row-is}
use Rattle.ats_engine_proofs.proofs.Rows.{set_each-at, set_each-off}
use Rattle.ats_engine_proofs.proofs.Ways.{AreLike, like-same}

-- the records of a leg have at each hop one arrival and one verdict
abbrev pub AreLikeHops : List HopRecord → List HopRecord → Type 0
AreLikeHops hops others = (hop : ℕ) → AreLike (slice_get hops hop) (slice_get others hop)

pub likes-same : (hops : List HopRecord) → AreLikeHops hops hops
likes-same hops hop = like-same (slice_get hops hop)

-- also where a transmission was set in one of them
pub likes-set : (hops : List HopRecord) (k : ℕ) (d : HopRecord) (sent : Option (Ps × Ps))
    → AreLikeHops hops (set hops k (record (get_or hops k d) { sent = sent }))
likes-set [] k d sent hop = tt
likes-set (h ∷ hops) zero d sent zero = (refl, refl)
likes-set (h ∷ hops) zero d sent (suc hop) = like-same (slice_get hops hop)
likes-set (h ∷ hops) (suc k) d sent zero = (refl, refl)
likes-set (h ∷ hops) (suc k) d sent (suc hop) = likes-set hops k d sent hop

-- what was recorded along a leg does not tell where it begins
pub start-told : {T : Type 0} (network : DeclaredNetwork) (course : Course T) (p : Progress) (hops : List HopRecord)
    (ending : Ending)
    → start_of network course (record p { hops = hops; ending = ending }) ≡ start_of network course p
start-told network course p hops ending = by p.leg
  where
    q : Progress
    q = record p { hops = hops; ending = ending }

    by : (leg : ℕ) → start_by network course.firsts course.records leg q
        ≡ start_by network course.firsts course.records leg p
    by zero = refl
    by (suc copy) = refl

-- where the records of each leg are so, each leg begins by such records
pub start-likes : {T : Type 0} (network : DeclaredNetwork) (old new : Course T) → new.firsts ≡ old.firsts
    → ((row : ℕ) → AreLikeHops (progress_at old.records row).hops (progress_at new.records row).hops) → (p : Progress)
    → AreLike (start_of network old p) (start_of network new p)
start-likes network old new firsts likes p = by p.leg
  where
    by : (leg : ℕ) → AreLike (start_by network old.firsts old.records leg p)
        (start_by network new.firsts new.records leg p)
    by zero = tt
    by (suc copy) =
        let b : Branch = get_or (sender_of network p).branches copy no_branch in
        subst (λ (ns : List ℕ). AreLike (start_by network old.firsts old.records (suc copy) p)
        (slice_get (progress_at new.records (row_of ns p.frame b.leg)).hops b.hop)) (sym firsts)
        (likes (row_of old.firsts p.frame b.leg) b.hop)

-- One record more behind others.

pub get-pushed : (hops : List HopRecord) (hop : HopRecord) → slice_get (hops ++ hop ∷ []) (length hops) ≡ Some hop
get-pushed [] hop = refl
get-pushed (h ∷ hops) hop = get-pushed hops hop

pub get-before : (hops : List HopRecord) (hop : HopRecord) (k : ℕ) → k ≢ length hops
    → slice_get (hops ++ hop ∷ []) k ≡ slice_get hops k
get-before [] hop zero apart = absurd (apart refl)
get-before [] hop (suc k) apart = slice_get_past [] k (omega arith)
get-before (h ∷ hops) hop zero apart = refl
get-before (h ∷ hops) hop (suc k) apart = get-before hops hop k (λ same. apart (ap suc same))

-- what an arrival does to a row that it moves
pub record IsEntered {T : Type 0} (old new : Course T) (now : Moment) (verdict : Verdict) (row : ℕ) : Type 0 where
  pub progress : progress_at new.records row ≡ with_hop (progress_at old.records row) (came now.at verdict)
  pub stage : stage_at new row ≡ stage_by verdict

pub comes-enter : {T : Type 0} {network : DeclaredNetwork} {old new : Course T} {now : Moment} {row : ℕ}
    {due : Option Ps} → length old.stages ≡ length old.records → (step : Comes network old new now row due) → (n : ℕ)
    → Contains (rows_next network old row) n → n < length old.records → IsEntered old new now step.verdict n
comes-enter {T} {network} {old} {new} {now} {row} even step n has within =
    let own : ℕ → Progress = λ (k : ℕ). with_hop (progress_at old.records k) (came now.at step.verdict) in
    let staged : ℕ → Stage = λ (k : ℕ). stage_by step.verdict in
    record {
      progress = ap (λ (c : Course T). progress_at c.records n) step.becomes
          ∙ ap (λ (ns : List ℕ). progress_at (set_each ns own old.records) n) step.next
          ∙ set_each-at (rows_next network old row) own old.records n no_progress has within;
      stage = ap (λ (c : Course T). stage_at c n) step.becomes
          ∙ ap (λ (ns : List ℕ). get_or (set_each ns staged old.stages) n Over) step.next
          ∙ set_each-at (rows_next network old row) staged old.stages n Over has (omega arith);
    }

-- and to another one: nothing
pub record IsKept {T : Type 0} (old new : Course T) (row : ℕ) : Type 0 where
  pub progress : progress_at new.records row ≡ progress_at old.records row
  pub stage : stage_at new row ≡ stage_at old row

pub comes-keep : {T : Type 0} {network : DeclaredNetwork} {old new : Course T} {now : Moment} {row : ℕ}
    {due : Option Ps} → (step : Comes network old new now row due) → (n : ℕ)
    → All (λ (m : ℕ). n ≢ m) (rows_next network old row) → IsKept old new n
comes-keep {T} {network} {old} {new} {now} {row} step n off =
    let own : ℕ → Progress = λ (k : ℕ). with_hop (progress_at old.records k) (came now.at step.verdict) in
    let staged : ℕ → Stage = λ (k : ℕ). stage_by step.verdict in
    record {
      progress = ap (λ (c : Course T). progress_at c.records n) step.becomes
          ∙ ap (λ (ns : List ℕ). progress_at (set_each ns own old.records) n) step.next
          ∙ set_each-off (rows_next network old row) own old.records n no_progress off;
      stage = ap (λ (c : Course T). stage_at c n) step.becomes
          ∙ ap (λ (ns : List ℕ). get_or (set_each ns staged old.stages) n Over) step.next
          ∙ set_each-off (rows_next network old row) staged old.stages n Over off;
    }

-- the leg at which a branch begins, in its frame: an earlier one, at a hop other than the first, or the trunk at its
-- first hop
record BeginsBehind {T : Type 0} (network : DeclaredNetwork) (course : Course T) (row copy before hop : ℕ) : Type 0
  where
    at : IsRowFor course (progress_at course.records row).frame before
    release : (progress_at course.records (row_of course.firsts (progress_at course.records row).frame before)).release
        ≡ (progress_at course.records row).release
    earlier : before < suc copy
    later : (1 ≤ hop) ⊎ (((progress_at course.records
        (row_of course.firsts (progress_at course.records row).frame before)).leg ≡ 0) × (hop ≡ 0))

branch-begins : {T : Type 0} {key : T → ℕ → ℕ → ℕ} {wait : ℕ → ℕ → ℕ} {network : DeclaredNetwork}
    {releases : List Release} {course : Course T} {now : Moment} {event : Event} {entries : List (Moment × Event)}
    → IsNext key wait network releases course now event entries → (row copy : ℕ) → row < length course.records
    → (progress_at course.records row).leg ≡ suc copy
    → BeginsBehind network course row copy
    (get_or (sender_of network (progress_at course.records row)).branches copy no_branch).leg
    (get_or (sender_of network (progress_at course.records row)).branches copy no_branch).hop
branch-begins {T} {key} {wait} {network} {releases} {course} next row copy within is =
    let p : Progress = progress_at course.records row in
    let s : Sender = sender_of network p in
    let b : Branch = get_or s.branches copy no_branch in
    let shape = next.holds.shape in
    let own = row-is shape row within in
    let there : copy < length s.branches = omega (arith, own.leg, is) in
    let known : p.release.sender < length (senders_of network) = (next.holds.frames row within).sender in
    let begins : BeginsEarlier (legs_of s.ports s.branches) (1 + copy) b =
    earlier_at (legs_of s.ports s.branches) 1 s.branches copy
    (sender_keeps network p.release.sender next.holds.rules known).branches.begin there in
    let one : (progress_at course.records p.frame).release ≡ p.release = release-one shape row within in
    let at : IsRowFor course p.frame b.leg =
    row-for shape p.frame b.leg (omega (arith, own.frame, frames-all shape))
    (subst (λ (r : Release). b.leg ≤ copies_count network r) (sym one) (omega (arith, begins.earlier, there))) in
    record {
      at = at;
      release = at.release ∙ one;
      earlier = omega (arith, begins.earlier);
      later = elim (behind_or_talker (legs_of s.ports s.branches) (1 + copy) b begins) as
          (λ _. (1 ≤ b.hop) ⊎ (((progress_at course.records (row_of course.firsts p.frame b.leg)).leg ≡ 0)
          × (b.hop ≡ 0))) [
            | inl behind ↦ inl behind
            | inr first ↦ inr (at.of_leg ∙ first.0, first.1)
          ];
    }

-- a leg that does not begin where the frame comes begins, after an arrival, by the same record
pub start-stays : {T : Type 0} {key : T → ℕ → ℕ → ℕ} {wait : ℕ → ℕ → ℕ} {network : DeclaredNetwork}
    {releases : List Release} {old new : Course T} {now : Moment} {row : ℕ} {entries : List (Moment × Event)}
    {due : Option Ps} → IsNext key wait network releases old now (Arrival row) entries
    → (step : Comes network old new now row due) → row < length old.records → (n : ℕ) → n < length old.records
    → ¬ BeginsThere network old row (length (progress_at old.records row).hops) n
    → start_of network new (progress_at old.records n) ≡ start_of network old (progress_at old.records n)
start-stays {T} {key} {wait} {network} {releases} {old} {new} {now} {row} next step here n within apart =
    by p.leg refl
  where
    p : Progress
    p = progress_at old.records n

    own : Progress
    own = progress_at old.records row

    firsts : new.firsts ≡ old.firsts
    firsts = ap (λ (c : Course T). c.firsts) step.becomes

    known : own.release.sender < length (senders_of network)
    known = (next.holds.frames row here).sender

    fewer : (hops : List HopRecord) (hop : ℕ) → hops ≡ [] → 1 ≤ hop → hop ≢ length hops
    fewer hops hop none some same = omega (arith, some, same, ap (λ (l : List HopRecord). length l) none)

    not-last : (copy : ℕ) → p.leg ≡ suc copy
        → Contains (rows_next network old row)
        (row_of old.firsts p.frame (get_or (sender_of network p).branches copy no_branch).leg)
        → (get_or (sender_of network p).branches copy no_branch).hop
        ≢ length (progress_at old.records
        (row_of old.firsts p.frame (get_or (sender_of network p).branches copy no_branch).leg)).hops
    not-last copy is has same =
        let b : Branch = get_or (sender_of network p).branches copy no_branch in
        let r : ℕ = row_of old.firsts p.frame b.leg in
        let behind = branch-begins next n copy within is in
        elim (All-contains (λ (m : ℕ). (m ≡ row) ⊎ BeginsThere network old row (length own.hops) m)
        (rows_next network old row) r (next-are next.holds.shape row here) has) as (λ _. ⊥) [
          | inl e ↦
              (let frame : own.frame ≡ p.frame =
              ap (λ (m : ℕ). (progress_at old.records m).frame) (sym e) ∙ behind.at.of_frame in
              let release : p.release ≡ own.release =
              sym behind.release ∙ ap (λ (m : ℕ). (progress_at old.records m).release) e in
              let branch : get_or (sender_of network own).branches copy no_branch ≡ b =
              ap (λ (x : Release). get_or (sender_at network x.sender).branches copy no_branch) (sym release) in
              apart (record {
                within = within;
                frame = sym frame;
                release = release;
                copy = copy;
                is = is;
                there = subst (λ (x : Release). copy < copies_count network x) release
                    (omega (arith, (row-is next.holds.shape n within).leg, is));
                leg = ap (λ (x : Branch). x.leg) branch ∙ sym behind.at.of_leg
                    ∙ ap (λ (m : ℕ). (progress_at old.records m).leg) e;
                at_hop = ap (λ (x : Branch). x.hop) branch ∙ same
                    ∙ ap (λ (m : ℕ). length (progress_at old.records m).hops) e;
              }))
          | inr begins ↦ elim behind.later as (λ _. ⊥) [
            | inl later ↦ fewer (progress_at old.records r).hops b.hop
                (begun-apart next.holds row r here begins).is.stands.here.0 later same
            | inr first ↦ omega (arith, first.0, begins.is)
          ]
        ]

    by : (leg : ℕ) → p.leg ≡ leg → start_by network new.firsts new.records leg p
        ≡ start_by network old.firsts old.records leg p
    by zero is = refl
    by (suc copy) is =
        let b : Branch = get_or (sender_of network p).branches copy no_branch in
        let r : ℕ = row_of old.firsts p.frame b.leg in
        let behind = branch-begins next n copy within is in
        let Same : Type 0 = slice_get (progress_at new.records r).hops b.hop
        ≡ slice_get (progress_at old.records r).hops b.hop in
        let same : Same = elim (in-or-off (rows_next network old row) r) as (λ _. Same) [
          | inl has ↦
              ap (λ (q : Progress). slice_get q.hops b.hop)
              (comes-enter next.holds.shape.stages step r has behind.at.within).progress
              ∙ get-before (progress_at old.records r).hops (came now.at step.verdict) b.hop (not-last copy is has)
          | inr off ↦ ap (λ (q : Progress). slice_get q.hops b.hop) (comes-keep step r off).progress
        ] in
        ap (λ (ns : List ℕ). slice_get (progress_at new.records (row_of ns p.frame b.leg)).hops b.hop) firsts ∙ same

-- one that does begins by the new record
pub start-comes : {T : Type 0} {key : T → ℕ → ℕ → ℕ} {wait : ℕ → ℕ → ℕ} {network : DeclaredNetwork}
    {releases : List Release} {old new : Course T} {now : Moment} {row : ℕ} {entries : List (Moment × Event)}
    {due : Option Ps} → IsNext key wait network releases old now (Arrival row) entries
    → (step : Comes network old new now row due) → row < length old.records → (n : ℕ)
    → BeginsThere network old row (length (progress_at old.records row).hops) n
    → start_of network new (progress_at old.records n) ≡ Some (came now.at step.verdict)
start-comes {T} {key} {wait} {network} {releases} {old} {new} {now} {row} next step here n begins =
    let p : Progress = progress_at old.records n in
    let own : Progress = progress_at old.records row in
    let b : Branch = get_or (sender_of network p).branches begins.copy no_branch in
    let same : b ≡ get_or (sender_of network own).branches begins.copy no_branch =
    ap (λ (x : Release). get_or (sender_at network x.sender).branches begins.copy no_branch) begins.release in
    let leg : b.leg ≡ own.leg = ap (λ (x : Branch). x.leg) same ∙ begins.leg in
    let hop : b.hop ≡ length own.hops = ap (λ (x : Branch). x.hop) same ∙ begins.at_hop in
    let there : row_of new.firsts p.frame b.leg ≡ row =
    ap (λ (c : Course T). row_of c.firsts p.frame b.leg) step.becomes
    ∙ ap (λ (f : ℕ). row_of old.firsts f b.leg) begins.frame ∙ ap (row_of old.firsts own.frame) leg
    ∙ (row-is next.holds.shape row here).named in
    ap (λ (k : ℕ). start_by network new.firsts new.records k p) begins.is
    ∙ ap (λ (r : ℕ). slice_get (progress_at new.records r).hops b.hop) there
    ∙ ap (slice_get (progress_at new.records row).hops) hop
    ∙ ap (λ (q : Progress). slice_get q.hops (length own.hops))
    (comes-enter next.holds.shape.stages step row (next-own network old row) here).progress
    ∙ get-pushed own.hops (came now.at step.verdict)

-- The lists and the rows after each step.
use Rattle.std.proofs.Common.{◌≡◌, ◌≢◌, ℕ, suc, ◌-◌, ◌<◌, ◌≤◌, List, [], ◌∷◌, ◌++◌, length, map, get_or, set}
use Rattle.std.proofs.Common.{Option, Some, refl, sym, ap, ◌∙◌, subst, inl, inr, ◌⊎◌, arith}
use Rattle.std.specs.Prelude.{◌==◌, if◌then◌else◌}
use Rattle.std.proofs.lemmas.Bool.{cases_eq, cond-true, cond-false, eq-eqb, ne_eqb}
use Rattle.std.proofs.lemmas.List.{get_or-set_same, get_or-set_other, length-map, length-set}
use Rattle.std.proofs.lemmas.List.Elements.{All-contains}
use Rattle.std.proofs.Math.ListN.{get_or-map}
use Rattle.std.proofs.Math.Seq.{map-set_same}
use Rattle.ats_num.specs.declared.time.Ps.{Ps}
use Rattle.ats_network.specs.Network.{DeclaredNetwork}
use Rattle.ats_group.specs.declared.verdict.Verdict.{Verdict}
use Rattle.ats_group.specs.declared.verdict.Verdict.TheVariants.{Eligible, Late, Size}
use Rattle.ats_events.specs.declared.moment.Moment.{Moment}
use Rattle.ats_trace.specs.Journey.{IsWay}
use Rattle.ats_trace.specs.declared.journey.Ending.TheVariants.{Sink, Discard}
use Rattle.ats_trace.specs.HopRecord.{HopRecord}
use Rattle.ats_trace.specs.declared.journey.Release.{Release}
use Rattle.ats_run_records.specs.Progress.{Progress, progress_at, no_progress, with_hop, with_sent, with_ending}
use Rattle.ats_run_records.specs.Progress.{no_hop}
use Rattle.ats_engine_steps.specs.Course.{Course, stage_at, path_of}
use Rattle.ats_engine_steps.specs.Entries.{arrival_moment}
use Rattle.ats_engine_steps.specs.Frames.{IsAtStage, IsDueAt, IsSent, IsUnsent, IsFrame, Goes, HasBegun, Stands}
use Rattle.ats_engine_steps.specs.Frames.{start_of}
use Rattle.ats_engine_steps.specs.Invariant.{IsShaped, opened_again}
use Rattle.ats_engine_steps.specs.Steps.{Move, came, stage_by, judged_by, class_behind, leaves_for, Comes}
use Rattle.ats_engine_steps.specs.Steps.{BecomesEligible, Selects, rows_next, set_each}
use Rattle.ats_engine_steps.specs.declared.event.Event.{Event}
use Rattle.ats_engine_steps.specs.declared.event.Event.TheVariants.{Arrival, Selection}
use Rattle.ats_engine_steps.specs.declared.stage.Stage.{Stage}
use Rattle.ats_engine_steps.specs.declared.stage.Stage.TheVariants.{Apart, Coming, Due, Waiting, Over}
use Rattle.ats_engine_proofs.specs.Next.{IsEligibleNow, IsNext}
use Rattle.ats_engine_proofs.proofs.Begun.{IsApart, begun-apart}
use Rattle.ats_engine_proofs.proofs.Travels.{selects-stage}
use Rattle.ats_engine_proofs.proofs.LegPorts.{leg-some}
use Rattle.ats_engine_proofs.proofs.Rows.{BeginsThere, begins-later, in-or-off, length-set_each, next-are, next-begun}
use Rattle.ats_engine_proofs.proofs.Stages.{next-coming, next-due, stage-within}
use Rattle.ats_engine_proofs.proofs.Starts.{AreLikeHops, comes-enter, comes-keep, likes-same, likes-set, start-comes}
use Rattle.ats_engine_proofs.proofs.Starts.{start-likes, start-stays, start-told}
use Rattle.ats_engine_proofs.proofs.Ways.{AreLike, begins-like, begun-comes, begun-like, begun-more, begun-sent}
use Rattle.ats_engine_proofs.proofs.Ways.{goes-discarded, goes-stands, like-none, like-same, sent-goes, sent-way}
use Rattle.ats_engine_proofs.proofs.Ways.{stands-sent, stands-weaker}

-- a leg stands as it did where the record at which it begins has the same arrival and verdict
stage-like : (path : List ℕ) (start other : Option HopRecord) (p : Progress) (s : Stage) → AreLike start other
    → IsAtStage path start p s → IsAtStage path other p s
stage-like path start other p Apart like at = record {
  here = (at.here.0, like-none start other like at.here.1, at.here.2);
  unended = at.unended;
}
stage-like path start other p (Coming time) like at = record {
  here = (at.here.0, begins-like p.leg p.release start other p.hops time like at.here.1);
  unended = at.unended;
}
stage-like path start other p (Due time) like at = record {
  here = (at.here.0, begun-like p.leg p.release start other p.hops like at.here.1);
  unended = at.unended;
}
stage-like path start other p Waiting like at = record {
  here = (at.here.0, begun-like p.leg p.release start other p.hops like at.here.1);
  unended = at.unended;
}
stage-like path start other p Over like at =
    record { way = at.way; begun = begun-like p.leg p.release start other p.hops like at.begun }

frame-like : {T : Type 0} (network : DeclaredNetwork) (old new : Course T) (p : Progress) (s : Stage)
    → AreLike (start_of network old p) (start_of network new p) → IsFrame network old p s → IsFrame network new p s
frame-like network old new p s like is = record {
  sender = is.sender;
  octets = is.octets;
  leg = is.leg;
  room = is.room;
  stands = stage-like (path_of network p) (start_of network old p) (start_of network new p) p s like is.stands;
}

-- one row of a run took a move, which kept what was recorded along its leg
record IsMoved {T : Type 0} (old new : Course T) (row : ℕ) (stage : Stage) (progress : Progress) : Type 0 where
  within : row < length old.records
  stages : new.stages ≡ set old.stages row stage
  records : new.records ≡ set old.records row progress
  firsts : new.firsts ≡ old.firsts
  again : opened_again progress ≡ opened_again (progress_at old.records row)
  likes : AreLikeHops (progress_at old.records row).hops progress.hops
  ports : length new.ports ≡ length old.ports
  turns : length new.turns ≡ length old.turns
  arrives_from : length new.arrives_from ≡ length old.arrives_from

-- the lists fit the network and the releases where they are as long as before, and each row is of its leg
fits : {T : Type 0} (network : DeclaredNetwork) (releases : List Release) (old new : Course T)
    → IsShaped network releases old → map opened_again new.records ≡ map opened_again old.records
    → new.firsts ≡ old.firsts → length new.stages ≡ length old.stages → length new.ports ≡ length old.ports
    → length new.turns ≡ length old.turns → length new.arrives_from ≡ length old.arrives_from
    → IsShaped network releases new
fits network releases old new shape again firsts stages ports turns arrives_from =
    let records : length new.records ≡ length old.records =
    sym (length-map new.records opened_again) ∙ ap length again ∙ length-map old.records opened_again in
    record {
      legs = again ∙ shape.legs;
      firsts = firsts ∙ shape.firsts;
      in_order = shape.in_order;
      few = shape.few;
      few_ports = shape.few_ports;
      stages = stages ∙ shape.stages ∙ sym records;
      ports = ports ∙ shape.ports;
      turns = turns ∙ shape.turns;
      arrives_from = arrives_from ∙ shape.arrives_from;
    }

moved-shape : {T : Type 0} (network : DeclaredNetwork) (releases : List Release) (old new : Course T) (row : ℕ)
    (stage : Stage) (progress : Progress) → IsShaped network releases old → IsMoved old new row stage progress
    → IsShaped network releases new
moved-shape network releases old new row stage progress shape moved =
    fits network releases old new shape
    (ap (map opened_again) moved.records
    ∙ map-set_same opened_again old.records row progress no_progress moved.again)
    moved.firsts (ap length moved.stages ∙ length-set old.stages row stage) moved.ports moved.turns
    moved.arrives_from

-- the records of each leg are like those before
moved-likes : {T : Type 0} (old new : Course T) (row : ℕ) (stage : Stage) (progress : Progress)
    → IsMoved old new row stage progress → (n : ℕ)
    → AreLikeHops (progress_at old.records n).hops (progress_at new.records n).hops
moved-likes {T} old new row stage progress moved n =
    let Like : ℕ → Progress → Type 0 = λ (k : ℕ) (p : Progress). AreLikeHops (progress_at old.records k).hops p.hops in
    let now_progress : progress_at new.records n ≡ progress_at (set old.records row progress) n =
    ap (λ (ps : List Progress). progress_at ps n) moved.records in
    elim (cases_eq n row) as (λ _. Like n (progress_at new.records n)) [
      | inl same ↦
          (let own : progress_at new.records n ≡ progress =
          now_progress ∙ ap (progress_at (set old.records row progress)) same
          ∙ get_or-set_same old.records row progress no_progress moved.within in
          subst (Like n) (sym own) (subst (λ (k : ℕ). Like k progress) (sym same) moved.likes))
      | inr other ↦
          subst (Like n)
          (sym (now_progress ∙ get_or-set_other old.records row n progress no_progress other))
          (likes-same (progress_at old.records n).hops)
    ]

-- each row is as far as its stage says, if the one that moved is
moved-frames : {T : Type 0} (network : DeclaredNetwork) (old new : Course T) (row : ℕ) (stage : Stage)
    (progress : Progress) → length old.stages ≡ length old.records → IsMoved old new row stage progress
    → ((n : ℕ) → n < length old.records → IsFrame network old (progress_at old.records n) (stage_at old n))
    → IsFrame network old progress stage → (n : ℕ) → n < length new.records
    → IsFrame network new (progress_at new.records n) (stage_at new n)
moved-frames {T} network old new row stage progress even moved frames own n within =
    let records : length new.records ≡ length old.records =
    ap length moved.records ∙ length-set old.records row progress in
    let is = moved.within in
    let now_stage : stage_at new n ≡ get_or (set old.stages row stage) n Over =
    ap (λ (ss : List Stage). get_or ss n Over) moved.stages in
    let now_progress : progress_at new.records n ≡ progress_at (set old.records row progress) n =
    ap (λ (ps : List Progress). progress_at ps n) moved.records in
    let at : (p : Progress) (s : Stage) → progress_at new.records n ≡ p → stage_at new n ≡ s → IsFrame network old p s
    → IsFrame network new (progress_at new.records n) (stage_at new n) =
    λ p s hp hs is. subst (λ (q : Progress). IsFrame network new q (stage_at new n)) (sym hp)
    (subst (IsFrame network new p) (sym hs)
    (frame-like network old new p s
    (start-likes network old new moved.firsts (moved-likes old new row stage progress moved) p) is)) in
    elim (cases_eq n row) as (λ _. IsFrame network new (progress_at new.records n) (stage_at new n)) [
      | inl same ↦
          at progress stage
          (now_progress ∙ ap (progress_at (set old.records row progress)) same
          ∙ get_or-set_same old.records row progress no_progress is)
          (now_stage ∙ ap (λ (k : ℕ). get_or (set old.stages row stage) k Over) same
          ∙ get_or-set_same old.stages row stage Over (omega arith))
          own
      | inr other ↦
          at (progress_at old.records n) (stage_at old n)
          (now_progress ∙ get_or-set_other old.records row n progress no_progress other)
          (now_stage ∙ get_or-set_other old.stages row n stage Over other)
          (frames n (omega arith))
    ]

-- a leg along which a frame is to come is not over
coming-not_over : (at : Ps) → Coming at ≢ Over
coming-not_over at same = cc

-- nor is one along which it is due
due-not_over : (at : Ps) → Due at ≢ Over
due-not_over at same = cc

-- or waits
waiting-not_over : Waiting ≢ Over
waiting-not_over same = cc

-- the leg of the next event is as far as its stage says
known-frame : {T : Type 0} {network : DeclaredNetwork} (course : Course T) (row : ℕ) (stage : Stage)
    → ((n : ℕ) → n < length course.records → IsFrame network course (progress_at course.records n) (stage_at course n))
    → stage_at course row ≡ stage → row < length course.records
    → IsFrame network course (progress_at course.records row) stage
known-frame {T} {network} course row stage frames is within =
    subst (IsFrame network course (progress_at course.records row)) is (frames row within)

-- a frame that comes to the first port of its trunk is eligible at once
first-verdict : (network : DeclaredNetwork) (progress : Progress) (at : Ps) (judged : Verdict)
    → length progress.hops ≡ 0
    → (if length progress.hops == 0 then Eligible (record { 0 = at.0 }) else judged) ≡ Eligible at
first-verdict network progress at judged none =
    cond-true (length progress.hops == 0) (Eligible at) judged (eq-eqb (length progress.hops) 0 none)

-- how far a frame is that came along a leg, by its verdict
came-stands : (path : List ℕ) (start : Option HopRecord) (p : Progress) (at : Ps) (verdict : Verdict)
    → Goes path p.hops → HasBegun p.leg p.release start (p.hops ++ came at verdict ∷ []) → p.ending ≡ Discard
    → IsAtStage path start (with_hop p (came at verdict)) (stage_by verdict)
came-stands path start p at (Eligible e) goes begun unended = record {
  here = (
    goes-stands (IsDueAt e) path p.hops (came at (Eligible e)) goes (record { verdict = refl; sent = refl }),
    begun,
  );
  unended = unended;
}
came-stands path start p at (Late e) goes begun unended = record {
  way = subst (IsWay path (p.hops ++ came at (Late e) ∷ [])) (sym unended)
      (goes-discarded path p.hops (came at (Late e)) (λ rest. (refl, refl)) goes);
  begun = begun;
}
came-stands path start p at Size goes begun unended = record {
  way = subst (IsWay path (p.hops ++ came at Size ∷ [])) (sym unended)
      (goes-discarded path p.hops (came at Size) (λ rest. (refl, refl)) goes);
  begun = begun;
}

came-frame : {T : Type 0} (network : DeclaredNetwork) (old new : Course T) (p : Progress) (s : Stage) (at : Ps)
    (verdict : Verdict) → IsFrame network old p s → Goes (path_of network p) p.hops
    → HasBegun p.leg p.release (start_of network new p) (p.hops ++ came at verdict ∷ []) → p.ending ≡ Discard
    → IsFrame network new (with_hop p (came at verdict)) (stage_by verdict)
came-frame network old new p s at verdict is goes begun unended = record {
  sender = is.sender;
  octets = is.octets;
  leg = is.leg;
  room = is.room;
  stands = subst (λ (s : Option HopRecord). IsAtStage (path_of network p) s (with_hop p (came at verdict))
      (stage_by verdict)) (sym (start-told network new p (p.hops ++ came at verdict ∷ []) p.ending))
      (came-stands (path_of network p) (start_of network new p) p at verdict goes begun unended);
}

-- rows that are set keep what each keeps
map-set_each : {X Y : Type 0} (f : X → Y) (rows : List ℕ) (new : ℕ → X) (xs ys : List X) (d : X)
    → map f ys ≡ map f xs → ((n : ℕ) → f (new n) ≡ f (get_or xs n d)) → map f (set_each rows new ys) ≡ map f xs
map-set_each f [] new xs ys d same each = same
map-set_each {X} {Y} f (n ∷ rows) new xs ys d same each =
    map-set_each f rows new xs (set ys n (new n)) d
    (map-set_same f ys n (new n) d
    (each n ∙ sym (get_or-map f xs n d) ∙ ap (λ (zs : List Y). get_or zs n (f d)) (sym same) ∙ get_or-map f ys n d)
    ∙ same) each

-- after an arrival the lists fit as before
pub comes-shape : {T : Type 0} {key : T → ℕ → ℕ → ℕ} {wait : ℕ → ℕ → ℕ} {network : DeclaredNetwork}
    {releases : List Release} {old new : Course T} {now : Moment} {row : ℕ} {entries : List (Moment × Event)}
    {due : Option Ps} → IsNext key wait network releases old now (Arrival row) entries
    → Comes network old new now row due → IsShaped network releases new
comes-shape {T} {key} {wait} {network} {releases} {old} {new} {now} {row} next step =
    let own : ℕ → Progress = λ (n : ℕ). with_hop (progress_at old.records n) (came now.at step.verdict) in
    let staged : ℕ → Stage = λ (n : ℕ). stage_by step.verdict in
    fits network releases old new next.holds.shape
    (ap (λ (c : Course T). map opened_again c.records) step.becomes
    ∙ map-set_each opened_again step.rows own old.records old.records no_progress refl (λ n. refl))
    (ap (λ (c : Course T). c.firsts) step.becomes)
    (ap (λ (c : Course T). length c.stages) step.becomes ∙ length-set_each step.rows staged old.stages)
    (ap (λ (c : Course T). length c.ports) step.becomes)
    (ap (λ (c : Course T). length c.turns) step.becomes)
    (ap (λ (c : Course T). length c.arrives_from) step.becomes)

-- a leg does not begin at itself
not-itself : {T : Type 0} {key : T → ℕ → ℕ → ℕ} {wait : ℕ → ℕ → ℕ} {network : DeclaredNetwork}
    {releases : List Release} {old : Course T} {now : Moment} {row : ℕ} {entries : List (Moment × Event)}
    → IsNext key wait network releases old now (Arrival row) entries → row < length old.records
    → ¬ BeginsThere network old row (length (progress_at old.records row).hops) row
not-itself {T} {key} {wait} {network} {releases} {old} {now} {row} next here begins =
    let later : (progress_at old.records row).leg < (progress_at old.records row).leg =
    begins-later next.holds.rules next.holds.shape row (length (progress_at old.records row).hops) row
    (next.holds.frames row here).sender begins in
    omega (arith, later)

-- the leg of the arrival
own-comes : {T : Type 0} {key : T → ℕ → ℕ → ℕ} {wait : ℕ → ℕ → ℕ} {network : DeclaredNetwork}
    {releases : List Release} {old new : Course T} {now : Moment} {row : ℕ} {entries : List (Moment × Event)}
    {due : Option Ps} → IsNext key wait network releases old now (Arrival row) entries
    → (step : Comes network old new now row due) → row < length old.records
    → IsFrame network new (with_hop (progress_at old.records row) (came now.at step.verdict)) (stage_by step.verdict)
own-comes {T} {key} {wait} {network} {releases} {old} {new} {now} {row} next step here =
    let p : Progress = progress_at old.records row in
    let is : IsFrame network old p (Coming now.at) =
    known-frame old row (Coming now.at) next.holds.frames (next-coming next) here in
    let judged : Verdict = judged_by network old.groups (class_behind network p) p now.at.0 in
    let start : start_of network new p ≡ start_of network old p =
    start-stays next step here row here (not-itself next here) in
    came-frame network old new p (Coming now.at) now.at step.verdict is is.stands.here.0
    (subst (λ (s : Option HopRecord). HasBegun p.leg p.release s (p.hops ++ came now.at step.verdict ∷ [])) (sym start)
    (begun-more p.leg p.release (start_of network old p) p.hops now.at step.verdict is.stands.here.1
    (λ none. step.judged ∙ first-verdict network p now.at judged none))) is.stands.unended

-- a leg that begins there
goes-first : (path : List ℕ) (hops : List HopRecord) → 1 ≤ length path → hops ≡ [] → Goes path hops
goes-first [] hops some none = absurd (omega arith)
goes-first (q ∷ path) hops some none = subst (Goes (q ∷ path)) (sym none) tt

begun-first : (leg copy : ℕ) (release : Release) (start : Option HopRecord) (hops : List HopRecord) (at : Ps)
    (verdict : Verdict) → leg ≡ suc copy → start ≡ Some (came at verdict) → hops ≡ []
    → HasBegun leg release start (hops ++ came at verdict ∷ [])
begun-first leg copy release start hops at verdict is same none =
    subst (λ (n : ℕ). HasBegun n release start (hops ++ came at verdict ∷ [])) (sym is)
    (subst (λ (s : Option HopRecord). HasBegun (suc copy) release s (hops ++ came at verdict ∷ [])) (sym same)
    (subst (λ (hs : List HopRecord). HasBegun (suc copy) release (Some (came at verdict)) (hs ++ came at verdict ∷ []))
    (sym none) (refl, refl)))

begun-comes_too : {T : Type 0} {key : T → ℕ → ℕ → ℕ} {wait : ℕ → ℕ → ℕ} {network : DeclaredNetwork}
    {releases : List Release} {old new : Course T} {now : Moment} {row : ℕ} {entries : List (Moment × Event)}
    {due : Option Ps} → IsNext key wait network releases old now (Arrival row) entries
    → (step : Comes network old new now row due) → row < length old.records → (n : ℕ)
    → BeginsThere network old row (length (progress_at old.records row).hops) n
    → IsFrame network new (with_hop (progress_at old.records n) (came now.at step.verdict)) (stage_by step.verdict)
begun-comes_too {T} {key} {wait} {network} {releases} {old} {new} {now} {row} next step here n begins =
    let p : Progress = progress_at old.records n in
    let apart : IsApart network old n = begun-apart next.holds row n here begins in
    let none : p.hops ≡ [] = apart.is.stands.here.0 in
    came-frame network old new p Apart now.at step.verdict apart.is
    (goes-first (path_of network p) p.hops
    (leg-some network p.release.sender p.leg next.holds.rules apart.is.sender apart.is.leg) none)
    (begun-first p.leg begins.copy p.release (start_of network new p) p.hops now.at step.verdict begins.is
    (start-comes next step here n begins) none) apart.is.stands.unended

-- and each row is as far as its stage says
pub comes-frames : {T : Type 0} {key : T → ℕ → ℕ → ℕ} {wait : ℕ → ℕ → ℕ} {network : DeclaredNetwork}
    {releases : List Release} {old new : Course T} {now : Moment} {row : ℕ} {entries : List (Moment × Event)}
    {due : Option Ps} → IsNext key wait network releases old now (Arrival row) entries
    → Comes network old new now row due → (n : ℕ) → n < length new.records
    → IsFrame network new (progress_at new.records n) (stage_at new n)
comes-frames {T} {key} {wait} {network} {releases} {old} {new} {now} {row} next step n within_new =
    let here : row < length old.records =
    stage-within old row (Coming now.at) next.holds.shape.stages (next-coming next) (coming-not_over now.at) in
    let own : ℕ → Progress = λ (k : ℕ). with_hop (progress_at old.records k) (came now.at step.verdict) in
    let count : length new.records ≡ length old.records =
    ap (λ (c : Course T). length c.records) step.becomes ∙ length-set_each step.rows own old.records in
    let within : n < length old.records = omega (arith, within_new, count) in
    let Goal : Type 0 = IsFrame network new (progress_at new.records n) (stage_at new n) in
    let Entered : ℕ → Type 0 = λ (k : ℕ).
    IsFrame network new (with_hop (progress_at old.records k) (came now.at step.verdict)) (stage_by step.verdict) in
    let at : (p : Progress) (s : Stage) → progress_at new.records n ≡ p → stage_at new n ≡ s → IsFrame network new p s
    → Goal =
    λ p s hp hs is. subst (λ (q : Progress). IsFrame network new q (stage_at new n)) (sym hp)
    (subst (IsFrame network new p) (sym hs) is) in
    elim (in-or-off (rows_next network old row) n) as (λ _. Goal) [
      | inl has ↦
          (let enter = comes-enter next.holds.shape.stages step n has within in
          at (own n) (stage_by step.verdict) enter.progress enter.stage
          (elim (All-contains (λ (m : ℕ). (m ≡ row)
          ⊎ BeginsThere network old row (length (progress_at old.records row).hops) m) (rows_next network old row) n
          (next-are next.holds.shape row here) has) as (λ _. Entered n) [
            | inl same ↦ subst Entered (sym same) (own-comes next step here)
            | inr begins ↦ begun-comes_too next step here n begins
          ]))
      | inr off ↦
          (let kept = comes-keep step n off in
          let p : Progress = progress_at old.records n in
          let apart : ¬ BeginsThere network old row (length (progress_at old.records row).hops) n =
          λ begins. (let has = next-begun next.holds.shape row n here begins in off has.0 n has.1 (sym has.2)) in
          at p (stage_at old n) kept.progress kept.stage
          (frame-like network old new p (stage_at old n)
          (subst (AreLike (start_of network old p)) (sym (start-stays next step here n within apart))
          (like-same (start_of network old p)))
          (next.holds.frames n within)))
    ]

-- a leg along which a frame becomes eligible is the one that moves
offered-moved : {T : Type 0} {key : T → ℕ → ℕ → ℕ} {wait : ℕ → ℕ → ℕ} {network : DeclaredNetwork}
    {releases : List Release} {old new : Course T} {now : Moment} {row : ℕ} {entries more : List (Moment × Event)}
    → IsEligibleNow key wait network releases old now row entries
    → BecomesEligible key network old new now row more
    → IsMoved old new row Waiting (progress_at old.records row)
offered-moved {T} {key} {wait} {network} {releases} {old} {new} {now} {row} next step = record {
  within = stage-within old row (Due now.at) next.holds.shape.stages (next-due next) (due-not_over now.at);
  stages = ap (λ (c : Course T). c.stages) step.becomes;
  records = ap (λ (c : Course T). c.records) step.becomes;
  firsts = ap (λ (c : Course T). c.firsts) step.becomes;
  again = refl;
  likes = likes-same (progress_at old.records row).hops;
  ports = ap (λ (c : Course T). length c.ports) step.becomes ∙ simp length-set;
  turns = ap (λ (c : Course T). length c.turns) step.becomes ∙ simp length-set;
  arrives_from = ap (λ (c : Course T). length c.arrives_from) step.becomes;
}

-- once a frame is eligible the lists fit as before
pub offered-shape : {T : Type 0} {key : T → ℕ → ℕ → ℕ} {wait : ℕ → ℕ → ℕ} {network : DeclaredNetwork}
    {releases : List Release} {old new : Course T} {now : Moment} {row : ℕ} {entries more : List (Moment × Event)}
    → IsEligibleNow key wait network releases old now row entries
    → BecomesEligible key network old new now row more → IsShaped network releases new
offered-shape {T} {key} {wait} {network} {releases} {old} {new} {now} {row} next step =
    moved-shape network releases old new row Waiting (progress_at old.records row) next.holds.shape
    (offered-moved next step)

-- a frame that was due waits
due-waits : {T : Type 0} (network : DeclaredNetwork) (course : Course T) (progress : Progress) (at : Ps)
    → IsFrame network course progress (Due at) → IsFrame network course progress Waiting
due-waits network course progress at is = record {
  sender = is.sender;
  octets = is.octets;
  leg = is.leg;
  room = is.room;
  stands = record {
    here = (
      stands-weaker (IsDueAt at) IsUnsent
          (λ hop due. record { eligible = at; verdict = due.verdict; sent = due.sent })
          (path_of network progress) progress.hops is.stands.here.0,
      is.stands.here.1,
    );
    unended = is.stands.unended;
  };
}

-- and each row is as far as its stage says
pub offered-frames : {T : Type 0} {key : T → ℕ → ℕ → ℕ} {wait : ℕ → ℕ → ℕ} {network : DeclaredNetwork}
    {releases : List Release} {old new : Course T} {now : Moment} {row : ℕ} {entries more : List (Moment × Event)}
    → IsEligibleNow key wait network releases old now row entries
    → BecomesEligible key network old new now row more → (n : ℕ) → n < length new.records
    → IsFrame network new (progress_at new.records n) (stage_at new n)
offered-frames {T} {key} {wait} {network} {releases} {old} {new} {now} {row} next step =
    let moved : IsMoved old new row Waiting (progress_at old.records row) = offered-moved next step in
    moved-frames network old new row Waiting (progress_at old.records row) next.holds.shape.stages moved
    next.holds.frames
    (due-waits network old (progress_at old.records row) now.at
    (known-frame old row (Due now.at) next.holds.frames (next-due next) moved.within))

-- the leg along which a port sends is one of the run
selects-here : {T : Type 0} {key : T → ℕ → ℕ → ℕ} {wait : ℕ → ℕ → ℕ} {network : DeclaredNetwork}
    {releases : List Release} {old new : Course T} {now : Moment} {port : ℕ} {entries more : List (Moment × Event)}
    → IsNext key wait network releases old now (Selection port) entries
    → (step : Selects key wait network old new now port more) → step.row < length old.records
selects-here {T} {key} {wait} {network} {releases} {old} {new} {now} {port} next step =
    stage-within old step.row Waiting next.holds.shape.stages (selects-stage next step) waiting-not_over

-- a frame that is sent goes to its listener
abbrev sunk : Progress → Ps → Move
sunk progress at = record { stage = Over; progress = with_ending progress (Sink at); entries = [] }

-- or goes to the next port
abbrev goes_on : ℕ → Progress → Ps → Move
goes_on row progress at = record {
  stage = Coming at;
  progress = progress;
  entries = (arrival_moment row at, Arrival row) ∷ [];
}

-- what holds of both, each where it is the case, holds of what comes of it
leaves-by : (P : Move → Type 0) (network : DeclaredNetwork) (row : ℕ) (progress : Progress) (at : Ps)
    → (length progress.hops ≡ length (path_of network progress) → P (sunk progress at))
    → (length progress.hops ≢ length (path_of network progress) → P (goes_on row progress at))
    → P (leaves_for network row progress at)
leaves-by P network row progress at last more =
    let hops : ℕ = length progress.hops in
    let ports : ℕ = length (path_of network progress) in
    elim (cases_eq hops ports) as (λ _. P (leaves_for network row progress at)) [
      | inl same ↦ subst P
          (sym (cond-true (hops == ports) (sunk progress at) (goes_on row progress at) (eq-eqb hops ports same)))
          (last same)
      | inr other ↦ subst P
          (sym (cond-false (hops == ports) (sunk progress at) (goes_on row progress at) (ne_eqb hops ports other)))
          (more other)
    ]

-- a selection moves the leg of the frame that it starts
selects-moved : {T : Type 0} {key : T → ℕ → ℕ → ℕ} {wait : ℕ → ℕ → ℕ} {network : DeclaredNetwork}
    {releases : List Release} {old new : Course T} {now : Moment} {port : ℕ} {entries more : List (Moment × Event)}
    → IsNext key wait network releases old now (Selection port) entries
    → (step : Selects key wait network old new now port more)
    → IsMoved old new step.row step.move.stage step.move.progress
selects-moved {T} {key} {wait} {network} {releases} {old} {new} {now} {port} next step =
    let p : Progress = progress_at old.records step.row in
    let q : Progress = with_sent p now.at step.end in
    let Likes : Move → Type 0 = λ (m : Move). AreLikeHops p.hops m.progress.hops in
    let like : AreLikeHops p.hops q.hops = likes-set p.hops (length p.hops - 1) no_hop (Some (now.at, step.end)) in
    record {
      within = selects-here next step;
      stages = ap (λ (c : Course T). c.stages) step.becomes;
      records = ap (λ (c : Course T). c.records) step.becomes;
      firsts = ap (λ (c : Course T). c.firsts) step.becomes;
      again = ap (λ (m : Move). opened_again m.progress) step.is
          ∙ leaves-by (λ (m : Move). opened_again m.progress ≡ opened_again p) network step.row q step.arrival
          (λ _. refl) (λ _. refl);
      likes = subst Likes (sym step.is) (leaves-by Likes network step.row q step.arrival (λ _. like) (λ _. like));
      ports = ap (λ (c : Course T). length c.ports) step.becomes ∙ simp length-set;
      turns = ap (λ (c : Course T). length c.turns) step.becomes ∙ simp length-set;
      arrives_from = ap (λ (c : Course T). length c.arrives_from) step.becomes ∙ simp length-set;
    }

-- after a selection the lists fit as before
pub selects-shape : {T : Type 0} {key : T → ℕ → ℕ → ℕ} {wait : ℕ → ℕ → ℕ} {network : DeclaredNetwork}
    {releases : List Release} {old new : Course T} {now : Moment} {port : ℕ} {entries more : List (Moment × Event)}
    → IsNext key wait network releases old now (Selection port) entries → Selects key wait network old new now port more
    → IsShaped network releases new
selects-shape {T} {key} {wait} {network} {releases} {old} {new} {now} {port} next step =
    moved-shape network releases old new step.row step.move.stage step.move.progress next.holds.shape
    (selects-moved next step)

-- a frame that waited and is sent is then as far as its stage says
waiting-leaves : {T : Type 0} (network : DeclaredNetwork) (course : Course T) (row : ℕ) (progress : Progress)
    (start end at : Ps) → IsFrame network course progress Waiting
    → IsFrame network course (leaves_for network row (with_sent progress start end) at).progress
    (leaves_for network row (with_sent progress start end) at).stage
waiting-leaves network course row progress start end at is =
    let path : List ℕ = path_of network progress in
    let q : Progress = with_sent progress start end in
    let stands : Stands IsSent path q.hops = stands-sent path progress.hops start end is.stands.here.0 in
    let Begun : Option HopRecord → Type 0 = λ (s : Option HopRecord).
    HasBegun progress.leg progress.release s q.hops in
    let begun : Begun (start_of network course progress) =
    begun-sent progress.leg progress.release (start_of network course progress) progress.hops
    (length progress.hops - 1) start end is.stands.here.1 in
    leaves-by (λ (m : Move). IsFrame network course m.progress m.stage) network row q at
    (λ same. record {
      sender = is.sender;
      octets = is.octets;
      leg = is.leg;
      room = is.room;
      stands = record {
        way = sent-way path q.hops at stands same;
        begun = subst Begun (sym (start-told network course progress q.hops (Sink at))) begun;
      };
    })
    (λ other. record {
      sender = is.sender;
      octets = is.octets;
      leg = is.leg;
      room = is.room;
      stands = record {
        here = (
          sent-goes path q.hops stands other,
          begun-comes progress.leg progress.release (start_of network course q) q.hops at
              (subst Begun (sym (start-told network course progress q.hops progress.ending)) begun),
        );
        unended = is.stands.unended;
      };
    })

-- and each row is as far as its stage says
pub selects-frames : {T : Type 0} {key : T → ℕ → ℕ → ℕ} {wait : ℕ → ℕ → ℕ} {network : DeclaredNetwork}
    {releases : List Release} {old new : Course T} {now : Moment} {port : ℕ} {entries more : List (Moment × Event)}
    → IsNext key wait network releases old now (Selection port) entries → Selects key wait network old new now port more
    → (n : ℕ) → n < length new.records
    → IsFrame network new (progress_at new.records n) (stage_at new n)
selects-frames {T} {key} {wait} {network} {releases} {old} {new} {now} {port} next step =
    let moved : IsMoved old new step.row step.move.stage step.move.progress = selects-moved next step in
    moved-frames network old new step.row step.move.stage step.move.progress next.holds.shape.stages moved
    next.holds.frames
    (subst (λ (m : Move). IsFrame network old m.progress m.stage) (sym step.is)
    (waiting-leaves network old step.row (progress_at old.records step.row) now.at step.end step.arrival
    (known-frame old step.row Waiting next.holds.frames (selects-stage next step) moved.within)))

-- What a step leaves as it was: all rows but those that it moves, and what each port may be offered.
use Rattle.std.proofs.Common.{◌≡◌, ℕ, suc, ◌<◌, Bool, List, [], ◌∷◌, length, get_or, map, set, take, count_by, Some, ap}
use Rattle.std.proofs.Common.{◌∙◌, sym, subst, inl, inr, arith, All}
use Rattle.std.specs.Prelude.{◌≢◌, ◌-◌, ◌==◌, ◌&&◌}
use Rattle.std.specs.List.{list_any}
use Rattle.std.proofs.lemmas.Bool.{cases_eq}
use Rattle.std.proofs.lemmas.List.{ext_get_or, get_or-map, get_or-set_other, get_or-set_same, length-map, length-set}
use Rattle.std.proofs.lemmas.List.{take-map}
use Rattle.std.proofs.lemmas.Option.{none-some, same_Some}
use Rattle.ats_network.specs.Network.{DeclaredNetwork}
use Rattle.ats_network.specs.Class.{class_at}
use Rattle.ats_network.specs.Senders.{sender_at}
use Rattle.ats_events.specs.declared.moment.Moment.{Moment}
use Rattle.ats_events.specs.declared.phase.TheConstants.{SELECTION}
use Rattle.ats_trace.specs.HopRecord.{HopRecord}
use Rattle.ats_trace.specs.declared.journey.Release.{Release}
use Rattle.ats_run_records.specs.Progress.{Progress, progress_at, no_progress, no_hop}
use Rattle.ats_engine_steps.specs.Course.{Course, stage_at}
use Rattle.ats_engine_steps.specs.Entries.{selection_by, IsReached}
use Rattle.ats_engine_steps.specs.Frames.{Stands}
use Rattle.ats_engine_steps.specs.Ports.{passes, room_of}
use Rattle.ats_engine_steps.specs.Steps.{set_each}
use Rattle.ats_engine_steps.specs.declared.stage.Stage.{Stage}
use Rattle.ats_engine_steps.specs.declared.stage.Stage.TheVariants.{Over}
use Rattle.ats_engine_steps.specs.declared.turn.Turn.{Turn}
use Rattle.ats_engine_steps.specs.declared.turn.Turn.TheVariants.{Resting, Selecting}
use Rattle.ats_engine_proofs.proofs.Offering.{count_by-map}
use Rattle.ats_engine_proofs.proofs.Rows.{in-or-off, length-set_each, set_each-at, set_each-off}

-- a port selects at a moment of a selection
pub selecting-phase : (port : ℕ) (turn : Turn) (now : Moment) → selection_by port turn ≡ Some now
    → now.phase ≡ SELECTION
selecting-phase port Resting now e = absurd (none-some now e)
selecting-phase port (Selecting at) now e = sym (ap (λ (m : Moment). m.phase) (same_Some _ now e))

-- where a frame stands at a port, its last hop record says how
pub last-stands : (Last : HopRecord → Type 0) (path : List ℕ) (hops : List HopRecord) → Stands Last path hops
    → Last (get_or hops (length hops - 1) no_hop)
last-stands Last [] hops s = absurd s
last-stands Last (p ∷ path) [] s = absurd s
last-stands Last (p ∷ path) (hop ∷ []) s = s
last-stands Last (p ∷ path) (hop ∷ next ∷ hops) s =
    let At : ℕ → Type 0 = λ (k : ℕ). Last (get_or (hop ∷ next ∷ hops) k no_hop) in
    let same : suc (length (next ∷ hops) - 1) ≡ length (hop ∷ next ∷ hops) - 1 = omega arith in
    subst At same (last-stands Last path (next ∷ hops) s.1)

-- how many frames a port may be offered is told by the releases of the trunks alone
pub room-by_releases : (network : DeclaredNetwork) (frames : ℕ) (records : List Progress) (port class : ℕ)
    → count_by (passes network port class) (take frames records)
    ≡ count_by (λ (r : Release). list_any (λ q. q == port) (sender_at network r.sender).ports
    && class_at (sender_at network r.sender) port == class) (take frames (map (λ (p : Progress). p.release) records))
room-by_releases network frames records port class =
    let release : Progress → Release = λ (p : Progress). p.release in
    let test : Release → Bool = λ (r : Release). list_any (λ q. q == port) (sender_at network r.sender).ports
    && class_at (sender_at network r.sender) port == class in
    sym (count_by-map test release (take frames records))
    ∙ ap (λ (rs : List Release). count_by test rs) (sym (take-map release frames records))

-- rows with the same releases have them in one list
pub releases-same : (old new : List Progress) → length new ≡ length old
    → ((row : ℕ) → (progress_at new row).release ≡ (progress_at old row).release)
    → map (λ (p : Progress). p.release) new ≡ map (λ (p : Progress). p.release) old
releases-same old new long each =
    let release : Progress → Release = λ (p : Progress). p.release in
    ext_get_or no_progress.release (map release new) (map release old)
    (length-map new release ∙ long ∙ sym (length-map old release)) (λ k within. (
    let in_new : k < length new = omega (arith, length-map new release) in
    let in_old : k < length old = omega arith in
    get_or-map release new k no_progress no_progress.release in_new ∙ each k
    ∙ sym (get_or-map release old k no_progress no_progress.release in_old)))

-- a step leaves these rows as they were, and what each port may be offered; the time goes on
pub record Changes {T : Type 0} (network : DeclaredNetwork) (old new : Course T) (Stays : ℕ → Type 0) : Type 0 where
  pub tie : new.tie ≡ old.tie
  pub count : length new.records ≡ length old.records
  pub rooms : (port class : ℕ) → room_of network new port class ≡ room_of network old port class
  pub stages : (other : ℕ) → Stays other → stage_at new other ≡ stage_at old other
  pub records : (other : ℕ) → Stays other → progress_at new.records other ≡ progress_at old.records other
  pub reached : IsReached old.last new.last

-- so does one that keeps the releases of all rows
pub changes-by : {T : Type 0} (network : DeclaredNetwork) (old new : Course T) (now : Moment) (Stays : ℕ → Type 0)
    → IsReached old.last now → new.last ≡ now → new.tie ≡ old.tie → new.firsts ≡ old.firsts
    → length new.records ≡ length old.records
    → ((row : ℕ) → (progress_at new.records row).release ≡ (progress_at old.records row).release)
    → ((other : ℕ) → Stays other → stage_at new other ≡ stage_at old other)
    → ((other : ℕ) → Stays other → progress_at new.records other ≡ progress_at old.records other)
    → Changes network old new Stays
changes-by {T} network old new now Stays reached last tie firsts count same stages records = record {
  tie = tie;
  count = count;
  rooms = λ port class. (
      let test : Release → Bool = λ (r : Release). list_any (λ q. q == port) (sender_at network r.sender).ports
      && class_at (sender_at network r.sender) port == class in
      room-by_releases network (length new.firsts) new.records port class
      ∙ ap (λ (rs : List Release). count_by test (take (length new.firsts) rs))
      (releases-same old.records new.records count same)
      ∙ ap (λ (fs : List ℕ). count_by test (take (length fs) (map (λ (p : Progress). p.release) old.records))) firsts
      ∙ sym (room-by_releases network (length old.firsts) old.records port class));
  stages = stages;
  records = records;
  reached = subst (λ (m : Moment). IsReached old.last m) (sym last) reached;
}

-- one that sets the stage and the record of one row does
pub changes-one : {T : Type 0} (network : DeclaredNetwork) (old new : Course T) (now : Moment) (row : ℕ)
    (stage : Stage) (p : Progress) → row < length old.records
    → p.release ≡ (progress_at old.records row).release → IsReached old.last now
    → new.stages ≡ set old.stages row stage → new.records ≡ set old.records row p → new.last ≡ now
    → new.tie ≡ old.tie → new.firsts ≡ old.firsts → Changes network old new (λ (other : ℕ). other ≢ row)
changes-one {T} network old new now row stage p within same reached stages records last tie firsts =
    changes-by network old new now (λ (other : ℕ). other ≢ row) reached last tie firsts
    (ap (λ (ps : List Progress). length ps) records ∙ length-set old.records row p)
    (λ r. elim (cases_eq r row) as (λ _. (progress_at new.records r).release ≡ (progress_at old.records r).release) [
      | inl e ↦ subst (λ (n : ℕ). (progress_at new.records n).release ≡ (progress_at old.records n).release) (sym e)
          (ap (λ (ps : List Progress). (progress_at ps row).release) records
          ∙ ap (λ (q : Progress). q.release) (get_or-set_same old.records row p no_progress within) ∙ same)
      | inr apart ↦ ap (λ (ps : List Progress). (progress_at ps r).release) records
          ∙ ap (λ (q : Progress). q.release) (get_or-set_other old.records row r p no_progress apart)
    ])
    (λ other apart. ap (λ (ss : List Stage). get_or ss other Over) stages
    ∙ get_or-set_other old.stages row other stage Over apart)
    (λ other apart. ap (λ (ps : List Progress). progress_at ps other) records
    ∙ get_or-set_other old.records row other p no_progress apart)

-- and one that sets those of several, which keep their releases
pub changes-each : {T : Type 0} (network : DeclaredNetwork) (old new : Course T) (now : Moment) (rows : List ℕ)
    (stage : ℕ → Stage) (next : ℕ → Progress) → All (λ (n : ℕ). n < length old.records) rows
    → ((n : ℕ) → (next n).release ≡ (progress_at old.records n).release) → IsReached old.last now
    → new.stages ≡ set_each rows stage old.stages → new.records ≡ set_each rows next old.records → new.last ≡ now
    → new.tie ≡ old.tie → new.firsts ≡ old.firsts
    → Changes network old new (λ (other : ℕ). All (λ (m : ℕ). other ≢ m) rows)
changes-each {T} network old new now rows stage next within same reached stages records last tie firsts =
    changes-by network old new now (λ (other : ℕ). All (λ (m : ℕ). other ≢ m) rows) reached last tie firsts
    (ap (λ (ps : List Progress). length ps) records ∙ length-set_each rows next old.records)
    (λ r. elim (in-or-off rows r)
    as (λ _. (progress_at new.records r).release ≡ (progress_at old.records r).release) [
      | inl has ↦ (
          let below : r < length old.records =
          subst (λ (n : ℕ). n < length old.records) has.2 (within has.0 r has.1) in
          ap (λ (ps : List Progress). (progress_at ps r).release) records
          ∙ ap (λ (q : Progress). q.release) (set_each-at rows next old.records r no_progress has below) ∙ same r)
      | inr off ↦ ap (λ (ps : List Progress). (progress_at ps r).release) records
          ∙ ap (λ (q : Progress). q.release) (set_each-off rows next old.records r no_progress off)
    ])
    (λ other off. ap (λ (ss : List Stage). get_or ss other Over) stages
    ∙ set_each-off rows stage old.stages other Over off)
    (λ other off. ap (λ (ps : List Progress). progress_at ps other) records
    ∙ set_each-off rows next old.records other no_progress off)

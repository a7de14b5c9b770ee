-- What is kept of each port after each step.
use Rattle.std.proofs.Common.{◌≡◌, ℕ, ◌<◌, List, [], length, get_or, All, Option, ◌⊎◌, ap, ◌∙◌}
use Rattle.std.proofs.Common.{refl, sym, subst, inl, inr, arith}
use Rattle.std.specs.Prelude.{◌≢◌}
use Rattle.std.proofs.lemmas.Bool.{cases_eq}
use Rattle.std.proofs.lemmas.List.{get_or-set_other}
use Rattle.ats_num.specs.declared.time.Ps.{Ps}
use Rattle.ats_network.specs.Network.{DeclaredNetwork}
use Rattle.ats_events.specs.declared.moment.Moment.{Moment}
use Rattle.ats_transmit.specs.State.{opened}
use Rattle.ats_trace.specs.declared.journey.Release.{Release}
use Rattle.ats_run_records.specs.Progress.{Progress, progress_at, with_hop}
use Rattle.ats_engine_steps.specs.Course.{Course, stage_at, turn_at, place_of}
use Rattle.ats_engine_steps.specs.Ports.{IsPortOf, port_state_at}
use Rattle.ats_engine_steps.specs.Steps.{came, rows_next, set_each, stage_by, turn_once_offered}
use Rattle.ats_engine_steps.specs.Steps.{Comes, BecomesEligible, Selects}
use Rattle.ats_engine_steps.specs.declared.event.Event.{Event}
use Rattle.ats_engine_steps.specs.declared.event.Event.TheVariants.{Arrival, Selection}
use Rattle.ats_engine_steps.specs.declared.stage.Stage.{Stage}
use Rattle.ats_engine_steps.specs.declared.stage.Stage.TheVariants.{Apart, Coming, Due, Over}
use Rattle.ats_engine_steps.specs.declared.turn.Turn.{Turn}
use Rattle.ats_engine_steps.specs.declared.turn.Turn.TheVariants.{Resting}
use Rattle.ats_engine_proofs.specs.Next.{IsEligibleNow, IsNext}
use Rattle.ats_engine_proofs.proofs.Allowed.{may-come}
use Rattle.ats_engine_proofs.proofs.Away.{between-away, placed-away, stage-between}
use Rattle.ats_engine_proofs.proofs.Begun.{IsApart, next-or-apart}
use Rattle.ats_engine_proofs.proofs.Fates.{of-element}
use Rattle.ats_engine_proofs.proofs.Moving.{Changes, changes-each}
use Rattle.ats_engine_proofs.proofs.Now.{next-reached}
use Rattle.ats_engine_proofs.proofs.PortKept.{IsAway, PassesBy, passes-one, port-stays}
use Rattle.ats_engine_proofs.proofs.PortOffered.{IsOffering}
use Rattle.ats_engine_proofs.proofs.PortSteps.{offered-here, offering, selects-away, selects-this}
use Rattle.ats_engine_proofs.proofs.PortSteps.{starting}
use Rattle.ats_engine_proofs.proofs.Rows.{in-or-off, set_each-at}
use Rattle.ats_engine_proofs.proofs.Stages.{next-coming}
use Rattle.ats_engine_proofs.proofs.Travels.{comes-sent, offered-sent, selects-elsewhere, selects-place}

-- along the rows to which a frame comes it was held by no port
before-between : {T : Type 0} {network : DeclaredNetwork} {old : Course T} (row n : ℕ) (at : Ps) (port : ℕ)
    → stage_at old row ≡ Coming at → (n ≡ row) ⊎ IsApart network old n → IsAway network old port n
before-between {T} {network} {old} row n at port was (inl same) =
    subst (IsAway network old port) (sym same) (between-away network old port row (Coming at) was tt)
before-between {T} {network} {old} row n at port was (inr apart) =
    between-away network old port n Apart apart.stage tt

-- what is kept of each port is so after a frame came
pub comes-ports : {T : Type 0} {key : T → ℕ → ℕ → ℕ} {wait : ℕ → ℕ → ℕ} {network : DeclaredNetwork}
    {releases : List Release} {old new : Course T} {now : Moment} {row : ℕ} {entries : List (Moment × Event)}
    {due : Option Ps} → IsNext key wait network releases old now (Arrival row) entries
    → Comes network old new now row due → (other : ℕ) → other < length network.topology.ports
    → IsPortOf key network new other (port_state_at new other)
comes-ports {T} {key} {wait} {network} {releases} {old} {new} {now} {row} next step other within =
    let rows : List ℕ = rows_next network old row in
    let may = may-come next in
    let was : stage_at old row ≡ Coming now.at = next-coming next in
    let here : row < length old.records = may.may_come.room.within in
    let stage : ℕ → Stage = λ (n : ℕ). stage_by step.verdict in
    let after : ℕ → Progress = λ (n : ℕ). with_hop (progress_at old.records n) (came now.at step.verdict) in
    let staged : new.stages ≡ set_each rows stage old.stages = ap (λ (x : Course T). x.stages) step.becomes
    ∙ ap (λ (ns : List ℕ). set_each ns stage old.stages) step.next in
    let recorded : new.records ≡ set_each rows after old.records = ap (λ (x : Course T). x.records) step.becomes
    ∙ ap (λ (ns : List ℕ). set_each ns after old.records) step.next in
    let there : All (λ (n : ℕ). n < length old.records) rows = λ k d h. (may.next k d h).within in
    let c : Changes network old new (λ (n : ℕ). All (λ (m : ℕ). n ≢ m) rows) =
    changes-each network old new now rows stage after there (λ n. refl) (next-reached next) staged recorded
    (ap (λ (x : Course T). x.last) step.becomes) (ap (λ (x : Course T). x.tie) step.becomes)
    (ap (λ (x : Course T). x.firsts) step.becomes) in
    let Known : ℕ → Type 0 = λ (n : ℕ). (n ≡ row) ⊎ IsApart network old n in
    let known : All Known rows = next-or-apart next.holds row here in
    let moves : (n : ℕ) → All (λ (m : ℕ). n ≢ m) rows ⊎ PassesBy network old new other n = λ n.
    elim (in-or-off rows n) as (λ _. All (λ (m : ℕ). n ≢ m) rows ⊎ PassesBy network old new other n) [
      | inr off ↦ inl off
      | inl has ↦ (
          let in_old : n < length old.stages = omega (
            arith,
            next.holds.shape.stages,
            of-element (λ (m : ℕ). m < length old.records) rows n there has,
          ) in
          let goes : stage_at new n ≡ stage_by step.verdict = ap (λ (ss : List Stage). get_or ss n Over) staged
          ∙ set_each-at rows stage old.stages n Over has in_old in
          inr (record {
            before = before-between row n now.at other was (of-element Known rows n known has);
            after = between-away network new other n (stage_by step.verdict) goes (stage-between step.verdict);
          }))
    ] in
    subst (IsPortOf key network new other) (sym (ap (λ (x : Course T). port_state_at x other) step.becomes))
    (port-stays key other (port_state_at old other) c (next.holds.ports other within) moves
    (comes-sent next step other) (ap (λ (x : Course T). turn_at x other) step.becomes))

-- after one became eligible
pub offered-ports : {T : Type 0} {key : T → ℕ → ℕ → ℕ} {wait : ℕ → ℕ → ℕ} {network : DeclaredNetwork}
    {releases : List Release} {old new : Course T} {now : Moment} {row : ℕ} {entries more : List (Moment × Event)}
    → IsEligibleNow key wait network releases old now row entries
    → BecomesEligible key network old new now row more
    → (other : ℕ) → other < length network.topology.ports
    → IsPortOf key network new other (port_state_at new other)
offered-ports {T} {key} {wait} {network} {releases} {old} {new} {now} {row} next step other within =
    let port : ℕ = step.port in
    let o : IsOffering network old new now.at row port = offering next step in
    let turn : Turn = turn_once_offered (turn_at old port) step.at in
    let Goal : ℕ → Type 0 = λ (n : ℕ). IsPortOf key network new n (port_state_at new n) in
    elim (cases_eq port other) as (λ _. Goal other) [
      | inl e ↦ subst Goal e (offered-here next step
          (subst (λ (n : ℕ). n < length network.topology.ports) (sym e) within))
      | inr apart ↦ (
          let differs : other ≢ port = λ e. apart (sym e) in
          subst (IsPortOf key network new other)
          (sym (ap (λ (x : Course T). port_state_at x other) step.becomes
          ∙ get_or-set_other old.ports port other step.standing (opened 0 [] old.tie) differs))
          (port-stays key other (port_state_at old other) o.changes (next.holds.ports other within)
          (passes-one other row (record {
            before = between-away network old other row (Due now.at) o.due tt;
            after = placed-away network new port other row (ap (place_of network) o.same ∙ o.place) differs;
          }))
          (offered-sent next step other)
          (ap (λ (x : Course T). turn_at x other) step.becomes
          ∙ get_or-set_other old.turns port other turn Resting differs)))
    ]

-- and after a port selected
pub selects-ports : {T : Type 0} {key : T → ℕ → ℕ → ℕ} {wait : ℕ → ℕ → ℕ} {network : DeclaredNetwork}
    {releases : List Release} {old new : Course T} {now : Moment} {port : ℕ} {entries more : List (Moment × Event)}
    → IsNext key wait network releases old now (Selection port) entries → Selects key wait network old new now port more
    → (other : ℕ) → other < length network.topology.ports
    → IsPortOf key network new other (port_state_at new other)
selects-ports {T} {key} {wait} {network} {releases} {old} {new} {now} {port} next step other within =
    let row : ℕ = step.row in
    let o = starting next step in
    let Goal : ℕ → Type 0 = λ (n : ℕ). IsPortOf key network new n (port_state_at new n) in
    elim (cases_eq port other) as (λ _. Goal other) [
      | inl e ↦ subst Goal e (selects-this next step)
      | inr apart ↦ (
          let differs : other ≢ port = λ e. apart (sym e) in
          subst (IsPortOf key network new other)
          (sym (ap (λ (x : Course T). port_state_at x other) step.becomes
          ∙ get_or-set_other old.ports port other step.standing (opened 0 [] old.tie) differs))
          (port-stays key other (port_state_at old other) o.changes (next.holds.ports other within)
          (passes-one other row (record {
            before = placed-away network old port other row (selects-place next step) differs;
            after = selects-away next step other;
          }))
          (selects-elsewhere next step other differs)
          (ap (λ (x : Course T). turn_at x other) step.becomes
          ∙ get_or-set_other old.turns port other step.turn Resting differs)))
    ]

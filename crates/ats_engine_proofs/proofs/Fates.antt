-- What a step makes of the events of one frame and of one port.
use Rattle.std.proofs.Common.{◌≡◌, ℕ, ◌≤◌, List, [], ◌∷◌, ◌++◌, length, get_or, All, Option, Some, None, refl}
use Rattle.std.proofs.Common.{sym, ap, ◌∙◌, subst, inl, inr, arith}
use Rattle.std.specs.Prelude.{◌≢◌, AllPairs, Contains}
use Rattle.std.proofs.lemmas.Bool.{cases_eq}
use Rattle.std.proofs.lemmas.List.{get_or-map, length-map}
use Rattle.std.proofs.lemmas.List.Elements.{All-append, All-map, All-nil, All-cons, Contains-append_left}
use Rattle.std.proofs.lemmas.List.Elements.{Contains-append_right}
use Rattle.ats_num.specs.declared.time.Ps.{Ps}
use Rattle.std.proofs.lemmas.Option.{IfSome_then}
use Rattle.ats_events.specs.declared.moment.Moment.{Moment}
use Rattle.ats_engine_steps.specs.Course.{Course, stage_at, turn_at}
use Rattle.ats_engine_steps.specs.Entries.{arrival_moment, eligible_moment, selection_moment, arrival_by}
use Rattle.ats_engine_steps.specs.Entries.{eligibility_by, selection_by, moment_of}
use Rattle.ats_engine_steps.specs.Steps.{due_entries, selections}
use Rattle.ats_engine_steps.specs.declared.event.Event.{Event}
use Rattle.ats_engine_steps.specs.declared.event.Event.TheVariants.{Arrival, Eligibility, Selection}
use Rattle.ats_engine_steps.specs.declared.stage.Stage.{Stage}
use Rattle.ats_engine_steps.specs.declared.stage.Stage.TheVariants.{Apart, Coming, Due, Waiting, Over}
use Rattle.ats_engine_steps.specs.declared.turn.Turn.{Turn}
use Rattle.ats_engine_steps.specs.declared.turn.Turn.TheVariants.{Resting, Selecting}
use Rattle.ats_engine_proofs.proofs.Awaited.{all_pairs_append, IsFree, IsAmong, Fate, stays, changes, Brings}
use Rattle.ats_engine_proofs.proofs.Events.{number_of}
use Rattle.ats_engine_proofs.proofs.ListFacts.{contains-map}
use Rattle.ats_engine_proofs.proofs.Rows.{in-or-off}

-- the entry of a frame at a stage
abbrev pub entries_by : ℕ → Stage → List (Moment × Event)
entries_by row (Coming at) = (arrival_moment row at, Arrival row) ∷ []
entries_by row (Due at) = (eligible_moment row at, Eligibility row) ∷ []
entries_by row Apart = []
entries_by row Waiting = []
entries_by row Over = []

-- what holds of a frame's events holds of the one that it has an entry of
of_row : (Q : Event → Type 0) (row : ℕ) (s : Stage) → Q (Arrival row) → Q (Eligibility row)
    → All (λ (x : Moment × Event). Q x.1) (entries_by row s)
of_row Q row (Coming at) a l =
    All-cons (λ (x : Moment × Event). Q x.1) (arrival_moment row at, Arrival row) [] a
    (All-nil (λ (x : Moment × Event). Q x.1))
of_row Q row (Due at) a l =
    All-cons (λ (x : Moment × Event). Q x.1) (eligible_moment row at, Eligibility row) [] l
    (All-nil (λ (x : Moment × Event). Q x.1))
of_row Q row Apart a l = All-nil (λ (x : Moment × Event). Q x.1)
of_row Q row Waiting a l = All-nil (λ (x : Moment × Event). Q x.1)
of_row Q row Over a l = All-nil (λ (x : Moment × Event). Q x.1)

-- and likewise of a port's
of_port : (Q : Event → Type 0) (port : ℕ) (t : Turn) → Q (Selection port)
    → All (λ (x : Moment × Event). Q x.1) (selections port t)
of_port Q port Resting s = All-nil (λ (x : Moment × Event). Q x.1)
of_port Q port (Selecting at) s =
    All-cons (λ (x : Moment × Event). Q x.1) (selection_moment port at, Selection port) [] s
    (All-nil (λ (x : Moment × Event). Q x.1))

-- each such entry is at the event's moment
each_of_row : (moments : Event → Option Moment) (row : ℕ) (s : Stage)
    → moments (Arrival row) ≡ arrival_by row s → moments (Eligibility row) ≡ eligibility_by row s
    → All (λ (x : Moment × Event). moments x.1 ≡ Some x.0) (entries_by row s)
each_of_row moments row (Coming at) a l =
    All-cons (λ (x : Moment × Event). moments x.1 ≡ Some x.0) (arrival_moment row at, Arrival row) [] a
    (All-nil (λ (x : Moment × Event). moments x.1 ≡ Some x.0))
each_of_row moments row (Due at) a l =
    All-cons (λ (x : Moment × Event). moments x.1 ≡ Some x.0) (eligible_moment row at, Eligibility row) [] l
    (All-nil (λ (x : Moment × Event). moments x.1 ≡ Some x.0))
each_of_row moments row Apart a l = All-nil (λ (x : Moment × Event). moments x.1 ≡ Some x.0)
each_of_row moments row Waiting a l = All-nil (λ (x : Moment × Event). moments x.1 ≡ Some x.0)
each_of_row moments row Over a l = All-nil (λ (x : Moment × Event). moments x.1 ≡ Some x.0)

-- and so is that of a port
each_of_port : (moments : Event → Option Moment) (port : ℕ) (t : Turn)
    → moments (Selection port) ≡ selection_by port t
    → All (λ (x : Moment × Event). moments x.1 ≡ Some x.0) (selections port t)
each_of_port moments port Resting s = All-nil (λ (x : Moment × Event). moments x.1 ≡ Some x.0)
each_of_port moments port (Selecting at) s =
    All-cons (λ (x : Moment × Event). moments x.1 ≡ Some x.0) (selection_moment port at, Selection port) [] s
    (All-nil (λ (x : Moment × Event). moments x.1 ≡ Some x.0))

-- there is one at the most
few_of_row : (row : ℕ) (s : Stage) → length (entries_by row s) ≤ 1
few_of_row row (Coming at) = omega arith
few_of_row row (Due at) = omega arith
few_of_row row Apart = omega arith
few_of_row row Waiting = omega arith
few_of_row row Over = omega arith

few_of_port : (port : ℕ) (t : Turn) → length (selections port t) ≤ 1
few_of_port port Resting = omega arith
few_of_port port (Selecting at) = omega arith

-- and where the event has a moment, there is one
arrival_among : (row : ℕ) (s : Stage) → IsAmong (entries_by row s) (Arrival row) (arrival_by row s)
arrival_among row (Coming at) = (0, omega arith, refl)
arrival_among row (Due at) = tt
arrival_among row Apart = tt
arrival_among row Waiting = tt
arrival_among row Over = tt

eligibility_among : (row : ℕ) (s : Stage)
    → IsAmong (entries_by row s) (Eligibility row) (eligibility_by row s)
eligibility_among row (Coming at) = tt
eligibility_among row (Due at) = (0, omega arith, refl)
eligibility_among row Apart = tt
eligibility_among row Waiting = tt
eligibility_among row Over = tt

selection_among : (port : ℕ) (t : Turn) → IsAmong (selections port t) (Selection port) (selection_by port t)
selection_among port Resting = tt
selection_among port (Selecting at) = (0, omega arith, refl)

-- the event that has happened is none of another frame or another port
pub record IsHere (row port : ℕ) (happened : Event) : Type 0 where
  pub arrivals : (f : ℕ) → f ≢ row → Arrival f ≢ happened
  pub eligibilities : (f : ℕ) → f ≢ row → Eligibility f ≢ happened
  pub selections : (p : ℕ) → p ≢ port → Selection p ≢ happened

-- a step that leaves all frames but one and all ports but one as they were; that frame goes from one stage to another,
-- and had no event to happen but the one that has happened
pub record Steps {T : Type 0} (old new : Course T) (happened : Event) (row port : ℕ) (s t : Stage) : Type 0 where
  pub here : IsHere row port happened
  pub stages : (f : ℕ) → f ≢ row → stage_at new f ≡ stage_at old f
  pub turns : (p : ℕ) → p ≢ port → turn_at new p ≡ turn_at old p
  pub was : stage_at old row ≡ s
  pub becomes : stage_at new row ≡ t
  pub arrival : (m : Moment) → arrival_by row s ≡ Some m → Arrival row ≡ happened
  pub eligibility : (m : Moment) → eligibility_by row s ≡ Some m → Eligibility row ≡ happened

-- and so does that port
pub record Turns {T : Type 0} (old new : Course T) (happened : Event) (port : ℕ) (s t : Turn) : Type 0 where
  pub was : turn_at old port ≡ s
  pub becomes : turn_at new port ≡ t
  pub selection : (m : Moment) → selection_by port s ≡ Some m → Selection port ≡ happened

-- the fate of each event, by those of the frame and the port
all_fates : {T : Type 0} (old new : Course T) (happened : Event) (more : List (Moment × Event)) (row port : ℕ)
    (s t : Stage) → Steps old new happened row port s t
    → IsAmong more (Arrival row) (arrival_by row t)
    → IsAmong more (Eligibility row) (eligibility_by row t)
    → Fate (moment_of old) (moment_of new) happened more (Selection port)
    → (event : Event) → Fate (moment_of old) (moment_of new) happened more event
all_fates {T} old new happened more row port s t step a l p (Arrival f) =
    elim (cases_eq f row) as (λ _. Fate (moment_of old) (moment_of new) happened more (Arrival f)) [
      | inl same ↦ subst (λ (g : ℕ). Fate (moment_of old) (moment_of new) happened more (Arrival g)) (sym same)
          (changes (λ m is. step.arrival m (ap (arrival_by row) (sym step.was) ∙ is))
          (subst (λ (x : Stage). IsAmong more (Arrival row) (arrival_by row x)) (sym step.becomes) a))
      | inr other ↦ stays (step.here.arrivals f other) (ap (arrival_by f) (step.stages f other))
    ]
all_fates {T} old new happened more row port s t step a l p (Eligibility f) =
    elim (cases_eq f row) as (λ _. Fate (moment_of old) (moment_of new) happened more (Eligibility f)) [
      | inl same ↦ subst (λ (g : ℕ). Fate (moment_of old) (moment_of new) happened more (Eligibility g)) (sym same)
          (changes (λ m is. step.eligibility m (ap (eligibility_by row) (sym step.was) ∙ is))
          (subst (λ (x : Stage). IsAmong more (Eligibility row) (eligibility_by row x)) (sym step.becomes) l))
      | inr other ↦ stays (step.here.eligibilities f other) (ap (eligibility_by f) (step.stages f other))
    ]
all_fates {T} old new happened more row port s t step a l p (Selection q) =
    elim (cases_eq q port) as (λ _. Fate (moment_of old) (moment_of new) happened more (Selection q)) [
      | inl same ↦ subst (λ (r : ℕ). Fate (moment_of old) (moment_of new) happened more (Selection r)) (sym same) p
      | inr other ↦ stays (step.here.selections q other) (ap (selection_by q) (step.turns q other))
    ]

-- two elements of a list that has one at the most
one_apart : {X : Type 0} (R : X → X → Type 0) (xs : List X) → length xs ≤ 1 → AllPairs R xs
one_apart R xs few i j d before within = absurd (omega arith)

-- the step brings the entry of the frame, where the port does next what it did
pub brings_one : {T : Type 0} (old new : Course T) (happened : Event) (row port : ℕ) (s t : Stage)
    → Steps old new happened row port s t → Selection port ≢ happened → turn_at new port ≡ turn_at old port
    → Brings (moment_of old) (moment_of new) happened (entries_by row t)
brings_one {T} old new happened row port s t step other same =
    let more : List (Moment × Event) = entries_by row t in
    record {
      each = each_of_row (moment_of new) row t (ap (arrival_by row) step.becomes)
          (ap (eligibility_by row) step.becomes);
      free = of_row (IsFree (moment_of old) happened) row t
          (λ m is. step.arrival m (ap (arrival_by row) (sym step.was) ∙ is))
          (λ m is. step.eligibility m (ap (eligibility_by row) (sym step.was) ∙ is));
      apart = one_apart (λ (x y : Moment × Event). x.1 ≢ y.1) more (few_of_row row t);
      fates = all_fates old new happened more row port s t step (arrival_among row t)
          (eligibility_among row t) (stays other (ap (selection_by port) same));
    }

-- more entries keep it
left_among : (more others : List (Moment × Event)) (event : Event) (next : Option Moment) → IsAmong more event next
    → IsAmong (more ++ others) event next
left_among more others event next among =
    IfSome_then next among (λ (m : Moment) c. Contains-append_left more others (m, event) c)

right_among : (more others : List (Moment × Event)) (event : Event) (next : Option Moment) → IsAmong others event next
    → IsAmong (more ++ others) event next
right_among more others event next among =
    IfSome_then next among (λ (m : Moment) c. Contains-append_right more others (m, event) c)

-- the step brings the entry of the frame, and the selection of the port
pub brings_both : {T : Type 0} (old new : Course T) (happened : Event) (row port : ℕ) (s t : Stage) (u v : Turn)
    → Steps old new happened row port s t → Turns old new happened port u v
    → Brings (moment_of old) (moment_of new) happened (entries_by row t ++ selections port v)
brings_both {T} old new happened row port s t u v step turn =
    let own : List (Moment × Event) = entries_by row t in
    let its : List (Moment × Event) = selections port v in
    let more : List (Moment × Event) = own ++ its in
    let Apart : Moment × Event → Moment × Event → Type 0 = λ (x y : Moment × Event). x.1 ≢ y.1 in
    let Free : Event → Type 0 = IsFree (moment_of old) happened in
    record {
      each = All-append (λ (x : Moment × Event). moment_of new x.1 ≡ Some x.0) own its
          (each_of_row (moment_of new) row t (ap (arrival_by row) step.becomes)
          (ap (eligibility_by row) step.becomes))
          (each_of_port (moment_of new) port v (ap (selection_by port) turn.becomes));
      free = All-append (λ (x : Moment × Event). Free x.1) own its
          (of_row Free row t
          (λ m is. step.arrival m (ap (arrival_by row) (sym step.was) ∙ is))
          (λ m is. step.eligibility m (ap (eligibility_by row) (sym step.was) ∙ is)))
          (of_port Free port v (λ m is. turn.selection m (ap (selection_by port) (sym turn.was) ∙ is)));
      apart = all_pairs_append Apart own its (one_apart Apart own (few_of_row row t))
          (one_apart Apart its (few_of_port port v))
          (of_row (λ (e : Event). All (λ (y : Moment × Event). e ≢ y.1) its) row t
          (of_port (λ (f : Event). Arrival row ≢ f) port v (λ same. cc))
          (of_port (λ (f : Event). Eligibility row ≢ f) port v (λ same. cc)));
      fates = all_fates old new happened more row port s t step
          (left_among own its (Arrival row) (arrival_by row t) (arrival_among row t))
          (left_among own its (Eligibility row) (eligibility_by row t) (eligibility_among row t))
          (changes (λ m is. turn.selection m (ap (selection_by port) (sym turn.was) ∙ is))
          (subst (λ (x : Turn). IsAmong more (Selection port) (selection_by port x)) (sym turn.becomes)
          (right_among own its (Selection port) (selection_by port v) (selection_among port v))));
    }

-- the event that a frame along a row's leg is to have next is none but the one that has happened
pub record IsFreeRow (moments : Event → Option Moment) (happened : Event) (row : ℕ) : Type 0 where
  pub arrival : IsFree moments happened (Arrival row)
  pub eligibility : IsFree moments happened (Eligibility row)

-- the stage of a frame that becomes eligible then, or not at all
abbrev pub stage_due : Option Ps → Stage
stage_due (Some e) = Due e
stage_due None = Over

-- an arrival along a row's leg that leaves all ports and all rows but these as they were; each of these had no event to
-- happen but the one that has happened, and becomes eligible then
pub record Enters {T : Type 0} (old new : Course T) (row : ℕ) (rows : List ℕ) (due : Option Ps) : Type 0 where
  pub own : Contains rows row
  pub apart : AllPairs (λ (n m : ℕ). n ≢ m) rows
  pub free : All (IsFreeRow (moment_of old) (Arrival row)) rows
  pub becomes : All (λ (n : ℕ). stage_at new n ≡ stage_due due) rows
  pub stages : (n : ℕ) → All (λ (m : ℕ). n ≢ m) rows → stage_at new n ≡ stage_at old n
  pub turns : (p : ℕ) → turn_at new p ≡ turn_at old p

-- a row that is none of these is not the one of the arrival
not-own : (rows : List ℕ) (row n : ℕ) → Contains rows row → All (λ (m : ℕ). n ≢ m) rows → n ≢ row
not-own rows row n own off same = off own.0 row own.1 (same ∙ sym own.2)

-- what holds of each element of a list holds of an element of it
pub of-element : {X : Type 0} (P : X → Type 0) (xs : List X) (x : X) → All P xs → Contains xs x → P x
of-element P xs x all has = subst P has.2 (all has.0 x has.1)

-- the entries of rows that become eligible
abbrev entry_of : Ps → ℕ → Moment × Event
entry_of e row = (eligible_moment row e, Eligibility row)

-- what holds of the entry of each row holds of all that they bring
pub of-due : (Q : Moment × Event → Type 0) (due : Option Ps) (rows : List ℕ)
    → ((e : Ps) → due ≡ Some e → All (λ (n : ℕ). Q (entry_of e n)) rows) → All Q (due_entries due rows)
of-due Q (Some e) rows each = All-map Q (entry_of e) rows (each e refl)
of-due Q None rows each = All-nil Q

-- the entries of different rows are of different events
due-apart : (due : Option Ps) (rows : List ℕ) → AllPairs (λ (n m : ℕ). n ≢ m) rows
    → AllPairs (λ (x y : Moment × Event). x.1 ≢ y.1) (due_entries due rows)
due-apart None rows apart i j d before within same = absurd (omega arith)
due-apart (Some e) rows apart i j d before within same =
    let long = length-map rows (entry_of e) in
    let first = get_or-map (entry_of e) rows i 0 d (omega (arith, long)) in
    let second = get_or-map (entry_of e) rows j 0 d (omega (arith, long)) in
    apart i j 0 before (omega (arith, long))
    (ap number_of (sym (ap (λ (x : Moment × Event). x.1) first) ∙ same ∙ ap (λ (x : Moment × Event). x.1) second))

-- the entry of a row that becomes eligible is among them, and no other event of a row is to happen
due-among : (due : Option Ps) (rows : List ℕ) (n : ℕ) → Contains rows n
    → IsAmong (due_entries due rows) (Eligibility n) (eligibility_by n (stage_due due))
due-among (Some e) rows n has = contains-map (entry_of e) rows n has
due-among None rows n has = tt

no-arrival : (due : Option Ps) (more : List (Moment × Event)) (n : ℕ)
    → IsAmong more (Arrival n) (arrival_by n (stage_due due))
no-arrival (Some e) more n = tt
no-arrival None more n = tt

-- the fate of each event, by whether its row is one of these
enter_fates : {T : Type 0} {old new : Course T} {row : ℕ} {rows : List ℕ} {due : Option Ps}
    → Enters old new row rows due → (event : Event)
    → Fate (moment_of old) (moment_of new) (Arrival row) (due_entries due rows) event
enter_fates {T} {old} {new} {row} {rows} {due} step (Arrival n) =
    let Free : ℕ → Type 0 = IsFreeRow (moment_of old) (Arrival row) in
    let Is : ℕ → Type 0 = λ (m : ℕ). stage_at new m ≡ stage_due due in
    elim (in-or-off rows n)
    as (λ _. Fate (moment_of old) (moment_of new) (Arrival row) (due_entries due rows) (Arrival n)) [
      | inl has ↦ changes (of-element Free rows n step.free has).arrival
          (subst (λ (s : Stage). IsAmong (due_entries due rows) (Arrival n) (arrival_by n s))
          (sym (of-element Is rows n step.becomes has)) (no-arrival due (due_entries due rows) n))
      | inr off ↦ stays (λ same. not-own rows row n step.own off (ap number_of same))
          (ap (arrival_by n) (step.stages n off))
    ]
enter_fates {T} {old} {new} {row} {rows} {due} step (Eligibility n) =
    let Free : ℕ → Type 0 = IsFreeRow (moment_of old) (Arrival row) in
    let Is : ℕ → Type 0 = λ (m : ℕ). stage_at new m ≡ stage_due due in
    elim (in-or-off rows n)
    as (λ _. Fate (moment_of old) (moment_of new) (Arrival row) (due_entries due rows) (Eligibility n)) [
      | inl has ↦ changes (of-element Free rows n step.free has).eligibility
          (subst (λ (s : Stage). IsAmong (due_entries due rows) (Eligibility n) (eligibility_by n s))
          (sym (of-element Is rows n step.becomes has)) (due-among due rows n has))
      | inr off ↦ stays (λ same. cc) (ap (eligibility_by n) (step.stages n off))
    ]
enter_fates {T} {old} {new} {row} {rows} {due} step (Selection port) =
    stays (λ same. cc) (ap (selection_by port) (step.turns port))

-- the arrival brings the entries of these rows
pub brings_each : {T : Type 0} {old new : Course T} {row : ℕ} {rows : List ℕ} {due : Option Ps}
    → Enters old new row rows due → Brings (moment_of old) (moment_of new) (Arrival row) (due_entries due rows)
brings_each {T} {old} {new} {row} {rows} {due} step =
    record {
      each = of-due (λ (x : Moment × Event). moment_of new x.1 ≡ Some x.0) due rows (λ e is k d h.
          ap (eligibility_by (get_or rows k d)) (step.becomes k d h ∙ ap stage_due is));
      free = of-due (λ (x : Moment × Event). IsFree (moment_of old) (Arrival row) x.1) due rows (λ e is k d h.
          (step.free k d h).eligibility);
      apart = due-apart due rows step.apart;
      fates = enter_fates step;
    }

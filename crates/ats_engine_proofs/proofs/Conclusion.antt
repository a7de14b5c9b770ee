-- Where nothing is to happen any more, the run is over.
use Rattle.std.proofs.Common.{◌≡◌, ℕ, ◌-◌, ◌<◌, ◌≤◌, List, [], ◌∷◌, length, map, All, Option, Some}
use Rattle.std.proofs.Common.{refl, sym, ap, ◌∙◌, subst, inl, inr, arith, IsPermutation}
use Rattle.std.specs.Prelude.{Contains, IfSome, ◌⊎◌}
use Rattle.std.specs.List.{zip}
use Rattle.std.specs.List.Sorted.{IsNonDecreasing}
use Rattle.std.proofs.lemmas.Bool.{cases_lt}
use Rattle.std.proofs.lemmas.List.Elements.{All-head, All-tail, All-from_get_or}
use Rattle.std.proofs.lemmas.List.Sorted.{All-permutation, IsPermutation-refl, IsPermutation-sym, IsPermutation-trans}
use Rattle.ats_topology.specs.Port.{port_at}
use Rattle.ats_network.specs.Network.{DeclaredNetwork}
use Rattle.ats_network.specs.Senders.{IsSender, sender_at}
use Rattle.ats_network.proofs.SenderLemmas.{sender_keeps}
use Rattle.ats_group.specs.Judge.{ats_judge}
use Rattle.ats_port_rule.specs.PortRule.{KeepsPortRule, KeepsTie}
use Rattle.ats_port_rule.proofs.Permuted.{rule-permutation, tie-permutation}
use Rattle.ats_transmit.specs.Sending.{transmissions}
use Rattle.ats_transmit.specs.State.{PortState}
use Rattle.ats_transmit.specs.declared.offer.Offer.{Offer}
use Rattle.ats_events.specs.declared.moment.Moment.{Moment}
use Rattle.ats_trace.specs.Eligibility.{IsJudged, IsPassed}
use Rattle.ats_trace.specs.Journey.{Leg, Travel, IsJourney}
use Rattle.ats_trace.specs.Projections.{Handed, sent_by, crossings_by, handed_by}
use Rattle.ats_trace.specs.Run.{IsRunBy, HasReleases}
use Rattle.ats_trace.specs.Stored.{gathered}
use Rattle.ats_trace.specs.declared.journey.Ending.{Ending}
use Rattle.ats_trace.specs.declared.journey.Release.{Release}
use Rattle.ats_run_records.specs.Progress.{Progress, progress_at, finished, told_of}
use Rattle.ats_engine_steps.specs.Course.{Course, stage_at, turn_at, travels, path_of, place_at, offer_at, ending_by}
use Rattle.ats_engine_steps.specs.Course.{told_by, sent_so_far, crossings_so_far, handed_so_far}
use Rattle.ats_engine_steps.specs.Entries.{moment_of, arrival_by, eligibility_by, selection_by}
use Rattle.ats_engine_steps.specs.Frames.{IsFrame, IsUnsent}
use Rattle.ats_engine_steps.specs.Invariant.{Holds, IsShaped}
use Rattle.ats_engine_steps.specs.Judging.{IsGroupOf}
use Rattle.ats_engine_steps.specs.Ports.{IsPortOf, IsTurn, port_state_at}
use Rattle.ats_engine_steps.specs.declared.event.Event.{Event}
use Rattle.ats_engine_steps.specs.declared.event.Event.TheVariants.{Arrival, Eligibility, Selection}
use Rattle.ats_engine_steps.specs.declared.stage.Stage.{Stage}
use Rattle.ats_engine_steps.specs.declared.stage.Stage.TheVariants.{Apart, Coming, Due, Waiting, Over}
use Rattle.ats_engine_steps.specs.declared.turn.Turn.{Turn}
use Rattle.ats_engine_steps.specs.declared.turn.Turn.TheVariants.{Resting, Selecting}
use Rattle.ats_engine_proofs.proofs.Classes.{IsKnown, none-above}
pub use Rattle.ats_engine_proofs.proofs.Finished.{ledger_in}
use Rattle.ats_engine_proofs.proofs.Finished.{releases-told}
use Rattle.ats_engine_proofs.proofs.LegPorts.{leg-all}
use Rattle.ats_engine_proofs.proofs.LinkOrder.{link-permuted, pace-permuted}
use Rattle.ats_engine_proofs.proofs.SoFar.{sent-so_far, crossings-so_far, handed-so_far}
use Rattle.ats_engine_proofs.proofs.Ways.{stands-some, stands-within}
use Rattle.ats_engine_proofs.proofs.Journeys.{journeys-finished}

-- an empty list has nothing
none-contained : {X : Type 0} (x : X) → Contains [] x → ⊥
none-contained x has = omega (arith, has.1)

-- without entries no event is to happen
none-to-come : {T : Type 0} {key : T → ℕ → ℕ → ℕ} {wait : ℕ → ℕ → ℕ} {network : DeclaredNetwork}
    {releases : List Release} {course : Course T} → Holds key wait network releases course []
    → (event : Event) (moment : Moment) → moment_of course event ≡ Some moment → ⊥
none-to-come holds event moment is =
    let IsThere : Moment → Type 0 = λ (m : Moment). Contains {X = Moment × Event} [] (m, event) in
    none-contained (moment, event) (subst (λ (o : Option Moment). IfSome o IsThere) is (holds.awaited.there event))

-- so along each leg the frame waits, or is over, or has not come there
waits-or-ended : {T : Type 0} {key : T → ℕ → ℕ → ℕ} {wait : ℕ → ℕ → ℕ} {network : DeclaredNetwork}
    {releases : List Release} {course : Course T} → Holds key wait network releases course [] → (row : ℕ)
    (stage : Stage) → stage_at course row ≡ stage → (stage ≡ Waiting) ⊎ ((stage ≡ Over) ⊎ (stage ≡ Apart))
waits-or-ended holds row Apart is = inr (inr refl)
waits-or-ended holds row (Coming at) is =
    absurd (none-to-come holds (Arrival row) _ (ap (arrival_by row) is))
waits-or-ended holds row (Due at) is =
    absurd (none-to-come holds (Eligibility row) _ (ap (eligibility_by row) is))
waits-or-ended holds row Waiting is = inl refl
waits-or-ended holds row Over is = inr (inl refl)

-- no port holds a frame
none-held : {T : Type 0} {key : T → ℕ → ℕ → ℕ} {wait : ℕ → ℕ → ℕ} {network : DeclaredNetwork}
    {releases : List Release} {course : Course T} → Holds key wait network releases course [] → (port : ℕ)
    → port < length network.topology.ports → (offer : Offer) → Contains (port_state_at course port).held offer → ⊥
none-held {T} {key} {wait} {network} {releases} {course} holds port within offer has =
    by (turn_at course port) refl (holds.ports port within).turn
  where
    by : (turn : Turn) → turn_at course port ≡ turn → IsTurn (port_state_at course port) turn → ⊥
    by Resting is rests = none-contained offer (subst (λ (held : List Offer). Contains held offer) rests has)
    by (Selecting at) is selects = none-to-come holds (Selection port) _ (ap (selection_by port) is)

-- and no frame waits
none-waits : {T : Type 0} {key : T → ℕ → ℕ → ℕ} {wait : ℕ → ℕ → ℕ} {network : DeclaredNetwork}
    {releases : List Release} {course : Course T} → Holds key wait network releases course [] → (row : ℕ)
    → row < length course.records → stage_at course row ≡ Waiting → ⊥
none-waits {T} {key} {wait} {network} {releases} {course} holds row within waits =
    let p : Progress = progress_at course.records row in
    let is : IsFrame network course p Waiting = subst (IsFrame network course p) waits (holds.frames row within) in
    let s : IsSender network.topology (sender_at network p.release.sender) =
    sender_keeps network p.release.sender holds.rules is.sender in
    let some = stands-some IsUnsent (path_of network p) p.hops is.stands.here.0 in
    let along = stands-within IsUnsent (path_of network p) p.hops is.stands.here.0 in
    let port : place_at network course row < length network.topology.ports =
    leg-all network p.release.sender p.leg holds.rules is.sender is.leg
    (λ (port : ℕ). port < length network.topology.ports) s.ports (length p.hops - 1) 0 (omega arith) in
    none-held holds (place_at network course row) port (offer_at network course row)
    ((holds.ports (place_at network course row) port).holding.waiting row within waits refl)

-- so each leg is whole, or its frame has not come there
pub each-ended : {T : Type 0} {key : T → ℕ → ℕ → ℕ} {wait : ℕ → ℕ → ℕ} {network : DeclaredNetwork}
    {releases : List Release} {course : Course T} → Holds key wait network releases course [] → (row : ℕ)
    → row < length course.records → (stage_at course row ≡ Over) ⊎ (stage_at course row ≡ Apart)
each-ended {T} {key} {wait} {network} {releases} {course} holds row within =
    by (waits-or-ended holds row (stage_at course row) refl)
  where
    by : (stage_at course row ≡ Waiting) ⊎ ((stage_at course row ≡ Over) ⊎ (stage_at course row ≡ Apart))
        → (stage_at course row ≡ Over) ⊎ (stage_at course row ≡ Apart)
    by (inl waits) = absurd (none-waits holds row within waits)
    by (inr ended) = ended

-- such a stage leaves the ending as it is
abbrev IsEnded : Stage → Type 0
IsEnded stage = (ending : Ending) → ending_by stage ending ≡ ending

ended-by : (stage : Stage) → (stage ≡ Over) ⊎ (stage ≡ Apart) → IsEnded stage
ended-by stage (inl over) ending = ap (λ (s : Stage). ending_by s ending) over
ended-by stage (inr apart) ending = ap (λ (s : Stage). ending_by s ending) apart

-- so what has happened so far along each leg is what is told in the end
told-finished : (stages : List Stage) (records : List Progress) → length stages ≡ length records
    → All IsEnded stages → map told_by (zip stages records) ≡ map told_of records
told-finished [] [] even ended = refl
told-finished [] (p ∷ records) even ended = absurd (omega arith)
told-finished (s ∷ stages) [] even ended = absurd (omega arith)
told-finished (s ∷ stages) (p ∷ records) even ended =
    ap (λ (e : Ending). (p.release, record { hops = p.hops; ending = e }) ∷ map told_by (zip stages records))
    (All-head IsEnded s stages ended p.ending)
    ∙ ap (λ (rows : List (Release × Leg)). told_of p ∷ rows)
    (told-finished stages records (omega arith) (All-tail IsEnded s stages ended))

-- what a port has sent is what is told of it
sent-told : {T : Type 0} {key : T → ℕ → ℕ → ℕ} {network : DeclaredNetwork} {releases : List Release}
    {course : Course T} (port : ℕ) (standing : PortState T) → IsShaped network releases course
    → IsPortOf key network course port standing
    → IsPermutation (transmissions standing.sent) (sent_by network (travels course) port)
sent-told {T} {key} {network} {releases} {course} port standing shape is =
    IsPermutation-trans (transmissions standing.sent) (sent_so_far network course port)
    (sent_by network (travels course) port) is.past.sent (sent-so_far shape port)

-- it keeps the port's rule
port-rule : {T : Type 0} {key : T → ℕ → ℕ → ℕ} {network : DeclaredNetwork} {releases : List Release}
    {course : Course T} (port : ℕ) (standing : PortState T) → IsShaped network releases course
    → IsPortOf key network course port standing
    → KeepsPortRule (port_at network.topology.ports port).ps_per_bit (sent_by network (travels course) port)
port-rule {T} {key} {network} {releases} {course} port standing shape is =
    subst (λ (ps : ℕ). KeepsPortRule ps (sent_by network (travels course) port)) is.of_network.ps_per_bit
    (rule-permutation standing.ps_per_bit (transmissions standing.sent) (sent_by network (travels course) port)
    (sent-told port standing shape is) is.past.lawful.rule)

-- and so it keeps its tie
port-tie : {T : Type 0} {key : T → ℕ → ℕ → ℕ} {network : DeclaredNetwork} {releases : List Release}
    {course : Course T} (port : ℕ) (standing : PortState T) → IsShaped network releases course
    → IsPortOf key network course port standing
    → KeepsTie (key course.tie) (sent_by network (travels course) port)
port-tie {T} {key} {network} {releases} {course} port standing shape is =
    subst (λ (t : T). KeepsTie (key t) (sent_by network (travels course) port)) is.of_network.tie
    (tie-permutation (key standing.tie) (transmissions standing.sent) (sent_by network (travels course) port)
    (sent-told port standing shape is) is.past.lawful.tie)

-- the group behind a port for a class has judged what came to it
group-judged : {T : Type 0} (network : DeclaredNetwork) (releases : List Release) (course : Course T)
    (port class : ℕ) → IsShaped network releases course → IsGroupOf network course port class
    → IsJudged ats_judge network port (handed_by network (travels course) port class)
group-judged network releases course port class shape is =
    let so_far : List Handed = handed_so_far network course port class in
    let told : List Handed = handed_by network (travels course) port class in
    record {
      arrivals = is.arrivals;
      same = IsPermutation-trans told so_far is.arrivals
          (IsPermutation-sym so_far told (handed-so_far shape port class)) is.same;
      in_order = is.in_order;
      verdicts = is.verdicts;
    }

-- also where nothing came
none-judged : (network : DeclaredNetwork) (port : ℕ) (handed : List Handed) → handed ≡ []
    → IsJudged ats_judge network port handed
none-judged network port handed none =
    let nothing : List Handed = [] in
    subst (IsJudged ats_judge network port) (sym none) (record {
      arrivals = [];
      same = IsPermutation-refl nothing;
      in_order = λ i j d less h. absurd (omega arith);
      verdicts = refl;
    })

-- so the groups have judged all streams' frames
all-judged : {T : Type 0} {key : T → ℕ → ℕ → ℕ} {wait : ℕ → ℕ → ℕ} {network : DeclaredNetwork}
    {releases : List Release} {course : Course T} {entries : List (Moment × Event)}
    → Holds key wait network releases course entries → All (IsKnown network) (travels course) → (port class : ℕ)
    → port < length network.topology.ports → 1 ≤ class
    → IsJudged ats_judge network port (handed_by network (travels course) port class)
all-judged {T} {key} {wait} {network} {releases} {course} holds known port class within least =
    elim (cases_lt class 8) as (λ _. IsJudged ats_judge network port
    (handed_by network (travels course) port class)) [
      | inl low ↦ group-judged network releases course port class holds.shape
          (holds.groups port class within least (omega arith))
      | inr high ↦ none-judged network port
          (handed_by network (travels course) port class)
          (none-above network (travels course) port class holds.rules known high)
    ]

-- the run so far is legal, and keeps its tie and its pace
run-holds : {T : Type 0} {key : T → ℕ → ℕ → ℕ} {wait : ℕ → ℕ → ℕ} {network : DeclaredNetwork}
    {releases : List Release} {course : Course T} {entries : List (Moment × Event)}
    → Holds key wait network releases course entries → HasReleases releases (travels course)
    → All (IsJourney network) (travels course) → IsRunBy (key course.tie) wait network (travels course)
run-holds {T} {key} {wait} {network} {releases} {course} holds has journeys = record {
  legal = record {
    in_order = subst (λ (rs : List Release). IsNonDecreasing (map (λ (r : Release). r.at.0) rs)) (sym has)
        holds.shape.in_order;
    journeys = journeys;
    ports = λ port within. port-rule port (port_state_at course port) holds.shape (holds.ports port within);
    links = λ port within. link-permuted (port_at network.topology.ports port) (crossings_so_far network course port)
        (crossings_by network (travels course) port) (crossings-so_far holds.shape port) (holds.paces port within).rule;
    groups = all-judged holds (λ k d h. (journeys k d h).sender);
    flows = λ port within. All-permutation (IsPassed network) (handed_so_far network course port 0)
        (handed_by network (travels course) port 0) (handed-so_far holds.shape port 0) (holds.flows port within);
  };
  pace = λ port within. pace-permuted wait (port_at network.topology.ports port)
      (crossings_so_far network course port) (crossings_by network (travels course) port)
      (crossings-so_far holds.shape port) (holds.paces port within).pace;
  tie = λ port within. port-tie port (port_state_at course port) holds.shape (holds.ports port within);
}

-- where nothing is to happen any more, the run so far is the one that is finished
pub run-finished : {T : Type 0} {key : T → ℕ → ℕ → ℕ} {wait : ℕ → ℕ → ℕ} {network : DeclaredNetwork}
    {releases : List Release} {course : Course T} → Holds key wait network releases course []
    → travels course ≡ finished (ledger_in course)
run-finished {T} {key} {wait} {network} {releases} {course} holds =
    ap (λ (rows : List (Release × Leg)). gathered rows course.firsts)
    (told-finished course.stages course.records holds.shape.stages
    (All-from_get_or IsEnded course.stages Over
    (λ row within. ended-by (stage_at course row)
    (each-ended holds row (omega (arith, within, holds.shape.stages))))))

-- and the run is over
pub ended-run : {T : Type 0} {key : T → ℕ → ℕ → ℕ} {wait : ℕ → ℕ → ℕ} {network : DeclaredNetwork}
    {releases : List Release} {course : Course T} → Holds key wait network releases course []
    → IsRunBy (key course.tie) wait network (finished (ledger_in course))
    × HasReleases releases (finished (ledger_in course))
ended-run {T} {key} {wait} {network} {releases} {course} holds =
    let run : List Travel = finished (ledger_in course) in
    let same : travels course ≡ run = run-finished holds in
    let has : HasReleases releases run = releases-told holds.shape in
    let journeys : All (IsJourney network) run = journeys-finished holds (each-ended holds) in (
      subst (IsRunBy (key course.tie) wait network) same
          (run-holds holds (subst (HasReleases releases) (sym same) has)
          (subst (All (IsJourney network)) (sym same) journeys)),
      has,
    )

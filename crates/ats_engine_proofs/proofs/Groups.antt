use Rattle.std.proofs.Common.{◌≡◌, ℕ, ◌-◌, ◌<◌, ◌≤◌, List, [], ◌∷◌, ◌++◌, length, map, All, IsPermutation, sym, ap, ◌∙◌}
use Rattle.std.proofs.Common.{subst, refl, inl, inr, arith}
use Rattle.std.specs.Prelude.{◌==◌, Option, if◌then◌else◌}
use Rattle.std.specs.List.Sorted.{IsNonDecreasing}
use Rattle.std.proofs.lemmas.Bool.{cases_eq, cases_lt, cond-true, cond-false, eq-eqb, ne_eqb}
use Rattle.std.proofs.lemmas.List.{map_push, length-map, get_or-map}
use Rattle.std.proofs.lemmas.List.Elements.{All-cons, All-push}
use Rattle.std.proofs.lemmas.List.Sorted.{All-permutation, IsPermutation-sym, IsPermutation-trans, IsPermutation-cons}
use Rattle.std.proofs.lemmas.List.Sorted.{IsPermutation-to_front, IsNonDecreasingBy-push}
use Rattle.ats_num.specs.declared.time.Ps.{Ps}
use Rattle.ats_network.specs.Network.{DeclaredNetwork, IsNetwork}
use Rattle.ats_network.specs.Senders.{IsSender, sender_at}
use Rattle.ats_network.proofs.ClassLemmas.{class_at-le}
use Rattle.ats_network.proofs.SenderLemmas.{sender_keeps}
use Rattle.ats_group.specs.Group.{State, Offer, judged, after, first, verdicts_of, state_after}
use Rattle.ats_streams.specs.Traffic.{is_declared_size}
use Rattle.ats_group.specs.GroupsState.{GroupsState, verdict_of, value_after}
use Rattle.ats_group.specs.Laws.{Outlasts}
use Rattle.ats_streams.specs.declared.traffic.Declared.{Declared}
use Rattle.ats_group.specs.declared.verdict.Verdict.{Verdict}
use Rattle.ats_group.specs.declared.verdict.Verdict.TheVariants.{Eligible, Size}
use Rattle.ats_group.proofs.StepLemmas.{the_rest}
use Rattle.ats_schedulers.specs.Schedulers.{scheduler_of}
use Rattle.ats_events.specs.declared.moment.Moment.{Moment}
use Rattle.ats_trace.specs.Eligibility.{IsPassed, declared_by, offer_of, residence_of_groups, scheduled_by}
use Rattle.ats_trace.specs.Projections.{Handed}
use Rattle.ats_trace.specs.declared.journey.Release.{Release}
use Rattle.ats_run_records.specs.Progress.{Progress, progress_at}
use Rattle.ats_engine_steps.specs.Course.{Course, handed_so_far, place_at, place_of, sender_of}
use Rattle.ats_engine_steps.specs.Judging.{AreGroupsOf, IsStateOf, IsGroupOf, ArePassed}
use Rattle.ats_engine_steps.specs.Steps.{Comes, BecomesEligible, Selects, class_behind, verdict_now, groups_now}
use Rattle.ats_engine_steps.specs.Steps.{scheduler_before}
use Rattle.ats_engine_steps.specs.declared.event.Event.{Event}
use Rattle.ats_engine_steps.specs.declared.event.Event.TheVariants.{Arrival, Selection}
use Rattle.ats_engine_proofs.specs.Next.{IsEligibleNow, IsNext, IsArrival}
use Rattle.ats_engine_proofs.proofs.Allowed.{may-come}
use Rattle.ats_engine_proofs.proofs.Judged.{IsScheduler, verdict-is, state-own, state-other, verdicts-more, state-more}
use Rattle.ats_engine_proofs.proofs.Now.{next-reached}
use Rattle.ats_engine_proofs.proofs.Travels.{comes-first, comes-here, comes-elsewhere, offered-handed, selects-handed}

-- at its own station a row is judged by no group
first_groups : (network : DeclaredNetwork) (groups : GroupsState) (p : Progress) (now : ℕ) → length p.hops ≡ 0
    → groups_now network groups p now ≡ groups
first_groups network groups p now e = cond-true (length p.hops == 0) groups _ (eq-eqb (length p.hops) 0 e)

-- nor where it comes in class 0
flow_groups : (network : DeclaredNetwork) (groups : GroupsState) (p : Progress) (now : ℕ) → 0 < length p.hops
    → class_behind network p ≡ 0 → groups_now network groups p now ≡ groups
flow_groups network groups p now some e =
    cond-false (length p.hops == 0) groups _ (ne_eqb (length p.hops) 0 (λ none. omega (arith, some, none)))
    ∙ cond-true (class_behind network p == 0) groups _ (eq-eqb (class_behind network p) 0 e)

-- and its verdict goes by its size then
flow_verdict : (network : DeclaredNetwork) (groups : GroupsState) (p : Progress) (now : ℕ) → 0 < length p.hops
    → class_behind network p ≡ 0 → verdict_now network groups p now
    ≡ (if is_declared_size (declared_by network p.release.sender) p.release.octets
    then Eligible (record { 0 = now }) else Size)
flow_verdict network groups p now some e =
    cond-false (length p.hops == 0) (Eligible (record { 0 = now })) _
    (ne_eqb (length p.hops) 0 (λ none. omega (arith, some, none)))
    ∙ cond-true (class_behind network p == 0) _ _ (eq-eqb (class_behind network p) 0 e)

-- in any other class it is, by the scheduler before its hop
stream_groups : (network : DeclaredNetwork) (groups : GroupsState) (p : Progress) (now : ℕ) → 0 < length p.hops
    → 1 ≤ class_behind network p → groups_now network groups p now
    ≡ value_after groups (scheduler_before network p) now p.release.octets
stream_groups network groups p now some class =
    cond-false (length p.hops == 0) groups _ (ne_eqb (length p.hops) 0 (λ none. omega (arith, some, none)))
    ∙ cond-false (class_behind network p == 0) groups _
    (ne_eqb (class_behind network p) 0 (λ none. omega (arith, class, none)))

-- and so goes its verdict
stream_verdict : (network : DeclaredNetwork) (groups : GroupsState) (p : Progress) (now : ℕ) → 0 < length p.hops
    → 1 ≤ class_behind network p → verdict_now network groups p now
    ≡ verdict_of groups (scheduler_before network p) now p.release.octets
stream_verdict network groups p now some class =
    cond-false (length p.hops == 0) (Eligible (record { 0 = now })) _
    (ne_eqb (length p.hops) 0 (λ none. omega (arith, some, none)))
    ∙ cond-false (class_behind network p == 0) _ _
    (ne_eqb (class_behind network p) 0 (λ none. omega (arith, class, none)))

-- the groups are still those of the network after a row
kept_members : (network : DeclaredNetwork) (groups : GroupsState) (member arrival octets : ℕ)
    → AreGroupsOf network groups → AreGroupsOf network (value_after groups member arrival octets)
kept_members network groups member arrival octets are =
    let kept : Outlasts groups (value_after groups member arrival octets) =
    the_rest groups (record { member = member; arrival = arrival; octets = octets }) are.lawful in
    record {
      lawful = kept.lawful;
      residences = kept.residences ∙ are.residences;
      members = kept.members ∙ are.members;
    }

-- so they are after an arrival
members_now : (network : DeclaredNetwork) (groups : GroupsState) (p : Progress) (now : ℕ)
    → AreGroupsOf network groups → AreGroupsOf network (groups_now network groups p now)
members_now network groups p now are =
    let Kept : GroupsState → Type 0 = AreGroupsOf network in
    let judged = kept_members network groups (scheduler_before network p) now
    p.release.octets are in
    elim (cases_lt 0 (length p.hops)) as (λ _. Kept (groups_now network groups p now)) [
      | inl some ↦ elim (cases_lt 0 (class_behind network p)) as (λ _. Kept (groups_now network groups p now)) [
        | inl class ↦ subst Kept (sym (stream_groups network groups p now some class)) judged
        | inr none ↦ subst Kept (sym (flow_groups network groups p now some (omega (arith, none)))) are
      ]
      | inr none ↦ subst Kept (sym (first_groups network groups p now (omega (arith, none)))) are
    ]

-- after an arrival the groups are still those of the network
pub comes-members : {T : Type 0} {key : T → ℕ → ℕ → ℕ} {wait : ℕ → ℕ → ℕ} {network : DeclaredNetwork}
    {releases : List Release} {old new : Course T} {now : Moment} {row : ℕ} {entries : List (Moment × Event)}
    {due : Option Ps} → IsNext key wait network releases old now (Arrival row) entries
    → Comes network old new now row due
    → AreGroupsOf network new.groups
comes-members {T} {key} {wait} {network} {releases} {old} {new} {now} {row} {entries} {due} next step =
    subst (AreGroupsOf network) (sym (ap (λ (c : Course T). c.groups) step.becomes))
    (members_now network old.groups (progress_at old.records row) now.at.0 next.holds.members)

-- a group to which no row came, and which keeps what it kept
same_group : {T : Type 0} (network : DeclaredNetwork) (old new : Course T) (now : Moment) (other class : ℕ)
    → handed_so_far network new other class ≡ handed_so_far network old other class
    → ((state : State) → IsStateOf network old.groups other class state
    → IsStateOf network new.groups other class state) → new.last ≡ now → old.last.at.0 ≤ now.at.0
    → IsGroupOf network old other class → IsGroupOf network new other class
same_group {T} network old new now other class same kept last later is =
    let arrivals : List Handed = is.arrivals in
    let time = ap (λ (m : Moment). m.at.0) last in
    record {
      arrivals = arrivals;
      same = subst (λ (hs : List Handed). IsPermutation hs arrivals) (sym same) is.same;
      in_order = is.in_order;
      verdicts = is.verdicts;
      state = kept _ is.state;
      reached = λ k d h. omega (arith, is.reached k d h, later, time);
    }

-- a row comes to this group
pub record IsTold (network : DeclaredNetwork) (groups : GroupsState) (stream leg hop port class arrival octets : ℕ)
    (h : Handed) : Type 0 where
  pub scheduler : IsScheduler network stream leg hop port class
  pub of_sender : h.crossing.sent.sender ≡ stream
  pub arrives : h.crossing.arrival ≡ arrival
  pub size : h.crossing.octets ≡ octets
  pub judged : h.verdict ≡ verdict_of groups (scheduler_of network stream leg hop) arrival octets

-- so its offer is this
told_offer : (network : DeclaredNetwork) (groups : GroupsState) (stream leg hop port class arrival octets : ℕ)
    (h : Handed)
    → IsTold network groups stream leg hop port class arrival octets h
    → offer_of h ≡ (let o : Offer = record { member = stream; arrival = arrival; octets = octets } in o)
told_offer network groups stream leg hop port class arrival octets h told =
    let make : ℕ → ℕ → ℕ → Offer = λ (m a n : ℕ). record { member = m; arrival = a; octets = n } in
    ap (λ (m : ℕ). make m h.crossing.arrival h.crossing.octets) told.of_sender
    ∙ ap (λ (a : ℕ). make stream a h.crossing.octets) told.arrives
    ∙ ap (make stream arrival) told.size

-- the group judges it, and its fold goes a step further
own_group : {T : Type 0} (network : DeclaredNetwork) (old new : Course T) (now : Moment)
    (stream leg hop port class octets : ℕ) (h : Handed) → IsNetwork network
    → AreGroupsOf network old.groups → port < length network.topology.ports
    → IsTold network old.groups stream leg hop port class now.at.0 octets h
    → IsPermutation (h ∷ handed_so_far network old port class) (handed_so_far network new port class)
    → new.groups ≡ value_after old.groups (scheduler_of network stream leg hop) now.at.0 octets
    → new.last ≡ now → old.last.at.0 ≤ now.at.0 → IsGroupOf network old port class → IsGroupOf network new port class
own_group {T} network old new now stream leg hop port class octets h rules are below told moved becomes last later is =
    let declared : ℕ → Declared = scheduled_by network port in
    let residence : ℕ = residence_of_groups network port in
    let offers : List Offer = map offer_of is.arrivals in
    let state : State = state_after declared residence (first declared) offers in
    let offer : Offer = record { member = stream; arrival = now.at.0; octets = octets } in
    let before : List Handed = handed_so_far network old port class in
    let after_it : List Handed = handed_so_far network new port class in
    let arrivals : List Handed = is.arrivals ++ h ∷ [] in
    let verdict = verdict-is network old.groups stream leg hop port class state now.at.0 octets are told.scheduler below
    is.state in
    let pushed : map offer_of arrivals ≡ offers ++ offer ∷ [] = map_push offer_of is.arrivals h
    ∙ ap (λ (o : Offer). offers ++ o ∷ [])
    (told_offer network old.groups stream leg hop port class now.at.0 octets h told)
    in
    let time : new.last.at.0 ≡ now.at.0 = ap (λ (m : Moment). m.at.0) last in
    let v : Verdict = verdict_of old.groups (scheduler_of network stream leg hop) now.at.0 octets in
    record {
      arrivals = arrivals;
      same = IsPermutation-trans after_it (h ∷ before) arrivals (IsPermutation-sym (h ∷ before) after_it moved)
          (IsPermutation-trans (h ∷ before) (h ∷ is.arrivals) arrivals
          (IsPermutation-cons h before is.arrivals is.same)
          (IsPermutation-sym arrivals (h ∷ is.arrivals) (IsPermutation-to_front is.arrivals h)));
      in_order = in_order_more is.arrivals h is.in_order
          (λ k d within. omega (arith, is.reached k d within, later, told.arrives));
      verdicts = map_push (λ (g : Handed). g.verdict) is.arrivals h
          ∙ ap (λ (vs : List Verdict). vs ++ h.verdict ∷ []) is.verdicts
          ∙ ap (λ (w : Verdict). verdicts_of declared residence (first declared) offers ++ w ∷ [])
          (told.judged ∙ verdict)
          ∙ sym (verdicts-more declared residence (first declared) offers offer)
          ∙ ap (verdicts_of declared residence (first declared)) (sym pushed);
      state = subst (IsStateOf network new.groups port class)
          (ap (after declared state offer) verdict
          ∙ sym (state-more declared residence (first declared) offers offer)
          ∙ ap (state_after declared residence (first declared)) (sym pushed))
          (subst (λ (g : GroupsState). IsStateOf network g port class (after declared state offer v)) (sym becomes)
          (state-own network old.groups stream leg hop port class state now.at.0 octets v rules are told.scheduler
          is.state));
      reached = All-push (λ (g : Handed). g.crossing.arrival ≤ new.last.at.0) is.arrivals h
          (λ k d within. omega (arith, is.reached k d within, later, time)) (omega (arith, told.arrives, time));
    }
  where
    in_order_more : (arrivals : List Handed) (h : Handed)
        → IsNonDecreasing (map (λ (g : Handed). g.crossing.arrival) arrivals)
        → All (λ (g : Handed). g.crossing.arrival ≤ h.crossing.arrival) arrivals
        → IsNonDecreasing (map (λ (g : Handed). g.crossing.arrival) (arrivals ++ h ∷ []))
    in_order_more arrivals h order past =
        let at : Handed → ℕ = λ (g : Handed). g.crossing.arrival in
        let many : length (map at arrivals) ≡ length arrivals = length-map arrivals at in
        subst IsNonDecreasing (sym (map_push at arrivals h))
        (IsNonDecreasingBy-push (λ (n : ℕ). n) (map at arrivals) (at h) order
        (λ d some. omega (
          arith,
          get_or-map at arrivals (length (map at arrivals) - 1) h d (omega arith),
          past (length (map at arrivals) - 1) h (omega arith),
        )))

-- what a row that comes to a bridge meets there: a sender's rules, and behind the port that it left a class of at
-- most 7
pub record IsSent (network : DeclaredNetwork) (p : Progress) : Type 0 where
  pub sender : IsSender network.topology (sender_at network p.release.sender)
  pub few : class_behind network p ≤ 7

-- the row of the next arrival does
sent_so : {T : Type 0} {key : T → ℕ → ℕ → ℕ} {wait : ℕ → ℕ → ℕ} {network : DeclaredNetwork}
    {releases : List Release} {old : Course T} {now : Moment} {row : ℕ} {entries : List (Moment × Event)}
    → IsNext key wait network releases old now (Arrival row) entries
    → IsSent network (progress_at old.records row)
sent_so {T} {key} {wait} {network} {releases} {old} {now} {row} {entries} next =
    let p : Progress = progress_at old.records row in
    let sender : IsSender network.topology (sender_at network p.release.sender) =
    sender_keeps network p.release.sender next.holds.rules (may-come next).may_come.sender in
    record { sender = sender; few = class_at-le (sender_of network p) (place_of network p) sender.classes }

-- a stream's row meets its scheduler
scheduler_so : {T : Type 0} {key : T → ℕ → ℕ → ℕ} {wait : ℕ → ℕ → ℕ} {network : DeclaredNetwork}
    {releases : List Release} {old : Course T} {now : Moment} {row : ℕ} {entries : List (Moment × Event)}
    → IsNext key wait network releases old now (Arrival row) entries
    → 0 < length (progress_at old.records row).hops → 1 ≤ class_behind network (progress_at old.records row)
    → IsScheduler network (progress_at old.records row).release.sender (progress_at old.records row).leg
    (length (progress_at old.records row).hops) (place_at network old row)
    (class_behind network (progress_at old.records row))
scheduler_so {T} {key} {wait} {network} {releases} {old} {now} {row} {entries} next some class =
    let may = (may-come next).may_come in
    record {
      is_hop = record {
        exists = may.stream class;
        of_stream = may.leg;
        later = some;
        within = omega (arith, may.room.more, may.path);
      };
      behind = refl;
      in_class = refl;
      few = (sent_so next).few;
    }

-- a row comes to a group
comes_own : {T : Type 0} {key : T → ℕ → ℕ → ℕ} {wait : ℕ → ℕ → ℕ} {network : DeclaredNetwork}
    {releases : List Release} {old new : Course T} {now : Moment} {row : ℕ} {entries : List (Moment × Event)}
    {due : Option Ps} → IsNext key wait network releases old now (Arrival row) entries
    → Comes network old new now row due
    → 0 < length (progress_at old.records row).hops → place_at network old row < length network.topology.ports
    → 1 ≤ class_behind network (progress_at old.records row)
    → IsGroupOf network new (place_at network old row) (class_behind network (progress_at old.records row))
comes_own {T} {key} {wait} {network} {releases} {old} {new} {now} {row} {entries} {due} next step some below class =
    let p : Progress = progress_at old.records row in
    let here = comes-here next step some in
    let is : IsArrival network p now.at.0 (verdict_now network old.groups p now.at.0) here.0 = here.1 in
    let sent = sent_so next in
    own_group network old new now p.release.sender p.leg (length p.hops) (place_at network old row)
    (class_behind network p) p.release.octets here.0 next.holds.rules next.holds.members below
    (record {
      scheduler = scheduler_so next some class;
      of_sender = is.of_sender;
      arrives = is.arrives;
      size = is.octets;
      judged = is.judged ∙ stream_verdict network old.groups p now.at.0 some class;
    })
    here.2
    (ap (λ (c : Course T). c.groups) step.becomes ∙ stream_groups network old.groups p now.at.0 some class)
    (ap (λ (c : Course T). c.last) step.becomes) (next-reached next).time
    (next.holds.groups (place_at network old row) (class_behind network p) below class sent.few)

-- or to another one
comes_other : {T : Type 0} {key : T → ℕ → ℕ → ℕ} {wait : ℕ → ℕ → ℕ} {network : DeclaredNetwork}
    {releases : List Release} {old new : Course T} {now : Moment} {row : ℕ} {entries : List (Moment × Event)}
    {due : Option Ps} → IsNext key wait network releases old now (Arrival row) entries
    → Comes network old new now row due
    → 0 < length (progress_at old.records row).hops → (other class : ℕ) → other < length network.topology.ports
    → 1 ≤ class → class ≤ 7
    → ¬ ((other ≡ place_at network old row) × (class ≡ class_behind network (progress_at old.records row)))
    → IsGroupOf network new other class
comes_other {T} {key} {wait} {network} {releases} {old} {new} {now} {row} {entries} {due} next step some other class
    below least most apart =
    let p : Progress = progress_at old.records row in
    let now_groups = ap (λ (c : Course T). c.groups) step.becomes in
    let Keeps : State → GroupsState → Type 0 = λ (s : State) (g : GroupsState). IsStateOf network g other class s in
    let kept : (state : State) → Keeps state old.groups → Keeps state (groups_now network old.groups p now.at.0) =
    λ state is. elim (cases_lt 0 (class_behind network p))
    as (λ _. Keeps state (groups_now network old.groups p now.at.0)) [
      | inl judged ↦ subst (Keeps state) (sym (stream_groups network old.groups p now.at.0 some judged))
          (state-other network old.groups p.release.sender p.leg (length p.hops) (place_at network old row)
          (class_behind network p) p.release.octets _ other class state next.holds.rules next.holds.members
          (scheduler_so next some judged) most apart is)
      | inr none ↦ subst (Keeps state)
          (sym (flow_groups network old.groups p now.at.0 some (omega (arith, none)))) is
    ] in
    same_group network old new now other class (comes-elsewhere next step other class apart)
    (λ state is. subst (Keeps state) (sym now_groups) (kept state is))
    (ap (λ (c : Course T). c.last) step.becomes) (next-reached next).time
    (next.holds.groups other class below least most)

-- at its own station it comes to none
comes_first : {T : Type 0} {key : T → ℕ → ℕ → ℕ} {wait : ℕ → ℕ → ℕ} {network : DeclaredNetwork}
    {releases : List Release} {old new : Course T} {now : Moment} {row : ℕ} {entries : List (Moment × Event)}
    {due : Option Ps} → IsNext key wait network releases old now (Arrival row) entries
    → Comes network old new now row due
    → length (progress_at old.records row).hops ≡ 0 → (other class : ℕ) → other < length network.topology.ports
    → 1 ≤ class → class ≤ 7 → IsGroupOf network new other class
comes_first {T} {key} {wait} {network} {releases} {old} {new} {now} {row} {entries} {due} next step none other class
    below least most =
    let p : Progress = progress_at old.records row in
    let groups : new.groups ≡ old.groups =
    ap (λ (c : Course T). c.groups) step.becomes ∙ first_groups network old.groups p now.at.0 none in
    same_group network old new now other class (comes-first next step none other class)
    (λ state is. subst (λ (g : GroupsState). IsStateOf network g other class state) (sym groups) is)
    (ap (λ (c : Course T). c.last) step.becomes) (next-reached next).time
    (next.holds.groups other class below least most)

-- and each has judged the frames of its port and class that arrived so far
pub comes-groups : {T : Type 0} {key : T → ℕ → ℕ → ℕ} {wait : ℕ → ℕ → ℕ} {network : DeclaredNetwork}
    {releases : List Release} {old new : Course T} {now : Moment} {row : ℕ} {entries : List (Moment × Event)}
    {due : Option Ps} → IsNext key wait network releases old now (Arrival row) entries
    → Comes network old new now row due
    → (other class : ℕ) → other < length network.topology.ports → 1 ≤ class → class ≤ 7
    → IsGroupOf network new other class
comes-groups {T} {key} {wait} {network} {releases} {old} {new} {now} {row} {entries} {due} next step other class
    below least most =
    let p : Progress = progress_at old.records row in
    let place : ℕ = place_at network old row in
    let behind : ℕ = class_behind network p in
    let Goal : Type 0 = IsGroupOf network new other class in
    elim (cases_lt 0 (length p.hops)) as (λ _. Goal) [
      | inl some ↦ elim (cases_eq other place) as (λ _. Goal) [
        | inl port ↦ elim (cases_eq class behind) as (λ _. Goal) [
          | inl same ↦ (
              let own : IsGroupOf network new place behind =
              comes_own next step some (omega (arith, port, below)) (omega (arith, same, least)) in
              subst (λ (c : ℕ). IsGroupOf network new other c) (sym same)
              (subst (λ (n : ℕ). IsGroupOf network new n behind) (sym port) own))
          | inr apart ↦ comes_other next step some other class below least most (λ both. apart both.1)
        ]
        | inr apart ↦ comes_other next step some other class below least most (λ both. apart both.0)
      ]
      | inr none ↦ comes_first next step (omega (arith, none)) other class below least most
    ]

-- a flow's row comes behind a port: it is passed by its size
flow_passed : {T : Type 0} {key : T → ℕ → ℕ → ℕ} {wait : ℕ → ℕ → ℕ} {network : DeclaredNetwork}
    {releases : List Release} {old new : Course T} {now : Moment} {row : ℕ} {entries : List (Moment × Event)}
    {due : Option Ps} → IsNext key wait network releases old now (Arrival row) entries
    → Comes network old new now row due
    → (some : 0 < length (progress_at old.records row).hops)
    → class_behind network (progress_at old.records row) ≡ 0 → (h : Handed)
    → IsArrival network (progress_at old.records row) now.at.0
    (verdict_now network old.groups (progress_at old.records row) now.at.0) h → IsPassed network h
flow_passed {T} {key} {wait} {network} {releases} {old} {new} {now} {row} {entries} {due} next step some class h is =
    let p : Progress = progress_at old.records row in
    let by : ℕ → ℕ → ℕ → Verdict = λ (sender octets at : ℕ).
    if is_declared_size (declared_by network sender) octets then Eligible (record { 0 = at }) else Size in
    is.judged ∙ flow_verdict network old.groups p now.at.0 some class
    ∙ ap (λ (n : ℕ). by n p.release.octets now.at.0) (sym is.of_sender)
    ∙ ap (λ (n : ℕ). by h.crossing.sent.sender n now.at.0) (sym is.octets)
    ∙ ap (by h.crossing.sent.sender h.crossing.octets) (sym is.arrives)

-- so all of them behind its port were
comes_passed : {T : Type 0} {key : T → ℕ → ℕ → ℕ} {wait : ℕ → ℕ → ℕ} {network : DeclaredNetwork}
    {releases : List Release} {old new : Course T} {now : Moment} {row : ℕ} {entries : List (Moment × Event)}
    {due : Option Ps} → IsNext key wait network releases old now (Arrival row) entries
    → Comes network old new now row due
    → 0 < length (progress_at old.records row).hops → place_at network old row < length network.topology.ports
    → class_behind network (progress_at old.records row) ≡ 0 → ArePassed network new (place_at network old row)
comes_passed {T} {key} {wait} {network} {releases} {old} {new} {now} {row} {entries} {due} next step some below
    class =
    let place : ℕ = place_at network old row in
    let here = comes-here next step some in
    let Moved : ℕ → Type 0 = λ (c : ℕ). IsPermutation (here.0 ∷ handed_so_far network old place c)
    (handed_so_far network new place c) in
    let moved : Moved 0 = subst Moved class here.2 in
    All-permutation (IsPassed network) (here.0 ∷ handed_so_far network old place 0)
    (handed_so_far network new place 0) moved
    (All-cons (IsPassed network) here.0 (handed_so_far network old place 0)
    (flow_passed next step some class here.0 here.1) (next.holds.flows place below))

-- and flows' frames were passed by their size
pub comes-flows : {T : Type 0} {key : T → ℕ → ℕ → ℕ} {wait : ℕ → ℕ → ℕ} {network : DeclaredNetwork}
    {releases : List Release} {old new : Course T} {now : Moment} {row : ℕ} {entries : List (Moment × Event)}
    {due : Option Ps} → IsNext key wait network releases old now (Arrival row) entries
    → Comes network old new now row due
    → (other : ℕ) → other < length network.topology.ports → ArePassed network new other
comes-flows {T} {key} {wait} {network} {releases} {old} {new} {now} {row} {entries} {due} next step other below =
    let p : Progress = progress_at old.records row in
    let place : ℕ = place_at network old row in
    let behind : ℕ = class_behind network p in
    let Goal : Type 0 = ArePassed network new other in
    let same : handed_so_far network new other 0 ≡ handed_so_far network old other 0 → Goal =
    λ e. subst (All (IsPassed network)) (sym e) (next.holds.flows other below) in
    elim (cases_lt 0 (length p.hops)) as (λ _. Goal) [
      | inl some ↦ elim (cases_eq other place) as (λ _. Goal) [
        | inl port ↦ elim (cases_eq behind 0) as (λ _. Goal) [
          | inl flow ↦ subst (ArePassed network new) (sym port)
              (comes_passed next step some (omega (arith, port, below)) flow)
          | inr stream ↦ same (comes-elsewhere next step other 0 (λ both. stream (sym both.1)))
        ]
        | inr apart ↦ same (comes-elsewhere next step other 0 (λ both. apart both.0))
      ]
      | inr none ↦ same (comes-first next step (omega (arith, none)) other 0)
    ]

-- all this holds after a row became eligible, since it changes neither groups nor arrivals
pub offered-members : {T : Type 0} {key : T → ℕ → ℕ → ℕ} {wait : ℕ → ℕ → ℕ} {network : DeclaredNetwork}
    {releases : List Release} {old new : Course T} {now : Moment} {row : ℕ} {entries more : List (Moment × Event)}
    → IsEligibleNow key wait network releases old now row entries
    → BecomesEligible key network old new now row more → AreGroupsOf network new.groups
offered-members {T} {key} {wait} {network} next step =
    subst (AreGroupsOf network) (sym (ap (λ (c : Course T). c.groups) step.becomes)) next.holds.members

-- each group has judged what arrived
pub offered-groups : {T : Type 0} {key : T → ℕ → ℕ → ℕ} {wait : ℕ → ℕ → ℕ} {network : DeclaredNetwork}
    {releases : List Release} {old new : Course T} {now : Moment} {row : ℕ} {entries more : List (Moment × Event)}
    → IsEligibleNow key wait network releases old now row entries
    → BecomesEligible key network old new now row more → (other class : ℕ) → other < length network.topology.ports
    → 1 ≤ class → class ≤ 7 → IsGroupOf network new other class
offered-groups {T} {key} {wait} {network} {releases} {old} {new} {now} next step other class below least most =
    same_group network old new now other class
    (offered-handed next step other class)
    (λ state is. subst (λ (g : GroupsState). IsStateOf network g other class state)
    (sym (ap (λ (c : Course T). c.groups) step.becomes)) is)
    (ap (λ (c : Course T). c.last) step.becomes) next.reached.time
    (next.holds.groups other class below least most)

-- and flows' frames were passed
pub offered-flows : {T : Type 0} {key : T → ℕ → ℕ → ℕ} {wait : ℕ → ℕ → ℕ} {network : DeclaredNetwork}
    {releases : List Release} {old new : Course T} {now : Moment} {row : ℕ} {entries more : List (Moment × Event)}
    → IsEligibleNow key wait network releases old now row entries
    → BecomesEligible key network old new now row more → (other : ℕ) → other < length network.topology.ports
    → ArePassed network new other
offered-flows {T} {key} {wait} {network} next step other below =
    subst (All (IsPassed network)) (sym (offered-handed next step other 0)) (next.holds.flows other below)

-- it holds after a selection
pub selects-members : {T : Type 0} {key : T → ℕ → ℕ → ℕ} {wait : ℕ → ℕ → ℕ} {network : DeclaredNetwork}
    {releases : List Release} {old new : Course T} {now : Moment} {port : ℕ} {entries more : List (Moment × Event)}
    → IsNext key wait network releases old now (Selection port) entries → Selects key wait network old new now port more
    → AreGroupsOf network new.groups
selects-members {T} {key} {wait} {network} next step =
    subst (AreGroupsOf network) (sym (ap (λ (c : Course T). c.groups) step.becomes)) next.holds.members

-- each group has judged what arrived
pub selects-groups : {T : Type 0} {key : T → ℕ → ℕ → ℕ} {wait : ℕ → ℕ → ℕ} {network : DeclaredNetwork}
    {releases : List Release} {old new : Course T} {now : Moment} {port : ℕ} {entries more : List (Moment × Event)}
    → IsNext key wait network releases old now (Selection port) entries → Selects key wait network old new now port more
    → (other class : ℕ) → other < length network.topology.ports → 1 ≤ class → class ≤ 7
    → IsGroupOf network new other class
selects-groups {T} {key} {wait} {network} {releases} {old} {new} {now} next step other class below least most =
    same_group network old new now other class (selects-handed next step other class)
    (λ state is. subst (λ (g : GroupsState). IsStateOf network g other class state)
    (sym (ap (λ (c : Course T). c.groups) step.becomes)) is)
    (ap (λ (c : Course T). c.last) step.becomes) (next-reached next).time
    (next.holds.groups other class below least most)

-- and flows' frames were passed
pub selects-flows : {T : Type 0} {key : T → ℕ → ℕ → ℕ} {wait : ℕ → ℕ → ℕ} {network : DeclaredNetwork}
    {releases : List Release} {old new : Course T} {now : Moment} {port : ℕ} {entries more : List (Moment × Event)}
    → IsNext key wait network releases old now (Selection port) entries → Selects key wait network old new now port more
    → (other : ℕ) → other < length network.topology.ports → ArePassed network new other
selects-flows {T} {key} {wait} {network} next step other below =
    subst (All (IsPassed network)) (sym (selects-handed next step other 0)) (next.holds.flows other below)

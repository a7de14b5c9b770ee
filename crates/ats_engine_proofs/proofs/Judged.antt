-- What one more frame does to a group: by the numbers of members and by the numbers of senders it is the same step.
use Rattle.std.proofs.Common.{◌≡◌, ℕ, ◌+◌, ◌-◌, ◌*◌, ◌/◌, ◌<◌, ◌≤◌, List, [], ◌∷◌, ◌++◌, length, get_or, set, map, sym}
use Rattle.std.proofs.Common.{ap, ◌∙◌, subst, refl, inl, inr, arith}
use Rattle.std.specs.Prelude.{ℤ, pos, ◌==◌, Contains, if◌then◌else◌}
use Rattle.std.proofs.lemmas.Bool.{cases_eq, cond-true, cond-false, eq-eqb, ne_eqb}
use Rattle.std.proofs.lemmas.List.{get_or_default, get_or-set_same, get_or-set_other, length-append, length-map}
use Rattle.std.proofs.lemmas.List.FromFn.{get_or-map-range_with_len}
use Rattle.std.proofs.lemmas.Nat.{div-mul-add}
use Rattle.ats_num.specs.declared.time.Ps.{Ps}
use Rattle.ats_network.specs.Class.{class_at}
use Rattle.ats_network.specs.Network.{DeclaredNetwork, IsNetwork, senders_of}
use Rattle.ats_network.specs.Sender.{flow_sender, stream_sender}
use Rattle.ats_network.specs.Senders.{sender_at}
use Rattle.ats_group.specs.Group.{State, Offer, judged, after, next, verdicts_of, state_after, verdict_on, empty_once}
use Rattle.ats_group.specs.GroupsState.{GroupsState, member_at, time_at, empty_at, group_of, declared_at, residence_of}
use Rattle.ats_group.specs.GroupsState.{verdict_of, groups_after, no_member}
use Rattle.ats_streams.specs.declared.traffic.Declared.{Declared}
use Rattle.ats_group.specs.declared.member.Member.{Member}
use Rattle.ats_group.specs.declared.verdict.Verdict.{Verdict}
use Rattle.ats_group.specs.declared.verdict.Verdict.TheVariants.{Eligible, Late, Size}
use Rattle.ats_schedulers.specs.Schedulers as schedulers
use Rattle.ats_schedulers.specs.Schedulers.{IsHop, group_behind, leg_ports, member_behind, residences_of, scheduler_of}
use Rattle.ats_schedulers.proofs.Places.{scheduler_within, scheduler_there, schedulers_are_apart}
use Rattle.ats_trace.specs.Eligibility.{residence_of_groups, scheduled_by}
use Rattle.ats_engine_steps.specs.Judging.{AreGroupsOf, IsStateOf}
use Rattle.ats_engine_proofs.proofs.LegPorts.{hop-one, leg-one}

-- the verdicts on frames and one more are the verdicts on them, and that on this one
pub verdicts-more : (declared : ℕ → Declared) (residence : ℕ) (state : State) (offers : List Offer) (offer : Offer)
    → verdicts_of declared residence state (offers ++ offer ∷ []) ≡ verdicts_of declared residence state offers
    ++ judged declared residence (state_after declared residence state offers) offer ∷ []
verdicts-more declared residence state [] offer = refl
verdicts-more declared residence state (o ∷ offers) offer =
    ap (λ (vs : List Verdict). judged declared residence state o ∷ vs)
    (verdicts-more declared residence (next declared residence state o) offers offer)

-- and the state then is a step further
pub state-more : (declared : ℕ → Declared) (residence : ℕ) (state : State) (offers : List Offer) (offer : Offer)
    → state_after declared residence state (offers ++ offer ∷ [])
    ≡ next declared residence (state_after declared residence state offers) offer
state-more declared residence state [] offer = refl
state-more declared residence state (o ∷ offers) offer =
    state-more declared residence (next declared residence state o) offers offer

-- the groups behind one port or another, for these classes, are different
pub groups_apart : (port other class c : ℕ) → class ≤ 7 → c ≤ 7 → group_behind port class ≡ group_behind other c
    → (port ≡ other) × (class ≡ c)
groups_apart port other class c h k e =
    let ports : port ≡ other = omega (arith, h, k, e) in
    (ports, omega (arith, e, ports))

-- the residence time of a group behind a port is that of the port
residence_behind : (network : DeclaredNetwork) (port class : ℕ) → port < length network.topology.ports → class ≤ 7
    → get_or (residences_of network) (group_behind port class) 0 ≡ residence_of_groups network port
residence_behind network port class below few =
    let within : group_behind port class < 8 * length network.topology.ports = omega (arith, below, few) in
    let whole : (8 * port + class) / 8 ≡ port =
    ap (λ (n : ℕ). n / 8) (omega arith) ∙ div-mul-add port 8 class (omega (arith, few)) in
    get_or-map-range_with_len (schedulers.residence_of network) 0 (8 * length network.topology.ports)
    (group_behind port class) (group_behind port class) 0 within (omega arith)
    ∙ ap (residence_of_groups network) whole

-- the scheduler that a stream's frame meets before it comes to a hop of a leg, behind this port, for its class there
pub record IsScheduler (network : DeclaredNetwork) (stream leg hop port class : ℕ) : Type 0 where
  pub is_hop : IsHop network stream leg hop
  pub behind : get_or (leg_ports network stream leg) (hop - 1) 0 ≡ port
  pub in_class : class_at (sender_at network stream) port ≡ class
  pub few : class ≤ 7

-- its member, by its place
pub member-is : (network : DeclaredNetwork) (groups : GroupsState) (stream leg hop port class : ℕ)
    → AreGroupsOf network groups → IsScheduler network stream leg hop port class
    → member_at groups.members (scheduler_of network stream leg hop)
    ≡ member_behind network.topology (sender_at network stream) port
member-is network groups stream leg hop port class are is =
    ap (λ (ms : List Member). member_at ms (scheduler_of network stream leg hop)) are.members
    ∙ scheduler_there network stream leg hop is.is_hop
    ∙ ap (member_behind network.topology (sender_at network stream)) is.behind

-- its group is that behind the port
pub group-is : (network : DeclaredNetwork) (groups : GroupsState) (stream leg hop port class : ℕ)
    → AreGroupsOf network groups → IsScheduler network stream leg hop port class
    → group_of groups (scheduler_of network stream leg hop) ≡ group_behind port class
group-is network groups stream leg hop port class are is =
    ap (λ (m : Member). m.group) (member-is network groups stream leg hop port class are is)
    ∙ ap (group_behind port) is.in_class

-- so it is judged as by the fold over senders
pub verdict-is : (network : DeclaredNetwork) (groups : GroupsState) (stream leg hop port class : ℕ) (state : State)
    (arrival octets : ℕ) → AreGroupsOf network groups → IsScheduler network stream leg hop port class
    → port < length network.topology.ports → IsStateOf network groups port class state
    → verdict_of groups (scheduler_of network stream leg hop) arrival octets
    ≡ judged (scheduled_by network port) (residence_of_groups network port) state
    (record { member = stream; arrival = arrival; octets = octets })
verdict-is network groups stream leg hop port class state arrival octets are is below kept =
    let member : ℕ = scheduler_of network stream leg hop in
    let declared : Declared = scheduled_by network port stream in
    let on : ℕ → ℕ → ℤ → Verdict = λ (r t : ℕ) (b : ℤ). verdict_on declared r t b arrival octets in
    let residence = ap (λ (rs : List ℕ). get_or rs (group_behind port class) 0) are.residences
    ∙ residence_behind network port class below is.few in
    ap (λ (m : Member). verdict_on m.declared (residence_of groups m.group) (time_at groups.times m.group)
    (empty_at groups.empties member) arrival octets) (member-is network groups stream leg hop port class are is)
    ∙ ap (λ (c : ℕ). on (residence_of groups (group_behind port c)) (time_at groups.times (group_behind port c))
    (empty_at groups.empties member)) is.in_class
    ∙ ap (λ (r : ℕ). on r (time_at groups.times (group_behind port class)) (empty_at groups.empties member)) residence
    ∙ ap (λ (t : ℕ). on (residence_of_groups network port) t (empty_at groups.empties member)) kept.time
    ∙ ap (on (residence_of_groups network port) state.time)
    (kept.empties stream leg hop is.is_hop is.behind is.in_class)

-- a stream is a sender
stream-known : (network : DeclaredNetwork) (stream : ℕ) → stream < length network.streams
    → stream < length (senders_of network)
stream-known network stream exists =
    omega (
      arith,
      exists,
      length-append (map stream_sender network.streams) (map flow_sender network.flows),
      length-map network.streams stream_sender,
    )

-- no two legs have a port, and none has it twice, so a stream has one scheduler behind it
pub one-scheduler : (network : DeclaredNetwork) (stream leg other hop later port class c : ℕ) → IsNetwork network
    → IsScheduler network stream leg hop port class → IsScheduler network stream other later port c
    → (leg ≡ other) × (hop ≡ later)
one-scheduler network stream leg other hop later port class c rules is too =
    let known = stream-known network stream is.is_hop.exists in
    let legs : leg ≡ other =
    leg-one network stream leg other port rules known (behind-of is) (behind-of too) in
    let there : IsScheduler network stream leg later port c =
    subst (λ (l : ℕ). IsScheduler network stream l later port c) (sym legs) too in
    let hops = hop-one network stream leg (hop - 1) (later - 1) rules known
    (omega (arith, is.is_hop.within, is.is_hop.later)) (omega (arith, there.is_hop.within, there.is_hop.later))
    (is.behind ∙ sym there.behind) in
    (legs, omega (arith, hops, is.is_hop.later, there.is_hop.later))
  where
    behind-of : {l h k : ℕ} → IsScheduler network stream l h port k → Contains (leg_ports network stream l) port
    behind-of {l} {h} {k} at =
        let below : h - 1 < length (leg_ports network stream l) =
        omega (arith, at.is_hop.within, at.is_hop.later) in
        (h - 1, below, get_or_default (leg_ports network stream l) (h - 1) port 0 below ∙ at.behind)

-- what the group of a verdict keeps then: a step further
pub state-own : (network : DeclaredNetwork) (groups : GroupsState) (stream leg hop port class : ℕ) (state : State)
    (arrival octets : ℕ) (v : Verdict) → IsNetwork network → AreGroupsOf network groups
    → IsScheduler network stream leg hop port class
    → IsStateOf network groups port class state
    → IsStateOf network (groups_after groups (scheduler_of network stream leg hop) octets v) port class
    (after (scheduled_by network port) state (record { member = stream; arrival = arrival; octets = octets }) v)
state-own network groups stream leg hop port class state arrival octets (Late e) rules are is kept =
    record { time = kept.time; empties = kept.empties }
state-own network groups stream leg hop port class state arrival octets Size rules are is kept =
    record { time = kept.time; empties = kept.empties }
state-own network groups stream leg hop port class state arrival octets (Eligible e) rules are is kept =
    let member : ℕ = scheduler_of network stream leg hop in
    let group = group-is network groups stream leg hop port class are is in
    let there : member < length groups.members =
    subst (λ (ms : List Member). member < length ms) (sym are.members)
    (scheduler_within network stream leg hop is.is_hop) in
    let grouped : group_of groups member < length groups.times =
    omega (arith, are.lawful.times, (are.lawful.members member no_member there).group) in
    let once : ℤ = empty_once (declared_at groups member) (empty_at groups.empties member) e.0 octets in
    let once_is : once ≡ empty_once (scheduled_by network port stream) (state.empty stream) e.0 octets =
    ap (λ (m : Member). empty_once m.declared (empty_at groups.empties member) e.0 octets)
    (member-is network groups stream leg hop port class are is)
    ∙ ap (λ (b : ℤ). empty_once (scheduled_by network port stream) b e.0 octets)
    (kept.empties stream leg hop is.is_hop is.behind is.in_class) in
    let none : Ps = record { 0 = 0 } in
    record {
      time = ap (λ (g : ℕ). (get_or (set groups.times (group_of groups member) e) g none).0) (sym group)
          ∙ ap (λ (p : Ps). p.0) (get_or-set_same groups.times (group_of groups member) e none grouped);
      empties = λ s l h is_hop at_port at_class.
          let Goal : Type 0 = empty_at (set groups.empties member once) (scheduler_of network s l h)
          ≡ (if s == stream then empty_once (scheduled_by network port s) (state.empty s) e.0 octets
          else state.empty s) in
          elim (cases_eq s stream) as (λ _. Goal) [
            | inl same ↦ (
                let own : IsScheduler network stream l h port class =
                subst (λ (n : ℕ). IsScheduler network n l h port class) same
                (record { is_hop = is_hop; behind = at_port; in_class = at_class; few = is.few }) in
                let one = one-scheduler network stream l leg h hop port class class rules own is in
                let place : scheduler_of network s l h ≡ member =
                ap (λ (n : ℕ). scheduler_of network n l h) same
                ∙ ap (λ (n : ℕ). scheduler_of network stream n h) one.0 ∙ ap (scheduler_of network stream leg) one.1 in
                ap (empty_at (set groups.empties member once)) place
                ∙ get_or-set_same groups.empties member once (pos 0)
                (omega (arith, are.lawful.empties, there))
                ∙ once_is
                ∙ ap (λ (n : ℕ). empty_once (scheduled_by network port n) (state.empty n) e.0 octets) (sym same)
                ∙ sym (cond-true (s == stream) _ _ (eq-eqb s stream same)))
            | inr other ↦ (
                get_or-set_other groups.empties member (scheduler_of network s l h) once (pos 0)
                (λ place. other (schedulers_are_apart network s stream l leg h hop rules is_hop is.is_hop place).0)
                ∙ kept.empties s l h is_hop at_port at_class
                ∙ sym (cond-false (s == stream) _ _ (ne_eqb s stream other)))
          ];
    }

-- what any other group keeps stays
pub state-other : (network : DeclaredNetwork) (groups : GroupsState) (stream leg hop port class : ℕ) (octets : ℕ)
    (v : Verdict) (other c : ℕ) (state : State) → IsNetwork network → AreGroupsOf network groups
    → IsScheduler network stream leg hop port class → c ≤ 7 → ¬ ((other ≡ port) × (c ≡ class))
    → IsStateOf network groups other c state
    → IsStateOf network (groups_after groups (scheduler_of network stream leg hop) octets v) other c state
state-other network groups stream leg hop port class octets (Late e) other c state rules are is few apart kept =
    record { time = kept.time; empties = kept.empties }
state-other network groups stream leg hop port class octets Size other c state rules are is few apart kept =
    record { time = kept.time; empties = kept.empties }
state-other network groups stream leg hop port class octets (Eligible e) other c state rules are is few apart kept =
    let member : ℕ = scheduler_of network stream leg hop in
    let group = group-is network groups stream leg hop port class are is in
    let none : Ps = record { 0 = 0 } in
    record {
      time = ap (λ (p : Ps). p.0) (get_or-set_other groups.times (group_of groups member) (group_behind other c) e none
          (λ same. apart (groups_apart other port c class few is.few (same ∙ group))))
          ∙ kept.time;
      empties = λ s l h is_hop at_port at_class.
          get_or-set_other groups.empties member (scheduler_of network s l h) _ (pos 0) (λ place.
          let same = schedulers_are_apart network s stream l leg h hop rules is_hop is.is_hop place in
          let ports : other ≡ port = sym at_port
          ∙ ap (λ (n : ℕ). get_or (leg_ports network n l) (h - 1) 0) same.0
          ∙ ap (λ (n : ℕ). get_or (leg_ports network stream n) (h - 1) 0) same.1
          ∙ ap (λ (n : ℕ). get_or (leg_ports network stream leg) (n - 1) 0) same.2 ∙ is.behind in
          let classes : c ≡ class = sym at_class
          ∙ ap (λ (n : ℕ). class_at (sender_at network n) other) same.0
          ∙ ap (class_at (sender_at network stream)) ports ∙ is.in_class in
          apart (ports, classes))
          ∙ kept.empties s l h is_hop at_port at_class;
    }

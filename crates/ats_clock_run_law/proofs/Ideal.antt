-- Where each node goes by the ideal clock, a legal run is one by true time.
use Rattle.std.proofs.Common.{◌≡◌, ℕ, zero, suc, ◌+◌, ◌<◌, ◌≤◌, ◌⊎◌, inl, inr, Bool, true, false, List, [], ◌∷◌}
use Rattle.std.proofs.Common.{get_or, length, map, All, refl, sym, ap, subst, ◌∙◌, arith, eqb}
use Rattle.std.specs.Prelude.{IsPermutation, IsTrue, Option, Some, None, ◌&&◌, if◌then◌else◌}
use Rattle.std.specs.List.{AllZip, slice_get}
use Rattle.std.proofs.lemmas.Bool.{and_from, and_parts, cases_lt, eq-eqb, eqb-true, false≢true}
use Rattle.std.proofs.lemmas.List.{get_or_past}
use Rattle.std.proofs.lemmas.List.Elements.{All-cons, All-filter, All-map, All-nil, filter_passes}
use Rattle.std.proofs.lemmas.List.Sorted.{All-permutation, IsPermutation-sym}
use Rattle.ats_facts.proofs.Lists.{All-from_filter}
use Rattle.ats_num.specs.declared.time.Ps.{Ps}
use Rattle.ats_clock.specs.Clock.{KeepsClock, ideal}
use Rattle.ats_clock_law.specs.Ideal.{later_verdict}
use Rattle.ats_clock_law.specs.TrueTime.{stamped_offers}
use Rattle.ats_clock_law.proofs.Ideal.{constant_apart, stamps-later, verdicts_true}
use Rattle.ats_clock_law.proofs.Shift.{shift_not_seen}
use Rattle.ats_topology.specs.Node.{clock_of, is_station}
use Rattle.ats_topology.specs.Port.{port_at}
use Rattle.ats_topology.specs.Topology.{AreIdeal, HasIdealClocks, no_node, node_at}
use Rattle.ats_topology.specs.Walks.{IsWalk}
use Rattle.ats_topology.specs.declared.node.Kind.{Kind}
use Rattle.ats_topology.specs.declared.node.Kind.TheVariants.{Bridge, Station}
use Rattle.ats_topology.specs.declared.node.Node.{Node}
use Rattle.ats_streams.specs.Branches.{BeginsEarlier, leg_at, legs_of, no_branch}
use Rattle.ats_streams.specs.Traffic.{IsRuled, is_declared_size}
use Rattle.ats_streams.specs.declared.branch.Branch.{Branch}
use Rattle.ats_streams.specs.declared.traffic.Declared.{Declared}
use Rattle.ats_streams.proofs.BranchLemmas.{begins_at, behind_or_talker, legs-length}
use Rattle.ats_network.specs.Class.{class_at}
use Rattle.ats_network.specs.Network.{DeclaredNetwork, IsNetwork}
use Rattle.ats_network.specs.Path.{IsBranch, node_of_branch}
use Rattle.ats_network.specs.Sender.{Sender}
use Rattle.ats_network.specs.Senders.{IsSender, sender_at}
use Rattle.ats_network.proofs.RateLemmas.{scheduled_ruled}
use Rattle.ats_network.proofs.ValidRoutes.{walk_first}
use Rattle.ats_group.specs.Group.{Offer}
use Rattle.ats_group.specs.Judge.{ats_judge}
use Rattle.ats_group.specs.declared.verdict.Verdict.{Verdict}
use Rattle.ats_group.specs.declared.verdict.Verdict.TheVariants.{Eligible, Size}
use Rattle.ats_port_rule.specs.Transmission.{Transmission}
use Rattle.ats_trace.specs.Clocks.{IsJudgedBy, IsLegal, KeepsNodeClock, WasTold}
use Rattle.ats_trace.specs.Eligibility.{IsJudged, declared_by, offer_of, residence_of_groups, scheduled_by}
use Rattle.ats_trace.specs.HopRecord.{HopRecord}
use Rattle.ats_trace.specs.Journey.{BeginsAs, IsCopy, IsJourney, Leg, Travel, legs_at, legs_in, no_leg, record_at}
use Rattle.ats_trace.specs.Projections.{Handed, Hop, handed_by, handed_from, hops_from}
use Rattle.ats_trace.specs.Projections.{sent_by}
use Rattle.ats_trace.specs.Stored.{no_travel, travel_at}
use Rattle.ats_trace.specs.Talker.{read_by, talker_of}
use Rattle.ats_trace.specs.declared.journey.Release.{Release}
use Rattle.ats_clock_run_law.specs.Laws.{IdealClocksShowTrueTime, StationsReadTrueTime}
use Rattle.ats_clock_run_law.proofs.Ports.{retold}
use Rattle.ats_clock_run_law.proofs.Records.{handed_in_run, handed_of_run, handed_on, sent_at_port, sent_in_run}
use Rattle.ats_clock_run_law.proofs.ToldTimes.{Begins, at_talker, begins}
use Rattle.ats_clock_run_law.proofs.Ways.{GoesFrom, Stands, copy_is, goes_from, has_port, inside, legs_many}
use Rattle.ats_clock_run_law.proofs.Ways.{nothing, port_of, sender_is}

-- the clock of a node that declares the ideal one

pointwise : (shows : ℕ → ℕ) → ((t : ℕ) → shows t ≡ t) → KeepsClock ideal shows
pointwise shows same = record {
  in_order = λ s t h. omega (arith, same s, same t, h);
  no_slower = λ s t h. omega (arith, same s, same t, h);
  no_faster = λ s t h. omega (arith, same s, same t, h);
}

keeps_ideal : (kind : Kind) (shows : ℕ → ℕ) → KeepsNodeClock kind shows → clock_of kind ≡ ideal
    → KeepsClock ideal shows
keeps_ideal Station shows keeps is = pointwise shows keeps
keeps_ideal (Bridge processing_min_ns processing_max_ns residence_ns clock_ppm clock_step_ps) shows keeps is =
    subst (λ clock. KeepsClock clock shows) is keeps

ideal_at : (nodes : List Node) (n : ℕ) → AreIdeal nodes → clock_of (node_at nodes n).kind ≡ ideal
ideal_at nodes n each = elim (cases_lt n (length nodes)) as (λ _. clock_of (node_at nodes n).kind ≡ ideal) [
  | inl within ↦ each n no_node within
  | inr past ↦ ap (λ (node : Node). clock_of node.kind) (get_or_past nodes n no_node past)
]

node_keeps : (network : DeclaredNetwork) (run : List Travel) (legal : IsLegal network run) (node : ℕ)
    → HasIdealClocks network.topology → KeepsClock ideal (legal.clocks node)
node_keeps network run legal node each =
    keeps_ideal (node_at network.topology.nodes node).kind (legal.clocks node) (legal.keeps node)
    (ideal_at network.topology.nodes node each)

-- a frame that is handed on is one of a sender, in its class at the port
record IsRanked (network : DeclaredNetwork) (h : Handed) : Type 0 where
  sender : IsSender network.topology (sender_at network h.crossing.sent.sender)
  class : h.crossing.sent.class ≡ class_at (sender_at network h.crossing.sent.sender) h.crossing.port

each_ranked : (network : DeclaredNetwork) (run : List Travel) → IsNetwork network → All (IsJourney network) run
    → All (IsRanked network) (handed_from network 0 run)
each_ranked network run net journeys =
    handed_in_run (IsRanked network) network run
    (λ frame leg within in_legs hop own next e times in_leg at behind sent.
    record { sender = sender_is network (travel_at run frame) net (journeys frame no_travel within); class = refl })

-- what its members declare keeps the rules of a stream
ruled : (network : DeclaredNetwork) (run : List Travel) (port class : ℕ) → IsNetwork network
    → All (IsJourney network) run → 1 ≤ class
    → All (λ (h : Handed). IsRuled (scheduled_by network port h.crossing.sent.sender))
    (handed_by network run port class)
ruled network run port class net journeys some k d within =
    let test : Handed → Bool = λ h. eqb h.crossing.port port && eqb h.crossing.sent.class class in
    let h : Handed = get_or (handed_by network run port class) k d in
    let passes = and_parts (eqb h.crossing.port port) (eqb h.crossing.sent.class class)
    (filter_passes test (handed_from network 0 run) k d within) in
    let ranked = All-filter test (IsRanked network) (handed_from network 0 run)
    (each_ranked network run net journeys) k d within in
    let at : h.crossing.port ≡ port = eqb-true h.crossing.port port passes.0 in
    let is : h.crossing.sent.class ≡ class = eqb-true h.crossing.sent.class class passes.1 in
    scheduled_ruled network.topology (sender_at network h.crossing.sent.sender) port ranked.sender
    (omega (arith, some, is, ranked.class, ap (class_at (sender_at network h.crossing.sent.sender)) at))

ruled_offers : (network : DeclaredNetwork) (run : List Travel) (port class : ℕ) (arrivals : List Handed)
    → IsNetwork network → All (IsJourney network) run → 1 ≤ class
    → IsPermutation (handed_by network run port class) arrivals
    → All (λ (o : Offer). IsRuled (scheduled_by network port o.member)) (map offer_of arrivals)
ruled_offers network run port class arrivals net journeys some same =
    All-map (λ (o : Offer). IsRuled (scheduled_by network port o.member)) offer_of arrivals
    (All-permutation (λ (h : Handed). IsRuled (scheduled_by network port h.crossing.sent.sender))
    (handed_by network run port class) arrivals same (ruled network run port class net journeys some))

-- a group that judges by such a clock judges by true time
judged : (network : DeclaredNetwork) (run : List Travel) (legal : IsLegal network run) (port class : ℕ)
    → IsNetwork network → HasIdealClocks network.topology → port < length network.topology.ports → 1 ≤ class
    → IsJudged ats_judge network port (handed_by network run port class)
judged network run legal port class net each within some =
    let node : ℕ = (port_at network.topology.ports port).to in
    let by = legal.groups port class within some in
    record {
      arrivals = by.arrivals;
      same = by.same;
      in_order = by.in_order;
      verdicts = verdicts_true (legal.clocks node) (scheduled_by network port) (residence_of_groups network port)
          (map offer_of by.arrivals) (map (λ (h : Handed). h.verdict) by.arrivals)
          (node_keeps network run legal node each)
          (ruled_offers network run port class by.arrivals net legal.journeys some by.same) by.verdicts;
    }

-- a frame was told the time of its verdict, later by what the clock of the node behind the port shows at first
abbrev WasToldLater : {network : DeclaredNetwork} {run : List Travel} → IsLegal network run → ℕ → Handed → Type 0
WasToldLater {network} {run} legal port h =
    WasTold (legal.told (port_at network.topology.ports port).to) h
    (later_verdict (legal.clocks (port_at network.topology.ports port).to 0) h.verdict)

unzipped : (told : ℕ → ℕ) (shift : ℕ) (handed : List Handed)
    → AllZip (WasTold told) handed (map (later_verdict shift) (map (λ (h : Handed). h.verdict) handed))
    → All (λ (h : Handed). WasTold told h (later_verdict shift h.verdict)) handed
unzipped told shift [] all = All-nil (λ (h : Handed). WasTold told h (later_verdict shift h.verdict))
unzipped told shift (h ∷ handed) all =
    All-cons (λ (h : Handed). WasTold told h (later_verdict shift h.verdict)) h handed all.0
    (unzipped told shift handed all.1)

-- one that a group judged
told_stream : (network : DeclaredNetwork) (run : List Travel) (legal : IsLegal network run) (port class : ℕ)
    → IsNetwork network → HasIdealClocks network.topology → port < length network.topology.ports → 1 ≤ class
    → All (WasToldLater legal port) (handed_by network run port class)
told_stream network run legal port class net each within some =
    All-permutation (WasToldLater legal port) arrivals (handed_by network run port class)
    (IsPermutation-sym (handed_by network run port class) arrivals by.same)
    (unzipped told (shows 0) arrivals (subst (AllZip (WasTold told) arrivals) same by.times))
  where
    node : ℕ
    node = (port_at network.topology.ports port).to

    shows : ℕ → ℕ
    shows = legal.clocks node

    told : ℕ → ℕ
    told = legal.told node

    by : IsJudgedBy shows told network port (handed_by network run port class)
    by = legal.groups port class within some

    arrivals : List Handed
    arrivals = by.arrivals

    declared : ℕ → Declared
    declared = scheduled_by network port

    residence_ns : ℕ
    residence_ns = residence_of_groups network port

    keeps : KeepsClock ideal shows
    keeps = node_keeps network run legal node each

    rules : All (λ (o : Offer). IsRuled (declared o.member)) (map offer_of arrivals)
    rules = ruled_offers network run port class arrivals net legal.journeys some by.same

    same : ats_judge declared residence_ns (stamped_offers shows (map offer_of arrivals))
        ≡ map (later_verdict (shows 0)) (map (λ (h : Handed). h.verdict) arrivals)
    same =
        ap (ats_judge declared residence_ns) (stamps-later shows (map offer_of arrivals) keeps)
        ∙ shift_not_seen declared residence_ns (shows 0) (map offer_of arrivals) rules
        ∙ ap (map (later_verdict (shows 0))) (sym (verdicts_true shows declared residence_ns (map offer_of arrivals)
        (map (λ (h : Handed). h.verdict) arrivals) keeps rules by.verdicts))

-- and one of a flow
told_flow : (network : DeclaredNetwork) (run : List Travel) (legal : IsLegal network run) (port : ℕ)
    → HasIdealClocks network.topology → port < length network.topology.ports
    → All (WasToldLater legal port) (handed_by network run port 0)
told_flow network run legal port each within k d in_k =
    subst (λ (v : Verdict). WasTold told h (later_verdict (shows 0) v)) (sym (legal.flows port within k d in_k))
    (by (is_declared_size (declared_by network h.crossing.sent.sender) h.crossing.octets))
  where
    shows : ℕ → ℕ
    shows = legal.clocks (port_at network.topology.ports port).to

    told : ℕ → ℕ
    told = legal.told (port_at network.topology.ports port).to

    h : Handed
    h = get_or (handed_by network run port 0) k d

    at : told h.crossing.sent.frame ≡ h.crossing.arrival + shows 0
    at =
        let apart = constant_apart shows
        (node_keeps network run legal (port_at network.topology.ports port).to each) h.crossing.arrival in
        omega (arith, legal.passed port within k d in_k, apart)

    by : (size : Bool)
        → WasTold told h (later_verdict (shows 0)
        (if size then Eligible (record { 0 = h.crossing.arrival }) else Size))
    by true = at
    by false = tt

told_behind : (network : DeclaredNetwork) (run : List Travel) (legal : IsLegal network run) (port class : ℕ)
    → IsNetwork network → HasIdealClocks network.topology → port < length network.topology.ports
    → All (WasToldLater legal port) (handed_by network run port class)
told_behind network run legal port zero net each within = told_flow network run legal port each within
told_behind network run legal port (suc class) net each within =
    told_stream network run legal port (suc class) net each within (omega arith)

-- a frame was told at a node when it is eligible there, later by what the node's clock shows at first
record IsTold {network : DeclaredNetwork} {run : List Travel} (legal : IsLegal network run) (node frame eligible : ℕ)
    : Type 0 where
  later : legal.told node frame ≡ eligible + legal.clocks node 0

-- a record that is not the first has one in front of it
before : (hops : List HopRecord) (hop : ℕ) (own : HopRecord) → slice_get hops (suc hop) ≡ Some own
    → (other : HopRecord) × (slice_get hops hop ≡ Some other)
before [] hop own at = absurd (nothing own at)
before (first ∷ hops) zero own at = (first, refl)
before (first ∷ hops) (suc hop) own at = before hops hop own at

-- so is one that has come over a port to the node
told_next : (network : DeclaredNetwork) (run : List Travel) (legal : IsLegal network run) (frame leg hop : ℕ)
    (own : HopRecord) (e : Ps) → IsNetwork network → HasIdealClocks network.topology → frame < length run
    → Stands network (travel_at run frame) leg (suc hop) own → own.verdict ≡ Eligible e
    → IsTold legal (port_at network.topology.ports (port_of network (travel_at run frame) leg (suc hop))).from frame e.0
told_next network run legal frame leg hop own e net each within at verdict =
    subst (λ (node : ℕ). IsTold legal node frame e.0) (sym on.node) (record { later = told })
  where
    j : Travel
    j = travel_at run frame

    s : Sender
    s = sender_at network j.release.sender

    is : IsJourney network j
    is = legal.journeys frame no_travel within

    other : (other : HopRecord) × (slice_get (get_or (legs_in j) leg no_leg).hops hop ≡ Some other)
    other = before (get_or (legs_in j) leg no_leg).hops hop own at.is

    on : GoesFrom network j leg hop other.0 own
    on = goes_from network j leg hop other.0 own net is at.in_legs other.1 at.is

    port : ℕ
    port = port_of network j leg hop

    class : ℕ
    class = class_at s port

    test : Handed → Bool
    test h = eqb h.crossing.port port && eqb h.crossing.sent.class class

    P : Handed → Type 0
    P h = test h ≡ true → WasToldLater legal port h

    in_ports : port < length network.topology.ports
    in_ports =
        let has = has_port network j leg hop other.0 net is on.first in
        subst (λ (p : ℕ). p < length network.topology.ports) has.2
        ((sender_is network j net is).ports has.0 port has.1)

    all : All P (handed_from network 0 run)
    all = All-from_filter test (WasToldLater legal port) (handed_from network 0 run)
        (told_behind network run legal port class net each in_ports)

    here : WasToldLater legal port
        (handed_on frame j.release s (leg_at (legs_at network j.release.sender) leg) hop on.e on.times other.0 own)
    here =
        handed_of_run P network run frame leg within at.in_legs (omega (arith, legs_many network j is, at.in_legs)) all
        hop other.0 own on.e on.times on.first.in_leg other.1 at.is on.is
        (and_from (eqb port port) (eqb class class) (eq-eqb port port refl) (eq-eqb class class refl))

    told : legal.told (port_at network.topology.ports port).to frame
        ≡ e.0 + legal.clocks (port_at network.topology.ports port).to 0
    told = subst (λ (v : Verdict). WasTold (legal.told (port_at network.topology.ports port).to)
        (handed_on frame j.release s (leg_at (legs_at network j.release.sender) leg) hop on.e on.times other.0 own)
        (later_verdict (legal.clocks (port_at network.topology.ports port).to 0) v)) verdict here

-- and one at its talker
told_first : (network : DeclaredNetwork) (run : List Travel) (legal : IsLegal network run) (frame : ℕ)
    (own : HopRecord) (e : Ps) → IsNetwork network → HasIdealClocks network.topology → frame < length run
    → Stands network (travel_at run frame) 0 0 own → own.verdict ≡ Eligible e
    → IsTold legal (port_at network.topology.ports (port_of network (travel_at run frame) 0 0)).from frame e.0
told_first network run legal frame own e net each within at verdict =
    subst (λ (node : ℕ). IsTold legal node frame e.0) (at_talker network j own net is at.is) (record {
      later = legal.own frame within ∙ constant_apart (legal.clocks talker) (node_keeps network run legal talker each)
          j.release.at.0 ∙ turned (legal.clocks talker 0) j.release.at.0 e.0 (ap (λ (t : Ps). t.0) released);
    })
  where
    j : Travel
    j = travel_at run frame

    is : IsJourney network j
    is = legal.journeys frame no_travel within

    talker : ℕ
    talker = talker_of network j.release.sender

    first : Begins j.release j.hops
    first = begins j.release j.hops is.released

    time : (a b : Ps) → Eligible a ≡ Eligible b → a ≡ b
    time a b h = cc

    released : j.release.at ≡ e
    released = time j.release.at e (sym first.verdict
        ∙ ap (λ (r : HopRecord). r.verdict) (inside first.own own (sym first.at ∙ at.is)) ∙ verdict)

    turned : (shift a b : ℕ) → a ≡ b → shift + a ≡ b + shift
    turned shift a b same = omega (arith, same)

-- and one at the hop where a branch begins
told_start : (network : DeclaredNetwork) (run : List Travel) (legal : IsLegal network run) (frame leg hop : ℕ)
    (own : HopRecord) (e : Ps) → IsNetwork network → HasIdealClocks network.topology → frame < length run
    → Stands network (travel_at run frame) leg hop own → own.verdict ≡ Eligible e
    → (1 ≤ hop) ⊎ ((leg ≡ 0) × (hop ≡ 0))
    → IsTold legal (port_at network.topology.ports (port_of network (travel_at run frame) leg hop)).from frame e.0
told_start network run legal frame leg (suc hop) own e net each within at verdict begins =
    told_next network run legal frame leg hop own e net each within at verdict
told_start network run legal frame zero zero own e net each within at verdict begins =
    told_first network run legal frame own e net each within at verdict
told_start network run legal frame (suc n) zero own e net each within at verdict (inl some) =
    absurd (omega (arith, some))
told_start network run legal frame (suc n) zero own e net each within at verdict (inr both) =
    absurd (omega (arith, both.0))

-- the record with which a copy begins
record Copies (start : Option HopRecord) (own : HopRecord) : Type 0 where
  other : HopRecord
  is : start ≡ Some other
  verdict : other.verdict ≡ own.verdict

copies : (start : Option HopRecord) (path : List ℕ) (leg : Leg) (own : HopRecord) → IsCopy start path leg
    → slice_get leg.hops 0 ≡ Some own → Copies start own
copies None path leg own copy at =
    absurd (nothing own (ap (λ (l : List HopRecord). slice_get l 0) (sym copy.0) ∙ at))
copies (Some start) path leg own copy at = by leg.hops copy.0 at
  where
    by : (hops : List HopRecord) → BeginsAs start hops → slice_get hops 0 ≡ Some own → Copies (Some start) own
    by [] begins at = absurd begins
    by (hop ∷ hops) begins at = record {
      other = start;
      is = refl;
      verdict = sym begins.1 ∙ ap (λ (r : HopRecord). r.verdict) (inside hop own at);
    }

-- and one with which a copy begins
told_copy : (network : DeclaredNetwork) (run : List Travel) (legal : IsLegal network run) (frame n : ℕ)
    (own : HopRecord) (e : Ps) → IsNetwork network → HasIdealClocks network.topology → frame < length run
    → Stands network (travel_at run frame) (suc n) 0 own → own.verdict ≡ Eligible e
    → IsTold legal (port_at network.topology.ports (port_of network (travel_at run frame) (suc n) 0)).from frame e.0
told_copy network run legal frame n own e net each within at verdict =
    subst (λ (node : ℕ). IsTold legal node frame e.0) (sym node)
    (told_start network run legal frame b.leg b.hop copy.other e net each within
    (record { in_legs = omega (arith, starts.earlier, at.in_legs); in_leg = starts.within; is = copy.is })
    (copy.verdict ∙ verdict) (behind_or_talker legs (1 + n) b starts))
  where
    j : Travel
    j = travel_at run frame

    s : Sender
    s = sender_at network j.release.sender

    legs : List (List ℕ)
    legs = legs_of s.ports s.branches

    b : Branch
    b = get_or s.branches n no_branch

    is : IsJourney network j
    is = legal.journeys frame no_travel within

    keeps : IsSender network.topology s
    keeps = sender_is network j net is

    below : n < length s.branches
    below = omega (arith, at.in_legs, legs-length 0 s.ports s.branches)

    starts : BeginsEarlier legs (1 + n) b
    starts = begins_at legs 1 s.branches n keeps.branches.begin below

    copy : Copies (record_at (legs_in j) b) own
    copy = copies (record_at (legs_in j) b) (leg_at legs (suc n)) (get_or j.copies n no_leg) own
        (copy_is s j n is.copies below) at.is

    branch : IsBranch network.topology legs b (leg_at legs (1 + n))
    branch = keeps.tree.each n below

    node : (port_at network.topology.ports (port_of network j (suc n) 0)).from
        ≡ (port_at network.topology.ports (port_of network j b.leg b.hop)).from
    node = walk_first network.topology.ports (node_of_branch network.topology.ports legs b) branch.listener
        (leg_at legs (suc n))
        (subst (λ (k : ℕ). IsWalk network.topology.ports (node_of_branch network.topology.ports legs b) branch.listener
        (leg_at legs k)) (omega arith) branch.walk)
        at.in_leg

-- so each is
told_there : (network : DeclaredNetwork) (run : List Travel) (legal : IsLegal network run) (frame leg hop : ℕ)
    (own : HopRecord) (e : Ps) → IsNetwork network → HasIdealClocks network.topology → frame < length run
    → Stands network (travel_at run frame) leg hop own → own.verdict ≡ Eligible e
    → IsTold legal (port_at network.topology.ports (port_of network (travel_at run frame) leg hop)).from frame e.0
told_there network run legal frame leg (suc hop) own e net each within at verdict =
    told_next network run legal frame leg hop own e net each within at verdict
told_there network run legal frame zero zero own e net each within at verdict =
    told_first network run legal frame own e net each within at verdict
told_there network run legal frame (suc n) zero own e net each within at verdict =
    told_copy network run legal frame n own e net each within at verdict

abbrev IsToldLater : {network : DeclaredNetwork} {run : List Travel} → IsLegal network run → ℕ → Transmission → Type 0
IsToldLater {network} {run} legal port x =
    IsTold legal (port_at network.topology.ports port).from x.frame x.eligible

each_told : (network : DeclaredNetwork) (run : List Travel) (legal : IsLegal network run) → IsNetwork network
    → HasIdealClocks network.topology
    → All (λ (g : Hop). IsToldLater legal g.port g.sent) (hops_from network 0 run)
each_told network run legal net each =
    sent_in_run (λ (g : Hop). IsToldLater legal g.port g.sent) network run
    (λ frame leg within in_legs hop own e times in_leg at sent.
    told_there network run legal frame leg hop own e net each within
    (record { in_legs = in_legs; in_leg = in_leg; is = at }) sent.verdict)

pub ideal_clocks_show_true_time : IdealClocksShowTrueTime
ideal_clocks_show_true_time network run net each legal = record {
  in_order = legal.in_order;
  journeys = legal.journeys;
  ports = λ port within.
      retold (λ (x : Transmission). legal.told (port_at network.topology.ports port).from x.frame)
      (λ (x : Transmission). x.eligible) (port_at network.topology.ports port).ps_per_bit (sent_by network run port)
      (λ k d in_k l e in_l no_later. (
      let all = sent_at_port (IsToldLater legal) network run port (each_told network run legal net each) in
      let x = (all k d in_k).later in
      let y = (all l e in_l).later in
      omega (arith, no_later)))
      (legal.ports port within);
  links = legal.links;
  groups = λ port class within some. judged network run legal port class net each within some;
  flows = legal.flows;
}

unread : (shows : ℕ → ℕ) (releases : List Release) → ((t : ℕ) → shows t ≡ t) → read_by shows releases ≡ releases
unread shows [] same = refl
unread shows (r ∷ releases) same =
    ap (λ (t : ℕ). let q : Release = record r { at = record { 0 = t } } in q ∷ read_by shows releases) (same r.at.0)
    ∙ ap (λ (rs : List Release). r ∷ rs) (unread shows releases same)

station_true : (kind : Kind) (shows : ℕ → ℕ) → KeepsNodeClock kind shows → IsTrue (is_station kind)
    → (t : ℕ) → shows t ≡ t
station_true Station shows keeps is = keeps
station_true (Bridge processing_min_ns processing_max_ns residence_ns clock_ppm clock_step_ps) shows keeps is =
    absurd (false≢true is)

pub stations_read_true_time : StationsReadTrueTime
stations_read_true_time network run legal node releases station =
    unread (legal.clocks node) releases
    (station_true (node_at network.topology.nodes node).kind (legal.clocks node) (legal.keeps node) station)

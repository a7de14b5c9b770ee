-- The time that a frame was told at a node, read from its journey: the time from which it is eligible there.
use Rattle.std.proofs.Common.{◌≡◌, ℕ, zero, suc, ◌<◌, Bool, cond, List, [], ◌∷◌, length, get_or, All}
use Rattle.std.proofs.Common.{eqb, inl, inr, refl, sym, ap, subst, ◌∙◌, arith}
use Rattle.std.specs.Prelude.{Contains, Option, Some, None}
use Rattle.std.specs.List.{concat, slice_get}
use Rattle.std.specs.Option.{option_map}
use Rattle.std.proofs.lemmas.Bool.{cases_eq, eq-eqb, ne_eqb}
use Rattle.std.proofs.lemmas.List.{get_or_default}
use Rattle.ats_num.specs.declared.time.Ps.{Ps}
use Rattle.ats_topology.specs.Port.{port_at}
use Rattle.ats_topology.specs.Topology.{DeclaredTopology}
use Rattle.ats_topology.specs.declared.port.Port.{Port}
use Rattle.ats_streams.specs.Branches.{legs_of}
use Rattle.ats_streams.proofs.BranchLemmas.{legs-length}
use Rattle.ats_network.specs.Network.{DeclaredNetwork, IsNetwork}
use Rattle.ats_network.specs.Sender.{Sender}
use Rattle.ats_network.specs.Senders.{sender_at}
use Rattle.ats_group.specs.declared.verdict.Verdict.{Verdict}
use Rattle.ats_group.specs.declared.verdict.Verdict.TheVariants.{Eligible, Late, Size}
use Rattle.ats_port_rule.specs.Transmission.{Transmission}
use Rattle.ats_trace.specs.HopRecord.{HopRecord}
use Rattle.ats_trace.specs.Journey.{IsJourney, IsReleased, Travel}
use Rattle.ats_trace.specs.OneVerdict.{judged_as, record_of}
use Rattle.ats_trace.specs.Projections.{Handed, Hop, handed_from, hops_from}
use Rattle.ats_trace.specs.Run.{IsIdeal}
use Rattle.ats_trace.specs.Stored.{no_travel, travel_at}
use Rattle.ats_trace.specs.Talker.{start_of, talker_of}
use Rattle.ats_trace.specs.declared.journey.Release.{Release}
use Rattle.ats_trace.proofs.Legs.{concat-legs_of, place_first, place_is}
use Rattle.ats_trace.proofs.OneVerdict.{one_verdict}
use Rattle.ats_clock_run_law.proofs.Records.{handed_in_run, sent_in_run}
use Rattle.ats_clock_run_law.proofs.Ways.{Stands, goes_from, has_port, port_of, record_is, sender_is}

-- the first of these ports that leaves a node
abbrev leaving : DeclaredTopology → ℕ → List ℕ → ℕ
leaving topology node [] = 0
leaving topology node (p ∷ ports) = cond (eqb (port_at topology.ports p).from node) p (leaving topology node ports)

-- leaves it, and is one of them
record Leaves (topology : DeclaredTopology) (node : ℕ) (ports : List ℕ) (port : ℕ) : Type 0 where
  has : Contains ports port
  from : (port_at topology.ports port).from ≡ node

-- where one of them leaves it
leaves : (topology : DeclaredTopology) (node : ℕ) (ports : List ℕ) (k d : ℕ) → k < length ports
    → (port_at topology.ports (get_or ports k d)).from ≡ node
    → Leaves topology node ports (leaving topology node ports)
leaves topology node [] k d within from = absurd (omega (arith, within))
leaves topology node (p ∷ ports) zero d within from =
    subst (λ (t : Bool). Leaves topology node (p ∷ ports) (cond t p (leaving topology node ports)))
    (sym (eq-eqb (port_at topology.ports p).from node from))
    (record { has = (0, omega arith, refl); from = from })
leaves topology node (p ∷ ports) (suc k) d within from =
    let rest : Leaves topology node ports (leaving topology node ports) =
    leaves topology node ports k d (omega (arith, within)) from in
    elim (cases_eq (port_at topology.ports p).from node)
    as (λ _. Leaves topology node (p ∷ ports) (leaving topology node (p ∷ ports))) [
      | inl same ↦ subst (λ (t : Bool). Leaves topology node (p ∷ ports) (cond t p (leaving topology node ports)))
          (sym (eq-eqb (port_at topology.ports p).from node same))
          (record { has = (0, omega arith, refl); from = same })
      | inr other ↦ subst (λ (t : Bool). Leaves topology node (p ∷ ports) (cond t p (leaving topology node ports)))
          (sym (ne_eqb (port_at topology.ports p).from node other))
          (record { has = (suc rest.has.0, omega (arith, rest.has.1), rest.has.2); from = rest.from })
    ]

-- the time of a verdict on a frame that had arrived at this one: from which it is eligible; else of its arrival
abbrev pub time_by : ℕ → Verdict → ℕ
time_by arrival (Eligible e) = e.0
time_by arrival (Late e) = arrival
time_by arrival Size = arrival

abbrev time_of : Option (Ps × Verdict) → ℕ
time_of None = 0
time_of (Some judged) = time_by judged.0.0 judged.1

-- what a frame was told at a node: by its record at the first of its sender's ports that leave it
abbrev pub told_in : DeclaredNetwork → List Travel → ℕ → ℕ → ℕ
told_in network run node frame =
    time_of (option_map judged_as (record_of network (travel_at run frame)
    (leaving network.topology node (sender_at network (travel_at run frame).release.sender).ports)))

-- is told by its record at each
told_at : (network : DeclaredNetwork) (run : List Travel) (frame leg hop : ℕ) (own : HopRecord) → IsNetwork network
    → IsIdeal network run → frame < length run → Stands network (travel_at run frame) leg hop own
    → told_in network run (port_at network.topology.ports (port_of network (travel_at run frame) leg hop)).from frame
    ≡ time_by own.arrival.0 own.verdict
told_at network run frame leg hop own net legal within at =
    ap time_of
    ((one_verdict network run net legal.journeys).judged j
    (frame, within, get_or_default run frame j no_travel within)
    (leaving network.topology (port_at network.topology.ports port).from s.ports) port first.has has first.from)
    ∙ ap (λ (o : Option HopRecord). time_of (option_map judged_as o)) (record_is network j leg hop own net is at)
  where
    j : Travel
    j = travel_at run frame

    s : Sender
    s = sender_at network j.release.sender

    port : ℕ
    port = port_of network j leg hop

    is : IsJourney network j
    is = legal.journeys frame no_travel within

    has : Contains s.ports port
    has = has_port network j leg hop own net is at

    first : Leaves network.topology (port_at network.topology.ports port).from s.ports
        (leaving network.topology (port_at network.topology.ports port).from s.ports)
    first = leaves network.topology (port_at network.topology.ports port).from s.ports has.0 port has.1
        (ap (λ (p : ℕ). (port_at network.topology.ports p).from) has.2)

-- a frame that is sent was told when it was eligible
abbrev pub WasToldAt : (told : ℕ → ℕ → ℕ) → DeclaredNetwork → ℕ → Transmission → Type 0
WasToldAt told network port x = told (port_at network.topology.ports port).from x.frame ≡ x.eligible

pub each_sent : (network : DeclaredNetwork) (run : List Travel) → IsNetwork network → IsIdeal network run
    → All (λ (g : Hop). WasToldAt (told_in network run) network g.port g.sent) (hops_from network 0 run)
each_sent network run net legal =
    sent_in_run (λ (g : Hop). WasToldAt (told_in network run) network g.port g.sent) network run
    (λ frame leg within in_legs hop own e times in_leg at sent.
    told_at network run frame leg hop own net legal within
    (record { in_legs = in_legs; in_leg = in_leg; is = at })
    ∙ ap (time_by own.arrival.0) sent.verdict)

-- and one that is handed on was told the time of its verdict
abbrev pub WasToldBehind : (told : ℕ → ℕ → ℕ) → DeclaredNetwork → ℕ → Handed → Type 0
WasToldBehind told network port h =
    told (port_at network.topology.ports port).to h.crossing.sent.frame ≡ time_by h.crossing.arrival h.verdict

pub each_handed : (network : DeclaredNetwork) (run : List Travel) → IsNetwork network → IsIdeal network run
    → All (λ (h : Handed). WasToldBehind (told_in network run) network h.crossing.port h) (handed_from network 0 run)
each_handed network run net legal =
    handed_in_run (λ (h : Handed). WasToldBehind (told_in network run) network h.crossing.port h) network run
    (λ frame leg within in_legs hop own next e times in_leg at behind sent.
    let is = legal.journeys frame no_travel within in
    let on = goes_from network (travel_at run frame) leg hop own next net is in_legs at behind in
    ap (λ (node : ℕ). told_in network run node frame) (sym on.node)
    ∙ told_at network run frame leg (suc hop) next net legal within on.second)

-- the first record of a frame
pub record Begins (release : Release) (hops : List HopRecord) : Type 0 where
  pub own : HopRecord
  pub at : slice_get hops 0 ≡ Some own
  pub verdict : own.verdict ≡ Eligible release.at

pub begins : (release : Release) (hops : List HopRecord) → IsReleased release hops → Begins release hops
begins release [] is = absurd is
begins release (hop ∷ hops) is = record { own = hop; at = refl; verdict = is.1 }

-- is at the first port of the trunk, which leaves the talker
pub first_stands : (network : DeclaredNetwork) (j : Travel) (own : HopRecord) → IsNetwork network → IsJourney network j
    → slice_get j.hops 0 ≡ Some own → Stands network j 0 0 own
first_stands network j own net is at =
    let s : Sender = sender_at network j.release.sender in
    record {
      in_legs = omega (arith, legs-length 0 s.ports s.branches);
      in_leg = (sender_is network j net is).tree.trunk.some;
      is = at;
    }

pub at_talker : (network : DeclaredNetwork) (j : Travel) (own : HopRecord) → IsNetwork network → IsJourney network j
    → slice_get j.hops 0 ≡ Some own
    → talker_of network j.release.sender ≡ (port_at network.topology.ports (port_of network j 0 0)).from
at_talker network j own net is at =
    starts network.topology.ports s.ports some
    ∙ ap (λ (p : ℕ). (port_at network.topology.ports p).from) first
  where
    s : Sender
    s = sender_at network j.release.sender

    legs : List (List ℕ)
    legs = legs_of s.ports s.branches

    stands : Stands network j 0 0 own
    stands = first_stands network j own net is at

    whole : concat legs ≡ s.ports
    whole = concat-legs_of s.ports s.branches (sender_is network j net is).branches

    first : get_or s.ports 0 0 ≡ port_of network j 0 0
    first =
        ap (λ (l : List ℕ). get_or l 0 0) (sym whole)
        ∙ ap (λ (k : ℕ). get_or (concat legs) k 0) (sym (place_first legs 0))
        ∙ place_is legs 0 0 stands.in_legs stands.in_leg

    some : 0 < length s.ports
    some =
        let has = has_port network j 0 0 own net is stands in
        omega (arith, has.1)

    starts : (ports : List Port) (numbers : List ℕ) → 0 < length numbers
        → start_of ports numbers ≡ (port_at ports (get_or numbers 0 0)).from
    starts ports [] some = absurd (omega (arith, some))
    starts ports (p ∷ numbers) some = refl

-- a node's own frame was told when it was released
pub each_own : (network : DeclaredNetwork) (run : List Travel) (frame : ℕ) → IsNetwork network → IsIdeal network run
    → frame < length run
    → told_in network run (talker_of network (travel_at run frame).release.sender) frame
    ≡ (travel_at run frame).release.at.0
each_own network run frame net legal within =
    let j : Travel = travel_at run frame in
    let is = legal.journeys frame no_travel within in
    let first = begins j.release j.hops is.released in
    ap (λ (node : ℕ). told_in network run node frame) (at_talker network j first.own net is first.at)
    ∙ told_at network run frame 0 0 first.own net legal within (first_stands network j first.own net is first.at)
    ∙ ap (time_by first.own.arrival.0) first.verdict

-- When the verdict on a frame that comes lets it be eligible.
use Rattle.std.proofs.Common.{◌≡◌, ℕ, ◌+◌, ◌*◌, ◌≤◌, Bool, true, false, List, length, get_or, All, refl, sym, subst}
use Rattle.std.proofs.Common.{inl, inr, arith}
use Rattle.std.specs.Prelude.{◌==◌, ◌/◌, nat_le, ℤ, if◌then◌else◌, unwrap_or}
use Rattle.std.specs.List.{range_with_len}
use Rattle.std.proofs.lemmas.Bool.{cases_lt, leb-true}
use Rattle.std.proofs.lemmas.List.{get_or_past}
use Rattle.std.proofs.lemmas.List.Elements.{All-map}
use Rattle.ats_num.specs.declared.time.TheConstants.{PS_PER_SECOND, PS_PER_NS}
use Rattle.ats_num.specs.Wire.{bits_of}
use Rattle.ats_topology.specs.Port.{port_at}
use Rattle.ats_topology.specs.Topology.{IsNode, node_at, no_node}
use Rattle.ats_topology.specs.declared.node.Kind.{Kind}
use Rattle.ats_topology.specs.declared.node.Kind.TheVariants.{Station, Bridge}
use Rattle.ats_topology.specs.declared.node.Node.{Node}
use Rattle.ats_topology.specs.declared.node.TheConstants.{MAX_RESIDENCE_NS}
use Rattle.ats_topology.specs.Node as node
use Rattle.ats_network.specs.Network.{DeclaredNetwork, IsNetwork}
use Rattle.ats_network.specs.Residence.{residence_at}
use Rattle.ats_group.specs.Group.{verdict_by, verdict_on}
use Rattle.ats_streams.specs.Traffic.{is_declared_size}
use Rattle.ats_group.specs.GroupsState.{GroupsState, verdict_of}
use Rattle.ats_group.specs.GroupsState as groups
use Rattle.ats_group.specs.Judge.{OnEligible}
use Rattle.ats_streams.specs.declared.traffic.Declared.{Declared}
use Rattle.ats_group.specs.declared.verdict.Verdict.{Verdict}
use Rattle.ats_group.specs.declared.verdict.Verdict.TheVariants.{Eligible, Late, Size}
use Rattle.ats_bucket.specs.Scheduler.{eligibility_time}
use Rattle.ats_schedulers.specs.Schedulers.{residence_of, residences_of, scheduler_of}
use Rattle.ats_trace.specs.Eligibility.{declared_by}
use Rattle.ats_run_records.specs.Progress.{Progress}
use Rattle.ats_engine_steps.specs.Judging.{AreGroupsOf}
use Rattle.ats_engine_steps.specs.Steps.{judged_by, verdict_now, class_behind}

-- a time from an arrival to a second after it
abbrev pub IsSoon : ℕ → ℕ → Type 0
IsSoon arrival time = (arrival ≤ time) × (time ≤ arrival + PS_PER_SECOND)

-- a verdict by a test
on_if : (test : Bool) (v w : Verdict) (P : ℕ → Type 0) → (test ≡ true → OnEligible v P) → OnEligible w P
    → OnEligible (if test then v else w) P
on_if true v w P first second = first refl
on_if false v w P first second = second

soon_by : (latest eligible arrival : ℕ) → arrival ≤ eligible → latest ≤ arrival + PS_PER_SECOND
    → OnEligible (verdict_by latest eligible) (IsSoon arrival)
soon_by latest eligible arrival low high =
    on_if (nat_le eligible latest) (Eligible (record { 0 = eligible })) (Late (record { 0 = eligible }))
    (IsSoon arrival)
    (λ passes. (let h : eligible ≤ latest = leb-true eligible latest passes in (low, omega arith))) tt

-- a verdict of a group lets a frame be eligible within the maximum residence time of its arrival
soon_on : (declared : Declared) (residence_ns time : ℕ) (empty : ℤ) (arrival octets : ℕ)
    → residence_ns ≤ MAX_RESIDENCE_NS → OnEligible (verdict_on declared residence_ns time empty arrival octets)
    (IsSoon arrival)
soon_on declared residence_ns time empty arrival octets most =
    let eligible : ℕ = eligibility_time declared.rate empty time arrival (bits_of octets) in
    let latest : ℕ = arrival + PS_PER_NS * residence_ns in
    let high : latest ≤ arrival + PS_PER_SECOND = omega arith in
    on_if (is_declared_size declared octets) (verdict_by latest eligible) Size (IsSoon arrival)
    (λ passes. soon_by latest eligible arrival (omega arith) high) tt

-- no residence time is above its limit
of_kind : (kind : Kind) → node.residence_of kind ≤ MAX_RESIDENCE_NS
    → unwrap_or (residence_at kind) 0 ≤ MAX_RESIDENCE_NS
of_kind Station most = omega arith
of_kind (Bridge least greatest residence clock_ppm clock_step_ps) most = most

node_most : (nodes : List Node) (n : ℕ) → All IsNode nodes
    → node.residence_of (node_at nodes n).kind ≤ MAX_RESIDENCE_NS
node_most nodes n each = elim (cases_lt n (length nodes)) as (λ _. node.residence_of (node_at nodes n).kind
    ≤ MAX_RESIDENCE_NS) [
      | inl within ↦ (each n no_node within).residence
      | inr past ↦ subst (λ (x : Node). node.residence_of x.kind ≤ MAX_RESIDENCE_NS)
          (sym (get_or_past nodes n no_node past)) (omega arith)
    ]

group_most : (network : DeclaredNetwork) → IsNetwork network → (group : ℕ)
    → residence_of network group ≤ MAX_RESIDENCE_NS
group_most network rules group =
    let n : ℕ = (port_at network.topology.ports (group / 8)).to in
    of_kind (node_at network.topology.nodes n).kind
    (node_most network.topology.nodes n rules.topology.each_node)

number_most : (numbers : List ℕ) (most n : ℕ) → All (λ (x : ℕ). x ≤ most) numbers → get_or numbers n 0 ≤ most
number_most numbers most n each = elim (cases_lt n (length numbers)) as (λ _. get_or numbers n 0 ≤ most) [
  | inl within ↦ each n 0 within
  | inr past ↦ subst (λ (x : ℕ). x ≤ most) (sym (get_or_past numbers n 0 past)) (omega arith)
]

residence_most : (network : DeclaredNetwork) (state : GroupsState) (group : ℕ) → IsNetwork network
    → AreGroupsOf network state → groups.residence_of state group ≤ MAX_RESIDENCE_NS
residence_most network state group rules members =
    subst (λ (rs : List ℕ). get_or rs group 0 ≤ MAX_RESIDENCE_NS) (sym members.residences)
    (number_most (residences_of network) MAX_RESIDENCE_NS group
    (All-map (λ (r : ℕ). r ≤ MAX_RESIDENCE_NS) (residence_of network)
    (range_with_len 0 (8 * length network.topology.ports)) (λ k d h. group_most network rules _)))

-- a frame that comes becomes eligible, if it does, within a second
pub soon_now : (network : DeclaredNetwork) (state : GroupsState) (progress : Progress) (now : ℕ) → IsNetwork network
    → AreGroupsOf network state → OnEligible (verdict_now network state progress now) (IsSoon now)
soon_now network state progress now rules members =
    let same : IsSoon now now = (omega arith, omega arith) in
    let own : Verdict = Eligible (record { 0 = now }) in
    let octets : ℕ = progress.release.octets in
    let member : ℕ = scheduler_of network progress.release.sender progress.leg (length progress.hops) in
    let declared : Declared = declared_by network progress.release.sender in
    let flow : Verdict = if is_declared_size declared octets then own else Size in
    let stream : Verdict = verdict_of state member now octets in
    let class : ℕ = class_behind network progress in
    on_if (length progress.hops == 0) own (judged_by network state class progress now) (IsSoon now) (λ _. same)
    (on_if (class == 0) flow stream (IsSoon now)
    (λ _. on_if (is_declared_size declared octets) own Size (IsSoon now) (λ _. same) tt)
    (soon_on (groups.declared_at state member) (groups.residence_of state (groups.group_of state member))
    (groups.time_at state.times (groups.group_of state member)) (groups.empty_at state.empties member) now octets
    (residence_most network state (groups.group_of state member) rules members)))

use Rattle.std.proofs.Common.{◌≡◌, ℕ, ◌+◌, ◌-◌, ◌*◌, ◌<◌, ◌≤◌, List, [], ◌∷◌, map, length, get_or, refl, sym, ap, subst}
use Rattle.std.proofs.Common.{◌∙◌, arith, drop, inl, inr, Bool, true, false, ◌||◌}
use Rattle.std.specs.List.{All}
use Rattle.std.specs.Prelude.{nat_lt}
use Rattle.std.proofs.lemmas.Bool.{cases_lt, le-ltb, ltb-false, or_parts}
use Rattle.std.proofs.lemmas.List.Folds.{list_any_none}
use Rattle.std.proofs.lemmas.List.{drop_more, get_or_past}
use Rattle.std.proofs.lemmas.List.Elements.{All-head, All-map, All-tail}
use Rattle.ats_num.specs.declared.rate.TheConstants.{MAX_BPS, MAX_BURST_BITS}
use Rattle.ats_num.specs.Division.{ceiling}
use Rattle.ats_num.specs.declared.time.TheConstants.{PS_PER_SECOND}
use Rattle.ats_num.proofs.Ceiling.{ceiling-only}
use Rattle.ats_clock.specs.Clock.{DeclaredClock, ideal}
use Rattle.ats_clock.specs.Laws.{IsNoGreater}
use Rattle.ats_clock.specs.Rates.{IsCommitted, committed, output_behind, output_of, scheduler_for}
use Rattle.ats_clock.specs.declared.clock.TheConstants.{MILLION}
use Rattle.ats_clock.specs.declared.committed.Committed.{Committed}
use Rattle.ats_clock.proofs.Falling.{never_falls, never_falls_along}
use Rattle.ats_topology.specs.Node.{clock_of}
use Rattle.ats_topology.specs.Port.{port_at}
use Rattle.ats_topology.specs.Topology.{DeclaredTopology, HasIdealClocks, IsTopology, no_node, node_at}
use Rattle.ats_topology.specs.declared.node.Node.{Node}
use Rattle.ats_topology.proofs.Rules.{node_is}
use Rattle.ats_streams.specs.Traffic.{IsRuled}
use Rattle.ats_network.specs.Laws.{AreDeclared, FlowsHaveNoRate, IdealClocksKeepRates, RatesAreNoLess}
use Rattle.ats_network.specs.Rates.{clock_behind, committed_at, declared_with, is_committed_over, is_overrated}
use Rattle.ats_network.specs.Rates.{ports_to, scheduled_at, talker_clock}
use Rattle.ats_network.specs.Sender.{Sender, flow_sender}
use Rattle.ats_network.specs.Class.{class_at}
use Rattle.ats_network.specs.Senders.{IsSender}

-- no clock of a topology deviates by a million parts in a million
below : (topology : DeclaredTopology) (n : ℕ) → IsTopology topology
    → (clock_of (node_at topology.nodes n).kind).deviation_ppm < MILLION
below topology n is = let d = (node_is topology.nodes is.each_node n).clock.deviation in omega arith

-- where each clock is ideal, so is that of the node with any number
ideal_at : (nodes : List Node) (n : ℕ) → All (λ (node : Node). clock_of node.kind ≡ ideal) nodes
    → clock_of (node_at nodes n).kind ≡ ideal
ideal_at nodes n each = elim (cases_lt n (length nodes)) as (λ _. clock_of (node_at nodes n).kind ≡ ideal) [
  | inl within ↦ each n no_node within
  | inr past ↦ ap (λ (node : Node). clock_of node.kind) (get_or_past nodes n no_node past)
]

-- what holds of each clock of a topology holds of those behind these ports
clocks_behind : (P : DeclaredClock → Type 0) (topology : DeclaredTopology) (ports : List ℕ)
    → ((n : ℕ) → P (clock_of (node_at topology.nodes n).kind)) → All P (map (clock_behind topology) ports)
clocks_behind P topology ports each =
    All-map P (clock_behind topology) ports (λ k d h. each (port_at topology.ports (get_or ports k d)).to)

through : (a b c : Committed) → IsNoGreater a b → IsNoGreater b c → IsNoGreater a c
through a b c h g =
    record { rate = omega (arith, h.rate, g.rate); burst = omega (arith, h.burst, g.burst) }

-- what is declared is no greater than what a port sees
pub declared_no_greater : (topology : DeclaredTopology) (s : Sender) (port : ℕ) → IsTopology topology
    → IsNoGreater (committed s.rate s.burst_bits) (committed_at topology port s)
declared_no_greater topology s port is =
    let declared : Committed = committed s.rate s.burst_bits in
    let sent : Committed = output_of (talker_clock topology s) declared in
    let talker : ℕ = (port_at topology.ports (get_or s.ports 0 0)).from in
    through declared sent (committed_at topology port s)
    (never_falls (talker_clock topology s) declared (below topology talker is)).output
    (never_falls_along (map (clock_behind topology) (ports_to s port)) sent
    (clocks_behind (λ (clock : DeclaredClock). clock.deviation_ppm < MILLION) topology (ports_to s port)
    (λ n. below topology n is)))

-- nor is that greater than what the scheduler behind the port has
pub committed_no_greater : (topology : DeclaredTopology) (s : Sender) (port : ℕ) → IsTopology topology
    → IsNoGreater (committed_at topology port s) (scheduled_at topology port s)
committed_no_greater topology s port is =
    (never_falls (clock_behind topology port) (committed_at topology port s)
    (below topology (port_at topology.ports port).to is)).scheduler

pub rates_are_no_less : RatesAreNoLess
rates_are_no_less topology s port is = record {
  seen = declared_no_greater topology s port is;
  scheduled = committed_no_greater topology s port is;
}

-- a clock changes nothing of a rate and a burst
record IsKeptBy (c : Committed) (clock : DeclaredClock) : Type 0 where
  scheduler : scheduler_for clock c ≡ c
  output : output_of clock c ≡ c

kept_along : (clocks : List DeclaredClock) (c : Committed) → All (IsKeptBy c) clocks → output_behind clocks c ≡ c
kept_along [] c each = refl
kept_along (clock ∷ clocks) c each =
    let kept : IsKeptBy c clock = All-head (IsKeptBy c) clock clocks each in
    ap (output_behind clocks) (ap (output_of clock) kept.scheduler ∙ kept.output)
    ∙ kept_along clocks c (All-tail (IsKeptBy c) clock clocks each)

-- where no clock of a topology changes what a sender declares, that stays at each port
are_declared : (topology : DeclaredTopology) (s : Sender) (port : ℕ)
    → ((n : ℕ) → IsKeptBy (committed s.rate s.burst_bits) (clock_of (node_at topology.nodes n).kind))
    → AreDeclared topology s port
are_declared topology s port each = record {
  seen = seen;
  scheduled = ap (scheduler_for (clock_behind topology port)) seen ∙ (each (port_at topology.ports port).to).scheduler;
}
  where
    clocks : List DeclaredClock
    clocks = map (clock_behind topology) (ports_to s port)

    seen : committed_at topology port s ≡ committed s.rate s.burst_bits
    seen =
        ap (output_behind clocks) (each (port_at topology.ports (get_or s.ports 0 0)).from).output
        ∙ kept_along clocks (committed s.rate s.burst_bits)
        (clocks_behind (IsKeptBy (committed s.rate s.burst_bits)) topology (ports_to s port) each)

same : (a b rate burst : ℕ) → a ≡ rate → b ≡ burst → committed a b ≡ committed rate burst
same a b rate burst h g = ap (λ (r : ℕ). committed r b) h ∙ ap (committed rate) g

-- a million times a rate, divided by a million
whole : (rate : ℕ) → ceiling (MILLION * rate) MILLION ≡ rate
whole rate =
    sym (ceiling-only (MILLION * rate) MILLION rate (omega arith)
    (record { reaches = omega arith; least = λ k h. omega arith }))

-- nothing, divided
nothing : (n d : ℕ) → 1 ≤ d → n ≡ 0 → ceiling n d ≡ 0
nothing n d h e =
    sym (ceiling-only n d 0 h (record { reaches = omega (arith, e); least = λ k g. omega arith }))

ideal_keeps : (c : Committed) → IsKeptBy c ideal
ideal_keeps c = record {
  scheduler = same _ _ c.rate c.burst_bits (whole c.rate)
      (let n = nothing (ceiling (MILLION * c.rate) MILLION * 0) PS_PER_SECOND (omega arith) (omega arith) in
      omega arith);
  output = same _ _ c.rate c.burst_bits
      (ap (λ (n : ℕ). ceiling n MILLION) turn ∙ whole c.rate)
      (let n = nothing (c.rate * 0) (MILLION * PS_PER_SECOND) (omega arith) (omega arith) in omega arith);
}
  where
    turn : c.rate * MILLION ≡ MILLION * c.rate
    turn = omega arith

pub ideal_clocks_keep_rates : IdealClocksKeepRates
ideal_clocks_keep_rates topology s port each =
    are_declared topology s port (λ n. subst (IsKeptBy c) (sym (ideal_at topology.nodes n each)) (ideal_keeps c))
  where
    c : Committed
    c = committed s.rate s.burst_bits

-- neither a rate nor a burst
abbrev none : Committed
none = committed 0 0

each_keeps_none : (clock : DeclaredClock) → clock.deviation_ppm < MILLION → IsKeptBy none clock
each_keeps_none clock h = record {
  scheduler = same _ _ 0 0 rate
      (let n = nothing (ceiling 0 (MILLION - clock.deviation_ppm) * clock.step_ps) PS_PER_SECOND (omega arith)
      (ap (λ (r : ℕ). r * clock.step_ps) rate ∙ zero_of clock.step_ps) in omega arith);
  output = same _ _ 0 0 (nothing (0 * (MILLION + clock.deviation_ppm)) MILLION (omega arith) (omega arith))
      (let n = nothing (0 * (MILLION * clock.step_ps + clock.deviation_ppm)) (MILLION * PS_PER_SECOND) (omega arith)
      (omega arith) in omega arith);
}
  where
    rate : ceiling 0 (MILLION - clock.deviation_ppm) ≡ 0
    rate = nothing 0 (MILLION - clock.deviation_ppm) (omega arith) refl

    zero_of : (n : ℕ) → 0 * n ≡ 0
    zero_of n = omega arith

-- a flow has neither at any port
pub flow_sees_nothing : FlowsHaveNoRate
flow_sees_nothing topology f port is =
    are_declared topology (flow_sender f) port
    (λ n. each_keeps_none (clock_of (node_at topology.nodes n).kind) (below topology n is))

-- no burst falls on its way over bridges, whatever their clocks
burst_along : (clocks : List DeclaredClock) (c : Committed) → c.burst_bits ≤ (output_behind clocks c).burst_bits
burst_along [] c = omega arith
burst_along (clock ∷ clocks) c =
    let rest = burst_along clocks (output_of clock (scheduler_for clock c)) in omega arith

burst_seen : (topology : DeclaredTopology) (s : Sender) (port : ℕ)
    → s.burst_bits ≤ (committed_at topology port s).burst_bits
burst_seen topology s port =
    let declared : Committed = committed s.rate s.burst_bits in
    let along = burst_along (map (clock_behind topology) (ports_to s port))
    (output_of (talker_clock topology s) declared) in
    omega arith

-- what a port sees of a sender keeps the rules of a stream, where it has a class there
pub seen_ruled : (topology : DeclaredTopology) (s : Sender) (port : ℕ) → IsSender topology s → 1 ≤ class_at s port
    → IsRuled (declared_with (committed_at topology port s) s)
seen_ruled topology s port is h =
    let rated = is.rated port h in
    let shaped = is.shaped port h in
    record {
      rate = rated.seen.rate;
      sizes = shaped.sizes;
      covers = omega (arith, shaped.covers, burst_seen topology s port);
      burst = rated.seen.burst;
    }

-- and so does what its scheduler has behind the port
pub scheduled_ruled : (topology : DeclaredTopology) (s : Sender) (port : ℕ) → IsSender topology s
    → 1 ≤ class_at s port → IsRuled (declared_with (scheduled_at topology port s) s)
scheduled_ruled topology s port is h =
    let rated = is.rated port h in
    let shaped = is.shaped port h in
    record {
      rate = rated.scheduled.rate;
      sizes = shaped.sizes;
      covers = omega (arith, shaped.covers, burst_seen topology s port);
      burst = rated.scheduled.burst;
    }

-- a rate and a burst are within the limits where greater ones are
pub within_greater : (c greater : Committed) → IsNoGreater c greater → 1 ≤ c.rate → IsCommitted greater → IsCommitted c
within_greater c greater h positive is = record {
  rate = record { positive = positive; within = omega (arith, h.rate, is.rate.within) };
  burst = omega (arith, h.burst, is.burst);
}

-- so are those in front of ports, where those behind them are
pub within_before : (topology : DeclaredTopology) (ports : List ℕ) (c : Committed) → IsTopology topology → 1 ≤ c.rate
    → IsCommitted (output_behind (map (clock_behind topology) ports) c) → IsCommitted c
within_before topology ports c is positive end =
    within_greater c (output_behind (map (clock_behind topology) ports) c)
    (never_falls_along (map (clock_behind topology) ports) c
    (clocks_behind (λ (clock : DeclaredClock). clock.deviation_ppm < MILLION) topology ports
    (λ n. below topology n is)))
    positive end

-- what comes of a rate that is not 0 is not 0: behind a port, and from a talker
pub positive_behind : (topology : DeclaredTopology) (port : ℕ) (c : Committed) → IsTopology topology → 1 ≤ c.rate
    → 1 ≤ (output_of (clock_behind topology port) (scheduler_for (clock_behind topology port) c)).rate
positive_behind topology port c is positive =
    let clock : DeclaredClock = clock_behind topology port in
    let slow = below topology (port_at topology.ports port).to is in
    omega (
      arith,
      (never_falls clock c slow).scheduler.rate,
      (never_falls clock (scheduler_for clock c) slow).output.rate,
      positive,
    )

pub positive_sent : (topology : DeclaredTopology) (s : Sender) → IsTopology topology → 1 ≤ s.rate
    → 1 ≤ (output_of (talker_clock topology s) (committed s.rate s.burst_bits)).rate
positive_sent topology s is positive =
    let talker : ℕ = (port_at topology.ports (get_or s.ports 0 0)).from in
    let sent = never_falls (talker_clock topology s) (committed s.rate s.burst_bits) (below topology talker is) in
    omega (arith, sent.output.rate, positive)

-- over one port more
pub over_one : (topology : DeclaredTopology) (ports : List ℕ) (k d : ℕ) (c : Committed) → k < length ports
    → output_behind (map (clock_behind topology) (drop k ports)) c
    ≡ output_behind (map (clock_behind topology) (drop (k + 1) ports))
    (output_of (clock_behind topology (get_or ports k d)) (scheduler_for (clock_behind topology (get_or ports k d)) c))
over_one topology ports k d c within =
    ap (λ (l : List ℕ). output_behind (map (clock_behind topology) l) c) (drop_more ports k d within)

neither : (a b : Bool) → a ≡ false → b ≡ false → (a || b) ≡ false
neither a b h g = cc

-- a rate of at least 1 and its burst are within the limits where neither is over them, and only there
pub not_over : (c : Committed) → is_committed_over c ≡ false → 1 ≤ c.rate → IsCommitted c
not_over c not positive =
    let parts = or_parts (nat_lt MAX_BPS c.rate) (nat_lt MAX_BURST_BITS c.burst_bits) not in
    record {
      rate = record { positive = positive; within = ltb-false MAX_BPS c.rate parts.0 };
      burst = ltb-false MAX_BURST_BITS c.burst_bits parts.1;
    }

pub within_not_over : (c : Committed) → IsCommitted c → is_committed_over c ≡ false
within_not_over c is =
    neither (nat_lt MAX_BPS c.rate) (nat_lt MAX_BURST_BITS c.burst_bits) (le-ltb MAX_BPS c.rate is.rate.within)
    (le-ltb MAX_BURST_BITS c.burst_bits is.burst)

-- there is no answer exactly for what is over the limits, where there is one exactly for what is within them, and where
-- what the port sees is no greater than what the scheduler has
pub none_over : (none : Bool) (seen scheduled : Committed) → IsNoGreater seen scheduled → 1 ≤ seen.rate
    → (none ≡ false → IsCommitted scheduled) → (IsCommitted scheduled → none ≡ false)
    → none ≡ (is_committed_over seen || is_committed_over scheduled)
none_over none seen scheduled h positive there only =
    by none (is_committed_over seen) (is_committed_over scheduled)
    (λ n. within_not_over seen (within_greater seen scheduled h positive (there n)))
    (λ n. within_not_over scheduled (there n))
    (λ o. only (not_over scheduled o (omega (arith, h.rate, positive))))
  where
    by : (n a b : Bool) → (n ≡ false → a ≡ false) → (n ≡ false → b ≡ false) → (b ≡ false → n ≡ false)
        → n ≡ (a || b)
    by false a b f g k = sym (neither a b (f refl) (g refl))
    by true true b f g k = refl
    by true false true f g k = refl
    by true false false f g k = k refl

-- where all clocks are ideal, no sender is over the limits that declares what is within them
pub none_overrated : (topology : DeclaredTopology) (s : Sender) → HasIdealClocks topology
    → IsCommitted (committed s.rate s.burst_bits) → is_overrated topology s ≡ false
none_overrated topology s each is =
    list_any_none (λ port. is_committed_over (committed_at topology port s)
    || is_committed_over (scheduled_at topology port s)) s.ports (λ k d within. at (get_or s.ports k d))
  where
    declared : is_committed_over (committed s.rate s.burst_bits) ≡ false
    declared = within_not_over (committed s.rate s.burst_bits) is

    at : (port : ℕ) → (is_committed_over (committed_at topology port s)
        || is_committed_over (scheduled_at topology port s)) ≡ false
    at port =
        let kept = ideal_clocks_keep_rates topology s port each in
        neither (is_committed_over (committed_at topology port s)) (is_committed_over (scheduled_at topology port s))
        (ap is_committed_over kept.seen ∙ declared) (ap is_committed_over kept.scheduled ∙ declared)

-- Rates and bursts of the streams of a network, at each of their ports.
use Rattle.std.proofs.Common.{◌≡◌, ℕ, ◌<◌, ◌≤◌, Bool, true, false, ◌||◌, List, [], ◌∷◌, map, length, get_or}
use Rattle.std.proofs.Common.{refl, sym, subst, ◌∙◌, arith, eqb}
use Rattle.std.specs.Prelude.{nat_lt}
use Rattle.std.specs.List.{All, list_any}
use Rattle.std.proofs.lemmas.Bool.{eqb-true, false≢true, le-ltb, ltb-false, or_parts}
use Rattle.std.proofs.lemmas.List.Folds.{list_any_none}
use Rattle.std.proofs.lemmas.List.Elements.{All-cons, All-head, All-map, All-nil, All-tail}
use Rattle.ats_num.specs.declared.rate.TheConstants.{MAX_BPS, MAX_BURST_BITS}
use Rattle.ats_clock.specs.Clock.{DeclaredClock}
use Rattle.ats_clock.specs.Laws.{IsNoGreater, IsNoWorse}
use Rattle.ats_clock.specs.Rates.{IsCommitted, committed, output_behind, output_of, scheduler_for}
use Rattle.ats_clock.specs.declared.clock.TheConstants.{MILLION}
use Rattle.ats_clock.specs.declared.committed.Committed.{Committed}
use Rattle.ats_clock.proofs.Monotone.{are_monotone}
use Rattle.ats_topology.specs.Node.{clock_of}
use Rattle.ats_topology.specs.Port.{port_at}
use Rattle.ats_topology.specs.Topology.{DeclaredTopology, IsTopology, node_at}
use Rattle.ats_topology.proofs.Rules.{node_is}
use Rattle.ats_streams.specs.Branches.{AreBranches, routes_of}
use Rattle.ats_streams.specs.Path.{IsPath}
use Rattle.ats_streams.specs.Rules.{IsBurst}
use Rattle.ats_streams.specs.Stream.{DeclaredStream, IsStream, with_burst, with_class}
use Rattle.ats_streams.specs.declared.branch.Branch.{Branch}
use Rattle.ats_network.specs.Class.{class_at}
use Rattle.ats_network.specs.Rates.{HasRates, IsRated, clock_behind, committed_at, is_committed_over, is_overrated}
use Rattle.ats_network.specs.Rates.{ports_to, scheduled_at, talker_clock}
use Rattle.ats_network.specs.Sender.{Sender, stream_sender}
use Rattle.ats_network.proofs.ClassLemmas.{class_along-has}
use Rattle.ats_network.proofs.RateLemmas.{committed_no_greater, declared_no_greater}

-- where no element passes a test, each fails it
each_fails : (test : ℕ → Bool) (xs : List ℕ) → list_any test xs ≡ false → All (λ (x : ℕ). test x ≡ false) xs
each_fails test [] none = All-nil (λ (x : ℕ). test x ≡ false)
each_fails test (x ∷ xs) none =
    let parts : (test x ≡ false) × (list_any test xs ≡ false) = or_parts (test x) (list_any test xs) none in
    All-cons (λ (x : ℕ). test x ≡ false) x xs parts.0 (each_fails test xs parts.1)

-- what holds of each port of a path holds of a port that it has
at_port : (P : ℕ → Type 0) (port : ℕ) (path : List ℕ) → list_any (λ p. eqb p port) path ≡ true → All P path → P port
at_port P port [] has each = absurd (false≢true has)
at_port P port (p ∷ path) has each =
    by (eqb p port) refl has (λ further. at_port P port path further (All-tail P p path each))
  where
    by : (t : Bool) → eqb p port ≡ t → (t || list_any (λ q. eqb q port) path) ≡ true
        → (list_any (λ q. eqb q port) path ≡ true → P port) → P port
    by true same has further = subst P (eqb-true p port same) (All-head P p path each)
    by false same has further = further has

-- a clock is as good as itself
as_good : (clock : DeclaredClock) → IsNoWorse clock clock
as_good clock = record { deviation = omega arith; step = omega arith }

-- what is not over the limits is within them
is_within : (c : Committed) → 1 ≤ c.rate → is_committed_over c ≡ false → IsCommitted c
is_within c positive small =
    let parts : (nat_lt MAX_BPS c.rate ≡ false) × (nat_lt MAX_BURST_BITS c.burst_bits ≡ false) =
    or_parts (nat_lt MAX_BPS c.rate) (nat_lt MAX_BURST_BITS c.burst_bits) small in
    let rate : c.rate ≤ MAX_BPS = ltb-false MAX_BPS c.rate parts.0 in
    record {
      rate = record { positive = positive; within = omega arith };
      burst = ltb-false MAX_BURST_BITS c.burst_bits parts.1;
    }

no_or : (a b : Bool) → a ≡ false → b ≡ false → (a || b) ≡ false
no_or a b h g = rw (h, g) refl

-- and what is within them is not over
not_over : (c : Committed) → IsCommitted c → is_committed_over c ≡ false
not_over c is =
    let rate = is.rate.within in
    no_or (nat_lt MAX_BPS c.rate) (nat_lt MAX_BURST_BITS c.burst_bits) (le-ltb MAX_BPS c.rate (omega arith))
    (le-ltb MAX_BURST_BITS c.burst_bits is.burst)

-- no clock of a topology deviates by a million parts in a million
deviates : (topology : DeclaredTopology) (n : ℕ) → IsTopology topology
    → (clock_of (node_at topology.nodes n).kind).deviation_ppm < MILLION
deviates topology n is = let d = (node_is topology.nodes is.each_node n).clock.deviation in omega arith

-- a rate and a burst that are no greater than others within the limits are within them
is_less : (c greater : Committed) → 1 ≤ c.rate → IsNoGreater c greater → IsCommitted greater → IsCommitted c
is_less c greater positive less is =
    let rate = less.rate in
    let burst = less.burst in
    let most = is.rate.within in
    let full = is.burst in
    record { rate = record { positive = positive; within = omega arith }; burst = omega arith }

-- at each port, a stream's rates are positive
positive_at : (topology : DeclaredTopology) (s : Sender) (port : ℕ) → IsTopology topology → 1 ≤ s.rate
    → 1 ≤ (committed_at topology port s).rate
positive_at topology s port is positive = let n = (declared_no_greater topology s port is).rate in omega arith

scheduled_positive : (topology : DeclaredTopology) (s : Sender) (port : ℕ) → IsTopology topology → 1 ≤ s.rate
    → 1 ≤ (scheduled_at topology port s).rate
scheduled_positive topology s port is positive =
    let n = (committed_no_greater topology s port is).rate in
    let m = positive_at topology s port is positive in
    omega arith

-- a stream that is not over the limits at one of its ports is within them at each
pub has_rates : (topology : DeclaredTopology) (s : DeclaredStream) → IsTopology topology → 1 ≤ s.rate
    → is_overrated topology (stream_sender s) ≡ false → HasRates topology s
has_rates topology s is positive small k d within =
    let port : ℕ = get_or s.ports k d in
    let seen : Bool = is_committed_over (committed_at topology port (stream_sender s)) in
    let scheduled : Bool = is_committed_over (scheduled_at topology port (stream_sender s)) in
    let parts : (seen ≡ false) × (scheduled ≡ false) =
    or_parts seen scheduled (each_fails test s.ports small k d within) in
    record {
      seen = is_within (committed_at topology port (stream_sender s))
          (positive_at topology (stream_sender s) port is positive) parts.0;
      scheduled = is_within (scheduled_at topology port (stream_sender s))
          (scheduled_positive topology (stream_sender s) port is positive) parts.1;
    }
  where
    test : ℕ → Bool
    test port = is_committed_over (committed_at topology port (stream_sender s))
        || is_committed_over (scheduled_at topology port (stream_sender s))

-- and one that is over them at some port is not within them at each
pub overrated : (topology : DeclaredTopology) (s : DeclaredStream) → is_overrated topology (stream_sender s) ≡ true
    → ¬ HasRates topology s
overrated topology s over rates = false≢true (sym (list_any_none test s.ports fails) ∙ over)
  where
    test : ℕ → Bool
    test port = is_committed_over (committed_at topology port (stream_sender s))
        || is_committed_over (scheduled_at topology port (stream_sender s))

    fails : All (λ (port : ℕ). test port ≡ false) s.ports
    fails k d within =
        let rated : IsRated topology (stream_sender s) (get_or s.ports k d) = rates k d within in
        no_or _ _ (not_over _ rated.seen) (not_over _ rated.scheduled)

-- rates and bursts are not of the class
pub classed_rates : (topology : DeclaredTopology) (s : DeclaredStream) (class : ℕ) → HasRates topology s
    → HasRates topology (with_class s class)
classed_rates topology s class rates k d within =
    let rated : IsRated topology (stream_sender s) (get_or s.ports k d) = rates k d within in
    record { seen = rated.seen; scheduled = rated.scheduled }

-- of a smaller rate and burst, clocks along a path make no more
no_more_along : (clocks : List DeclaredClock) (c greater : Committed)
    → All (λ (clock : DeclaredClock). clock.deviation_ppm < MILLION) clocks → IsNoGreater c greater
    → IsNoGreater (output_behind clocks c) (output_behind clocks greater)
no_more_along [] c greater each less = less
no_more_along (clock ∷ clocks) c greater each less =
    let first : clock.deviation_ppm < MILLION =
    All-head (λ (clock : DeclaredClock). clock.deviation_ppm < MILLION) clock clocks each in
    let scheduled : IsNoGreater (scheduler_for clock c) (scheduler_for clock greater) =
    (are_monotone clock clock c greater first (as_good clock) less).scheduler in
    no_more_along clocks (output_of clock (scheduler_for clock c)) (output_of clock (scheduler_for clock greater))
    (All-tail (λ (clock : DeclaredClock). clock.deviation_ppm < MILLION) clock clocks each)
    (are_monotone clock clock (scheduler_for clock c) (scheduler_for clock greater) first (as_good clock)
    scheduled).output

-- with a smaller burst, a stream is still within the limits
pub narrowed_rates : (topology : DeclaredTopology) (s : DeclaredStream) (burst_bits : ℕ) → IsTopology topology
    → 1 ≤ s.rate → burst_bits ≤ s.burst_bits → HasRates topology s → HasRates topology (with_burst s burst_bits)
narrowed_rates topology s burst_bits is positive narrower rates k d within = record {
  seen = is_less (committed_at topology port narrow) (committed_at topology port wide)
      (positive_at topology narrow port is positive) arriving rated.seen;
  scheduled = is_less (scheduled_at topology port narrow) (scheduled_at topology port wide)
      (scheduled_positive topology narrow port is positive)
      (are_monotone clock clock (committed_at topology port narrow) (committed_at topology port wide)
      (deviates topology (port_at topology.ports port).to is) (as_good clock) arriving).scheduler rated.scheduled;
}
  where
    port : ℕ
    port = get_or s.ports k d

    wide : Sender
    wide = stream_sender s

    narrow : Sender
    narrow = stream_sender (with_burst s burst_bits)

    rated : IsRated topology wide port
    rated = rates k d within

    clock : DeclaredClock
    clock = clock_behind topology port

    talker : DeclaredClock
    talker = talker_clock topology wide

    arriving : IsNoGreater (committed_at topology port narrow) (committed_at topology port wide)
    arriving = no_more_along (map (clock_behind topology) (ports_to wide port))
        (output_of talker (committed s.rate burst_bits)) (output_of talker (committed s.rate s.burst_bits))
        (All-map (λ (clock : DeclaredClock). clock.deviation_ppm < MILLION) (clock_behind topology) (ports_to wide port)
        (λ k d h. deviates topology (port_at topology.ports (get_or (ports_to wide port) k d)).to is))
        (are_monotone talker talker (committed s.rate burst_bits) (committed s.rate s.burst_bits)
        (deviates topology (port_at topology.ports (get_or s.ports 0 0)).from is) (as_good talker)
        (record { rate = omega arith; burst = narrower })).output

-- a stream has a port
has_port : (ports : List ℕ) (branches : List Branch) → AreBranches ports branches
    → All IsPath (routes_of ports branches) → 1 ≤ length ports
has_port ports [] are routes = (routes 0 [] (omega arith)).least
has_port ports (b ∷ branches) are routes = let before = are.places.1 in omega arith

-- a stream with these rates has a committed burst
pub burst_of_rates : (topology : DeclaredTopology) (s : DeclaredStream) (burst_bits : ℕ) → IsTopology topology
    → IsStream s → HasRates topology (with_burst s burst_bits) → IsBurst burst_bits
burst_of_rates topology s burst_bits is keeps rates =
    let port : ℕ = get_or s.ports 0 0 in
    let most = (rates 0 0 (has_port s.ports s.branches keeps.branches keeps.routes)).seen.burst in
    let less = (declared_no_greater topology (stream_sender (with_burst s burst_bits)) port is).burst in
    omega arith

-- where a stream has a class, it is within the limits
pub stream_rated : (topology : DeclaredTopology) (s : DeclaredStream) → HasRates topology s
    → (port : ℕ) → 1 ≤ class_at (stream_sender s) port → IsRated topology (stream_sender s) port
stream_rated topology s rates port positive =
    at_port (IsRated topology (stream_sender s)) port s.ports (class_along-has port s.ports s.classes positive) rates

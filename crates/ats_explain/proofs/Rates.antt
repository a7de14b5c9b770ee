-- The rates of the streams at a port.
use Rattle.std.proofs.Common.{◌≡◌, ◌≤◌, ◌+◌, ℕ, Bool, true, false, cond, List, [], ◌∷◌}
use Rattle.std.proofs.Common.{get_or, map, filter, sum_by, refl, sym, ap, subst, ◌∙◌, eqb, arith}
use Rattle.std.specs.Prelude.{nat_lt}
use Rattle.std.specs.List.{All, list_any}
use Rattle.std.proofs.lemmas.Bool.{eqb-false, eqb-true, lt-ltb, ltb-false, ltb-true, or_parts}
use Rattle.std.proofs.lemmas.List.Elements.{All-append, All-filter, All-head, All-map, All-tail, All-weaker}
use Rattle.std.proofs.lemmas.List.Sums.{sum_by-cons, sum_by-append}
use Rattle.ats_clock.specs.declared.committed.Committed.{Committed}
use Rattle.ats_topology.specs.Topology.{DeclaredTopology, IsTopology}
use Rattle.ats_streams.specs.Flow.{DeclaredFlow}
use Rattle.ats_network.specs.Sender.{Sender, stream_sender, flow_sender}
use Rattle.ats_network.specs.Class.{PortSender, seen_at}
use Rattle.ats_network.specs.Network.{DeclaredNetwork, IsNetwork, senders_of}
use Rattle.ats_network.proofs.RateLemmas.{declared_no_greater, flow_sees_nothing}
use Rattle.ats_certificate.specs.PortSums.{is_above, is_of, senders_at, sum_where, uses}
use Rattle.ats_tally.specs.Tally.{IsTally}
use Rattle.ats_tally.specs.declared.tally.Tally.{Tally}
use Rattle.ats_tally.proofs.Places.{any_sum}
use Rattle.ats_tally.proofs.SeenLemmas.{senders_at-append, streams_class}
use Rattle.ats_explain.specs.Loads.{has_stream, rate_at}

below_one : (n : ℕ) → n ≤ 1 → (n ≡ 1 → ⊥) → n ≡ 0
below_one n low other = grind arith

-- a sender of class 0 has no rate
abbrev pub IsShaped : PortSender → Type 0
IsShaped s = s.class ≡ 0 → s.rate ≡ 0

-- each rate is of the class 1 or of a higher one
classes_all : (ss : List PortSender) → All IsShaped ss
    → sum_where (is_above 1) (λ s. s.rate) ss + sum_where (is_of 1) (λ s. s.rate) ss
    ≡ sum_by (λ (s : PortSender). s.rate) ss
classes_all [] all = refl
classes_all (s ∷ ss) all =
    by (nat_lt 1 s.class) refl (eqb s.class 1) refl (classes_all ss (All-tail IsShaped s ss all))
  where
    above : List PortSender
    above = filter (is_above 1) ss

    equal : List PortSender
    equal = filter (is_of 1) ss

    by : (a : Bool) → nat_lt 1 s.class ≡ a → (b : Bool) → eqb s.class 1 ≡ b
        → sum_by (λ (s : PortSender). s.rate) above + sum_by (λ (s : PortSender). s.rate) equal
        ≡ sum_by (λ (s : PortSender). s.rate) ss
        → sum_by (λ (s : PortSender). s.rate) (cond a (s ∷ above) above)
        + sum_by (λ (s : PortSender). s.rate) (cond b (s ∷ equal) equal)
        ≡ sum_by (λ (s : PortSender). s.rate) (s ∷ ss)
    by true p true q h = absurd (let high = ltb-true 1 s.class p in let one = eqb-true s.class 1 q in omega arith)
    by true p false q h = omega (
      arith,
      h,
      sum_by-cons (λ (s : PortSender). s.rate) s above,
      sum_by-cons (λ (s : PortSender). s.rate) s ss,
    )
    by false p true q h = omega (
      arith,
      h,
      sum_by-cons (λ (s : PortSender). s.rate) s equal,
      sum_by-cons (λ (s : PortSender). s.rate) s ss,
    )
    by false p false q h =
        let low = ltb-false 1 s.class p in
        let zero : s.class ≡ 0 = below_one s.class low (eqb-false s.class 1 q) in
        let none = All-head IsShaped s ss all zero in
        omega (arith, h, none, sum_by-cons (λ (s : PortSender). s.rate) s ss)

-- a flow has no rate at a port
flow_rate : (topology : DeclaredTopology) (port : ℕ) (f : DeclaredFlow) → IsTopology topology
    → (seen_at topology port (flow_sender f)).rate ≡ 0
flow_rate topology port f is = ap (λ (c : Committed). c.rate) (flow_sees_nothing topology f port is).seen

flow_rates : (topology : DeclaredTopology) (port : ℕ) (flows : List DeclaredFlow) → IsTopology topology
    → sum_by (λ (s : PortSender). s.rate) (senders_at topology port (map flow_sender flows)) ≡ 0
flow_rates topology port [] is = refl
flow_rates topology port (f ∷ flows) is = by (uses port (flow_sender f)) (flow_rates topology port flows is)
  where
    rest : List Sender
    rest = filter (uses port) (map flow_sender flows)

    by : (b : Bool) → sum_by (λ (s : PortSender). s.rate) (map (seen_at topology port) rest) ≡ 0
        → sum_by (λ (s : PortSender). s.rate) (map (seen_at topology port) (cond b (flow_sender f ∷ rest) rest)) ≡ 0
    by true h = omega (
      arith,
      h,
      flow_rate topology port f is,
      sum_by-cons (λ (s : PortSender). s.rate) (seen_at topology port (flow_sender f))
          (map (seen_at topology port) rest),
    )
    by false h = h

-- each sender at a port is of class 0 only where it is a flow
all_shaped : (network : DeclaredNetwork) (port : ℕ) → IsNetwork network
    → All IsShaped (senders_at network.topology port (senders_of network))
all_shaped network port is =
    let streams : List Sender = map stream_sender network.streams in
    let flows : List Sender = map flow_sender network.flows in
    let seen : Sender → PortSender = seen_at network.topology port in
    subst (λ (l : List PortSender). All IsShaped l) (sym (senders_at-append network.topology port streams flows))
    (All-append IsShaped (map seen (filter (uses port) streams)) (map seen (filter (uses port) flows))
    (All-weaker (λ (s : PortSender). 1 ≤ s.class) IsShaped (λ s some none. absurd (omega arith))
    (map seen (filter (uses port) streams)) (streams_class network.topology port network.streams is.streams))
    (All-map IsShaped seen (filter (uses port) flows)
    (All-filter (uses port) (λ (s : Sender). IsShaped (seen s)) flows
    (All-map (λ (s : Sender). IsShaped (seen s)) flow_sender network.flows
    (λ k d h none. flow_rate network.topology port (get_or network.flows k d) is.topology)))))

-- what streams make of a port's class 1 and the higher ones is all that they make of it
pub rates_are : (network : DeclaredNetwork) (port : ℕ) (tally : Tally) → IsNetwork network
    → IsTally 1 (senders_at network.topology port (senders_of network)) tally
    → tally.above + tally.equal ≡ rate_at network port
rates_are network port tally is h =
    let streams : List Sender = map stream_sender network.streams in
    let flows : List Sender = map flow_sender network.flows in
    let seen : List Sender → List PortSender = senders_at network.topology port in
    omega (
      arith,
      h.above,
      h.equal,
      ap (sum_by (λ (s : PortSender). s.rate)) (senders_at-append network.topology port streams flows),
      sum_by-append (λ (s : PortSender). s.rate) (seen streams) (seen flows),
      flow_rates network.topology port network.flows is.topology,
      classes_all (seen (senders_of network)) (all_shaped network port is),
    )

seen_rates : (seen : Sender → PortSender) (senders : List Sender)
    → sum_by (λ (s : PortSender). s.rate) (map seen senders) ≡ sum_by (λ (s : Sender). (seen s).rate) senders
seen_rates seen [] = refl
seen_rates seen (s ∷ senders) =
    sum_by-cons (λ (s : PortSender). s.rate) (seen s) (map seen senders)
    ∙ ap (λ (n : ℕ). (seen s).rate + n) (seen_rates seen senders)
    ∙ sym (sum_by-cons (λ (s : Sender). (seen s).rate) s senders)

filter_none : (test : Sender → Bool) (senders : List Sender) → list_any test senders ≡ false
    → filter test senders ≡ []
filter_none test [] none = refl
filter_none test (s ∷ senders) none =
    let parts = or_parts (test s) (list_any test senders) none in
    ap (λ (b : Bool). cond b (s ∷ filter test senders) (filter test senders)) parts.0
    ∙ filter_none test senders parts.1

-- where a stream has the port there is a rate, and only there
pub some_rate : (network : DeclaredNetwork) (port : ℕ) → IsNetwork network
    → nat_lt 0 (rate_at network port) ≡ has_stream network port
some_rate network port is = by (has_stream network port) refl
  where
    streams : List Sender
    streams = map stream_sender network.streams

    seen : Sender → PortSender
    seen = seen_at network.topology port

    by : (b : Bool) → list_any (uses port) streams ≡ b
        → nat_lt 0 (sum_by (λ (s : PortSender). s.rate) (map seen (filter (uses port) streams))) ≡ b
    by true e =
        let some = any_sum (uses port) (λ (s : Sender). (seen s).rate) streams
        (All-map (λ (s : Sender). uses port s ≡ true → 1 ≤ (seen s).rate) stream_sender network.streams
        (λ k d h used. (
        let s : Sender = stream_sender (get_or network.streams k d) in
        omega (
          arith,
          (is.streams k d h).rules.rate.positive,
          (declared_no_greater network.topology s port is.topology).rate,
        )))) e in
        lt-ltb 0 (sum_by (λ (s : PortSender). s.rate) (map seen (filter (uses port) streams)))
        (omega (arith, some, seen_rates seen (filter (uses port) streams)))
    by false e =
        ap (λ (l : List Sender). nat_lt 0 (sum_by (λ (s : PortSender). s.rate) (map seen l)))
        (filter_none (uses port) streams e)

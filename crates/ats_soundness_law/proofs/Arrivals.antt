use Rattle.std.proofs.Common.{◌≡◌, ℕ, ◌+◌, ◌*◌, ◌<◌, ◌≤◌, true, List, filter, length, get_or, All, sym, ap, ◌∙◌, subst}
use Rattle.std.proofs.Common.{inl, inr, arith}
use Rattle.std.specs.Prelude.{◌==◌, ◌&&◌, ◌⊎◌, Contains}
use Rattle.std.proofs.Math.Nat.{mul-le-mul_right}
use Rattle.std.proofs.lemmas.Bool.{and_parts, eqb-true, cases_order}
use Rattle.std.proofs.lemmas.List.{get_or-map, length-map, get_or_default}
use Rattle.std.proofs.lemmas.List.Elements.{All-filter, filter_passes, All-contains, All-contains_itself}
use Rattle.ats_facts.proofs.Lists.{All-from_filter}
use Rattle.ats_topology.specs.Port.{port_at}
use Rattle.ats_topology.proofs.Rules.{ports_are_lawful}
use Rattle.ats_network.specs.Network.{DeclaredNetwork}
use Rattle.ats_network.specs.Senders.{sender_at}
use Rattle.ats_port_rule.specs.Transmission.{Transmission}
use Rattle.ats_port_rule.specs.PortRule.{KeepsPortRuleBy, AreApart}
use Rattle.ats_port_law.specs.PortLaw.{IsOffered}
use Rattle.ats_port_law.proofs.Pairs.{TakesTime, told_no_later}
use Rattle.ats_trace.specs.Journey.{Travel, legs_at, legs_in}
use Rattle.ats_trace.specs.Projections.{Hop, Crossing, Handed, hops_from, crossings_from, handed_from, sent_by}
use Rattle.ats_trace.specs.Projections.{crossings_by, handed_by}
use Rattle.ats_soundness_law.proofs.Along.{hop_of}
use Rattle.ats_soundness_law.proofs.Journeys.{each_has_crossed, each_was_sent}
use Rattle.ats_soundness_law.proofs.Known.{Case, IsTold, told}
use Rattle.ats_soundness_law.proofs.Lifts.{run_were_sent, run_have_crossed}

-- each transmission of a run is among those of its port
pub sent_there : (network : DeclaredNetwork) (run : List Travel) (port : ℕ)
    → All (λ (g : Hop). g.port == port ≡ true → Contains (sent_by network run port) g.sent) (hops_from network 0 run)
sent_there network run port =
    let chosen : List Hop = filter (λ (g : Hop). g.port == port) (hops_from network 0 run) in
    let sent : List Transmission = sent_by network run port in
    All-from_filter (λ (g : Hop). g.port == port) (λ (g : Hop). Contains sent g.sent) (hops_from network 0 run)
    (λ k d h. subst (Contains sent) (get_or-map (λ (g : Hop). g.sent) chosen k d d.sent h)
    (All-contains_itself sent k d.sent (omega (arith, h, length-map chosen (λ (g : Hop). g.sent)))))

-- so is that of each crossing
pub crossed_there : (network : DeclaredNetwork) (run : List Travel) (port : ℕ)
    → All (λ (c : Crossing). Contains (sent_by network run port) c.sent) (crossings_by network run port)
crossed_there network run port k d h =
    let test = λ (c : Crossing). c.port == port in
    let crossings : List Crossing = crossings_from network 0 run in
    let Sent : Hop → Type 0 = λ (g : Hop). g.port == port ≡ true → Contains (sent_by network run port) g.sent in
    let were_sent = run_were_sent Sent network 0 run
    (λ n j. each_was_sent Sent n j.release (sender_at network j.release.sender) (legs_at network j.release.sender)
    (legs_in j)) (sent_there network run port) in
    All-filter test (λ (c : Crossing). Sent (hop_of c)) crossings were_sent k d h (filter_passes test crossings k d h)

-- and what is handed on is among the crossings of its port
pub handed_there : (network : DeclaredNetwork) (run : List Travel) (port : ℕ) → All (λ (h : Handed).
    h.crossing.port == port ≡ true → Contains (crossings_by network run port) h.crossing) (handed_from network 0 run)
handed_there network run port =
    let crossings : List Crossing = crossings_by network run port in
    let There : Crossing → Type 0 = λ (c : Crossing). c.port == port ≡ true → Contains crossings c in
    run_have_crossed There network 0 run
    (λ n j. each_has_crossed There n j.release (sender_at network j.release.sender) (legs_at network j.release.sender)
    (legs_in j))
    (All-from_filter (λ (c : Crossing). c.port == port) (Contains crossings) (crossings_from network 0 run)
    (All-contains_itself crossings))

-- what is known of a frame of a class that a port handed on
pub record HasArrived (network : DeclaredNetwork) (run : List Travel) (port class : ℕ) (h : Handed) : Type 0 where
  pub told : IsTold network h
  pub class_is : h.crossing.sent.class ≡ class
  pub sent : Contains (sent_by network run port) h.crossing.sent
  pub crossed : Contains (crossings_by network run port) h.crossing

pub arrived : (network : DeclaredNetwork) (run : List Travel) (port class : ℕ) → Case network run
    → All (HasArrived network run port class) (handed_by network run port class)
arrived network run port class c k d h =
    let handed : List Handed = handed_from network 0 run in
    let test = λ (h : Handed). h.crossing.port == port && h.crossing.sent.class == class in
    let one : Handed = get_or (handed_by network run port class) k d in
    let There : Handed → Type 0 = λ (h : Handed). h.crossing.port == port ≡ true
    → Contains (crossings_by network run port) h.crossing in
    let parts =
    and_parts (one.crossing.port == port) (one.crossing.sent.class == class) (filter_passes test handed k d h) in
    let crossed : Contains (crossings_by network run port) one.crossing =
    All-filter test There handed (handed_there network run port) k d h parts.0 in
    record {
      told = All-filter test (IsTold network) handed (told network run c) k d h;
      class_is = eqb-true one.crossing.sent.class class parts.1;
      sent = All-contains (λ (c : Crossing). Contains (sent_by network run port) c.sent) (crossings_by network run port)
          one.crossing (crossed_there network run port) crossed;
      crossed = crossed;
    }

-- each transmission that is offered takes time
pub takes_time : (network : DeclaredNetwork) (run : List Travel) (port : ℕ) → Case network run
    → port < length network.topology.ports → IsOffered network port (sent_by network run port)
    → TakesTime (port_at network.topology.ports port).ps_per_bit (sent_by network run port)
takes_time network run port c within offered k d h =
    let ps : ℕ = (port_at network.topology.ports port).ps_per_bit in
    let x : Transmission = get_or (sent_by network run port) k d in
    let rate : 10 ≤ ps = ((ports_are_lawful network.topology c.net.topology).each port _ within).rate.least in
    let bits : 1 ≤ x.bits = omega (arith, (offered.each k d h).least) in
    let product : 10 * x.bits ≤ ps * x.bits = mul-le-mul_right x.bits rate in
    omega (arith, product, bits)

-- of two that are apart, the one that ends first starts first
starts_first : (ps : ℕ) (x y : Transmission) → x.end ≡ x.start + ps * x.bits → y.end ≡ y.start + ps * y.bits
    → 1 ≤ ps * x.bits → x.end ≤ y.end → AreApart x y ⊎ AreApart y x → x.start ≤ y.start
starts_first ps x y tx ty some order (inl (inl before)) = omega (arith, tx, before)
starts_first ps x y tx ty some order (inl (inr after)) = omega (arith, tx, some, order, after)
starts_first ps x y tx ty some order (inr (inl after)) = omega (arith, tx, some, order, after)
starts_first ps x y tx ty some order (inr (inr before)) = omega (arith, tx, before)

-- frames of one class leave a port in the order of the times that they were told, where those that were told earlier
-- times were eligible no later
pub leave_in_order : {told : Transmission → ℕ} (ps : ℕ) (sent : List Transmission) → KeepsPortRuleBy told ps sent
    → TakesTime ps sent
    → All (λ (x : Transmission). All (λ (y : Transmission). x.class ≡ y.class → told x < told y
    → x.eligible ≤ y.eligible) sent) sent
    → (x y : Transmission) → Contains sent x → Contains sent y → x.class ≡ y.class → x.end ≤ y.end → told x ≤ told y
leave_in_order {told} ps sent rule long kept x y cx cy class order =
    let i : ℕ = cx.0 in
    let j : ℕ = cy.0 in
    let at_i : get_or sent i x ≡ x = cx.2 in
    let at_j : get_or sent j x ≡ y = get_or_default sent j x y cy.1 ∙ cy.2 in
    let takes_x : x.end ≡ x.start + ps * x.bits =
    subst (λ (z : Transmission). z.end ≡ z.start + ps * z.bits) at_i (rule.takes i x cx.1) in
    let takes_y : y.end ≡ y.start + ps * y.bits =
    subst (λ (z : Transmission). z.end ≡ z.start + ps * z.bits) at_j (rule.takes j x cy.1) in
    let some : 1 ≤ ps * x.bits = subst (λ (z : Transmission). 1 ≤ ps * z.bits) at_i (long i x cx.1) in
    let Pair : Transmission → Transmission → Type 0 = λ (a b : Transmission). a.class ≡ b.class → a.start ≤ b.start
    → told a ≤ told b in
    let pair : Pair x y = subst (λ (z : Transmission). Pair z y) at_i (subst
    (λ (z : Transmission). Pair (get_or sent i x) z) at_j (told_no_later ps sent rule long kept i j x cx.1 cy.1)) in
    elim (cases_order i j) as (λ _. told x ≤ told y) [
      | inl same ↦ (
          let one : x ≡ y = sym at_i ∙ ap (λ (n : ℕ). get_or sent n x) same ∙ at_j in
          omega (arith, ap told one))
      | inr differ ↦ elim differ as (λ _. told x ≤ told y) [
        | inl before ↦ pair class (starts_first ps x y takes_x takes_y some order
            (inl (subst (λ (z : Transmission). AreApart z y) at_i
            (subst (AreApart (get_or sent i x)) at_j (rule.apart i j x before cy.1)))))
        | inr after ↦ pair class (starts_first ps x y takes_x takes_y some order
            (inr (subst (λ (z : Transmission). AreApart z x) at_j
            (subst (AreApart (get_or sent j x)) at_i (rule.apart j i x after cx.1)))))
      ]
    ]

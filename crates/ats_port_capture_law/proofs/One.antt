-- A port has one capture in a legal run.
use Rattle.std.proofs.Common.{◌≡◌, ◌≢◌, ◌∙◌, ℕ, ◌+◌, ◌*◌, ◌<◌, ◌≤◌, ◌⊎◌, inl, inr, List, length, get_or, sym}
use Rattle.std.proofs.Common.{ap, arith, mul-le-mul_left}
use Rattle.std.specs.Prelude.{IsPermutation}
use Rattle.std.specs.List.{All, AllPairs, Contains}
use Rattle.std.proofs.lemmas.Bool.{cases_lt}
use Rattle.std.proofs.lemmas.List.Elements.{All-contains_itself}
use Rattle.std.proofs.lemmas.List.Sorted.{All-permutation, IsPermutation-sym}
use Rattle.ats_facts.proofs.Pairs.{AllPairs-permutation}
use Rattle.ats_topology.specs.Port.{no_port, port_at}
use Rattle.ats_topology.proofs.Rules.{ports_are_lawful}
use Rattle.ats_network.specs.Network.{DeclaredNetwork, IsNetwork}
use Rattle.ats_port_rule.specs.PortRule.{AreApart, KeepsPortRuleBy}
use Rattle.ats_port_rule.specs.Transmission.{Transmission}
use Rattle.ats_trace.specs.Journey.{Travel}
use Rattle.ats_trace.specs.Projections.{sent_by}
use Rattle.ats_trace.specs.Clocks.{IsLegal}
use Rattle.ats_port_capture.specs.Capture.{AreInOrder, capture_of}
use Rattle.ats_port_capture_law.specs.Laws.{CaptureIsOne}
use Rattle.ats_port_capture_law.proofs.Members.{IsReadable, each_readable, none_sent}
use Rattle.ats_port_capture_law.proofs.Order.{same_list, strict_from}

-- two transmissions start at different times
abbrev StartApart : Transmission → Transmission → Type 0
StartApart x y = x.start ≢ y.start

-- of two that do not overlap, each of which takes some time, one starts later
start_apart : (ps : ℕ) (x y : Transmission) → 1 ≤ ps → 1 ≤ x.bits → 1 ≤ y.bits → x.end ≡ x.start + ps * x.bits
    → y.end ≡ y.start + ps * y.bits → AreApart x y → StartApart x y
start_apart ps x y some xb yb xe ye apart same =
    let x_takes : 1 ≤ ps * x.bits = omega (arith, mul-le-mul_left ps xb) in
    let y_takes : 1 ≤ ps * y.bits = omega (arith, mul-le-mul_left ps yb) in
    by apart x_takes y_takes
  where
    by : AreApart x y → 1 ≤ ps * x.bits → 1 ≤ ps * y.bits → ⊥
    by (inl first) a b = omega (arith, first, a, xe, same)
    by (inr second) a b = omega (arith, second, b, ye, same)

-- so do those of a port that keeps the port rule
rule_apart : {told : Transmission → ℕ} (ps : ℕ) (run : List Travel) (sent : List Transmission) → 1 ≤ ps → All
    (IsReadable run) sent
    → KeepsPortRuleBy told ps sent → AllPairs StartApart sent
rule_apart ps run sent some each rule i j d before within =
    start_apart ps (get_or sent i d) (get_or sent j d) some (each i d (omega arith)).bits (each j d within).bits
    (rule.takes i d (omega arith)) (rule.takes j d within) (rule.apart i j d before within)

-- in a legal run
sent_apart : (network : DeclaredNetwork) (run : List Travel) (port : ℕ) → IsNetwork network → IsLegal network run
    → AllPairs StartApart (sent_by network run port)
sent_apart network run port net legal = by (cases_lt port (length network.topology.ports))
  where
    by : (port < length network.topology.ports) ⊎ (length network.topology.ports ≤ port)
        → AllPairs StartApart (sent_by network run port)
    by (inl within) =
        let rate = ((ports_are_lawful network.topology net.topology).each port no_port within).rate.least in
        rule_apart (port_at network.topology.ports port).ps_per_bit run (sent_by network run port)
        (omega (arith, rate)) (each_readable network run port net legal.journeys) (legal.ports port within)
    by (inr beyond) =
        let none : length (sent_by network run port) ≡ 0 =
        ap (λ (l : List Transmission). length l) (none_sent network run port net beyond legal.journeys) in
        λ i j d before within. absurd (omega (arith, none, within))

each_in : (all one other : List Transmission) → IsPermutation all one → IsPermutation all other
    → All (Contains other) one
each_in all one other moved again =
    All-permutation (Contains other) all one moved
    (All-permutation (Contains other) other all (IsPermutation-sym all other again) (All-contains_itself other))

same_order : (network : DeclaredNetwork) (run : List Travel) (port : ℕ) (one other : List Transmission)
    → IsNetwork network → IsLegal network run → AreInOrder network run port one → AreInOrder network run port other
    → one ≡ other
same_order network run port one other net legal first second =
    let all : List Transmission = sent_by network run port in
    let flip : (x y : Transmission) → StartApart x y → StartApart y x = λ x y apart e. apart (sym e) in
    let apart = sent_apart network run port net legal in
    same_list (λ (t : Transmission). t.start) one other
    (strict_from (λ (t : Transmission). t.start) one first.in_order
    (AllPairs-permutation StartApart flip all one first.all apart))
    (strict_from (λ (t : Transmission). t.start) other second.in_order
    (AllPairs-permutation StartApart flip all other second.all apart))
    (each_in all one other first.all second.all) (each_in all other one second.all first.all)

pub capture_is_one : CaptureIsOne
capture_is_one network run port file other net legal first second =
    first.written
    ∙ ap (capture_of network run)
    (same_order network run port first.sent second.sent net legal first.ordered second.ordered)
    ∙ sym second.written

use Rattle.std.proofs.Common.{◌≡◌, ℕ, zero, suc, ◌+◌, ◌*◌, ◌/◌, ◌<◌, ◌≤◌, List, [], ◌∷◌, get_or, length, refl, subst}
use Rattle.std.proofs.Common.{◌∙◌, arith, lit<, lit≤}
use Rattle.ats_clock.specs.Clock.{KeepsClock, declared_clock}
use Rattle.ats_clock_law.specs.Examples.{ticking}
use Rattle.ats_topology.specs.Topology.{node_at}
use Rattle.ats_group.specs.declared.verdict.Verdict.TheVariants.{Size}
use Rattle.ats_port_rule.specs.PortRule.{IsAhead, IsAheadBy}
use Rattle.ats_port_rule.specs.Transmission.{Transmission}
use Rattle.ats_trace.specs.Clocks.{IsJudgedBy, KeepsNodeClock, WasTold}
use Rattle.ats_trace.specs.Journey.{Travel}
use Rattle.ats_trace.specs.Parts.{Keeps, chosen}
use Rattle.ats_trace.specs.Projections.{Handed, handed_by, sent_by}
use Rattle.ats_trace.proofs.PartProofs.{legal_is_each_part}
use Rattle.ats_examples.proofs.ChangeProofs.{no_frame, no_transmission, only}
use Rattle.ats_examples.proofs.InOrder.{two_in_order}
use Rattle.ats_examples.proofs.NetworkTest.{network_by}
use Rattle.ats_examples.proofs.PartTest.{others_by}
use Rattle.ats_examples.specs.Networks.{fork_links}
use Rattle.ats_clock_examples.specs.Clocked.{IsLegalWith, clock_at}
use Rattle.ats_clock_examples.specs.Overtaken.{AllAreTold, ToldTimesDecide, bridge_ticks, flow_overtaken, overtaken}
use Rattle.ats_clock_examples.specs.Overtaken.{overtaken_by_own, own_waits, ticking_fork}
use Rattle.ats_clock_examples.specs.Overtaken.{ticking_fork_nodes, two_wait}
use Rattle.ats_clock_examples.proofs.ClockTest.{legal_with_by, told_verdicts}
use Rattle.ats_clock_examples.proofs.FromLegal.{times_of}

-- Frames that overtake others by told times, by computation.

eighth_is : (t : ℕ) → (8000 * (t / 8000) ≤ t) × (t < 8000 * (t / 8000) + 8000)
eighth_is t = (omega arith, omega arith)

pub ticking_keeps : KeepsClock (declared_clock 0 8000) ticking
ticking_keeps = record {
  in_order = λ s t h. (let a = eighth_is s in let b = eighth_is t in omega (arith, a.0, a.1, b.0, b.1));
  no_slower = λ s t h. (let a = eighth_is s in let b = eighth_is t in omega (arith, a.0, a.1, b.0, b.1));
  no_faster = λ s t h. (let a = eighth_is s in let b = eighth_is t in omega (arith, a.0, a.1, b.0, b.1));
}

keeps : (node : ℕ) → KeepsNodeClock (node_at ticking_fork.topology.nodes node).kind (clock_at bridge_ticks node)
keeps zero = λ t. refl
keeps (suc zero) = λ t. refl
keeps (suc (suc zero)) = λ t. refl
keeps (suc (suc (suc zero))) = ticking_keeps
keeps (suc (suc (suc (suc node)))) = λ t. refl

-- the times that nodes told the frames, where s3 and the bridge told the last one these
abbrev told : ℕ → ℕ → List (List ℕ)
told at last = (0 ∷ 1 ∷ []) ∷ [] ∷ (0 ∷ 0 ∷ at ∷ []) ∷ (2680000 ∷ 3352000 ∷ last ∷ []) ∷ []

-- the transmission of a frame with a number at the port to s2
abbrev sent_there : List Travel → ℕ → Transmission
sent_there run frame = get_or (sent_by ticking_fork run 2) frame no_transmission

-- frame 2 starts before frame 1, which was eligible then
record Overtakes (run : List Travel) : Type 0 where
  there : 2 < length (sent_by ticking_fork run 2)
  numbers : ((sent_there run 1).frame ≡ 1) × ((sent_there run 2).frame ≡ 2)
  first : (sent_there run 2).start < (sent_there run 1).start
  eligible : (sent_there run 1).eligible ≤ (sent_there run 2).start
  class : (sent_there run 2).class ≡ (sent_there run 1).class

-- so it was told no later
told_no_later : (run : List Travel) → Overtakes run → (h : IsLegalWith bridge_ticks ticking_fork run)
    → h.legal.told 3 2 ≤ h.legal.told 3 1
told_no_later run o h =
    let ahead : IsAheadBy (λ (x : Transmission). h.legal.told 3 x.frame) (sent_there run 2) (sent_there run 1) =
    (h.legal.ports 2 (lit< tt)).chosen 2 no_transmission o.there 1 no_transmission (omega (arith, o.there)) o.first
    o.eligible in
    subst (λ (k : ℕ). h.legal.told 3 2 ≤ h.legal.told 3 k) o.numbers.0
    (subst (λ (k : ℕ). h.legal.told 3 k ≤ h.legal.told 3 (sent_there run 1).frame) o.numbers.1
    (ahead.no_later o.class))

not_told : (run : List Travel) → Overtakes run → (h : IsLegalWith bridge_ticks ticking_fork run)
    → h.legal.told 3 1 ≡ 3352000 → h.legal.told 3 2 ≡ 3360000 → ⊥
not_told run o h sooner later = omega (arith, told_no_later run o h, sooner, later)

-- by true time the choice at that port is broken where it was eligible later
not_chosen : (run : List Travel) → Overtakes run → (sent_there run 1).eligible < (sent_there run 2).eligible
    → ¬ Keeps chosen ticking_fork run
not_chosen run o later keeps =
    let ahead : IsAhead (sent_there run 2) (sent_there run 1) =
    keeps 2 (lit< tt) 2 no_transmission o.there 1 no_transmission (omega (arith, o.there)) o.first o.eligible in
    omega (arith, later, ahead.no_later o.class)

abbrev next : List Travel
next = two_wait 0 1 4540000 3360000 3868000

abbrev flow_next : List Travel
flow_next = two_wait 3 4 4540000 3360000 3868000

abbrev own_next : List Travel
own_next = own_waits 4540000 3360000 3868000

-- in these runs frame 2 overtakes
overtakes : Overtakes overtaken
overtakes = record { there = lit< tt; numbers = (refl, refl); first = lit< tt; eligible = lit≤ tt; class = refl }

flow_overtakes : Overtakes flow_overtaken
flow_overtakes = record { there = lit< tt; numbers = (refl, refl); first = lit< tt; eligible = lit≤ tt; class = refl }

own_overtakes : Overtakes overtaken_by_own
own_overtakes = record { there = lit< tt; numbers = (refl, refl); first = lit< tt; eligible = lit≤ tt; class = refl }

next_overtakes : Overtakes next
next_overtakes = record { there = lit< tt; numbers = (refl, refl); first = lit< tt; eligible = lit≤ tt; class = refl }

flow_next_overtakes : Overtakes flow_next
flow_next_overtakes =
    record { there = lit< tt; numbers = (refl, refl); first = lit< tt; eligible = lit≤ tt; class = refl }

own_next_overtakes : Overtakes own_next
own_next_overtakes =
    record { there = lit< tt; numbers = (refl, refl); first = lit< tt; eligible = lit≤ tt; class = refl }

-- the group behind a port told the second of two frames the time of its verdict
second_told : (run : List Travel) (h : IsLegalWith bridge_ticks ticking_fork run) (one other : Handed)
    → one.crossing.arrival < other.crossing.arrival → handed_by ticking_fork run 0 6 ≡ one ∷ other ∷ []
    → WasTold (h.legal.told 3) other (get_or (told_verdicts ticking ticking_fork 0 (one ∷ other ∷ [])) 1 Size)
second_told run h one other before are =
    let judged : IsJudgedBy (h.legal.clocks 3) (h.legal.told 3) ticking_fork 0 (one ∷ other ∷ []) =
    subst (IsJudgedBy (h.legal.clocks 3) (h.legal.told 3) ticking_fork 0) are
    (h.legal.groups 0 6 (lit< tt) (lit≤ tt)) in
    let in_order : judged.arrivals ≡ one ∷ other ∷ [] = two_in_order (λ (f : Handed). f.crossing.arrival) one other
    judged.arrivals before judged.same judged.in_order in
    (times_of (h.legal.clocks 3) ticking (h.legal.told 3) (h.by_clocks 3) ticking_fork 0 (one ∷ other ∷ []) judged
    in_order).1.0

-- the frames of s1 as its port hands them on, and that of s3
abbrev of_first : List Handed
of_first = handed_by ticking_fork next 0 6

abbrev of_second : List Handed
of_second = handed_by ticking_fork next 4 6

not_next : ¬ IsLegalWith bridge_ticks ticking_fork next
not_next h =
    let second : IsJudgedBy (h.legal.clocks 3) (h.legal.told 3) ticking_fork 4 of_second =
    h.legal.groups 4 6 (lit< tt) (lit≤ tt) in
    let alone : second.arrivals ≡ of_second = only (get_or of_second 0 no_frame) second.arrivals second.same in
    let sooner : h.legal.told 3 1 ≡ 3352000 =
    second_told next h (get_or of_first 0 no_frame) (get_or of_first 1 no_frame) (lit< tt) refl in
    let later : h.legal.told 3 2 ≡ 3360000 =
    (times_of (h.legal.clocks 3) ticking (h.legal.told 3) (h.by_clocks 3) ticking_fork 4 of_second second alone).0 in
    not_told next next_overtakes h sooner later

-- flows' frames were told what the clock showed
flow_not_next : ¬ IsLegalWith bridge_ticks ticking_fork flow_next
flow_not_next h =
    let first : h.legal.told 3 1 ≡ h.legal.clocks 3 3356000 = h.legal.passed 0 (lit< tt) 1 no_frame (lit< tt) in
    let second : h.legal.told 3 2 ≡ h.legal.clocks 3 3360000 = h.legal.passed 4 (lit< tt) 0 no_frame (lit< tt) in
    not_told flow_next flow_next_overtakes h (first ∙ h.by_clocks 3 3356000) (second ∙ h.by_clocks 3 3360000)

own_not_next : ¬ IsLegalWith bridge_ticks ticking_fork own_next
own_not_next h =
    let sooner : h.legal.told 3 1 ≡ 3352000 =
    second_told own_next h (get_or of_first 0 no_frame) (get_or of_first 1 no_frame) (lit< tt) refl in
    let at_release : h.legal.told 3 2 ≡ h.legal.clocks 3 3360000 = h.legal.own 2 (lit< tt) in
    not_told own_next own_next_overtakes h sooner (at_release ∙ h.by_clocks 3 3360000)

pub told_times_decide : ToldTimesDecide
told_times_decide = record {
  network = network_by ticking_fork_nodes fork_links ticking_fork.streams ticking_fork.flows refl refl;
  keeps_clock = ticking_keeps;
  shown = refl;
  shown_again = refl;
  legal = legal_with_by bridge_ticks (told 1184003 3352000) ticking_fork overtaken keeps refl;
  in_turn = legal_with_by bridge_ticks (told 1184003 3352000) ticking_fork (two_wait 0 1 3868000 3356003 4540000)
      keeps refl;
  not_ideal = λ ideal. not_chosen overtaken overtakes (lit< tt)
      ((legal_is_each_part ticking_fork overtaken).0 ideal chosen);
  breaks = record {
    broken = not_chosen overtaken overtakes (lit< tt);
    others = others_by chosen ticking_fork overtaken refl;
  };
  shown_next = refl;
  next_in_turn = legal_with_by bridge_ticks (told 1188000 3360000) ticking_fork
      (two_wait 0 1 3868000 3360000 4540000) keeps refl;
  not_next = not_next;
}

pub all_are_told : AllAreTold
all_are_told = record {
  flow = legal_with_by bridge_ticks (told 1184003 3352000) ticking_fork flow_overtaken keeps refl;
  flow_breaks = record {
    broken = not_chosen flow_overtaken flow_overtakes (lit< tt);
    others = others_by chosen ticking_fork flow_overtaken refl;
  };
  flow_not_next = flow_not_next;
  own = legal_with_by bridge_ticks (told 0 3352000) ticking_fork overtaken_by_own keeps refl;
  own_breaks = record {
    broken = not_chosen overtaken_by_own own_overtakes (lit< tt);
    others = others_by chosen ticking_fork overtaken_by_own refl;
  };
  own_not_next = own_not_next;
}

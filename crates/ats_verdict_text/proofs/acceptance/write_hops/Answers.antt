use Rattle.std.proofs.Common.{ℕ, ◌+◌, ◌<◌, ◌≤◌, List, length, get_or, ap, sym, subst, ◌∙◌, arith}
use Rattle.ats_verdict_text.proofs.OnLegs.{IsOnLeg, on_leg}
use Rattle.ats_verdict_text.proofs.acceptance.write_hops.Goals.{In-loop-hop}
use Rattle.ats_verdict_text.proofs.acceptance.write_hops.Goals as goal

-- the port of this hop and its class
here : (c : In-loop-hop)
    → IsOnLeg c.args.stream.now c.first_place-first.result c.loop-hop.hop
    (get_or c.leg-port-items.result.now c.loop-hop.hop 0)
here c = on_leg c.args.stream.now c.leg-port-items.result.now c.args.leg c.first_place-first.result c.loop-hop.hop
    c.classes-classes.ensures.rules c.requires.apart c.requires.leg c.first_place-first.ensures
    c.leg-port-items.ensures.value c.loop-hop-test.true

in_classes : (c : In-loop-hop) → c.first_place-first.result + c.loop-hop.hop < length c.classes-classes.result.now
in_classes c = let h = here c in omega (
  arith,
  h.within,
  c.classes-classes.ensures.rules.each_port,
  ap (λ (l : List ℕ). length l) c.classes-classes.ensures.value,
)

pub overflow_add-first : goal.overflow_add-first
overflow_add-first c =
    omega (arith, in_classes (goal.at.overflow_add-first c).In-loop-hop, c.classes-classes.type_inv.0)

pub bounds-classes-first : goal.bounds-classes-first
bounds-classes-first c = in_classes (goal.at.bounds-classes-first c).In-loop-hop

pub write_hop-requires-clause-inside : goal.write_hop-requires-clause-inside
write_hop-requires-clause-inside c =
    let h = here (goal.at.write_hop-requires-clause-inside c).In-loop-hop in
    subst (λ (p : ℕ). p < length c.args.topology.now.ports) h.port_is
    (c.requires.inside (c.first_place-first.result + c.loop-hop.hop) 0 h.within)

pub write_hop-requires-clause-class : goal.write_hop-requires-clause-class
write_hop-requires-clause-class c =
    ap (λ (l : List ℕ). get_or l (c.first_place-first.result + c.loop-hop.hop) 0) c.classes-classes.ensures.value
    ∙ (here (goal.at.write_hop-requires-clause-class c).In-loop-hop).class_is

pub write_hop-requires-clause-class_most : goal.write_hop-requires-clause-class_most
write_hop-requires-clause-class_most c =
    let place : ℕ = c.first_place-first.result + c.loop-hop.hop in
    let within : place < length c.args.stream.now.classes = omega (
      arith,
      in_classes (goal.at.write_hop-requires-clause-class_most c).In-loop-hop,
      ap (λ (l : List ℕ). length l) c.classes-classes.ensures.value,
    ) in
    subst (λ (l : List ℕ). get_or l place 0 ≤ 7) (sym c.classes-classes.ensures.value)
    (c.classes-classes.ensures.rules.classes place 0 within).most

use Rattle.std.proofs.Common.{◌≡◌, false, ℕ, List, Some, None, sym, ap, subst, ◌∙◌}
use Rattle.std.proofs.lemmas.Bool.{false≢true}
use Rattle.ats_topology.specs.declared.port.Port.{Port}
use Rattle.ats_network.specs.PathSteps.{ends_of, comes_to, part_ways}
use Rattle.ats_network.proofs.PathLemmas.{AreEnds, ends_are, walk_ports, no_ends, talker_is, valid_from_parts}
use Rattle.ats_network.proofs.PathLemmas.{valid_parts, valid_never_back}
use Rattle.ats_network.proofs.paths.is_valid_path.Goals as goal

pub returns-in_default : goal.returns-in_default
returns-in_default c =
    let none : ends_of c.args.topology.now.ports c.args.path.now ≡ None =
    sym (c.ends.ensures ∙ ap (λ (ports : List Port). ends_of ports c.args.path.now) c.ports-ports.ensures.value)
    ∙ c.in_default.is in
    (λ h. absurd (false≢true h), λ valid. absurd (no_ends c.args.topology.now c.args.path.now none valid))

pub comes_to-requires : goal.comes_to-requires
comes_to-requires c =
    let e : AreEnds c.ports-ports.result.now c.args.path.now c.in-Some.talker c.in-Some.field-0-1 =
    ends_are c.ports-ports.result.now c.args.path.now c.in-Some.talker c.in-Some.field-0-1
    (sym c.ends.ensures ∙ c.in-Some.is) in
    walk_ports c.ports-ports.result.now c.in-Some.talker c.args.path.now c.in-Some.field-0-1 e.walk

pub part_ways-requires : goal.part_ways-requires
part_ways-requires c =
    let e : AreEnds c.ports-ports.result.now c.args.path.now c.in-Some.talker c.in-Some.field-0-1 =
    ends_are c.ports-ports.result.now c.args.path.now c.in-Some.talker c.in-Some.field-0-1
    (sym c.ends.ensures ∙ c.in-Some.is) in
    walk_ports c.ports-ports.result.now c.in-Some.talker c.args.path.now c.in-Some.field-0-1 e.walk

pub returns-then-comes_to : goal.returns-then-comes_to
returns-then-comes_to c =
    let found : ends_of c.args.topology.now.ports c.args.path.now ≡ Some (c.in-Some.talker, c.in-Some.field-0-1) =
    sym (c.ends.ensures ∙ ap (λ (ports : List Port). ends_of ports c.args.path.now) c.ports-ports.ensures.value)
    ∙ c.in-Some.is in (
      λ h. absurd (false≢true h),
      λ valid.
          let away : comes_to c.args.topology.now.ports c.in-Some.talker c.args.path.now ≡ false =
          subst (λ (n : ℕ). comes_to c.args.topology.now.ports n c.args.path.now ≡ false)
          (talker_is c.args.topology.now c.args.path.now c.in-Some.talker c.in-Some.field-0-1 found valid)
          (valid_never_back c.args.topology.now c.args.path.now valid) in
          absurd (false≢true (sym away ∙ sym (c.comes_to.ensures ∙ ap (λ (ports : List Port).
          comes_to ports c.in-Some.talker c.args.path.now) c.ports-ports.ensures.value) ∙ c.if-comes_to.true)),
    )

pub returns : goal.returns
returns c =
    let found : ends_of c.args.topology.now.ports c.args.path.now ≡ Some (c.in-Some.talker, c.in-Some.field-0-1) =
    sym (c.ends.ensures ∙ ap (λ (ports : List Port). ends_of ports c.args.path.now) c.ports-ports.ensures.value)
    ∙ c.in-Some.is in
    let away : comes_to c.args.topology.now.ports c.in-Some.talker c.args.path.now ≡ false =
    sym (c.comes_to.ensures ∙ ap (λ (ports : List Port). comes_to ports c.in-Some.talker c.args.path.now)
    c.ports-ports.ensures.value) ∙ c.if-comes_to.false in
    let parting : c.part_ways.result ≡ part_ways c.args.topology.now.ports c.args.path.now =
    c.part_ways.ensures ∙ ap (λ (ports : List Port). part_ways ports c.args.path.now) c.ports-ports.ensures.value in (
      λ h. valid_from_parts c.args.topology.now c.args.path.now c.in-Some.talker c.in-Some.field-0-1 found away
          (sym parting ∙ h),
      λ valid. parting ∙ valid_parts c.args.topology.now c.args.path.now valid,
    )

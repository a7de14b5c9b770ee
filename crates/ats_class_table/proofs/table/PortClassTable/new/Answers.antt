use Rattle.std.proofs.Common.{◌≡◌, ◌*◌, ℕ, arith, length, replicate, ap, ◌∙◌}
use Rattle.std.proofs.lemmas.List.{length-replicate}
use Rattle.ats_class_table.proofs.Values.{filled_is}
use Rattle.ats_class_table.proofs.table.PortClassTable.new.Goals as goal

pub invariant_of-result : goal.invariant_of-result
invariant_of-result g c =
    let all : c.loop.counter ≡ 8 * c.args.ports = omega (arith, c.loop-test.false, c.loop.auto.counter-end) in
    ap length c.loop.invariant ∙ length-replicate c.loop.counter c.args.value ∙ all

pub returns : goal.returns
returns g c =
    let all : c.loop.counter ≡ 8 * c.args.ports = omega (arith, c.loop-test.false, c.loop.auto.counter-end) in
    filled_is c.args.ports c.args.value c.loop.values.items
    (c.loop.invariant ∙ ap (λ (n : ℕ). replicate n c.args.value) all)

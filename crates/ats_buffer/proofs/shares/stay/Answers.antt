use Rattle.std.proofs.Common.{◌≡◌, ◌*◌, ◌≤◌, List, sym, ap, ◌∙◌, arith}
use Rattle.std.specs.Prelude.{slice_index_or}
use Rattle.std.proofs.Math.Nat.{mul-le-mul_right}
use Rattle.ats_topology.specs.Port.{no_port}
use Rattle.ats_topology.specs.declared.port.Port.{Port}
use Rattle.ats_topology.proofs.Rules.{ports_are_lawful}
use Rattle.ats_certificate.specs.Form.{IsRow}
use Rattle.ats_buffer.proofs.Found.{row_form}
use Rattle.ats_buffer.proofs.shares.stay.Goals as goal

pub overflow_add-result : goal.overflow_add-result
overflow_add-result c =
    let form : IsRow c.in-Some.row =
    row_form c.args.rows.now.rows c.args.port c.args.class c.in-Some.row c.row.ensures.form
    (sym c.in-Some.ensures.value) in
    let lawful = (ports_are_lawful c.args.network.now.topology c.topology.ensures.rules.topology).each
    c.args.port no_port c.requires.port in
    let same : c.from.result ≡ (slice_index_or c.args.network.now.topology.ports c.args.port no_port).ps_per_bit =
    c.from.ensures ∙ ap (λ (l : List Port). (slice_index_or l c.args.port no_port).ps_per_bit)
    (c.ports.ensures.value ∙ ap (λ t. t.ports) c.topology.ensures.value) in
    let slow : c.from.result ≤ 100000 = omega (arith, same, lawful.rate.most) in
    let product : c.from.result * c.from-in-Some.result ≤ 100000 * c.from-in-Some.result =
    mul-le-mul_right c.from-in-Some.result slow in
    omega (arith, product, form.wait, form.least, c.from-in-Some.ensures)

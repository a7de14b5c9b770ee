use Rattle.std.proofs.Common.{sym, arith}
use Rattle.ats_certificate.specs.Form.{IsRow}
use Rattle.ats_buffer.proofs.Found.{row_form}
use Rattle.ats_buffer.proofs.shares.way_over.Goals as goal

pub overflow_add-result : goal.overflow_add-result
overflow_add-result c =
    let form : IsRow c.in-Some.row =
    row_form c.args.rows.now.rows c.args.port c.args.class c.in-Some.row c.row.ensures.form
    (sym c.in-Some.ensures.value) in
    omega (arith, form.wait)

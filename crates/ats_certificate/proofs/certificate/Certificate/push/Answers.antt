use Rattle.ats_certificate.proofs.Rows.{row_more}
use Rattle.ats_certificate.specs.Form.{ComesAfter}
use Rattle.ats_certificate.proofs.certificate.Certificate.push.Goals as goal

pub invariant_of-self-2 : goal.invariant_of-self-2
invariant_of-self-2 c =
    let after : ComesAfter c.self.inside.row_list.items c.args.row = rw (← c.self.view_is) at c.requires.after in
    row_more c.self.inside.row_list.items c.push.new.self.items c.args.row c.self.invariant c.requires.form after
    c.in_ok-push.ensures.items

use Rattle.std.proofs.Common.{Some, ap, ◌∙◌, sym, add-zero, arith}
use Rattle.std.proofs.lemmas.List.{take_rest}
use Rattle.ats_io.proofs.Lines.{line_open, line_kept, line_cut}
use Rattle.ats_io.proofs.text.line_at.Goals as goal

pub returns-in-None-clause-line : goal.returns-in-None-clause-line
returns-in-None-clause-line c =
    line_open c.args.text.now c.args.at c.requires (rw take_rest at (sym c.in-None.ensures.place))

pub returns-in-Some-eq0-clause-line : goal.returns-in-Some-eq0-clause-line
returns-in-Some-eq0-clause-line c =
    rw add-zero at (line_kept c.args.text.now c.args.at 0 ((rw take_rest at (sym c.in-Some-eq0.ensures.place))
    ∙ ap Some c.in-Some-eq0.field-0-test) (λ h. absurd (omega arith)))

pub returns-then-text-end-eq13-clause-line : goal.returns-then-text-end-eq13-clause-line
returns-then-text-end-eq13-clause-line c = line_cut c.args.text.now c.args.at c.in-Some.count
    (rw take_rest at (sym c.in-Some.ensures.place)) (omega arith) c.if-text-end-eq13.true

pub returns-else-text-end-eq13-clause-line : goal.returns-else-text-end-eq13-clause-line
returns-else-text-end-eq13-clause-line c = line_kept c.args.text.now c.args.at c.in-Some.count
    (rw take_rest at (sym c.in-Some.ensures.place)) (λ h. c.if-text-end-eq13.false)

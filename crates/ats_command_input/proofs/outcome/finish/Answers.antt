use Rattle.std.proofs.Common.{rules, ℕ, List, Option, subst}
use Rattle.ats_io.specs.Outside.{TakesPrefix}
use Rattle.ats_command_input.specs.declared.status.Status.TheVariants.{Done, Input, Refused}
use Rattle.ats_command_input.proofs.outcome.finish.Goals as goal

pub returns-in-Ok-clause-cut_short : goal.returns-in-Ok-clause-cut_short
returns-in-Ok-clause-cut_short g c = λ h.
    let old : Option (List ℕ) = g.O.Sink.held c.args.out.now in
    let new : Option (List ℕ) = g.O.Sink.held c.print.new.out in (
      record { status = Done; text = c.in-Ok.text.items },
      search rules,
      subst (λ (t : List ℕ). TakesPrefix t old new) c.deref.ensures.value (c.print.ensures.cut_short h),
    )

pub returns-in-Err-Input-clause-cut_short : goal.returns-in-Err-Input-clause-cut_short
returns-in-Err-Input-clause-cut_short g c = λ h.
    let old : Option (List ℕ) = g.O.Sink.held c.args.out.now in
    let new : Option (List ℕ) = g.O.Sink.held c.print-in-Err-Input.new.out in (
      record { status = Input; text = c.in-Err-Input.text.items },
      search rules,
      subst (λ (t : List ℕ). TakesPrefix t old new) c.deref-in-Err-Input.ensures.value
          (c.print-in-Err-Input.ensures.cut_short h),
    )

pub returns-in-Err-Refused-clause-cut_short : goal.returns-in-Err-Refused-clause-cut_short
returns-in-Err-Refused-clause-cut_short g c = λ h.
    let old : Option (List ℕ) = g.O.Sink.held c.args.out.now in
    let new : Option (List ℕ) = g.O.Sink.held c.print-in-Err-Refused.new.out in (
      record { status = Refused; text = c.in-Err-Refused.text.items },
      search rules,
      subst (λ (t : List ℕ). TakesPrefix t old new) c.deref-in-Err-Refused.ensures.value
          (c.print-in-Err-Refused.ensures.cut_short h),
    )

use Rattle.std.proofs.Common.{subst}
use Rattle.ats_num.specs.Failure.{IsDue}
use Rattle.ats_num.specs.declared.failure.Failure.{Failure}
use Rattle.ats_gen.specs.Made.{gen_fault}
use Rattle.ats_gen.specs.declared.fault.GenFault.{GenFault}
use Rattle.ats_run_commands.proofs.Generated.{made_is, made_refused}
use Rattle.ats_run_commands.proofs.generate_command.summary_of.Goals as goal

pub returns-in_ok-text_of-in-Ok-clause-due : goal.returns-in_ok-text_of-in-Ok-clause-due
returns-in_ok-text_of-in-Ok-clause-due c = (
  c.args.network.now,
  made_is c.args.network.now c.args.seed c.args.count c.in-Ok.ensures.sound,
  (
    c.in-Ok.releases.items,
    c.in-Ok.ensures.made,
    c.in_ok-text_of-in-Ok.ensures,
  ),
)

pub returns-in_ok-refused-in-Err-Fault-clause-due : goal.returns-in_ok-refused-in-Err-Fault-clause-due
returns-in_ok-refused-in-Err-Fault-clause-due c =
    made_refused c.args.network.now c.args.seed c.args.count c.in-Err-Fault.fault
    c.in_ok-refused-in-Err-Fault.field-0.items
    (subst (λ (answer : Failure GenFault). IsDue answer (gen_fault c.args.network.now c.args.seed c.args.count))
    c.in-Err-Fault.field-0-is c.in-Err-Fault.ensures.fault) c.in_ok-refused-in-Err-Fault.ensures

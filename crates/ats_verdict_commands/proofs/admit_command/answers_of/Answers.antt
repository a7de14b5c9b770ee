use Rattle.ats_verdict_commands.proofs.Admitting.{answers_settle}
use Rattle.ats_verdict_commands.proofs.admit_command.answers_of.Goals as goal

pub returns-in_ok-text_of-in-Ok-clause-due : goal.returns-in_ok-text_of-in-Ok-clause-due
returns-in_ok-text_of-in-Ok-clause-due c =
    answers_settle c.args.network c.in-Ok.session c.args.asked.items c.in_ok-text_of-in-Ok.field-0.items
    c.in-Ok.ensures.value c.in-Ok.ensures.free c.in_ok-text_of-in-Ok.ensures

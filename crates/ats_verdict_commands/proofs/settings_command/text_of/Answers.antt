use Rattle.std.proofs.Common.{List, ap, ◌∙◌, ℕ}
use Rattle.ats_settings_text.specs.Text.{settings_text}
use Rattle.ats_command_input.specs.Answer.{Answer}
use Rattle.ats_command_input.specs.declared.status.Status.TheVariants as status
use Rattle.ats_verdict_commands.proofs.settings_command.text_of.Goals as goal

pub returns-clause-due : goal.returns-clause-due
returns-clause-due c = (
  c.in_ok-settings.settings.items,
  record {
    are = c.in_ok-settings.ensures.value;
    done = ap (λ (text : List ℕ). let answer : Answer = record { status = status.Done; text = text } in answer)
        (c.in_ok-write_settings.ensures ∙ ap (settings_text c.args.network.now) c.deref.ensures.value);
  },
)

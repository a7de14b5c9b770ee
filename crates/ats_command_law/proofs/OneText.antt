-- What answers to `settings` there are.
use Rattle.std.proofs.Common.{◌≡◌, List, Result, Ok, Err, refl, sym, ap, ◌∙◌}
use Rattle.ats_network.specs.Network.{DeclaredNetwork}
use Rattle.ats_settings.specs.declared.setting.Setting.{Setting}
use Rattle.ats_settings_law.proofs.Only.{settings_are_one}
use Rattle.ats_settings_text.specs.Text.{settings_text}
use Rattle.ats_command_input.specs.Answer.{Answer}
use Rattle.ats_command_input.specs.declared.status.Status.TheVariants as status
use Rattle.ats_command_due.specs.Conformed.{IsAnswerTo}
use Rattle.ats_command_due.specs.Set.{TellsSettings}

-- done, with the text of settings
abbrev done_with : DeclaredNetwork → List Setting → Answer
done_with network settings = record { status = status.Done; text = settings_text network settings }

-- there is an answer to what is declared, and no other
pub one_text : (due : Result DeclaredNetwork Answer) → (answer : Answer) × (IsAnswerTo TellsSettings due answer)
    × ((other : Answer) → IsAnswerTo TellsSettings due other → other ≡ answer)
one_text (Ok network) =
    let alone = settings_are_one network in (
      done_with network alone.0,
      (alone.0, record { are = alone.1.are; done = refl }),
      λ other is. is.1.done ∙ ap (done_with network) (alone.1.only is.0 is.1.are),
    )
one_text (Err answer) = (answer, refl, λ other is. is)

-- so two are the same
pub same_text : (due : Result DeclaredNetwork Answer) (one other : Answer) → IsAnswerTo TellsSettings due one
    → IsAnswerTo TellsSettings due other → one ≡ other
same_text due one other h k = let alone = one_text due in alone.2 one h ∙ sym (alone.2 other k)

-- What the clauses of `ats` say of the bytes that are printed.
use Rattle.std.proofs.Common.{◌≡◌, ℕ, List, Option, sym, subst, ap, ◌∙◌}
use Rattle.ats_io.specs.Outside.{appended}
use Rattle.ats_command_input.specs.Answer.{Answer}
use Rattle.ats_command_input.specs.Command.{Command}
use Rattle.ats_command_input.specs.declared.status.Status.{Status}
use Rattle.ats_command_due.specs.Due.{IsDueAnswer}
use Rattle.ats_promise_law.specs.Printed.{AreAdded, PrintedTextsAreDue}
use Rattle.ats_promise_law.proofs.Promised.{promises_are_kept}

-- what is appended is added
added : (text : List ℕ) (old new : Option (List ℕ)) → new ≡ appended old text → AreAdded text old new
added text old new is held tells = is ∙ ap (λ (before : Option (List ℕ)). appended before text) tells

-- an answer that is due with a status
with_status : (told : List ℕ → Option (List ℕ)) (command : Command) (answer : Answer) (status : Status)
    → answer.status ≡ status → IsDueAnswer told command answer
    → IsDueAnswer told command (record { status = status; text = answer.text })
with_status told command answer status is due =
    subst (λ (s : Status). IsDueAnswer told command (record { status = s; text = answer.text })) is due

pub printed_texts_are_due : PrintedTextsAreDue
printed_texts_are_due = record {
  whole = λ told command status old new printed. (printed.0, added printed.0 old new printed.1, printed.2);
  cut_short = λ told command old new printed is_told.
      let due = printed is_told in (
        due.0,
        due.2.front,
        due.2.rest,
        due.1,
        record { parts = sym due.2.parts; added = added due.2.front old new due.2.taken },
      );
  by_status = λ told command status due. (due.0.text, with_status told command due.0 status due.2 due.1);
  check = λ told net certificate old new printed. (
    printed.0,
    added printed.0 old new printed.1,
    λ is_told. promises_are_kept.check told net certificate printed.0 printed.2 is_told,
  );
  lrq_check = λ told net certificate old new printed. (
    printed.0,
    added printed.0 old new printed.1,
    λ is_told. promises_are_kept.lrq_check told net certificate printed.0 printed.2 is_told,
  );
}

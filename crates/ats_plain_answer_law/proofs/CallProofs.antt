use Rattle.std.proofs.Common.{◌≡◌, ◌⊎◌, ℕ, List, Option, inl, inr, refl, sym, subst}
use Rattle.ats_command_input.specs.Answer.{HasText}
use Rattle.ats_command_input.specs.declared.status.Status.{Status}
use Rattle.ats_command_input.specs.declared.status.Status.TheVariants.{Done, Input, NoMemory, ReadFailed, Refused}
use Rattle.ats_command_input.specs.declared.status.Status.TheVariants.{Words, WriteFailed}
use Rattle.ats_command_due.specs.Due.{IsAnswer, told_bytes}
use Rattle.ats_plain_answer_law.specs.Calls.{CallsAreAnswered, CallsReadFiles, OutcomesAreAnswered, PromisesArePrinted}
use Rattle.ats_plain_answer_law.specs.Calls.{ReadsAsAsked, TextsArePrinted}
use Rattle.ats_io.specs.Reads.{Read}

-- What a call did: what it printed, what it promises of that, and what it read.

outcomes : OutcomesAreAnswered
outcomes = record {
  done = λ told command text. (λ is. is, λ is. is);
  faulty = λ told command text. (λ is. is, λ is. is);
  refused = λ told command text. (λ is. is, λ is. is);
  unread = λ told command. (λ is. tt, λ is there. tt);
  no_memory = λ told command. (λ is. tt, λ is there. tt);
}

-- the status is one of these
abbrev IsPrinted : Status → Type 0
IsPrinted status = (status ≡ Done) ⊎ ((status ≡ Words) ⊎ ((status ≡ Input) ⊎ (status ≡ Refused)))

is_printed : (status : Status) → HasText status → IsPrinted status
is_printed Done has = inl refl
is_printed Words has = inr (inl refl)
is_printed Input has = inr (inr (inl refl))
is_printed Refused has = inr (inr (inr refl))
is_printed ReadFailed has = absurd has
is_printed WriteFailed has = absurd has
is_printed NoMemory has = absurd has

has_text : (status : Status) → IsPrinted status → HasText status
has_text status (inl is) = subst HasText (sym is) tt
has_text status (inr (inl is)) = subst HasText (sym is) tt
has_text status (inr (inr (inl is))) = subst HasText (sym is) tt
has_text status (inr (inr (inr is))) = subst HasText (sym is) tt

printing : TextsArePrinted
printing = record {
  has_text = λ status. (is_printed status, has_text status);
  whole = λ told command status old new. (
    λ is. (is.0, is.1, λ there. (is.2 there).answers),
    λ is. (is.0, is.1, λ there. record { is_told = there; answers = is.2 there }),
  );
  front = λ told command old new. (
    λ is there. let due = is there in (due.0.status, due.0.text, due.1.answers, due.2),
    λ is there. let due = is there in (
      record { status = due.0; text = due.1 },
      record { is_told = there; answers = due.2 },
      due.3,
    ),
  );
  by_status = λ told command status. (
    λ is. (
      is.1.is_told,
      (
        is.0.text,
        subst (λ (s : Status). IsAnswer (told_bytes told) command (record { status = s; text = is.0.text })) is.2
            is.1.answers,
      ),
    ),
    λ is. (
      record { status = status; text = is.1.0 },
      record { is_told = is.0; answers = is.1.1 },
      refl,
    ),
  );
}

promises : PromisesArePrinted
promises = record { printed = λ told command old new. (λ is. is, λ is. is) }

pub files_are_asked : {S : Type 0} (told : S → List ℕ → Option (List ℕ)) (faults : S → List ℕ → ℕ)
    (made : S → List Read) → ReadsAsAsked told faults made
files_are_asked told faults made command old new result = (
  λ is. (is.failed, is.calm, is.continues, is.in_turn),
  λ is. record {
    failed = is.0;
    calm = is.1;
    continues = is.2;
    in_turn = is.3;
  },
)

reading : CallsReadFiles
reading = record { reads = λ told faults made. files_are_asked told faults made }

pub calls_are_answered : CallsAreAnswered
calls_are_answered = record {
  outcomes = outcomes;
  printing = printing;
  promises = promises;
  reading = reading;
}

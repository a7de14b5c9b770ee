use Rattle.std.proofs.Common.{◌≡◌, ℕ, List, Option, Some, ap, subst, sym, ◌∙◌}
use Rattle.std.specs.Prelude.{◌⊎◌}
use Rattle.ats_io.specs.Outside.{Rose}
use Rattle.ats_io.specs.Reads.{ReadsInTurn}
use Rattle.ats_io.proofs.Turns.{none_read}
use Rattle.ats_command_input.specs.Answer.{HasText}
use Rattle.ats_command_input.specs.Command.{Command, file_words}
use Rattle.ats_command_input.specs.Named.{named, view}
use Rattle.ats_command_input.specs.declared.status.Status.{Status}
use Rattle.ats_command_input.specs.declared.status.Status.TheVariants.{NoMemory}
use Rattle.ats_command_due.specs.Due.{IsTold}
use Rattle.ats_command_due.specs.Calls.{Printed, PrintedPrefix, ReadRose, IsCalm, StatusIsDue}
use Rattle.ats_command_due.specs.Soundness.{PrintsAsPromised, Promises}
use Rattle.ats_command.proofs.Ending.{printed_due, front_due, done_holds}
use Rattle.ats_command.proofs.Ending.{ends_as_due, calm_unread, words_end_as_due, front_of_words, words_are_not_done}
use Rattle.ats_command.proofs.call.ats.Goals as goal

pub returns-in-Some-clause-printed : goal.returns-in-Some-clause-printed
returns-in-Some-clause-printed g c = λ h.
    let told : List ℕ → Option (List ℕ) = g.F.Files.told c.args.files.now in
    let old : Option (List ℕ) = g.O.Sink.held c.args.out.now in
    let new : Option (List ℕ) = g.O.Sink.held c.finish.new.out in
    subst (λ (command : Command). Printed told command c.finish.result old new) c.in-Some.ensures
    (printed_due told (view c.in-Some.command) c.outcome_of-outcome.result c.finish.result old new
    c.outcome_of-outcome.ensures.due (c.finish.ensures.printed h))

pub returns-in-Some-clause-cut_short : goal.returns-in-Some-clause-cut_short
returns-in-Some-clause-cut_short g c = λ h.
    let told : List ℕ → Option (List ℕ) = g.F.Files.told c.args.files.now in
    let old : Option (List ℕ) = g.O.Sink.held c.args.out.now in
    let new : Option (List ℕ) = g.O.Sink.held c.finish.new.out in
    subst (λ (command : Command). PrintedPrefix told command old new) c.in-Some.ensures
    (front_due told (view c.in-Some.command) c.outcome_of-outcome.result old new c.outcome_of-outcome.ensures.due
    (c.finish.ensures.cut_short h))

pub returns-in-Some-clause-sound : goal.returns-in-Some-clause-sound
returns-in-Some-clause-sound g c = λ done.
    let told : List ℕ → Option (List ℕ) = g.F.Files.told c.args.files.now in
    let old : Option (List ℕ) = g.O.Sink.held c.args.out.now in
    let new : Option (List ℕ) = g.O.Sink.held c.finish.new.out in
    let prints = c.finish.ensures.printed (subst HasText (sym done) tt) in
    subst (λ (command : Command). PrintsAsPromised told command old new) c.in-Some.ensures (
      prints.0,
      prints.1,
      done_holds c.outcome_of-outcome.result prints.0 (Promises told (view c.in-Some.command))
          c.outcome_of-outcome.ensures.sound
          (prints.2 ∙ ap (λ (s : Status). Some (record { status = s; text = prints.0 })) done),
    )

pub returns-in-Some-clause-read_failed : goal.returns-in-Some-clause-read_failed
returns-in-Some-clause-read_failed g c = λ h.
    subst (λ (command : Command). ReadRose (g.F.Files.told c.args.files.now) command
    (g.F.Files.faults c.args.files.now) (g.F.Files.faults c.outcome_of-outcome.new.files)) c.in-Some.ensures
    (c.outcome_of-outcome.ensures.reads.failed (c.finish.ensures.read_failed h))

pub returns-in-Some-clause-read_told : goal.returns-in-Some-clause-read_told
returns-in-Some-clause-read_told g c = λ h.
    c.outcome_of-outcome.ensures.reads.calm (λ failed. h (c.finish.ensures.read_told failed))

pub returns-in-Some-clause-in_turn : goal.returns-in-Some-clause-in_turn
returns-in-Some-clause-in_turn g c =
    subst (λ (command : Command). ReadsInTurn (file_words command) (g.F.Files.reads c.args.files.now)
    (g.F.Files.reads c.outcome_of-outcome.new.files)) c.in-Some.ensures c.outcome_of-outcome.ensures.reads.in_turn

pub returns-in-Some-clause-complete : goal.returns-in-Some-clause-complete
returns-in-Some-clause-complete g c =
    let told : List ℕ → Option (List ℕ) = g.F.Files.told c.args.files.now in
    let before : List ℕ → ℕ = g.F.Files.faults c.args.files.now in
    let after : List ℕ → ℕ = g.F.Files.faults c.outcome_of-outcome.new.files in
    let old : Option (List ℕ) = g.O.Sink.held c.args.out.now in
    let new : Option (List ℕ) = g.O.Sink.held c.finish.new.out in
    let write : Type 0 = Rose (g.O.Sink.faults c.args.out.now) (g.O.Sink.faults c.finish.new.out) in
    let Ends : Command → Type 0 = λ command. IsTold told command → IsCalm command before after → ¬ write
    → (c.finish.result ≡ NoMemory) ⊎ StatusIsDue told command c.finish.result in
    let command : Command = view c.in-Some.command in
    subst Ends c.in-Some.ensures
    (λ is_told calm quiet.
    ends_as_due told command c.finish.result old new (ReadRose told command before after) write
    (λ h. printed_due told command c.outcome_of-outcome.result c.finish.result old new
    c.outcome_of-outcome.ensures.due (c.finish.ensures.printed h))
    (λ h. c.outcome_of-outcome.ensures.reads.failed (c.finish.ensures.read_failed h))
    c.finish.ensures.write_failed is_told (calm_unread told command before after calm) quiet)

pub returns-in-None-clause-cut_short : goal.returns-in-None-clause-cut_short
returns-in-None-clause-cut_short g c = λ h.
    let told : List ℕ → Option (List ℕ) = g.F.Files.told c.args.files.now in
    let old : Option (List ℕ) = g.O.Sink.held c.args.out.now in
    let new : Option (List ℕ) = g.O.Sink.held c.print.new.out in
    subst (λ (command : Command). PrintedPrefix told command old new) c.in-None.ensures
    (front_of_words told old new (c.print.ensures.cut_short h))

pub returns-in-None-clause-complete : goal.returns-in-None-clause-complete
returns-in-None-clause-complete g c =
    let told : List ℕ → Option (List ℕ) = g.F.Files.told c.args.files.now in
    let before : List ℕ → ℕ = g.F.Files.faults c.args.files.now in
    let write : Type 0 = Rose (g.O.Sink.faults c.args.out.now) (g.O.Sink.faults c.print.new.out) in
    let Ends : Command → Type 0 = λ command. IsTold told command → IsCalm command before before → ¬ write
    → (c.print.result ≡ NoMemory) ⊎ StatusIsDue told command c.print.result in
    subst Ends c.in-None.ensures
    (λ is_told calm quiet.
    words_end_as_due told c.print.result write is_told c.print.ensures.ends c.print.ensures.failed quiet)

pub returns-in-None-clause-in_turn : goal.returns-in-None-clause-in_turn
returns-in-None-clause-in_turn g c =
    none_read (file_words (named c.args.words.now)) (g.F.Files.reads c.args.files.now)

pub returns-in-None-clause-sound : goal.returns-in-None-clause-sound
returns-in-None-clause-sound g c = λ done.
    absurd (words_are_not_done c.print.result c.print.ensures.ends done)

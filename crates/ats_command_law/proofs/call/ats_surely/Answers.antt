use Rattle.std.proofs.Common.{refl}
use Rattle.ats_io.specs.Memory.{bytes_or_none}
use Rattle.ats_command_input.specs.Command.{command_of}
use Rattle.ats_command_input.specs.Named.{texts_of}
use Rattle.ats_command_law.proofs.Surely.{surely_told, surely_calm, no_rise}
use Rattle.ats_command_law.proofs.call.ats_surely.Goals as goal

pub returns : goal.returns
returns c =
    c.ats.ensures.complete
    (surely_told _ (bytes_or_none c.args.files.now.files) (λ name. refl) (command_of (texts_of c.args.words.now)))
    (surely_calm (λ _. 0) (λ _. 0) (λ name. refl) (command_of (texts_of c.args.words.now))) (no_rise 0 0 refl)

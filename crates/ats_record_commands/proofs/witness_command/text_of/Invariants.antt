use Rattle.ats_record_commands.specs.SoFar.{IsWitnessSoFar}
use Rattle.ats_record_commands.proofs.witness_command.text_of.Given as goal

-- the text is that of the listeners so far
abbrev pub invariant-loop-listener : goal.invariant-loop-listener
invariant-loop-listener l = IsWitnessSoFar l.network l.stream l.listener l.text.items

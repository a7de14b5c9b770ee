use Rattle.ats_explain.specs.Table.{NamesFrom}
use Rattle.ats_explain.proofs.names.names_of.Given as goal

-- the senders from this one on are named
abbrev pub invariant-loop-sender : goal.invariant-loop-sender
invariant-loop-sender l = NamesFrom l.tallies l.sender l.names

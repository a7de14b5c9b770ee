use Rattle.ats_tally.specs.SenderAtPort.{port_sender}
use Rattle.ats_explain.specs.Table.{NamesAt}
use Rattle.ats_explain.proofs.names.name_at.Given as goal

-- the classes so far have the sender's name where it is due
abbrev pub invariant-loop-class : goal.invariant-loop-class
invariant-loop-class l =
    NamesAt l.tallies l.port (port_sender l.sender) l.name l.class l.initial.names l.names

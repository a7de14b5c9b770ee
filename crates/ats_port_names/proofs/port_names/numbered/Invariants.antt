use Rattle.ats_port_names.proofs.Numbering.{NumbersFrom}
use Rattle.ats_port_names.proofs.port_names.numbered.Given as goal

abbrev pub invariant-loop-port : goal.invariant-loop-port
invariant-loop-port l = NumbersFrom l.topology l.port l.numbers

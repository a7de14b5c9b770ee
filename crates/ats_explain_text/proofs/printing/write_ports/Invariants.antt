use Rattle.std.proofs.Common.{◌≡◌, ◌++◌, take}
use Rattle.std.specs.List.{flat_map, enumerate_from}
use Rattle.ats_explain_text.specs.Text.{port_text}
use Rattle.ats_explain_text.proofs.printing.write_ports.Given as goal

-- the lines of the ports so far
abbrev pub invariant-loop-port : goal.invariant-loop-port
invariant-loop-port l =
    l.out.items
    ≡ l.initial.out.items
    ++ flat_map (port_text l.explanation) (take l.port (enumerate_from 0 l.explanation.topology.ports))

use Rattle.std.proofs.Common.{◌≡◌, ◌++◌, take}
use Rattle.std.specs.List.{flat_map, enumerate_from}
use Rattle.ats_network_text.specs.Text.{port_line}
use Rattle.ats_network_text.proofs.printing.write_ports.Given as goal

-- the text has the lines of the ports so far
abbrev pub invariant-loop-port : goal.invariant-loop-port
invariant-loop-port l = l.out.items
    ≡ l.initial.out.items ++ flat_map (port_line l.topology) (take l.port (enumerate_from 0 l.topology.ports))

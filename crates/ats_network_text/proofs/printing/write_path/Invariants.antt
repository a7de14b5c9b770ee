use Rattle.std.proofs.Common.{◌≡◌, ◌++◌, take}
use Rattle.ats_network_text.specs.Text.{path_text}
use Rattle.ats_network_text.proofs.printing.write_path.Given as goal

-- the text has the ports so far
abbrev pub invariant-loop-port : goal.invariant-loop-port
invariant-loop-port l = l.out.items ≡ l.initial.out.items ++ path_text l.topology (take l.port-index l.path)

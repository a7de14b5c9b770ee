use Rattle.std.proofs.Common.{◌≡◌, ◌++◌, take}
use Rattle.std.specs.List.{flat_map}
use Rattle.ats_network_text.specs.Text.{flow_line}
use Rattle.ats_network_text.proofs.printing.write_flows.Given as goal

-- the text has the lines of the flows so far
abbrev pub invariant-loop-flow : goal.invariant-loop-flow
invariant-loop-flow l = l.out.items ≡ l.initial.out.items ++ flat_map (flow_line l.topology) (take l.flow-index l.flows)

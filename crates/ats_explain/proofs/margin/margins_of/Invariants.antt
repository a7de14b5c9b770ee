use Rattle.std.proofs.Common.{◌≡◌, map, take}
use Rattle.std.specs.List.{flat_map}
use Rattle.ats_explain.specs.Margins.{margin_of, with_listeners}
use Rattle.ats_explain.proofs.margin.margins_of.Given as goal

-- the margins of the listeners of the streams so far
abbrev pub invariant-loop-stream : goal.invariant-loop-stream
invariant-loop-stream l =
    l.margins.items ≡ map (margin_of l.network) (flat_map (with_listeners l.network) (take l.stream l.network.streams))

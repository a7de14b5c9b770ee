use Rattle.std.proofs.Common.{◌≡◌, ◌++◌, drop, option_map}
use Rattle.toml.specs.View.{items_view}
use Rattle.ats_network_table.specs.Kinds.{all_in}
use Rattle.ats_network_table.proofs.section.items_in.Given as goal

-- the items so far, in front of those left, are all items
abbrev pub invariant-loop-value : goal.invariant-loop-value
invariant-loop-value g l =
    option_map (λ ys. l.items.items ++ ys) (all_in g.T.FromValue.kind (items_view (drop l.value-index l.values)))
    ≡ all_in g.T.FromValue.kind (items_view l.values)

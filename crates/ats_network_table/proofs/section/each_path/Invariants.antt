use Rattle.std.proofs.Common.{◌≡◌, ◌++◌, drop, map, option_map}
use Rattle.toml.specs.View.{items_view}
use Rattle.ats_network_table.specs.Kinds.{all_in, names_in}
use Rattle.ats_network_table.proofs.section.each_path.Given as goal

-- the paths so far, in front of those left, are all paths
abbrev pub invariant-loop-value : goal.invariant-loop-value
invariant-loop-value l =
    option_map (λ ys. map (λ names. names.items) l.paths.items ++ ys)
    (all_in (names_in 2) (items_view (drop l.value-index l.values)))
    ≡ all_in (names_in 2) (items_view l.values)

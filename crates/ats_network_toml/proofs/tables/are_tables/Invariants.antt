use Rattle.std.proofs.Common.{◌≡◌, drop}
use Rattle.ats_network_toml.specs.Views.{are_tables}
use Rattle.ats_network_toml.proofs.tables.are_tables.Given as goal

-- the values left are tables where all are
abbrev pub invariant-loop-value : goal.invariant-loop-value
invariant-loop-value l = are_tables (drop l.value-index l.values) ≡ are_tables l.values

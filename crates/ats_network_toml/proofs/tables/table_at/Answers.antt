use Rattle.std.proofs.Common.{is_some, ap, sym, ◌∙◌}
use Rattle.toml.specs.Data.{as_table, no_members}
use Rattle.toml.specs.View.{view, table_view}
use Rattle.toml.specs.declared.value.Value.{Value}
use Rattle.ats_network_toml.proofs.Joined.{each_is_table, table_at}
use Rattle.ats_network_toml.proofs.tables.table_at.Goals as goal

pub table_in-requires : goal.table_in-requires
table_in-requires c =
    ap (λ (v : Value). is_some (as_table (view v))) c.index-values-place.is
    ∙ each_is_table c.args.values.now c.args.place c.index-values-place.result c.requires.within c.requires.tables

pub returns : goal.returns
returns c =
    sym (table_at c.args.values.now c.args.place c.index-values-place.result (table_view c.table_in.result.now)
    no_members c.requires.within c.requires.tables
    (ap (λ (v : Value). as_table (view v)) (sym c.index-values-place.is) ∙ c.table_in.ensures))

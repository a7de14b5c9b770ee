use Rattle.std.proofs.Common.{length, get_or, ap, ◌∙◌, arith}
use Rattle.toml.specs.Data.{no_members}
use Rattle.ats_network_toml.specs.Views.{Values, tables_of}
use Rattle.ats_network_toml.proofs.Joined.{tables_of_length}
use Rattle.ats_network_toml.proofs.tables.Tables.at.Goals as goal

pub table_at-requires-clause-within : goal.table_at-requires-clause-within
table_at-requires-clause-within c =
    omega (
      arith,
      c.requires,
      tables_of_length c.self.inside.values.now c.self.invariant,
      ap (λ (vs : Values). length (tables_of vs)) c.self.view_is,
    )

pub returns : goal.returns
returns c =
    c.table_at.ensures ∙ ap (λ (vs : Values). get_or (tables_of vs) c.args.place no_members) c.self.view_is

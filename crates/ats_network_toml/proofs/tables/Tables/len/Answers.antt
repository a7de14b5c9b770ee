use Rattle.std.proofs.Common.{length, ap, sym, ◌∙◌}
use Rattle.ats_network_toml.specs.Views.{Values, tables_of}
use Rattle.ats_network_toml.proofs.Joined.{tables_of_length}
use Rattle.ats_network_toml.proofs.tables.Tables.len.Goals as goal

pub returns : goal.returns
returns c =
    sym (tables_of_length c.self.inside.values.now c.self.invariant)
    ∙ ap (λ (vs : Values). length (tables_of vs)) c.self.view_is

use Rattle.std.proofs.Common.{sym, ap, ◌∙◌}
use Rattle.toml.specs.Parse.{parse_document}
use Rattle.ats_num.specs.Failure.{or_fault}
use Rattle.ats_network_table.specs.declared.fault.DocumentFault.TheVariants.{NotToml}
use Rattle.ats_network_toml.proofs.Trees.{no_utf8_no_tree, utf8_tree}
use Rattle.ats_network_toml.proofs.reading.tree_of.Goals as goal

pub returns-in-Err : goal.returns-in-Err
returns-in-Err c = ap (or_fault NotToml) (no_utf8_no_tree c.args.bytes.now c.in-Err.ensures.cases.0)

pub returns-in-Ok-table_from_str : goal.returns-in-Ok-table_from_str
returns-in-Ok-table_from_str c =
    let text = c.in-Ok.ensures.cases in
    ap (or_fault NotToml)
    (utf8_tree c.args.bytes.now text.1 ∙ ap parse_document (sym text.0) ∙ c.in-Ok-table_from_str.ensures.ok)

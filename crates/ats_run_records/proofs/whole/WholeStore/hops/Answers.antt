use Rattle.std.proofs.Common.{◌∙◌, sym, arith}
use Rattle.ats_run_records.proofs.Writes.{count-is, in-place, in-rows}
use Rattle.ats_run_records.proofs.whole.WholeStore.hops.Goals as goal

pub index-requires : goal.index-requires
index-requires c =
    omega (arith, c.requires, in-rows c.self.invariant c.self.view_is, c.self.invariant.laid.spanned)

pub returns : goal.returns
returns c =
    c.from.ensures ∙ sym (count-is (in-place c.self.invariant c.self.view_is c.requires c.index.ensures))

use Rattle.std.proofs.Common.{ap, arith}
use Rattle.ats_run_records.specs.Progress.{Ledger}
use Rattle.ats_run_records.proofs.Writes.{in-rows}
use Rattle.ats_run_records.proofs.Closing.{closed_row, records-close, told-again, view-close}
use Rattle.ats_run_records.proofs.whole.WholeStore.close.Goals as goal

pub index_mut-requires : goal.index_mut-requires
index_mut-requires c = omega (arith, c.requires, in-rows c.self.invariant c.self.view_is)

pub invariant_of-self : goal.invariant_of-self
invariant_of-self c =
    records-close c.args.row (closed_row c.index_mut.result.now c.args.ending) c.self.invariant

pub returns : goal.returns
returns c =
    told-again _ _ _ _ _ _ c.self.view_is
    (view-close c.args.row c.index_mut.result.now c.args.ending (ap (λ (l : Ledger). l.legs) c.self.view_is)
    c.self.invariant.laid c.requires c.index_mut.ensures.value)

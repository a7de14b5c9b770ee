use Rattle.std.proofs.Common.{arith}
use Rattle.ats_run_records.proofs.Writes.{in-rows, release-is}
use Rattle.ats_run_records.proofs.whole.WholeStore.release.Goals as goal

pub index-requires : goal.index-requires
index-requires c =
    omega (
      arith,
      c.requires,
      in-rows c.self.invariant c.self.view_is,
      c.self.invariant.laid.spanned,
      c.self.invariant.laid.framed,
    )

pub returns : goal.returns
returns c = release-is c.self.invariant c.self.view_is c.requires c.index.ensures

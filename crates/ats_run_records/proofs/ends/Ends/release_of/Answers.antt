use Rattle.std.proofs.Common.{arith}
use Rattle.ats_run_records.proofs.Ended.{length-ends, release-at}
use Rattle.ats_run_records.proofs.ends.Ends.release_of.Goals as goal

pub index-requires : goal.index-requires
index-requires c =
    omega (arith, c.requires, length-ends c.self.invariant c.self.view_is, c.self.invariant.numbered)

pub returns : goal.returns
returns c = release-at c.self.invariant c.self.view_is c.requires c.index.ensures

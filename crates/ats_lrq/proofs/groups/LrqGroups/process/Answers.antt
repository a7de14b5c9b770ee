use Rattle.std.proofs.Common.{arith}
use Rattle.std.proofs.lemmas.Grind.{common_steps}
use Rattle.ats_lrq.proofs.Kept.{groups-next}
use Rattle.ats_lrq.proofs.groups.LrqGroups.process.Goals as goal

pub returns-clause-groups : goal.returns-clause-groups
returns-clause-groups c =
    groups-next _ _ _ c.args.self.now _ c.args.member c.args.arrival.0 c.args.octets c.self.invariant c.self.view_is
    (grind (arith, common_steps))

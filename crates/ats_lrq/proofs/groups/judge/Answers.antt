use Rattle.std.proofs.Common.{arith}
use Rattle.std.proofs.lemmas.Grind.{common_steps}
use Rattle.ats_lrq.proofs.Kept.{value_after-is, kept-after}
use Rattle.ats_lrq.proofs.groups.judge.Goals as goal

pub returns-in-Eligible-clause-value : goal.returns-in-Eligible-clause-value
returns-in-Eligible-clause-value c =
    value_after-is _ _ _ _ _ _ c.index-members-member.result c.after.result c.in-Eligible.eligible c.requires.member
    c.index-members-member.is c.after.ensures.value (grind (arith, common_steps))

pub returns-in-Eligible-clause-kept : goal.returns-in-Eligible-clause-kept
returns-in-Eligible-clause-kept c =
    kept-after _ _ _ _ c.args.octets c.index-members-member.result c.after.result c.in-Eligible.eligible
    c.requires.kept c.requires.member c.index-members-member.is c.after.ensures.value c.after.ensures.spaced
    c.in-Eligible.ensures.acceptable.time

use Rattle.std.proofs.Common.{◌≡◌, take, All}
use Rattle.ats_lrq.specs.GroupsState.{no_last}
use Rattle.ats_lrq.specs.SpacedMember.{IsSpacedMember, members_of, lasts_of}
use Rattle.ats_lrq.proofs.groups.spaced_members.Given as goal

-- the members so far
abbrev pub invariant-loop-member : goal.invariant-loop-member
invariant-loop-member l =
    (members_of l.spaced.items ≡ take l.member-index l.members)
    × (lasts_of l.spaced.items ≡ no_last (take l.member-index l.members))
    × All IsSpacedMember l.spaced.items

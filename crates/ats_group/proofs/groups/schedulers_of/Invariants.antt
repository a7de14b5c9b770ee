use Rattle.std.proofs.Common.{◌≡◌, take, All}
use Rattle.ats_group.specs.GroupsState.{first_empties}
use Rattle.ats_group.specs.MemberScheduler.{IsMemberScheduler, members_of, empties_of}
use Rattle.ats_group.proofs.groups.schedulers_of.Given as goal

-- the schedulers of the members so far
abbrev pub invariant-loop-member : goal.invariant-loop-member
invariant-loop-member l =
    (members_of l.schedulers.items ≡ take l.member-index l.members)
    × (empties_of l.schedulers.items ≡ first_empties (take l.member-index l.members))
    × All IsMemberScheduler l.schedulers.items

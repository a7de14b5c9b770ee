use Rattle.std.proofs.Common.{rules}
use Rattle.ats_group.proofs.Kept.{kept-opened}
use Rattle.ats_group.proofs.groups.Groups.open.Goals as goal

pub invariant_of-result : goal.invariant_of-result
invariant_of-result c =
    kept-opened c.args.residences_ns.now _ c.args.members.now _ _ c.in_ok-from_slice.ensures.items
    (c.in_ok-vec.ensures.items_if_clones_equal (search rules))
    c.in_ok-schedulers.ensures.members c.in_ok-schedulers.ensures.schedulers c.requires.residences c.requires.members

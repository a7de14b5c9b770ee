use Rattle.std.proofs.Common.{rules}
use Rattle.ats_lrq.proofs.Kept.{kept-opened}
use Rattle.ats_lrq.proofs.groups.LrqGroups.open.Goals as goal

pub invariant_of-result : goal.invariant_of-result
invariant_of-result c =
    kept-opened c.args.residences_ns.now _ c.args.members.now _ _ c.in_ok-from_slice.ensures.items
    (c.in_ok-vec.ensures.items_if_clones_equal (search rules))
    c.in_ok-members.ensures.members c.in_ok-members.ensures.spaced c.requires.residences c.requires.members

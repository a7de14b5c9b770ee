use Rattle.std.proofs.Common.{◌≡◌, ◌*◌, length, subst}
use Rattle.ats_group.specs.GroupsState.{AreMembers}
use Rattle.ats_network.specs.Network.{DeclaredNetwork}
use Rattle.ats_schedulers.proofs.Listing.{members_are}
use Rattle.ats_schedulers.proofs.schedulers.Schedulers.members.Goals as goal

pub returns-clause-members : goal.returns-clause-members
returns-clause-members c =
    let inside : DeclaredNetwork = c.self.inside.network.now in
    let same : inside ≡ c.args.self.now = c.self.view_is in
    let kept : AreMembers (8 * length inside.topology.ports) c.as_slice.result.now =
    rw (c.as_slice.ensures.value, c.self.invariant.listed.all) (members_are inside c.self.invariant.rules) in
    subst (λ (n : DeclaredNetwork). AreMembers (8 * length n.topology.ports) c.as_slice.result.now) same kept

use Rattle.std.proofs.Common.{◌<◌, ℕ, List, length, sym, ap, subst, ◌∙◌}
use Rattle.std.specs.List.{All}
use Rattle.ats_streams.specs.Stream.{DeclaredStream}
use Rattle.ats_network.specs.Edits.{no_stream}
use Rattle.ats_network.specs.Network.{DeclaredNetwork}
use Rattle.ats_tally.proofs.Paths.{paths_inside}
use Rattle.ats_admission_state.specs.Routes.{RouteState}
use Rattle.ats_admission_state.specs.Spares.{AreSpares, AreUsers}
use Rattle.ats_admission_state.proofs.Apart.{many_users, users_kept}
use Rattle.ats_admission_state.proofs.Spared.{written_back}
use Rattle.ats_admission_state.proofs.kept.Kept.take.Goals as goal

pub renew_path-requires-clause-ports : goal.renew_path-requires-clause-ports
renew_path-requires-clause-ports c =
    let old : DeclaredNetwork = c.requires.was.keeps.old in
    let number : ℕ = c.args.number in
    let own = ap (λ (s : DeclaredStream). s.ports) c.requires.was.keeps.stream ∙ sym c.ports.ensures.value in
    subst (λ (t : DeclaredNetwork). All (λ p. p < length t.topology.ports) c.ports.result.now)
    (sym c.requires.was.keeps.without)
    (subst (All (λ p. p < length old.topology.ports)) own
    (paths_inside old c.requires.was.keeps.rules number no_stream c.requires.was.keeps.within))

pub renew_path-requires-clause-users : goal.renew_path-requires-clause-users
renew_path-requires-clause-users c =
    let spared : AreSpares c.self.inside.bounds c.leave.new.routes.items c.leave.new.spares.items =
    c.leave.ensures.spares c.self.inside.bounds c.self.invariant in
    subst (λ (spares : List ℕ). AreUsers (length spares) c.leave.new.streams) (sym c.deref_mut.ensures.value)
    (many_users c.args.network.now c.leave.new.streams c.leave.new.shares c.leave.new.routes.items
    c.leave.new.spares.items c.leave.ensures.keeps spared.count)

pub invariant_of-self : goal.invariant_of-self
invariant_of-self c =
    let network : DeclaredNetwork = c.args.network.now in
    let routes : List RouteState = c.leave.new.routes.items in
    subst (AreSpares c.renew_path.new.bounds routes)
    (sym (written_back c.leave.new.spares.len c.renew_path.new.spares c.leave.new.spares.items
    (c.renew_path.ensures.spares.count ∙ c.deref_mut.ensures.len)))
    (c.renew_path.ensures.spares.each routes
    (users_kept network c.leave.new.streams c.leave.new.shares routes c.renew_path.ensures.rules c.leave.ensures.keeps)
    (subst (AreSpares c.self.inside.bounds routes) (sym c.deref_mut.ensures.value)
    (c.leave.ensures.spares c.self.inside.bounds c.self.invariant)))

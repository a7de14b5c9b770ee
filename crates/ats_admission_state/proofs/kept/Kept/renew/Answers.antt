use Rattle.std.proofs.Common.{List, sym, subst, ◌∙◌}
use Rattle.ats_network.specs.Network.{DeclaredNetwork}
use Rattle.ats_admission_state.specs.Kept.{IsKeptBeside}
use Rattle.ats_admission_state.specs.Routes.{RouteState}
use Rattle.ats_admission_state.specs.Spares.{AreSpares}
use Rattle.ats_admission_state.proofs.Apart.{users_kept}
use Rattle.ats_admission_state.proofs.Spared.{written_back}
use Rattle.ats_admission_state.proofs.kept.Kept.renew.Goals as goal

pub invariant_of-self : goal.invariant_of-self
invariant_of-self c =
    let network : DeclaredNetwork = c.args.network.now in
    let routes : List RouteState = c.self.inside.routes.items in
    let before : IsKeptBeside network c.args.path.now _ =
    subst (IsKeptBeside network c.args.path.now) (sym c.self.view_is) c.requires.beside in
    subst (AreSpares c.renew_path.new.bounds routes)
    (sym (written_back c.self.inside.spares.len c.renew_path.new.spares c.self.inside.spares.items
    (c.renew_path.ensures.spares.count ∙ c.deref_mut.ensures.len)))
    (c.renew_path.ensures.spares.each routes
    (users_kept network c.self.inside.streams c.self.inside.shares routes c.renew_path.ensures.rules before.keeps)
    (subst (AreSpares c.self.inside.bounds routes) (sym c.deref_mut.ensures.value) c.self.invariant))

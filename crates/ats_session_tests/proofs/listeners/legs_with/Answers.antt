use Rattle.std.proofs.Common.{ap, ◌∙◌, rules}
use Rattle.ats_route_tree.specs.LegsView.{routes_in}
use Rattle.ats_session_tests.proofs.Forks.{both_valid}
use Rattle.ats_session_tests.proofs.listeners.legs_with.Goals as goal

pub legs_of-requires : goal.legs_of-requires
legs_of-requires g c = record {
  valid = both_valid c.args.network.now.topology c.topology.result.now (routes_in c.deref.result.now) c.args.one.now
      c.args.other.now c.topology.ensures.value (ap routes_in c.deref.ensures.value ∙ c.both-routes.ensures)
      (c.valid_path.ensures.valid.0 (search rules)) (c.valid_path-2.ensures.valid.0 (search rules));
}

use Rattle.std.proofs.Common.{◌≤◌, length, sym, ◌∙◌, arith}
use Rattle.std.proofs.lemmas.Bool.{ne_eqb}
use Rattle.ats_admission_state.specs.Routes.{RouteState, ways_of}
use Rattle.ats_admission_state.specs.Spares.{IsSpare}
use Rattle.ats_admission_state.proofs.Spared.{all_below, not_late}
use Rattle.ats_admission_state.proofs.Ways.{ways_many}
use Rattle.ats_admission_state.proofs.routes.Route.spare.Goals as goal

pub returns-clause-late : goal.returns-clause-late
returns-clause-late c =
    let route : RouteState = c.args.self.now in
    let past : length (ways_of route) ≤ c.loop-leg.leg = omega (
      arith,
      c.loop-leg-test.false,
      c.legs-leg-end.ensures,
      ways_many route.places route.branches,
    ) in
    let spare : IsSpare c.args.bounds.now route c.loop-leg.spare =
    all_below c.args.bounds.now route c.loop-leg.leg c.loop-leg.spare c.loop-leg.invariant.below past in
    not_late c.args.bounds.now route c.loop-leg.spare spare c.loop-leg.invariant.some
    ∙ sym (ne_eqb c.loop-leg.spare 0 (λ none. absurd (omega (arith, none, c.loop-leg.invariant.some))))

pub returns-clause-spare : goal.returns-clause-spare
returns-clause-spare c =
    let route : RouteState = c.args.self.now in
    let past : length (ways_of route) ≤ c.loop-leg.leg = omega (
      arith,
      c.loop-leg-test.false,
      c.legs-leg-end.ensures,
      ways_many route.places route.branches,
    ) in
    all_below c.args.bounds.now route c.loop-leg.leg c.loop-leg.spare c.loop-leg.invariant.below past

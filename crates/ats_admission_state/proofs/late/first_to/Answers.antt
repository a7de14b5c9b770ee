use Rattle.std.proofs.Common.{◌<◌, ℕ, List, length, get_or, take, refl, sym, ◌∙◌, arith}
use Rattle.std.proofs.lemmas.List.{length-map}
use Rattle.ats_admission_users.specs.Users.{users_of}
use Rattle.ats_admission_state.specs.Routes.{RouteState, ports_along, route_paths}
use Rattle.ats_admission_state.proofs.Looked.{looked_all, looked_at, looked_rest}
use Rattle.ats_admission_state.proofs.late.first_to.Goals as goal

pub look_at-found-requires-clause-number : goal.look_at-found-requires-clause-number
look_at-found-requires-clause-number c =
    let routes : List RouteState = c.args.routes.now in
    let inside : c.user-number.result < length (route_paths routes) =
    c.user-number.ensures.within (length c.args.users.now.lists) (route_paths routes) c.requires.users in
    omega (arith, inside, length-map routes ports_along)

pub loop-rank-preserved : goal.loop-rank-preserved
loop-rank-preserved c =
    let routes : List RouteState = c.args.routes.now in
    let port : ℕ = get_or c.args.path.now c.args.hop 0 in
    let ports : ℕ = length c.args.users.now.lists in
    let paths : List (List ℕ) = route_paths routes in
    let rank : ℕ = c.loop-rank.rank in
    let many = c.count-rank-end.ensures.users ports paths c.requires.users in
    let within : rank < length (users_of paths port) = omega (arith, many, c.loop-rank-test.true) in
    record {
      looked = looked_at c.args.bounds.now routes (take c.args.hop c.args.path.now) (users_of paths port) rank
          c.user-number.result c.loop-rank.found c.look_at-found.result within
          (c.user-number.ensures.value ports paths c.requires.users) c.look_at-found.ensures.looks
          c.loop-rank.invariant.looked;
      spares = c.look_at-found.ensures.spares;
    }

pub returns-clause-found : goal.returns-clause-found
returns-clause-found c =
    let many = c.count-rank-end.ensures.users (length c.args.users.now.lists) (route_paths c.args.routes.now)
    c.requires.users in
    looked_all c.args.bounds.now c.args.routes.now c.args.path.now c.args.hop (get_or c.args.path.now c.args.hop 0)
    c.loop-rank.rank c.loop-rank.found c.requires.hop refl (omega (arith, many, c.loop-rank-test.false))
    c.loop-rank.invariant.looked

pub returns-then-not-is_below-clause-found : goal.returns-then-not-is_below-clause-found
returns-then-not-is_below-clause-found c =
    looked_rest c.args.bounds.now c.args.routes.now c.args.path.now c.args.hop (get_or c.args.path.now c.args.hop 0)
    c.loop-rank.rank c.user-number.result c.loop-rank.found c.requires.hop refl
    (c.user-number.ensures.value (length c.args.users.now.lists) (route_paths c.args.routes.now) c.requires.users)
    (sym c.is_below.ensures ∙ c.if-not-is_below.true) c.loop-rank.invariant.looked

use Rattle.std.proofs.Common.{◌≡◌, ◌<◌, ℕ, List, length, sym, ap, subst, ◌∙◌, arith}
use Rattle.std.specs.List.{All}
use Rattle.std.proofs.lemmas.List.{length-map}
use Rattle.ats_class_table.specs.Table.{Table}
use Rattle.ats_network.specs.Network.{DeclaredNetwork}
use Rattle.ats_admission_users.specs.Users.{ListsPaths}
use Rattle.ats_network.specs.Edits.{no_stream}
use Rattle.ats_tally.proofs.Paths.{paths_inside}
use Rattle.ats_admission_shares.specs.PortShares.{stream_at, stream_paths, without_at}
use Rattle.ats_admission_state.specs.Routes.{AreBounded, RouteState, route_of, route_paths}
use Rattle.ats_admission_state.proofs.Last.{others-length, path_is}
use Rattle.ats_admission_state.proofs.Lateness as late
use Rattle.ats_admission_state.proofs.Nearby as near
use Rattle.ats_admission_state.proofs.sums.judge_sums.Goals as goal

pub find_late-requires-clause-ports : goal.find_late-requires-clause-ports
find_late-requires-clause-ports c =
    let network : DeclaredNetwork = c.args.network.now in
    let within : c.args.stream < length network.streams = omega (arith, c.requires.last) in
    let own = path_is network c.streams.result.now c.args.stream c.index-streams-stream.result
    c.ports-path.result.now within c.streams.ensures.value c.index-streams-stream.is c.ports-path.ensures.value in
    subst (All (λ p. p < length c.args.users.now.lists)) (sym own)
    (subst (λ (ports : ℕ). All (λ p. p < ports) (stream_at network c.args.stream).ports)
    (sym c.requires.users.ports_are)
    (paths_inside network c.streams.ensures.rules c.args.stream no_stream within))

pub find_late-requires-clause-few : goal.find_late-requires-clause-few
find_late-requires-clause-few c =
    let network : DeclaredNetwork = c.args.network.now in
    let long = ap (λ (routes : List RouteState). length routes) c.requires.routes
    ∙ length-map (without_at network c.args.stream).streams route_of in
    omega (
      arith,
      long,
      others-length network c.args.stream c.requires.last,
      c.requires.last,
      c.streams.ensures.rules.few_streams,
    )

pub find_late-requires-clause-bounded : goal.find_late-requires-clause-bounded
find_late-requires-clause-bounded c =
    subst (All (AreBounded c.args.bounds.now)) (sym c.requires.routes)
    (late.routes_bounded c.args.network.now c.args.stream c.requires.last c.streams.ensures.rules
    c.args.bounds.now c.requires.least)

pub find_late-requires-clause-users : goal.find_late-requires-clause-users
find_late-requires-clause-users c =
    let paths_are = ap route_paths c.requires.routes
    ∙ near.paths_of_routes c.args.network.now c.args.stream c.requires.last c.streams.ensures.rules in
    subst (λ (paths : List (List ℕ)). ListsPaths (length c.args.users.now.lists) paths c.args.users.now) (sym paths_are)
    (subst (λ (ports : ℕ). ListsPaths ports (stream_paths (without_at c.args.network.now c.args.stream))
    c.args.users.now) (sym c.requires.users.ports_are) c.requires.users)

pub bounds-routes-number : goal.bounds-routes-number
bounds-routes-number c =
    let network : DeclaredNetwork = c.args.network.now in
    let n : ℕ = c.args.stream in
    let bounds : Table ℕ = c.args.bounds.now in
    let rules = c.streams.ensures.rules in
    let within : n < length network.streams = omega (arith, c.requires.last) in
    let own = path_is network c.streams.result.now n c.index-streams-stream.result c.ports-path.result.now within
    c.streams.ensures.value c.index-streams-stream.is c.ports-path.ensures.value in
    let is : late.IsLate network n c.requires.last rules bounds c.requires.least c.in-Some.number =
    late.is_found network n c.requires.last rules bounds c.requires.least c.in-Some.number c.args.routes.now
    c.ports-path.result.now c.find_late.result c.requires.free c.requires.routes own c.find_late.ensures.found
    c.in-Some.is in
    let long : length c.args.routes.now ≡ length (without_at network n).streams =
    ap (λ (routes : List RouteState). length routes) c.requires.routes
    ∙ length-map (without_at network n).streams route_of in
    omega (arith, is.within, long, others-length network n c.requires.last)

pub judge_route-requires-clause-route : goal.judge_route-requires-clause-route
judge_route-requires-clause-route c =
    let network : DeclaredNetwork = c.args.network.now in
    let n : ℕ = c.args.stream in
    let bounds : Table ℕ = c.args.bounds.now in
    let rules = c.streams.ensures.rules in
    let within : n < length network.streams = omega (arith, c.requires.last) in
    let own = path_is network c.streams.result.now n c.index-streams-stream.result c.ports-path.result.now within
    c.streams.ensures.value c.index-streams-stream.is c.ports-path.ensures.value in
    let is : late.IsLate network n c.requires.last rules bounds c.requires.least c.in-Some.number =
    late.is_found network n c.requires.last rules bounds c.requires.least c.in-Some.number c.args.routes.now
    c.ports-path.result.now c.find_late.result c.requires.free c.requires.routes own c.find_late.ensures.found
    c.in-Some.is in
    late.route_read network n c.requires.last rules bounds c.requires.least c.in-Some.number
    c.args.routes.now c.index-routes-number.result is.within c.requires.routes c.index-routes-number.is

pub judge_route-requires-clause-stream : goal.judge_route-requires-clause-stream
judge_route-requires-clause-stream c =
    let network : DeclaredNetwork = c.args.network.now in
    let n : ℕ = c.args.stream in
    let bounds : Table ℕ = c.args.bounds.now in
    let rules = c.streams.ensures.rules in
    let within : n < length network.streams = omega (arith, c.requires.last) in
    let own = path_is network c.streams.result.now n c.index-streams-stream.result c.ports-path.result.now within
    c.streams.ensures.value c.index-streams-stream.is c.ports-path.ensures.value in
    let is : late.IsLate network n c.requires.last rules bounds c.requires.least c.in-Some.number =
    late.is_found network n c.requires.last rules bounds c.requires.least c.in-Some.number c.args.routes.now
    c.ports-path.result.now c.find_late.result c.requires.free c.requires.routes own c.find_late.ensures.found
    c.in-Some.is in
    omega (arith, is.within, c.requires.last)

pub returns-in-Some-clause-answer : goal.returns-in-Some-clause-answer
returns-in-Some-clause-answer c =
    let network : DeclaredNetwork = c.args.network.now in
    let n : ℕ = c.args.stream in
    let bounds : Table ℕ = c.args.bounds.now in
    let rules = c.streams.ensures.rules in
    let within : n < length network.streams = omega (arith, c.requires.last) in
    let own = path_is network c.streams.result.now n c.index-streams-stream.result c.ports-path.result.now within
    c.streams.ensures.value c.index-streams-stream.is c.ports-path.ensures.value in
    let is : late.IsLate network n c.requires.last rules bounds c.requires.least c.in-Some.number =
    late.is_found network n c.requires.last rules bounds c.requires.least c.in-Some.number c.args.routes.now
    c.ports-path.result.now c.find_late.result c.requires.free c.requires.routes own c.find_late.ensures.found
    c.in-Some.is in
    c.judge_route.ensures
    ∙ late.late_answer network n c.requires.last rules bounds c.requires.least c.in-Some.number is

pub returns-in-None-clause-answer : goal.returns-in-None-clause-answer
returns-in-None-clause-answer c =
    let network : DeclaredNetwork = c.args.network.now in
    let n : ℕ = c.args.stream in
    let bounds : Table ℕ = c.args.bounds.now in
    let rules = c.streams.ensures.rules in
    let within : n < length network.streams = omega (arith, c.requires.last) in
    let own = path_is network c.streams.result.now n c.index-streams-stream.result c.ports-path.result.now within
    c.streams.ensures.value c.index-streams-stream.is c.ports-path.ensures.value in
    c.judge_route-in-None.ensures
    ∙ late.own_answer network n c.requires.last rules bounds c.requires.least
    (late.none_found network n c.requires.last rules bounds c.requires.least c.args.routes.now c.ports-path.result.now
    c.find_late.result c.requires.free c.requires.routes own c.find_late.ensures.found c.in-None.is)

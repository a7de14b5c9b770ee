use Rattle.std.proofs.Common.{◌≢◌, ◌<◌, ◌∷◌, ◌++◌, [], ℕ, List, length, sym, ap, subst, ◌∙◌, arith}
use Rattle.std.specs.List.{All, AllPairs}
use Rattle.std.proofs.lemmas.List.{length-map}
use Rattle.ats_streams.specs.Stream.{DeclaredStream}
use Rattle.ats_network.specs.Edits.{no_stream}
use Rattle.ats_network.specs.Network.{DeclaredNetwork}
use Rattle.ats_tally.proofs.Paths.{paths_apart, paths_inside}
use Rattle.ats_admission_users.specs.Users.{ListsPaths}
use Rattle.ats_admission_shares.specs.PortShares.{stream_at, stream_paths, without_at}
use Rattle.ats_admission_state.specs.Routes.{RouteState, routes_of}
use Rattle.ats_admission_state.proofs.Last.{others-length, path_is, paths_are, routes_more}
use Rattle.ats_admission_state.proofs.entering.enter.Goals as goal

pub push-requires-clause-ports : goal.push-requires-clause-ports
push-requires-clause-ports c =
    let network : DeclaredNetwork = c.args.network.now in
    let n : ℕ = c.args.stream in
    let within : n < length network.streams = omega (arith, c.requires.last) in
    let own = path_is network c.streams.result.now n c.index-streams-stream.result c.ports.result.now within
    c.streams.ensures.value c.index-streams-stream.is c.ports.ensures.value in
    subst (All (λ p. p < length c.args.streams.now.lists)) (sym own)
    (subst (λ (ports : ℕ). All (λ p. p < ports) (stream_at network n).ports)
    (sym c.requires.keeps.users.ports_are) (paths_inside network c.streams.ensures.rules n no_stream within))

pub push-requires-clause-apart : goal.push-requires-clause-apart
push-requires-clause-apart c =
    let network : DeclaredNetwork = c.args.network.now in
    let n : ℕ = c.args.stream in
    let within : n < length network.streams = omega (arith, c.requires.last) in
    let own = path_is network c.streams.result.now n c.index-streams-stream.result c.ports.result.now within
    c.streams.ensures.value c.index-streams-stream.is c.ports.ensures.value in
    subst (AllPairs (λ p q. p ≢ q)) (sym own) (paths_apart network c.streams.ensures.rules n no_stream within)

pub push-requires-clause-room : goal.push-requires-clause-room
push-requires-clause-room c =
    let network : DeclaredNetwork = c.args.network.now in
    let n : ℕ = c.args.stream in
    omega (
      arith,
      c.requires.keeps.users.count,
      length-map (without_at network n).streams (λ (s : DeclaredStream). s.ports),
      others-length network n c.requires.last,
      c.requires.last,
      c.streams.ensures.rules.few_streams,
    )

pub returns-clause-ok : goal.returns-clause-ok
returns-clause-ok c =
    let network : DeclaredNetwork = c.args.network.now in
    let n : ℕ = c.args.stream in
    let ports : ℕ = length network.topology.ports in
    let within : n < length network.streams = omega (arith, c.requires.last) in
    let own = path_is network c.streams.result.now n c.index-streams-stream.result c.ports.result.now within
    c.streams.ensures.value c.index-streams-stream.is c.ports.ensures.value in
    let before : List RouteState = routes_of (without_at network n) in
    record {
      users = subst (λ (paths : List (List ℕ)). ListsPaths ports paths c.push.new.self)
          (ap (λ (path : List ℕ). stream_paths (without_at network n) ++ path ∷ []) own
          ∙ sym (paths_are network n c.requires.last))
          (c.in_ok-push.ensures.ok ports (stream_paths (without_at network n)) c.requires.keeps.users);
      shares_are = c.enter.ensures;
      routes_are = c.push_reserved.ensures.items
          ∙ ap (λ (routes : List RouteState). routes ++ c.args.route ∷ [])
          (c.in_ok-reserve.ensures.items ∙ c.requires.keeps.routes_are)
          ∙ ap (λ (route : RouteState). before ++ route ∷ []) c.requires.route
          ∙ sym (routes_more network n c.requires.last);
    }

use Rattle.std.proofs.Common.{◌<◌, ℕ, List, length, sym, ap, subst, ◌∙◌, arith}
use Rattle.std.specs.List.{All}
use Rattle.ats_network.specs.Edits.{no_stream}
use Rattle.ats_network.specs.Network.{DeclaredNetwork}
use Rattle.ats_tally.proofs.Paths.{paths_inside}
use Rattle.ats_admission_shares.specs.PortShares.{without_at}
use Rattle.ats_admission_state.specs.Judging.{found_on}
use Rattle.ats_admission_state.proofs.Apart.{many_users, users_before}
use Rattle.ats_admission_state.proofs.Judgements.{found_err, sums_left}
use Rattle.ats_admission_state.proofs.Last.{few_hops, path_is}
use Rattle.ats_admission_state.proofs.walks.judge_stream.Goals as goal

pub judge_path-requires-clause-path : goal.judge_path-requires-clause-path
judge_path-requires-clause-path c =
    path_is c.args.network.now c.streams.result.now c.args.stream c.index-streams-stream.result c.ports-path.result.now
    (omega (arith, c.requires.last)) c.streams.ensures.value c.index-streams-stream.is c.ports-path.ensures.value

pub judge_path-requires-clause-few : goal.judge_path-requires-clause-few
judge_path-requires-clause-few c =
    let network : DeclaredNetwork = c.args.network.now in
    let within : c.args.stream < length network.streams = omega (arith, c.requires.last) in
    let own = path_is network c.streams.result.now c.args.stream c.index-streams-stream.result c.ports-path.result.now
    within c.streams.ensures.value c.index-streams-stream.is c.ports-path.ensures.value in
    omega (
      arith,
      few_hops network c.args.stream c.streams.ensures.rules within,
      ap (λ (ports : List ℕ). length ports) own,
    )

pub judge_path-requires-clause-ports : goal.judge_path-requires-clause-ports
judge_path-requires-clause-ports c =
    let network : DeclaredNetwork = c.args.network.now in
    let within : c.args.stream < length network.streams = omega (arith, c.requires.last) in
    subst (All (λ p. p < length network.topology.ports))
    (sym (path_is network c.streams.result.now c.args.stream c.index-streams-stream.result c.ports-path.result.now
    within c.streams.ensures.value c.index-streams-stream.is c.ports-path.ensures.value))
    (paths_inside network c.streams.ensures.rules c.args.stream no_stream within)

pub returns-in-Some-clause-answer : goal.returns-in-Some-clause-answer
returns-in-Some-clause-answer c =
    let network : DeclaredNetwork = c.args.network.now in
    let own = path_is network c.streams.result.now c.args.stream c.index-streams-stream.result c.ports-path.result.now
    (omega (arith, c.requires.last)) c.streams.ensures.value c.index-streams-stream.is c.ports-path.ensures.value in
    found_err network c.args.stream c.requires.last c.streams.ensures.rules c.requires.free c.in-Some.reason
    (c.in-Some.ensures.found ∙ ap (found_on network) own)

pub returns-clause-answer : goal.returns-clause-answer
returns-clause-answer c =
    let network : DeclaredNetwork = c.args.network.now in
    let own = path_is network c.streams.result.now c.args.stream c.index-streams-stream.result c.ports-path.result.now
    (omega (arith, c.requires.last)) c.streams.ensures.value c.index-streams-stream.is c.ports-path.ensures.value in
    c.judge_sums.ensures.answer
    ∙ sums_left network c.args.stream c.requires.last c.streams.ensures.rules c.requires.free
    (c.in_default.ensures.found ∙ ap (found_on network) own)

pub judge_path-requires-clause-lists : goal.judge_path-requires-clause-lists
judge_path-requires-clause-lists c = c.requires.keeps.users.ports_are

pub judge_path-requires-clause-users : goal.judge_path-requires-clause-users
judge_path-requires-clause-users c =
    many_users (without_at c.args.network.now c.args.stream) c.args.streams.now c.args.shares.now c.args.routes.now
    c.args.spares.now c.requires.keeps c.requires.spares.count

pub returns-in-Some-clause-spares : goal.returns-in-Some-clause-spares
returns-in-Some-clause-spares c =
    c.in-Some.ensures.spares.each c.args.routes.now
    (users_before c.args.network.now c.args.stream c.args.streams.now c.args.shares.now c.args.routes.now
    c.requires.last c.streams.ensures.rules c.requires.keeps) c.requires.spares

pub judge_sums-requires-clause-spares : goal.judge_sums-requires-clause-spares
judge_sums-requires-clause-spares c =
    c.in_default.ensures.spares.each c.args.routes.now
    (users_before c.args.network.now c.args.stream c.args.streams.now c.args.shares.now c.args.routes.now
    c.requires.last c.streams.ensures.rules c.requires.keeps) c.requires.spares

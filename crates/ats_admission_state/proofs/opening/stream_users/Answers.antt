use Rattle.std.proofs.Common.{ℕ, List, length, map, take, subst}
use Rattle.ats_streams.specs.Stream.{DeclaredStream}
use Rattle.ats_admission_users.specs.Users.{ListsPaths}
use Rattle.ats_admission_state.proofs.Opened.{IsOver, streams_over, next_path, over_lists, read_is}
use Rattle.ats_admission_state.proofs.opening.stream_users.Goals as goal

pub push-requires-clause-ports : goal.push-requires-clause-ports
push-requires-clause-ports c =
    let ports : ℕ = length c.args.network.now.topology.ports in
    (over_lists ports (length c.loop-stream.users.lists) c.stream-item.result.ports c.ports-in-loop-stream.result.now
    (read_is (λ (x : DeclaredStream). IsOver ports x.ports) c.args.network.now.streams c.streams-stream-items.result.now
    c.loop-stream.stream-index c.stream-item.result
    (streams_over c.args.network.now c.streams-stream-items.ensures.rules)
    c.loop-stream-test.true c.streams-stream-items.ensures.value c.stream-item.is)
    c.loop-stream.invariant.ports_are c.ports-in-loop-stream.ensures.value).inside

pub push-requires-clause-apart : goal.push-requires-clause-apart
push-requires-clause-apart c =
    let ports : ℕ = length c.args.network.now.topology.ports in
    (over_lists ports (length c.loop-stream.users.lists) c.stream-item.result.ports c.ports-in-loop-stream.result.now
    (read_is (λ (x : DeclaredStream). IsOver ports x.ports) c.args.network.now.streams c.streams-stream-items.result.now
    c.loop-stream.stream-index c.stream-item.result
    (streams_over c.args.network.now c.streams-stream-items.ensures.rules)
    c.loop-stream-test.true c.streams-stream-items.ensures.value c.stream-item.is)
    c.loop-stream.invariant.ports_are c.ports-in-loop-stream.ensures.value).apart

pub loop-stream-preserved : goal.loop-stream-preserved
loop-stream-preserved c =
    let ports : ℕ = length c.args.network.now.topology.ports in
    let streams : List DeclaredStream = c.args.network.now.streams in
    let path_of = λ (x : DeclaredStream). x.ports in
    subst (λ (paths : List (List ℕ)). ListsPaths ports paths c.push.new.self)
    (next_path path_of streams c.streams-stream-items.result.now c.loop-stream.stream-index c.stream-item.result
    c.ports-in-loop-stream.result.now c.loop-stream-test.true c.streams-stream-items.ensures.value c.stream-item.is
    c.ports-in-loop-stream.ensures.value)
    (c.in_ok-push.ensures.ok ports (map path_of (take c.loop-stream.stream-index streams)) c.loop-stream.invariant)

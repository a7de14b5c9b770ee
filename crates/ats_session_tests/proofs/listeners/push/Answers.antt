use Rattle.std.proofs.Common.{rules}
use Rattle.ats_session_tests.proofs.Forks.{fork_tree}
use Rattle.ats_session_tests.proofs.listeners.push.Goals as goal

pub push_stream-requires-clause-tree : goal.push_stream-requires-clause-tree
push_stream-requires-clause-tree g c =
    fork_tree c.args.network.now.topology c.to_both-stream.result.ports c.to_both-stream.result.branches
    c.to_both-stream.ensures.ports c.to_both-stream.ensures.branches (c.valid_path.ensures.valid.0 (search rules))
    (c.valid_path-2.ensures.valid.0 (search rules)) (c.part.ensures (search rules))

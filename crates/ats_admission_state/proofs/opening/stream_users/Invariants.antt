use Rattle.std.proofs.Common.{length, map, take}
use Rattle.ats_streams.specs.Stream.{DeclaredStream}
use Rattle.ats_admission_users.specs.Users.{ListsPaths}
use Rattle.ats_admission_state.proofs.opening.stream_users.Given as goal

-- the streams so far are listed
abbrev pub invariant-loop-stream : goal.invariant-loop-stream
invariant-loop-stream l = ListsPaths (length l.network.topology.ports)
    (map (λ (x : DeclaredStream). x.ports) (take l.stream-index l.network.streams)) l.users

use Rattle.std.proofs.Common.{◌≡◌, [], take}
use Rattle.std.specs.List.{All}
use Rattle.ats_streams.specs.Stream.{DeclaredStream}
use Rattle.ats_network.proofs.network.have_one_listener.Given as goal

-- none of the streams so far has a branch
abbrev pub invariant-loop-stream : goal.invariant-loop-stream
invariant-loop-stream l = All (λ (s : DeclaredStream). s.branches ≡ []) (take l.stream-index l.streams)

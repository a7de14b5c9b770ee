use Rattle.std.proofs.Common.{◌≡◌, ◌/◌, [], drop, length, nat_le, slice_index_or}
use Rattle.std.specs.List.{list_any}
use Rattle.ats_admission_state.proofs.busy.has_busy.Given as goal

-- of the ports to come one is busy, where one of all is
abbrev pub invariant-loop-port : goal.invariant-loop-port
invariant-loop-port l =
    list_any (λ p. nat_le (l.routes / 4) (length (slice_index_or l.users.lists p []))) (drop l.port-index l.path)
    ≡ list_any (λ p. nat_le (l.routes / 4) (length (slice_index_or l.users.lists p []))) l.path

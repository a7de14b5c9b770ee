use Rattle.std.proofs.Common.{◌≢◌, ℕ, ◌+◌, ◌<◌, length, slice_index_or}
use Rattle.ats_streams.specs.Branches.{no_branch}
use Rattle.ats_settings.proofs.before.place_in.Given as goal

-- the ports of no branch so far begin at the place
abbrev pub invariant-loop-leg : goal.invariant-loop-leg
invariant-loop-leg l = (n : ℕ) → n < length l.stream.branches → n + 1 < l.leg
    → (slice_index_or l.stream.branches n no_branch).first ≢ l.place

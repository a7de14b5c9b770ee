use Rattle.std.proofs.Common.{◌+◌, ◌-◌, ◌<◌, ◌≤◌, length, slice_index_or}
use Rattle.ats_streams.specs.Branches.{first_from, no_branch}
use Rattle.ats_engine_steps.proofs.legs.leg_of_place.Given as goal

abbrev pub invariant-loop-behind : goal.invariant-loop-behind
invariant-loop-behind l =
    (l.leg < l.behind) × (l.behind ≤ 1 + length l.stream.branches) × (first_from 0 l.stream.branches l.leg ≤ l.place)
    × (l.behind ≤ length l.stream.branches
    → l.place < (slice_index_or l.stream.branches (l.behind - 1) no_branch).first)

abbrev pub decreases-loop-behind : goal.decreases-loop-behind
decreases-loop-behind l = l.behind - l.leg

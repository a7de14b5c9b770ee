use Rattle.std.proofs.Common.{◌≡◌, ◌≤◌, ◌++◌, length, drop}
use Rattle.ats_streams.proofs.route.Route.lead_by.Given as goal

-- the ports from here on stand in front
abbrev pub invariant-loop-left : goal.invariant-loop-left
invariant-loop-left l = (l.self ≡ drop l.left l.ports ++ l.fn.self) × (l.left ≤ length l.ports)

abbrev pub decreases-loop-left : goal.decreases-loop-left
decreases-loop-left l = l.left

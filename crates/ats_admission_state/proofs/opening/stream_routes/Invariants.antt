use Rattle.std.proofs.Common.{◌≡◌, map, take}
use Rattle.ats_admission_state.specs.Routes.{route_of}
use Rattle.ats_admission_state.proofs.opening.stream_routes.Given as goal

-- the routes of the streams so far
abbrev pub invariant-loop-stream : goal.invariant-loop-stream
invariant-loop-stream l = l.routes.items ≡ map route_of (take l.stream-index l.network.streams)

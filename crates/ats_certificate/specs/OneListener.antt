use Rattle.std.specs.Prelude.{◌≡◌, ◌↔◌, ℕ, ◌*◌, ◌≤◌, List, [], ◌∷◌, sum_by}
use Rattle.ats_num.specs.declared.time.TheConstants.{PS_PER_NS}
use Rattle.ats_streams.specs.Stream.{DeclaredStream}
use Rattle.ats_network.specs.Sender.{stream_sender}
use Rattle.ats_certificate.specs.Certificate.{IsInTime, bound_along, bound_of_hop, sums_of}
use Rattle.ats_certificate.specs.declared.row.Row.{Row}

-- what the definitions say of a stream with one listener: its ports are the one route, along which its bounds have one
-- sum, and it is in time where this is within its deadline
pub record HasOneSum (rows : List Row) (stream : DeclaredStream) : Type 0 where
  pub sum : bound_along rows stream ≡ sum_by (bound_of_hop rows (stream_sender stream)) stream.ports
  pub sums : sums_of rows stream ≡ bound_along rows stream ∷ []
  pub in_time : IsInTime rows stream ↔ (bound_along rows stream ≤ PS_PER_NS * stream.deadline_ns)

abbrev pub OneListenerHasOneSum : Type 0
OneListenerHasOneSum = (rows : List Row) (stream : DeclaredStream) → stream.branches ≡ [] → HasOneSum rows stream

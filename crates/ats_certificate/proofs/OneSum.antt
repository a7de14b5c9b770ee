-- Of a stream with one listener, all is said of its ports as of its one route.
use Rattle.std.proofs.Common.{◌≡◌, ℕ, ◌*◌, ◌≤◌, List, [], ◌∷◌, map, sum_by, sym, ap, subst, ◌∙◌, arith}
use Rattle.std.specs.List.{All}
use Rattle.std.proofs.lemmas.List.Elements.{All-cons, All-nil}
use Rattle.ats_num.specs.declared.time.TheConstants.{PS_PER_NS}
use Rattle.ats_streams.specs.Branches.{routes_of, trunk_of}
use Rattle.ats_streams.specs.Stream.{DeclaredStream}
use Rattle.ats_network.specs.Sender.{stream_sender}
use Rattle.ats_certificate.specs.Certificate.{IsInTime, MeetsDeadline, bound_along, bound_of_hop, bound_on, sums_of}
use Rattle.ats_certificate.specs.OneListener.{OneListenerHasOneSum}
use Rattle.ats_certificate.specs.declared.row.Row.{Row}

-- its ports are those of its trunk, and its one route
trunk_alone : (stream : DeclaredStream) → stream.branches ≡ []
    → trunk_of stream.ports stream.branches ≡ stream.ports
trunk_alone stream alone = ap (trunk_of stream.ports) alone

routes_alone : (stream : DeclaredStream) → stream.branches ≡ []
    → routes_of stream.ports stream.branches ≡ stream.ports ∷ []
routes_alone stream alone = ap (routes_of stream.ports) alone

pub sum_alone : (rows : List Row) (stream : DeclaredStream) → stream.branches ≡ []
    → bound_along rows stream ≡ sum_by (bound_of_hop rows (stream_sender stream)) stream.ports
sum_alone rows stream alone = ap (bound_on rows stream) (trunk_alone stream alone)

pub sums_alone : (rows : List Row) (stream : DeclaredStream) → stream.branches ≡ []
    → sums_of rows stream ≡ bound_along rows stream ∷ []
sums_alone rows stream alone =
    ap (map (bound_on rows stream)) (routes_alone stream alone)
    ∙ ap (λ (n : ℕ). n ∷ []) (sym (sum_alone rows stream alone))

-- the bounds along a route are within the deadline
abbrev Meets : List Row → DeclaredStream → List ℕ → Type 0
Meets rows stream route = MeetsDeadline stream (bound_on rows stream route)

from_alone : (rows : List Row) (stream : DeclaredStream) → stream.branches ≡ [] → IsInTime rows stream
    → bound_along rows stream ≤ PS_PER_NS * stream.deadline_ns
from_alone rows stream alone all =
    let one : All (Meets rows stream) (stream.ports ∷ []) =
    subst (All (Meets rows stream)) (routes_alone stream alone) all in
    subst (Meets rows stream) (sym (trunk_alone stream alone)) (one 0 [] (omega arith))

to_alone : (rows : List Row) (stream : DeclaredStream) → stream.branches ≡ []
    → bound_along rows stream ≤ PS_PER_NS * stream.deadline_ns → IsInTime rows stream
to_alone rows stream alone within =
    subst (All (Meets rows stream)) (sym (routes_alone stream alone))
    (All-cons (Meets rows stream) stream.ports [] (subst (Meets rows stream) (trunk_alone stream alone) within)
    (All-nil (Meets rows stream)))

pub one_listener_has_one_sum : OneListenerHasOneSum
one_listener_has_one_sum rows stream alone = record {
  sum = sum_alone rows stream alone;
  sums = sums_alone rows stream alone;
  in_time = (from_alone rows stream alone, to_alone rows stream alone);
}

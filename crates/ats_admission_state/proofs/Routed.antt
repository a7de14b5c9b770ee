-- The sums along the routes of a network's streams, by its least bounds.
use Rattle.std.proofs.Common.{◌≡◌, ℕ, ◌<◌, List, [], ◌++◌, length, sym, ap, subst, ◌∙◌, arith}
use Rattle.ats_class_table.specs.Table.{Table}
use Rattle.ats_streams.specs.Branches.{leg_at, legs_of, routes_of}
use Rattle.ats_streams.specs.Stream.{DeclaredStream}
use Rattle.ats_streams.proofs.BranchLemmas.{lead_of_trunk, route-at}
use Rattle.ats_network.specs.Edits.{no_stream}
use Rattle.ats_network.specs.Network.{DeclaredNetwork, IsNetwork}
use Rattle.ats_certificate.specs.Certificate.{bound_on}
use Rattle.ats_tally.proofs.Paths.{paths_apart, paths_inside}
use Rattle.ats_bound.specs.Least.{least_certificate}
use Rattle.ats_admission_shares.specs.PortShares.{stream_at}
use Rattle.ats_admission_state.specs.Judged.{sum_at}
use Rattle.ats_admission_state.specs.Kept.{AreLeast}
use Rattle.ats_admission_state.specs.Routes.{AreBounded, RouteState, route_of, sum_along}
use Rattle.ats_admission_state.proofs.Bounds.{route_bounded, route_sum}

module _ (network : DeclaredNetwork) (rules : IsNetwork network) (bounds : Table ℕ) (least : AreLeast network bounds)
  where
    -- the sum along a route of a stream is that of its bounds there
    pub sum_is : (m leg : ℕ) → m < length network.streams → sum_along bounds (route_of (stream_at network m)) leg
        ≡ bound_on (least_certificate network) (stream_at network m)
        (leg_at (routes_of (stream_at network m).ports (stream_at network m).branches) leg)
    sum_is m leg within =
        route_sum network (stream_at network m) bounds rules (rules.streams m no_stream within)
        (paths_inside network rules m no_stream within) least (paths_apart network rules m no_stream within) leg

    -- its places have bounds of few digits
    pub bounded_at : (m : ℕ) → m < length network.streams → AreBounded bounds (route_of (stream_at network m))
    bounded_at m within =
        route_bounded network (stream_at network m) bounds rules (rules.streams m no_stream within)
        (paths_inside network rules m no_stream within) least

    -- so have those of the route, as it is read
    pub bounded_read : (m : ℕ) (route : RouteState) → m < length network.streams
        → route ≡ route_of (stream_at network m) → AreBounded bounds route
    bounded_read m route within is = subst (AreBounded bounds) (sym is) (bounded_at m within)

    -- the sum along the trunk is that for the first listener
    pub first_sum : (m : ℕ) → m < length network.streams
        → sum_along bounds (route_of (stream_at network m)) 0 ≡ sum_at network m
    first_sum m within =
        let s : DeclaredStream = stream_at network m in
        sum_is m 0 within
        ∙ ap (bound_on (least_certificate network) s)
        (route-at s.ports s.branches 0 [] (omega arith)
        ∙ ap (λ (lead : List ℕ). lead ++ leg_at (legs_of s.ports s.branches) 0) (lead_of_trunk s.ports s.branches))

-- The listeners of a stream, leg by leg.
use Rattle.std.proofs.Common.{◌≡◌, ℕ, zero, suc, ◌<◌, ◌≤◌, List, [], ◌∷◌, length, get_or, Option, Some, None}
use Rattle.std.proofs.Common.{refl, ap, ◌∙◌, arith}
use Rattle.ats_streams.specs.Branches.{leg_at, legs_of, routes_of}
use Rattle.ats_streams.specs.Stream.{DeclaredStream}
use Rattle.ats_streams.specs.declared.branch.Branch.{Branch}
use Rattle.ats_streams.proofs.BranchLemmas.{legs-length, routes-length}
use Rattle.ats_topology.specs.Topology.{DeclaredTopology}
use Rattle.ats_network.specs.Listeners.{Listener, further_listeners, listeners_by, listeners_of, station_of}
use Rattle.ats_tally.specs.Listeners.{listener_at, no_listener}

-- how the listener of a leg is named
abbrev pub name_by : DeclaredTopology → ℕ → List ℕ → Option (List ℕ)
name_by topology zero route = None
name_by topology (suc n) route = Some (station_of topology route)

abbrev pub listener_by : DeclaredTopology → ℕ → List ℕ → List ℕ → Listener
listener_by topology n leg route = record { name = name_by topology n route; leg = leg; route = route }

further-length : (topology : DeclaredTopology) (legs routes : List (List ℕ)) → length routes ≡ length legs
    → length (further_listeners topology legs routes) ≡ length legs
further-length topology [] routes same = refl
further-length topology (leg ∷ legs) [] same = absurd (omega arith)
further-length topology (leg ∷ legs) (route ∷ routes) same =
    ap suc (further-length topology legs routes (omega arith))

by-length : (topology : DeclaredTopology) (legs routes : List (List ℕ)) → length routes ≡ length legs
    → length (listeners_by topology legs routes) ≡ length legs
by-length topology [] routes same = refl
by-length topology (leg ∷ legs) [] same = absurd (omega arith)
by-length topology (leg ∷ legs) (route ∷ routes) same = ap suc (further-length topology legs routes (omega arith))

-- a stream has a listener more than branches
pub listeners-length : (topology : DeclaredTopology) (stream : DeclaredStream)
    → length (listeners_of topology stream) ≡ suc (length stream.branches)
listeners-length topology stream =
    let many : length (legs_of stream.ports stream.branches) ≡ suc (length stream.branches) =
    legs-length 0 stream.ports stream.branches in
    let as_many : length (routes_of stream.ports stream.branches) ≡ suc (length stream.branches) =
    routes-length stream.ports stream.branches in
    by-length topology (legs_of stream.ports stream.branches) (routes_of stream.ports stream.branches)
    (omega (arith, many, as_many)) ∙ many

further_at : (topology : DeclaredTopology) (legs routes : List (List ℕ)) (n : ℕ) (d : Listener) → n < length legs
    → n < length routes → get_or (further_listeners topology legs routes) n d
    ≡ listener_by topology (suc n) (leg_at legs n) (leg_at routes n)
further_at topology [] routes n d in_legs in_routes = absurd (omega arith)
further_at topology (leg ∷ legs) [] n d in_legs in_routes = absurd (omega arith)
further_at topology (leg ∷ legs) (route ∷ routes) zero d in_legs in_routes = refl
further_at topology (leg ∷ legs) (route ∷ routes) (suc n) d in_legs in_routes =
    further_at topology legs routes n d (omega arith) (omega arith)

by_at : (topology : DeclaredTopology) (legs routes : List (List ℕ)) (n : ℕ) (d : Listener) → n < length legs
    → n < length routes → get_or (listeners_by topology legs routes) n d
    ≡ listener_by topology n (leg_at legs n) (leg_at routes n)
by_at topology [] routes n d in_legs in_routes = absurd (omega arith)
by_at topology (leg ∷ legs) [] n d in_legs in_routes = absurd (omega arith)
by_at topology (leg ∷ legs) (route ∷ routes) zero d in_legs in_routes = refl
by_at topology (leg ∷ legs) (route ∷ routes) (suc n) d in_legs in_routes =
    further_at topology legs routes n d (omega arith) (omega arith)

-- each of a leg, with its name and the route there
pub listener-is : (topology : DeclaredTopology) (stream : DeclaredStream) (n : ℕ) (d : Listener)
    → n ≤ length stream.branches → get_or (listeners_of topology stream) n d
    ≡ listener_by topology n (leg_at (legs_of stream.ports stream.branches) n)
    (leg_at (routes_of stream.ports stream.branches) n)
listener-is topology stream n d within =
    by_at topology (legs_of stream.ports stream.branches) (routes_of stream.ports stream.branches) n d
    (omega (arith, within, legs-length 0 stream.ports stream.branches))
    (omega (arith, within, routes-length stream.ports stream.branches))

pub listener_name-is : (topology : DeclaredTopology) (stream : DeclaredStream) (n : ℕ) → n ≤ length stream.branches
    → (listener_at topology stream n).name ≡ name_by topology n (leg_at (routes_of stream.ports stream.branches) n)
listener_name-is topology stream n within =
    ap (λ (l : Listener). l.name) (listener-is topology stream n no_listener within)

pub listener_route-is : (topology : DeclaredTopology) (stream : DeclaredStream) (n : ℕ) (d : Listener)
    → n ≤ length stream.branches → (get_or (listeners_of topology stream) n d).route
    ≡ leg_at (routes_of stream.ports stream.branches) n
listener_route-is topology stream n d within =
    ap (λ (l : Listener). l.route) (listener-is topology stream n d within)

-- a listener behind the first goes by its station's name
pub named_after : (topology : DeclaredTopology) (n : ℕ) (route : List ℕ) → 0 < n
    → name_by topology n route ≡ Some (station_of topology route)
named_after topology zero route some = absurd (omega arith)
named_after topology (suc n) route some = refl

pub unnamed : (topology : DeclaredTopology) (n : ℕ) (route : List ℕ) → n ≡ 0 → name_by topology n route ≡ None
unnamed topology n route none = ap (λ (k : ℕ). name_by topology k route) none

-- where there is one, it is that of all ports
pub listeners_alone : (topology : DeclaredTopology) (stream : DeclaredStream) → stream.branches ≡ []
    → listeners_of topology stream ≡ listener_by topology 0 stream.ports stream.ports ∷ []
listeners_alone topology stream alone =
    ap (λ (branches : List Branch).
    listeners_by topology (legs_of stream.ports branches) (routes_of stream.ports branches)) alone

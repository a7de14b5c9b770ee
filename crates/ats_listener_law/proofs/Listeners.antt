-- The listeners of a stream, told leg by leg.
use Rattle.std.proofs.Common.{◌≡◌, ℕ, suc, List, [], ◌∷◌, length, map, drop, Option, Some, None, refl, ap, arith}
use Rattle.ats_streams.specs.Branches.{legs_of, routes_of}
use Rattle.ats_streams.proofs.BranchLemmas.{legs-length, routes-length}
use Rattle.ats_topology.specs.Topology.{DeclaredTopology}
use Rattle.ats_network.specs.Listeners.{Listener, further_listeners, listeners_by, station_of}
use Rattle.ats_listener_law.specs.Listeners.{ListenersAreLegByLeg}

-- of lists that are as long, each listener has one of each
further_legs : (topology : DeclaredTopology) (legs routes : List (List ℕ)) → length routes ≡ length legs
    → map (λ (l : Listener). l.leg) (further_listeners topology legs routes) ≡ legs
further_legs topology [] routes same = refl
further_legs topology (leg ∷ legs) [] same = absurd (omega (arith, same))
further_legs topology (leg ∷ legs) (route ∷ routes) same =
    ap (λ (rest : List (List ℕ)). leg ∷ rest) (further_legs topology legs routes (omega (arith, same)))

further_routes : (topology : DeclaredTopology) (legs routes : List (List ℕ)) → length routes ≡ length legs
    → map (λ (l : Listener). l.route) (further_listeners topology legs routes) ≡ routes
further_routes topology [] [] same = refl
further_routes topology [] (route ∷ routes) same = absurd (omega (arith, same))
further_routes topology (leg ∷ legs) [] same = absurd (omega (arith, same))
further_routes topology (leg ∷ legs) (route ∷ routes) same =
    ap (λ (rest : List (List ℕ)). route ∷ rest) (further_routes topology legs routes (omega (arith, same)))

-- and is named by its route
further_names : (topology : DeclaredTopology) (legs routes : List (List ℕ)) → length routes ≡ length legs
    → map (λ (l : Listener). l.name) (further_listeners topology legs routes)
    ≡ map (λ route. Some (station_of topology route)) routes
further_names topology [] [] same = refl
further_names topology [] (route ∷ routes) same = absurd (omega (arith, same))
further_names topology (leg ∷ legs) [] same = absurd (omega (arith, same))
further_names topology (leg ∷ legs) (route ∷ routes) same =
    ap (λ (rest : List (Option (List ℕ))). Some (station_of topology route) ∷ rest)
    (further_names topology legs routes (omega (arith, same)))

-- the same, the first with them
by_legs : (topology : DeclaredTopology) (legs routes : List (List ℕ)) → length routes ≡ length legs
    → map (λ (l : Listener). l.leg) (listeners_by topology legs routes) ≡ legs
by_legs topology [] routes same = refl
by_legs topology (leg ∷ legs) [] same = absurd (omega (arith, same))
by_legs topology (leg ∷ legs) (route ∷ routes) same =
    ap (λ (rest : List (List ℕ)). leg ∷ rest) (further_legs topology legs routes (omega (arith, same)))

by_routes : (topology : DeclaredTopology) (legs routes : List (List ℕ)) → length routes ≡ length legs
    → map (λ (l : Listener). l.route) (listeners_by topology legs routes) ≡ routes
by_routes topology [] [] same = refl
by_routes topology [] (route ∷ routes) same = absurd (omega (arith, same))
by_routes topology (leg ∷ legs) [] same = absurd (omega (arith, same))
by_routes topology (leg ∷ legs) (route ∷ routes) same =
    ap (λ (rest : List (List ℕ)). route ∷ rest) (further_routes topology legs routes (omega (arith, same)))

by_names : (topology : DeclaredTopology) (legs routes : List (List ℕ)) (n : ℕ) → length legs ≡ suc n
    → length routes ≡ length legs
    → map (λ (l : Listener). l.name) (listeners_by topology legs routes)
    ≡ None ∷ map (λ route. Some (station_of topology route)) (drop 1 routes)
by_names topology [] routes n some same = absurd (omega (arith, some))
by_names topology (leg ∷ legs) [] n some same = absurd (omega (arith, same))
by_names topology (leg ∷ legs) (route ∷ routes) n some same =
    ap (λ (rest : List (Option (List ℕ))). None ∷ rest) (further_names topology legs routes (omega (arith, same)))

pub listeners_are_leg_by_leg : ListenersAreLegByLeg
listeners_are_leg_by_leg topology stream =
    let legs : List (List ℕ) = legs_of stream.ports stream.branches in
    let routes : List (List ℕ) = routes_of stream.ports stream.branches in
    let many : length legs ≡ suc (length stream.branches) = legs-length 0 stream.ports stream.branches in
    let same : length routes ≡ length legs = omega (arith, many, routes-length stream.ports stream.branches) in
    record {
      legs = by_legs topology legs routes same;
      routes = by_routes topology legs routes same;
      names = by_names topology legs routes (length stream.branches) many same;
    }

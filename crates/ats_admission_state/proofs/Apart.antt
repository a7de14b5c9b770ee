-- The routes of a network's streams have no port twice on a way, and are those of its users.
use Rattle.std.proofs.Common.{◌≡◌, ◌≢◌, ℕ, ◌+◌, ◌/◌, ◌≤◌, List, length, get_or, ◌++◌, sym, ap, subst, ◌∙◌, arith}
use Rattle.std.specs.List.{All, AllPairs}
use Rattle.std.proofs.lemmas.List.{length-map}
use Rattle.std.proofs.lemmas.List.Elements.{All-map}
use Rattle.ats_class_table.specs.Table.{Table}
use Rattle.ats_streams.specs.Branches.{AreBranches, leads_of, leg_at, legs_of}
use Rattle.ats_streams.specs.Stream.{DeclaredStream, IsClass, IsStream}
use Rattle.ats_streams.proofs.BranchLemmas.{route-at}
use Rattle.ats_network.specs.Network.{DeclaredNetwork, IsNetwork}
use Rattle.ats_network.proofs.Parts.{part_pairs}
use Rattle.ats_network.proofs.ValidRoutes.{route_part}
use Rattle.ats_tally.proofs.Paths.{paths_apart}
use Rattle.ats_tally.specs.declared.share.Share.{Share}
use Rattle.ats_admission_users.specs.Users.{ListsPaths, UsersState}
use Rattle.ats_admission_law.proofs.Networks.{less_is_network}
use Rattle.ats_admission_shares.specs.PortShares.{stream_at, stream_paths, without_at}
use Rattle.ats_admission_state.specs.Kept.{KeepsStreams}
use Rattle.ats_admission_state.specs.Routes.{RouteState, places_along, route_of, route_paths}
use Rattle.ats_admission_state.specs.Spares.{AreApart, AreUsers, AreUsersOf}
use Rattle.ats_admission_state.proofs.Bounds.{all_route_paths, route_rules}
use Rattle.ats_admission_state.proofs.Last.{less_by}
use Rattle.ats_admission_state.proofs.Places.{places-length, places_at}
use Rattle.ats_admission_state.proofs.Ways.{ways_many}

-- places of different ports are at different ports
places_apart : (path classes : List ℕ) → length classes ≡ length path → All IsClass classes
    → AllPairs (λ p q. p ≢ q) path → AllPairs (λ p q. p / 8 ≢ q / 8) (places_along path classes)
places_apart path classes same all apart i j d below within = λ at_one.
    let many = places-length path classes same in
    let first : IsClass (get_or classes i d) = all i d (omega (arith, below, within, many, same)) in
    let second : IsClass (get_or classes j d) = all j d (omega (arith, within, many, same)) in
    apart i j d below (omega (arith, within, many))
    (omega (
      arith,
      at_one,
      places_at path classes i d same (omega (arith, below, within, many)),
      places_at path classes j d same (omega (arith, within, many)),
      first.most,
      second.most,
    ))

-- no way of a stream's route has two places at one port
way_apart : (stream : DeclaredStream) → IsStream stream → AllPairs (λ p q. p ≢ q) stream.ports
    → AreApart (route_of stream)
way_apart stream is apart k d h =
    let places : List ℕ = places_along stream.ports stream.classes in
    let are : AreBranches places stream.branches = (route_rules stream is).branches_are in
    let within : k ≤ length stream.branches = omega (arith, h, ways_many places stream.branches) in
    let way : List ℕ =
    leg_at (leads_of places stream.branches) k ++ leg_at (legs_of places stream.branches) k in
    subst (AllPairs (λ p q. p / 8 ≢ q / 8)) (sym (route-at places stream.branches k d within))
    (part_pairs (λ p q. p / 8 ≢ q / 8) way places (route_part places stream.branches are k within)
    (places_apart stream.ports stream.classes is.each_port is.classes apart))

-- what keeps the streams of a network has the users of their routes
pub users_kept : (network : DeclaredNetwork) (users : UsersState) (shares : Table Share) (routes : List RouteState)
    → IsNetwork network → KeepsStreams network users shares routes → AreUsersOf routes users
users_kept network users shares routes rules keeps =
    let ports : ℕ = length network.topology.ports in
    let paths_are : route_paths routes ≡ stream_paths network =
    ap route_paths keeps.routes_are ∙ all_route_paths network.streams rules.streams in
    record {
      lists = subst (λ (n : ℕ). ListsPaths n (route_paths routes) users) (sym keeps.users.ports_are)
          (subst (λ (paths : List (List ℕ)). ListsPaths ports paths users) (sym paths_are) keeps.users);
      apart = subst (All AreApart) (sym keeps.routes_are) (All-map AreApart route_of network.streams
          (λ k d h. way_apart (get_or network.streams k d) (rules.streams k d h) (paths_apart network rules k d h)));
    }

-- they are the users of as many paths as there are spares of the routes
pub many_users : (network : DeclaredNetwork) (users : UsersState) (shares : Table Share) (routes : List RouteState)
    (spares : List ℕ) → KeepsStreams network users shares routes → length spares ≡ length routes
    → AreUsers (length spares) users
many_users network users shares routes spares keeps same = record {
  paths = stream_paths network;
  many = length-map network.streams (λ (s : DeclaredStream). s.ports) ∙ sym (length-map network.streams route_of)
      ∙ sym (same ∙ ap (λ (all : List RouteState). length all) keeps.routes_are);
  lists = subst (λ (n : ℕ). ListsPaths n (stream_paths network) users) (sym keeps.users.ports_are) keeps.users;
}

-- so has what keeps the streams of a network without its last one
pub users_before : (network : DeclaredNetwork) (n : ℕ) (users : UsersState) (shares : Table Share)
    (routes : List RouteState) → n + 1 ≡ length network.streams → IsNetwork network
    → KeepsStreams (without_at network n) users shares routes → AreUsersOf routes users
users_before network n users shares routes last rules keeps =
    users_kept (without_at network n) users shares routes
    (less_is_network network (without_at network n) (stream_at network n) (less_by network n (omega (arith, last)))
    rules) keeps

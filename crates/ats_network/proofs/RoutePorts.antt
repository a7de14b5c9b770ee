-- The ports of a stream's routes are ports of the topology.
use Rattle.std.proofs.Common.{ℕ, ◌<◌, ◌≤◌, List, [], get_or, length, map, subst, arith}
use Rattle.std.proofs.lemmas.List.{get_or-map, length-map}
use Rattle.ats_facts.proofs.Lists.{all_left}
use Rattle.ats_streams.specs.Branches.{leg_at, routes_of}
use Rattle.ats_streams.specs.Stream.{DeclaredStream}
use Rattle.ats_streams.proofs.BranchLemmas.{routes-length}
use Rattle.ats_topology.specs.Walks.{ArePorts}
use Rattle.ats_topology.proofs.LeastWalks.{walk_ports}
use Rattle.ats_network.specs.Sender.{Sender, stream_sender, flow_sender}
use Rattle.ats_network.specs.Path.{IsTree, IsValidPath}
use Rattle.ats_network.specs.Network.{DeclaredNetwork, IsNetwork}
use Rattle.ats_network.specs.Senders.{no_sender}
use Rattle.ats_network.specs.Edits.{no_stream}
use Rattle.ats_network.proofs.ValidRoutes.{each_route_is_a_path}

-- the legs of a network's stream make a tree
pub stream_tree : (network : DeclaredNetwork) (n : ℕ) → IsNetwork network → n < length network.streams
    → IsTree network.topology (get_or network.streams n no_stream).ports
    (get_or network.streams n no_stream).branches
stream_tree network n is within =
    let Goes : Sender → Type 0 = λ (s : Sender). IsTree network.topology s.ports s.branches in
    let streams : List Sender = map stream_sender network.streams in
    subst Goes (get_or-map stream_sender network.streams n no_stream no_sender within)
    (all_left Goes streams (map flow_sender network.flows) is.trees n no_sender
    (omega (arith, length-map network.streams stream_sender, within)))

-- and each of its routes is a valid path
pub stream_route : (network : DeclaredNetwork) (n leg : ℕ) → IsNetwork network → n < length network.streams
    → leg ≤ length (get_or network.streams n no_stream).branches
    → IsValidPath network.topology (leg_at (routes_of (get_or network.streams n no_stream).ports
    (get_or network.streams n no_stream).branches) leg)
stream_route network n leg is within there =
    let s : DeclaredStream = get_or network.streams n no_stream in
    each_route_is_a_path network.topology s.ports s.branches (is.streams n no_stream within).branches
    (stream_tree network n is within) leg [] (omega (arith, routes-length s.ports s.branches, there))

-- whose ports are the topology's
pub route_ports : (network : DeclaredNetwork) (n leg : ℕ) → IsNetwork network → n < length network.streams
    → leg ≤ length (get_or network.streams n no_stream).branches
    → ArePorts network.topology.ports (leg_at (routes_of (get_or network.streams n no_stream).ports
    (get_or network.streams n no_stream).branches) leg)
route_ports network n leg is within there =
    let s : DeclaredStream = get_or network.streams n no_stream in
    let route : List ℕ = leg_at (routes_of s.ports s.branches) leg in
    let valid : IsValidPath network.topology route = stream_route network n leg is within there in
    walk_ports network.topology.ports valid.listener valid.talker route valid.walk

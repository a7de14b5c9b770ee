-- The ports of the streams' paths.
use Rattle.std.proofs.Common.{◌≡◌, ◌≢◌, ℕ, ◌+◌, ◌<◌, ◌≤◌, refl, sym, ap, ◌∙◌, List, length, get_or, map, subst, arith}
use Rattle.std.specs.List.{All, AllPairs}
use Rattle.std.proofs.lemmas.List.{get_or-map, length-map}
use Rattle.ats_streams.specs.Branches.{first_from, leg_at, legs_of}
use Rattle.ats_streams.specs.Stream.{DeclaredStream, IsStream}
use Rattle.ats_network.specs.Network.{DeclaredNetwork, IsNetwork}
use Rattle.ats_network.specs.Sender.{Sender, stream_sender, flow_sender}
use Rattle.ats_network.specs.Senders.{IsSender, no_sender}
use Rattle.ats_facts.proofs.Lists.{all_left}
use Rattle.ats_network.proofs.ClassLemmas.{class_along-at}
use Rattle.ats_network.proofs.SenderLemmas.{each_is_sender}
use Rattle.ats_certificate.specs.Certificate.{bound_at, bound_of_hop}
use Rattle.ats_certificate.specs.declared.row.Row.{Row}
use Rattle.ats_tally.proofs.Along.{IsPlaced, leg_placed}

-- the ports of each stream's path are there
pub paths_inside : (network : DeclaredNetwork) → IsNetwork network
    → All (λ (s : DeclaredStream). All (λ p. p < length network.topology.ports) s.ports) network.streams
paths_inside network is k d h =
    let streams : List Sender = map stream_sender network.streams in
    let each : All (IsSender network.topology) streams =
    all_left (IsSender network.topology) streams (map flow_sender network.flows) (each_is_sender network is) in
    let long = length-map network.streams stream_sender in
    let sender : IsSender network.topology (get_or streams k no_sender) = each k no_sender (omega (arith, long)) in
    let same = get_or-map stream_sender network.streams k d no_sender h in
    subst (λ (s : Sender). All (λ p. p < length network.topology.ports) s.ports) same sender.ports

-- and no path has a port twice
pub paths_apart : (network : DeclaredNetwork) → IsNetwork network
    → All (λ (s : DeclaredStream). AllPairs (λ p q. p ≢ q) s.ports) network.streams
paths_apart network is k d h =
    let streams : List Sender = map stream_sender network.streams in
    let each : All (IsSender network.topology) streams =
    all_left (IsSender network.topology) streams (map flow_sender network.flows) (each_is_sender network is) in
    let long = length-map network.streams stream_sender in
    let sender : IsSender network.topology (get_or streams k no_sender) = each k no_sender (omega (arith, long)) in
    let same = get_or-map stream_sender network.streams k d no_sender h in
    subst (λ (s : Sender). AllPairs (λ p q. p ≢ q) s.ports) same sender.apart

-- the bound of a hop, whose port and class stand at the same place of the path and of the classes
pub hop_bound : (rows : List Row) (stream : DeclaredStream) (hop port class : ℕ) → IsStream stream
    → AllPairs (λ p q. p ≢ q) stream.ports → hop < length stream.ports → port ≡ get_or stream.ports hop 0
    → class ≡ get_or stream.classes hop 0
    → bound_at rows port class ≡ bound_of_hop rows (stream_sender stream) (get_or stream.ports hop 0)
hop_bound rows stream hop port class is apart within port_is class_is =
    ap (λ (p : ℕ). bound_at rows p class) port_is
    ∙ ap (bound_at rows (get_or stream.ports hop 0))
    (class_is ∙ sym (class_along-at stream.ports stream.classes hop apart is.each_port within))

-- what stands at the place of a hop of a leg, where a stream's ports and classes are given under other names
pub record IsLegHop (rows : List Row) (stream : DeclaredStream) (leg hop place : ℕ) (ports classes : List ℕ)
    : Type 0 where
  pub in_ports : place < length ports
  pub in_classes : place < length classes
  pub in_stream : place < length stream.ports
  pub port_is : get_or ports place 0 ≡ get_or stream.ports place 0
  pub bound_is : bound_at rows (get_or ports place 0) (get_or classes place 0)
      ≡ bound_of_hop rows (stream_sender stream)
      (get_or (leg_at (legs_of stream.ports stream.branches) leg) hop 0)

pub leg_hop : (rows : List Row) (stream : DeclaredStream) (leg hop first : ℕ) (ports classes : List ℕ) → IsStream stream
    → AllPairs (λ p q. p ≢ q) stream.ports → leg ≤ length stream.branches
    → hop < length (leg_at (legs_of stream.ports stream.branches) leg) → first ≡ first_from 0 stream.branches leg
    → ports ≡ stream.ports → classes ≡ stream.classes
    → IsLegHop rows stream leg hop (first + hop) ports classes
leg_hop rows stream leg hop first ports classes is apart listed below first_is ports_is classes_are =
    let place : ℕ = first_from 0 stream.branches leg + hop in
    let at : IsPlaced stream.ports (leg_at (legs_of stream.ports stream.branches) leg)
    (first_from 0 stream.branches leg) hop = leg_placed stream.ports stream.branches leg hop is.branches listed below in
    let here : IsLegHop rows stream leg hop place stream.ports stream.classes = record {
      in_ports = at.within;
      in_classes = omega (arith, at.within, is.each_port);
      in_stream = at.within;
      port_is = refl;
      bound_is =
          hop_bound rows stream place (get_or stream.ports place 0) (get_or stream.classes place 0) is apart at.within
          refl refl ∙ ap (bound_of_hop rows (stream_sender stream)) at.is;
    } in
    subst (λ (n : ℕ). IsLegHop rows stream leg hop (n + hop) ports classes) (sym first_is)
    (subst (λ (l : List ℕ). IsLegHop rows stream leg hop place l classes) (sym ports_is)
    (subst (λ (l : List ℕ). IsLegHop rows stream leg hop place stream.ports l) (sym classes_are) here))

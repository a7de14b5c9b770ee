use Rattle.std.proofs.Common.{◌≡◌, ℕ, ◌+◌, ◌<◌, List, [], ◌∷◌, ◌++◌, length, take, get_or, map, sym, ◌∙◌, ap}
use Rattle.std.proofs.Common.{All, arith, append_assoc}
use Rattle.std.specs.List.{flat_map, enumerate_from}
use Rattle.std.proofs.lemmas.List.{flat_map_more, take_more, take_all}
use Rattle.std.proofs.lemmas.List.FromFn.{length-enumerate_from, get_or-enumerate_from}
use Rattle.ats_facts.proofs.Lists.{all_left, all_right, all_unmapped}
use Rattle.ats_topology.specs.Port.{port_at, no_port}
use Rattle.ats_topology.specs.Topology.{DeclaredTopology}
use Rattle.ats_topology.specs.Walks.{ArePorts}
use Rattle.ats_topology.specs.declared.port.Port.{Port}
use Rattle.ats_streams.specs.Stream.{DeclaredStream}
use Rattle.ats_streams.specs.Flow.{DeclaredFlow}
use Rattle.ats_network.specs.Sender.{Sender, stream_sender, flow_sender}
use Rattle.ats_network.specs.Network.{DeclaredNetwork, IsNetwork}
use Rattle.ats_network.specs.Senders.{IsSender}
use Rattle.ats_network.proofs.SenderLemmas.{each_is_sender}
use Rattle.ats_network_text.specs.Text.{port_line}

-- the ports of each stream and each flow of a network are ports of its topology
pub ports_of_streams : (network : DeclaredNetwork) → IsNetwork network
    → All (λ (s : DeclaredStream). ArePorts network.topology.ports s.ports) network.streams
ports_of_streams network is =
    let Is : Sender → Type 0 = IsSender network.topology in
    let streams : List Sender = map stream_sender network.streams in
    let flows : List Sender = map flow_sender network.flows in
    λ k d lt.
    (all_unmapped Is stream_sender network.streams (all_left Is streams flows (each_is_sender network is)) k d lt).ports

pub ports_of_flows : (network : DeclaredNetwork) → IsNetwork network
    → All (λ (f : DeclaredFlow). ArePorts network.topology.ports f.path) network.flows
ports_of_flows network is =
    let Is : Sender → Type 0 = IsSender network.topology in
    let streams : List Sender = map stream_sender network.streams in
    let flows : List Sender = map flow_sender network.flows in
    λ k d lt.
    (all_unmapped Is flow_sender network.flows (all_right Is streams flows (each_is_sender network is)) k d lt).ports

-- the line of the next port
pub next_port : (topology : DeclaredTopology) (n : ℕ) (x before after : List ℕ) → n < length topology.ports
    → before ≡ x ++ flat_map (port_line topology) (take n (enumerate_from 0 topology.ports))
    → after ≡ before ++ port_line topology (n, port_at topology.ports n)
    → after ≡ x ++ flat_map (port_line topology) (take (n + 1) (enumerate_from 0 topology.ports))
next_port topology n x before after within so_far line =
    let numbered : List (ℕ × Port) = enumerate_from 0 topology.ports in
    let inside : n < length numbered = omega (arith, length-enumerate_from 0 topology.ports) in
    let at_n : get_or numbered n (0, no_port) ≡ (n, port_at topology.ports n) =
    get_or-enumerate_from 0 topology.ports n (0, no_port) within
    ∙ ap (λ (k : ℕ). (k, port_at topology.ports n)) (omega arith) in
    let more : take (n + 1) numbered ≡ take n numbered ++ (n, port_at topology.ports n) ∷ [] =
    take_more numbered n (0, no_port) inside ∙ ap (λ (p : ℕ × Port). take n numbered ++ p ∷ []) at_n in
    line ∙ ap (λ (t : List ℕ). t ++ port_line topology (n, port_at topology.ports n)) so_far
    ∙ flat_map_more (port_line topology) x (take n numbered) (n, port_at topology.ports n)
    ∙ sym (ap (λ (ports : List (ℕ × Port)). x ++ flat_map (port_line topology) ports) more)

-- all ports are the first so many
pub all_ports : (topology : DeclaredTopology) (n : ℕ) (x text : List ℕ) → length topology.ports < n + 1
    → text ≡ x ++ flat_map (port_line topology) (take n (enumerate_from 0 topology.ports))
    → text ≡ x ++ flat_map (port_line topology) (enumerate_from 0 topology.ports)
all_ports topology n x text end written =
    written ∙ ap (λ (ports : List (ℕ × Port)). x ++ flat_map (port_line topology) ports)
    (take_all n (enumerate_from 0 topology.ports) (omega (arith, length-enumerate_from 0 topology.ports)))

joined : (x a b c d e f g : List ℕ)
    → (((x ++ (a ++ b)) ++ (c ++ d)) ++ (e ++ f)) ++ g ≡ x ++ (a ++ b ++ c ++ d ++ e ++ f ++ g)
joined x a b c d e f g = simp append_assoc

-- three words with a number each, and an end, written one after another
pub three_written : (x a b c d e f g one two three four : List ℕ) → one ≡ x ++ (a ++ b) → two ≡ one ++ (c ++ d)
    → three ≡ two ++ (e ++ f) → four ≡ three ++ g
    → four ≡ x ++ (a ++ b ++ c ++ d ++ e ++ f ++ g)
three_written x a b c d e f g one two three four p q r s =
    s ∙ ap (λ (z : List ℕ). z ++ g) (r ∙ ap (λ (z : List ℕ). z ++ (e ++ f)) (q ∙ ap (λ (z : List ℕ). z ++ (c ++ d)) p))
    ∙ joined x a b c d e f g

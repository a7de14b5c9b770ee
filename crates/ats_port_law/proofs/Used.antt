use Rattle.std.proofs.Common.{◌≡◌, ℕ, ◌<◌, ◌≤◌, Bool, true, cond, List, [], ◌∷◌, length, length-append, get_or, map}
use Rattle.std.proofs.Common.{filter}
use Rattle.std.proofs.Common.{All, subst, inl, inr, arith}
use Rattle.std.specs.Prelude.{◌==◌}
use Rattle.std.specs.List.{list_any}
use Rattle.std.proofs.lemmas.Bool.{cases_Bool, or_cases, eqb-true, false≢true}
use Rattle.std.proofs.lemmas.List.{length-map}
use Rattle.std.proofs.lemmas.List.Elements.{All-head, All-tail, All-from_get_or}
use Rattle.ats_topology.specs.Topology.{DeclaredTopology}
use Rattle.ats_topology.specs.Walks.{ArePorts}
use Rattle.ats_topology.specs.declared.port.Port.{Port}
use Rattle.ats_streams.specs.Stream.{DeclaredStream}
use Rattle.ats_network.specs.Sender.{Sender, stream_sender, flow_sender}
use Rattle.ats_network.specs.Class.{PortSender, class_at, seen_at}
use Rattle.ats_network.specs.Network.{DeclaredNetwork, IsNetwork, senders_of}
use Rattle.ats_network.proofs.ClassLemmas.{class_at-stream}
use Rattle.ats_network.proofs.SenderLemmas.{sender_keeps}
use Rattle.ats_certificate.specs.PortSums.{uses, is_of, is_used, senders_at}
use Rattle.ats_port_law.proofs.Senders.{no_stream, stream_at}

-- a port that a stream uses is one of the network, and its class there is 1 or more
record Allows (ports port : ℕ) (s : DeclaredStream) : Type 0 where
  class : uses port (stream_sender s) ≡ true → 1 ≤ class_at (stream_sender s) port
  within : uses port (stream_sender s) ≡ true → port < ports

pub record IsPlace (ports port class : ℕ) : Type 0 where
  pub ranked : 1 ≤ class
  pub within : port < ports

-- a port among ports of a topology is one
among_ports : (ports : List Port) (port : ℕ) (numbers : List ℕ) → ArePorts ports numbers
    → list_any (λ p. p == port) numbers ≡ true → port < length ports
among_ports ports port [] are on = absurd (false≢true on)
among_ports ports port (p ∷ numbers) are on =
    elim (or_cases (p == port) (list_any (λ p. p == port) numbers) on) as (λ _. port < length ports) [
      | inl same ↦ omega (arith, eqb-true p port same, All-head (λ q. q < length ports) p numbers are)
      | inr later ↦ among_ports ports port numbers (All-tail (λ q. q < length ports) p numbers are) later
    ]

used_by : (topology : DeclaredTopology) (ports port class : ℕ) (streams : List DeclaredStream)
    → All (Allows ports port) streams
    → list_any (is_of class) (senders_at topology port (map stream_sender streams)) ≡ true → IsPlace ports port class
used_by topology ports port class [] all used = absurd (false≢true used)
used_by topology ports port class (s ∷ ss) all used =
    let first : Allows ports port s = All-head (Allows ports port) s ss all in
    let kept : List Sender = filter (uses port) (map stream_sender ss) in
    let rest : List PortSender = senders_at topology port (map stream_sender ss) in
    let later = used_by topology ports port class ss (All-tail (Allows ports port) s ss all) in
    let Used : Bool → Type 0 =
    λ (b : Bool). list_any (is_of class) (map (seen_at topology port) (cond b (stream_sender s ∷ kept) kept)) ≡ true in
    elim (cases_Bool (uses port (stream_sender s))) as (λ _. IsPlace ports port class) [
      | inl e ↦ elim (or_cases (is_of class (seen_at topology port (stream_sender s))) (list_any (is_of class) rest)
          (subst Used e used)) as (λ _. IsPlace ports port class) [
            | inl same ↦ record {
              ranked = omega (arith, eqb-true (class_at (stream_sender s) port) class same, first.class e);
              within = first.within e;
            }
            | inr other ↦ later other
          ]
      | inr e ↦ later (subst Used e used)
    ]

allowed : (network : DeclaredNetwork) (port i : ℕ) → IsNetwork network → i < length network.streams
    → Allows (length network.topology.ports) port (get_or network.streams i no_stream)
allowed network port i n h =
    let Ports : Sender → Type 0 = λ (s : Sender). ArePorts network.topology.ports s.ports in
    let streams : List Sender = map stream_sender network.streams in
    let exists : i < length (senders_of network) = omega
    (arith, h, length-append streams (map flow_sender network.flows), length-map network.streams stream_sender) in
    let are = subst Ports (stream_at network i h) (sender_keeps network i n exists).ports in
    record {
      class = λ used. (class_at-stream (get_or network.streams i no_stream) port (n.streams i no_stream h) used).least;
      within = λ used. among_ports network.topology.ports port (get_or network.streams i no_stream).ports are used;
    }

pub used_place : (network : DeclaredNetwork) (port class : ℕ) → IsNetwork network → is_used network port class ≡ true
    → IsPlace (length network.topology.ports) port class
used_place network port class n used =
    used_by network.topology (length network.topology.ports) port class network.streams
    (All-from_get_or (Allows (length network.topology.ports) port) network.streams no_stream
    (λ i h. allowed network port i n h)) used

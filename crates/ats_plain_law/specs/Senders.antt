use Rattle.std.specs.Prelude.{◌≡◌, ℕ, List, [], ◌++◌, map, slice_index_or}
use Rattle.ats_streams.specs.Stream.{DeclaredStream}
use Rattle.ats_streams.specs.Flow.{DeclaredFlow}
use Rattle.ats_streams.specs.declared.branch.Branch.{Branch}
use Rattle.ats_network.specs.Network.{DeclaredNetwork, senders_of}
use Rattle.ats_network.specs.Sender.{Sender, flow_sender, stream_sender}
use Rattle.ats_network.specs.Senders.{no_sender, sender_at}

-- a sender with this name, these ports, branches and classes, and these numbers
abbrev pub sender_with : List ℕ → List ℕ → List Branch → List ℕ → ℕ → ℕ → ℕ → ℕ → Sender
sender_with name ports branches classes rate burst least greatest = record {
  name = name;
  ports = ports;
  branches = branches;
  classes = classes;
  rate = rate;
  burst_bits = burst;
  min_octets = least;
  max_octets = greatest;
}

-- a stream sends as it declares, and a flow in class 0 at each of its ports, frames of 64 octets to its greatest size;
-- the streams come first, each at its own place, and the flows behind them
pub record SendersArePlain : Type 0 where
  pub stream : (s : DeclaredStream) → stream_sender s
      ≡ sender_with s.name s.ports s.branches s.classes s.rate s.burst_bits s.min_octets s.max_octets
  pub flow : (f : DeclaredFlow) → flow_sender f
      ≡ sender_with f.name f.path [] (map (λ port. 0) f.path) 0 0 64 f.max_octets
  pub all : (network : DeclaredNetwork) → senders_of network
      ≡ map stream_sender network.streams ++ map flow_sender network.flows
  pub at : (network : DeclaredNetwork) (n : ℕ) → sender_at network n
      ≡ slice_index_or (senders_of network) n no_sender

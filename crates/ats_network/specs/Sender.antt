use Rattle.std.specs.Prelude.{ℕ, List, [], map}
use Rattle.ats_num.specs.declared.wire.TheConstants.{MIN_OCTETS}
use Rattle.ats_streams.specs.Stream.{DeclaredStream}
use Rattle.ats_streams.specs.Flow.{DeclaredFlow}
use Rattle.ats_streams.specs.Traffic.{declared_as}
use Rattle.ats_streams.specs.declared.branch.Branch.{Branch}
use Rattle.ats_streams.specs.declared.traffic.Declared.{Declared}

-- what a network's ports and schedulers know of a declared stream or flow: its name's bytes, the numbers of its ports,
-- those of the trunk first and then those of each branch, its branches, its class at each port, its committed rate in
-- bits per second, its committed burst in bits, and its least and greatest octets
pub record Sender : Type 0 where
  pub name : List ℕ
  pub ports : List ℕ
  pub branches : List Branch
  pub classes : List ℕ
  pub rate : ℕ
  pub burst_bits : ℕ
  pub min_octets : ℕ
  pub max_octets : ℕ

-- a stream as a sender
abbrev pub stream_sender : DeclaredStream → Sender
stream_sender s = record {
  name = s.name;
  ports = s.ports;
  branches = s.branches;
  classes = s.classes;
  rate = s.rate;
  burst_bits = s.burst_bits;
  min_octets = s.min_octets;
  max_octets = s.max_octets;
}

-- a flow as a sender: best effort, so of class 0 at each port of its path, with neither branch, rate nor burst
abbrev pub flow_sender : DeclaredFlow → Sender
flow_sender f = record {
  name = f.name;
  ports = f.path;
  branches = [];
  classes = map (λ port. 0) f.path;
  rate = 0;
  burst_bits = 0;
  min_octets = MIN_OCTETS;
  max_octets = f.max_octets;
}

-- what a sender declares of its rate, burst and sizes
abbrev pub declared_of : Sender → Declared
declared_of s = declared_as s.rate s.burst_bits s.min_octets s.max_octets

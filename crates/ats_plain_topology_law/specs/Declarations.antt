use Rattle.std.specs.Prelude.{◌≡◌, ℕ, List, [], length, replicate, Option}
use Rattle.ats_streams.specs.Flow.{declared_flow}
use Rattle.ats_streams.specs.Stream.{DeclaredStream, branching_stream, declared_stream, with_burst, with_class}
use Rattle.ats_streams.specs.Traffic.{declared_as}
use Rattle.ats_streams.specs.declared.branch.Branch.{Branch}

-- what is declared of a stream or a flow is each number as it is given, in this order; a stream with one listener has
-- no branch
pub record NumbersAreGiven : Type 0 where
  pub traffic : (rate burst_bits min_octets max_octets : ℕ) → declared_as rate burst_bits min_octets max_octets
      ≡ record { rate = rate; burst_bits = burst_bits; min_octets = min_octets; max_octets = max_octets }
  pub flow : (name path : List ℕ) (max_octets : ℕ) → declared_flow name path max_octets
      ≡ record { name = name; path = path; max_octets = max_octets }
  pub stream : (name ports : List ℕ) (branches : List Branch) (classes : List ℕ)
      (rate burst_bits min_octets max_octets deadline_ns : ℕ) (identity : Option (ℕ × ℕ))
      → branching_stream name ports branches classes rate burst_bits min_octets max_octets deadline_ns identity
      ≡ record {
        name = name;
        ports = ports;
        branches = branches;
        classes = classes;
        rate = rate;
        burst_bits = burst_bits;
        min_octets = min_octets;
        max_octets = max_octets;
        deadline_ns = deadline_ns;
        identity = identity;
      }
  pub one_listener : (name path classes : List ℕ) (rate burst_bits min_octets max_octets deadline_ns : ℕ)
      (identity : Option (ℕ × ℕ))
      → declared_stream name path classes rate burst_bits min_octets max_octets deadline_ns identity
      ≡ branching_stream name path [] classes rate burst_bits min_octets max_octets deadline_ns identity

-- with another class a stream has that one at each of its ports, and with another burst that burst; all else that it
-- declares is as it was
pub record ChangesAreGiven : Type 0 where
  pub class : (s : DeclaredStream) (class : ℕ) → with_class s class
      ≡ branching_stream s.name s.ports s.branches (replicate (length s.ports) class) s.rate s.burst_bits s.min_octets
      s.max_octets s.deadline_ns s.identity
  pub burst : (s : DeclaredStream) (burst_bits : ℕ) → with_burst s burst_bits
      ≡ branching_stream s.name s.ports s.branches s.classes s.rate burst_bits s.min_octets s.max_octets s.deadline_ns
      s.identity

pub record DeclarationsAreGiven : Type 0 where
  pub given : NumbersAreGiven
  pub changes : ChangesAreGiven

use Rattle.std.specs.Prelude.{◌≡◌, ℕ, ◌≤◌, ◌<◌, ◌^◌, Bool, ◌||◌, ◌&&◌, ◌==◌, not, nat_lt, if◌then◌else◌}
use Rattle.std.specs.Prelude.{List, [], ◌∷◌, length, replicate, All, Option, Some, None}
use Rattle.std.specs.List.{list_any}
use Rattle.std.specs.Option.{ForSome, option_or}
use Rattle.ats_streams.specs.Rules.{KeepsRules}
use Rattle.ats_streams.specs.Fault.{rules_fault}
use Rattle.ats_streams.specs.Path.{IsPath}
use Rattle.ats_streams.specs.Branches.{AreBranches, is_bad_route, routes_of}
use Rattle.ats_streams.specs.declared.path.TheConstants.{MAX_PORTS}
use Rattle.ats_streams.specs.declared.branch.Branch.{Branch}
use Rattle.ats_streams.specs.declared.fault.StreamFault.{StreamFault}
use Rattle.ats_streams.specs.declared.fault.StreamFault.TheVariants.{BadClass, Limit}
use Rattle.ats_streams.specs.declared.stream.TheConstants.{MAX_CLASS, MAX_DEADLINE_NS, MAX_VLAN}

-- what a stream declares: its name's bytes, the numbers of its ports, those of the trunk first and then those of each
-- branch, its branches, its class at each port, its rate in bits per second, its burst in bits, its least and greatest
-- octets, its deadline in nanoseconds, and the address and VLAN identifier of its frames
pub record DeclaredStream : Type 0 where
  pub name : List ℕ
  pub ports : List ℕ
  pub branches : List Branch
  pub classes : List ℕ
  pub rate : ℕ
  pub burst_bits : ℕ
  pub min_octets : ℕ
  pub max_octets : ℕ
  pub deadline_ns : ℕ
  pub identity : Option (ℕ × ℕ)

-- these as one declaration
abbrev pub branching_stream : List ℕ → List ℕ → List Branch → List ℕ → ℕ → ℕ → ℕ → ℕ → ℕ → Option (ℕ × ℕ)
    → DeclaredStream
branching_stream name ports branches classes rate burst_bits min_octets max_octets deadline_ns identity =
    record {
      name = name;
      ports = ports;
      branches = branches;
      classes = classes;
      rate = rate;
      burst_bits = burst_bits;
      min_octets = min_octets;
      max_octets = max_octets;
      deadline_ns = deadline_ns;
      identity = identity;
    }

-- the declaration of a stream with one listener, whose ports are those of a path
abbrev pub declared_stream : List ℕ → List ℕ → List ℕ → ℕ → ℕ → ℕ → ℕ → ℕ → Option (ℕ × ℕ) → DeclaredStream
declared_stream name path classes rate burst_bits min_octets max_octets deadline_ns identity =
    branching_stream name path [] classes rate burst_bits min_octets max_octets deadline_ns identity

-- a stream's class is 1 to 7
pub record IsClass (class : ℕ) : Type 0 where
  pub least : 1 ≤ class
  pub most : class ≤ MAX_CLASS

-- a deadline is 1 ns to 1 s
pub record IsDeadline (deadline_ns : ℕ) : Type 0 where
  pub positive : 1 ≤ deadline_ns
  pub most : deadline_ns ≤ MAX_DEADLINE_NS

-- an address of 48 bits and a VLAN identifier of 1 to 4094
pub record IsIdentity (address vlan : ℕ) : Type 0 where
  pub within : address < 2 ^ 48
  pub least : 1 ≤ vlan
  pub most : vlan ≤ MAX_VLAN

-- where an identity is given, it is one
abbrev pub MayIdentify : Option (ℕ × ℕ) → Type 0
MayIdentify identity = ForSome identity (λ pair. IsIdentity pair.0 pair.1)

-- the classes of a stream at so many ports, of those that are given: one stands for each port
abbrev pub classes_for : ℕ → List ℕ → List ℕ
classes_for ports (class ∷ []) = replicate ports class
classes_for ports given = given

-- the stream with this class at each of its ports
abbrev pub with_class : DeclaredStream → ℕ → DeclaredStream
with_class stream class = record stream { classes = replicate (length stream.ports) class }

-- the stream with this committed burst, in bits
abbrev pub with_burst : DeclaredStream → ℕ → DeclaredStream
with_burst stream burst_bits = record stream { burst_bits = burst_bits }

-- what each stream keeps
pub record IsStream (stream : DeclaredStream) : Type 0 where
  pub classes : All IsClass stream.classes
  pub each_port : length stream.classes ≡ length stream.ports
  pub rules : KeepsRules stream.rate stream.burst_bits stream.min_octets stream.max_octets
  pub branches : AreBranches stream.ports stream.branches
  pub routes : All IsPath (routes_of stream.ports stream.branches)
  pub deadline : IsDeadline stream.deadline_ns
  pub identity : MayIdentify stream.identity

-- the limits on routes and a deadline: 1 to 64 ports each, 1 ns to 1 s
abbrev pub limit_fault : List (List ℕ) → ℕ → Option StreamFault
limit_fault routes deadline_ns =
    if list_any (is_bad_route MAX_PORTS) routes then Some Limit
    else if nat_lt deadline_ns 1 || nat_lt MAX_DEADLINE_NS deadline_ns then Some Limit
    else None

-- no stream has this class
abbrev pub is_bad_class : ℕ → Bool
is_bad_class class = nat_lt class 1 || nat_lt MAX_CLASS class

-- these are no classes for so many ports: one is bad, or they are neither one nor as many as the ports
abbrev pub are_bad_classes : ℕ → List ℕ → Bool
are_bad_classes ports given =
    list_any is_bad_class given || (not (length given == 1) && not (length given == ports))

-- the first rule that a stream for which these classes are given breaks, if it breaks one: the classes, then rate,
-- sizes and burst, then the limits
abbrev pub stream_fault : List ℕ → DeclaredStream → Option StreamFault
stream_fault given stream =
    if are_bad_classes (length stream.ports) given then Some BadClass
    else option_or (rules_fault stream.rate stream.burst_bits stream.min_octets stream.max_octets)
    (limit_fault (routes_of stream.ports stream.branches) stream.deadline_ns)

-- the limit on routes, where each may have so many ports
abbrev pub route_fault : ℕ → List (List ℕ) → Option StreamFault
route_fault most routes = if list_any (is_bad_route most) routes then Some Limit else None

-- the first rule that a stream breaks whose routes may have so many ports: those of each stream, then this limit
abbrev pub stream_fault_within : ℕ → List ℕ → DeclaredStream → Option StreamFault
stream_fault_within most given stream =
    option_or (stream_fault given stream) (route_fault most (routes_of stream.ports stream.branches))

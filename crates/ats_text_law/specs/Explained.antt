use Rattle.std.specs.Prelude.{◌≡◌, ℕ, IsTrue, List, map, All, Option, Some, None, slice_get}
use Rattle.ats_num.specs.Name.{is_name}
use Rattle.ats_streams.specs.Stream.{DeclaredStream}
use Rattle.ats_network.specs.Class.{class_at}
use Rattle.ats_network.specs.Network.{DeclaredNetwork}
use Rattle.ats_network.specs.Sender.{stream_sender}
use Rattle.ats_network.specs.Listeners.{Listener, listeners_of}
use Rattle.ats_explain.specs.Margins.{margin_on}
use Rattle.ats_explain.specs.Parts.{parts_of_hop}
use Rattle.ats_explain.specs.declared.parts.Parts.{Parts}
use Rattle.ats_explain.specs.declared.parts.Stay.{Stay}
use Rattle.ats_explain_text.specs.Text.{explain_text, sender_text}
use Rattle.ats_text_law.specs.Short.{IsShort}

-- a stay's two times have at most 64 digits, where there is one
abbrev pub IsShortStay : Option Stay → Type 0
IsShortStay None = Unit {0}
IsShortStay (Some stay) = IsShort stay.need × IsShort stay.residence

-- a sender that is named has a name
abbrev pub IsNamed : Option (List ℕ) → Type 0
IsNamed None = Unit {0}
IsNamed (Some name) = IsTrue (is_name name)

-- each number of the parts of a bound has at most 64 digits
pub record HasShortParts (parts : Parts) : Type 0 where
  pub lower : IsShort parts.lower
  pub sender : IsNamed parts.sender
  pub bursts : IsShort parts.bursts
  pub higher : IsShort parts.higher
  pub frame : IsShort parts.frame
  pub latency : IsShort parts.latency
  pub bound : IsShort parts.bound
  pub stay : IsShortStay parts.stay

-- a stream's class at a port
abbrev pub class_of : DeclaredStream → ℕ → ℕ
class_of stream port = class_at (stream_sender stream) port

-- what is explained of a hop of a stream has numbers that a text can hold
pub record IsShortHop (network : DeclaredNetwork) (stream : DeclaredStream) (port : ℕ) : Type 0 where
  pub class : IsShort (class_of stream port)
  pub parts : HasShortParts (parts_of_hop network stream port)

-- and what is explained of a listener of a stream
pub record HasShortLeg (network : DeclaredNetwork) (stream : DeclaredStream) (listener : Listener) : Type 0 where
  pub sum : IsShort (margin_on network stream listener.route).sum
  pub deadline : IsShort (margin_on network stream listener.route).deadline
  pub hops : All (IsShortHop network stream) listener.leg

-- and of a stream
abbrev pub IsExplainable : DeclaredNetwork → DeclaredStream → Type 0
IsExplainable network stream = All (HasShortLeg network stream) (listeners_of network.topology stream)

-- the parts of two bounds are the same; of the sender of the longest lower frame, how it is written
pub record PartsTheSame (parts others : Parts) : Type 0 where
  pub lower : parts.lower ≡ others.lower
  pub sender : sender_text parts.sender ≡ sender_text others.sender
  pub bursts : parts.bursts ≡ others.bursts
  pub higher : parts.higher ≡ others.higher
  pub frame : parts.frame ≡ others.frame
  pub latency : parts.latency ≡ others.latency
  pub bound : parts.bound ≡ others.bound
  pub stay : parts.stay ≡ others.stay

-- at a port, two streams have one class, and their bounds there the same parts
pub record HopTheSame (network other : DeclaredNetwork) (stream twin : DeclaredStream) (port : ℕ) : Type 0 where
  pub class : class_of stream port ≡ class_of twin port
  pub parts : PartsTheSame (parts_of_hop network stream port) (parts_of_hop other twin port)

-- two streams, each of a network of its own, have for a listener the same sum and deadline, and at each of the ports
-- of its leg the same parts
pub record LegTheSame (network other : DeclaredNetwork) (stream twin : DeclaredStream) (listener : Listener)
    : Type 0 where
  pub margin : margin_on network stream listener.route ≡ margin_on other twin listener.route
  pub hops : All (HopTheSame network other stream twin) listener.leg

-- so for each listener
abbrev pub ExplainedTheSame : DeclaredNetwork → DeclaredNetwork → DeclaredStream → DeclaredStream → Type 0
ExplainedTheSame network other stream twin =
    All (LegTheSame network other stream twin) (listeners_of network.topology stream)

-- two networks are over one topology, and their streams have the same names, ports and branches, in the same order
pub record AreAlike (network other : DeclaredNetwork) : Type 0 where
  pub topology : network.topology ≡ other.topology
  pub names : map (λ (s : DeclaredStream). s.name) network.streams ≡ map (λ (s : DeclaredStream). s.name) other.streams
  pub paths : map (λ (s : DeclaredStream). s.ports) network.streams
      ≡ map (λ (s : DeclaredStream). s.ports) other.streams
  pub branches : map (λ (s : DeclaredStream). s.branches) network.streams
      ≡ map (λ (s : DeclaredStream). s.branches) other.streams

-- what is printed of two such networks is the same only where each stream's margin and each part of each hop are
abbrev pub ExplainTellsAll : Type 0
ExplainTellsAll = (network other : DeclaredNetwork) → AreAlike network other
    → All (IsExplainable network) network.streams → All (IsExplainable other) other.streams
    → explain_text network ≡ explain_text other
    → (i : ℕ) (stream twin : DeclaredStream) → slice_get network.streams i ≡ Some stream
    → slice_get other.streams i ≡ Some twin → ExplainedTheSame network other stream twin

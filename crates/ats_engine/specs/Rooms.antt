use Rattle.std.specs.Prelude.{◌≡◌, ℕ, ◌+◌, ◌*◌, ◌<◌, ◌≤◌, ◌^◌, ◌==◌, ◌&&◌, Bool, cond, List, [], ◌∷◌, length}
use Rattle.std.specs.Prelude.{slice_index, slice_index_or, count_by}
use Rattle.std.specs.List.{list_any}
use Rattle.ats_topology.specs.Port.{port_at}
use Rattle.ats_network.specs.Network.{DeclaredNetwork}
use Rattle.ats_network.specs.Sender.{Sender}
use Rattle.ats_network.specs.Senders.{sender_at}
use Rattle.ats_network.specs.Class.{class_at}
use Rattle.ats_trace.specs.declared.journey.Release.{Release}
use Rattle.ats_transmit.specs.State.{PortState, opened}

-- the port is one of these, and the sender has this class there
abbrev pub goes_over : List ℕ → ℕ → ℕ → Sender → Bool
goes_over ports port class sender = list_any (λ p. p == port) ports && class_at sender port == class

-- the port is one of those of a sender, which has this class there
abbrev pub goes_through : ℕ → ℕ → Sender → Bool
goes_through port class sender = goes_over sender.ports port class sender

-- how many of these releases are of frames that pass the port in this class
abbrev pub count_at : DeclaredNetwork → List Release → ℕ → ℕ → ℕ
count_at network releases port class =
    count_by (λ (r : Release). goes_through port class (sender_at network r.sender)) releases

-- the count of a class at a port, in a list with eight for each port
abbrev pub count_in : List ℕ → ℕ → ℕ → ℕ
count_in counts port class = slice_index counts (8 * port + class)

-- so they are counted, for all ports and classes
pub record AreCounts (network : DeclaredNetwork) (releases : List Release) (counts : List ℕ) : Type 0 where
  pub all : length counts ≡ 8 * length network.topology.ports
  pub each : (port class : ℕ) → port < length network.topology.ports → class ≤ 7
      → count_in counts port class ≡ count_at network releases port class

-- each count can be one more
pub record AreBelow (network : DeclaredNetwork) (counts : List ℕ) : Type 0 where
  pub all : length counts ≡ 8 * length network.topology.ports
  pub each : (port class : ℕ) → port < length network.topology.ports → class ≤ 7
      → count_in counts port class + 1 < 2 ^ 32

-- a sender's frame is counted at each of these ports, in its class there
pub record CountsOver (network : DeclaredNetwork) (sender : ℕ) (ports old new : List ℕ) : Type 0 where
  pub all : length new ≡ length old
  pub each : (port class : ℕ) → port < length network.topology.ports → class ≤ 7
      → count_in new port class
      ≡ count_in old port class + cond (goes_over ports port class (sender_at network sender)) 1 0

-- and so at each of its ports
abbrev pub Counts : DeclaredNetwork → ℕ → List ℕ → List ℕ → Type 0
Counts network sender old new = CountsOver network sender (sender_at network sender).ports old new

-- the counts of one port, by class
abbrev pub rooms_at : List ℕ → ℕ → List ℕ
rooms_at counts port =
    count_in counts port 0
    ∷ count_in counts port 1
    ∷ count_in counts port 2
    ∷ count_in counts port 3
    ∷ count_in counts port 4
    ∷ count_in counts port 5
    ∷ count_in counts port 6
    ∷ count_in counts port 7
    ∷ []

-- a port that was just opened, with room for the frames that pass it
pub record IsOpenedPort {T : Type 0} (network : DeclaredNetwork) (releases : List Release) (tie : T) (port : ℕ)
    (standing : PortState T) : Type 0 where
  pub rooms : List ℕ
  pub fresh : standing ≡ opened (port_at network.topology.ports port).ps_per_bit rooms tie
  pub each : (class : ℕ) → class ≤ 7 → slice_index rooms class ≡ count_at network releases port class

-- the first so many ports of a network, each so
pub record AreOpenedTo {T : Type 0} (network : DeclaredNetwork) (releases : List Release) (tie : T) (count : ℕ)
    (ports : List (PortState T)) : Type 0 where
  pub all : length ports ≡ count
  pub each : (port : ℕ) → port < count
      → (d : PortState T) → IsOpenedPort network releases tie port (slice_index_or ports port d)

-- all of them
abbrev pub AreOpened : {T : Type 0} → DeclaredNetwork → List Release → T → List (PortState T) → Type 0
AreOpened network releases tie ports = AreOpenedTo network releases tie (length network.topology.ports) ports

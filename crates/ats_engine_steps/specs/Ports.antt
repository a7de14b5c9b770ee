use Rattle.std.specs.Prelude.{◌≡◌, ◌≢◌, ℕ, ◌<◌, ◌≤◌, ◌==◌, ◌&&◌, Bool, false, List, [], length, map}
use Rattle.std.specs.Prelude.{◌++◌, take, slice_index, slice_index_or, count_by, All, AllPairs, Contains, IsPermutation}
use Rattle.std.specs.List.{list_any}
use Rattle.ats_topology.specs.Port.{port_at}
use Rattle.ats_network.specs.Network.{DeclaredNetwork}
use Rattle.ats_network.specs.Class.{class_at}
use Rattle.ats_transmit.specs.Sending.{last_start, transmissions}
use Rattle.ats_transmit.specs.State.{PortState, opened, IsLawfulPort}
use Rattle.ats_transmit.specs.Picks.{IsFirstStart}
use Rattle.ats_transmit.specs.declared.offer.Offer.{Offer}
use Rattle.ats_transmit.specs.declared.sent.Sent.{Sent}
use Rattle.ats_events.specs.declared.phase.TheConstants.{SELECTION}
use Rattle.ats_run_records.specs.Progress.{Progress}
use Rattle.ats_engine_steps.specs.Course.{Course, sent_so_far, stage_at, turn_at, place_at, offer_at, sender_of}
use Rattle.ats_engine_steps.specs.declared.stage.Stage.TheVariants.{Waiting}
use Rattle.ats_engine_steps.specs.declared.turn.Turn.{Turn}
use Rattle.ats_engine_steps.specs.declared.turn.Turn.TheVariants.{Resting, Selecting}

-- the standing of a port; for numbers past the last port, that of an empty one
abbrev pub port_state_at : {T : Type 0} → Course T → ℕ → PortState T
port_state_at course port = slice_index_or course.ports port (opened 0 [] course.tie)

-- the port is one of those of a frame's sender, which has this class there
abbrev pub passes : DeclaredNetwork → ℕ → ℕ → Progress → Bool
passes network port class progress =
    list_any (λ p. p == port) (sender_of network progress).ports && class_at (sender_of network progress) port == class

-- how many frames of a class a port may be offered: all of those that pass it
abbrev pub room_of : {T : Type 0} → DeclaredNetwork → Course T → ℕ → ℕ → ℕ
room_of network course port class =
    count_by (passes network port class) (take (length course.firsts) course.records)

-- a port does next what its turn says: nothing where it holds no frame, and else it selects when it can first start one
abbrev pub IsTurn : {T : Type 0} → PortState T → Turn → Type 0
IsTurn standing Resting = standing.held ≡ []
IsTurn standing (Selecting at) = IsFirstStart standing.held standing.sent at.0

-- a frame waits at a port of one of its legs, to which it was offered so
pub record IsHeld {T : Type 0} (network : DeclaredNetwork) (course : Course T) (port : ℕ) (offer : Offer)
    : Type 0 where
  pub row : ℕ
  pub within : row < length course.records
  pub stage : stage_at course row ≡ Waiting
  pub place : place_at network course row ≡ port
  pub same : offer_at network course row ≡ offer

-- the numbers of all frames that a port was offered
abbrev pub frames_at : {T : Type 0} → PortState T → List ℕ
frames_at standing =
    map (λ (o : Offer). o.frame) standing.held ++ map (λ (x : Sent). x.frame) standing.sent

-- a port is that of the network
pub record IsOfNetwork {T : Type 0} (network : DeclaredNetwork) (course : Course T) (port : ℕ) (standing : PortState T)
    : Type 0 where
  pub ps_per_bit : standing.ps_per_bit ≡ (port_at network.topology.ports port).ps_per_bit
  pub tie : standing.tie ≡ course.tie
  pub rooms : (class : ℕ) → class ≤ 7 → slice_index standing.rooms class ≡ room_of network course port class

-- it is lawful, and its transmissions are those of the run so far
pub record HasSentSoFar {T : Type 0} (key : T → ℕ → ℕ → ℕ) (network : DeclaredNetwork) (course : Course T) (port : ℕ)
    (standing : PortState T) : Type 0 where
  pub lawful : IsLawfulPort key standing
  pub sent : IsPermutation (transmissions standing.sent) (sent_so_far network course port)

-- a port holds the frames that wait there, each once
pub record HoldsWaiting {T : Type 0} (network : DeclaredNetwork) (course : Course T) (port : ℕ) (standing : PortState T)
    : Type 0 where
  pub held : All (IsHeld network course port) standing.held
  pub waiting : (row : ℕ) → row < length course.records → stage_at course row ≡ Waiting
      → place_at network course row ≡ port → Contains standing.held (offer_at network course row)
  pub apart : AllPairs (λ (x y : ℕ). x ≢ y) (frames_at standing)

-- a port's last start is no later than the last event, and where it is at that time, that was a selection or later;
-- each frame that it holds was eligible by then
pub record IsInStep {T : Type 0} (course : Course T) (standing : PortState T) : Type 0 where
  pub started : 0 < length standing.sent → last_start standing.sent ≤ course.last.at.0
  pub selected : 0 < length standing.sent → last_start standing.sent ≡ course.last.at.0 → SELECTION ≤ course.last.phase
  pub eligible : All (λ (o : Offer). o.eligible.0 ≤ course.last.at.0) standing.held

-- what a port that has these frames has to do with the run; it does next what its turn says, and no transmission of it
-- has still to be finished
pub record IsPortOf {T : Type 0} (key : T → ℕ → ℕ → ℕ) (network : DeclaredNetwork) (course : Course T) (port : ℕ)
    (standing : PortState T) : Type 0 where
  pub of_network : IsOfNetwork network course port standing
  pub past : HasSentSoFar key network course port standing
  pub holding : HoldsWaiting network course port standing
  pub turn : IsTurn standing (turn_at course port)
  pub free : standing.is_sending ≡ false
  pub times : IsInStep course standing

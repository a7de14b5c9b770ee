use Rattle.std.specs.Prelude.{◌≡◌, ℕ, suc, ◌+◌, ◌<◌, ◌≤◌, Bool, List, [], ◌∷◌, ◌++◌, length, map}
use Rattle.std.specs.Prelude.{slice_index_or, slice_set, All, Any, Option, MatchOption}
use Rattle.std.specs.List.{flat_map}
use Rattle.ats_num.specs.Wire.{IsFrameSize}
use Rattle.ats_num.specs.declared.time.Ps.{Ps}
use Rattle.ats_queue.specs.declared.queued.Queued.{Queued}
use Rattle.ats_queue.specs.Contents.{Contents}
use Rattle.ats_queue.specs.Order.{Takes, IsNextTime}
use Rattle.ats_transmit.specs.declared.offer.Offer.{Offer}
use Rattle.ats_transmit.specs.declared.sent.Sent.{Sent}
use Rattle.ats_transmit.specs.State.{PortState, IsLawfulPort}

-- an offered frame, as the queue of its class holds it
abbrev pub queued_as : Offer → Queued
queued_as o = record { frame = o.frame; sender = o.sender; eligible = o.eligible; octets = o.octets }

-- a frame in the queue of this class, as it was offered
abbrev pub offer_in : ℕ → Queued → Offer
offer_in class q =
    record { frame = q.frame; sender = q.sender; class = class; eligible = q.eligible; octets = q.octets }

-- the frames in these queues, the first of which is of this class, as they were offered
abbrev pub held_from : {T : Type 0} → ℕ → List (Contents T) → List Offer
held_from class [] = []
held_from class (c ∷ queues) = map (offer_in class) c.held ++ held_from (suc class) queues

abbrev pub held_of : {T : Type 0} → List (Contents T) → List Offer
held_of queues = held_from 0 queues

-- the frames in all queues, from class 0 on
abbrev pub queued_of : {T : Type 0} → List (Contents T) → List Queued
queued_of {T} queues = flat_map (λ (c : Contents T). c.held) queues

-- a fact of each frame in each queue, by its class
abbrev pub EachQueued : {T : Type 0} → (ℕ → Queued → Type 0) → List (Contents T) → Type 0
EachQueued {T} P queues =
    (class : ℕ) (d : Contents T) → class < length queues → All (P class) (slice_index_or queues class d).held

-- the state of the port that these fields make
abbrev pub port_state : {T : Type 0} → ℕ → List ℕ → T → List (Contents T) → List Sent → Bool → PortState T
port_state ps_per_bit rooms tie queues sent is_sending =
    record {
      ps_per_bit = ps_per_bit;
      rooms = rooms;
      tie = tie;
      held = held_of queues;
      sent = sent;
      is_sending = is_sending;
    }

-- what a port keeps: the queues with what is held
pub record IsKept {T : Type 0} (key : T → ℕ → ℕ → ℕ) (s : PortState T) (queues : List (Contents T)) : Type 0 where
  pub classes : length s.rooms ≡ 8
  pub capacities : map (λ (c : Contents T). c.capacity) queues ≡ s.rooms
  pub ties : All (λ (c : Contents T). c.tie ≡ s.tie) queues
  pub sizes : All (λ (o : Offer). IsFrameSize o.octets) s.held
  pub lawful : IsLawfulPort key s

-- the least eligibility time in these queues, where they hold any frame
abbrev pub NextTimeIn : List Queued → Option Ps → Type 0
NextTimeIn held next = MatchOption next (held ≡ []) (λ (time : Ps). IsNextTime held time.0)

-- no frame of the classes from this one on is eligible
abbrev pub NoneFrom : {T : Type 0} → ℕ → ℕ → List (Contents T) → Type 0
NoneFrom {T} now from queues =
    (class : ℕ) (d : Contents T) → from ≤ class → class < length queues
    → All (λ (q : Queued). now < q.eligible.0) (slice_index_or queues class d).held

-- the highest class in which a frame is eligible
pub record IsHighest {T : Type 0} (now : ℕ) (queues : List (Contents T)) (class : ℕ) : Type 0 where
  pub within : class < length queues
  pub eligible : (d : Contents T) → Any (λ (q : Queued). q.eligible.0 ≤ now) (slice_index_or queues class d).held
  pub above : NoneFrom now (class + 1) queues

-- a frame is taken out of the queue of one class
pub record TakesFrom {T : Type 0} (key : T → ℕ → ℕ → ℕ) (now class : ℕ) (old new : List (Contents T)) (started : Offer)
    : Type 0 where
  pub before : Contents T
  pub stood : before ≡ slice_index_or old class before
  pub after : List Queued
  pub changed : new ≡ slice_set old class (record before { held = after })
  pub named : started.class ≡ class
  pub takes : Takes (key before.tie) now before.held after (queued_as started)

-- so many queues as there are rooms, all of them empty
pub record AreEmpty {T : Type 0} (queues : List (Contents T)) (rooms : List ℕ) (tie : T) : Type 0 where
  pub capacities : map (λ (c : Contents T). c.capacity) queues ≡ rooms
  pub ties : All (λ (c : Contents T). c.tie ≡ tie) queues
  pub empty : queued_of queues ≡ []

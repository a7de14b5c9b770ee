use Rattle.std.specs.Prelude.{◌≡◌, ◌≢◌, ℕ, zero, suc, ◌<◌, List, [], ◌∷◌, length, slice_index_or, slice_set, All}
use Rattle.std.specs.Prelude.{IsPermutation}
use Rattle.ats_queue.specs.declared.queued.Queued.{Queued}
use Rattle.ats_queue.specs.Contents.{Contents}
use Rattle.ats_transmit.specs.declared.offer.Offer.{Offer}
use Rattle.ats_transmit.specs.declared.front.Front.{Front}
use Rattle.ats_transmit.specs.declared.front.Front.TheVariants.{Nothing, Alone, Queued as InQueues}
use Rattle.ats_transmit.specs.PortQueues.{queued_as, queued_of, IsHighest, TakesFrom}

-- queues of which the one of this class holds one frame more
abbrev pub with_queued : {T : Type 0} → ℕ → Queued → List (Contents T) → List (Contents T)
with_queued class q [] = []
with_queued zero q (c ∷ queues) = record c { held = q ∷ c.held } ∷ queues
with_queued (suc class) q (c ∷ queues) = c ∷ with_queued class q queues

-- the queues with the frame that waits alone, where one does
abbrev pub seen : {T : Type 0} → Front → List (Contents T) → List (Contents T)
seen Nothing queues = queues
seen (Alone offer) queues = with_queued offer.class (queued_as offer) queues
seen InQueues queues = queues

-- the queue of a class holds fewer frames than it may
abbrev pub HasRoom : {T : Type 0} → List (Contents T) → ℕ → Type 0
HasRoom {T} queues class =
    (d : Contents T) → length (slice_index_or queues class d).held < (slice_index_or queues class d).capacity

-- the queue of its class does not hold this frame
abbrev pub IsNew : {T : Type 0} → List (Contents T) → Offer → Type 0
IsNew {T} queues offer =
    (d : Contents T) → All (λ (q : Queued). q.frame ≢ offer.frame) (slice_index_or queues offer.class d).held

-- a frame waits alone: all queues are empty, and that of its class has room
pub record IsAlone {T : Type 0} (queues : List (Contents T)) (class : ℕ) : Type 0 where
  pub empty : queued_of queues ≡ []
  pub within : class < length queues
  pub room : HasRoom queues class

-- the front tells the truth
abbrev pub IsFront : {T : Type 0} → Front → List (Contents T) → Type 0
IsFront Nothing queues = queued_of queues ≡ []
IsFront (Alone offer) queues = IsAlone queues offer.class
IsFront InQueues queues = Unit {0}

-- a frame is put into the queue of its class
pub record Holds {T : Type 0} (old new : List (Contents T)) (offer : Offer) : Type 0 where
  pub before : Contents T
  pub stood : before ≡ slice_index_or old offer.class before
  pub after : List Queued
  pub more : IsPermutation (queued_as offer ∷ before.held) after
  pub changed : new ≡ slice_set old offer.class (record before { held = after })

-- this frame is of the highest class in which one is eligible, and is taken out of the queue of its class
pub record Finds {T : Type 0} (key : T → ℕ → ℕ → ℕ) (now : ℕ) (old new : List (Contents T)) (offer : Offer)
    : Type 0 where
  pub high : IsHighest now old offer.class
  pub takes : TakesFrom key now offer.class old new offer

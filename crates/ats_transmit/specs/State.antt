use Rattle.std.specs.Prelude.{ℕ, ◌+◌, ◌==◌, Bool, false, List, [], count_by}
use Rattle.ats_transmit.specs.declared.offer.Offer.{Offer}
use Rattle.ats_transmit.specs.declared.sent.Sent.{Sent}
use Rattle.ats_transmit.specs.Sending.{IsLawful}

-- the state of a port: its picoseconds per bit, how many frames of each class it may be offered, its tie, the frames
-- that it holds, in an order that means nothing, its transmissions in order, and whether the last one has still to be
-- finished
pub record PortState (T : Type 0) : Type 0 where
  pub ps_per_bit : ℕ
  pub rooms : List ℕ
  pub tie : T
  pub held : List Offer
  pub sent : List Sent
  pub is_sending : Bool

-- the state of a port at first
abbrev pub opened : {T : Type 0} → ℕ → List ℕ → T → PortState T
opened ps_per_bit rooms tie =
    record { ps_per_bit = ps_per_bit; rooms = rooms; tie = tie; held = []; sent = []; is_sending = false }

-- how many frames of a class were offered so far
abbrev pub offered_of : {T : Type 0} → PortState T → ℕ → ℕ
offered_of s class =
    count_by (λ (o : Offer). o.class == class) s.held + count_by (λ (x : Sent). x.class == class) s.sent

-- what a port has sent keeps the port rule and the order of its tie, and each frame that it holds fits after all of it
abbrev pub IsLawfulPort : {T : Type 0} → (T → ℕ → ℕ → ℕ) → PortState T → Type 0
IsLawfulPort key s = IsLawful (key s.tie) s.ps_per_bit s.held s.sent

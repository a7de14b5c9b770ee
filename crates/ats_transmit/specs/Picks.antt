use Rattle.std.specs.Prelude.{◌≡◌, ℕ, ◌+◌, ◌*◌, ◌<◌, ◌≤◌, true, false, List, [], ◌∷◌, ◌++◌, All, Any, IsPermutation}
use Rattle.ats_num.specs.Wire.{bits_of}
use Rattle.ats_port_rule.specs.Order.{Precedes}
use Rattle.ats_transmit.specs.declared.offer.Offer.{Offer}
use Rattle.ats_transmit.specs.declared.sent.Sent.{Sent}
use Rattle.ats_transmit.specs.declared.pick.Pick.{Pick}
use Rattle.ats_transmit.specs.declared.pick.Pick.TheVariants.{Start, Busy, Idle}
use Rattle.ats_transmit.specs.Sending.{begun, sent_at, last_end}
use Rattle.ats_transmit.specs.State.{PortState}

-- the port can start a frame at this time: it is free, and some frame that it holds is eligible
pub record MaySend (held : List Offer) (sent : List Sent) (time : ℕ) : Type 0 where
  pub free : last_end sent ≤ time
  pub eligible : Any (λ (o : Offer). o.eligible.0 ≤ time) held

-- the first time at which it can
pub record IsFirstStart (held : List Offer) (sent : List Sent) (time : ℕ) : Type 0 where
  pub reached : MaySend held sent time
  pub first : (earlier : ℕ) → MaySend held sent earlier → time ≤ earlier

-- a frame that is eligible now is preceded by the one that starts
abbrev pub IsBehind : (ℕ → ℕ → ℕ) → ℕ → ℕ → Offer → Offer → Type 0
IsBehind key ps_per_bit now started o =
    o.eligible.0 ≤ now → Precedes key (begun ps_per_bit started now) (begun ps_per_bit o now)

-- one of the held frames is sent from now on: it is eligible, and precedes all others that are
pub record Starts {T : Type 0} (key : ℕ → ℕ → ℕ) (old new : PortState T) (now frame end : ℕ) : Type 0 where
  pub started : Offer
  pub named : started.frame ≡ frame
  pub ends : end ≡ now + old.ps_per_bit * bits_of started.octets
  pub held : IsPermutation old.held (started ∷ new.held)
  pub eligible : started.eligible.0 ≤ now
  pub first : All (IsBehind key old.ps_per_bit now started) new.held
  pub sent : new.sent ≡ old.sent ++ sent_at old.ps_per_bit started now ∷ []
  pub rest : new ≡ record old { held = new.held; sent = new.sent; is_sending = true }

-- what a port picks at this time, and its state then
abbrev pub IsPick : {T : Type 0} → (ℕ → ℕ → ℕ) → PortState T → PortState T → ℕ → Pick → Type 0
IsPick key old new now (Start frame end) = (old.is_sending ≡ false) × Starts key old new now frame end.0
IsPick key old new now (Busy end) = (old.is_sending ≡ true) × (end.0 ≡ last_end old.sent) × (new ≡ old)
IsPick key old new now Idle =
    (old.is_sending ≡ false) × All (λ (o : Offer). now < o.eligible.0) old.held × (new ≡ old)

use Rattle.std.specs.Prelude.{◌≡◌, ℕ, ◌-◌, ◌≤◌, List, Contains}
use Rattle.ats_num.specs.declared.time.Ps.{Ps}
use Rattle.ats_trace.specs.Journey.{Travel}
use Rattle.ats_trace.specs.Stored.{leg_in}
use Rattle.ats_trace.specs.declared.journey.Ending.TheVariants.{Sink}

-- a frame of a sender reached the listener with this number, that of the leg which leads there, and took so long from
-- its release
pub record ArrivedAfter (run : List Travel) (sender listener took : ℕ) (journey : Travel) : Type 0 where
  pub there : Contains run journey
  pub sent : journey.release.sender ≡ sender
  pub at : Ps
  pub arrived : (leg_in journey listener).ending ≡ Sink at
  pub after : took ≡ at.0 - journey.release.at.0

-- none of a sender's frames reached the listener
abbrev pub NoneArrived : List Travel → ℕ → ℕ → Type 0
NoneArrived run sender listener = (took : ℕ) (journey : Travel) → ¬ ArrivedAfter run sender listener took journey

-- the greatest delay of a sender for a listener in a run: of its frames that reached it one took as long, and none
-- longer
pub record IsGreatestDelay (run : List Travel) (sender listener delay : ℕ) : Type 0 where
  pub journey : Travel
  pub one : ArrivedAfter run sender listener delay journey
  pub none_longer : (took : ℕ) (other : Travel) → ArrivedAfter run sender listener took other → took ≤ delay

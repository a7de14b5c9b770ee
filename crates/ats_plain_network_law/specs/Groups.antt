use Rattle.std.specs.Prelude.{◌≡◌, ◌↔◌, ◌⊎◌, ℕ, ◌*◌, ◌==◌, ℤ, pos, neg_ℤ, ◌≤ℤ◌, List, if◌then◌else◌}
use Rattle.ats_num.specs.Wire.{bits_of}
use Rattle.ats_num.specs.declared.time.Ps.{Ps}
use Rattle.ats_bucket.specs.Conforming.{Conforms, Frame}
use Rattle.ats_bucket.specs.Integers.{nonnegative}
use Rattle.ats_bucket.specs.Scheduler.{empty_after}
use Rattle.ats_streams.specs.declared.traffic.Declared.{Declared}
use Rattle.ats_group.specs.Group.{Offer, State, after, first}
use Rattle.ats_group.specs.Judge.{Judge, bucket_rule}
use Rattle.ats_group.specs.declared.verdict.Verdict.{Verdict}
use Rattle.ats_group.specs.declared.verdict.Verdict.TheVariants.{Eligible, Late, Size}

-- a number below 0 counts as 0, and each other one as itself; and the talker of a stream keeps the token
-- bucket of the rate and the burst that it declares
pub record BucketsAreKnown : Type 0 where
  pub counted : (z : ℤ) (n : ℕ) → (nonnegative z ≡ n) ↔ ((z ≡ pos n) ⊎ ((z ≤ℤ pos 0) × (n ≡ 0)))
  pub rule : (declared : Declared) (frames : List Frame) → bucket_rule declared frames
      ↔ Conforms declared.rate declared.burst_bits frames

-- a group begins at time 0 with each member's bucket full; an accepted frame moves the group's time to its own
-- eligibility time and takes its bits from its member's bucket alone, and a discarded one changes nothing
pub record StatesAreKnown : Type 0 where
  pub begins : (declared : ℕ → Declared) → first declared ≡ record {
    time = 0;
    empty = λ member. neg_ℤ (pos (1000000000000 * (declared member).burst_bits));
  }
  pub accepts : (declared : ℕ → Declared) (state : State) (offer : Offer) (e : Ps)
      → after declared state offer (Eligible e) ≡ record {
        time = e.0;
        empty = λ member. if member == offer.member
            then empty_after (declared member).rate (declared member).burst_bits (state.empty member) e.0
            (bits_of offer.octets)
            else state.empty member;
      }
  pub late : (declared : ℕ → Declared) (state : State) (offer : Offer) (e : Ps)
      → after declared state offer (Late e) ≡ state
  pub size : (declared : ℕ → Declared) (state : State) (offer : Offer) → after declared state offer Size ≡ state

-- whatever makes verdicts of what members declare, of a residence and of frames is a judge
pub record JudgesAreKnown : Type 0 where
  pub any : (by : (ℕ → Declared) → ℕ → List Offer → List Verdict) → (judge : Judge)
      × ((declared : ℕ → Declared) (residence : ℕ) (offers : List Offer)
      → judge declared residence offers ≡ by declared residence offers)

pub record GroupsAreKnown : Type 0 where
  pub buckets : BucketsAreKnown
  pub groups : StatesAreKnown
  pub judges : JudgesAreKnown

use Rattle.std.specs.Prelude.{ℕ, ◌+◌, ◌-◌, ◌*◌, ◌≤◌, max, ◌==◌, List, [], ◌∷◌, if◌then◌else◌, fold}
use Rattle.ats_num.specs.declared.time.TheConstants.{PS_PER_SECOND, PS_PER_NS}
use Rattle.ats_num.specs.Wire.{bits_of}
use Rattle.ats_num.specs.Division.{ceiling}
use Rattle.ats_bucket.specs.Conforming.{Frame}
use Rattle.ats_streams.specs.declared.traffic.Declared.{Declared}
use Rattle.ats_group.specs.declared.verdict.Verdict.{Verdict}
use Rattle.ats_group.specs.declared.verdict.Verdict.TheVariants.{Eligible, Late, Size}
use Rattle.ats_group.specs.Group.{Offer, verdict_by}
use Rattle.ats_streams.specs.Traffic.{is_declared_size}

-- the step of a scheduler in whole numbers that are never negative: in place of the bucket-empty time it knows the
-- bucket-full time, which is later by the burst; both are multiplied by the rate

-- the eligibility time: the least time at which the frame has arrived, that is not before the group eligibility time,
-- and at which the bucket holds the frame's bits
pub record IsFullEligibility (rate burst full group arrival bits eligible : ℕ) : Type 0 where
  pub arrived : arrival ≤ eligible
  pub after_group : group ≤ eligible
  pub bucket : full + PS_PER_SECOND * bits ≤ eligible * rate + PS_PER_SECOND * burst
  pub least : (k : ℕ) → arrival ≤ k → group ≤ k → full + PS_PER_SECOND * bits ≤ k * rate + PS_PER_SECOND * burst
      → eligible ≤ k

-- that time, computed
abbrev pub full_eligibility : ℕ → ℕ → ℕ → ℕ → ℕ → ℕ → ℕ
full_eligibility rate burst full group arrival bits =
    max (max arrival group) (ceiling (full + PS_PER_SECOND * bits - PS_PER_SECOND * burst) rate)

-- the bucket-full time once a frame of so many bits was accepted with this eligibility time
abbrev pub full_after : ℕ → ℕ → ℕ → ℕ → ℕ
full_after rate full eligible bits = max full (eligible * rate) + PS_PER_SECOND * bits

-- the bucket-full time after frames that were accepted, each at its time
abbrev pub full_time : ℕ → ℕ → List Frame → ℕ
full_time rate full frames = fold (λ (full : ℕ) (f : Frame). full_after rate full f.at f.bits) full frames

-- what one group keeps: its group eligibility time, and each member's bucket-full time multiplied by its rate
pub record FullState : Type 0 where
  pub time : ℕ
  pub full : ℕ → ℕ

-- at first each is 0
abbrev pub full_first : FullState
full_first = record { time = 0; full = λ member. 0 }

-- the verdict on the next frame
abbrev pub full_judged : (ℕ → Declared) → ℕ → FullState → Offer → Verdict
full_judged declared residence_ns state offer =
    if is_declared_size (declared offer.member) offer.octets
    then verdict_by (offer.arrival + PS_PER_NS * residence_ns) (full_eligibility (declared offer.member).rate
    (declared offer.member).burst_bits (state.full offer.member) state.time offer.arrival (bits_of offer.octets))
    else Size

-- what the group keeps after a verdict
abbrev pub full_state_by : (ℕ → Declared) → FullState → Offer → Verdict → FullState
full_state_by declared state offer (Eligible e) =
    record {
      time = e.0;
      full = λ member. if member == offer.member
          then full_after (declared member).rate (state.full member) e.0 (bits_of offer.octets) else state.full member;
    }
full_state_by declared state offer (Late e) = state
full_state_by declared state offer Size = state

-- what the group keeps after the next frame
abbrev pub full_next : (ℕ → Declared) → ℕ → FullState → Offer → FullState
full_next declared residence_ns state offer =
    full_state_by declared state offer (full_judged declared residence_ns state offer)

-- the verdicts on frames that come one after another, and what the group keeps after them
abbrev pub full_verdicts : (ℕ → Declared) → ℕ → FullState → List Offer → List Verdict
full_verdicts declared residence_ns state [] = []
full_verdicts declared residence_ns state (offer ∷ offers) =
    full_judged declared residence_ns state offer ∷ full_verdicts declared residence_ns
    (full_next declared residence_ns state offer) offers

abbrev pub full_state_after : (ℕ → Declared) → ℕ → FullState → List Offer → FullState
full_state_after declared residence_ns state [] = state
full_state_after declared residence_ns state (offer ∷ offers) =
    full_state_after declared residence_ns (full_next declared residence_ns state offer) offers

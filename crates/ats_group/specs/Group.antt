use Rattle.std.specs.Prelude.{ℕ, ◌+◌, ◌*◌, ◌<◌, ◌≤◌, ◌==◌, nat_le, ℤ, List, [], ◌∷◌, if◌then◌else◌}
use Rattle.ats_num.specs.declared.time.TheConstants.{PS_PER_SECOND, PS_PER_NS, END}
use Rattle.ats_num.specs.declared.wire.TheConstants.{MAX_WIRE_BITS}
use Rattle.ats_num.specs.Wire.{bits_of}
use Rattle.ats_streams.specs.Traffic.{is_declared_size}
use Rattle.ats_bucket.specs.Scheduler.{first_empty, eligibility_time, empty_after}
use Rattle.ats_streams.specs.declared.traffic.Declared.{Declared}
use Rattle.ats_group.specs.declared.verdict.Verdict.{Verdict}
use Rattle.ats_group.specs.declared.verdict.Verdict.TheVariants.{Eligible, Late, Size}

-- the verdict on a frame that would be eligible at this time, where it may stay until `latest`
abbrev pub verdict_by : ℕ → ℕ → Verdict
verdict_by latest eligible = if nat_le eligible latest then Eligible (record { 0 = eligible })
    else Late (record { 0 = eligible })

-- the verdict on a frame of a member with this bucket-empty time, in a group with this maximum residence time and this
-- group eligibility time
abbrev pub verdict_on : Declared → ℕ → ℕ → ℤ → ℕ → ℕ → Verdict
verdict_on declared residence_ns time empty arrival octets =
    if is_declared_size declared octets
    then verdict_by (arrival + PS_PER_NS * residence_ns)
    (eligibility_time declared.rate empty time arrival (bits_of octets))
    else Size

-- the bucket-empty time of a member once a frame of so many octets was accepted, eligible at this time
abbrev pub empty_once : Declared → ℤ → ℕ → ℕ → ℤ
empty_once declared empty eligible octets =
    empty_after declared.rate declared.burst_bits empty eligible (bits_of octets)

-- what one group keeps: its group eligibility time, and each member's bucket-empty time multiplied by its rate
pub record State : Type 0 where
  pub time : ℕ
  pub empty : ℕ → ℤ

-- a frame as it comes to the group: its member, its arrival in picoseconds, and its octets
pub record Offer : Type 0 where
  pub member : ℕ
  pub arrival : ℕ
  pub octets : ℕ

-- at first the group eligibility time is 0, and each member's bucket is full at time 0
abbrev pub first : (ℕ → Declared) → State
first declared = record { time = 0; empty = λ member. first_empty (declared member).burst_bits }

-- the verdict on the next frame
abbrev pub judged : (ℕ → Declared) → ℕ → State → Offer → Verdict
judged declared residence_ns state offer =
    verdict_on (declared offer.member) residence_ns state.time (state.empty offer.member) offer.arrival offer.octets

-- what the group keeps after a verdict: only an eligible frame changes the group eligibility time and its own member's
-- bucket
abbrev pub after : (ℕ → Declared) → State → Offer → Verdict → State
after declared state offer (Eligible e) =
    record {
      time = e.0;
      empty = λ member. if member == offer.member
          then empty_once (declared member) (state.empty member) e.0 offer.octets else state.empty member;
    }
after declared state offer (Late e) = state
after declared state offer Size = state

-- what the group keeps after the next frame
abbrev pub next : (ℕ → Declared) → ℕ → State → Offer → State
next declared residence_ns state offer = after declared state offer (judged declared residence_ns state offer)

-- the verdicts on frames that come one after another
abbrev pub verdicts_of : (ℕ → Declared) → ℕ → State → List Offer → List Verdict
verdicts_of declared residence_ns state [] = []
verdicts_of declared residence_ns state (offer ∷ offers) =
    judged declared residence_ns state offer ∷ verdicts_of declared residence_ns
    (next declared residence_ns state offer) offers

-- what the group keeps after these frames
abbrev pub state_after : (ℕ → Declared) → ℕ → State → List Offer → State
state_after declared residence_ns state [] = state
state_after declared residence_ns state (offer ∷ offers) =
    state_after declared residence_ns (next declared residence_ns state offer) offers

-- the bounds of the time of a verdict: at most a second after the arrival; where late, after it, and below the end of
-- time
abbrev pub InTime : Verdict → ℕ → Type 0
InTime (Eligible e) arrival = (arrival ≤ e.0) × (e.0 ≤ arrival + PS_PER_SECOND)
InTime (Late e) arrival = (arrival < e.0) × (e.0 ≤ END + PS_PER_SECOND * MAX_WIRE_BITS)
InTime Size arrival = Unit {0}

use Rattle.std.specs.Prelude.{ℕ, ◌+◌, ◌*◌, ◌==◌, List, [], ◌∷◌, Option, Some, None, if◌then◌else◌}
use Rattle.ats_num.specs.declared.time.TheConstants.{PS_PER_NS}
use Rattle.ats_num.specs.declared.time.Ps.{Ps}
use Rattle.ats_num.specs.Wire.{bits_of}
use Rattle.ats_streams.specs.Traffic.{is_declared_size}
use Rattle.ats_streams.specs.declared.traffic.Declared.{Declared}
use Rattle.ats_group.specs.declared.verdict.Verdict.{Verdict}
use Rattle.ats_group.specs.declared.verdict.Verdict.TheVariants.{Eligible, Late, Size}
use Rattle.ats_group.specs.Group.{Offer, verdict_by}
use Rattle.ats_lrq.specs.declared.last_frame.LastFrame.{LastFrame}
use Rattle.ats_lrq.specs.Spacing.{eligibility_time}

-- the verdict on a frame of a member with this last accepted frame, in a group with this maximum residence time and
-- this group eligibility time
abbrev pub verdict_on : Declared → ℕ → ℕ → Option LastFrame → ℕ → ℕ → Verdict
verdict_on declared residence_ns time last arrival octets =
    if is_declared_size declared octets
    then verdict_by (arrival + PS_PER_NS * residence_ns) (eligibility_time declared.rate last time arrival)
    else Size

-- a frame of so many octets, as it is kept once it was accepted at this time
abbrev pub last_once : Ps → ℕ → LastFrame
last_once eligible octets = record { eligible = eligible; bits = bits_of octets }

-- what one group keeps: its group eligibility time, and each member's last accepted frame
pub record State : Type 0 where
  pub time : ℕ
  pub last : ℕ → Option LastFrame

-- at first the group eligibility time is 0, and no member has an accepted frame
abbrev pub first : State
first = record { time = 0; last = λ member. None }

-- the verdict on the next frame
abbrev pub judged : (ℕ → Declared) → ℕ → State → Offer → Verdict
judged declared residence_ns state offer =
    verdict_on (declared offer.member) residence_ns state.time (state.last offer.member) offer.arrival offer.octets

-- what the group keeps after a verdict: only an eligible frame changes the group eligibility time, and is its own
-- member's last accepted one
abbrev pub after : State → Offer → Verdict → State
after state offer (Eligible e) =
    record {
      time = e.0;
      last = λ member. if member == offer.member then Some (last_once e offer.octets) else state.last member;
    }
after state offer (Late e) = state
after state offer Size = state

-- what the group keeps after the next frame
abbrev pub next : (ℕ → Declared) → ℕ → State → Offer → State
next declared residence_ns state offer = after state offer (judged declared residence_ns state offer)

-- the verdicts on frames that come one after another
abbrev pub verdicts_of : (ℕ → Declared) → ℕ → State → List Offer → List Verdict
verdicts_of declared residence_ns state [] = []
verdicts_of declared residence_ns state (offer ∷ offers) =
    judged declared residence_ns state offer ∷ verdicts_of declared residence_ns
    (next declared residence_ns state offer) offers

-- what the group keeps after these frames
abbrev pub state_after : (ℕ → Declared) → ℕ → State → List Offer → State
state_after declared residence_ns state [] = state
state_after declared residence_ns state (offer ∷ offers) =
    state_after declared residence_ns (next declared residence_ns state offer) offers

use Rattle.std.proofs.Common.{◌≡◌, ℕ, ◌+◌, ◌-◌, ◌*◌, ◌≤◌, max, Bool, true, false, refl, sym, ap, ◌∙◌, mul-le-mul_right}
use Rattle.std.proofs.Common.{arith}
use Rattle.std.specs.Prelude.{ℤ, pos, ◌-ℤ◌, ◌==◌, if◌then◌else◌}
use Rattle.std.proofs.lemmas.Int.{ints}
use Rattle.ats_num.specs.declared.time.TheConstants.{PS_PER_SECOND, PS_PER_NS}
use Rattle.ats_num.specs.Wire.{bits_of}
use Rattle.ats_num.specs.Division.{ceiling}
use Rattle.ats_bucket.specs.Integers.{nonnegative-is}
use Rattle.ats_bucket.specs.Scheduler.{holds_at, IsEligibility, eligibility_time}
use Rattle.ats_num.proofs.Ceiling.{ceiling-is}
use Rattle.ats_bucket.proofs.EmptyAfter.{empty_after-is}
use Rattle.ats_streams.specs.declared.traffic.Declared.{Declared}
use Rattle.ats_group.specs.declared.verdict.Verdict.{Verdict}
use Rattle.ats_group.specs.declared.verdict.Verdict.TheVariants.{Eligible, Late, Size}
use Rattle.ats_group.specs.Group.{State, Offer, verdict_by, first, judged, after, next}
use Rattle.ats_streams.specs.Traffic.{is_declared_size}
use Rattle.ats_group_law.specs.Full.{IsFullEligibility, full_eligibility, full_after, FullState, full_first}
use Rattle.ats_group_law.specs.Full.{full_judged, full_state_by, full_next}

-- a bucket-empty time is the bucket-full time less the burst
abbrev pub IsEarlier : ℤ → ℕ → ℕ → Type 0
IsEarlier empty full burst = empty ≡ pos full -ℤ pos (PS_PER_SECOND * burst)

-- the computed eligibility times are one
pub full_eligibility-is : (rate burst full : ℕ) (empty : ℤ) (group arrival bits : ℕ) → IsEarlier empty full burst
    → eligibility_time rate empty group arrival bits ≡ full_eligibility rate burst full group arrival bits
full_eligibility-is rate burst full empty group arrival bits e =
    ap (λ (n : ℕ). max (max arrival group) (ceiling n rate))
    (nonnegative-is (holds_at empty bits) (full + PS_PER_SECOND * bits) (PS_PER_SECOND * burst) (omega (arith, ints)))

-- the two meanings are one
pub full-from_signed : (rate burst full : ℕ) (empty : ℤ) (group arrival bits eligible : ℕ)
    → IsEarlier empty full burst → IsEligibility rate empty group arrival bits eligible
    → IsFullEligibility rate burst full group arrival bits eligible
full-from_signed rate burst full empty group arrival bits eligible e h = record {
  arrived = h.arrived;
  after_group = h.after_group;
  bucket = (let b = h.bucket in omega (arith, ints));
  least = λ k a g b. h.least k a g (omega (arith, ints));
}

pub signed-from_full : (rate burst full : ℕ) (empty : ℤ) (group arrival bits eligible : ℕ)
    → IsEarlier empty full burst → IsFullEligibility rate burst full group arrival bits eligible
    → IsEligibility rate empty group arrival bits eligible
signed-from_full rate burst full empty group arrival bits eligible e h = record {
  arrived = h.arrived;
  after_group = h.after_group;
  bucket = (let b = h.bucket in omega (arith, ints));
  least = λ k a g b. h.least k a g (omega (arith, ints));
}

-- the computed eligibility time is the least
pub full_eligibility-least : (rate burst full group arrival bits : ℕ) → 1 ≤ rate
    → IsFullEligibility rate burst full group arrival bits (full_eligibility rate burst full group arrival bits)
full_eligibility-least rate burst full group arrival bits h =
    let c = ceiling-is (full + PS_PER_SECOND * bits - PS_PER_SECOND * burst) rate h in
    let q : ℕ = ceiling (full + PS_PER_SECOND * bits - PS_PER_SECOND * burst) rate in
    let e : ℕ = full_eligibility rate burst full group arrival bits in
    let later : q ≤ e = omega arith in
    record {
      arrived = omega arith;
      after_group = omega arith;
      bucket = (let reached = c.reaches in let more = mul-le-mul_right rate later in omega arith);
      least = λ k a g b. (let first = c.least k (omega arith) in omega arith);
    }

-- no other time is the least
pub full_eligibility-only : (rate burst full group arrival bits e k : ℕ)
    → IsFullEligibility rate burst full group arrival bits e
    → IsFullEligibility rate burst full group arrival bits k → e ≡ k
full_eligibility-only rate burst full group arrival bits e k h g =
    let low = h.least k g.arrived g.after_group g.bucket in
    let high = g.least e h.arrived h.after_group h.bucket in
    omega arith

-- not before the group eligibility time, at any rate
pub full_eligibility-after_group : (rate burst full group arrival bits : ℕ)
    → group ≤ full_eligibility rate burst full group arrival bits
full_eligibility-after_group rate burst full group arrival bits = omega arith

-- the two kinds of state stand for each other
pub record AreOne (declared : ℕ → Declared) (state : State) (full : FullState) : Type 0 where
  pub time : state.time ≡ full.time
  pub empties : (member : ℕ) → IsEarlier (state.empty member) (full.full member) (declared member).burst_bits

pub first-one : (declared : ℕ → Declared) → AreOne declared (first declared) full_first
first-one declared = record { time = refl; empties = λ member. omega (arith, ints) }

pub judged-one : (declared : ℕ → Declared) (residence_ns : ℕ) (state : State) (full : FullState) (offer : Offer)
    → AreOne declared state full
    → judged declared residence_ns state offer ≡ full_judged declared residence_ns full offer
judged-one declared residence_ns state full offer one =
    let d : Declared = declared offer.member in
    let e = full_eligibility-is d.rate d.burst_bits (full.full offer.member) (state.empty offer.member)
    state.time offer.arrival (bits_of offer.octets) (one.empties offer.member) in
    let t = ap (λ (time : ℕ). full_eligibility d.rate d.burst_bits (full.full offer.member) time offer.arrival
    (bits_of offer.octets)) one.time in
    ap (λ (n : ℕ). if is_declared_size d offer.octets then verdict_by (offer.arrival + PS_PER_NS * residence_ns) n
    else Size) (e ∙ t)

chosen-earlier : (b : Bool) (x y : ℤ) (m n burst : ℕ) → IsEarlier x m burst → IsEarlier y n burst
    → IsEarlier (if b then x else y) (if b then m else n) burst
chosen-earlier true x y m n burst h g = h
chosen-earlier false x y m n burst h g = g

pub after-one : (declared : ℕ → Declared) (state : State) (full : FullState) (offer : Offer) (v : Verdict)
    → AreOne declared state full → AreOne declared (after declared state offer v) (full_state_by declared full offer v)
after-one declared state full offer (Eligible e) one = record {
  time = refl;
  empties = λ member.
      chosen-earlier (member == offer.member) _ (state.empty member)
      (full_after (declared member).rate (full.full member) e.0 (bits_of offer.octets)) (full.full member)
      (declared member).burst_bits
      (sym (empty_after-is (declared member).rate (declared member).burst_bits (full.full member) e.0
      (bits_of offer.octets) (state.empty member) (one.empties member)))
      (one.empties member);
}
after-one declared state full offer (Late e) one = one
after-one declared state full offer Size one = one

pub next-one : (declared : ℕ → Declared) (residence_ns : ℕ) (state : State) (full : FullState) (offer : Offer)
    → AreOne declared state full
    → AreOne declared (next declared residence_ns state offer) (full_next declared residence_ns full offer)
next-one declared residence_ns state full offer one =
    let same = judged-one declared residence_ns state full offer one in
    rw (← same) (after-one declared state full offer (judged declared residence_ns state offer) one)

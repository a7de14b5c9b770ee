use Rattle.std.proofs.Common.{◌≡◌, ℕ, ◌+◌, ◌-◌, ◌*◌, ◌≤◌, max, Bool, true, false, List, [], ◌∷◌, map, refl, sym, ap}
use Rattle.std.proofs.Common.{◌∙◌}
use Rattle.std.proofs.Common.{inl, inr, arith}
use Rattle.std.specs.Prelude.{◌==◌, All, nat_le, if◌then◌else◌}
use Rattle.std.proofs.lemmas.Bool.{cases_lt, le-leb, lt-leb}
use Rattle.std.proofs.lemmas.List.Elements.{All-head, All-tail}
use Rattle.ats_num.specs.declared.time.TheConstants.{PS_PER_NS, PS_PER_SECOND}
use Rattle.ats_num.specs.Wire.{bits_of}
use Rattle.ats_streams.specs.declared.traffic.Declared.{Declared}
use Rattle.ats_streams.specs.Traffic.{IsRuled, is_declared_size}
use Rattle.ats_group.specs.declared.verdict.Verdict.{Verdict}
use Rattle.ats_group.specs.declared.verdict.Verdict.TheVariants.{Eligible, Late, Size}
use Rattle.ats_group.specs.Group.{Offer, verdict_by}
use Rattle.ats_group_law.specs.Full.{FullState, IsFullEligibility, full_after, full_eligibility, full_first}
use Rattle.ats_group_law.specs.Full.{full_judged}
use Rattle.ats_group_law.specs.Full.{full_next, full_state_by, full_verdicts}
use Rattle.ats_group_law.proofs.FullFold.{full_fold}
use Rattle.ats_group_law.proofs.FullStep.{full_eligibility-least, full_eligibility-only}
use Rattle.ats_group_law.proofs.VerdictParts.{bits-in_burst}
use Rattle.ats_clock_law.specs.Ideal.{ShiftIsNotSeen, later_offer, later_verdict}

-- a time, multiplied by a rate, is later by the shift, as far as one looks from any time on
abbrev pub IsLater : ℕ → ℕ → ℕ → ℕ → Type 0
IsLater rate shift n m = (k : ℕ) → max n (k * rate) + shift * rate ≡ max m ((k + shift) * rate)

-- so of a group
record AreLater (declared : ℕ → Declared) (shift : ℕ) (state later : FullState) : Type 0 where
  time : IsLater 1 shift state.time later.time
  full : (member : ℕ) → IsLater (declared member).rate shift (state.full member) (later.full member)

later_time : (shift group other k : ℕ) → IsLater 1 shift group other → other ≤ k + shift → group ≤ k
later_time shift group other k t h = let e = t k in omega arith

later_group : (shift group other e : ℕ) → IsLater 1 shift group other → group ≤ e → other ≤ e + shift
later_group shift group other e t h = let s = t e in omega arith

later_bucket : (rate burst bits full other shift e : ℕ) → IsLater rate shift full other → bits ≤ burst
    → full + PS_PER_SECOND * bits ≤ e * rate + PS_PER_SECOND * burst
    → other + PS_PER_SECOND * bits ≤ (e + shift) * rate + PS_PER_SECOND * burst
later_bucket rate burst bits full other shift e f b h = let s = f e in omega arith

earlier_bucket : (rate burst bits full other shift e : ℕ) → IsLater rate shift full other → bits ≤ burst
    → other + PS_PER_SECOND * bits ≤ (e + shift) * rate + PS_PER_SECOND * burst
    → full + PS_PER_SECOND * bits ≤ e * rate + PS_PER_SECOND * burst
earlier_bucket rate burst bits full other shift e f b h = let s = f e in omega arith

-- the least time, later by the shift
later_least : (rate burst full other group after arrival bits shift e : ℕ) → IsLater rate shift full other
    → IsLater 1 shift group after → bits ≤ burst → IsFullEligibility rate burst full group arrival bits e
    → IsFullEligibility rate burst other after (arrival + shift) bits (e + shift)
later_least rate burst full other group after arrival bits shift e f t b h = record {
  arrived = (let a = h.arrived in omega arith);
  after_group = later_group shift group after e t h.after_group;
  bucket = later_bucket rate burst bits full other shift e f b h.bucket;
  least = λ k a g m. (
      let same : k ≡ k - shift + shift = omega arith in
      let group_first = later_time shift group after (k - shift) t (omega arith) in
      let bucket_first = earlier_bucket rate burst bits full other shift (k - shift) f b (rw (← same) m) in
      let first = h.least (k - shift) (omega arith) group_first bucket_first in
      omega arith);
}

later_eligibility : (rate burst full other group after arrival bits shift : ℕ) → 1 ≤ rate
    → IsLater rate shift full other → IsLater 1 shift group after → bits ≤ burst
    → full_eligibility rate burst other after (arrival + shift) bits
    ≡ full_eligibility rate burst full group arrival bits + shift
later_eligibility rate burst full other group after arrival bits shift r f t b =
    full_eligibility-only rate burst other after (arrival + shift) bits _ _
    (full_eligibility-least rate burst other after (arrival + shift) bits r)
    (later_least rate burst full other group after arrival bits shift _ f t b
    (full_eligibility-least rate burst full group arrival bits r))

later_by : (in_time : Bool) (eligible shift : ℕ)
    → (if in_time then Eligible (record { 0 = eligible + shift }) else Late (record { 0 = eligible + shift }))
    ≡ later_verdict shift (if in_time then Eligible (record { 0 = eligible }) else Late (record { 0 = eligible }))
later_by true eligible shift = refl
later_by false eligible shift = refl

same_test : (m n shift : ℕ) → nat_le (m + shift) (n + shift) ≡ nat_le m n
same_test m n shift = elim (cases_lt n m) [
  | inl h ↦ lt-leb (m + shift) (n + shift) (omega arith) ∙ sym (lt-leb m n h)
  | inr h ↦ le-leb (m + shift) (n + shift) (omega arith) ∙ sym (le-leb m n h)
]

later_verdict_by : (latest eligible shift : ℕ)
    → verdict_by (latest + shift) (eligible + shift) ≡ later_verdict shift (verdict_by latest eligible)
later_verdict_by latest eligible shift =
    ap (λ (b : Bool). if b then Eligible (record { 0 = eligible + shift })
    else Late (record { 0 = eligible + shift })) (same_test eligible latest shift)
    ∙ later_by (nat_le eligible latest) eligible shift

by_size : (size : Bool) (v w : Verdict) (shift : ℕ) → (size ≡ true → v ≡ later_verdict shift w)
    → (if size then v else Size) ≡ later_verdict shift (if size then w else Size)
by_size true v w shift h = h refl
by_size false v w shift h = refl

later_judged : (declared : ℕ → Declared) (residence_ns shift : ℕ) (state later : FullState) (offer : Offer)
    → IsRuled (declared offer.member) → AreLater declared shift state later
    → full_judged declared residence_ns later (later_offer shift offer)
    ≡ later_verdict shift (full_judged declared residence_ns state offer)
later_judged declared residence_ns shift state later offer r h =
    let d : Declared = declared offer.member in
    let bits : ℕ = bits_of offer.octets in
    let eligible : ℕ = full_eligibility d.rate d.burst_bits (state.full offer.member) state.time offer.arrival bits in
    by_size (is_declared_size d offer.octets) _ _ shift (λ size. (
    let e = later_eligibility d.rate d.burst_bits (state.full offer.member) (later.full offer.member) state.time
    later.time offer.arrival bits shift r.rate.positive (h.full offer.member) h.time
    (bits-in_burst d offer.octets r size) in
    let l : offer.arrival + shift + PS_PER_NS * residence_ns ≡ offer.arrival + PS_PER_NS * residence_ns + shift =
    omega arith in
    ap (λ (n : ℕ). verdict_by n (full_eligibility d.rate d.burst_bits (later.full offer.member) later.time
    (offer.arrival + shift) bits)) l
    ∙ ap (verdict_by (offer.arrival + PS_PER_NS * residence_ns + shift)) e
    ∙ later_verdict_by (offer.arrival + PS_PER_NS * residence_ns) eligible shift))

-- after an eligible frame
later_full : (b : Bool) (rate shift full other e bits : ℕ) → IsLater rate shift full other
    → IsLater rate shift (if b then full_after rate full e bits else full)
    (if b then full_after rate other (e + shift) bits else other)
later_full true rate shift full other e bits h = λ k. (let s = h e in omega arith)
later_full false rate shift full other e bits h = h

later_state : (declared : ℕ → Declared) (shift : ℕ) (state later : FullState) (offer : Offer) (v : Verdict)
    → AreLater declared shift state later → AreLater declared shift (full_state_by declared state offer v)
    (full_state_by declared later (later_offer shift offer) (later_verdict shift v))
later_state declared shift state later offer (Eligible e) h = record {
  time = λ k. omega arith;
  full = λ member.
      later_full (member == offer.member) (declared member).rate shift (state.full member) (later.full member) e.0
      (bits_of offer.octets) (h.full member);
}
later_state declared shift state later offer (Late e) h = h
later_state declared shift state later offer Size h = h

later_verdicts : (declared : ℕ → Declared) (residence_ns shift : ℕ) (state later : FullState) (offers : List Offer)
    → All (λ (o : Offer). IsRuled (declared o.member)) offers → AreLater declared shift state later
    → full_verdicts declared residence_ns later (map (later_offer shift) offers)
    ≡ map (later_verdict shift) (full_verdicts declared residence_ns state offers)
later_verdicts declared residence_ns shift state later [] r h = refl
later_verdicts declared residence_ns shift state later (offer ∷ offers) r h =
    let v : Verdict = full_judged declared residence_ns state offer in
    let j = later_judged declared residence_ns shift state later offer
    (All-head (λ (o : Offer). IsRuled (declared o.member)) offer offers r) h in
    let next : AreLater declared shift (full_next declared residence_ns state offer)
    (full_next declared residence_ns later (later_offer shift offer)) =
    rw j (later_state declared shift state later offer v h) in
    let rest = later_verdicts declared residence_ns shift (full_next declared residence_ns state offer)
    (full_next declared residence_ns later (later_offer shift offer)) offers
    (All-tail (λ (o : Offer). IsRuled (declared o.member)) offer offers r) next in
    ap (λ (w : Verdict). w ∷ full_verdicts declared residence_ns
    (full_next declared residence_ns later (later_offer shift offer)) (map (later_offer shift) offers)) j
    ∙ ap (λ (ws : List Verdict). later_verdict shift v ∷ ws) rest

first_later : (declared : ℕ → Declared) (shift : ℕ) → AreLater declared shift full_first full_first
first_later declared shift = record { time = λ k. omega arith; full = λ member k. omega arith }

pub shift_not_seen : ShiftIsNotSeen
shift_not_seen declared residence_ns shift offers r =
    (full_fold declared residence_ns (map (later_offer shift) offers)).verdicts
    ∙ later_verdicts declared residence_ns shift full_first full_first offers r (first_later declared shift)
    ∙ ap (map (later_verdict shift)) (sym (full_fold declared residence_ns offers).verdicts)

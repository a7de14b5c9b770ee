use Rattle.std.proofs.Common.{◌≡◌, ℕ, ◌+◌, ◌*◌, ◌<◌, ◌≤◌, Bool, true, false, refl, ap, ◌∙◌, leb-true, leb-false, le-leb}
use Rattle.std.proofs.Common.{arith}
use Rattle.std.specs.Prelude.{nat_le, if◌then◌else◌}
use Rattle.std.proofs.lemmas.Bool.{and_parts}
use Rattle.ats_num.specs.declared.time.TheConstants.{PS_PER_SECOND, PS_PER_NS}
use Rattle.ats_num.specs.declared.time.Ps.{Ps}
use Rattle.ats_num.specs.Wire.{bits_of}
use Rattle.ats_streams.specs.declared.traffic.Declared.{Declared}
use Rattle.ats_group.specs.declared.verdict.Verdict.TheVariants.{Eligible, Late, Size}
use Rattle.ats_group.specs.Group.{Offer, verdict_by}
use Rattle.ats_streams.specs.Traffic.{IsRuled, is_declared_size}
use Rattle.ats_group_law.specs.Full.{IsFullEligibility, full_eligibility, FullState, full_judged}
use Rattle.ats_group_law.proofs.FullStep.{full_eligibility-least, full_eligibility-after_group}

-- what an eligible verdict shows, and a late one
pub record IsEligibleBy (size : Bool) (latest eligible told : ℕ) : Type 0 where
  pub sized : size ≡ true
  pub time : told ≡ eligible
  pub in_time : told ≤ latest

pub record IsLateBy (size : Bool) (latest eligible told : ℕ) : Type 0 where
  pub sized : size ≡ true
  pub time : told ≡ eligible
  pub late : latest < told

eligible_at : (in_time : Bool) (latest eligible : ℕ) (e : Ps) → (in_time ≡ true → eligible ≤ latest)
    → (if in_time then Eligible (record { 0 = eligible }) else Late (record { 0 = eligible })) ≡ Eligible e
    → IsEligibleBy true latest eligible e.0
eligible_at true latest eligible e h v =
    let t : e ≡ record { 0 = eligible } = cc in
    let n : e.0 ≡ eligible = ap (λ (p : Ps). p.0) t in
    let k = h refl in
    record { sized = refl; time = n; in_time = omega arith }
eligible_at false latest eligible e h v = absurd (cc)

late_at : (in_time : Bool) (latest eligible : ℕ) (e : Ps) → (in_time ≡ false → latest < eligible)
    → (if in_time then Eligible (record { 0 = eligible }) else Late (record { 0 = eligible })) ≡ Late e
    → IsLateBy true latest eligible e.0
late_at true latest eligible e h v = absurd (cc)
late_at false latest eligible e h v =
    let t : e ≡ record { 0 = eligible } = cc in
    let n : e.0 ≡ eligible = ap (λ (p : Ps). p.0) t in
    let k = h refl in
    record { sized = refl; time = n; late = omega arith }

eligible_by : (size : Bool) (latest eligible : ℕ) (e : Ps)
    → (if size then verdict_by latest eligible else Size) ≡ Eligible e → IsEligibleBy size latest eligible e.0
eligible_by true latest eligible e v =
    eligible_at (nat_le eligible latest) latest eligible e (leb-true eligible latest) v
eligible_by false latest eligible e v = absurd (cc)

pub late_by : (size : Bool) (latest eligible : ℕ) (e : Ps)
    → (if size then verdict_by latest eligible else Size) ≡ Late e
    → IsLateBy size latest eligible e.0
late_by true latest eligible e v = late_at (nat_le eligible latest) latest eligible e (leb-false eligible latest) v
late_by false latest eligible e v = absurd (cc)

-- a declared size has no more bits than the burst
pub bits-in_burst : (declared : Declared) (octets : ℕ) → IsRuled declared → is_declared_size declared octets ≡ true
    → bits_of octets ≤ declared.burst_bits
bits-in_burst declared octets r e =
    let p = and_parts (nat_le declared.min_octets octets) (nat_le octets declared.max_octets) e in
    let most = leb-true octets declared.max_octets p.1 in
    let covers = r.covers in
    omega arith

-- the time that the verdict tells, with what is asked of the frame
pub record IsTimeOf (declared : Declared) (state : FullState) (offer : Offer) (eligible : ℕ) : Type 0 where
  pub bits : bits_of offer.octets ≤ declared.burst_bits
  pub time : IsFullEligibility declared.rate declared.burst_bits (state.full offer.member) state.time offer.arrival
      (bits_of offer.octets) eligible

time_of : (declared : Declared) (state : FullState) (offer : Offer) (eligible : ℕ) → IsRuled declared
    → is_declared_size declared offer.octets ≡ true → eligible ≡ full_eligibility declared.rate declared.burst_bits
    (state.full offer.member) state.time offer.arrival (bits_of offer.octets) → IsTimeOf declared state offer eligible
time_of declared state offer eligible r s e = record {
  bits = bits-in_burst declared offer.octets r s;
  time = rw e (full_eligibility-least declared.rate declared.burst_bits (state.full offer.member)
      state.time offer.arrival (bits_of offer.octets) r.rate.positive);
}

pub eligible-time : (declared : ℕ → Declared) (residence_ns : ℕ) (state : FullState) (offer : Offer) (e : Ps)
    → IsRuled (declared offer.member) → full_judged declared residence_ns state offer ≡ Eligible e
    → IsTimeOf (declared offer.member) state offer e.0
eligible-time declared residence_ns state offer e r v =
    let d : Declared = declared offer.member in
    let i = eligible_by (is_declared_size d offer.octets) (offer.arrival + PS_PER_NS * residence_ns) (full_eligibility
    d.rate d.burst_bits (state.full offer.member) state.time offer.arrival (bits_of offer.octets)) e v in
    time_of d state offer e.0 r i.sized i.time

pub late-time : (declared : ℕ → Declared) (residence_ns : ℕ) (state : FullState) (offer : Offer) (e : Ps)
    → IsRuled (declared offer.member) → full_judged declared residence_ns state offer ≡ Late e
    → IsTimeOf (declared offer.member) state offer e.0
late-time declared residence_ns state offer e r v =
    let d : Declared = declared offer.member in
    let i = late_by (is_declared_size d offer.octets) (offer.arrival + PS_PER_NS * residence_ns) (full_eligibility
    d.rate d.burst_bits (state.full offer.member) state.time offer.arrival (bits_of offer.octets)) e v in
    time_of d state offer e.0 r i.sized i.time

-- an eligible frame is not before the group eligibility time, whatever is declared
pub eligible-after_group : (declared : ℕ → Declared) (residence_ns : ℕ) (state : FullState) (offer : Offer) (e : Ps)
    → full_judged declared residence_ns state offer ≡ Eligible e → state.time ≤ e.0
eligible-after_group declared residence_ns state offer e v =
    let d : Declared = declared offer.member in
    let i = eligible_by (is_declared_size d offer.octets) (offer.arrival + PS_PER_NS * residence_ns) (full_eligibility
    d.rate d.burst_bits (state.full offer.member) state.time offer.arrival (bits_of offer.octets)) e v in
    let a = full_eligibility-after_group d.rate d.burst_bits (state.full offer.member) state.time offer.arrival
    (bits_of offer.octets) in
    let t = i.time in
    omega arith

-- the verdict from what is asked of the frame: where a declared size has a lawful time within the residence, it is
-- eligible, no later than that
pub eligible-within : (declared : ℕ → Declared) (residence_ns : ℕ) (state : FullState) (offer : Offer) (k : ℕ)
    → IsRuled (declared offer.member) → is_declared_size (declared offer.member) offer.octets ≡ true → offer.arrival ≤ k
    → state.time ≤ k → state.full offer.member + PS_PER_SECOND * bits_of offer.octets ≤ k * (declared offer.member).rate
    + PS_PER_SECOND * (declared offer.member).burst_bits → k ≤ offer.arrival + PS_PER_NS * residence_ns
    → (e : Ps) × (full_judged declared residence_ns state offer ≡ Eligible e) × (e.0 ≤ k)
eligible-within declared residence_ns state offer k r s a g b h =
    let d : Declared = declared offer.member in
    let e : ℕ = full_eligibility d.rate d.burst_bits (state.full offer.member) state.time offer.arrival
    (bits_of offer.octets) in
    let l = full_eligibility-least d.rate d.burst_bits (state.full offer.member) state.time offer.arrival
    (bits_of offer.octets) r.rate.positive in
    let below : e ≤ k = l.least k a g b in
    let in_time : nat_le e (offer.arrival + PS_PER_NS * residence_ns) ≡ true =
    le-leb e (offer.arrival + PS_PER_NS * residence_ns) (omega arith) in (
      record { 0 = e },
      ap (λ (b : Bool). if b then verdict_by (offer.arrival + PS_PER_NS * residence_ns) e else Size) s
          ∙ ap (λ (b : Bool). if b then Eligible (record { 0 = e }) else Late (record { 0 = e })) in_time,
      below,
    )

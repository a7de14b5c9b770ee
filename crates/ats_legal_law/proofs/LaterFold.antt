use Rattle.std.proofs.Common.{◌≡◌, ℕ, ◌+◌, ◌-◌, ◌*◌, ◌≤◌, ◌⊎◌, Bool, true, false, List, [], ◌∷◌, map, All}
use Rattle.std.proofs.Common.{refl, sym, ap, subst, ◌∙◌, inl, inr, arith}
use Rattle.std.specs.Prelude.{◌==◌, nat_le, if◌then◌else◌}
use Rattle.std.proofs.lemmas.Bool.{and_parts, leb-true}
use Rattle.std.proofs.lemmas.Bool.Decides.{nat_tests}
use Rattle.std.proofs.lemmas.List.Elements.{All-head, All-tail}
use Rattle.ats_num.specs.declared.time.TheConstants.{PS_PER_SECOND, PS_PER_NS}
use Rattle.ats_num.specs.Wire.{bits_of}
use Rattle.ats_streams.specs.Traffic.{IsRuled, is_declared_size}
use Rattle.ats_streams.specs.declared.traffic.Declared.{Declared}
use Rattle.ats_group.specs.declared.verdict.Verdict.{Verdict}
use Rattle.ats_group.specs.declared.verdict.Verdict.TheVariants.{Eligible, Late, Size}
use Rattle.ats_group.specs.Group.{Offer, verdict_by}
use Rattle.ats_group_law.specs.Full.{IsFullEligibility, full_eligibility, full_after, FullState}
use Rattle.ats_group_law.specs.Full.{full_judged, full_state_by, full_next, full_verdicts}
use Rattle.ats_group_law.proofs.FullStep.{full_eligibility-least, full_eligibility-only}
use Rattle.ats_legal_law.specs.Later.{later_verdict}

-- A group that has rested judges as it did at first, only later.

-- a number is another one and so much more, or it stands for 0 and is not more than that
abbrev pub IsMoved : ℕ → ℕ → ℕ → Type 0
IsMoved more a b = (b ≡ a + more) ⊎ ((a ≡ 0) × (b ≤ more))

moved_up : (more a b e : ℕ) → IsMoved more a b → a ≤ e → b ≤ e + more
moved_up more a b e (inl same) h = omega arith
moved_up more a b e (inr none) h = omega (arith, none.1)

moved_back : (more a b e k : ℕ) → IsMoved more a b → b ≤ k → k ≡ e + more → a ≤ e
moved_back more a b e k (inl same) h is = omega arith
moved_back more a b e k (inr none) h is = omega (arith, none.0)

holds_up : (by rate burst bits full other e : ℕ) → bits ≤ burst → IsMoved (by * rate) full other
    → full + PS_PER_SECOND * bits ≤ e * rate + PS_PER_SECOND * burst
    → other + PS_PER_SECOND * bits ≤ (e + by) * rate + PS_PER_SECOND * burst
holds_up by rate burst bits full other e covered (inl same) h = omega arith
holds_up by rate burst bits full other e covered (inr none) h = omega (arith, none.1)

holds_back : (by rate burst bits full other e : ℕ) → bits ≤ burst → IsMoved (by * rate) full other
    → other + PS_PER_SECOND * bits ≤ (e + by) * rate + PS_PER_SECOND * burst
    → full + PS_PER_SECOND * bits ≤ e * rate + PS_PER_SECOND * burst
holds_back by rate burst bits full other e covered (inl same) h = omega arith
holds_back by rate burst bits full other e covered (inr none) h = omega (arith, none.0)

least_back : (by rate burst bits full other group after arrival e k : ℕ) → bits ≤ burst
    → IsMoved by group after → IsMoved (by * rate) full other
    → IsFullEligibility rate burst full group arrival bits e → arrival + by ≤ k → after ≤ k
    → other + PS_PER_SECOND * bits ≤ k * rate + PS_PER_SECOND * burst → e + by ≤ k
least_back by rate burst bits full other group after arrival e k covered time bucket is arrived past holds =
    let same : k ≡ (k - by) + by = omega arith in
    let there = subst (λ (n : ℕ). other + PS_PER_SECOND * bits ≤ n * rate + PS_PER_SECOND * burst) same holds in
    let le = is.least (k - by) (omega arith) (moved_back by group after (k - by) k time past same)
    (holds_back by rate burst bits full other (k - by) covered bucket there) in
    omega arith

eligibility_later : (by rate burst full other group after arrival bits : ℕ) → 1 ≤ rate → bits ≤ burst
    → IsMoved by group after → IsMoved (by * rate) full other
    → full_eligibility rate burst other after (arrival + by) bits
    ≡ full_eligibility rate burst full group arrival bits + by
eligibility_later by rate burst full other group after arrival bits positive covered time bucket =
    let e : ℕ = full_eligibility rate burst full group arrival bits in
    let is : IsFullEligibility rate burst full group arrival bits e =
    full_eligibility-least rate burst full group arrival bits positive in
    full_eligibility-only rate burst other after (arrival + by) bits
    (full_eligibility rate burst other after (arrival + by) bits) (e + by)
    (full_eligibility-least rate burst other after (arrival + by) bits positive)
    (record {
      arrived = omega (arith, is.arrived);
      after_group = moved_up by group after e time is.after_group;
      bucket = holds_up by rate burst bits full other e covered bucket is.bucket;
      least = λ k a g b.
          least_back by rate burst bits full other group after arrival e k covered time bucket is a g b;
    })

-- one group's state is another's, moved
pub record IsLater (declared : ℕ → Declared) (by : ℕ) (state other : FullState) : Type 0 where
  pub time : IsMoved by state.time other.time
  pub full : (member : ℕ) → IsMoved (by * (declared member).rate) (state.full member) (other.full member)

-- an offer that comes later
abbrev pub later_offer : ℕ → Offer → Offer
later_offer by offer = record { member = offer.member; arrival = offer.arrival + by; octets = offer.octets }

same_test : (by e latest late : ℕ) → late ≡ latest + by → nat_le (e + by) late ≡ nat_le e latest
same_test by e latest late is = grind (arith, nat_tests)

told_later : (by e other : ℕ) (a b : Bool) → other ≡ e + by → a ≡ b
    → (if a then Eligible (record { 0 = other }) else Late (record { 0 = other }))
    ≡ later_verdict by (if b then Eligible (record { 0 = e }) else Late (record { 0 = e }))
told_later by e other true true same agree = ap (λ (n : ℕ). Eligible (record { 0 = n })) same
told_later by e other true false same agree = cc
told_later by e other false true same agree = cc
told_later by e other false false same agree = ap (λ (n : ℕ). Late (record { 0 = n })) same

verdict_later : (by e other latest late : ℕ) → other ≡ e + by → late ≡ latest + by
    → verdict_by late other ≡ later_verdict by (verdict_by latest e)
verdict_later by e other latest late same moved =
    told_later by e other (nat_le other late) (nat_le e latest) same
    (ap (λ (n : ℕ). nat_le n late) same ∙ same_test by e latest late moved)

by_size : (by : ℕ) (sized : Bool) (x y : Verdict) → (sized ≡ true → y ≡ later_verdict by x)
    → (if sized then y else Size) ≡ later_verdict by (if sized then x else Size)
by_size by true x y h = h refl
by_size by false x y h = refl

-- a frame of a declared size has no more bits than the burst
pub covered : (d : Declared) (octets : ℕ) → IsRuled d → is_declared_size d octets ≡ true → bits_of octets ≤ d.burst_bits
covered d octets ruled sized =
    let parts = and_parts (nat_le d.min_octets octets) (nat_le octets d.max_octets) sized in
    let most = leb-true octets d.max_octets parts.1 in
    omega (arith, most, ruled.covers)

judged_later : (declared : ℕ → Declared) (residence_ns by : ℕ) (state other : FullState) (offer : Offer)
    → IsRuled (declared offer.member) → IsLater declared by state other
    → full_judged declared residence_ns other (later_offer by offer)
    ≡ later_verdict by (full_judged declared residence_ns state offer)
judged_later declared residence_ns by state other offer ruled later =
    let d : Declared = declared offer.member in
    let bits : ℕ = bits_of offer.octets in
    let e : ℕ = full_eligibility d.rate d.burst_bits (state.full offer.member) state.time offer.arrival bits in
    let f : ℕ =
    full_eligibility d.rate d.burst_bits (other.full offer.member) other.time (offer.arrival + by) bits in
    by_size by (is_declared_size d offer.octets) (verdict_by (offer.arrival + PS_PER_NS * residence_ns) e)
    (verdict_by (offer.arrival + by + PS_PER_NS * residence_ns) f)
    (λ sized. verdict_later by e f (offer.arrival + PS_PER_NS * residence_ns)
    (offer.arrival + by + PS_PER_NS * residence_ns)
    (eligibility_later by d.rate d.burst_bits (state.full offer.member) (other.full offer.member) state.time other.time
    offer.arrival bits (omega (arith, ruled.rate.positive)) (covered d offer.octets ruled sized) later.time
    (later.full offer.member))
    (omega arith))

after_later : (by rate bits full other e : ℕ) → IsMoved (by * rate) full other
    → IsMoved (by * rate) (full_after rate full e bits) (full_after rate other (e + by) bits)
after_later by rate bits full other e (inl same) = inl (omega arith)
after_later by rate bits full other e (inr none) = inl (omega (arith, none.0, none.1))

chosen_moved : (more : ℕ) (chosen : Bool) (a b c d : ℕ) → IsMoved more a b → IsMoved more c d
    → IsMoved more (if chosen then a else c) (if chosen then b else d)
chosen_moved more true a b c d first second = first
chosen_moved more false a b c d first second = second

state_later : (declared : ℕ → Declared) (by : ℕ) (state other : FullState) (offer : Offer) (verdict : Verdict)
    → IsLater declared by state other → IsLater declared by (full_state_by declared state offer verdict)
    (full_state_by declared other (later_offer by offer) (later_verdict by verdict))
state_later declared by state other offer (Eligible e) later = record {
  time = inl refl;
  full = λ member.
      chosen_moved (by * (declared member).rate) (member == offer.member)
      (full_after (declared member).rate (state.full member) e.0 (bits_of offer.octets))
      (full_after (declared member).rate (other.full member) (e.0 + by) (bits_of offer.octets))
      (state.full member) (other.full member)
      (after_later by (declared member).rate (bits_of offer.octets) (state.full member) (other.full member) e.0
      (later.full member))
      (later.full member);
}
state_later declared by state other offer (Late e) later = later
state_later declared by state other offer Size later = later

-- so the verdicts are the same, later
pub verdicts_later : (declared : ℕ → Declared) (residence_ns by : ℕ) (state other : FullState) (offers : List Offer)
    → All (λ (o : Offer). IsRuled (declared o.member)) offers → IsLater declared by state other
    → full_verdicts declared residence_ns other (map (later_offer by) offers)
    ≡ map (later_verdict by) (full_verdicts declared residence_ns state offers)
verdicts_later declared residence_ns by state other [] ruled later = refl
verdicts_later declared residence_ns by state other (offer ∷ offers) ruled later =
    let Ruled : Offer → Type 0 = λ (o : Offer). IsRuled (declared o.member) in
    let verdict : Verdict = full_judged declared residence_ns state offer in
    let moved : full_judged declared residence_ns other (later_offer by offer) ≡ later_verdict by verdict =
    judged_later declared residence_ns by state other offer (All-head Ruled offer offers ruled) later in
    let Later : Verdict → Type 0 = λ (v : Verdict). IsLater declared by (full_next declared residence_ns state offer)
    (full_state_by declared other (later_offer by offer) v) in
    let kept : IsLater declared by (full_next declared residence_ns state offer)
    (full_next declared residence_ns other (later_offer by offer)) =
    subst Later (sym moved) (state_later declared by state other offer verdict later) in
    let rest = verdicts_later declared residence_ns by (full_next declared residence_ns state offer)
    (full_next declared residence_ns other (later_offer by offer)) offers (All-tail Ruled offer offers ruled) kept in
    ap (λ (v : Verdict). v ∷ full_verdicts declared residence_ns
    (full_next declared residence_ns other (later_offer by offer)) (map (later_offer by) offers)) moved
    ∙ ap (λ (vs : List Verdict). later_verdict by verdict ∷ vs) rest

-- A group's verdicts go by what its members declare but the least size, where no frame is shorter.
use Rattle.std.proofs.Common.{◌≡◌, ℕ, ◌+◌, ◌*◌, ◌≤◌, Bool, cond, List, [], ◌∷◌, refl, sym, ap, ◌∙◌, subst}
use Rattle.std.specs.Prelude.{ℤ, ◌==◌, ◌&&◌, nat_le}
use Rattle.std.specs.List.{All}
use Rattle.std.proofs.lemmas.Bool.{le-leb}
use Rattle.std.proofs.lemmas.List.Elements.{All-head, All-tail}
use Rattle.ats_num.specs.Wire.{bits_of}
use Rattle.ats_bucket.specs.Scheduler.{first_empty, empty_after, eligibility_time}
use Rattle.ats_streams.specs.Traffic.{is_declared_size}
use Rattle.ats_streams.specs.declared.traffic.Declared.{Declared}
use Rattle.ats_group.specs.declared.verdict.Verdict.{Verdict}
use Rattle.ats_group.specs.declared.verdict.Verdict.TheVariants.{Eligible, Late, Size}
use Rattle.ats_group.specs.Group.{Offer, State, after, empty_once, first, judged, next, verdict_by}
use Rattle.ats_group.specs.Group.{verdicts_of}

-- what is declared is the same but for the least size
pub record AreAlike (one other : Declared) : Type 0 where
  pub rate : one.rate ≡ other.rate
  pub burst : one.burst_bits ≡ other.burst_bits
  pub most : one.max_octets ≡ other.max_octets

-- the states are the same as far as such members go
record SameState (one other : ℕ → Declared) (s t : State) : Type 0 where
  time : s.time ≡ t.time
  empty : (m : ℕ) → AreAlike (one m) (other m) → s.empty m ≡ t.empty m

-- an offered frame is of such a member, and not shorter than is declared
pub record IsFit (one other : ℕ → Declared) (offer : Offer) : Type 0 where
  pub alike : AreAlike (one offer.member) (other offer.member)
  pub least : (one offer.member).min_octets ≤ offer.octets
  pub least_there : (other offer.member).min_octets ≤ offer.octets

size-is : (declared : Declared) (octets : ℕ) → declared.min_octets ≤ octets
    → is_declared_size declared octets ≡ nat_le octets declared.max_octets
size-is declared octets least =
    ap (λ (t : Bool). t && nat_le octets declared.max_octets) (le-leb declared.min_octets octets least)

pub same-size : (one other : Declared) (octets : ℕ) → one.max_octets ≡ other.max_octets → one.min_octets ≤ octets
    → other.min_octets ≤ octets → is_declared_size one octets ≡ is_declared_size other octets
same-size one other octets most least least_there =
    size-is one octets least ∙ ap (nat_le octets) most ∙ sym (size-is other octets least_there)

same-verdict : (one other : ℕ → Declared) (residence : ℕ) (s t : State) (offer : Offer) → SameState one other s t
    → IsFit one other offer → judged one residence s offer ≡ judged other residence t offer
same-verdict one other residence s t offer same fit =
    let m : ℕ = offer.member in
    let latest : ℕ = offer.arrival + 1000 * residence in
    let by : Bool → ℕ → ℤ → ℕ → Verdict = λ (size : Bool) (rate : ℕ) (empty : ℤ) (time : ℕ).
    cond size (verdict_by latest (eligibility_time rate empty time offer.arrival (bits_of offer.octets))) Size in
    ap (λ (b : Bool). by b (one m).rate (s.empty m) s.time)
    (same-size (one m) (other m) offer.octets fit.alike.most fit.least fit.least_there)
    ∙ ap (λ (r : ℕ). by (is_declared_size (other m) offer.octets) r (s.empty m) s.time) fit.alike.rate
    ∙ ap (λ (e : ℤ). by (is_declared_size (other m) offer.octets) (other m).rate e s.time) (same.empty m fit.alike)
    ∙ ap (by (is_declared_size (other m) offer.octets) (other m).rate (t.empty m)) same.time

same-once : (one other : Declared) (e f : ℤ) (eligible octets : ℕ) → AreAlike one other → e ≡ f
    → empty_once one e eligible octets ≡ empty_once other f eligible octets
same-once one other e f eligible octets alike same =
    ap (λ (r : ℕ). empty_after r one.burst_bits e eligible (bits_of octets)) alike.rate
    ∙ ap (λ (b : ℕ). empty_after other.rate b e eligible (bits_of octets)) alike.burst
    ∙ ap (λ (x : ℤ). empty_after other.rate other.burst_bits x eligible (bits_of octets)) same

same-after : (one other : ℕ → Declared) (s t : State) (offer : Offer) (v : Verdict) → SameState one other s t
    → SameState one other (after one s offer v) (after other t offer v)
same-after one other s t offer (Eligible e) same = record {
  time = refl;
  empty = λ m alike.
      ap (λ (x : ℤ). cond (m == offer.member) x (s.empty m))
      (same-once (one m) (other m) (s.empty m) (t.empty m) e.0 offer.octets alike (same.empty m alike))
      ∙ ap (cond (m == offer.member) (empty_once (other m) (t.empty m) e.0 offer.octets)) (same.empty m alike);
}
same-after one other s t offer (Late e) same = same
same-after one other s t offer Size same = same

same-first : (one other : ℕ → Declared) → SameState one other (first one) (first other)
same-first one other = record { time = refl; empty = λ m alike. ap first_empty alike.burst }

same-from : (one other : ℕ → Declared) (residence : ℕ) (s t : State) (offers : List Offer) → SameState one other s t
    → All (IsFit one other) offers → verdicts_of one residence s offers ≡ verdicts_of other residence t offers
same-from one other residence s t [] same fit = refl
same-from one other residence s t (offer ∷ offers) same fit =
    let verdict = same-verdict one other residence s t offer same (All-head (IsFit one other) offer offers fit) in
    let stays : SameState one other (next one residence s offer) (next other residence t offer) =
    subst (λ (v : Verdict). SameState one other (next one residence s offer) (after other t offer v)) verdict
    (same-after one other s t offer (judged one residence s offer) same) in
    ap (λ (v : Verdict). v ∷ verdicts_of one residence (next one residence s offer) offers) verdict
    ∙ ap (λ (vs : List Verdict). judged other residence t offer ∷ vs)
    (same-from one other residence (next one residence s offer) (next other residence t offer) offers stays
    (All-tail (IsFit one other) offer offers fit))

-- so groups of two kinds of members that are alike give the same verdicts
pub same-verdicts : (one other : ℕ → Declared) (residence : ℕ) (offers : List Offer) → All (IsFit one other) offers
    → verdicts_of one residence (first one) offers ≡ verdicts_of other residence (first other) offers
same-verdicts one other residence offers fit =
    same-from one other residence (first one) (first other) offers (same-first one other) fit

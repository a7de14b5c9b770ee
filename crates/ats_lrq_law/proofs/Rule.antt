use Rattle.std.proofs.Common.{◌≡◌, ℕ, ◌+◌, ◌-◌, ◌*◌, ◌<◌, ◌≤◌, Bool, true, false, cond, List, [], ◌∷◌, sum_by, All}
use Rattle.std.proofs.Common.{refl, ap, ◌∙◌, subst, inl, inr, eq-eqb, arith}
use Rattle.std.specs.Prelude.{◌&&◌, ◌==◌, nat_le, nat_lt}
use Rattle.std.specs.List.Sorted.{IsNonDecreasing, IsNonDecreasingBy}
use Rattle.std.proofs.lemmas.Map.Views.{exact_unsigned_eq}
use Rattle.std.proofs.lemmas.Bool.{cases_Bool, cases_lt, and_parts, and_from, le-leb, leb-true, lt-ltb, ltb-true}
use Rattle.std.proofs.lemmas.List.Sums.{sum_by-cons}
use Rattle.std.proofs.lemmas.List.Elements.{All-nil, All-cons, All-head, All-tail, All-weaker}
use Rattle.ats_num.specs.declared.time.TheConstants.{PS_PER_SECOND}
use Rattle.ats_bucket.specs.Conforming.{Frame, times_of}
use Rattle.ats_group_law.specs.Regulator.{AreNoMore}
use Rattle.ats_group_law.proofs.Order.{by_frames, order-head, order-tail}
use Rattle.ats_lrq.specs.Spacing.{IsSpaced}
use Rattle.ats_lrq.specs.Judge.{AreSpaced, KeepsSpacing}
use Rattle.ats_lrq_law.proofs.Spaced.{spaced-past, spaced-head, spaced-tail}

-- That frames are left out of a list, or put in another order, is said by weights alone. So the rule is taken apart
-- into weights: of the frames that come too soon after one that is there, there is just this one itself.

-- the frames that a test passes, counted
abbrev counted_as : Bool → ℕ
counted_as passes = cond passes 1 0

abbrev tally : (Frame → Bool) → List Frame → ℕ
tally test frames = sum_by (λ (g : Frame). counted_as (test g)) frames

tally-none : (test : Frame → Bool) (frames : List Frame) → All (λ (g : Frame). test g ≡ false) frames
    → tally test frames ≡ 0
tally-none test [] h = refl
tally-none test (g ∷ gs) h =
    let head : counted_as (test g) ≡ 0 = ap counted_as (All-head (λ (g : Frame). test g ≡ false) g gs h) in
    let rest = tally-none test gs (All-tail (λ (g : Frame). test g ≡ false) g gs h) in
    omega (arith, sum_by-cons (λ (g : Frame). counted_as (test g)) g gs)

tally-one : (test : Frame → Bool) (g : Frame) (gs : List Frame) → test g ≡ true
    → tally test (g ∷ gs) ≡ 1 + tally test gs
tally-one test g gs h =
    let head : counted_as (test g) ≡ 1 = ap counted_as h in
    omega (arith, sum_by-cons (λ (g : Frame). counted_as (test g)) g gs)

tally-skip : (test : Frame → Bool) (g : Frame) (gs : List Frame) → test g ≡ false
    → tally test (g ∷ gs) ≡ tally test gs
tally-skip test g gs h =
    let head : counted_as (test g) ≡ 0 = ap counted_as h in
    omega (arith, sum_by-cons (λ (g : Frame). counted_as (test g)) g gs)

-- this very frame
abbrev same : Frame → Frame → Bool
same f g = g.at == f.at && g.bits == f.bits

same-self : (f : Frame) → same f f ≡ true
same-self f = and_from (f.at == f.at) (f.bits == f.bits) (eq-eqb f.at f.at refl) (eq-eqb f.bits f.bits refl)

frame_is : (f g : Frame) → g.at ≡ f.at → g.bits ≡ f.bits → g ≡ f
frame_is f g p q =
    ap (λ (n : ℕ). let x : Frame = record { at = n; bits = g.bits } in x) p
    ∙ ap (λ (n : ℕ). let x : Frame = record { at = f.at; bits = n } in x) q

same-is : (f g : Frame) → same f g ≡ true → g ≡ f
same-is f g e =
    let p = and_parts (g.at == f.at) (g.bits == f.bits) e in
    frame_is f g (exact_unsigned_eq g.at f.at p.0) (exact_unsigned_eq g.bits f.bits p.1)

-- what holds of all frames holds of one that is counted among them
of_counted : (P : Frame → Type 0) (f : Frame) (frames : List Frame) → 1 ≤ tally (same f) frames → All P frames → P f
of_counted P f [] h all = absurd (omega arith)
of_counted P f (g ∷ gs) h all = elim (cases_Bool (same f g)) [
  | inl e ↦ subst P (same-is f g e) (All-head P g gs all)
  | inr e ↦ of_counted P f gs (let t = tally-skip (same f) g gs e in omega arith) (All-tail P g gs all)
]

-- the frame comes, from the other one on, before the rate has given that one's bits
abbrev soon : ℕ → Frame → Frame → Bool
soon rate f g = nat_le f.at g.at && nat_lt (rate * (g.at - f.at)) (PS_PER_SECOND * f.bits)

record IsSoon (rate : ℕ) (f g : Frame) : Type 0 where
  later : f.at ≤ g.at
  missing : rate * (g.at - f.at) < PS_PER_SECOND * f.bits

soon-is : (rate : ℕ) (f g : Frame) → soon rate f g ≡ true → IsSoon rate f g
soon-is rate f g e =
    let p = and_parts (nat_le f.at g.at) (nat_lt (rate * (g.at - f.at)) (PS_PER_SECOND * f.bits)) e in
    record {
      later = leb-true f.at g.at p.0;
      missing = ltb-true (rate * (g.at - f.at)) (PS_PER_SECOND * f.bits) p.1;
    }

soon-from : (rate : ℕ) (f g : Frame) → f.at ≤ g.at → rate * (g.at - f.at) < PS_PER_SECOND * f.bits
    → soon rate f g ≡ true
soon-from rate f g h k =
    and_from (nat_le f.at g.at) (nat_lt (rate * (g.at - f.at)) (PS_PER_SECOND * f.bits)) (le-leb f.at g.at h)
    (lt-ltb (rate * (g.at - f.at)) (PS_PER_SECOND * f.bits) k)

-- so does the frame itself, where it has bits; one at a distance and one before it do not
soon-self : (rate : ℕ) (f : Frame) → 1 ≤ f.bits → soon rate f f ≡ true
soon-self rate f b =
    let none : f.at - f.at ≡ 0 = omega arith in
    let rated = ap (λ (n : ℕ). rate * n) none in
    soon-from rate f f (omega arith) (omega arith)

soon-spaced : (rate : ℕ) (f g : Frame) → IsSpaced rate f.bits f.at g.at → soon rate f g ≡ false
soon-spaced rate f g s = elim (cases_Bool (soon rate f g)) [
  | inl e ↦ (let given = s.given in let missing = (soon-is rate f g e).missing in absurd (omega arith))
  | inr e ↦ e
]

soon-before : (rate : ℕ) (f g : Frame) → g.at < f.at → soon rate f g ≡ false
soon-before rate f g h = elim (cases_Bool (soon rate f g)) [
  | inl e ↦ (let later = (soon-is rate f g e).later in absurd (omega arith))
  | inr e ↦ e
]

-- of frames that keep the rule, only a frame itself comes too soon after it
only_itself : (rate : ℕ) (f : Frame) (frames : List Frame) → All (λ (g : Frame). 1 ≤ g.bits) frames
    → AreSpaced rate frames → 1 ≤ tally (same f) frames → tally (soon rate f) frames ≤ 1
only_itself rate f [] b s h = omega arith
only_itself rate f (x ∷ xs) b s h =
    let spaced = spaced-head rate x xs s in
    let bits = All-head (λ (g : Frame). 1 ≤ g.bits) x xs b in
    elim (cases_Bool (same f x)) [
      | inl e ↦
          (let is = same-is f x e in
          let all : All (λ (g : Frame). soon rate f g ≡ false) xs =
          All-weaker (λ (g : Frame). IsSpaced rate x.bits x.at g.at) (λ (g : Frame). soon rate f g ≡ false)
          (λ g k. soon-spaced rate f g
          (subst (λ (y : Frame). IsSpaced rate y.bits y.at g.at) is k)) xs spaced in
          let none = tally-none (soon rate f) xs all in
          let one = weight-le (soon rate f x) in
          omega (arith, sum_by-cons (λ (g : Frame). counted_as (soon rate f g)) x xs))
      | inr e ↦
          (let there : 1 ≤ tally (same f) xs = (let t = tally-skip (same f) x xs e in omega arith) in
          let past : x.at < f.at = of_counted (λ (g : Frame). x.at < g.at) f xs there
          (All-weaker (λ (g : Frame). IsSpaced rate x.bits x.at g.at) (λ (g : Frame). x.at < g.at)
          (λ g k. spaced-past rate x.bits x.at g.at bits k) xs spaced) in
          let skip = tally-skip (soon rate f) x xs (soon-before rate f x past) in
          let rest = only_itself rate f xs (All-tail (λ (g : Frame). 1 ≤ g.bits) x xs b) (spaced-tail rate x xs s)
          there in
          omega arith)
    ]
  where
    weight-le : (b : Bool) → counted_as b ≤ 1
    weight-le true = omega arith
    weight-le false = omega arith

-- a frame that is among the fewer is among the others
counted : (f : Frame) (fs others : List Frame) → AreNoMore (f ∷ fs) others → 1 ≤ tally (same f) others
counted f fs others m =
    let one = tally-one (same f) f fs (same-self f) in
    let le = m (λ (g : Frame). counted_as (same f g)) in
    omega arith

no_more-tail : (f : Frame) (fs others : List Frame) → AreNoMore (f ∷ fs) others → AreNoMore fs others
no_more-tail f fs others m weight =
    let le = m weight in
    omega (arith, sum_by-cons weight f fs)

-- what holds of all others holds of the fewer
all_of_others : (P : Frame → Type 0) (frames others : List Frame) → AreNoMore frames others → All P others
    → All P frames
all_of_others P [] others m all = All-nil P
all_of_others P (f ∷ fs) others m all =
    All-cons P f fs (of_counted P f others (counted f fs others m) all)
    (all_of_others P fs others (no_more-tail f fs others m) all)

-- of two successive frames among the fewer
next_spaced : (rate : ℕ) (f g : Frame) (fs others : List Frame) → KeepsSpacing rate others → f.at ≤ g.at
    → AreNoMore (f ∷ g ∷ fs) others → IsSpaced rate f.bits f.at g.at
next_spaced rate f g fs others k h m = record {
  later = h;
  given = elim (cases_lt (rate * (g.at - f.at)) (PS_PER_SECOND * f.bits)) [
    | inl missing ↦
        (let there = counted f (g ∷ fs) others m in
        let bits = of_counted (λ (x : Frame). 1 ≤ x.bits) f others there k.bits in
        let itself = tally-one (soon rate f) f (g ∷ fs) (soon-self rate f bits) in
        let follower = tally-one (soon rate f) g fs (soon-from rate f g h missing) in
        let le = m (λ (x : Frame). counted_as (soon rate f x)) in
        let one = only_itself rate f others k.bits k.spaced there in
        absurd (omega arith))
    | inr given ↦ given
  ];
}

spaced-fewer : (rate : ℕ) (frames others : List Frame) → KeepsSpacing rate others
    → IsNonDecreasingBy (λ (f : Frame). f.at) frames → AreNoMore frames others → AreSpaced rate frames
spaced-fewer rate [] others k o m = tt
spaced-fewer rate (f ∷ []) others k o m = tt
spaced-fewer rate (f ∷ g ∷ fs) others k o m = (
  next_spaced rate f g fs others k (All-head (λ (x : Frame). f.at ≤ x.at) g fs (order-head f (g ∷ fs) o)) m,
  spaced-fewer rate (g ∷ fs) others k (order-tail f (g ∷ fs) o) (no_more-tail f (g ∷ fs) others m),
)

pub spacing-fewer : (rate : ℕ) (frames others : List Frame) → KeepsSpacing rate others
    → IsNonDecreasing (times_of frames) → AreNoMore frames others → KeepsSpacing rate frames
spacing-fewer rate frames others k o m = record {
  bits = all_of_others (λ (f : Frame). 1 ≤ f.bits) frames others m k.bits;
  spaced = spaced-fewer rate frames others k (by_frames frames o) m;
}

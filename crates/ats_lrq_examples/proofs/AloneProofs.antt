use Rattle.std.proofs.Common.{◌≡◌, ◌≢◌, ℕ, ◌≤◌, Bool, true, false, cond, List, [], ◌∷◌, ◌++◌, All, map, filter, get_or}
use Rattle.std.proofs.Common.{sum_by, refl, sym, ap, subst, ◌∙◌, arith, lit<, lit≤, inl, inr, ◌+◌, ◌<◌}
use Rattle.std.specs.Prelude.{◌*◌, ◌==◌, nat_lt, IsTrue}
use Rattle.std.specs.List.{AllZip}
use Rattle.std.proofs.lemmas.Bool.{cases_eq, eq-eqb, eqb-true, ne_eqb}
use Rattle.std.proofs.lemmas.Bool.Decides.{nat_tests}
use Rattle.std.proofs.lemmas.List.Elements.{All-cons, All-filter, All-head, All-nil, All-tail, filter_passes}
use Rattle.std.proofs.lemmas.List.Kept.{IsNonDecreasingBy-filter}
use Rattle.std.proofs.lemmas.List.Sums.{sum_by-cons}
use Rattle.ats_bucket.specs.Conforming.{Frame}
use Rattle.ats_group.specs.Group.{Offer, State, first, judged, next, verdicts_of}
use Rattle.ats_group.specs.Judge.{bucket_rule}
use Rattle.ats_group.specs.declared.verdict.Verdict.{Verdict}
use Rattle.ats_group_law.specs.Accepted.{accepted_of, let_through}
use Rattle.ats_group_law.proofs.AcceptedParts.{own_through}
use Rattle.ats_group_law.specs.Regulator.{IsDelayedBy, IsEligibleArrived, IsEligibleSized, IsRegulator}
use Rattle.ats_group_law.specs.Shaping.{IsEligibleAgain, Passage, frame_before, frames_before}
use Rattle.ats_group_law.proofs.AcceptedParts.{accepted_of-cons}
use Rattle.ats_group_law.proofs.Regulator.{ats_is_regulator}
use Rattle.ats_num.specs.declared.time.TheConstants.{PS_PER_NS}
use Rattle.ats_streams.specs.Traffic.{IsRuled, is_declared_size}
use Rattle.ats_streams.specs.declared.traffic.Declared.{Declared}
use Rattle.ats_examples.specs.Groups.{fast, frame_at}
use Rattle.ats_examples.proofs.BucketTest.{conforms_by}
use Rattle.ats_lrq_examples.specs.Alone.{OthersRegulate, RulesMayNameTimes, alone_judge, next_alone}
use Rattle.ats_lrq_examples.specs.Alone.{verdicts_alone}

-- A shaper for each member regulates, since a group that has one member alone does.

-- those of some offers that are of a member, where each offer is told by an element of a list
abbrev own : {X : Type 0} → (X → Offer) → ℕ → List X → List X
own offer_of member xs = filter (λ x. (offer_of x).member == member) xs

-- the verdicts of a member's group, once a frame of it came or not, on the offers of the member among these
abbrev NextIs : {X : Type 0} → (X → Offer) → (X → Verdict → Type 0) → (ℕ → Declared) → ℕ → (ℕ → State) → X → List X
    → Bool → ℕ → Type 0
NextIs offer_of Is declared residence_ns states x xs same member =
    AllZip Is (own offer_of member xs) (verdicts_of declared residence_ns
    (cond same (next declared residence_ns (states (offer_of x).member) (offer_of x)) (states member))
    (map offer_of (own offer_of member xs)))

-- the same with the frame in front of them, where it is of the member
abbrev AllIs : {X : Type 0} → (X → Offer) → (X → Verdict → Type 0) → (ℕ → Declared) → ℕ → (ℕ → State) → X → List X
    → Bool → ℕ → Type 0
AllIs offer_of Is declared residence_ns states x xs passes member =
    AllZip Is (cond passes (x ∷ own offer_of member xs) (own offer_of member xs))
    (verdicts_of declared residence_ns (states member)
    (map offer_of (cond passes (x ∷ own offer_of member xs) (own offer_of member xs))))

-- what holds of the verdicts on each member's offers by themselves holds of the first of all offers, and of the rest
first_is : {X : Type 0} (offer_of : X → Offer) (Is : X → Verdict → Type 0) (declared : ℕ → Declared)
    (residence_ns : ℕ) (states : ℕ → State) (x : X) (xs : List X)
    → ((member : ℕ) → AllIs offer_of Is declared residence_ns states x xs ((offer_of x).member == member) member)
    → AllIs offer_of Is declared residence_ns states x xs true (offer_of x).member
first_is offer_of Is declared residence_ns states x xs each =
    subst (λ (b : Bool). AllIs offer_of Is declared residence_ns states x xs b (offer_of x).member)
    (eq-eqb (offer_of x).member (offer_of x).member refl) (each (offer_of x).member)

rest_is : {X : Type 0} (offer_of : X → Offer) (Is : X → Verdict → Type 0) (declared : ℕ → Declared)
    (residence_ns : ℕ) (states : ℕ → State) (x : X) (xs : List X)
    → ((member : ℕ) → AllIs offer_of Is declared residence_ns states x xs ((offer_of x).member == member) member)
    → (member : ℕ)
    → NextIs offer_of Is declared residence_ns states x xs (member == (offer_of x).member) member
rest_is offer_of Is declared residence_ns states x xs each member =
    elim (cases_eq member (offer_of x).member) as
    (λ _. NextIs offer_of Is declared residence_ns states x xs (member == (offer_of x).member) member) [
      | inl same ↦ subst (λ (m : ℕ). NextIs offer_of Is declared residence_ns states x xs (m == (offer_of x).member) m)
          (sym same) (subst (λ (b : Bool). NextIs offer_of Is declared residence_ns states x xs b (offer_of x).member)
          (sym (eq-eqb (offer_of x).member (offer_of x).member refl))
          (first_is offer_of Is declared residence_ns states x xs each).1)
      | inr differ ↦ subst (λ (b : Bool). NextIs offer_of Is declared residence_ns states x xs b member)
          (sym (ne_eqb member (offer_of x).member differ))
          (subst (λ (b : Bool). AllIs offer_of Is declared residence_ns states x xs b member)
          (ne_eqb (offer_of x).member member (λ e. differ (sym e))) (each member))
    ]

each_to_all : {X : Type 0} (offer_of : X → Offer) (Is : X → Verdict → Type 0) (declared : ℕ → Declared)
    (residence_ns : ℕ) (states : ℕ → State) (xs : List X)
    → ((member : ℕ) → AllZip Is (own offer_of member xs)
    (verdicts_of declared residence_ns (states member) (map offer_of (own offer_of member xs))))
    → AllZip Is xs (verdicts_alone declared residence_ns states (map offer_of xs))
each_to_all offer_of Is declared residence_ns states [] each = tt
each_to_all offer_of Is declared residence_ns states (x ∷ xs) each = (
  (first_is offer_of Is declared residence_ns states x xs each).0,
  each_to_all offer_of Is declared residence_ns (next_alone declared residence_ns states (offer_of x)) xs
      (rest_is offer_of Is declared residence_ns states x xs each),
)

map_same : {X : Type 0} (xs : List X) → map (λ (x : X). x) xs ≡ xs
map_same [] = refl
map_same {X} (x ∷ xs) = ap (λ (ys : List X). x ∷ ys) (map_same xs)

-- the same where the elements are the offers
each_offer : (Is : Offer → Verdict → Type 0) (declared : ℕ → Declared) (residence_ns : ℕ) (offers : List Offer)
    → ((some : List Offer) → AllZip Is some (verdicts_of declared residence_ns (first declared) some))
    → AllZip Is offers (alone_judge declared residence_ns offers)
each_offer Is declared residence_ns offers each =
    subst (λ (all : List Offer). AllZip Is offers (alone_judge declared residence_ns all)) (map_same offers)
    (each_to_all (λ (o : Offer). o) Is declared residence_ns (λ member. first declared) offers
    (λ member. (
    let some : List Offer = own (λ (o : Offer). o) member offers in
    subst (λ (all : List Offer). AllZip Is some (verdicts_of declared residence_ns (first declared) all))
    (sym (map_same some)) (each some))))

-- what is let through of a member among these offers, and what its own group lets through of its own offers, where it
-- has this state
abbrev through : (ℕ → Declared) → ℕ → (ℕ → State) → List Offer → ℕ → List Frame
through declared residence_ns states offers member =
    accepted_of member offers (verdicts_alone declared residence_ns states offers)

abbrev through_own : (ℕ → Declared) → ℕ → State → List Offer → ℕ → List Frame
through_own declared residence_ns state mine member =
    accepted_of member mine (verdicts_of declared residence_ns state mine)

abbrev mine : ℕ → List Offer → List Offer
mine member offers = own (λ (o : Offer). o) member offers

-- where they are the same of all offers but the first, they are the same of all, for the member of the first
through_first : (declared : ℕ → Declared) (residence_ns : ℕ) (states : ℕ → State) (o : Offer) (offers : List Offer)
    → through declared residence_ns (next_alone declared residence_ns states o) offers o.member
    ≡ through_own declared residence_ns (next_alone declared residence_ns states o o.member) (mine o.member offers)
    o.member
    → through declared residence_ns states (o ∷ offers) o.member
    ≡ through_own declared residence_ns (states o.member) (mine o.member (o ∷ offers)) o.member
through_first declared residence_ns states o offers rest =
    let k : ℕ = o.member in
    let same : (k == k) ≡ true = eq-eqb k k refl in
    let v : Verdict = judged declared residence_ns (states k) o in
    let after : State = next declared residence_ns (states k) o in
    accepted_of-cons k o offers v
    (verdicts_alone declared residence_ns (next_alone declared residence_ns states o) offers)
    ∙ ap (λ (fs : List Frame). own_through k o v ++ fs) (rest
    ∙ ap (λ (b : Bool). through_own declared residence_ns (cond b after (states k)) (mine k offers) k) same)
    ∙ sym (accepted_of-cons k o (mine k offers) v (verdicts_of declared residence_ns after (mine k offers)))
    ∙ ap (λ (b : Bool). through_own declared residence_ns (states k) (cond b (o ∷ mine k offers) (mine k offers)) k)
    (sym same)

-- and for each other member
through_other : (declared : ℕ → Declared) (residence_ns : ℕ) (states : ℕ → State) (o : Offer) (offers : List Offer)
    (member : ℕ) → o.member ≢ member
    → through declared residence_ns (next_alone declared residence_ns states o) offers member
    ≡ through_own declared residence_ns (next_alone declared residence_ns states o member) (mine member offers) member
    → through declared residence_ns states (o ∷ offers) member
    ≡ through_own declared residence_ns (states member) (mine member (o ∷ offers)) member
through_other declared residence_ns states o offers member differ rest =
    let v : Verdict = judged declared residence_ns (states o.member) o in
    let none : (o.member == member) ≡ false = ne_eqb o.member member differ in
    let other : (member == o.member) ≡ false = ne_eqb member o.member (λ e. differ (sym e)) in
    accepted_of-cons member o offers v
    (verdicts_alone declared residence_ns (next_alone declared residence_ns states o) offers)
    ∙ ap (λ (b : Bool). cond b (let_through o v) []
    ++ through declared residence_ns (next_alone declared residence_ns states o) offers member) none
    ∙ rest
    ∙ ap (λ (b : Bool). through_own declared residence_ns
    (cond b (next declared residence_ns (states o.member) o) (states member)) (mine member offers) member) other
    ∙ ap (λ (b : Bool). through_own declared residence_ns (states member)
    (cond b (o ∷ mine member offers) (mine member offers)) member) (sym none)

through_same : (declared : ℕ → Declared) (residence_ns : ℕ) (states : ℕ → State) (offers : List Offer) (member : ℕ)
    → through declared residence_ns states offers member
    ≡ through_own declared residence_ns (states member) (mine member offers) member
through_same declared residence_ns states [] member = refl
through_same declared residence_ns states (o ∷ offers) member =
    let rest : through declared residence_ns (next_alone declared residence_ns states o) offers member
    ≡ through_own declared residence_ns (next_alone declared residence_ns states o member) (mine member offers) member
    = through_same declared residence_ns (next_alone declared residence_ns states o) offers member in
    elim (cases_eq o.member member) as (λ _. through declared residence_ns states (o ∷ offers) member
    ≡ through_own declared residence_ns (states member) (mine member (o ∷ offers)) member) [
      | inl same ↦ subst (λ (m : ℕ). through declared residence_ns states (o ∷ offers) m
          ≡ through_own declared residence_ns (states m) (mine m (o ∷ offers)) m) same
          (through_first declared residence_ns states o offers
          (subst (λ (m : ℕ). through declared residence_ns (next_alone declared residence_ns states o) offers m
          ≡ through_own declared residence_ns (next_alone declared residence_ns states o m) (mine m offers) m)
          (sym same) rest))
      | inr differ ↦ through_other declared residence_ns states o offers member differ rest
    ]

-- what was filtered passes the same filter
twice : {X : Type 0} (test : X → Bool) (xs : List X) → filter test (filter test xs) ≡ filter test xs
twice test [] = refl
twice {X} test (x ∷ xs) = by (test x) refl (twice test xs)
  where
    by : (b : Bool) → test x ≡ b → filter test (filter test xs) ≡ filter test xs
        → filter test (cond b (x ∷ filter test xs) (filter test xs)) ≡ cond b (x ∷ filter test xs) (filter test xs)
    by true passes rest =
        ap (λ (c : Bool). cond c (x ∷ filter test (filter test xs)) (filter test (filter test xs))) passes
        ∙ ap (λ (ys : List X). x ∷ ys) rest
    by false fails rest = rest

abbrev passages_of : ℕ → List Passage → List Passage
passages_of member passages = own (λ (p : Passage). p.offer) member passages

-- of what is delayed, that of one member is
delayed_own : (declared : ℕ → Declared) (residence_ns bound : ℕ) (passages : List Passage) (member : ℕ)
    → IsDelayedBy bucket_rule declared residence_ns bound passages
    → IsDelayedBy bucket_rule declared residence_ns bound (passages_of member passages)
delayed_own declared residence_ns bound passages member d =
    let test : Passage → Bool = λ (p : Passage). p.offer.member == member in
    record {
      ruled = All-filter test (λ (p : Passage). IsRuled (declared p.offer.member)) passages d.ruled;
      sized = All-filter test
          (λ (p : Passage). IsTrue (is_declared_size (declared p.offer.member) p.offer.octets)) passages d.sized;
      in_order = IsNonDecreasingBy-filter (λ (p : Passage). p.since) test passages d.in_order;
      kept = λ k e within. (
          let p : Passage = get_or (filter test passages) k e in
          let is : p.offer.member ≡ member =
          eqb-true p.offer.member member (filter_passes test passages k e within) in
          let all : bucket_rule (declared p.offer.member) (frames_before p.offer.member passages) =
          All-filter test (λ (p : Passage). bucket_rule (declared p.offer.member)
          (frames_before p.offer.member passages)) passages d.kept k e within in
          let of_member : frames_before member passages ≡ frames_before member (filter test passages) =
          ap (λ (ps : List Passage). map frame_before ps) (sym (twice test passages)) in
          let same : frames_before p.offer.member passages ≡ frames_before p.offer.member (filter test passages) =
          subst (λ (m : ℕ). frames_before m passages ≡ frames_before m (filter test passages)) (sym is) of_member in
          subst (λ (frames : List Frame). bucket_rule (declared p.offer.member) frames) same all);
      arrives = All-filter test (λ (p : Passage). p.offer.arrival ≤ p.since + bound) passages d.arrives;
      may_stay = All-filter test
          (λ (p : Passage). p.since + bound ≤ p.offer.arrival + PS_PER_NS * residence_ns) passages d.may_stay;
    }

alone_is : IsRegulator alone_judge bucket_rule
alone_is = record {
  sized = λ declared residence_ns offers. each_offer (IsEligibleSized declared) declared residence_ns offers
      (ats_is_regulator.regulator.sized declared residence_ns);
  arrived = λ declared residence_ns offers. each_offer IsEligibleArrived declared residence_ns offers
      (ats_is_regulator.regulator.arrived declared residence_ns);
  keeps = λ declared residence_ns offers member ruled. subst (bucket_rule (declared member))
      (sym (through_same declared residence_ns (λ member. first declared) offers member))
      (ats_is_regulator.regulator.keeps declared residence_ns (mine member offers) member ruled);
  free = λ declared residence_ns bound passages delayed.
      each_to_all (λ (p : Passage). p.offer) (IsEligibleAgain bound) declared residence_ns
      (λ member. first declared) passages
      (λ member. ats_is_regulator.regulator.free declared residence_ns bound (passages_of member passages)
      (delayed_own declared residence_ns bound passages member delayed));
}

-- a frame counts where it comes before 5 ps
abbrev early : Frame → ℕ
early f = cond (nat_lt f.at 5) 1 0

early_is : (f : Frame) → early f ≤ 0 → 5 ≤ f.at
early_is f none = by (nat_lt f.at 5) refl none
  where
    by : (b : Bool) → nat_lt f.at 5 ≡ b → ◌≤◌ (cond b 1 0) 0 → 5 ≤ f.at
    by true e h = let one : 1 ≤ 0 = h in absurd (omega arith)
    by false e h = grind (arith, nat_tests)

late_is : (f : Frame) → 5 ≤ f.at → early f ≡ 0
late_is f late = by (nat_lt f.at 5) refl
  where
    by : (b : Bool) → nat_lt f.at 5 ≡ b → ◌≡◌ {A = ℕ} (cond b 1 0) 0
    by true e = absurd (let less : f.at < 5 = grind (arith, nat_tests) in omega (arith, less, late))
    by false e = refl

none_early : (frames : List Frame) → All (λ (f : Frame). 5 ≤ f.at) frames → sum_by early frames ≡ 0
none_early [] late = refl
none_early (f ∷ frames) late =
    let first = late_is f (All-head (λ (g : Frame). 5 ≤ g.at) f frames late) in
    let rest = none_early frames (All-tail (λ (g : Frame). 5 ≤ g.at) f frames late) in
    omega (arith, sum_by-cons early f frames, first, rest)

all_late : (frames : List Frame) → sum_by early frames ≤ 0 → All (λ (f : Frame). 5 ≤ f.at) frames
all_late [] none = All-nil (λ (g : Frame). 5 ≤ g.at)
all_late (f ∷ frames) none =
    let whole = sum_by-cons early f frames in
    All-cons (λ (g : Frame). 5 ≤ g.at) f frames (early_is f (omega (arith, whole, none)))
    (all_late frames (omega (arith, whole, none)))

rules_may : RulesMayNameTimes
rules_may = record {
  rule = record {
    fewer = λ d frames others kept ascends no_more. (
      ats_is_regulator.rule.fewer d frames others kept.0 ascends no_more,
      all_late frames (omega (arith, no_more early, none_early others kept.1)),
    );
    wider = λ d e frames less kept. (ats_is_regulator.rule.wider d e frames less kept.0, kept.1);
    conforms = λ d frames ruled sized kept. kept.0;
  };
  kept = (
    conforms_by (fast 0).rate (fast 0).burst_bits (frame_at 5 12336 ∷ []) refl,
    All-cons (λ (f : Frame). 5 ≤ f.at) (frame_at 5 12336) [] (lit≤ tt) (All-nil (λ (f : Frame). 5 ≤ f.at)),
  );
  not_earlier = λ kept. (
      let late : 5 ≤ 4 = kept.1 0 (frame_at 0 0) (lit< tt) in
      absurd (omega arith));
}

pub others_regulate : OthersRegulate
others_regulate = record {
  alone = record { regulator = alone_is; descends = refl; in_group = refl };
  rules = rules_may;
}

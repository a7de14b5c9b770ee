use Rattle.std.proofs.Common.{◌≡◌, ℕ, ◌+◌, ◌*◌, ◌≤◌, Bool, true, false, List, [], ◌∷◌, ◌++◌, cond, map, refl}
use Rattle.std.proofs.Common.{sym, ap, ◌∙◌, eq-eqb, inl, inr, arith}
use Rattle.std.specs.Prelude.{◌==◌, zip, All, AllPairs, IsTrue, nat_le}
use Rattle.std.specs.List.{AllZip}
use Rattle.std.specs.List.Sorted.{IsNonDecreasingBy}
use Rattle.std.proofs.lemmas.Bool.{and_parts, cases_eq, leb-true, ne_eqb}
use Rattle.std.proofs.lemmas.List.Elements.{All-nil, All-cons, All-head, All-tail, All-map}
use Rattle.std.proofs.lemmas.List.Kept.{AllPairs-cons}
use Rattle.ats_num.specs.Wire.{bits_of}
use Rattle.ats_streams.specs.declared.traffic.Declared.{Declared}
use Rattle.ats_streams.specs.Traffic.{is_declared_size}
use Rattle.ats_bucket.specs.Conforming.{Frame}
use Rattle.ats_group.specs.declared.verdict.Verdict.{Verdict}
use Rattle.ats_group.specs.declared.verdict.Verdict.TheVariants.{Eligible, Late, Size}
use Rattle.ats_group.specs.Group.{Offer}
use Rattle.ats_group.specs.Judge.{bucket_rule}
use Rattle.ats_group_law.specs.Accepted.{accepted_of, let_through}
use Rattle.ats_group_law.specs.Regulator.{IsEligibleArrived, IsEligibleSized, IsRule}
use Rattle.ats_group_law.proofs.Regulator.{ats_is_regulator}
use Rattle.ats_group_law.proofs.AcceptedParts.{accepted_of-cons, own_through}
use Rattle.ats_clock.specs.declared.clock.TheConstants.{MILLION}
use Rattle.ats_clock.specs.Clock.{DeclaredClock, KeepsClock}
use Rattle.ats_clock.specs.Rates.{output_of}
use Rattle.ats_clock_law.specs.Retiming.{ConformTo}
use Rattle.ats_clock_law.specs.TrueTime.{IsTrueEligibility, IsTrueVerdict, OutputConformsBy}
use Rattle.ats_clock_law.specs.TrueTime.{TrueOutputConforms, committed_of, stamped, stamped_offers}
use Rattle.ats_clock_law.proofs.Enough.{output_enough}
use Rattle.ats_clock_law.proofs.Pairs.{AllPairs-with, AllPairs-from_order, order-from_AllPairs, order-first, order-rest}
use Rattle.ats_clock_law.proofs.Retiming.{Gains, framed, order-unframed, retimed}
use Rattle.ats_clock_law.proofs.TrueTime.{about, told_gain}

-- a frame that was let through: its offer, the time that it was told, and its true eligibility time
record Passed : Type 0 where
  offer : Offer
  told : ℕ
  eligible : ℕ

abbrev told_of : Passed → ℕ
told_of p = p.told

abbrev eligible_of : Passed → ℕ
eligible_of p = p.eligible

abbrev arrival_of : Passed → ℕ
arrival_of p = p.offer.arrival

abbrev wire_of : Passed → ℕ
wire_of p = bits_of p.offer.octets

-- what is known of it
record IsPassed (shows : ℕ → ℕ) (declared : Declared) (p : Passed) : Type 0 where
  arrived : shows p.offer.arrival ≤ p.told
  eligible : IsTrueEligibility shows p.offer.arrival p.told p.eligible
  sized : bits_of p.offer.octets ≤ bits_of declared.max_octets

-- the frames of a member that were let through, with both their times
record Split (shows : ℕ → ℕ) (declared : ℕ → Declared) (member : ℕ) (offers : List Offer)
    (local verdicts : List Verdict) : Type 0 where
  passed : List Passed
  by_clock : map (framed told_of wire_of) passed ≡ accepted_of member (stamped_offers shows offers) local
  truly : map (framed eligible_of wire_of) passed ≡ accepted_of member offers verdicts
  known : All (IsPassed shows (declared member)) passed
  -- each is one of the offers, in order
  none_earlier : (n : ℕ) → All (λ (o : Offer). n ≤ o.arrival) offers
      → All (λ (p : Passed). n ≤ p.offer.arrival) passed
  in_order : IsNonDecreasingBy (λ (o : Offer). o.arrival) offers
      → AllPairs (λ (p q : Passed). p.offer.arrival ≤ q.offer.arrival) passed

-- no more frames, or one more in front
more_none : (shows : ℕ → ℕ) (declared : ℕ → Declared) (member : ℕ) (offer : Offer) (offers : List Offer)
    (v w : Verdict) (local verdicts : List Verdict)
    → own_through member (stamped shows offer) v ≡ [] → own_through member offer w ≡ []
    → Split shows declared member offers local verdicts
    → Split shows declared member (offer ∷ offers) (v ∷ local) (w ∷ verdicts)
more_none shows declared member offer offers v w local verdicts e f s = record {
  passed = s.passed;
  by_clock = s.by_clock
      ∙ sym (accepted_of-cons member (stamped shows offer) (stamped_offers shows offers) v local
      ∙ ap (λ (fs : List Frame). fs ++ accepted_of member (stamped_offers shows offers) local) e);
  truly = s.truly
      ∙ sym (accepted_of-cons member offer offers w verdicts
      ∙ ap (λ (fs : List Frame). fs ++ accepted_of member offers verdicts) f);
  known = s.known;
  none_earlier = λ n a. s.none_earlier n (All-tail (λ (o : Offer). n ≤ o.arrival) offer offers a);
  in_order = λ o. s.in_order (order-rest (λ (o : Offer). o.arrival) offer offers o);
}

more_one : (shows : ℕ → ℕ) (declared : ℕ → Declared) (member : ℕ) (offer : Offer) (offers : List Offer)
    (v w : Verdict) (local verdicts : List Verdict) (p : Passed) → p.offer ≡ offer
    → own_through member (stamped shows offer) v ≡ framed told_of wire_of p ∷ []
    → own_through member offer w ≡ framed eligible_of wire_of p ∷ []
    → IsPassed shows (declared member) p → Split shows declared member offers local verdicts
    → Split shows declared member (offer ∷ offers) (v ∷ local) (w ∷ verdicts)
more_one shows declared member offer offers v w local verdicts p o e f k s = record {
  passed = p ∷ s.passed;
  by_clock = ap (λ (fs : List Frame). framed told_of wire_of p ∷ fs) s.by_clock
      ∙ sym (accepted_of-cons member (stamped shows offer) (stamped_offers shows offers) v local
      ∙ ap (λ (fs : List Frame). fs ++ accepted_of member (stamped_offers shows offers) local) e);
  truly = ap (λ (fs : List Frame). framed eligible_of wire_of p ∷ fs) s.truly
      ∙ sym (accepted_of-cons member offer offers w verdicts
      ∙ ap (λ (fs : List Frame). fs ++ accepted_of member offers verdicts) f);
  known = All-cons (IsPassed shows (declared member)) p s.passed k s.known;
  none_earlier = λ n a.
      All-cons (λ (q : Passed). n ≤ q.offer.arrival) p s.passed
      (rw o (All-head (λ (o : Offer). n ≤ o.arrival) offer offers a))
      (s.none_earlier n (All-tail (λ (o : Offer). n ≤ o.arrival) offer offers a));
  in_order = λ r.
      AllPairs-cons (λ (p q : Passed). p.offer.arrival ≤ q.offer.arrival) p s.passed
      (rw o (s.none_earlier offer.arrival (order-first (λ (o : Offer). o.arrival) offer offers r)))
      (s.in_order (order-rest (λ (o : Offer). o.arrival) offer offers r));
}

within_most : (declared : Declared) (octets : ℕ) → IsTrue (is_declared_size declared octets)
    → bits_of octets ≤ bits_of declared.max_octets
within_most declared octets h =
    let p = and_parts (nat_le declared.min_octets octets) (nat_le octets declared.max_octets) h in
    let most = leb-true octets declared.max_octets p.1 in
    omega arith

either : (b : Bool) → (let fs : List Frame = [] in cond b fs []) ≡ []
either true = refl
either false = refl

-- one offer in front, by its verdict and by whether it is the member's
more : (shows : ℕ → ℕ) (declared : ℕ → Declared) (member : ℕ) (offer : Offer) (offers : List Offer)
    (v w : Verdict) (local verdicts : List Verdict) → IsEligibleSized declared (stamped shows offer) v
    → IsEligibleArrived (stamped shows offer) v → IsTrueVerdict shows offer v w
    → Split shows declared member offers local verdicts
    → Split shows declared member (offer ∷ offers) (v ∷ local) (w ∷ verdicts)
more shows declared member offer offers (Eligible told) w local verdicts z a (e, is, t) s =
    rw is (elim (cases_eq offer.member member) [
      | inl own ↦
          (let own_test = eq-eqb offer.member member own in
          let p : Passed = record { offer = offer; told = told.0; eligible = e.0 } in
          more_one shows declared member offer offers (Eligible told) (Eligible e) local verdicts p refl
          (ap (λ (b : Bool). cond b (let_through (stamped shows offer) (Eligible told)) []) own_test)
          (ap (λ (b : Bool). cond b (let_through offer (Eligible e)) []) own_test)
          (record {
            arrived = a;
            eligible = t;
            sized = within_most (declared member) offer.octets (rw (← own) z);
          }) s)
      | inr other ↦
          (let other_test = ne_eqb offer.member member other in
          more_none shows declared member offer offers (Eligible told) (Eligible e) local verdicts
          (ap (λ (b : Bool). cond b (let_through (stamped shows offer) (Eligible told)) []) other_test)
          (ap (λ (b : Bool). cond b (let_through offer (Eligible e)) []) other_test) s)
    ])
more shows declared member offer offers (Late told) w local verdicts z a (e, is, t) s =
    rw is (more_none shows declared member offer offers (Late told) (Late e) local verdicts
    (either (offer.member == member)) (either (offer.member == member)) s)
more shows declared member offer offers Size w local verdicts z a is s =
    rw is (more_none shows declared member offer offers Size Size local verdicts
    (either (offer.member == member)) (either (offer.member == member)) s)

-- so of all offers
split : (shows : ℕ → ℕ) (declared : ℕ → Declared) (member : ℕ) (offers : List Offer) (local verdicts : List Verdict)
    → AllZip (IsEligibleSized declared) (stamped_offers shows offers) local
    → AllZip IsEligibleArrived (stamped_offers shows offers) local
    → AllZip (λ (judged : Offer × Verdict) (verdict : Verdict). IsTrueVerdict shows judged.0 judged.1 verdict)
    (zip offers local) verdicts → Split shows declared member offers local verdicts
split shows declared member [] [] [] z a t = record {
  passed = [];
  by_clock = refl;
  truly = refl;
  known = All-nil (IsPassed shows (declared member));
  none_earlier = λ n h. All-nil (λ (p : Passed). n ≤ p.offer.arrival);
  in_order = λ o i j d h k. absurd (omega arith);
}
split shows declared member [] [] (w ∷ verdicts) z a t = absurd t
split shows declared member [] (v ∷ local) verdicts z a t = absurd z
split shows declared member (offer ∷ offers) [] verdicts z a t = absurd z
split shows declared member (offer ∷ offers) (v ∷ local) [] z a t = absurd t
split shows declared member (offer ∷ offers) (v ∷ local) (w ∷ verdicts) z a t =
    more shows declared member offer offers v w local verdicts z.0 a.0 t.0
    (split shows declared member offers local verdicts z.1 a.1 t.1)

-- of two that arrived and were told in order
abbrev IsAhead : Passed → Passed → Type 0
IsAhead p q = (p.offer.arrival ≤ q.offer.arrival) × (p.told ≤ q.told)

eligible_ahead : (shows : ℕ → ℕ) (declared : Declared) (p q : Passed) → IsPassed shows declared p
    → IsPassed shows declared q → IsAhead p q → p.eligible ≤ q.eligible
eligible_ahead shows declared p q h g a =
    let arrived = g.eligible.arrived in
    let shown = g.eligible.shown in
    let first = a.0 in
    let told = a.1 in
    h.eligible.least q.eligible (omega arith) (omega arith)

gains_ahead : (clock : DeclaredClock) (shows : ℕ → ℕ) (declared : Declared) → KeepsClock clock shows
    → (p q : Passed) → IsPassed shows declared p → IsPassed shows declared q → IsAhead p q
    → Gains MILLION (MILLION + clock.deviation_ppm) (MILLION * clock.step_ps + clock.deviation_ppm) told_of eligible_of
    p q
gains_ahead clock shows declared k p q h g a =
    told_gain clock shows p.eligible q.eligible p.told q.told k (eligible_ahead shows declared p q h g a)
    (about clock shows p.offer.arrival p.told p.eligible p.eligible k h.arrived h.eligible (omega arith))
    g.eligible.shown

conformed : (clock : DeclaredClock) (shows : ℕ → ℕ) (declared : ℕ → Declared) (member : ℕ) (offers : List Offer)
    (local verdicts : List Verdict) → KeepsClock clock shows → IsNonDecreasingBy (λ (o : Offer). o.arrival) offers
    → (s : Split shows declared member offers local verdicts)
    → ConformTo (committed_of (declared member)) (map (framed told_of wire_of) s.passed)
    → ConformTo (output_of clock (committed_of (declared member))) (map (framed eligible_of wire_of) s.passed)
conformed clock shows declared member offers local verdicts k o s c =
    let arrivals = s.in_order o in
    let told = AllPairs-from_order told_of s.passed (order-unframed told_of wire_of s.passed c.in_order) in
    let ahead : AllPairs IsAhead s.passed = λ i j d h l. (arrivals i j d h l, told i j d h l) in
    let eligible = AllPairs-with (IsPassed shows (declared member)) IsAhead
    (λ (p q : Passed). p.eligible ≤ q.eligible) s.passed (eligible_ahead shows (declared member)) s.known ahead in
    let gains = AllPairs-with (IsPassed shows (declared member)) IsAhead
    (Gains MILLION (MILLION + clock.deviation_ppm) (MILLION * clock.step_ps + clock.deviation_ppm) told_of eligible_of)
    s.passed (gains_ahead clock shows (declared member) k) s.known ahead in
    retimed MILLION (MILLION + clock.deviation_ppm) (MILLION * clock.step_ps + clock.deviation_ppm)
    (committed_of (declared member)) (output_of clock (committed_of (declared member))) told_of eligible_of wire_of
    s.passed (order-from_AllPairs eligible_of s.passed eligible) gains
    (output_enough clock (committed_of (declared member))) c

pub output_by : (rule : Declared → List Frame → Type 0) → IsRule rule → OutputConformsBy rule
output_by rule is_rule clock shows judge declared residence_ns offers verdicts member k regulates ruled o t =
    let stamps : List Offer = stamped_offers shows offers in
    let local : List Verdict = judge declared residence_ns stamps in
    let s = split shows declared member offers local verdicts (regulates.sized declared residence_ns stamps)
    (regulates.arrived declared residence_ns stamps) t in
    let kept : rule (declared member) (map (framed told_of wire_of) s.passed) =
    rw s.by_clock (regulates.keeps declared residence_ns stamps member ruled) in
    let sized : All (λ (f : Frame). f.bits ≤ bits_of (declared member).max_octets)
    (map (framed told_of wire_of) s.passed) =
    All-map (λ (f : Frame). f.bits ≤ bits_of (declared member).max_octets) (framed told_of wire_of) s.passed
    (λ i d h. (s.known i d h).sized) in
    let c = is_rule.conforms (declared member) (map (framed told_of wire_of) s.passed) ruled sized kept in
    rw (← s.truly) (conformed clock shows declared member offers local verdicts k o s c)

pub true_output : TrueOutputConforms
true_output = output_by bucket_rule ats_is_regulator.rule

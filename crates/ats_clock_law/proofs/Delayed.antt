use Rattle.std.proofs.Common.{◌≡◌, ℕ, ◌+◌, ◌-◌, ◌*◌, ◌<◌, ◌≤◌, Bool, true, false, List, [], ◌∷◌, get_or, map}
use Rattle.std.proofs.Common.{refl, ap, mul-le-mul_left, arith}
use Rattle.std.specs.Prelude.{◌==◌, All, zip, IsTrue}
use Rattle.std.specs.List.{AllZip}
use Rattle.std.specs.List.Sorted.{IsNonDecreasingBy}
use Rattle.std.proofs.lemmas.List.Elements.{All-map, All-nil, All-cons, All-head, All-tail}
use Rattle.std.proofs.lemmas.List.Kept.{IsNonDecreasingBy-filter}
use Rattle.ats_num.specs.declared.time.TheConstants.{PS_PER_NS}
use Rattle.ats_num.specs.declared.time.Ps.{Ps}
use Rattle.ats_num.specs.Wire.{bits_of}
use Rattle.ats_streams.specs.declared.traffic.Declared.{Declared}
use Rattle.ats_streams.specs.Traffic.{IsRuled, is_declared_size}
use Rattle.ats_bucket.specs.Conforming.{Frame}
use Rattle.ats_group.specs.declared.verdict.Verdict.{Verdict}
use Rattle.ats_group.specs.declared.verdict.Verdict.TheVariants.{Eligible, Late, Size}
use Rattle.ats_group.specs.Group.{Offer}
use Rattle.ats_group.specs.Judge.{bucket_rule}
use Rattle.ats_group_law.specs.Shaping.{IsEligibleAgain, Passage, frames_before, offers_of}
use Rattle.ats_clock.specs.declared.clock.TheConstants.{MILLION}
use Rattle.ats_clock.specs.declared.committed.Committed.{Committed}
use Rattle.ats_clock.specs.Clock.{DeclaredClock, KeepsClock}
use Rattle.ats_clock.specs.Laws.{IsNoGreater}
use Rattle.ats_clock.specs.Rates.{output_of, scheduler_for}
use Rattle.ats_clock_law.specs.Retiming.{ConformTo}
use Rattle.ats_clock_law.specs.TrueTime.{IsTrueVerdict, committed_of, stamped, stamped_offers}
use Rattle.ats_clock_law.specs.Crossing.{Crossing, DelayedByNothing, HasRoom, IsEligibleWithin}
use Rattle.ats_clock_law.specs.Crossing.{ShapingIsFreeByClocks, crossing_offers, crossings_of, eligible_frames}
use Rattle.ats_clock_law.specs.Crossing.{least_eligible, passages_by, put_back}
use Rattle.ats_clock_law.proofs.Enough.{scheduler_enough, greater_enough}
use Rattle.ats_clock_law.proofs.Pairs.{AllPairs-from_order, order-mapped}
use Rattle.ats_clock_law.proofs.PutBack.{put_back-earlier, put_back-offers, put_back_come}
use Rattle.ats_clock_law.proofs.Retiming.{Gains, framed, retimed}

-- a frame by this bridge's clock, as if its way had taken the bound
abbrev due_of : (ℕ → ℕ) → ℕ → Crossing → ℕ
due_of shows bound x = shows (x.eligible + bound)

abbrev eligible_of : Crossing → ℕ
eligible_of x = x.eligible

abbrev wire_of : Crossing → ℕ
wire_of x = bits_of x.offer.octets

abbrev passage_of : (ℕ → ℕ) → ℕ → Crossing → Passage
passage_of shows bound x = record { since = shows (x.eligible + bound); offer = stamped shows x.offer }

own-due : (shows : ℕ → ℕ) (bound member : ℕ) (b : Bool) (x : Crossing) (xs : List Crossing)
    → frames_before member (passages_by shows bound xs)
    ≡ map (framed (due_of shows bound) wire_of) (crossings_of member xs)
    → x.offer.member == member ≡ b → frames_before member (passages_by shows bound (x ∷ xs))
    ≡ map (framed (due_of shows bound) wire_of) (crossings_of member (x ∷ xs))
own-due shows bound member true x xs e t =
    rw t (ap (λ (fs : List Frame). framed (due_of shows bound) wire_of x ∷ fs) e)
own-due shows bound member false x xs e t = rw t e

frames-due : (shows : ℕ → ℕ) (bound member : ℕ) (xs : List Crossing)
    → frames_before member (passages_by shows bound xs)
    ≡ map (framed (due_of shows bound) wire_of) (crossings_of member xs)
frames-due shows bound member [] = refl
frames-due shows bound member (x ∷ xs) =
    own-due shows bound member (x.offer.member == member) x xs (frames-due shows bound member xs) refl

-- from the time that a frame was eligible to that of its due time by this clock
gains_due : (clock : DeclaredClock) (shows : ℕ → ℕ) (bound : ℕ) → KeepsClock clock shows → (x y : Crossing)
    → x.eligible ≤ y.eligible → Gains (MILLION - clock.deviation_ppm) MILLION (MILLION * clock.step_ps) eligible_of
    (due_of shows bound) x y
gains_due clock shows bound k x y h =
    let g = k.no_slower (x.eligible + bound) (y.eligible + bound) (omega arith) in
    let same : y.eligible + bound - (x.eligible + bound) ≡ y.eligible - x.eligible = omega arith in
    rw (← same) g

due-conform : (clock : DeclaredClock) (shows : ℕ → ℕ) (bound : ℕ) (arriving scheduler : Committed) (member : ℕ)
    (xs : List Crossing) → KeepsClock clock shows → clock.deviation_ppm < MILLION
    → IsNoGreater (scheduler_for clock arriving) scheduler → IsNonDecreasingBy (λ (x : Crossing). x.eligible) xs
    → ConformTo arriving (eligible_frames member xs)
    → ConformTo scheduler (map (framed (due_of shows bound) wire_of) (crossings_of member xs))
due-conform clock shows bound arriving scheduler member xs k below no_less o c =
    let own : Crossing → Bool = λ (x : Crossing). x.offer.member == member in
    let kept = IsNonDecreasingBy-filter eligible_of own xs o in
    let ahead = AllPairs-from_order eligible_of (crossings_of member xs) kept in
    let gain : Crossing → Crossing → Type 0 = Gains (MILLION - clock.deviation_ppm) MILLION (MILLION * clock.step_ps)
    eligible_of (due_of shows bound) in
    retimed (MILLION - clock.deviation_ppm) MILLION (MILLION * clock.step_ps) arriving scheduler eligible_of
    (due_of shows bound) wire_of (crossings_of member xs)
    (λ i j d h l. k.in_order _ _ (let e = kept i j d h l in omega arith))
    (λ i j d h l. gains_due clock shows bound k (get_or (crossings_of member xs) i d)
    (get_or (crossings_of member xs) j d) (ahead i j d h l))
    (greater_enough (MILLION - clock.deviation_ppm) MILLION (MILLION * clock.step_ps) arriving
    (scheduler_for clock arriving) scheduler (scheduler_enough clock arriving below) no_less) c

-- the residence by this clock
stays : (gained fast waited step residence : ℕ) → MILLION * gained ≤ fast * waited + MILLION * step
    → fast * waited + MILLION * step ≤ MILLION * residence → gained ≤ residence
stays gained fast waited step residence h g =
    let whole : MILLION * gained ≤ MILLION * residence = omega arith in omega arith

may_stay : (clock : DeclaredClock) (shows : ℕ → ℕ) (residence from to : ℕ) → KeepsClock clock shows → from ≤ to
    → (MILLION + clock.deviation_ppm) * (to - from) + MILLION * clock.step_ps ≤ MILLION * residence
    → shows to + 0 ≤ shows from + residence
may_stay clock shows residence from to k h e =
    let s = stays (shows to - shows from) (MILLION + clock.deviation_ppm) (to - from) clock.step_ps residence
    (k.no_faster from to h) e in
    omega arith

pub delayed_by_nothing : DelayedByNothing
delayed_by_nothing clock shows declared residence_ns arriving bound xs k c r = record {
  ruled = All-map (λ (p : Passage). IsRuled (declared p.offer.member)) (passage_of shows bound) xs r.ruled;
  sized = All-map (λ (p : Passage). IsTrue (is_declared_size (declared p.offer.member) p.offer.octets))
      (passage_of shows bound) xs r.sized;
  in_order =
      order-mapped (λ (p : Passage). p.since) (passage_of shows bound) xs
      (λ i j d h l. k.in_order _ _ (let e = c.in_order i j d h l in omega arith));
  kept = All-map (λ (p : Passage). bucket_rule (declared p.offer.member)
      (frames_before p.offer.member (passages_by shows bound xs))) (passage_of shows bound) xs
      (λ i d h. (
      let member : ℕ = (get_or xs i d).offer.member in
      rw (frames-due shows bound member xs)
      (due-conform clock shows bound (arriving member) (committed_of (declared member)) member xs k r.deviation
      (r.scheduled i d h) c.in_order (c.conformed i d h))));
  arrives = All-map (λ (p : Passage). p.offer.arrival ≤ p.since + 0) (passage_of shows bound) xs
      (λ i d h. (let m = k.in_order _ _ (c.arrives i d h) in omega arith));
  may_stay = All-map (λ (p : Passage). p.since + 0 ≤ p.offer.arrival + PS_PER_NS * residence_ns)
      (passage_of shows bound) xs
      (λ i d h. may_stay clock shows (PS_PER_NS * residence_ns) _ _ k (c.arrives i d h) (r.may_stay i d h));
}

-- there is room for frames that are put back where there is for them as they were
earlier_stays : (fast step residence bound arrival early late : ℕ) → early ≤ late
    → fast * (late + bound - arrival) + step ≤ residence → fast * (early + bound - arrival) + step ≤ residence
earlier_stays fast step residence bound arrival early late h e =
    let less : early + bound - arrival ≤ late + bound - arrival = omega arith in
    omega (arith, mul-le-mul_left fast less)

stays_back : (fast step residence bound : ℕ) (xs : List Crossing)
    → All (λ (x : Crossing). fast * (x.eligible + bound - x.offer.arrival) + step ≤ residence) xs
    → All (λ (x : Crossing). fast * (x.eligible + bound - x.offer.arrival) + step ≤ residence) (put_back xs)
stays_back fast step residence bound [] a =
    All-nil (λ (x : Crossing). fast * (x.eligible + bound - x.offer.arrival) + step ≤ residence)
stays_back fast step residence bound (x ∷ xs) a =
    All-cons (λ (x : Crossing). fast * (x.eligible + bound - x.offer.arrival) + step ≤ residence)
    (record x { eligible = least_eligible x xs }) (put_back xs)
    (earlier_stays fast step residence bound x.offer.arrival (least_eligible x xs) x.eligible
    (put_back-earlier (x ∷ xs)).0
    (All-head (λ (x : Crossing). fast * (x.eligible + bound - x.offer.arrival) + step ≤ residence) x xs a))
    (stays_back fast step residence bound xs
    (All-tail (λ (x : Crossing). fast * (x.eligible + bound - x.offer.arrival) + step ≤ residence) x xs a))

room_back : (clock : DeclaredClock) (declared : ℕ → Declared) (residence_ns : ℕ) (arriving : ℕ → Committed)
    (bound : ℕ) (xs : List Crossing) → HasRoom clock declared residence_ns arriving bound xs
    → HasRoom clock declared residence_ns arriving bound (put_back xs)
room_back clock declared residence_ns arriving bound xs r = record {
  deviation = r.deviation;
  ruled = put_back-offers (λ (o : Offer). IsRuled (declared o.member)) xs r.ruled;
  sized = put_back-offers (λ (o : Offer). IsTrue (is_declared_size (declared o.member) o.octets)) xs r.sized;
  scheduled = put_back-offers (λ (o : Offer). IsNoGreater (scheduler_for clock (arriving o.member))
      (committed_of (declared o.member))) xs r.scheduled;
  may_stay = stays_back (MILLION + clock.deviation_ppm) (MILLION * clock.step_ps)
      (MILLION * (PS_PER_NS * residence_ns)) bound xs r.may_stay;
}

-- the same offers come
back-offers : (shows : ℕ → ℕ) (bound : ℕ) (xs : List Crossing)
    → offers_of (passages_by shows bound (put_back xs)) ≡ stamped_offers shows (crossing_offers xs)
back-offers shows bound [] = refl
back-offers shows bound (x ∷ xs) = ap (λ (os : List Offer). stamped shows x.offer ∷ os) (back-offers shows bound xs)

-- a verdict by the clock within the due time is one in true time within the bound
truly_within : (shows : ℕ → ℕ) (bound : ℕ) (x : Crossing) (early : ℕ) (v w : Verdict) → early ≤ x.eligible
    → x.offer.arrival ≤ early + bound
    → ((e : Ps) × (v ≡ Eligible e) × (e.0 ≤ shows (early + bound) + 0)) → IsTrueVerdict shows x.offer v w
    → IsEligibleWithin bound x w
truly_within shows bound x early (Eligible told) w h a (e, is, within) (t, true_is, eligible) =
    let same : told ≡ e = cc in
    let shown : told.0 ≤ shows (early + bound) = (let n = ap (λ (p : Ps). p.0) same in omega arith) in
    (t, true_is, (let l = eligible.least (early + bound) a shown in omega arith))
truly_within shows bound x early (Late told) w h a (e, is, within) t = absurd (cc)
truly_within shows bound x early Size w h a (e, is, within) t = absurd (cc)

within : (shows : ℕ → ℕ) (bound : ℕ) (xs : List Crossing) (local verdicts : List Verdict)
    → All (λ (x : Crossing). x.offer.arrival ≤ x.eligible + bound) (put_back xs)
    → AllZip (IsEligibleAgain 0) (passages_by shows bound (put_back xs)) local
    → AllZip (λ (judged : Offer × Verdict) (verdict : Verdict). IsTrueVerdict shows judged.0 judged.1 verdict)
    (zip (crossing_offers xs) local) verdicts → AllZip (IsEligibleWithin bound) xs verdicts
within shows bound [] [] [] a again t = tt
within shows bound [] [] (w ∷ verdicts) a again t = absurd t
within shows bound [] (v ∷ local) verdicts a again t = absurd again
within shows bound (x ∷ xs) [] verdicts a again t = absurd again
within shows bound (x ∷ xs) (v ∷ local) [] a again t = absurd t
within shows bound (x ∷ xs) (v ∷ local) (w ∷ verdicts) a again t = (
  truly_within shows bound x (least_eligible x xs) v w (put_back-earlier (x ∷ xs)).0
      (All-head (λ (x : Crossing). x.offer.arrival ≤ x.eligible + bound) (record x { eligible = least_eligible x xs })
      (put_back xs) a) again.0 t.0,
  within shows bound xs local verdicts
      (All-tail (λ (x : Crossing). x.offer.arrival ≤ x.eligible + bound) (record x { eligible = least_eligible x xs })
      (put_back xs) a) again.1 t.1,
)

pub free_by_clocks : ShapingIsFreeByClocks
free_by_clocks before clock shows_before shows scheduled judge declared residence_ns bound xs verdicts c k r reg t =
    let back = (put_back_come before shows_before scheduled bound xs c).come in
    let arriving : ℕ → Committed = λ member. output_of before (scheduled member) in
    let delayed = delayed_by_nothing clock shows declared residence_ns arriving bound (put_back xs) k back
    (room_back clock declared residence_ns arriving bound xs r) in
    let again : AllZip (IsEligibleAgain 0) (passages_by shows bound (put_back xs))
    (judge declared residence_ns (stamped_offers shows (crossing_offers xs))) =
    rw (← back-offers shows bound xs)
    (reg.free declared residence_ns 0 (passages_by shows bound (put_back xs)) delayed) in
    within shows bound xs (judge declared residence_ns (stamped_offers shows (crossing_offers xs))) verdicts
    back.arrives again t

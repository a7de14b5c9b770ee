use Rattle.std.proofs.Common.{get_or, ◌≡◌, ℕ, ◌+◌, ◌*◌, ◌≤◌, Bool, true, false, List, [], ◌∷◌, cond, map, refl}
use Rattle.std.proofs.Common.{inl, inr, arith}
use Rattle.std.specs.Prelude.{◌==◌, All, AllPairs, fold, min}
use Rattle.std.specs.List.{AllZip}
use Rattle.std.specs.List.Sorted.{IsNonDecreasingBy}
use Rattle.std.proofs.lemmas.Bool.{cases_lt}
use Rattle.std.proofs.lemmas.List.Elements.{All-nil, All-cons, All-head, All-tail}
use Rattle.std.proofs.lemmas.List.Kept.{AllPairs-cons, AllPairs-filter, IsNonDecreasingBy-filter}
use Rattle.ats_num.specs.Wire.{bits_of}
use Rattle.ats_group.specs.Group.{Offer}
use Rattle.ats_clock.specs.declared.clock.TheConstants.{MILLION}
use Rattle.ats_clock.specs.declared.committed.Committed.{Committed}
use Rattle.ats_clock.specs.Clock.{DeclaredClock, KeepsClock}
use Rattle.ats_clock.specs.Rates.{output_of}
use Rattle.ats_clock_law.specs.Retiming.{ConformTo}
use Rattle.ats_clock_law.specs.TrueTime.{IsTrueEligibility}
use Rattle.ats_clock_law.specs.Crossing.{LeaveInOrder, Crossing, PutBackComeInOrder}
use Rattle.ats_clock_law.specs.Crossing.{crossings_of, eligible_frames, least_eligible, put_back, told_frames}
use Rattle.ats_clock_law.proofs.Enough.{output_enough}
use Rattle.ats_clock_law.proofs.Pairs.{All-with, All-both, AllPairs-with, order-from_AllPairs}
use Rattle.ats_clock_law.proofs.Pairs.{order-first, order-rest}
use Rattle.ats_clock_law.proofs.Retiming.{Gains, framed, retimed}
use Rattle.ats_clock_law.proofs.TrueTime.{order_kept, IsAbout, about, told_gain}

-- the least of a time and of those of some frames
abbrev least_of : ℕ → List Crossing → ℕ
least_of t xs = fold (λ (t : ℕ) (y : Crossing). min t y.eligible) t xs

lesser : (P : ℕ → Type 0) (s t : ℕ) → P s → P t → P (min s t)
lesser P s t p q = elim (cases_lt s t) [
  | inl h ↦ (let e : min s t ≡ s = omega arith in rw e p)
  | inr h ↦ (let e : min s t ≡ t = omega arith in rw e q)
]

-- it is one of them
least-is : (P : ℕ → Type 0) (t : ℕ) (xs : List Crossing) → P t → All (λ (y : Crossing). P y.eligible) xs
    → P (least_of t xs)
least-is P t [] p a = p
least-is P t (x ∷ xs) p a =
    least-is P (min t x.eligible) xs (lesser P t x.eligible p (All-head (λ (y : Crossing). P y.eligible) x xs a))
    (All-tail (λ (y : Crossing). P y.eligible) x xs a)

-- and no more than the first of them
least-le : (t : ℕ) (xs : List Crossing) → least_of t xs ≤ t
least-le t [] = omega arith
least-le t (x ∷ xs) = let rest = least-le (min t x.eligible) xs in omega arith

least-mono : (s t : ℕ) (xs : List Crossing) → s ≤ t → least_of s xs ≤ least_of t xs
least-mono s t [] h = h
least-mono s t (x ∷ xs) h = least-mono (min s x.eligible) (min t x.eligible) xs (omega arith)

-- nor than any later least time
least-first : (t : ℕ) (xs : List Crossing) → All (λ (y : Crossing). least_of t xs ≤ y.eligible) (put_back xs)
least-first t [] = All-nil (λ (y : Crossing). least_of t [] ≤ y.eligible)
least-first t (x ∷ xs) =
    All-cons (λ (y : Crossing). least_of t (x ∷ xs) ≤ y.eligible)
    (record x { eligible = least_eligible x xs }) (put_back xs)
    (least-mono (min t x.eligible) x.eligible xs (omega arith)) (least-first (min t x.eligible) xs)

pub put_back-ahead : (xs : List Crossing) → AllPairs (λ (x y : Crossing). x.eligible ≤ y.eligible) (put_back xs)
put_back-ahead [] = λ i j d h k. absurd (omega arith)
put_back-ahead (x ∷ xs) =
    AllPairs-cons (λ (x y : Crossing). x.eligible ≤ y.eligible) (record x { eligible = least_eligible x xs })
    (put_back xs) (least-first x.eligible xs) (put_back-ahead xs)

pub put_back-earlier : (xs : List Crossing) → AllZip (λ (x y : Crossing). y.eligible ≤ x.eligible) xs (put_back xs)
put_back-earlier [] = tt
put_back-earlier (x ∷ xs) = (least-le x.eligible xs, put_back-earlier xs)

-- what is known of the offers stays
pub put_back-offers : (P : Offer → Type 0) (xs : List Crossing) → All (λ (x : Crossing). P x.offer) xs
    → All (λ (x : Crossing). P x.offer) (put_back xs)
put_back-offers P [] a = All-nil (λ (x : Crossing). P x.offer)
put_back-offers P (x ∷ xs) a =
    All-cons (λ (x : Crossing). P x.offer) (record x { eligible = least_eligible x xs }) (put_back xs)
    (All-head (λ (x : Crossing). P x.offer) x xs a)
    (put_back-offers P xs (All-tail (λ (x : Crossing). P x.offer) x xs a))

-- what a frame is by the clock of the hop before, where it stands and where it is put back to
abbrev IsTold : (ℕ → ℕ) → Crossing → Type 0
IsTold shows x = (shows x.came ≤ x.told) × IsTrueEligibility shows x.came x.told x.eligible

abbrev IsShown : (ℕ → ℕ) → Crossing → Type 0
IsShown shows x = IsAbout shows x.told x.eligible × (x.told ≤ shows x.eligible)

shown_later : (shows : ℕ → ℕ) (told : ℕ) (y : Crossing) → told ≤ y.told → IsTold shows y → told ≤ shows y.eligible
shown_later shows told y h t = let s = t.1.shown in omega arith

put_back-shown : (clock : DeclaredClock) (shows : ℕ → ℕ) (xs : List Crossing) → KeepsClock clock shows
    → All (IsTold shows) xs → IsNonDecreasingBy (λ (x : Crossing). x.told) xs → All (IsShown shows) (put_back xs)
put_back-shown clock shows [] k a o = All-nil (IsShown shows)
put_back-shown clock shows (x ∷ xs) k a o =
    let t = All-head (IsTold shows) x xs a in
    let later = All-tail (IsTold shows) x xs a in
    let behind = order-first (λ (x : Crossing). x.told) x xs o in
    let enough : All (λ (y : Crossing). x.told ≤ shows y.eligible) xs =
    All-both (λ (y : Crossing). x.told ≤ y.told) (IsTold shows) (λ (y : Crossing). x.told ≤ shows y.eligible) xs
    (shown_later shows x.told) behind later in
    All-cons (IsShown shows) (record x { eligible = least_eligible x xs }) (put_back xs) (
      about clock shows x.came x.told x.eligible (least_eligible x xs) k t.0 t.1 (least-le x.eligible xs),
      least-is (λ (t : ℕ). x.told ≤ shows t) x.eligible xs t.1.shown enough,
    )
    (put_back-shown clock shows xs k later (order-rest (λ (x : Crossing). x.told) x xs o))

put_back-arrives : (bound : ℕ) (xs : List Crossing) → IsNonDecreasingBy (λ (x : Crossing). x.offer.arrival) xs
    → All (λ (x : Crossing). x.offer.arrival ≤ x.eligible + bound) xs
    → All (λ (x : Crossing). x.offer.arrival ≤ x.eligible + bound) (put_back xs)
put_back-arrives bound [] o a = All-nil (λ (x : Crossing). x.offer.arrival ≤ x.eligible + bound)
put_back-arrives bound (x ∷ xs) o a =
    let later = All-tail (λ (x : Crossing). x.offer.arrival ≤ x.eligible + bound) x xs a in
    let behind = order-first (λ (x : Crossing). x.offer.arrival) x xs o in
    let enough : All (λ (y : Crossing). x.offer.arrival ≤ y.eligible + bound) xs =
    All-both (λ (y : Crossing). x.offer.arrival ≤ y.offer.arrival)
    (λ (y : Crossing). y.offer.arrival ≤ y.eligible + bound)
    (λ (y : Crossing). x.offer.arrival ≤ y.eligible + bound) xs (λ y h g. omega arith) behind later in
    All-cons (λ (x : Crossing). x.offer.arrival ≤ x.eligible + bound)
    (record x { eligible = least_eligible x xs }) (put_back xs)
    (least-is (λ (t : ℕ). x.offer.arrival ≤ t + bound) x.eligible xs
    (All-head (λ (x : Crossing). x.offer.arrival ≤ x.eligible + bound) x xs a) enough)
    (put_back-arrives bound xs (order-rest (λ (x : Crossing). x.offer.arrival) x xs o) later)

-- a member's frames were told the same times
abbrev told_of : Crossing → ℕ
told_of x = x.told

abbrev eligible_of : Crossing → ℕ
eligible_of x = x.eligible

abbrev wire_of : Crossing → ℕ
wire_of x = bits_of x.offer.octets

own-told : (b : Bool) (x y : Crossing) (xs ys : List Crossing) → framed told_of wire_of x ≡ framed told_of wire_of y
    → map (framed told_of wire_of) xs ≡ map (framed told_of wire_of) ys
    → map (framed told_of wire_of) (cond b (x ∷ xs) xs) ≡ map (framed told_of wire_of) (cond b (y ∷ ys) ys)
own-told true x y xs ys e f = cc
own-told false x y xs ys e f = f

put_back-told : (member : ℕ) (xs : List Crossing) → told_frames member (put_back xs) ≡ told_frames member xs
put_back-told member [] = refl
put_back-told member (x ∷ xs) =
    own-told (x.offer.member == member) (record x { eligible = least_eligible x xs }) x
    (crossings_of member (put_back xs)) (crossings_of member xs) refl (put_back-told member xs)

gains_ahead : (clock : DeclaredClock) (shows : ℕ → ℕ) → KeepsClock clock shows → (x y : Crossing)
    → IsShown shows x → IsShown shows y → x.eligible ≤ y.eligible
    → Gains MILLION (MILLION + clock.deviation_ppm) (MILLION * clock.step_ps + clock.deviation_ppm) told_of eligible_of
    x y
gains_ahead clock shows k x y s t h = told_gain clock shows x.eligible y.eligible x.told y.told k h s.0 t.1

put_back-conform : (clock : DeclaredClock) (shows : ℕ → ℕ) (scheduler : Committed) (member : ℕ) (xs : List Crossing)
    → KeepsClock clock shows → All (IsShown shows) (put_back xs) → ConformTo scheduler (told_frames member xs)
    → ConformTo (output_of clock scheduler) (eligible_frames member (put_back xs))
put_back-conform clock shows scheduler member xs k s c =
    let ahead = put_back-ahead xs in
    let gain : Crossing → Crossing → Type 0 =
    Gains MILLION (MILLION + clock.deviation_ppm) (MILLION * clock.step_ps + clock.deviation_ppm) told_of eligible_of in
    let gains : AllPairs gain (put_back xs) =
    AllPairs-with (IsShown shows) (λ (x y : Crossing). x.eligible ≤ y.eligible) gain (put_back xs)
    (gains_ahead clock shows k) s ahead in
    let own : Crossing → Bool = λ (x : Crossing). x.offer.member == member in
    retimed MILLION (MILLION + clock.deviation_ppm) (MILLION * clock.step_ps + clock.deviation_ppm) scheduler
    (output_of clock scheduler) told_of eligible_of wire_of (crossings_of member (put_back xs))
    (IsNonDecreasingBy-filter eligible_of own (put_back xs) (order-from_AllPairs eligible_of (put_back xs) ahead))
    (AllPairs-filter gain own (put_back xs) gains) (output_enough clock scheduler) (rw (put_back-told member xs) c)

pub put_back_come : PutBackComeInOrder
put_back_come clock shows scheduled bound xs c =
    let told : All (IsTold shows) xs = λ i d h. (c.told i d h, c.eligible i d h) in
    let shown = put_back-shown clock shows xs c.keeps told c.in_order in
    record {
      no_later = put_back-earlier xs;
      come = record {
        in_order = order-from_AllPairs eligible_of (put_back xs) (put_back-ahead xs);
        conformed =
            All-with
            (λ (x : Crossing). ConformTo (scheduled x.offer.member) (told_frames x.offer.member xs))
            (λ (x : Crossing). ConformTo (output_of clock (scheduled x.offer.member))
            (eligible_frames x.offer.member (put_back xs))) (put_back xs)
            (λ x h. put_back-conform clock shows (scheduled x.offer.member) x.offer.member xs c.keeps shown h)
            (put_back-offers (λ (o : Offer). ConformTo (scheduled o.member) (told_frames o.member xs)) xs c.conformed);
        arrives = put_back-arrives bound xs c.arrive_in_order c.arrives;
      };
    }

pub leave_in_order : LeaveInOrder
leave_in_order clock shows xs k arrived eligible chosen =
    order-from_AllPairs told_of xs (λ i j d h l. elim (cases_lt (get_or xs j d).told (get_or xs i d).told) [
      | inl before ↦ chosen i j d h l (
          order_kept clock shows (get_or xs j d).came (get_or xs j d).told (get_or xs j d).eligible
          (get_or xs i d).came (get_or xs i d).told (get_or xs i d).eligible k (arrived j d l) (eligible j d l)
          (eligible i d (omega arith)) before)
      | inr fine ↦ fine
    ])

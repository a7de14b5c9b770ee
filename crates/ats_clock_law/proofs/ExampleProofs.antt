use Rattle.std.proofs.Common.{◌≡◌, ℕ, zero, suc, ◌+◌, ◌-◌, ◌*◌, ◌/◌, ◌<◌, ◌≤◌, List, [], ◌∷◌, length, refl, ap, arith}
use Rattle.std.specs.Prelude.{All, AllPairs, IsTrue}
use Rattle.std.specs.List.{AllZip}
use Rattle.std.specs.List.Sorted.{IsNonDecreasingBy}
use Rattle.std.proofs.lemmas.List.Elements.{All-nil, All-cons}
use Rattle.std.proofs.lemmas.List.Kept.{AllPairs-cons}
use Rattle.ats_num.specs.declared.time.TheConstants.{PS_PER_NS, PS_PER_SECOND}
use Rattle.ats_streams.specs.Traffic.{IsRuled, is_declared_size}
use Rattle.ats_bucket.specs.Conforming.{Conforms, Frame, bits_between, time_between}
use Rattle.ats_group.specs.declared.verdict.Verdict.{Verdict}
use Rattle.ats_group.specs.declared.verdict.Verdict.TheVariants.{Eligible, Late, Size}
use Rattle.ats_group_law.proofs.Order.{from_frames}
use Rattle.ats_clock.specs.declared.clock.TheConstants.{MILLION}
use Rattle.ats_clock.specs.Clock.{KeepsClock, declared_clock, ideal}
use Rattle.ats_clock.specs.Laws.{IsNoGreater}
use Rattle.ats_clock.specs.Rates.{committed, scheduler_for}
use Rattle.ats_clock_law.specs.Retiming.{ConformTo, TwiceTimed}
use Rattle.ats_clock_law.specs.TrueTime.{IsTrueEligibility, committed_of}
use Rattle.ats_clock_law.specs.Counted.{Told}
use Rattle.ats_clock_law.specs.Crossing.{IsChosen, Crossing, IsEligibleWithin, told_frames}
use Rattle.ats_clock_law.specs.Examples.{AheadOfTime, BothAreCounted, NotAsked, OutputIsFaster}
use Rattle.ats_clock_law.specs.Examples.{OutputIsCloser, OvertakenInATick, SlowClock}
use Rattle.ats_clock_law.specs.Examples.{StepIsNeeded, as_asked, as_declared, overtaking, too_narrow}
use Rattle.ats_clock_law.specs.Examples.{crossing_at, eligible_at, fast, slow, ticking, two_crossings, two_ticks}
use Rattle.ats_clock_law.proofs.Pairs.{order-from_AllPairs}

-- what a quotient is about
quotient_is : (t : ℕ) → (10000 * (t / 10000) ≤ t) × (t < 10000 * (t / 10000) + 10000)
quotient_is t = (omega arith, omega arith)

eighth_is : (t : ℕ) → (8000 * (t / 8000) ≤ t) × (t < 8000 * (t / 8000) + 8000)
eighth_is t = (omega arith, omega arith)

ticking_keeps : KeepsClock (declared_clock 0 8000) ticking
ticking_keeps = record {
  in_order = λ s t h. (let a = eighth_is s in let b = eighth_is t in omega (arith, a.0, a.1, b.0, b.1));
  no_slower = λ s t h. (let a = eighth_is s in let b = eighth_is t in omega (arith, a.0, a.1, b.0, b.1));
  no_faster = λ s t h. (let a = eighth_is s in let b = eighth_is t in omega (arith, a.0, a.1, b.0, b.1));
}

fast_keeps : KeepsClock (declared_clock 100 1) fast
fast_keeps = record {
  in_order = λ s t h. (let a = quotient_is s in let b = quotient_is t in omega (arith, a.0, a.1, b.0, b.1));
  no_slower = λ s t h. (let a = quotient_is s in let b = quotient_is t in omega (arith, a.0, a.1, b.0, b.1));
  no_faster = λ s t h. (let a = quotient_is s in let b = quotient_is t in omega (arith, a.0, a.1, b.0, b.1));
}

slow_keeps : KeepsClock (declared_clock 100 1) slow
slow_keeps = record {
  in_order = λ s t h. (let a = quotient_is s in let b = quotient_is t in omega (arith, a.0, a.1, b.0, b.1));
  no_slower = λ s t h. (let a = quotient_is s in let b = quotient_is t in omega (arith, a.0, a.1, b.0, b.1));
  no_faster = λ s t h. (let a = quotient_is s in let b = quotient_is t in omega (arith, a.0, a.1, b.0, b.1));
}

-- two frames at these times
abbrev frames_at : ℕ → ℕ → ℕ → List Frame
frames_at first second bits = record { at = first; bits = bits } ∷ record { at = second; bits = bits } ∷ []

two_order : (first second bits : ℕ) → first ≤ second
    → IsNonDecreasingBy (λ (f : Frame). f.at) (frames_at first second bits)
two_order first second bits h zero zero d i j = omega arith
two_order first second bits h zero (suc zero) d i j = h
two_order first second bits h (suc zero) zero d i j = absurd (omega arith)
two_order first second bits h (suc zero) (suc zero) d i j = omega arith
two_order first second bits h zero (suc (suc j)) d k l = absurd (omega arith)
two_order first second bits h (suc zero) (suc (suc j)) d k l = absurd (omega arith)
two_order first second bits h (suc (suc i)) j d k l = absurd (omega arith)

-- the window from one of them to one
two_windows : (rate burst first second bits : ℕ) → first ≤ second → bits ≤ burst
    → PS_PER_SECOND * (bits + bits) ≤ rate * (second - first) + PS_PER_SECOND * burst
    → (i j : ℕ) → i ≤ j → j < length (frames_at first second bits)
    → PS_PER_SECOND * bits_between (frames_at first second bits) i j
    ≤ rate * time_between (frames_at first second bits) i j + PS_PER_SECOND * burst
two_windows rate burst first second bits h one both zero zero k l = omega arith
two_windows rate burst first second bits h one both zero (suc zero) k l = omega arith
two_windows rate burst first second bits h one both (suc zero) zero k l = absurd (omega arith)
two_windows rate burst first second bits h one both (suc zero) (suc zero) k l = omega arith
two_windows rate burst first second bits h one both zero (suc (suc j)) k l = absurd (omega arith)
two_windows rate burst first second bits h one both (suc zero) (suc (suc j)) k l = absurd (omega arith)
two_windows rate burst first second bits h one both (suc (suc i)) j k l = absurd (omega arith)

-- they conform where the burst has room for one, and the time between gives what both need
two_conform : (rate burst first second bits : ℕ) → first ≤ second → bits ≤ burst
    → PS_PER_SECOND * (bits + bits) ≤ rate * (second - first) + PS_PER_SECOND * burst
    → Conforms rate burst (frames_at first second bits)
two_conform rate burst first second bits h one both = record {
  in_order = from_frames (frames_at first second bits) (two_order first second bits h);
  within = two_windows rate burst first second bits h one both;
}

-- and only there
two_need : (rate burst first second bits : ℕ) → Conforms rate burst (frames_at first second bits)
    → PS_PER_SECOND * (bits + bits) ≤ rate * (second - first) + PS_PER_SECOND * burst
two_need rate burst first second bits c = let w = c.within 0 1 (omega arith) (omega arith) in omega arith

-- of two elements
of_two : {X : Type 0} (P : X → Type 0) (x y : X) → P x → P y → All P (x ∷ y ∷ [])
of_two P x y p q = All-cons P x (y ∷ []) p (All-cons P y [] q (All-nil P))

pair_of : {X : Type 0} (R : X → X → Type 0) (x y : X) → R x y → AllPairs R (x ∷ y ∷ [])
pair_of R x y r =
    AllPairs-cons R x (y ∷ []) (All-cons (R x) y [] r (All-nil (R x)))
    (AllPairs-cons R y [] (All-nil (R y)) (λ i j d h k. absurd (omega arith)))

abbrev tick : TwiceTimed
tick = record { first = 0; second = 0; bits = 12336 }

abbrev later_tick : TwiceTimed
later_tick = record { first = 123360; second = 120000; bits = 12336 }

pub step_is_needed : StepIsNeeded
step_is_needed = record {
  keeps = ticking_keeps;
  shown = (refl, refl);
  retimed = record {
    in_order = order-from_AllPairs (λ (f : TwiceTimed). f.second) two_ticks
        (pair_of (λ (f g : TwiceTimed). f.second ≤ g.second) tick later_tick (omega arith));
    gains = pair_of (λ (f g : TwiceTimed). MILLION * (g.first - f.first) ≤ MILLION * (g.second - f.second)
        + MILLION * 8000) tick later_tick (omega arith);
  };
  scheduler = refl;
  enough = record { positive = omega arith; rate = omega arith; burst = omega arith };
  before = two_conform 100000000000 12336 0 123360 12336 (omega arith) (omega arith) (omega arith);
  after = two_conform 100000000000 13136 0 120000 12336 (omega arith) (omega arith) (omega arith);
  not_before = λ c. (let w = two_need 100000000000 12336 0 120000 12336 c in absurd (omega arith));
}

pub output_is_closer : OutputIsCloser
output_is_closer = record {
  shown = refl;
  by_clock = two_conform 100000000000 12336 0 128000 12336 (omega arith) (omega arith) (omega arith);
  output = refl;
  conforms = two_conform 100000000000 13136 7999 128000 12336 (omega arith) (omega arith) (omega arith);
  not_declared = λ c. (let w = two_need 100000000000 12336 7999 128000 12336 c in absurd (omega arith));
}

declared_ruled : IsRuled (as_declared 0)
declared_ruled = record {
  rate = record { positive = omega arith; within = omega arith };
  sizes = record { least = omega arith; ordered = omega arith; most = omega arith };
  covers = omega arith;
  burst = omega arith;
}

asked_ruled : IsRuled (as_asked 0)
asked_ruled = record {
  rate = record { positive = omega arith; within = omega arith };
  sizes = record { least = omega arith; ordered = omega arith; most = omega arith };
  covers = omega arith;
  burst = omega arith;
}

-- eligible on its arrival
at_once : (shows : ℕ → ℕ) (arrival told : ℕ) → told ≤ shows arrival → IsTrueEligibility shows arrival told arrival
at_once shows arrival told h = record { arrived = omega arith; shown = h; least = λ t g s. g }

by_fast : IsTrueEligibility fast 12336000 123360000 123347666
by_fast = record {
  arrived = omega arith;
  shown = omega arith;
  least = λ t g s. (let a = quotient_is t in omega (arith, a.0, a.1));
}

by_slow : IsTrueEligibility slow 124860000 124859850 124872337
by_slow = record {
  arrived = omega arith;
  shown = omega arith;
  least = λ t g s. (let a = quotient_is t in omega (arith, a.0, a.1));
}

pub output_is_faster : OutputIsFaster
output_is_faster = record {
  keeps = fast_keeps;
  ruled = declared_ruled;
  told = refl;
  truly = (
    (record { 0 = 0 }, refl, at_once fast 0 0 (omega arith)),
    ((record { 0 = 123347666 }, refl, by_fast), tt),
  );
  output = refl;
  conforms = two_conform 100010000 12337 0 123347666 12336 (omega arith) (omega arith) (omega arith);
  not_declared = λ c. (let w = two_need 100000000 12336 0 123347666 12336 c in absurd (omega arith));
}

abbrev told_first : Told
told_first = record { came = 0; told = 0; eligible = 0; bits = 12336 }

abbrev told_second : Told
told_second = record { came = 12336000; told = 123360000; eligible = 123347666; bits = 12336 }

pub both_are_counted : BothAreCounted
both_are_counted = record {
  told = record {
    keeps = fast_keeps;
    told = of_two (λ (f : Told). fast f.came ≤ f.told) told_first told_second (omega arith) (omega arith);
    eligible = of_two (λ (f : Told). IsTrueEligibility fast f.came f.told f.eligible) told_first told_second
        (at_once fast 0 0 (omega arith)) by_fast;
    conformed = two_conform 100000000 12336 0 123360000 12336 (omega arith) (omega arith) (omega arith);
  };
  both = refl;
  by_output = omega arith;
  not_declared = λ h. absurd (omega arith);
}

ideal_keeps : KeepsClock ideal (λ t. t)
ideal_keeps = record {
  in_order = λ s t h. h;
  no_slower = λ s t h. omega arith;
  no_faster = λ s t h. omega arith;
}

abbrev first : Crossing
first = crossing_at 0

abbrev second : Crossing
second = crossing_at 123360000

of_both : (P : Crossing → Type 0) → P first → P second → All P two_crossings
of_both P p q = of_two P first second p q

pub slow_clock : SlowClock
slow_clock = record {
  station = record {
    keeps = ideal_keeps;
    told = of_both (λ (x : Crossing). x.came ≤ x.told) (omega arith) (omega arith);
    eligible = of_both (λ (x : Crossing). IsTrueEligibility (λ t. t) x.came x.told x.eligible)
        (at_once (λ t. t) 0 0 (omega arith)) (at_once (λ t. t) 123360000 123360000 (omega arith));
    in_order =
        order-from_AllPairs (λ (x : Crossing). x.told) two_crossings
        (pair_of (λ (x y : Crossing). x.told ≤ y.told) first second (omega arith));
    conformed = of_both (λ (x : Crossing). ConformTo (committed 100000000 12336)
        (told_frames x.offer.member two_crossings))
        (two_conform 100000000 12336 0 123360000 12336 (omega arith) (omega arith) (omega arith))
        (two_conform 100000000 12336 0 123360000 12336 (omega arith) (omega arith) (omega arith));
    arrive_in_order =
        order-from_AllPairs (λ (x : Crossing). x.offer.arrival) two_crossings
        (pair_of (λ (x y : Crossing). x.offer.arrival ≤ y.offer.arrival) first second (omega arith));
    arrives = of_both (λ (x : Crossing). x.offer.arrival ≤ x.eligible + 1500000) (omega arith) (omega arith);
  };
  keeps = slow_keeps;
  scheduler = refl;
  room = record {
    deviation = omega arith;
    ruled = of_both (λ (x : Crossing). IsRuled (as_asked x.offer.member)) asked_ruled asked_ruled;
    sized = of_both (λ (x : Crossing). IsTrue (is_declared_size (as_asked x.offer.member) x.offer.octets)) refl refl;
    scheduled = of_both (λ (x : Crossing). IsNoGreater
        (scheduler_for (declared_clock 100 1) (committed 100000000 12336)) (committed_of (as_asked x.offer.member)))
        (record { rate = omega arith; burst = omega arith })
        (record { rate = omega arith; burst = omega arith });
    may_stay = of_both (λ (x : Crossing).
        (MILLION + 100) * (x.eligible + 1500000 - x.offer.arrival) + MILLION * 1 ≤ MILLION * (PS_PER_NS * 10))
        (omega arith) (omega arith);
  };
  verdicts = (
    (record { 0 = 1500000 }, refl, at_once slow 1500000 1499850 (omega arith)),
    ((record { 0 = 124860000 }, refl, at_once slow 124860000 124847514 (omega arith)), tt),
  );
  within = (
    (record { 0 = 1500000 }, refl, omega arith),
    ((record { 0 = 124860000 }, refl, omega arith), tt),
  );
}

abbrev time_told : Verdict → ℕ
time_told (Eligible e) = e.0
time_told (Late e) = e.0
time_told Size = 0

not_within : ¬ AllZip (IsEligibleWithin 1500000) two_crossings (eligible_at 1500000 ∷ eligible_at 124872337 ∷ [])
not_within again =
    let late : IsEligibleWithin 1500000 second (eligible_at 124872337) = again.1.0 in
    let same : 124872337 ≡ late.0.0 = ap time_told late.1 in
    let soon : late.0.0 ≤ 123360000 + 1500000 = late.2 in
    absurd (omega arith)

pub not_asked : NotAsked
not_asked = record {
  ruled = declared_ruled;
  verdicts = (
    (record { 0 = 1500000 }, refl, at_once slow 1500000 1499850 (omega arith)),
    ((record { 0 = 124872337 }, refl, by_slow), tt),
  );
  not_within = not_within;
}

abbrev frame_at : ℕ → ℕ → Frame
frame_at at bits = record { at = at; bits = bits }

one_order : (at bits : ℕ) → IsNonDecreasingBy (λ (f : Frame). f.at) (frame_at at bits ∷ [])
one_order at bits zero zero d h k = omega arith
one_order at bits zero (suc j) d h k = absurd (omega arith)
one_order at bits (suc i) j d h k = absurd (omega arith)

one_window : (rate burst at bits : ℕ) → bits ≤ burst → (i j : ℕ) → i ≤ j → j < length (frame_at at bits ∷ [])
    → PS_PER_SECOND * bits_between (frame_at at bits ∷ []) i j
    ≤ rate * time_between (frame_at at bits ∷ []) i j + PS_PER_SECOND * burst
one_window rate burst at bits h zero zero k l = omega arith
one_window rate burst at bits h zero (suc j) k l = absurd (omega arith)
one_window rate burst at bits h (suc i) j k l = absurd (omega arith)

-- a frame alone conforms where the burst covers it
one_conforms : (rate burst at bits : ℕ) → bits ≤ burst → Conforms rate burst (frame_at at bits ∷ [])
one_conforms rate burst at bits h = record {
  in_order = from_frames (frame_at at bits ∷ []) (one_order at bits);
  within = one_window rate burst at bits h;
}

abbrev late_comer : Crossing
late_comer = record {
  came = 8003;
  told = 8000;
  eligible = 8003;
  offer = record { member = 0; arrival = 9003; octets = 1522 };
}

abbrev overtaken : Crossing
overtaken = record {
  came = 8001;
  told = 8000;
  eligible = 8001;
  offer = record { member = 1; arrival = 9500; octets = 1522 };
}

of_overtaking : (P : Crossing → Type 0) → P late_comer → P overtaken → All P overtaking
of_overtaking P p q = of_two P late_comer overtaken p q

pub overtaken_in_a_tick : OvertakenInATick
overtaken_in_a_tick = record {
  through = record {
    keeps = ticking_keeps;
    told = of_overtaking (λ (x : Crossing). ticking x.came ≤ x.told) (omega arith) (omega arith);
    eligible = of_overtaking (λ (x : Crossing). IsTrueEligibility ticking x.came x.told x.eligible)
        (at_once ticking 8003 8000 (omega arith)) (at_once ticking 8001 8000 (omega arith));
    in_order = order-from_AllPairs (λ (x : Crossing). x.told) overtaking
        (pair_of (λ (x y : Crossing). x.told ≤ y.told) late_comer overtaken (omega arith));
    conformed = of_overtaking (λ (x : Crossing). ConformTo (committed 100000000 12336)
        (told_frames x.offer.member overtaking))
        (one_conforms 100000000 12336 8000 12336 (omega arith))
        (one_conforms 100000000 12336 8000 12336 (omega arith));
    arrive_in_order = order-from_AllPairs (λ (x : Crossing). x.offer.arrival) overtaking
        (pair_of (λ (x y : Crossing). x.offer.arrival ≤ y.offer.arrival) late_comer overtaken (omega arith));
    arrives = of_overtaking (λ (x : Crossing). x.offer.arrival ≤ x.eligible + 2000) (omega arith) (omega arith);
  };
  chosen = pair_of IsChosen late_comer overtaken (λ h. omega arith);
  not_in_order = λ o. (let h = o 0 1 late_comer (omega arith) (omega arith) in absurd (omega arith));
  put_back = refl;
}

narrow_not_ruled : ¬ IsRuled (too_narrow 0)
narrow_not_ruled ruled = let covers : 12336 ≤ 672 = ruled.covers in absurd (omega arith)

pub ahead_of_time : AheadOfTime
ahead_of_time = record {
  keeps = record {
    in_order = λ s t h. omega arith;
    no_slower = λ s t h. omega arith;
    no_faster = λ s t h. omega arith;
  };
  told = refl;
  later = refl;
  not_ruled = narrow_not_ruled;
  seen = refl;
  seen_later = refl;
}

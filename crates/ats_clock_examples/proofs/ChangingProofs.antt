use Rattle.std.proofs.Common.{◌≡◌, ℕ, ◌+◌, ◌-◌, ◌*◌, ◌≤◌, max, true, List, [], ◌∷◌, map, ◌∙◌, inl, inr, get_or}
use Rattle.std.proofs.Common.{refl, sym, ap, subst, arith, lit<, lit≤}
use Rattle.std.specs.Prelude.{ℤ, nat_le, zip}
use Rattle.std.specs.List.{AllZip}
use Rattle.std.proofs.lemmas.Bool.{cases_lt, le-leb}
use Rattle.std.proofs.lemmas.List.Elements.{All-cons, All-nil}
use Rattle.std.proofs.Math.Nat.{mul-le-mul_left}
use Rattle.ats_num.specs.declared.time.TheConstants.{PS_PER_NS}
use Rattle.ats_num.specs.Division.{ceiling}
use Rattle.ats_num.specs.Wire.{bits_of}
use Rattle.ats_streams.specs.declared.traffic.Declared.{Declared}
use Rattle.ats_streams.specs.Traffic.{IsRuled, is_declared_size}
use Rattle.ats_bucket.specs.Integers.{nonnegative}
use Rattle.ats_bucket.specs.Scheduler.{holds_at}
use Rattle.ats_clock.specs.Clock.{KeepsClock, declared_clock}
use Rattle.ats_clock_law.specs.Examples.{fast}
use Rattle.ats_clock_law.specs.Ideal.{later_verdict}
use Rattle.ats_clock_law.specs.TrueTime.{IsTrueEligibility, IsTrueVerdict}
use Rattle.ats_clock_law.proofs.Shift.{shift_not_seen}
use Rattle.ats_network.specs.Network.{IsNetwork}
use Rattle.ats_group.specs.Group.{Offer, State, after, first, judged, verdict_on, verdicts_of}
use Rattle.ats_group.specs.Judge.{ats_judge}
use Rattle.ats_group.specs.declared.verdict.Verdict.{Verdict}
use Rattle.ats_group.specs.declared.verdict.Verdict.TheVariants.{Eligible, Size}
use Rattle.ats_trace.specs.Clocks.{IsJudgedBy, IsLegal}
use Rattle.ats_trace.specs.Eligibility.{scheduled_by}
use Rattle.ats_trace.specs.Projections.{Handed, handed_by}
use Rattle.ats_trace.specs.Run.{IsIdeal}
use Rattle.ats_clock_run_law.specs.Laws.{IsLegalInTrueTime}
use Rattle.ats_clock_run_law.proofs.TrueTime.{true_time_is_legal}
use Rattle.ats_examples.specs.ClockedRuns.{held_until, slow}
use Rattle.ats_examples.specs.Networks.{line_links}
use Rattle.ats_examples.proofs.ChangeProofs.{no_frame, time_in}
use Rattle.ats_examples.proofs.InOrder.{in_order}
use Rattle.ats_examples.proofs.NetworkTest.{network_by}
use Rattle.ats_examples.proofs.PartTest.{legal_by}
use Rattle.ats_clock_examples.specs.ChangingRates.{ClocksMayGain, GoesAtOneRate, RatesMayChange, deviating_line}
use Rattle.ats_clock_examples.specs.ChangingRates.{slow_then_fast, two_held}
use Rattle.ats_clock_examples.specs.Needs.{staying_nodes}
use Rattle.ats_clock_examples.specs.StaysByClock.{bridge_shows}
use Rattle.ats_clock_examples.proofs.ClockTest.{legal_with_by}
use Rattle.ats_clock_examples.proofs.FromLegal.{all_judged, second_judged}
use Rattle.ats_clock_examples.proofs.StayProofs.{fast_keeps, keeps, told}

-- Runs by clocks that gain, and whose rate changes, by computation.

is : IsNetwork deviating_line
is = network_by (staying_nodes 1000000 100 1) line_links deviating_line.streams [] refl refl

-- What the bridge's group judges of these frames by any clock that keeps what is declared.

-- the stream's scheduler there
abbrev has : ℕ → Declared
has = scheduled_by deviating_line 0

has_ruled : IsRuled (has 0)
has_ruled = record {
  rate = record { positive = lit≤ tt; within = lit≤ tt };
  sizes = record { least = lit≤ tt; ordered = lit≤ tt; most = lit≤ tt };
  covers = lit≤ tt;
  burst = lit≤ tt;
}

-- a verdict where the bucket decides
holds_until : (declared : Declared) (residence time : ℕ) (empty : ℤ) (arrival octets e : ℕ)
    → is_declared_size declared octets ≡ true
    → ceiling (nonnegative (holds_at empty (bits_of octets))) declared.rate ≡ e → arrival ≤ e → time ≤ e
    → e ≤ arrival + PS_PER_NS * residence
    → verdict_on declared residence time empty arrival octets ≡ Eligible (record { 0 = e })
holds_until declared residence time empty arrival octets e sized bucket after_arrival after_group stays =
    let c : ℕ = ceiling (nonnegative (holds_at empty (bits_of octets))) declared.rate in
    let latest : max (max arrival time) c ≡ e = omega (arith, bucket, after_arrival, after_group) in
    let in_time : nat_le e (arrival + PS_PER_NS * residence) ≡ true =
    le-leb e (arrival + PS_PER_NS * residence) stays in
    rw sized (rw latest (rw in_time refl))

-- a frame of the stream, and a verdict
abbrev frame : ℕ → ℕ → Offer
frame arrival octets = record { member = 0; arrival = arrival; octets = octets }

abbrev eligible : ℕ → Verdict
eligible at = Eligible (record { 0 = at })

-- a verdict that is known, and those on the frames behind
with_next : (state : State) (offer : Offer) (offers : List Offer) (v : Verdict) → judged has 1000000 state offer ≡ v
    → verdicts_of has 1000000 state (offer ∷ offers) ≡ v ∷ verdicts_of has 1000000 (after has state offer v) offers
with_next state offer offers v h =
    ap (λ (w : Verdict). w ∷ verdicts_of has 1000000 (after has state offer w) offers) h

-- what the group keeps after the frame that is as long as the burst, and after a short one
abbrev after_one : State
after_one = after has (first has) (frame 0 1522) (eligible 0)

abbrev after_two : ℕ → State
after_two at = after has after_one (frame at 64) (eligible 6709329)

-- the frames, where the first comes at 0
short_is : (at : ℕ) → at ≤ 6709329 → judged has 1000000 after_one (frame at 64) ≡ eligible 6709329
short_is at h =
    holds_until (has 0) 1000000 0 (after_one.empty 0) at 64 6709329 refl refl h (omega arith)
    (let long : PS_PER_NS * 1000000 ≡ 1000000000 = refl in omega (arith, long))

next_is : (at other : ℕ) → other ≤ 13428657 → judged has 1000000 (after_two at) (frame other 64) ≡ eligible 13428657
next_is at other h =
    holds_until (has 0) 1000000 6709329 ((after_two at).empty 0) other 64 13428657 refl refl h (lit≤ tt)
    (let long : PS_PER_NS * 1000000 ≡ 1000000000 = refl in omega (arith, long))

abbrev two : ℕ → ℕ → List Offer
two a b = frame a 1522 ∷ frame b 64 ∷ []

abbrev three : ℕ → ℕ → ℕ → List Offer
three a b c = frame a 1522 ∷ frame b 64 ∷ frame c 64 ∷ []

two_from_zero : (b : ℕ) → b ≤ 6709329 → ats_judge has 1000000 (two 0 b) ≡ eligible 0 ∷ eligible 6709329 ∷ []
two_from_zero b h =
    ap (λ (vs : List Verdict). eligible 0 ∷ vs) (with_next after_one (frame b 64) [] (eligible 6709329) (short_is b h))

three_from_zero : (b c : ℕ) → b ≤ 6709329 → c ≤ 13428657
    → ats_judge has 1000000 (three 0 b c) ≡ eligible 0 ∷ eligible 6709329 ∷ eligible 13428657 ∷ []
three_from_zero b c h k =
    ap (λ (vs : List Verdict). eligible 0 ∷ vs)
    (with_next after_one (frame b 64) (frame c 64 ∷ []) (eligible 6709329) (short_is b h)
    ∙ ap (λ (vs : List Verdict). eligible 6709329 ∷ vs)
    (with_next (after_two b) (frame c 64) [] (eligible 13428657) (next_is b c k)))

-- and where it comes at any other time
two_from : (a b : ℕ) → a ≤ b → b ≤ a + 6709329
    → ats_judge has 1000000 (two a b) ≡ eligible a ∷ eligible (a + 6709329) ∷ []
two_from a b after before =
    let start : 0 + a ≡ a = omega arith in
    let second : b - a + a ≡ b = omega (arith, after) in
    let told : 6709329 + a ≡ a + 6709329 = omega arith in
    let offered : two (0 + a) (b - a + a) ≡ two a b =
    ap (λ (x : ℕ). two x (b - a + a)) start ∙ ap (λ (x : ℕ). two a x) second in
    sym (ap (ats_judge has 1000000) offered)
    ∙ shift_not_seen has 1000000 a (two 0 (b - a)) (All-cons (λ (o : Offer). IsRuled (has o.member)) (frame 0 1522)
    (frame (b - a) 64 ∷ []) has_ruled (All-cons (λ (o : Offer). IsRuled (has o.member)) (frame (b - a) 64) [] has_ruled
    (All-nil (λ (o : Offer). IsRuled (has o.member)))))
    ∙ ap (map (later_verdict a)) (two_from_zero (b - a) (omega (arith, after, before)))
    ∙ ap (λ (x : ℕ). eligible x ∷ eligible (6709329 + a) ∷ []) start
    ∙ ap (λ (x : ℕ). eligible a ∷ eligible x ∷ []) told

three_from : (a b c : ℕ) → a ≤ b → b ≤ c → b ≤ a + 6709329 → c ≤ a + 13428657
    → ats_judge has 1000000 (three a b c) ≡ eligible a ∷ eligible (a + 6709329) ∷ eligible (a + 13428657) ∷ []
three_from a b c after later before sooner =
    let Ruled : Offer → Type 0 = λ (o : Offer). IsRuled (has o.member) in
    let start : 0 + a ≡ a = omega arith in
    let second : b - a + a ≡ b = omega (arith, after) in
    let third : c - a + a ≡ c = omega (arith, after, later) in
    let told : 6709329 + a ≡ a + 6709329 = omega arith in
    let told_last : 13428657 + a ≡ a + 13428657 = omega arith in
    let offered : three (0 + a) (b - a + a) (c - a + a) ≡ three a b c =
    ap (λ (x : ℕ). three x (b - a + a) (c - a + a)) start
    ∙ ap (λ (x : ℕ). three a x (c - a + a)) second
    ∙ ap (λ (x : ℕ). three a b x) third in
    sym (ap (ats_judge has 1000000) offered)
    ∙ shift_not_seen has 1000000 a (three 0 (b - a) (c - a)) (All-cons Ruled (frame 0 1522)
    (frame (b - a) 64 ∷ frame (c - a) 64 ∷ []) has_ruled (All-cons Ruled (frame (b - a) 64) (frame (c - a) 64 ∷ [])
    has_ruled (All-cons Ruled (frame (c - a) 64) [] has_ruled (All-nil Ruled))))
    ∙ ap (map (later_verdict a))
    (three_from_zero (b - a) (c - a) (omega (arith, after, before)) (omega (arith, after, later, sooner)))
    ∙ ap (λ (x : ℕ). eligible x ∷ eligible (6709329 + a) ∷ eligible (13428657 + a) ∷ []) start
    ∙ ap (λ (x : ℕ). eligible a ∷ eligible x ∷ eligible (13428657 + a) ∷ []) told
    ∙ ap (λ (x : ℕ). eligible a ∷ eligible (a + 6709329) ∷ eligible x ∷ []) told_last

-- a true eligibility time that is known
known : (shows : ℕ → ℕ) (offer : Offer) (told at : ℕ)
    → IsTrueVerdict shows offer (eligible told) (eligible at) → IsTrueEligibility shows offer.arrival told at
known shows offer told at h =
    let same : at ≡ h.0.0 = ap time_in h.1 in
    subst (λ (t : ℕ). IsTrueEligibility shows offer.arrival told t) (sym same) h.2

-- What each clock shows by which the runs are legal.

gains : (h : IsLegal deviating_line (held_until 20544658))
    → h.clocks 2 13836000 + (20544658 - 13836000) + 671 ≤ h.clocks 2 20544658
gains h =
    let shows : ℕ → ℕ = h.clocks 2 in
    let keeps : KeepsClock (declared_clock 100 1) shows = h.keeps 2 in
    let there : List Handed = handed_by deviating_line (held_until 20544658) 0 6 in
    let judges : IsJudgedBy shows (h.told 2) deviating_line 0 there = h.groups 0 6 (lit< tt) (lit≤ tt) in
    let after : shows 13836000 ≤ shows 14508000 = keeps.in_order 13836000 14508000 (lit≤ tt) in
    let most : 1000000 * (shows 14508000 - shows 13836000) ≤ 1000100 * 672000 + 1000000 * 1 =
    keeps.no_faster 13836000 14508000 (lit≤ tt) in
    let verdicts : ats_judge has 1000000 (two (shows 13836000) (shows 14508000))
    ≡ eligible (shows 13836000) ∷ eligible (shows 13836000 + 6709329) ∷ [] =
    two_from (shows 13836000) (shows 14508000) after (omega (arith, most)) in
    let judged : IsTrueVerdict shows (frame 14508000 64) (eligible (shows 13836000 + 6709329)) (eligible 20544658) =
    subst (λ (vs : List Verdict). IsTrueVerdict shows (frame 14508000 64) (get_or vs 1 Size) (eligible 20544658))
    verdicts (second_judged shows shows (h.told 2) (λ t. refl) deviating_line 0 (get_or there 0 no_frame)
    (get_or there 1 no_frame) (lit< tt) judges) in
    let shown : shows 13836000 + 6709329 ≤ shows 20544658 =
    (known shows (frame 14508000 64) (shows 13836000 + 6709329) 20544658 judged).shown in
    omega (arith, shown)

not_ideal : ¬ IsIdeal deviating_line (held_until 20544658)
not_ideal ideal =
    let h : IsLegalInTrueTime deviating_line (held_until 20544658) =
    true_time_is_legal deviating_line (held_until 20544658) is ideal in
    absurd (omega (arith, gains h.legal, h.true_time 2 13836000, h.true_time 2 20544658))

pub clocks_may_gain : ClocksMayGain
clocks_may_gain = record {
  network = is;
  keeps_clock = fast_keeps;
  legal = legal_with_by (bridge_shows fast) (told 13837383 20546712) deviating_line (held_until 20544658)
      (keeps 1000000 100 1 fast fast_keeps) refl;
  in_true_time = legal_by deviating_line (held_until 20545329) refl;
  not_ideal = not_ideal;
  gains = gains;
}

pub slow_then_fast_keeps : KeepsClock (declared_clock 100 1) slow_then_fast
slow_then_fast_keeps = record {
  in_order = λ s t h. omega (arith, h);
  no_slower = λ s t h. omega (arith, h);
  no_faster = λ s t h. omega (arith, h);
}

-- the true eligibility times of both short frames
record AreHeld (shows : ℕ → ℕ) : Type 0 where
  first : IsTrueEligibility shows 14508000 (shows 13836000 + 6709329) 20546000
  second : IsTrueEligibility shows 15180000 (shows 13836000 + 13428657) 27264657

are_held : (h : IsLegal deviating_line two_held) → AreHeld (h.clocks 2)
are_held h =
    let shows : ℕ → ℕ = h.clocks 2 in
    let keeps : KeepsClock (declared_clock 100 1) shows = h.keeps 2 in
    let there : List Handed = handed_by deviating_line two_held 0 6 in
    let judges : IsJudgedBy shows (h.told 2) deviating_line 0 there = h.groups 0 6 (lit< tt) (lit≤ tt) in
    let sorted : judges.arrivals ≡ there =
    in_order (λ (f : Handed). f.crossing.arrival) (get_or there 0 no_frame) (get_or there 1 no_frame)
    (get_or there 2 no_frame) judges.arrivals (lit< tt) (lit< tt) judges.same judges.in_order in
    let after : shows 13836000 ≤ shows 14508000 = keeps.in_order 13836000 14508000 (lit≤ tt) in
    let later : shows 14508000 ≤ shows 15180000 = keeps.in_order 14508000 15180000 (lit≤ tt) in
    let most : 1000000 * (shows 15180000 - shows 13836000) ≤ 1000100 * 1344000 + 1000000 * 1 =
    keeps.no_faster 13836000 15180000 (lit≤ tt) in
    let verdicts : ats_judge has 1000000 (three (shows 13836000) (shows 14508000) (shows 15180000))
    ≡ eligible (shows 13836000) ∷ eligible (shows 13836000 + 6709329) ∷ eligible (shows 13836000 + 13428657) ∷ [] =
    three_from (shows 13836000) (shows 14508000) (shows 15180000) after later (omega (arith, after, later, most))
    (omega (arith, after, later, most)) in
    let each : AllZip (λ (j : Offer × Verdict) (w : Verdict). IsTrueVerdict shows j.0 j.1 w)
    (zip (three 13836000 14508000 15180000) (eligible (shows 13836000) ∷ eligible (shows 13836000 + 6709329)
    ∷ eligible (shows 13836000 + 13428657) ∷ [])) (eligible 13836000 ∷ eligible 20546000 ∷ eligible 27264657 ∷ []) =
    subst (λ (vs : List Verdict). AllZip (λ (j : Offer × Verdict) (w : Verdict). IsTrueVerdict shows j.0 j.1 w)
    (zip (three 13836000 14508000 15180000) vs) (eligible 13836000 ∷ eligible 20546000 ∷ eligible 27264657 ∷ []))
    verdicts (all_judged shows shows (h.told 2) (λ t. refl) deviating_line 0 there judges sorted) in
    record {
      first = known shows (frame 14508000 64) (shows 13836000 + 6709329) 20546000 each.1.0;
      second = known shows (frame 15180000 64) (shows 13836000 + 13428657) 27264657 each.1.1.0;
    }

loses : (h : IsLegal deviating_line two_held)
    → h.clocks 2 20545999 + 671 ≤ h.clocks 2 13836000 + (20545999 - 13836000)
loses h =
    let shows : ℕ → ℕ = h.clocks 2 in
    elim (cases_lt (shows 20545999) (shows 13836000 + 6709329)) as (λ _. shows 20545999 + 671 ≤ shows 13836000
    + (20545999 - 13836000)) [
      | inl before ↦ omega (arith, before)
      | inr shown ↦ absurd (omega (arith, (are_held h).first.least 20545999 (lit≤ tt) shown))
    ]

gains_again : (h : IsLegal deviating_line two_held)
    → h.clocks 2 20545999 + (27264657 - 20545999) + 671 ≤ h.clocks 2 27264657
gains_again h = omega (arith, loses h, (are_held h).second.shown)

rate_changes : ¬ IsIdeal deviating_line two_held
rate_changes ideal =
    let h : IsLegalInTrueTime deviating_line two_held = true_time_is_legal deviating_line two_held is ideal in
    absurd (omega (arith, loses h.legal, h.true_time 2 13836000, h.true_time 2 20545999))

slow_at_one : GoesAtOneRate 1 slow
slow_at_one = record {
  shown = 9999;
  true_ps = 10000;
  some = lit≤ tt;
  no_slower = λ s t h. omega (arith, h);
  no_faster = λ s t h. omega (arith, h);
}

fast_at_one : GoesAtOneRate 1 fast
fast_at_one = record {
  shown = 10001;
  true_ps = 10000;
  some = lit≤ tt;
  no_slower = λ s t h. omega (arith, h);
  no_faster = λ s t h. omega (arith, h);
}

one_rate : (shown true_ps less more : ℕ) → 1 ≤ true_ps → shown * 6709999 ≤ less + true_ps * 1
    → more ≤ shown * 6718658 + true_ps * 1 → less ≤ true_ps * 6709328 → true_ps * 6719329 ≤ more → ⊥
one_rate shown true_ps less more some until since least most = omega (arith, some, until, since, least, most)

not_at_one_rate : (h : IsLegal deviating_line two_held) → ¬ GoesAtOneRate 1 (h.clocks 2)
not_at_one_rate h rate =
    let shows : ℕ → ℕ = h.clocks 2 in
    let shown : ℕ = rate.shown in
    let true_ps : ℕ = rate.true_ps in
    let less : ℕ = shows 20545999 - shows 13836000 in
    let more : ℕ = shows 27264657 - shows 20545999 in
    let until : shown * 6709999 ≤ true_ps * less + true_ps * 1 = rate.no_slower 13836000 20545999 (lit≤ tt) in
    let since : true_ps * more ≤ shown * 6718658 + true_ps * 1 = rate.no_faster 20545999 27264657 (lit≤ tt) in
    let first : less ≤ 6709328 = omega (arith, loses h) in
    let second : 6719329 ≤ more = omega (arith, gains_again h) in
    let least : true_ps * less ≤ true_ps * 6709328 = mul-le-mul_left true_ps first in
    let most : true_ps * 6719329 ≤ true_ps * more = mul-le-mul_left true_ps second in
    absurd (one_rate shown true_ps (true_ps * less) (true_ps * more) rate.some until since least most)

pub rates_may_change : RatesMayChange
rates_may_change = record {
  keeps_clock = slow_then_fast_keeps;
  legal = legal_with_by (bridge_shows slow_then_fast)
      ((0 ∷ 6720000 ∷ 6720000 ∷ []) ∷ [] ∷ (13834616 ∷ 20543945 ∷ 27263273 ∷ []) ∷ []) deviating_line two_held
      (keeps 1000000 100 1 slow_then_fast slow_then_fast_keeps) refl;
  not_ideal = rate_changes;
  loses = loses;
  gains = gains_again;
  slow_at_one = slow_at_one;
  fast_at_one = fast_at_one;
  not_at_one_rate = not_at_one_rate;
}

-- What words say that laws conclude of bursts, releases, buffers and bounds, on closed things.
use Rattle.std.proofs.Common.{◌≡◌, ℕ, zero, suc, ◌+◌, ◌*◌, ◌<◌, ◌≤◌, [], ◌∷◌, All, Some, None, refl}
use Rattle.std.proofs.Common.{inl, inr, arith, lit<, lit≤}
use Rattle.std.specs.Prelude.{nat_le, slice_index}
use Rattle.std.proofs.lemmas.List.Elements.{All-contains}
use Rattle.std.proofs.lemmas.Option.{none-some, same_Some}
use Rattle.ats_trace.specs.Talker.{frames_of}
use Rattle.ats_trace.specs.declared.journey.Release.{Release}
use Rattle.ats_gen.specs.Made.{made}
use Rattle.ats_gen.specs.declared.fault.GenFault.TheVariants.{Limit}
use Rattle.ats_bound.specs.Least.{least_certificate}
use Rattle.ats_buffer.specs.Buffer.{buffer_at}
use Rattle.ats_buffer.specs.Occupancy.{row_at}
use Rattle.ats_buffer_law.proofs.Held.{buffers_hold}
use Rattle.ats_examples.proofs.BucketTest.{conforms_by}
use Rattle.ats_examples.proofs.LawsMetProofs.{laws_are_met}
use Rattle.ats_examples.proofs.Tests.{all_by, le_of}
use Rattle.ats_examples.specs.Networks.{fast, fork, line, pair}
use Rattle.ats_examples.specs.Rows.{line_rows}
use Rattle.ats_verdict_examples.specs.Networks.{line_until}
use Rattle.ats_verdict_examples.proofs.Reasoned.{reasons_are_met}
use Rattle.ats_verdict_examples.proofs.Refused.{refusals_are_met}
use Rattle.ats_command_law.specs.BufferMeaning.{IsRoomAt}
use Rattle.ats_command_law.specs.FitMeaning.{IsJustEnough, StreamsHaveBursts}
use Rattle.ats_answer_law.specs.NoneMade.{IsWhyNoneMade}
use Rattle.ats_answer_law.proofs.Concluded.{conclusions_are_meant}
use Rattle.ats_answer_law.proofs.Refused.{none_are_made_for_faults}
use Rattle.ats_answer_law.specs.ConclusionsShown.{BoundsAreSound, BuffersAreRoom, BurstsAreJust, ConclusionsAreShown}
use Rattle.ats_answer_law.specs.ConclusionsShown.{NoneMadeIsWhy, by_burst, slow, two_at_once}

-- with fewer bits than those of both frames the bucket does not let them through at once
just : IsJustEnough fork two_at_once 1 24672
just = record {
  enough = conforms_by 100000000 24672 (frames_of 1 two_at_once) refl;
  no_less = λ less below conforms.
      (let enough : 1000000000000 * 24672 ≤ 100000000 * 0 + 1000000000000 * less =
      conforms.within 0 1 (lit≤ tt) (lit< tt) in
      omega (arith, below, enough));
}

not_less : ¬ IsJustEnough fork two_at_once 1 24671
not_less is =
    let enough : 1000000000000 * 24672 ≤ 100000000 * 0 + 1000000000000 * 24671 =
    is.enough.within 0 1 (lit≤ tt) (lit< tt) in
    absurd (omega arith)

not_more : ¬ IsJustEnough fork two_at_once 1 24673
not_more is = is.no_less 24672 (lit< tt) (conforms_by 100000000 24672 (frames_of 1 two_at_once) refl)

of_first : IsJustEnough fork two_at_once 0 0
of_first = record {
  enough = conforms_by 100000000 0 (frames_of 0 two_at_once) refl;
  no_less = λ less below conforms. absurd (omega (arith, below));
}

each : StreamsHaveBursts fork two_at_once (by_burst (Some 0) ∷ by_burst (Some 24672) ∷ [])
each zero d there = (0, refl, of_first)
each (suc zero) d there = (24672, refl, just)
each (suc (suc i)) d there = (let two : suc (suc i) < 2 = there in absurd (omega (arith, two)))

not_turned : ¬ StreamsHaveBursts fork two_at_once (by_burst (Some 24672) ∷ by_burst (Some 0) ∷ [])
not_turned have =
    let one = have 0 (by_burst None) (lit< tt) in
    let same : 24672 ≡ one.0 = same_Some 24672 one.0 one.1 in
    one.2.no_less 0 (omega (arith, same)) of_first.enough

not_without : ¬ StreamsHaveBursts fork two_at_once (by_burst (Some 0) ∷ by_burst None ∷ [])
not_without have = let one = have 1 (by_burst None) (lit< tt) in none-some one.0 one.1

not_one : ¬ StreamsHaveBursts fork two_at_once (by_burst (Some 0) ∷ [])
not_one have = let one = have 1 (by_burst None) (lit< tt) in none-some one.0 one.1

bursts : BurstsAreJust
bursts = record {
  just = just;
  not_less = not_less;
  not_more = not_more;
  of_first = of_first;
  each = each;
  not_turned = not_turned;
  not_without = not_without;
  not_one = not_one;
}

-- a release that is not too late
abbrev IsEarly : Release → Type 0
IsEarly r = r.at.0 ≤ 100000000000000000

seven_early : All IsEarly (made slow 7 7)
seven_early = all_by IsEarly (λ (r : Release). nat_le r.at.0 100000000000000000)
    (λ (r : Release) h. le_of r.at.0 100000000000000000 h) (made slow 7 7) refl

not_limit : ¬ IsWhyNoneMade slow 7 7 Limit
not_limit why = elim why as (λ _. ⊥) [
  | inl late ↦
      (let early : late.1.at.0 ≤ 100000000000000000 =
      All-contains IsEarly (made slow 7 7) late.1 seven_early (late.0, late.2, late.3) in
      omega (arith, early, late.4))
  | inr many ↦ many (lit≤ tt)
]

none_made : NoneMadeIsWhy
none_made = record {
  no_stream = refl;
  not_without = λ none. (let e : ◌≡◌ {A = ℕ} 1 0 = none in absurd (omega arith));
  limit = none_are_made_for_faults slow 7 8 Limit refl;
  not_limit = not_limit;
}

-- a port of the line has room for its buffer
room : (port class : ℕ) → 1 ≤ class → IsRoomAt line port class (buffer_at line line_rows port class)
room port class some run legal keep =
    buffers_hold line line_rows run port class laws_are_met.network laws_are_met.holds legal some keep

of_rows : (n : ℕ) → n < 2 → slice_index (13569 ∷ 14736 ∷ []) n
    ≡ buffer_at line line_rows (row_at line_rows n).port (row_at line_rows n).class
of_rows zero h = refl
of_rows (suc zero) h = refl
of_rows (suc (suc n)) h = absurd (omega (arith, h))

of_numbers : (n : ℕ) → n < 2
    → IsRoomAt line (row_at line_rows n).port (row_at line_rows n).class (slice_index (13569 ∷ 14736 ∷ []) n)
of_numbers zero h = room 0 6 (lit≤ tt)
of_numbers (suc zero) h = room 2 6 (lit≤ tt)
of_numbers (suc (suc n)) h = absurd (omega (arith, h))

buffers : BuffersAreRoom
buffers = record {
  are = record {
    holds = laws_are_met.holds;
    count = refl;
    each = of_rows;
    printed = of_numbers;
    everywhere = room;
  };
  not_less = λ are. (let e : ◌≡◌ {A = ℕ} 14735 14736 = are.each 1 (lit< tt) in absurd (omega arith));
  not_more = λ are. (let e : ◌≡◌ {A = ℕ} 13570 13569 = are.each 0 (lit< tt) in absurd (omega arith));
  not_one = λ are. (let e : ◌≡◌ {A = ℕ} 1 2 = are.count in absurd (omega arith));
  not_three = λ are. (let e : ◌≡◌ {A = ℕ} 3 2 = are.count in absurd (omega arith));
  not_held = λ given are. refusals_are_met.missing.not_held are.holds;
}

bounds : BoundsAreSound
bounds = record {
  just = (conclusions_are_meant.bounds.exactly (line_until 26672)).1
      (record { rules = reasons_are_met.in_time.rules; free = reasons_are_met.in_time.free });
  not_late = λ is. reasons_are_met.late.none_holds (least_certificate (line_until 26671)) is.holds;
  not_short = λ is. reasons_are_met.overstays.none_holds (least_certificate (pair 12335)) is.holds;
  not_fast = λ is. reasons_are_met.overloaded.none_holds (least_certificate fast) is.holds;
}

pub conclusions_are_shown : ConclusionsAreShown
conclusions_are_shown = record { bursts = bursts; none_made = none_made; buffers = buffers; bounds = bounds }

use Rattle.std.proofs.Common.{ℕ, zero, suc, ◌+◌, ◌*◌, ◌<◌, ◌≤◌, List, [], ◌∷◌, length, arith, lit<, lit≤, refl}
use Rattle.std.specs.Prelude.{nat_le, slice_index_or, Some}
use Rattle.std.specs.Fmt.{digits}
use Rattle.ats_trace.specs.Run.{releases_of}
use Rattle.ats_trace.specs.Talker.{frames_of}
use Rattle.ats_trace.specs.declared.journey.Release.{Release}
use Rattle.ats_fit.specs.Least.{IsLeastBurst}
use Rattle.ats_fit.specs.Measured.{AreEnds, AreMeasured, IsMeasured, octets_of}
use Rattle.ats_fit.specs.declared.measured.Measured.{Measured}
use Rattle.ats_fit_text.specs.Text.{IsFitText, fit_text, sender_line, total_line}
use Rattle.ats_examples.proofs.BucketTest.{conforms_by}
use Rattle.ats_examples.proofs.Tests.{all_by, le_of}
use Rattle.ats_clock_examples.specs.Fitted.{FitsAreInTrueTime, around_text, within_text}
use Rattle.ats_clock_examples.specs.TalkingBridge.{around_a_tick, talking, within_a_tick}

-- What is measured of a talker that goes by its clock, by computation.

-- two frames of so many octets, with this least burst
abbrev measured : ℕ → ℕ → Measured
measured octets burst =
    record { frames = 2; sizes = Some (record { least = octets; greatest = octets }); burst_bits = Some burst }

-- the talker's stream is the one sender
of_one : (releases : List Release) (m : Measured) → IsMeasured talking releases 0 m
    → AreMeasured talking releases (m ∷ [])
of_one releases m is = record { count = refl; each = each }
  where
    each : (i : ℕ) (d : Measured) → i < length (m ∷ [])
        → IsMeasured talking releases i (slice_index_or (m ∷ []) i d)
    each zero d h = is
    each (suc i) d h = absurd (omega (arith, h))

around_ends : AreEnds (octets_of 0 (releases_of around_a_tick)) (record { least = 105; greatest = 105 })
around_ends = record {
  least = (0, lit< tt, refl);
  none_less = all_by (λ n. 105 ≤ n) (λ n. nat_le 105 n) (λ n h. le_of 105 n h) (octets_of 0 (releases_of around_a_tick))
      refl;
  greatest = (0, lit< tt, refl);
  none_greater = all_by (λ n. n ≤ 105) (λ n. nat_le n 105) (λ n h. le_of n 105 h)
      (octets_of 0 (releases_of around_a_tick)) refl;
}

around_least : IsLeastBurst 100000000 (frames_of 0 (releases_of around_a_tick)) 2000
around_least = record {
  conforms = conforms_by 100000000 2000 (frames_of 0 (releases_of around_a_tick)) refl;
  least = λ other conforms.
      (let both : 1000000000000 * 2000 ≤ 100000000 * 1 + 1000000000000 * other =
      conforms.within 0 1 (lit≤ tt) (lit< tt) in omega (arith, both));
}

around : IsFitText talking (releases_of around_a_tick) around_text
unfolding digits fit_text sender_line total_line
around = record {
  measured = measured 105 2000 ∷ [];
  are = of_one (releases_of around_a_tick) (measured 105 2000)
      (record { frames = refl; sizes = around_ends; burst = (lit< tt, around_least) });
  printed = refl;
}

within_ends : AreEnds (octets_of 0 (releases_of within_a_tick)) (record { least = 64; greatest = 64 })
within_ends = record {
  least = (0, lit< tt, refl);
  none_less = all_by (λ n. 64 ≤ n) (λ n. nat_le 64 n) (λ n h. le_of 64 n h) (octets_of 0 (releases_of within_a_tick))
      refl;
  greatest = (0, lit< tt, refl);
  none_greater = all_by (λ n. n ≤ 64) (λ n. nat_le n 64) (λ n h. le_of n 64 h)
      (octets_of 0 (releases_of within_a_tick)) refl;
}

within_least : IsLeastBurst 100000000 (frames_of 0 (releases_of within_a_tick)) 1000
within_least = record {
  conforms = conforms_by 100000000 1000 (frames_of 0 (releases_of within_a_tick)) refl;
  least = λ other conforms.
      (let both : 1000000000000 * 1344 ≤ 100000000 * 3440000 + 1000000000000 * other =
      conforms.within 0 1 (lit≤ tt) (lit< tt) in omega (arith, both));
}

within : IsFitText talking (releases_of within_a_tick) within_text
unfolding digits fit_text sender_line total_line
within = record {
  measured = measured 64 1000 ∷ [];
  are = of_one (releases_of within_a_tick) (measured 64 1000)
      (record { frames = refl; sizes = within_ends; burst = (lit< tt, within_least) });
  printed = refl;
}

pub fits_are_in_true_time : FitsAreInTrueTime
fits_are_in_true_time = record { around = around; within = within }

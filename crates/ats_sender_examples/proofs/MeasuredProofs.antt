-- What is measured of three senders, by computation.
use Rattle.std.proofs.Common.{ℕ, zero, suc, ◌<◌, ◌≤◌, List, [], ◌∷◌, length, arith, lit<, lit≤, refl}
use Rattle.std.specs.Prelude.{nat_le, slice_index_or, Option, Some, None}
use Rattle.std.specs.Fmt.{digits}
use Rattle.ats_trace.specs.Talker.{frames_of}
use Rattle.ats_trace.specs.declared.journey.Release.{Release}
use Rattle.ats_fit.specs.Least.{IsLeastBurst}
use Rattle.ats_fit.specs.Measured.{AreEnds, AreMeasured, IsMeasured, octets_of}
use Rattle.ats_fit.specs.declared.measured.Measured.{Measured}
use Rattle.ats_fit.specs.declared.measured.Sizes.{Sizes}
use Rattle.ats_fit_text.specs.Text.{IsFitText, fit_text, sender_line, total_line}
use Rattle.ats_examples.proofs.BucketTest.{conforms_by}
use Rattle.ats_examples.proofs.Tests.{all_by, le_of}
use Rattle.ats_sender_examples.specs.Senders.{three_senders}
use Rattle.ats_sender_examples.specs.Measured.{SendersAreMeasured, flow_is_silent, silent_text, spoken_text}
use Rattle.ats_sender_examples.specs.Measured.{stream_is_silent}

abbrev pub sizes : ℕ → ℕ → Sizes
sizes least greatest = record { least = least; greatest = greatest }

abbrev pub measured : ℕ → Option Sizes → Option ℕ → Measured
measured frames sizes burst = record { frames = frames; sizes = sizes; burst_bits = burst }

-- what is measured of each of the three is what is measured of all
of_three : (releases : List Release) (a b f : Measured) → IsMeasured three_senders releases 0 a
    → IsMeasured three_senders releases 1 b → IsMeasured three_senders releases 2 f
    → AreMeasured three_senders releases (a ∷ b ∷ f ∷ [])
of_three releases a b f of_a of_b of_f = record { count = refl; each = each }
  where
    each : (i : ℕ) (d : Measured) → i < length (a ∷ b ∷ f ∷ [])
        → IsMeasured three_senders releases i (slice_index_or (a ∷ b ∷ f ∷ []) i d)
    each zero d h = of_a
    each (suc zero) d h = of_b
    each (suc (suc zero)) d h = of_f
    each (suc (suc (suc i))) d h = absurd (omega (arith, h))

-- the flow is silent: the first stream has two frames of one size, the second three
a_ends : AreEnds (octets_of 0 flow_is_silent) (sizes 1522 1522)
a_ends = record {
  least = (0, lit< tt, refl);
  none_less = all_by (λ n. 1522 ≤ n) (λ n. nat_le 1522 n) (λ n h. le_of 1522 n h) (octets_of 0 flow_is_silent) refl;
  greatest = (0, lit< tt, refl);
  none_greater = all_by (λ n. n ≤ 1522) (λ n. nat_le n 1522) (λ n h. le_of n 1522 h) (octets_of 0 flow_is_silent) refl;
}

a_least : IsLeastBurst 100000000 (frames_of 0 flow_is_silent) 12336
a_least = record {
  conforms = conforms_by 100000000 12336 (frames_of 0 flow_is_silent) refl;
  least = λ other conforms. (let enough = conforms.within 0 0 (lit≤ tt) (lit< tt) in omega (arith, enough));
}

b_ends : AreEnds (octets_of 1 flow_is_silent) (sizes 64 300)
b_ends = record {
  least = (0, lit< tt, refl);
  none_less = all_by (λ n. 64 ≤ n) (λ n. nat_le 64 n) (λ n h. le_of 64 n h) (octets_of 1 flow_is_silent) refl;
  greatest = (2, lit< tt, refl);
  none_greater = all_by (λ n. n ≤ 300) (λ n. nat_le n 300) (λ n h. le_of n 300 h) (octets_of 1 flow_is_silent) refl;
}

b_least : IsLeastBurst 50000000 (frames_of 1 flow_is_silent) 3232
b_least = record {
  conforms = conforms_by 50000000 3232 (frames_of 1 flow_is_silent) refl;
  least = λ other conforms. (let enough = conforms.within 0 2 (lit≤ tt) (lit< tt) in omega (arith, enough));
}

flow_is : IsFitText three_senders flow_is_silent silent_text
unfolding digits fit_text sender_line total_line
flow_is = record {
  measured = measured 2 (Some (sizes 1522 1522)) (Some 12336) ∷ measured 3 (Some (sizes 64 300)) (Some 3232)
      ∷ measured 0 None None ∷ [];
  are = of_three flow_is_silent (measured 2 (Some (sizes 1522 1522)) (Some 12336))
      (measured 3 (Some (sizes 64 300)) (Some 3232)) (measured 0 None None)
      (record { frames = refl; sizes = a_ends; burst = (lit< tt, a_least) })
      (record { frames = refl; sizes = b_ends; burst = (lit< tt, b_least) })
      (record { frames = refl; sizes = refl; burst = lit≤ tt });
  printed = refl;
}

-- the second stream is silent: the first has one frame, the flow two
one_ends : AreEnds (octets_of 0 stream_is_silent) (sizes 64 64)
one_ends = record {
  least = (0, lit< tt, refl);
  none_less = all_by (λ n. 64 ≤ n) (λ n. nat_le 64 n) (λ n h. le_of 64 n h) (octets_of 0 stream_is_silent) refl;
  greatest = (0, lit< tt, refl);
  none_greater = all_by (λ n. n ≤ 64) (λ n. nat_le n 64) (λ n h. le_of n 64 h) (octets_of 0 stream_is_silent) refl;
}

one_least : IsLeastBurst 100000000 (frames_of 0 stream_is_silent) 672
one_least = record {
  conforms = conforms_by 100000000 672 (frames_of 0 stream_is_silent) refl;
  least = λ other conforms. (let enough = conforms.within 0 0 (lit≤ tt) (lit< tt) in omega (arith, enough));
}

no_least : IsLeastBurst 50000000 (frames_of 1 stream_is_silent) 0
no_least = record {
  conforms = conforms_by 50000000 0 (frames_of 1 stream_is_silent) refl;
  least = λ other conforms. omega arith;
}

f_ends : AreEnds (octets_of 2 stream_is_silent) (sizes 64 150)
f_ends = record {
  least = (1, lit< tt, refl);
  none_less = all_by (λ n. 64 ≤ n) (λ n. nat_le 64 n) (λ n h. le_of 64 n h) (octets_of 2 stream_is_silent) refl;
  greatest = (0, lit< tt, refl);
  none_greater = all_by (λ n. n ≤ 150) (λ n. nat_le n 150) (λ n h. le_of n 150 h) (octets_of 2 stream_is_silent) refl;
}

stream_is : IsFitText three_senders stream_is_silent spoken_text
unfolding digits fit_text sender_line total_line
stream_is = record {
  measured = measured 1 (Some (sizes 64 64)) (Some 672) ∷ measured 0 None (Some 0)
      ∷ measured 2 (Some (sizes 64 150)) None ∷ [];
  are = of_three stream_is_silent (measured 1 (Some (sizes 64 64)) (Some 672)) (measured 0 None (Some 0))
      (measured 2 (Some (sizes 64 150)) None)
      (record { frames = refl; sizes = one_ends; burst = (lit< tt, one_least) })
      (record { frames = refl; sizes = refl; burst = (lit< tt, no_least) })
      (record { frames = refl; sizes = f_ends; burst = lit≤ tt });
  printed = refl;
}

pub senders_are_measured : SendersAreMeasured
senders_are_measured = record { flow = flow_is; stream = stream_is }

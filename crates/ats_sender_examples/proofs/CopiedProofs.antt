-- What is measured of a stream with two listeners and of a flow, by computation.
use Rattle.std.proofs.Common.{ℕ, zero, suc, ◌<◌, ◌≤◌, [], ◌∷◌, length, arith, lit<, lit≤, refl}
use Rattle.std.specs.Prelude.{nat_le, slice_index_or, Some, None}
use Rattle.std.specs.Fmt.{digits}
use Rattle.ats_trace.specs.Talker.{frames_of}
use Rattle.ats_fit.specs.Least.{IsLeastBurst}
use Rattle.ats_fit.specs.Measured.{AreEnds, AreMeasured, IsMeasured, octets_of}
use Rattle.ats_fit.specs.declared.measured.Measured.{Measured}
use Rattle.ats_fit_text.specs.Text.{IsFitText, fit_text, sender_line, total_line}
use Rattle.ats_examples.proofs.BucketTest.{conforms_by}
use Rattle.ats_examples.proofs.Tests.{all_by, le_of}
use Rattle.ats_tree_examples.specs.Networks.{split_and_flow}
use Rattle.ats_sender_examples.specs.Copied.{CopiesCountOnce, copied_text, two_and_one}
use Rattle.ats_sender_examples.proofs.MeasuredProofs.{measured, sizes}

-- what is measured of each of the two is what is measured of both
of_two : (a f : Measured) → IsMeasured split_and_flow two_and_one 0 a → IsMeasured split_and_flow two_and_one 1 f
    → AreMeasured split_and_flow two_and_one (a ∷ f ∷ [])
of_two a f of_a of_f = record { count = refl; each = each }
  where
    each : (i : ℕ) (d : Measured) → i < length (a ∷ f ∷ [])
        → IsMeasured split_and_flow two_and_one i (slice_index_or (a ∷ f ∷ []) i d)
    each zero d h = of_a
    each (suc zero) d h = of_f
    each (suc (suc i)) d h = absurd (omega (arith, h))

a_ends : AreEnds (octets_of 0 two_and_one) (sizes 64 1522)
a_ends = record {
  least = (1, lit< tt, refl);
  none_less = all_by (λ n. 64 ≤ n) (λ n. nat_le 64 n) (λ n h. le_of 64 n h) (octets_of 0 two_and_one) refl;
  greatest = (0, lit< tt, refl);
  none_greater = all_by (λ n. n ≤ 1522) (λ n. nat_le n 1522) (λ n h. le_of n 1522 h) (octets_of 0 two_and_one) refl;
}

f_ends : AreEnds (octets_of 1 two_and_one) (sizes 150 150)
f_ends = record {
  least = (0, lit< tt, refl);
  none_less = all_by (λ n. 150 ≤ n) (λ n. nat_le 150 n) (λ n h. le_of 150 n h) (octets_of 1 two_and_one) refl;
  greatest = (0, lit< tt, refl);
  none_greater = all_by (λ n. n ≤ 150) (λ n. nat_le n 150) (λ n h. le_of n 150 h) (octets_of 1 two_and_one) refl;
}

a_least : IsLeastBurst 100000000 (frames_of 0 two_and_one) 13008
a_least = record {
  conforms = conforms_by 100000000 13008 (frames_of 0 two_and_one) refl;
  least = λ other conforms. (let enough = conforms.within 0 1 (lit≤ tt) (lit< tt) in omega (arith, enough));
}

are : IsFitText split_and_flow two_and_one copied_text
unfolding digits fit_text sender_line total_line
are = record {
  measured = measured 2 (Some (sizes 64 1522)) (Some 13008) ∷ measured 1 (Some (sizes 150 150)) None ∷ [];
  are = of_two (measured 2 (Some (sizes 64 1522)) (Some 13008)) (measured 1 (Some (sizes 150 150)) None)
      (record { frames = refl; sizes = a_ends; burst = (lit< tt, a_least) })
      (record { frames = refl; sizes = f_ends; burst = lit≤ tt });
  printed = refl;
}

pub copies_count_once : CopiesCountOnce
copies_count_once = record { measured = are }

use Rattle.std.proofs.Common.{ℕ, zero, suc, ◌<◌, ◌≤◌, [], ◌∷◌, length, arith, lit<, lit≤, refl}
use Rattle.std.specs.Prelude.{slice_index_or, Some, None}
use Rattle.std.specs.Fmt.{digits}
use Rattle.std.proofs.lemmas.List.Elements.{All-cons, All-nil}
use Rattle.ats_trace.specs.Talker.{frame_of}
use Rattle.ats_fit.specs.Measured.{AreEnds, AreMeasured, IsMeasured}
use Rattle.ats_fit.specs.declared.measured.Measured.{Measured}
use Rattle.ats_fit.proofs.Least.{one_frame}
use Rattle.ats_fit_text.specs.Text.{IsFitText, fit_text, sender_line, total_line}
use Rattle.ats_text_examples.specs.Fitted.{FitsAreWritten, measured, undeclared, undeclared_fitted}
use Rattle.ats_text_examples.specs.Runs.{release}
use Rattle.ats_text_examples.specs.Worked.{way}

-- What `fit` prints, by computation.

-- what is measured of each of the three senders is what is measured of all
of_three : (u v f : Measured) → IsMeasured way undeclared 0 u → IsMeasured way undeclared 1 v
    → IsMeasured way undeclared 2 f → AreMeasured way undeclared (u ∷ v ∷ f ∷ [])
of_three u v f of_u of_v of_f = record { count = refl; each = each }
  where
    each : (i : ℕ) (d : Measured) → i < length (u ∷ v ∷ f ∷ [])
        → IsMeasured way undeclared i (slice_index_or (u ∷ v ∷ f ∷ []) i d)
    each zero d h = of_u
    each (suc zero) d h = of_v
    each (suc (suc zero)) d h = of_f
    each (suc (suc (suc i))) d h = absurd (omega (arith, h))

-- one number is the least and the greatest
one_size : (n : ℕ) → AreEnds (n ∷ []) (record { least = n; greatest = n })
one_size n = record {
  least = (0, lit< tt, refl);
  none_less = All-cons (λ m. n ≤ m) n [] (omega arith) (All-nil (λ m. n ≤ m));
  greatest = (0, lit< tt, refl);
  none_greater = All-cons (λ m. m ≤ n) n [] (omega arith) (All-nil (λ m. m ≤ n));
}

undeclared_is : IsFitText way undeclared undeclared_fitted
unfolding digits fit_text sender_line total_line
undeclared_is = record {
  measured = measured 1 1523 1523 (Some 12344) ∷ measured 1 99 99 (Some 952) ∷ measured 1 1401 1401 None ∷ [];
  are = of_three (measured 1 1523 1523 (Some 12344)) (measured 1 99 99 (Some 952)) (measured 1 1401 1401 None)
      (record {
        frames = refl;
        sizes = one_size 1523;
        burst = (lit< tt, one_frame 20000000 (frame_of (release 0 0 1523)));
      })
      (record {
        frames = refl;
        sizes = one_size 99;
        burst = (lit< tt, one_frame 30000000 (frame_of (release 1 1 99)));
      })
      (record { frames = refl; sizes = one_size 1401; burst = lit≤ tt });
  printed = refl;
}

pub fits_are_written : FitsAreWritten
unfolding digits fit_text sender_line total_line
fits_are_written = record { fit = refl; just = refl; least = refl; greatest = refl; any_size = undeclared_is }

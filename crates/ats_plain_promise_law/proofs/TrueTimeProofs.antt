use Rattle.std.proofs.Common.{refl}
use Rattle.ats_plain_promise_law.specs.TrueTimes.{TrueTimesArePlain}

-- When frames are eligible in true time.

pub true_times_are_plain : TrueTimesArePlain
true_times_are_plain = record {
  stamped = λ shows offers. refl;
  eligible = λ shows arrival told eligible. (
    (λ is. (is.arrived, is.shown, is.least)),
    (λ is. record { arrived = is.0; shown = is.1; least = is.2 }),
  );
  verdicts = λ shows judge declared residence_ns offers verdicts. ((λ is. is), (λ is. is));
}

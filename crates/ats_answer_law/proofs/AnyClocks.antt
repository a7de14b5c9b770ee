use Rattle.std.proofs.Common.{refl}
use Rattle.ats_answer_law.specs.AnyClocks.{NoClockIsAsked}

pub no_clock_is_asked : NoClockIsAsked
no_clock_is_asked = record {
  run = λ key wait network run. (
    (λ is. record { ideal = is.legal; pace = is.pace; tie = is.tie }),
    (λ is. record { legal = is.ideal; pace = is.pace; tie = is.tie }),
  );
  over_port = λ network octets p. refl;
  travel = λ network port s. refl;
  greatest = λ network port. refl;
  time = λ network port class s. refl;
  count = λ port class s. refl;
  burst = λ network port class i. refl;
  stream = λ network frame. refl;
  octets = λ network seed frame. refl;
  none_made = λ network seed. refl;
  made_next = λ network seed frame. refl;
}

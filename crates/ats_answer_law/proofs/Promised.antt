-- What a text that is promised to be sound promises.
use Rattle.ats_answer_law.specs.Accepted.{PromisesAreSound}

pub promises_are_sound : PromisesAreSound
promises_are_sound = record {
  check = record {
    served = λ network rows text is. is.sound.served;
    contained = λ network rows text is. is.sound.contained;
    in_time = λ network rows text is. is.in_time;
    written = λ network rows text is. is.written;
  };
  lrq_check = record {
    served = λ net certificate net_bytes rows_bytes text network rows is. is.sound.is_sound.sound.served;
    contained = λ net certificate net_bytes rows_bytes text network rows is. is.sound.is_sound.sound.contained;
    in_time = λ net certificate net_bytes rows_bytes text network rows is. is.sound.is_sound.in_time;
    written = λ net certificate net_bytes rows_bytes text network rows is. is.sound.is_sound.written;
  };
}

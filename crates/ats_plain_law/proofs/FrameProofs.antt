use Rattle.std.proofs.Common.{refl}
use Rattle.ats_plain_law.specs.Frames.{BetweenIsPlain, FramesArePlain, RoundingIsPlain}

-- What stands between two frames, and what it is to round up.

between : BetweenIsPlain
between = record {
  bits = λ frames i j. refl;
  time = λ frames i j. refl;
  conforms = λ rate burst frames. (
    (λ is. (is.in_order, is.within)),
    (λ is. record { in_order = is.0; within = is.1 }),
  );
}

rounding : RoundingIsPlain
rounding = record {
  is = λ n d q. ((λ is. (is.reaches, is.least)), (λ is. record { reaches = is.0; least = is.1 }));
  computed = λ n d. refl;
}

pub frames_are_plain : FramesArePlain
frames_are_plain = record {
  between = between;
  rounding = rounding;
}

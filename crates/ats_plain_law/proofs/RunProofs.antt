use Rattle.std.proofs.Common.{refl}
use Rattle.ats_plain_law.specs.Runs.{CountingIsPlain, NarrowingIsPlain, OnceIsPlain, RunsArePlain}

-- What comes of a frame once at each port, and what narrowing leaves as it was.

once : OnceIsPlain
once = record {
  judged = λ network journey. ((λ is. is), (λ is. is));
  sent = λ network run. ((λ is. is), (λ is. is));
  both = λ network run. ((λ is. (is.judged, is.sent)), (λ is. record { judged = is.0; sent = is.1 }));
  told = λ network run. ((λ is. (is.crossed, is.handed)), (λ is. record { crossed = is.0; handed = is.1 }));
}

narrowing : NarrowingIsPlain
narrowing = record {
  streams = λ network. refl;
  topology = λ network. refl;
  flows = λ network. refl;
  most_ports = λ network. refl;
}

counting : CountingIsPlain
counting = record {
  in_all = λ t. refl;
  listeners = λ network run. refl;
  each = λ network run. (
    (λ is. (is.together, is.for_each)),
    (λ is. record { together = is.0; for_each = is.1 }),
  );
  in_true_time = λ network run. (
    (λ is. (is.legal, is.true_time)),
    (λ is. record { legal = is.0; true_time = is.1 }),
  );
}

pub runs_are_plain : RunsArePlain
runs_are_plain = record {
  once = once;
  counting = counting;
  narrowing = narrowing;
}

use Rattle.ats_meaning_examples.specs.Hops.{HopsAreMeant}

-- What is asked of hops, part by part.

pub hops_are_meant : HopsAreMeant
hops_are_meant = record {
  hop = λ network stream leg hop. (
    λ is. (is.exists, is.of_stream, is.later, is.within),
    λ p. record { exists = p.0; of_stream = p.1; later = p.2; within = p.3 },
  );
  begins = λ branches place from. (
    λ at. (at.branch, at.exists, at.begins, at.is),
    λ p. record { branch = p.0; exists = p.1; begins = p.2; is = p.3 },
  );
  goes_on = λ branches place from. (
    λ on. (on.elsewhere, on.is),
    λ p. record { elsewhere = p.0; is = p.1 },
  );
  from_where = λ branches place from. (λ is. is, λ is. is);
  by_port = λ network stream leg hop place. (
    λ goes. (goes.judged, goes.within, goes.from),
    λ p. record { judged = p.0; within = p.1; from = p.2 },
  );
}

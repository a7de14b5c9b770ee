use Rattle.ats_plain_law.specs.Ports.{PortsArePlain}

-- What a port does, each part in its times.
pub ports_are_plain : PortsArePlain
ports_are_plain = record {
  apart = λ x y. ((λ is. is), (λ is. is));
  ahead = λ told x y. ((λ is. (is.class, is.no_later)), (λ is. record { class = is.0; no_later = is.1 }));
  gap = λ sent x. ((λ is. is), (λ is. is));
  rule = λ told ps sent. (
    (λ is. (is.waits, is.takes, is.apart, is.chosen, is.prompt)),
    (λ is. record { waits = is.0; takes = is.1; apart = is.2; chosen = is.3; prompt = is.4 }),
  );
  tie = λ key x y. ((λ is. is), (λ is. is));
  ties = λ key sent. ((λ is. is), (λ is. is));
}

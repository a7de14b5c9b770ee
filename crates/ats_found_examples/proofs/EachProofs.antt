use Rattle.ats_found_examples.specs.Each.{BurstsAreMeant, DelaysAreMeant, EachIsFound}

-- Bursts and delays by the words themselves.

bursts : BurstsAreMeant
bursts = record {
  parts = λ network port class releases. (
    λ is. (is.of_each, is.in_order),
    λ h. record { of_each = h.0; in_order = h.1 },
  );
  of_stream = λ network stream port releases. (λ h. h, λ h. h);
}

delays : DelaysAreMeant
delays = record {
  greatest = λ run sender listener delay. (
    λ is. (is.journey, is.one, is.none_longer),
    λ h. record { journey = h.0; one = h.1; none_longer = h.2 },
  );
  arrived = λ run sender listener took journey. (
    λ is. (is.there, is.sent, (is.at.0, is.arrived, is.after)),
    λ h. record { there = h.0; sent = h.1; at = record { 0 = h.2.0 }; arrived = h.2.1; after = h.2.2 },
  );
}

pub each_is_found : EachIsFound
each_is_found = record { bursts = bursts; delays = delays }

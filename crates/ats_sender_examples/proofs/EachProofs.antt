use Rattle.ats_sender_examples.specs.Each.{EachIsMeasured}

-- What is measured, by the words themselves.

pub each_is_measured : EachIsMeasured
each_is_measured = record {
  each = λ network releases measured. (
    λ are. (are.count, are.each),
    λ h. record { count = h.0; each = h.1 },
  );
  parts = λ network releases i m. (
    λ is. (is.frames, is.sizes, is.burst),
    λ h. record { frames = h.0; sizes = h.1; burst = h.2 },
  );
  no_sizes = λ octets. (λ h. h, λ h. h);
  sizes = λ octets least greatest. (
    λ are. (are.least, are.none_less, are.greatest, are.none_greater),
    λ h. record { least = h.0; none_less = h.1; greatest = h.2; none_greater = h.3 },
  );
  flow = λ network releases i. (λ h. h, λ h. h);
  stream = λ network releases i burst. (λ h. h, λ h. h);
  least = λ rate frames burst. (
    λ is. (is.conforms, is.least),
    λ h. record { conforms = h.0; least = h.1 },
  );
}

use Rattle.std.proofs.Common.{refl}
use Rattle.ats_plain_law.specs.Spacing.{DistancesArePlain, SpacingIsPlain, TalkersArePlain, TimesArePlain}

-- How far apart frames are put, and kept.

distances : DistancesArePlain
distances = record {
  spaced = λ rate bits since at. ((λ is. (is.later, is.given)), (λ is. record { later = is.0; given = is.1 }));
  from_last = λ rate last at. ((λ is. (is.later, is.given)), (λ is. record { later = is.0; given = is.1 }));
  eligible = λ rate last group arrival at. (
    (λ is. (is.arrived, is.after_group, is.spaced, is.least)),
    (λ is. record { arrived = is.0; after_group = is.1; spaced = is.2; least = is.3 }),
  );
}

times : TimesArePlain
times = record {
  first = λ rate group arrival. refl;
  later = λ rate last group arrival. refl;
  free = λ rate last. refl;
}

talkers : TalkersArePlain
talkers = record {
  none = λ rate. tt;
  one = λ rate frame. tt;
  more = λ rate frame later frames. ((λ is. is), (λ is. is));
  keeps = λ declared frames. ((λ is. (is.bits, is.spaced)), (λ is. record { bits = is.0; spaced = is.1 }));
}

pub spacing_is_plain : SpacingIsPlain
spacing_is_plain = record {
  distances = distances;
  times = times;
  talkers = talkers;
}

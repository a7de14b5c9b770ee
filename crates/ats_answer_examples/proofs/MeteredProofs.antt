use Rattle.std.proofs.Common.{refl, ap}
use Rattle.ats_trace.specs.Talker.{start_of}
use Rattle.ats_answer_examples.specs.Metered.{MeteringIsMeant, NamingIsMeant, TalkersAreMeant}

-- Meters and buckets by the words themselves.

naming : NamingIsMeant
naming = record {
  names = λ rate burst earlier next frame. (
    λ is. (is.place, is.number, is.exceeds),
    λ h. record { place = h.0; number = h.1; exceeds = h.2 },
  );
  exceeds = λ rate burst frames j i. (
    λ is. (is.within, is.over, is.greatest, is.earliest),
    λ h. record { within = h.0; over = h.1; greatest = h.2; earliest = h.3 },
  );
  by_how_much = λ rate burst frames i j. refl;
  as_counted = λ frames. refl;
}

talkers : TalkersAreMeant
talkers = record {
  bits = λ octets. refl;
  frame = λ r. refl;
  frames = λ i releases. refl;
  shown = λ shows releases. refl;
  talker = λ network i p path is. ap (start_of network.topology.ports) is;
}

pub metering_is_meant : MeteringIsMeant
metering_is_meant = record { talkers = talkers; naming = naming; buckets = λ declared frames. refl }

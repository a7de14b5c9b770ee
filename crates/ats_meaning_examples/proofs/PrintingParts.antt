use Rattle.ats_meaning_examples.specs.Printing.{BeingAlikeIsMeant, BoundsAreShort, ExplainedAreShort, PrintingIsMeant}
use Rattle.ats_meaning_examples.specs.Printing.{SoundnessIsMeant}

-- What is asked of what is printed, part by part.

sound : SoundnessIsMeant
sound = record {
  nodes = λ nodes links. (λ are. (are.names, are.sound), λ p. record { names = p.0; sound = p.1 });
  names = λ network. (λ has. has, λ has. has);
}

bounds : BoundsAreShort
bounds = record {
  number = λ n. (λ is. is, λ is. is);
  bounds = λ t rows s. (
    λ has i d within. (let lines = has i d within in (lines.bounds, lines.sum)),
    λ p i d within. (let lines = p i d within in record { bounds = lines.0; sum = lines.1 }),
  );
}

alike : BeingAlikeIsMeant
alike = record {
  alike = λ one other. (
    λ are. (are.topology, are.names, are.paths, are.branches),
    λ p. record { topology = p.0; names = p.1; paths = p.2; branches = p.3 },
  );
}

explained : ExplainedAreShort
explained = record {
  parts = λ parts. (
    λ has. (
      has.lower,
      has.sender,
      has.bursts,
      has.higher,
      has.frame,
      has.latency,
      has.bound,
      has.stay,
    ),
    λ p. record {
      lower = p.0;
      sender = p.1;
      bursts = p.2;
      higher = p.3;
      frame = p.4;
      latency = p.5;
      bound = p.6;
      stay = p.7;
    },
  );
  stay = λ stay. (λ is. is, λ is. is);
  no_stay = tt;
  name = λ name. (λ is. is, λ is. is);
  no_name = tt;
  hop = λ network s port. (λ is. (is.class, is.parts), λ p. record { class = p.0; parts = p.1 });
  leg = λ network s l. (
    λ has. (has.sum, has.deadline, has.hops),
    λ p. record { sum = p.0; deadline = p.1; hops = p.2 },
  );
  each = λ network s. (λ is. is, λ is. is);
}

pub printing_is_meant : PrintingIsMeant
printing_is_meant = record { sound = sound; bounds = bounds; alike = alike; explained = explained }

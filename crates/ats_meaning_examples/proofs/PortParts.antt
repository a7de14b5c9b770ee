use Rattle.ats_meaning_examples.specs.Ports.{EachPortIsMeant, FirstsAreMeant, LawfulPortsAreMeant, PortsAreMeant}
use Rattle.ats_meaning_examples.specs.Ports.{WalksAreMeant}

-- What is concluded of ports, part by part.

each_port : EachPortIsMeant
each_port = record {
  per_bit = λ ps. (λ is. (is.tabled, is.least, is.most), λ p. record { tabled = p.0; least = p.1; most = p.2 });
  port = λ nodes port. (
    λ is. (is.between.from, is.between.to, is.differ, is.rate, is.ordered, is.latency, is.spread),
    λ p. record {
      between = record { from = p.0; to = p.1 };
      differ = p.2;
      rate = p.3;
      ordered = p.4;
      latency = p.5;
      spread = p.6;
    },
  );
}

lawful : LawfulPortsAreMeant
lawful t = (
  λ has. (
    has.two_each,
    has.each,
    λ i within. (let both = has.link_ports i within in (both.there, both.back)),
    λ n within station. (let one = has.stations n within station in (one.leaves, one.leads)),
    λ p within. (let is = has.paired p within in (is.back, is.within, is.from, is.to)),
  ),
  λ p. record {
    two_each = p.0;
    each = p.1;
    link_ports = λ i within. (let both = p.2 i within in record { there = both.0; back = both.1 });
    stations = λ n within station. (let one = p.3 n within station in record { leaves = one.0; leads = one.1 });
    paired = λ q within. (
        let is = p.4 q within in record { back = is.0; within = is.1; from = is.2; to = is.3 });
  },
)

walks : WalksAreMeant
walks = record {
  at_end = λ ports a b. (λ is. is, λ is. is);
  further = λ ports a b p walk. (
    λ is. (is.0.within, is.0.from, is.1),
    λ parts. (record { within = parts.0; from = parts.1 }, parts.2),
  );
  none = λ ports a b. (λ no. no, λ no. no);
}

firsts : FirstsAreMeant
firsts = record {
  least = λ test n least. (
    λ is. (is.below, is.passes, is.before),
    λ p. record { below = p.0; passes = p.1; before = p.2 },
  );
  legs = λ topology routes. (λ is. (is.some, is.none), λ p. record { some = p.0; none = p.1 });
}

pub ports_are_meant : PortsAreMeant
ports_are_meant = record { each = each_port; lawful = lawful; walks = walks; firsts = firsts }

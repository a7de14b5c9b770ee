use Rattle.ats_meaning_examples.specs.Asked.{AskedIsMeant, AskingAloneIsMeant, NamingIsMeant, NotKeepingIsMeant}
use Rattle.ats_meaning_examples.specs.Asked.{OneLegIsMeant}

-- What is asked for, part by part.

named : NamingIsMeant
named senders = (λ are. are, λ are. are)

alone : AskingAloneIsMeant
alone network run port class = (
  λ are. (are.by_clocks, are.in_true_time),
  λ both. record { by_clocks = both.0; in_true_time = both.1 },
)

one_leg : OneLegIsMeant
one_leg network journey = (
  λ has. (
    has.is,
    record { sent = has.hops; crossed = has.crossings; handed_on = has.handed },
    has.routes,
    has.way,
  ),
  λ parts. record {
    is = parts.0;
    hops = parts.1.sent;
    crossings = parts.1.crossed;
    handed = parts.1.handed_on;
    routes = parts.2;
    way = parts.3;
  },
)

not_kept : NotKeepingIsMeant
not_kept network releases numbers = (
  λ are. (are.in_order, are.each),
  λ both. record { in_order = both.0; each = both.1 },
)

pub asked_is_meant : AskedIsMeant
asked_is_meant = record { named = named; alone = alone; one_leg = one_leg; not_kept = not_kept }

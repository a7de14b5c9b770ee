use Rattle.std.proofs.Common.{refl}
use Rattle.ats_plain_law.specs.Names.{LinksArePlain, NamesArePlain, NumbersArePlain, SendersAreNamed}

-- By which places and names nodes, ports, links and senders go.

numbers : NumbersArePlain
numbers = record {
  names = λ nodes. refl;
  number = λ nodes name. refl;
  at = λ nodes n. refl;
  port = λ ports p. refl;
  link = λ links i. refl;
}

links : LinksArePlain
links = record {
  ports = λ nodes links. refl;
  both = λ nodes link. refl;
  from = λ nodes link a b. refl;
  to = λ nodes link a b. refl;
  rate = λ nodes link a b. refl;
  earliest = λ nodes link a b. refl;
  latency = λ nodes link a b. refl;
}

senders : SendersAreNamed
senders = record {
  streams = λ streams. refl;
  flows = λ flows. refl;
  senders = λ senders. refl;
  less = λ streams name. refl;
  end = λ ports route. refl;
  station = λ topology route. refl;
  first = λ stream. refl;
  further = λ stream station. refl;
  place = λ network sender place. refl;
}

pub names_are_plain : NamesArePlain
names_are_plain = record {
  numbers = numbers;
  links = links;
  senders = senders;
}

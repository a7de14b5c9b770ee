use Rattle.ats_meaning_examples.specs.Listeners.{ListenersAreMeant, ListenersAreTold, OneListenerIsTold, WaysAreTold}

-- What is concluded of listeners, part by part.

listeners : ListenersAreTold
listeners = record {
  legs = λ topology s. (
    λ are. (are.legs, are.routes, are.names),
    λ p. record { legs = p.0; routes = p.1; names = p.2 },
  );
  routes = λ ports branches. (
    λ turn. (turn.trunk, turn.each, turn.many),
    λ p. record { trunk = p.0; each = p.1; many = p.2 },
  );
}

ways : WaysAreTold
ways = record {
  way = λ sender journey listener. (
    λ goes. (goes.way, goes.released),
    λ p. record { way = p.0; released = p.1 },
  );
  asked = λ rows sender journey. (
    λ is. (is.served, is.contained),
    λ p. record { served = p.0; contained = p.1 },
  );
}

one : OneListenerIsTold
one = record {
  served = λ rows sender journey. (
    λ is. (is.served, is.contained),
    λ p. record { served = p.0; contained = p.1 },
  );
  margins = λ network. (
    λ has. (has.margins, has.late, has.over, has.tightest),
    λ p. record { margins = p.0; late = p.1; over = p.2; tightest = p.3 },
  );
}

pub listeners_are_meant : ListenersAreMeant
listeners_are_meant = record { listeners = listeners; ways = ways; one = one }

use Rattle.std.proofs.Common.{refl}
use Rattle.ats_edge_examples.specs.Routes.{HavingLegsIsMeant, HavingRoutesIsMeant, RoutesAreMeant, RoutingIsMeant}

-- What is asked of routes, part by part.

having_routes : HavingRoutesIsMeant
having_routes topology given legs = (
  λ have. (have.are, have.tree, have.routes_are),
  λ parts. record { are = parts.0; tree = parts.1; routes_are = parts.2 },
)

having_legs : HavingLegsIsMeant
having_legs topology given = (λ has. (has.legs, has.have), λ found. record { legs = found.0; have = found.1 })

routed : RoutingIsMeant
routed format topology entry legs = (
  λ is. (is.routes, is.ports, is.have, is.may),
  λ parts. record { routes = parts.0; ports = parts.1; have = parts.2; may = parts.3 },
)

pub routes_are_meant : RoutesAreMeant
routes_are_meant = record {
  routes = having_routes;
  legs = having_legs;
  declared = λ topology given. record { one = refl; two = refl; three = refl };
  routed = routed;
}

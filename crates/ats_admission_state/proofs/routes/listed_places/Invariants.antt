use Rattle.std.proofs.Common.{◌≡◌, take}
use Rattle.ats_admission_state.specs.Routes.{places_along}
use Rattle.ats_admission_state.proofs.routes.listed_places.Given as goal

-- the places of the ports so far
abbrev pub invariant-loop-hop : goal.invariant-loop-hop
invariant-loop-hop l = l.places.items ≡ places_along (take l.hop l.ports) (take l.hop l.classes)

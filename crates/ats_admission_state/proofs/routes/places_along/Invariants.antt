use Rattle.std.proofs.Common.{◌≡◌, length, take}
use Rattle.ats_streams.specs.declared.path.TheConstants.{MAX_PORTS}
use Rattle.ats_admission_state.specs.Routes.{places_along}
use Rattle.ats_admission_state.proofs.routes.places_along.Given as goal

-- the places of the ports so far
abbrev pub invariant-loop-hop : goal.invariant-loop-hop
invariant-loop-hop l = record {
  long : length l.places ≡ MAX_PORTS;
  so_far : take l.hop l.places ≡ places_along (take l.hop l.path) (take l.hop l.classes);
}

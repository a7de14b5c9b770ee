use Rattle.std.proofs.Common.{◌≡◌, ℕ, List, refl, subst}
use Rattle.ats_network.specs.Network.{DeclaredNetwork}
use Rattle.ats_trace.specs.Clocks.{IsLegal}
use Rattle.ats_trace.specs.Journey.{Travel}
use Rattle.ats_plain_promise_law.specs.LegalRuns.{GoesBy, LegalRunsArePlain}

-- By which clocks a run is legal.

goes_by_own : (network : DeclaredNetwork) (run : List Travel) (legal : IsLegal network run)
    → GoesBy network run legal.clocks legal.told
goes_by_own network run legal = record {
  in_order = legal.in_order;
  journeys = legal.journeys;
  keeps = legal.keeps;
  own = legal.own;
  ports = legal.ports;
  links = legal.links;
  groups = legal.groups;
  flows = legal.flows;
  passed = legal.passed;
}

pub legal_runs_are_plain : LegalRunsArePlain
legal_runs_are_plain network run clocks told = (
  λ is. subst (λ (t : ℕ → ℕ → ℕ). GoesBy network run clocks t) is.2
      (subst (λ (c : ℕ → ℕ → ℕ). GoesBy network run c is.0.told) is.1 (goes_by_own network run is.0)),
  λ goes. (
    record {
      in_order = goes.in_order;
      journeys = goes.journeys;
      clocks = clocks;
      keeps = goes.keeps;
      told = told;
      own = goes.own;
      ports = goes.ports;
      links = goes.links;
      groups = goes.groups;
      flows = goes.flows;
      passed = goes.passed;
    },
    refl,
    refl,
  ),
)

-- Of a stream with one listener, that of its trunk, all is said of its ports as of one path.
use Rattle.std.proofs.Common.{◌≡◌, ℕ, List, [], ◌∷◌, subst, sym, arith}
use Rattle.std.specs.List.{All}
use Rattle.std.proofs.lemmas.List.Elements.{All-cons, All-nil}
use Rattle.ats_streams.specs.Branches.{AreBranches, routes_of}
use Rattle.ats_streams.specs.Path.{IsPath}
use Rattle.ats_streams.specs.declared.branch.Branch.{Branch}

-- no branches are lawful ones
pub no_branches : (ports : List ℕ) → AreBranches ports []
no_branches ports = record { places = tt; begin = tt; few = omega arith }

pub alone_branches : (ports : List ℕ) (branches : List Branch) → branches ≡ [] → AreBranches ports branches
alone_branches ports branches alone = subst (AreBranches ports) (sym alone) (no_branches ports)

-- the one route has all ports
pub alone_routes : (ports : List ℕ) (branches : List Branch) → branches ≡ [] → IsPath ports
    → All IsPath (routes_of ports branches)
alone_routes ports branches alone path =
    subst (λ (b : List Branch). All IsPath (routes_of ports b)) (sym alone)
    (All-cons IsPath ports [] path (All-nil IsPath))

pub alone_path : (ports : List ℕ) (branches : List Branch) → branches ≡ [] → All IsPath (routes_of ports branches)
    → IsPath ports
alone_path ports branches alone routes =
    let one : All IsPath (ports ∷ []) = subst (λ (b : List Branch). All IsPath (routes_of ports b)) alone routes in
    one 0 [] (omega arith)

use Rattle.std.specs.Prelude.{◌≡◌, ℕ}
use Rattle.ats_network.specs.Network.{DeclaredNetwork, IsNetwork}
use Rattle.ats_schedulers.specs.Schedulers.{IsHop, scheduler_of}

-- different hops have different schedulers
abbrev pub SchedulersAreApart : Type 0
SchedulersAreApart = (network : DeclaredNetwork) (stream other leg next hop later : ℕ) → IsNetwork network
    → IsHop network stream leg hop → IsHop network other next later
    → scheduler_of network stream leg hop ≡ scheduler_of network other next later
    → (stream ≡ other) × (leg ≡ next) × (hop ≡ later)

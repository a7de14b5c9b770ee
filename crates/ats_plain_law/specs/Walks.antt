use Rattle.std.specs.Prelude.{◌≡◌, ◌↔◌, ◌⊎◌, ℕ, ◌<◌, ◌≤◌, List, [], ◌∷◌, length}
use Rattle.ats_topology.specs.Walks.{IsLeastWalk, IsWalk}
use Rattle.ats_topology.specs.declared.port.Port.{Port}

-- of two walks of one length: where they first part, this one takes the port with the lower number, or they never part
abbrev pub GoesFirst : List ℕ → List ℕ → Type 0
GoesFirst [] other = Unit {0}
GoesFirst (p ∷ walk) [] = ⊥
GoesFirst (p ∷ walk) (q ∷ other) = (p < q) ⊎ ((p ≡ q) × GoesFirst walk other)

pub record WalksArePlain : Type 0 where
  pub least : (ports : List Port) (a b : ℕ) (walk : List ℕ) → IsLeastWalk ports a b walk
      ↔ (IsWalk ports a b walk
      × ((other : List ℕ) → IsWalk ports a b other → length walk ≤ length other)
      × ((other : List ℕ) → IsWalk ports a b other → length other ≡ length walk → GoesFirst walk other))

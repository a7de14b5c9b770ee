use Rattle.std.specs.Prelude.{◌≡◌, ℕ, ◌<◌, ◌≤◌, List, ◌∷◌, All, Any, IsPermutation}
use Rattle.ats_queue.specs.declared.queued.Queued.{Queued}

-- x goes before y: it was eligible earlier, or at the same time with the lesser key
pub record GoesBefore (key : ℕ → ℕ → ℕ) (x y : Queued) : Type 0 where
  pub eligible : x.eligible.0 ≤ y.eligible.0
  pub tie : x.eligible.0 ≡ y.eligible.0 → key x.sender x.frame < key y.sender y.frame

-- a queue gives up this frame: it was held and eligible, and goes before all that stay
pub record Takes (key : ℕ → ℕ → ℕ) (now : ℕ) (old new : List Queued) (taken : Queued) : Type 0 where
  pub held : IsPermutation old (taken ∷ new)
  pub eligible : taken.eligible.0 ≤ now
  pub first : All (λ (y : Queued). GoesBefore key taken y) new

-- the least eligibility time of these frames
pub record IsNextTime (held : List Queued) (time : ℕ) : Type 0 where
  pub reached : Any (λ (x : Queued). x.eligible.0 ≡ time) held
  pub least : All (λ (x : Queued). time ≤ x.eligible.0) held

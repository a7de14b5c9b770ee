use Rattle.std.specs.Prelude.{ℕ, ◌≤◌, List}
use Rattle.ats_bucket.specs.Conforming.{Frame, Conforms}

-- the least burst, in bits, with which these frames conform to a token bucket of this rate, in bits per second
pub record IsLeastBurst (rate : ℕ) (frames : List Frame) (burst : ℕ) : Type 0 where
  pub conforms : Conforms rate burst frames
  pub least : (other : ℕ) → Conforms rate other frames → burst ≤ other

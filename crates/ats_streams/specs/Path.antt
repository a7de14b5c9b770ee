use Rattle.std.specs.Prelude.{ℕ, ◌≤◌, List, length}
use Rattle.ats_streams.specs.declared.path.TheConstants.{MAX_PORTS}

-- a path has 1 to 64 ports
pub record IsPath (path : List ℕ) : Type 0 where
  pub least : 1 ≤ length path
  pub most : length path ≤ MAX_PORTS

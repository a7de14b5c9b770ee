use Rattle.std.specs.Prelude.{◌≡◌, ℕ, List, [], ◌∷◌, codes, Result, Ok, Err}
use Rattle.ats_io.specs.Reads.{Read, ReadsInTurn, and_read}

-- Reads of a file, one after another.

-- of the file with this name so many bytes from a place on
abbrev pub read : ℕ → ℕ → Read
read at count = record { name = codes "n"; at = at; count = count }

-- a file is read from its front, and no byte is passed over. Refuses readings that begin behind a header, and such
-- as go on anywhere behind what was read
pub record ReadsHaveNoGaps : Type 0 where
  pub whole : ReadsInTurn (codes "n" ∷ []) [] (read 0 5 ∷ read 5 2 ∷ [])
  pub not_behind : ¬ ReadsInTurn (codes "n" ∷ []) [] (read 1 4 ∷ [])
  pub not_over : ¬ ReadsInTurn (codes "n" ∷ []) [] (read 0 5 ∷ read 7 2 ∷ [])

-- what comes of a read of the file at 5
abbrev pub and_read_at_5 : Result ℕ ℕ → List Read
and_read_at_5 result = and_read (read 0 5 ∷ []) (codes "n") 5 result

-- a read is listed whatever it comes to, with how many bytes it gave: none at the end, and none where it failed.
-- Refuses lists of the reads alone that gave something, or did not fail
pub record EachReadIsListed : Type 0 where
  pub some : and_read_at_5 (Ok 2) ≡ read 0 5 ∷ read 5 2 ∷ []
  pub none : and_read_at_5 (Ok 0) ≡ read 0 5 ∷ read 5 0 ∷ []
  pub failed : and_read_at_5 (Err 7) ≡ read 0 5 ∷ read 5 0 ∷ []

pub record ReadsAreListed : Type 0 where
  pub gaps : ReadsHaveNoGaps
  pub each : EachReadIsListed

use Rattle.std.specs.Prelude.{◌≡◌, ℕ, ◌-◌, ◌^◌, List, [], ◌∷◌, codes, Some, None}
use Rattle.ats_io.specs.Outside.{Rose, appended}
use Rattle.ats_io.specs.Reads.{Read, ReadsInTurn}

-- Faults that are counted, files that are read, and what a sink takes.

-- of the file with this name so many bytes from a place on
abbrev pub read : ℕ → ℕ → Read
read at count = record { name = codes "n"; at = at; count = count }

-- the file is read to its end
abbrev pub to_the_end : List Read
to_the_end = read 0 5 ∷ read 5 0 ∷ []

-- it is read from its front once more
abbrev pub once_more : List Read
once_more = read 0 5 ∷ read 0 5 ∷ []

-- a count of faults that grew, one that did not, and one that can grow no more; a file that is read once, and one that
-- is read twice; and a piece behind what a sink holds, where that is told
pub record OutsideIsTold : Type 0 where
  pub rose : Rose 3 4
  pub stood : ¬ Rose 3 3
  pub rose_from_none : Rose 0 1
  pub full : Rose (2 ^ 64 - 1) (2 ^ 64 - 1)
  pub not_full : ¬ Rose (2 ^ 64 - 2) (2 ^ 64 - 2)
  pub once : ReadsInTurn (codes "n" ∷ []) [] to_the_end
  pub not_twice : ¬ ReadsInTurn (codes "n" ∷ []) [] once_more
  pub behind : appended (Some (codes "a")) (codes "b") ≡ Some (codes "ab")
  pub untold : appended None (codes "b") ≡ None

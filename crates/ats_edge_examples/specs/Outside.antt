use Rattle.std.specs.Prelude.{ℕ, List, [], ◌∷◌, codes, Some}
use Rattle.ats_io.specs.Outside.{TakesPrefix}
use Rattle.ats_io.specs.Reads.{Read, ReadsInTurn}

-- Files and sinks at edges of what is said of them.

-- a read of the whole file with this name, of so many bytes
abbrev pub read : List ℕ → ℕ → Read
read name count = record { name = name; at = 0; count = count }

-- files are read in their order, and none twice; one may be left unread
pub record ReadsAreInTurn : Type 0 where
  pub so : ReadsInTurn (codes "n" ∷ codes "m" ∷ []) [] (read (codes "n") 3 ∷ read (codes "m") 5 ∷ [])
  pub unread : ReadsInTurn (codes "n" ∷ codes "m" ∷ []) [] (read (codes "m") 5 ∷ [])
  pub turned : ¬ ReadsInTurn (codes "n" ∷ codes "m" ∷ []) [] (read (codes "m") 5 ∷ read (codes "n") 3 ∷ [])

-- a sink takes a text from its front
pub record PrefixesAreTaken : Type 0 where
  pub front : TakesPrefix (codes "ab") (Some (codes "x")) (Some (codes "xa"))
  pub all : TakesPrefix (codes "ab") (Some (codes "x")) (Some (codes "xab"))
  pub end : ¬ TakesPrefix (codes "ab") (Some (codes "x")) (Some (codes "xb"))

pub record OutsideIsAtEdges : Type 0 where
  pub reads : ReadsAreInTurn
  pub prefixes : PrefixesAreTaken

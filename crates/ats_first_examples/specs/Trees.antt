use Rattle.std.specs.Prelude.{◌≡◌, ℕ, List, [], ◌∷◌, codes, Result, Ok, Err}
use Rattle.ats_route_tree.specs.Legs.{DeclaredLegs}
use Rattle.ats_network_table.specs.declared.format.Format.TheVariants.{Three}
use Rattle.ats_network_toml.specs.Document as file
use Rattle.ats_network_file.specs.Senders.{legs_in}
use Rattle.ats_network_file.specs.declared.fault.NetFault.{NetFault}
use Rattle.ats_network_file.specs.declared.fault.NetFault.TheVariants.{BadPath}
use Rattle.ats_network_file.specs.declared.senders.SenderTable.TheVariants.{Stream}
use Rattle.ats_examples.specs.Networks.{fork}
use Rattle.ats_first_examples.specs.Senders.{along, at_number, between, leg}

-- The routes of a stream with several listeners: those of a tree, or of none.

-- what is found for routes in a file of format 3, where the stations s1, s2 and s3 are linked to one bridge b1
abbrev pub all_found : List file.DeclaredRoute → Result DeclaredLegs NetFault
all_found routes = legs_in Three fork.topology (at_number Stream) routes

-- through the bridge, by its name
abbrev pub through : List ℕ → List ℕ → file.DeclaredRoute
through from to = along (from ∷ codes "b1" ∷ to ∷ [])

-- the trunk has these two ports, and behind the first a branch has this one
abbrev pub fork_of : ℕ → ℕ → ℕ → DeclaredLegs
fork_of first second third =
    record { ports = first ∷ second ∷ third ∷ []; branches = record { first = 2; leg = 0; hop = 1 } ∷ [] }

pub record TreesAreFound : Type 0 where
  pub by_ends : all_found (between (codes "s1") (codes "s2") ∷ between (codes "s1") (codes "s3") ∷ [])
      ≡ Ok (fork_of 0 2 5)
  pub by_paths : all_found (through (codes "s1") (codes "s2") ∷ through (codes "s1") (codes "s3") ∷ [])
      ≡ Ok (fork_of 0 2 5)
  pub other_order : all_found (through (codes "s1") (codes "s3") ∷ through (codes "s1") (codes "s2") ∷ [])
      ≡ Ok (fork_of 0 5 2)
  pub one : all_found (through (codes "s1") (codes "s2") ∷ []) ≡ Ok (leg (0 ∷ 2 ∷ []))
  pub none : all_found [] ≡ Err (BadPath Stream 5)
  pub twice : all_found (through (codes "s1") (codes "s2") ∷ between (codes "s1") (codes "s2") ∷ [])
      ≡ Err (BadPath Stream 5)
  pub two_talkers : all_found (through (codes "s1") (codes "s2") ∷ through (codes "s3") (codes "s2") ∷ [])
      ≡ Err (BadPath Stream 5)
  pub to_talker : all_found (through (codes "s1") (codes "s2") ∷ through (codes "s3") (codes "s1") ∷ [])
      ≡ Err (BadPath Stream 5)
  pub second_unknown : all_found (through (codes "s1") (codes "s2") ∷ through (codes "s1") (codes "x") ∷ [])
      ≡ Err (BadPath Stream 5)
  pub second_invalid : all_found (through (codes "s1") (codes "s2") ∷ through (codes "s1") (codes "s1") ∷ [])
      ≡ Err (BadPath Stream 5)
  pub on_the_way : all_found (through (codes "s1") (codes "s2") ∷ between (codes "s1") (codes "b1") ∷ [])
      ≡ Err (BadPath Stream 5)

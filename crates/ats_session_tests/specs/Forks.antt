use Rattle.std.specs.Prelude.{ℕ, List, [], ◌∷◌}
use Rattle.ats_streams.specs.declared.branch.Branch.{Branch}

-- the ports and the branch of a stream that goes from a station to two others, by ports 0 and 2 and, from the bridge
-- between them on, by port 4
abbrev pub fork_ports : List ℕ
fork_ports = 0 ∷ 2 ∷ 4 ∷ []

abbrev pub fork : List Branch
fork = record { first = 2; leg = 0; hop = 1 } ∷ []

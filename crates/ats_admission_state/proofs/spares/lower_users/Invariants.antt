use Rattle.std.proofs.Common.{ℕ, List, length, take}
use Rattle.ats_admission_users.specs.Users.{ListsPaths, users_of}
use Rattle.ats_admission_state.specs.Spares.{AreLowered}
use Rattle.ats_admission_state.proofs.spares.lower_users.Given as goal

-- the spares of the users so far are lowered
abbrev pub invariant-loop-rank : goal.invariant-loop-rank
invariant-loop-rank l = (paths : List (List ℕ)) → ListsPaths (length l.users.lists) paths l.users
    → AreLowered (take l.rank (users_of paths l.port)) l.rise l.initial.spares l.spares

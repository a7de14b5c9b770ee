use Rattle.ats_admission_users.specs.Users.{users_of}
use Rattle.ats_admission_state.proofs.spares.lower.Goals as goal

pub returns-then-is_busy : goal.returns-then-is_busy
returns-then-is_busy c = λ paths lists. c.lower_all.ensures (users_of paths c.args.port)

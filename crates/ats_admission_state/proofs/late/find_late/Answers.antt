use Rattle.ats_admission_state.proofs.late.find_late.Goals as goal

pub returns-then-has_busy-clause-found : goal.returns-then-has_busy-clause-found
returns-then-has_busy-clause-found c = c.first_of_all.ensures.found c.args.path.now

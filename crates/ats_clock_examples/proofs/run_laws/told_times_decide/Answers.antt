use Rattle.ats_clock_examples.proofs.OvertakenProofs as overtaken
use Rattle.ats_clock_examples.proofs.run_laws.told_times_decide.Goals as goal

pub returns-clause-streams : goal.returns-clause-streams
returns-clause-streams c = overtaken.told_times_decide

pub returns-clause-others : goal.returns-clause-others
returns-clause-others c = overtaken.all_are_told

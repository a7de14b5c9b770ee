use Rattle.ats_clock_examples.proofs.TalkingProofs as talking
use Rattle.ats_clock_examples.proofs.run_laws.talker_goes_by_its_clock.Goals as goal

pub returns-clause-clock : goal.returns-clause-clock
returns-clause-clock c = talking.talker_goes_by_its_clock

pub returns-clause-true_time : goal.returns-clause-true_time
returns-clause-true_time c = talking.talker_may_not_go_by_true_time

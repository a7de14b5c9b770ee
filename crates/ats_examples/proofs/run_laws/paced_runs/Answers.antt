use Rattle.ats_examples.proofs.PaceProofs.{arrivals_legal, arrivals_break_links, arrivals_by_pace}
use Rattle.ats_examples.proofs.run_laws.paced_runs.Goals as goal

pub returns : goal.returns
returns c = record { legal = arrivals_legal; broken = arrivals_break_links; by_pace = arrivals_by_pace }

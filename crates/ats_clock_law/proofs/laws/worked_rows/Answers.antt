use Rattle.ats_clock_law.proofs.ExampleProofs.{ahead_of_time, both_are_counted, not_asked, output_is_closer}
use Rattle.ats_clock_law.proofs.ExampleProofs.{output_is_faster, overtaken_in_a_tick, slow_clock, step_is_needed}
use Rattle.ats_clock_law.proofs.laws.worked_rows.Goals as goal

pub returns : goal.returns
returns c = record {
  step_is_needed = step_is_needed;
  output_is_closer = output_is_closer;
  output_is_faster = output_is_faster;
  both_are_counted = both_are_counted;
  slow_clock = slow_clock;
  not_asked = not_asked;
  overtaken = overtaken_in_a_tick;
  ahead = ahead_of_time;
}

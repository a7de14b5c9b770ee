use Rattle.std.specs.Prelude.{◌≡◌, ℕ, List}
use Rattle.ats_trace.specs.Journey.{Travel}
use Rattle.ats_command_input.specs.Order.{wait_of}
use Rattle.ats_command_input.specs.declared.order.Order.TheVariants.{Late}
use Rattle.ats_witness.specs.Delay.{IsGreatestDelay, NoneArrived}
use Rattle.ats_witness.specs.Found.{IsFoundAt, greatest_wait}
use Rattle.ats_text_examples.specs.Measures.{IsWorst}
use Rattle.ats_examples.specs.Networks.{ranged_line}
use Rattle.ats_examples.specs.Runs.{held_by_group, late, long_frame, regulated}
use Rattle.ats_tree_examples.specs.Runs.{late_in_tree, long_split}

-- a greatest delay is the worst delay that a summary of the run tells of the sender for the listener
abbrev pub GreatestIsWorst : Type 0
GreatestIsWorst = (run : List Travel) (sender listener delay : ℕ) → IsGreatestDelay run sender listener delay
    → IsWorst run sender listener delay

-- of two frames that arrive the longer delay is the greatest, and the shorter is not; a frame of another sender that
-- takes longer does not count, nor does one that is discarded, and where each one is discarded none arrived
pub record GreatestIsWorked : Type 0 where
  pub longer : IsGreatestDelay regulated 0 0 150032000
  pub not_shorter : ¬ IsGreatestDelay regulated 0 0 26672000
  pub of_this : IsGreatestDelay held_by_group 0 0 150032000
  pub of_that : IsGreatestDelay held_by_group 1 0 150704000
  pub not_of_that : ¬ IsGreatestDelay held_by_group 0 0 150704000
  pub beside_late : IsGreatestDelay late 0 0 26672000
  pub none : NoneArrived long_frame 0 0
  pub worst : GreatestIsWorst

-- of two frames for four listeners, of which the second is discarded before all but the one at the first bridge: each
-- listener has a delay of its own, that of the longer way no more than its own, and there is none for a number past the
-- last listener, nor where all copies are discarded
pub record ListenersAreWorked : Type 0 where
  pub first : IsGreatestDelay late_in_tree 0 0 52843999
  pub second : IsGreatestDelay late_in_tree 0 1 26672000
  pub third : IsGreatestDelay late_in_tree 0 2 66679999
  pub last : IsGreatestDelay late_in_tree 0 3 66679999
  pub not_of_third : ¬ IsGreatestDelay late_in_tree 0 0 66679999
  pub no_listener : NoneArrived late_in_tree 0 4
  pub none : NoneArrived long_split 0 1

-- the wait behind a port is that of the order `late`
abbrev pub WaitIsThatOfLate : Type 0
WaitIsThatOfLate = (frame spread : ℕ) → greatest_wait frame spread ≡ wait_of Late frame spread

-- it is all of the spread, whatever the frame; and over a bridge that takes 200 to 1000 ns a frame takes as long as
-- over one that takes 1000 ns
pub record WaitIsWorked : Type 0 where
  pub whole : greatest_wait 3 7 ≡ 7
  pub other : greatest_wait 7 3 ≡ 3
  pub of_late : WaitIsThatOfLate
  pub found : IsFoundAt ranged_line 0 0 0 26672000

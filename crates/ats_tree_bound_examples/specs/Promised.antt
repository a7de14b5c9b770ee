use Rattle.std.specs.Prelude.{List, All}
use Rattle.ats_network.specs.Senders.{sender_at}
use Rattle.ats_certificate.specs.declared.row.Row.{Row}
use Rattle.ats_trace.specs.Journey.{Travel}
use Rattle.ats_trace.specs.Stored.{travel_at}
use Rattle.ats_soundness_law.specs.Runs.{ats_runs}
use Rattle.ats_soundness_law.specs.Sound.{AreContained, AreServed, IsContained, IsServed, IsSound}
use Rattle.ats_checker.specs.InTime.{ArrivesInTime, FramesAreInTime}
use Rattle.ats_examples.specs.Babbler.{babbler}
use Rattle.ats_examples.specs.Networks.{fork}
use Rattle.ats_tree_examples.specs.Networks.{crossed, split, tree_within}
use Rattle.ats_tree_examples.specs.Runs.{crossed_babbler, one_split, over_tree}
use Rattle.ats_tree_examples.specs.Bounds.{tree_rows}
use Rattle.ats_tree_examples.specs.Served.{short_split_rows}
use Rattle.ats_tree_bound_examples.specs.InTime.{stream_over_split, tree_stream}

-- What is promised of all frames of a network, whichever rows promise it.

-- frames are not in time where they are late for the last two of four listeners by the deadline, or for the second of
-- two by the sum. And where frames are in time, by any rows, a frame is so at each of its stream's listeners
pub record FramesAreForEach : Type 0 where
  pub late_for_two : ¬ FramesAreInTime (tree_within 54343) tree_rows
  pub late_over_one : ¬ FramesAreInTime split short_split_rows
  pub over_three : (rows : List Row) → FramesAreInTime (tree_within 54344) rows
      → ArrivesInTime rows (tree_stream 54344) over_tree
  pub over_one : (rows : List Row) → FramesAreInTime split rows
      → ArrivesInTime rows (stream_over_split 1000000) (travel_at one_split 0)

-- the rows of which a bound is too short for the second of two listeners serve not all frames, nor contain them. And by
-- any sound rows the frame beside a babbler is served, of whose station alone it is asked that it keeps its buckets;
-- and each frame is contained, those of the babbler too, on its way to each listener
pub record SoundIsForEach : Type 0 where
  pub not_served : ¬ AreServed ats_runs split short_split_rows
  pub not_contained : ¬ AreContained ats_runs split short_split_rows
  pub served : (rows : List Row) → IsSound fork rows → IsServed rows (sender_at fork 0) (travel_at babbler 0)
  pub contained : (rows : List Row) → IsSound crossed rows
      → All (λ (j : Travel). IsContained rows (sender_at crossed j.release.sender) j) crossed_babbler

use Rattle.std.specs.Prelude.{ℕ, List, [], ◌∷◌, codes, All}
use Rattle.ats_streams.specs.Stream.{DeclaredStream}
use Rattle.ats_network.specs.Sender.{stream_sender}
use Rattle.ats_certificate.specs.declared.row.Row.{Row}
use Rattle.ats_trace.specs.Journey.{Travel}
use Rattle.ats_trace.specs.Stored.{travel_at}
use Rattle.ats_trace.specs.Ways.{route_to, way_to}
use Rattle.ats_checker.specs.InTime.{ArrivesInTime, ArrivesInTimeOn, FramesAreInTime}
use Rattle.ats_tree_examples.specs.Networks.{split_stream, stream_of, tree_branches, tree_ports, tree_within}
use Rattle.ats_tree_examples.specs.Runs.{one_split, over_tree}
use Rattle.ats_tree_examples.specs.Bounds.{split_rows, tree_rows}
use Rattle.ats_tree_examples.specs.Served.{short_split_rows, short_tree_rows}

-- Frames that are in time at some of their stream's listeners.

-- a frame of a stream is in time at the listener with this number
abbrev pub ArrivesAt : List Row → DeclaredStream → Travel → ℕ → Type 0
ArrivesAt rows stream j listener = ArrivesInTimeOn rows stream j.release (route_to (stream_sender stream) listener)
    (way_to (stream_sender stream) j listener).ending

-- it is so at none of those listeners, and at each other; so it is not in time
pub record IsLateAt (rows : List Row) (stream : DeclaredStream) (j : Travel) (those others : List ℕ) : Type 0 where
  pub in_time : All (ArrivesAt rows stream j) others
  pub late : All (λ listener. ¬ ArrivesAt rows stream j listener) those
  pub not_in_time : ¬ ArrivesInTime rows stream j

-- the streams of the tree and of the split, with these deadlines in nanoseconds
abbrev pub tree_stream : ℕ → DeclaredStream
tree_stream deadline_ns = stream_of (codes "a") tree_ports tree_branches (6 ∷ []) deadline_ns

abbrev pub stream_over_split : ℕ → DeclaredStream
stream_over_split deadline_ns = split_stream (6 ∷ []) deadline_ns

-- by the law a frame is in time where its stream's deadline is that of the last listeners. With 1 ns less it is late
-- for these two, and with the first listener's deadline, less 1 ns, for all but the second; and where the bound of a
-- port that leads to one listener alone is 1 ps too short, for this one. So a frame that is in time at the first
-- listener, or at all but one, may not count as in time
pub record DeadlinesAreForEach : Type 0 where
  pub all_in_time : FramesAreInTime (tree_within 54344) tree_rows
  pub met : ArrivesInTime tree_rows (tree_stream 54344) over_tree
  pub late_for_two : IsLateAt tree_rows (tree_stream 54343) over_tree (2 ∷ 3 ∷ []) (0 ∷ 1 ∷ [])
  pub late_for_three : IsLateAt tree_rows (tree_stream 40507) over_tree (0 ∷ 2 ∷ 3 ∷ []) (1 ∷ [])
  pub short_for_first : IsLateAt (short_tree_rows 4) (tree_stream 54344) over_tree (0 ∷ []) (1 ∷ 2 ∷ 3 ∷ [])
  pub short_for_second : IsLateAt (short_tree_rows 6) (tree_stream 54344) over_tree (1 ∷ []) (0 ∷ 2 ∷ 3 ∷ [])
  pub short_for_third : IsLateAt (short_tree_rows 10) (tree_stream 54344) over_tree (2 ∷ []) (0 ∷ 1 ∷ 3 ∷ [])
  pub short_for_fourth : IsLateAt (short_tree_rows 12) (tree_stream 54344) over_tree (3 ∷ []) (0 ∷ 1 ∷ 2 ∷ [])
  pub over_one : ArrivesAt split_rows (stream_over_split 26672) (travel_at one_split 0) 1
  pub short_over_one : IsLateAt short_split_rows (stream_over_split 26672) (travel_at one_split 0) (1 ∷ []) (0 ∷ [])

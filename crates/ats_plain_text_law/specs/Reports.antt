use Rattle.std.specs.Prelude.{◌≡◌, ◌↔◌, ℕ, ◌<◌, ◌≤◌, List, ◌++◌, length, Option, Some, codes, decimal, slice_get}
use Rattle.std.specs.List.{flat_map, range_with_len}
use Rattle.ats_network.specs.Network.{DeclaredNetwork, senders_of}
use Rattle.ats_network.specs.Senders.{sender_at}
use Rattle.ats_trace.specs.Journey.{Travel}
use Rattle.ats_trace.specs.Ways.{listener_count}
use Rattle.ats_replay.specs.Report.{bound_of, bound_text, kind_text, listener_line, report_text, sender_lines}
use Rattle.ats_replay.specs.Report.{title_text}
use Rattle.ats_replay.specs.Summary.{place_of, summary_for}
use Rattle.ats_replay.specs.Totals.{totals_of}
use Rattle.ats_replay.specs.declared.summary.Summary.{Summary}

-- a listener has a bound where sums are given and its sender is a stream: the one at its place among those of all
-- senders
pub record BoundsAreReported : Type 0 where
  pub given : (network : DeclaredNetwork) (sums : Option (List ℕ)) (sender n bound : ℕ)
      → (bound_of network sums sender n ≡ Some bound)
      ↔ ((all : List ℕ) × (sums ≡ Some all) × (sender < length network.streams)
      × (slice_get all (place_of network sender n) ≡ Some bound))

-- a sender is a stream by its number, or else a flow, and its first listener goes by that and its name; the line of a
-- listener tells what came of the frames for it, the longest time that one took, and the bound
pub record ListenersAreReported : Type 0 where
  pub stream : (network : DeclaredNetwork) (sender : ℕ) → sender < length network.streams
      → kind_text network sender ≡ codes "stream "
  pub flow : (network : DeclaredNetwork) (sender : ℕ) → length network.streams ≤ sender
      → kind_text network sender ≡ codes "flow "
  pub first : (network : DeclaredNetwork) (sender : ℕ) → title_text network sender 0
      ≡ kind_text network sender ++ (sender_at network sender).name
  pub line : (network : DeclaredNetwork) (of : ℕ → ℕ → Summary) (sums : Option (List ℕ)) (sender n : ℕ)
      → listener_line network of sums sender n
      ≡ title_text network sender n ++ codes " frames " ++ decimal (of sender n).totals.frames
      ++ codes " sunk " ++ decimal (of sender n).totals.sunk ++ codes " late " ++ decimal (of sender n).totals.late
      ++ codes " size " ++ decimal (of sender n).totals.size ++ codes " worst " ++ decimal (of sender n).worst.0
      ++ codes " bound " ++ bound_text (bound_of network sums sender n) ++ codes "\n"

-- `generate` prints a line for each listener of each sender, and the totals of the run
pub record ReportIsWritten : Type 0 where
  pub bounds : BoundsAreReported
  pub listeners : ListenersAreReported
  pub sender : (network : DeclaredNetwork) (of : ℕ → ℕ → Summary) (sums : Option (List ℕ)) (sender : ℕ)
      → sender_lines network of sums sender
      ≡ flat_map (listener_line network of sums sender) (range_with_len 0 (listener_count (sender_at network sender)))
  pub all : (network : DeclaredNetwork) (run : List Travel) (sums : Option (List ℕ)) → report_text network run sums
      ≡ flat_map (sender_lines network (summary_for network run) sums)
      (range_with_len 0 (length (senders_of network)))
      ++ codes "total frames " ++ decimal (totals_of network run).frames
      ++ codes " sunk " ++ decimal (totals_of network run).sunk
      ++ codes " late " ++ decimal (totals_of network run).late
      ++ codes " size " ++ decimal (totals_of network run).size ++ codes "\n"

use Rattle.std.specs.Prelude.{◌≡◌, map}
use Rattle.ats_streams.specs.Stream.{DeclaredStream, with_burst}
use Rattle.ats_network.specs.Network.{DeclaredNetwork}
use Rattle.ats_lrq.specs.Narrow.{narrowed}
use Rattle.ats_examples.specs.ClockedRuns.{slow_line}

-- Clocks in a network whose bursts are narrowed.

-- the line over the slow bridge, with a burst of two frames
abbrev pub slow_line_of_bursts : DeclaredNetwork
slow_line_of_bursts =
    record slow_line { streams = map (λ (s : DeclaredStream). with_burst s 24672) slow_line.streams }

-- bursts are narrowed, and nothing else: clocks stay, with their deviations and their steps
pub record NarrowedKeepsClocks : Type 0 where
  pub narrowed_to_one : narrowed slow_line_of_bursts ≡ slow_line
  pub narrowed_again : narrowed slow_line ≡ slow_line

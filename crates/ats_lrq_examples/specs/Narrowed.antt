use Rattle.std.specs.Prelude.{◌≡◌, ℕ, map}
use Rattle.ats_streams.specs.Stream.{DeclaredStream, with_burst}
use Rattle.ats_network.specs.Network.{DeclaredNetwork, IsNetwork}
use Rattle.ats_lrq.specs.Narrow.{narrowed}
use Rattle.ats_tree_examples.specs.Networks.{split, split_by_class, tree}

-- Narrowed bursts of streams with several listeners.

-- the network, where each stream has this burst
abbrev pub with_bursts : ℕ → DeclaredNetwork → DeclaredNetwork
with_bursts burst network =
    record network { streams = map (λ (s : DeclaredStream). with_burst s burst) network.streams }

-- a stream keeps one frame in its burst, and not one for each of its two listeners, or its four; and of two streams,
-- one with two listeners and one with one, each keeps one
pub record StreamsKeepOneFrame : Type 0 where
  pub rules : IsNetwork (with_bursts 24672 split)
  pub over_one : narrowed (with_bursts 24672 split) ≡ split
  pub over_three : narrowed (with_bursts 49344 tree) ≡ tree
  pub beside : narrowed (with_bursts 24672 split_by_class) ≡ split_by_class

use Rattle.std.specs.Prelude.{◌≡◌, ℕ, slice_get}
use Rattle.std.specs.Option.{option_map}
use Rattle.ats_network.specs.Network.{DeclaredNetwork}
use Rattle.ats_bound.specs.Least.{least_certificate}
use Rattle.ats_lrq.specs.Narrow.{narrowed, narrowed_stream}
use Rattle.ats_examples.specs.OwnFrames.{own}
use Rattle.ats_tree_examples.specs.Networks.{behind_bridge, from_bridge}
use Rattle.ats_lrq_examples.specs.Narrowed.{with_bursts}
use Rattle.ats_own_examples.specs.Networks.{local, local_rows}

-- Narrowed bursts of all streams, those of bridges too.

-- each stream of a network is narrowed, wherever it begins and ends
abbrev pub EachIsNarrowed : Type 0
EachIsNarrowed = (network : DeclaredNetwork) (i : ℕ)
    → slice_get (narrowed network).streams i ≡ option_map narrowed_stream (slice_get network.streams i)

-- streams from bridges and to bridges keep one frame in their bursts, as those between stations beside them do
pub record AllKeepOneFrame : Type 0 where
  pub each : EachIsNarrowed
  pub of_bridge : narrowed (with_bursts 24672 from_bridge) ≡ from_bridge
  pub of_behind : narrowed (with_bursts 24672 behind_bridge) ≡ behind_bridge
  pub of_own : narrowed (with_bursts 24672 own) ≡ own
  pub of_local : narrowed (with_bursts 24672 local) ≡ local
  pub local_bounds : least_certificate (narrowed (with_bursts 24672 local)) ≡ local_rows

use Rattle.std.specs.Prelude.{◌≡◌, ℕ, ◌<◌, ◌≤◌, List, length, map, take, Some, slice_get, slice_index_or}
use Rattle.std.specs.List.{flat_map}
use Rattle.ats_streams.specs.Stream.{DeclaredStream}
use Rattle.ats_network.specs.Edits.{no_stream}
use Rattle.ats_network.specs.Network.{DeclaredNetwork}
use Rattle.ats_tally.specs.Listeners.{listener_at}
use Rattle.ats_explain.specs.Margins.{all_listeners, margin_of, with_listeners}
use Rattle.ats_explain.specs.declared.margin.Margin.{Margin}

-- the margins of a stream's listeners
abbrev pub stream_margins : DeclaredNetwork → DeclaredStream → List Margin
stream_margins network stream = map (margin_of network) (with_listeners network stream)

-- how many listeners the streams have that come before the one with this number
abbrev pub listeners_before : DeclaredNetwork → ℕ → ℕ
listeners_before network n = length (flat_map (with_listeners network) (take n network.streams))

-- the listener with this number, counted stream by stream, is that of this leg of this stream
pub record IsNumbered (network : DeclaredNetwork) (number stream leg : ℕ) : Type 0 where
  pub stream_within : stream < length network.streams
  pub leg_within : leg ≤ length (slice_index_or network.streams stream no_stream).branches
  pub is : slice_get (all_listeners network) number ≡ Some (
    slice_index_or network.streams stream no_stream,
    listener_at network.topology (slice_index_or network.streams stream no_stream) leg,
  )

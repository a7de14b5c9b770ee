use Rattle.std.specs.Prelude.{ℕ, List, map, slice_index_or}
use Rattle.std.specs.List.{remove}
use Rattle.ats_class_table.specs.Table.{Table}
use Rattle.ats_streams.specs.Stream.{DeclaredStream}
use Rattle.ats_network.specs.Edits.{no_stream}
use Rattle.ats_network.specs.Network.{DeclaredNetwork, IsNetwork}
use Rattle.ats_tally.specs.Shares.{AreSharesOf}
use Rattle.ats_tally.specs.declared.share.Share.{Share}
use Rattle.ats_admission_law.specs.Less.{IsLessBy}

-- the stream with this number, and the network without it
abbrev pub stream_at : DeclaredNetwork → ℕ → DeclaredStream
stream_at network n = slice_index_or network.streams n no_stream

abbrev pub without_at : DeclaredNetwork → ℕ → DeclaredNetwork
without_at network n = record network { streams = remove network.streams n }

-- the ports of a network's streams, stream by stream
abbrev pub stream_paths : DeclaredNetwork → List (List ℕ)
stream_paths network = map (λ (s : DeclaredStream). s.ports) network.streams

-- the shares are those of a network that is this one with a stream more
pub record AreSharesBefore (network : DeclaredNetwork) (x : DeclaredStream) (shares : Table Share) : Type 0 where
  pub old : DeclaredNetwork
  pub rules : IsNetwork old
  pub is_less : IsLessBy old network x
  pub counted : AreSharesOf old shares

use Rattle.std.specs.Prelude.{ℕ, List}
use Rattle.ats_network.specs.Network.{DeclaredNetwork}
use Rattle.ats_trace.specs.Clocks.{IsLegal}
use Rattle.ats_trace.specs.Journey.{Travel}
use Rattle.ats_trace.specs.Run.{releases_of}
use Rattle.ats_trace.specs.Talker.{KeepsBuckets, read_by}

-- a node keeps its buckets in a legal run by its own clock: a station in true time
abbrev pub KeepsBucketsIn : (network : DeclaredNetwork) (run : List Travel) → IsLegal network run → ℕ → Type 0
KeepsBucketsIn network run legal node = KeepsBuckets network (read_by (legal.clocks node) (releases_of run)) node

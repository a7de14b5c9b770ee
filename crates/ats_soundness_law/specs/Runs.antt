use Rattle.std.specs.Prelude.{ℕ, List}
use Rattle.ats_bucket.specs.Conforming.{Frame}
use Rattle.ats_streams.specs.declared.traffic.Declared.{Declared}
use Rattle.ats_network.specs.Network.{DeclaredNetwork}
use Rattle.ats_group.specs.Judge.{Judge}
use Rattle.ats_trace.specs.Clocks.{IsLegal}
use Rattle.ats_trace.specs.Journey.{Travel}
use Rattle.ats_trace.specs.Run.{IsLegalBy, releases_of}
use Rattle.ats_trace.specs.Talker.{KeepsBuckets, KeepsBucketsBy}
use Rattle.ats_soundness_law.specs.TrueTime.{KeepsBucketsIn}

-- which runs of a network are legal; which nodes keep in such a run what is asked of them; and when a station does,
-- which reads true time
pub record Runs : Type 1 where
  pub legal : DeclaredNetwork → List Travel → Type 0
  pub keeps : (network : DeclaredNetwork) (run : List Travel) → legal network run → ℕ → Type 0
  pub station_keeps : DeclaredNetwork → List Travel → ℕ → Type 0

-- those in which all nodes read true time, where groups judge so and talkers are asked to keep this rule
abbrev pub in_true_time : Judge → (Declared → List Frame → Type 0) → Runs
in_true_time judge rule = record {
  legal = λ network run. IsLegalBy judge network run;
  keeps = λ network run legal node. KeepsBucketsBy rule network (releases_of run) node;
  station_keeps = λ network run node. KeepsBucketsBy rule network (releases_of run) node;
}

-- those of Asynchronous Traffic Shaping, in which each bridge goes by its own clock, where talkers are asked to keep
-- their buckets, each by its own clock
abbrev pub ats_runs : Runs
ats_runs = record {
  legal = λ network run. IsLegal network run;
  keeps = λ network run legal node. KeepsBucketsIn network run legal node;
  station_keeps = λ network run node. KeepsBuckets network (releases_of run) node;
}

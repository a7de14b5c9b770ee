use Rattle.std.specs.Prelude.{◌≡◌, ℕ, ◌*◌, ◌/◌, List, [], ◌∷◌, codes, None, All}
use Rattle.ats_clock.specs.Clock.{KeepsClock, declared_clock}
use Rattle.ats_clock.specs.Rates.{committed}
use Rattle.ats_clock_law.specs.Retiming.{ConformTo}
use Rattle.ats_topology.specs.Topology.{topology_of}
use Rattle.ats_topology.specs.declared.node.Node.{Node}
use Rattle.ats_streams.specs.Stream.{declared_stream}
use Rattle.ats_network.specs.Network.{DeclaredNetwork, declared_network}
use Rattle.ats_network.specs.Rates.{committed_at}
use Rattle.ats_network.specs.Senders.{sender_at}
use Rattle.ats_certificate.specs.declared.row.Row.{Row}
use Rattle.ats_trace.specs.Journey.{Travel}
use Rattle.ats_trace.specs.Run.{releases_of}
use Rattle.ats_trace.specs.Talker.{frames_of}
use Rattle.ats_soundness_law.specs.Sound.{IsServed, bounds_of}
use Rattle.ats_soundness_law.specs.TrueTime.{KeepsBucketsIn}
use Rattle.ats_clock_run_law.specs.Laws.{IsLegalInTrueTime}
use Rattle.ats_examples.specs.Networks.{bridge, station, two_links}
use Rattle.ats_examples.specs.Rows.{row_with}
use Rattle.ats_examples.specs.Runs.{hop, sunk}
use Rattle.ats_examples.specs.SoundRuns.{IsCertified}
use Rattle.ats_clock_examples.specs.Clocked.{IsLegalWith, true_time}
use Rattle.ats_clock_examples.specs.Needs.{clocked_bridge}

-- A bridge that sends its own frames by a clock that ticks every 10 us.

-- this clock
abbrev pub stepping : ℕ → ℕ
stepping t = 10000000 * (t / 10000000)

-- two bridges between two stations, of which the first has such a clock
abbrev pub talking_nodes : List Node
talking_nodes =
    station (codes "s1") ∷ station (codes "s2")
    ∷ clocked_bridge (codes "b1") 1000000 0 10000000 ∷ bridge (codes "b2") 1000000 ∷ []

-- with a stream that the first bridge sends over the second to s2, of 100 Mb/s and frames of 64 to 105 octets, of which
-- a longest one has 1000 bits and is its burst
abbrev pub talking : DeclaredNetwork
talking = declared_network (topology_of talking_nodes two_links)
    (declared_stream (codes "g") (2 ∷ 4 ∷ []) (6 ∷ 6 ∷ []) 100000000 1000 64 105 1000000 None ∷ []) []

-- the rate gives 1000 bits in a step, so that up to 2000 bits may come at once
abbrev pub talking_rows : List Row
talking_rows =
    row_with 2 6 0 100000000000 2000 0 672 1328000 3500000 ∷ row_with 4 6 0 100000000000 2000 0 672 1328000 2500000 ∷ []

-- the first bridge, the third node, goes by the clock that ticks, and the others show true time
abbrev pub talker_steps : List (ℕ → ℕ)
talker_steps = true_time ∷ true_time ∷ stepping ∷ []

-- one frame in the last picosecond of a tick, and the next as soon as the clock has ticked
abbrev pub around_a_tick : List Travel
around_a_tick =
    sunk 9999999 0 105
    (hop 9999999 9999999 9999999 10999999 ∷ hop 12499999 12499999 12499999 13499999 ∷ []) 13999999
    ∷ sunk 10000000 0 105
    (hop 10000000 10000000 10999999 11999999 ∷ hop 13499999 13499999 13499999 14499999 ∷ []) 14999999
    ∷ []

-- by its clock the talker keeps its bucket, and by true time it would not. In true time the frames conform to the burst
-- that the clock's output has, and to none that is a bit less. So both are served: the second is eligible at the next
-- bridge a picosecond before its bound is over
pub record TalkerGoesByItsClock : Type 0 where
  pub certified : IsCertified talking talking_rows
  pub keeps_clock : KeepsClock (declared_clock 0 10000000) stepping
  pub legal : IsLegalWith talker_steps talking around_a_tick
  pub keeps : KeepsBucketsIn talking around_a_tick legal.legal 2
  pub in_true_time : IsLegalInTrueTime talking around_a_tick
  pub not_in_true_time : ¬ KeepsBucketsIn talking around_a_tick in_true_time.legal 2
  pub output : committed_at talking.topology 2 (sender_at talking 0) ≡ committed 100000000 2000
  pub conforms : ConformTo (committed 100000000 2000) (frames_of 0 (releases_of around_a_tick))
  pub no_less : ¬ ConformTo (committed 100000000 1999) (frames_of 0 (releases_of around_a_tick))
  pub bound : bounds_of talking_rows (sender_at talking 0) 2 ≡ 3500000
  pub served : All (IsServed talking_rows (sender_at talking 0)) around_a_tick

-- two frames within a tick
abbrev pub within_a_tick : List Travel
within_a_tick =
    sunk 0 0 64 (hop 0 0 0 672000 ∷ hop 2172000 2172000 2172000 2844000 ∷ []) 3344000
    ∷ sunk 3440000 0 64 (hop 3440000 3440000 3440000 4112000 ∷ hop 5612000 5612000 5612000 6284000 ∷ []) 6784000
    ∷ []

-- by true time these are frames that the talker may send, and not by its clock, which stands still
pub record TalkerMayNotGoByTrueTime : Type 0 where
  pub legal : IsLegalWith talker_steps talking within_a_tick
  pub not_kept : ¬ KeepsBucketsIn talking within_a_tick legal.legal 2
  pub in_true_time : IsLegalInTrueTime talking within_a_tick
  pub kept_in_true_time : KeepsBucketsIn talking within_a_tick in_true_time.legal 2

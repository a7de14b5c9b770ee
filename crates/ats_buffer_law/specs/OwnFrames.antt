use Rattle.std.specs.Prelude.{ℕ, ◌+◌, ◌≤◌, List, [], ◌∷◌, codes}
use Rattle.ats_topology.specs.Topology.{topology_of}
use Rattle.ats_network.specs.Network.{DeclaredNetwork, long_network}
use Rattle.ats_network.specs.Senders.{sender_at}
use Rattle.ats_certificate.specs.declared.row.Row.{Row}
use Rattle.ats_trace.specs.Clocks.{IsLegal}
use Rattle.ats_trace.specs.Journey.{Travel}
use Rattle.ats_trace.specs.Run.{releases_of}
use Rattle.ats_trace.specs.Stored.{travel_at}
use Rattle.ats_trace.specs.Talker.{talker_of, KeepsBuckets}
use Rattle.ats_soundness_law.specs.Sound.{IsServed}
use Rattle.ats_soundness_law.specs.TrueTime.{KeepsBucketsIn}
use Rattle.ats_buffer.specs.Occupancy.{occupancy}
use Rattle.ats_buffer.specs.Buffer.{buffer_at}
use Rattle.ats_examples.specs.Networks.{stream, three_links, three_nodes}
use Rattle.ats_examples.specs.OwnFrames.{own_stream}
use Rattle.ats_examples.specs.Rows.{row_of_line, row_with}
use Rattle.ats_examples.specs.Runs.{hop, sunk}
use Rattle.ats_examples.specs.SoundRuns.{IsCertified}
use Rattle.ats_buffer_law.specs.Laws.{NodesKeepBuckets}
use Rattle.ats_buffer_law.specs.Worked.{IsHeld}

-- A bridge that babbles, and the buffers of ports behind it.

-- three bridges between two stations, with a stream from end to end, and one from the first bridge to the second
abbrev pub own_three : DeclaredNetwork
own_three =
    long_network (topology_of three_nodes three_links)
    (stream (codes "a") (0 ∷ 2 ∷ 4 ∷ 6 ∷ []) ∷ own_stream (codes "g") (2 ∷ []) (7 ∷ []) ∷ []) []

-- its certificate
abbrev pub own_three_rows : List Row
own_three_rows =
    row_of_line 0 13836000
    ∷ row_with 2 6 10000000000 100000000000 13008 0 672 12460607 14632607
    ∷ row_with 2 7 0 10000000000 672 12336 672 12336000 14508000
    ∷ row_of_line 4 13836000
    ∷ row_of_line 6 12836000
    ∷ []

-- the first bridge sends three frames at once when one of the stream from end to end comes, where its bucket lets one
-- pass
abbrev pub own_at_once : ℕ → Travel
own_at_once start = sunk 13836000 1 64 (hop 13836000 13836000 start (start + 672000) ∷ []) (start + 2172000)

abbrev pub own_before : List Travel
own_before =
    sunk 0 0 1522 (hop 0 0 0 12336000
    ∷ hop 13836000 13836000 15852000 28188000
    ∷ hop 29688000 29688000 29688000 42024000
    ∷ hop 43524000 43524000 43524000 55860000
    ∷ []) 56360000
    ∷ own_at_once 13836000
    ∷ own_at_once 14508000
    ∷ own_at_once 15180000
    ∷ []

-- so that frame is not served, and nothing is promised of the buffer of the next port, which the frame comes to over
-- this bridge's. But the port behind that one, and the port before it, leave other bridges: so in each legal run it
-- holds at most its buffer, where the station keeps its buckets, whatever the first bridge sends
pub record BridgeBackMayBabble : Type 0 where
  pub certified : IsCertified own_three own_three_rows
  pub babbles : (legal : IsLegal own_three own_before)
      → ¬ KeepsBucketsIn own_three own_before legal (talker_of own_three 1)
  pub not_served : ¬ IsServed own_three_rows (sender_at own_three 0) (travel_at own_before 0)
  pub next : (legal : IsLegal own_three own_before) → ¬ NodesKeepBuckets own_three own_before legal 4 6
  pub held : IsHeld own_three own_three_rows own_before 6 6 43524000 12336
  pub fits : (run : List Travel) → IsLegal own_three run
      → KeepsBuckets own_three (releases_of run) (talker_of own_three 0)
      → (time : ℕ) → occupancy own_three run 6 6 time ≤ buffer_at own_three own_three_rows 6 6

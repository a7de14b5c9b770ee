use Rattle.std.specs.Prelude.{◌≡◌, ℕ, ◌+◌, ◌*◌, ◌<◌, List, [], ◌∷◌, ◌++◌, map, codes, None, All, Contains}
use Rattle.ats_topology.specs.Topology.{topology_of}
use Rattle.ats_topology.specs.declared.node.Node.{Node}
use Rattle.ats_streams.specs.Stream.{DeclaredStream, declared_stream}
use Rattle.ats_group.specs.Judge.{bucket_rule}
use Rattle.ats_group.specs.declared.verdict.Verdict.TheVariants.{Late}
use Rattle.ats_network.specs.Bridges.{IsBridgeAt}
use Rattle.ats_network.specs.Network.{DeclaredNetwork, long_network}
use Rattle.ats_network.specs.Senders.{sender_at}
use Rattle.ats_certificate.specs.declared.row.Row.{Row}
use Rattle.ats_trace.specs.Journey.{Travel}
use Rattle.ats_trace.specs.Clocks.{IsLegal}
use Rattle.ats_trace.specs.Run.{IsIdeal, releases_of}
use Rattle.ats_trace.specs.Stored.{travel_at}
use Rattle.ats_trace.specs.Talker.{talker_of, KeepsBuckets}
use Rattle.ats_trace.specs.Ways.{route_to}
use Rattle.ats_trace.specs.declared.journey.Ending.TheVariants.{Discard, Sink}
use Rattle.ats_soundness_law.specs.Sound.{BridgesKeep, IsServed, IsContained}
use Rattle.ats_examples.specs.Networks.{bridge, line_links, line_nodes, station, stream, two_links, two_nodes}
use Rattle.ats_examples.specs.Rows.{row_of_line, row_with}
use Rattle.ats_examples.specs.Runs.{hop, sunk}
use Rattle.ats_examples.specs.SoundRuns.{IsCertified, sum_of}

-- Frames that a bridge sends itself, and frames that end at a bridge.

-- a stream of class 7 with small frames, of which one is its burst
abbrev pub own_stream : List ℕ → List ℕ → List ℕ → DeclaredStream
own_stream name path classes = declared_stream name path classes 10000000 672 64 64 1000000 None

-- the line, with a stream from its bridge to s2, which has number 1, and one from s1 to the bridge, which has number 2
abbrev pub own : DeclaredNetwork
own =
    long_network (topology_of line_nodes line_links)
    (stream (codes "a") (0 ∷ 2 ∷ []) ∷ own_stream (codes "g") (2 ∷ []) (7 ∷ [])
    ∷ own_stream (codes "h") (0 ∷ []) (7 ∷ [])
    ∷ [])
    []

-- its certificate
abbrev pub own_rows : List Row
own_rows =
    row_with 0 6 10000000000 100000000000 13008 0 672 12460607 14632607
    ∷ row_with 0 7 0 10000000000 672 12336 672 12336000 14508000
    ∷ row_with 2 6 10000000000 100000000000 13008 0 672 12460607 13632607
    ∷ row_with 2 7 0 10000000000 672 12336 672 12336000 13508000
    ∷ []

-- a frame of each sender at once: the bridge's goes at once, the next ends at the bridge, and that of the stream over
-- both ports waits behind it
abbrev pub own_frames : List Travel
own_frames =
    sunk 0 1 64 (hop 0 0 0 672000 ∷ []) 1172000
    ∷ sunk 0 2 64 (hop 0 0 0 672000 ∷ []) 2172000
    ∷ sunk 0 0 1522 (hop 0 0 672000 13008000 ∷ hop 14508000 14508000 14508000 26844000 ∷ []) 27344000
    ∷ []

-- all nodes keep their buckets there, and each frame is served, also at the bridge
pub record OwnFramesAreServed : Type 0 where
  pub certified : IsCertified own own_rows
  pub bridge : IsBridgeAt own.topology (talker_of own 1)
  pub legal : IsIdeal own own_frames
  pub station_keeps : KeepsBuckets own (releases_of own_frames) (talker_of own 0)
  pub bridge_keeps : KeepsBuckets own (releases_of own_frames) (talker_of own 1)
  pub served : All (λ (j : Travel). IsServed own_rows (sender_at own j.release.sender) j) own_frames

-- a frame that the bridge releases at one time, and begins to send at another
abbrev pub own_frame : ℕ → ℕ → Travel
own_frame at start = sunk at 1 64 (hop at at start (start + 672000) ∷ []) (start + 1172000)

-- the bridge sends three frames at once when a frame of the stream over both ports comes, where its bucket lets one
-- pass
abbrev pub own_at_once : ℕ → Travel
own_at_once start = own_frame 13836000 start

abbrev pub own_babbler : List Travel
own_babbler =
    sunk 0 0 1522 (hop 0 0 0 12336000 ∷ hop 13836000 13836000 15852000 28188000 ∷ []) 28688000
    ∷ own_at_once 13836000
    ∷ own_at_once 14508000
    ∷ own_at_once 15180000
    ∷ []

-- then that frame, whose talker keeps its buckets, is neither served nor contained, and comes after the sum of its
-- bounds
pub record OwnBabblerCounts : Type 0 where
  pub certified : IsCertified own own_rows
  pub legal : IsIdeal own own_babbler
  pub keeps : KeepsBuckets own (releases_of own_babbler) (talker_of own 0)
  pub babbles : ¬ KeepsBuckets own (releases_of own_babbler) (talker_of own 1)
  pub not_served : ¬ IsServed own_rows (sender_at own 0) (travel_at own_babbler 0)
  pub not_contained : ¬ IsContained own_rows (sender_at own 0) (travel_at own_babbler 0)
  pub arrives : (travel_at own_babbler 0).ending ≡ Sink (record { 0 = 28688000 })
  pub after : sum_of own own_rows (travel_at own_babbler 0) < 28688000

-- a frame ends at the bridge while the bridge sends three at once
abbrev pub own_beside : List Travel
own_beside =
    sunk 0 2 64 (hop 0 0 0 672000 ∷ []) 2172000
    ∷ own_frame 0 0
    ∷ own_frame 0 672000
    ∷ own_frame 0 1344000
    ∷ []

-- no port of its way leaves the bridge: so in each legal run all frames of its stream are served where their station
-- keeps its buckets, whatever the bridge sends
pub record EndsMayBabble : Type 0 where
  pub certified : IsCertified own own_rows
  pub legal : IsIdeal own own_beside
  pub babbles : ¬ KeepsBuckets own (releases_of own_beside) (talker_of own 1)
  pub keeps : KeepsBuckets own (releases_of own_beside) (talker_of own 2)
  pub served : (run : List Travel) → IsLegal own run → KeepsBuckets own (releases_of run) (talker_of own 2)
      → (j : Travel) → Contains run j → j.release.sender ≡ 2 → IsServed own_rows (sender_at own 2) j

-- two bridges between two stations, at which a frame may stay for 12461 ns, with a stream from end to end and one that
-- the first bridge sends to s2
abbrev pub long_nodes : List Node
long_nodes =
    station (codes "s1") ∷ station (codes "s2") ∷ bridge (codes "b1") 12461 ∷ bridge (codes "b2") 12461 ∷ []

abbrev pub long_streams : List DeclaredStream
long_streams = stream (codes "a") (0 ∷ 2 ∷ 4 ∷ []) ∷ own_stream (codes "g") (2 ∷ 4 ∷ []) (7 ∷ 7 ∷ []) ∷ []

abbrev pub long : DeclaredNetwork
long = long_network (topology_of long_nodes two_links) long_streams []

abbrev pub long_rows : List Row
long_rows =
    row_of_line 0 13836000
    ∷ row_with 2 6 10000000000 100000000000 13008 0 672 12460607 14632607
    ∷ row_with 2 7 0 10000000000 672 12336 672 12336000 14508000
    ∷ row_with 4 6 10000000000 100000000000 13008 0 672 12460607 13632607
    ∷ row_with 4 7 0 10000000000 672 12336 672 12336000 13508000
    ∷ []

-- the first bridge sends 20 frames at once. The second lets one of them pass, and the others would have to stay too
-- long
abbrev pub own_passed : Travel
own_passed =
    sunk 13836000 1 64 (hop 13836000 13836000 13836000 14508000 ∷ hop 16008000 16008000 16008000 16680000 ∷ []) 17180000

abbrev pub own_late : ℕ → Travel
own_late k = record {
  release = record { at = record { 0 = 13836000 }; sender = 1; octets = 64 };
  hops =
      hop 13836000 13836000 (13836000 + 672000 * k) (14508000 + 672000 * k)
      ∷ record { arrival = record { 0 = 16008000 + 672000 * k }; verdict = Late (record { 0 = 83208000 }); sent = None }
      ∷ [];
  ending = Discard;
  copies = [];
}

-- so a frame of the stream from end to end comes late to the second bridge, and the next one, which does not, would
-- have to stay there too long for its bucket
abbrev pub own_delay : List Travel
own_delay =
    sunk 0 0 1522 (hop 0 0 0 12336000 ∷ hop 13836000 13836000 27276000 39612000
    ∷ hop 41112000 41112000 41112000 53448000
    ∷ []) 53948000
    ∷ own_passed
    ∷ map own_late (1 ∷ 2 ∷ 3 ∷ 4 ∷ 5 ∷ 6 ∷ 7 ∷ 8 ∷ 9 ∷ 10 ∷ 11 ∷ 12 ∷ 13 ∷ 14 ∷ 15 ∷ 16 ∷ 17 ∷ 18 ∷ 19 ∷ [])
    ++ record {
      release = record { at = record { 0 = 123360000 }; sender = 0; octets = 1522 };
      hops =
          hop 123360000 123360000 123360000 135696000
          ∷ hop 137196000 137196000 137196000 149532000
          ∷ record { arrival = record { 0 = 151032000 }; verdict = Late (record { 0 = 164472000 }); sent = None }
          ∷ [];
      ending = Discard;
      copies = [];
    }
    ∷ []

-- it is discarded, though its talker keeps its buckets
pub record OwnDelayCounts : Type 0 where
  pub certified : IsCertified long long_rows
  pub legal : IsIdeal long own_delay
  pub keeps : KeepsBuckets long (releases_of own_delay) (talker_of long 0)
  pub babbles : ¬ KeepsBuckets long (releases_of own_delay) (talker_of long 1)
  pub not_served : ¬ IsServed long_rows (sender_at long 0) (travel_at own_delay 21)
  pub discarded : (travel_at own_delay 21).ending ≡ Discard

-- the same, where a frame may stay for 1 ms at each bridge; its certificate has the same rows
abbrev pub long_stay : DeclaredNetwork
long_stay = long_network (topology_of two_nodes two_links) long_streams []

-- the first bridge sends two frames at once. The second bridge holds the second of them until its bucket has room
abbrev pub own_held : List Travel
own_held =
    sunk 0 1 64 (hop 0 0 0 672000 ∷ hop 2172000 2172000 2172000 2844000 ∷ []) 3344000
    ∷ sunk 0 1 64 (hop 0 0 672000 1344000 ∷ hop 2844000 69372000 69372000 70044000 ∷ []) 70544000
    ∷ []

-- it is not served. But no port of its route behind the first leaves the bridge that sent it: so in each legal run all
-- frames of its stream are contained, whatever this bridge sends
pub record OwnAreContained : Type 0 where
  pub certified : IsCertified long_stay long_rows
  pub legal : IsIdeal long_stay own_held
  pub babbles : ¬ BridgesKeep bucket_rule long_stay (releases_of own_held) (route_to (sender_at long_stay 1) 0)
  pub not_served : ¬ IsServed long_rows (sender_at long_stay 1) (travel_at own_held 1)
  pub contained : (run : List Travel) → IsLegal long_stay run → (j : Travel) → Contains run j
      → j.release.sender ≡ 1 → IsContained long_rows (sender_at long_stay 1) j

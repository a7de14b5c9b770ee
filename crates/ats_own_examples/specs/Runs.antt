use Rattle.std.specs.Prelude.{◌≡◌, ℕ, List, [], ◌∷◌, ◌++◌, codes, Some}
use Rattle.ats_trace.specs.Journey.{Travel}
use Rattle.ats_trace.specs.Run.{IsIdeal, releases_of}
use Rattle.ats_conform.specs.Releases.{AllKeepBuckets}
use Rattle.ats_gen.specs.Made.{made}
use Rattle.ats_tally.specs.Delays.{sums_for}
use Rattle.ats_replay.specs.Departures.{departures_text}
use Rattle.ats_replay.specs.Report.{report_text}
use Rattle.ats_examples.specs.OwnFrames.{own, own_babbler, own_frames, own_rows}
use Rattle.ats_examples.specs.Runs.{hop, sunk}
use Rattle.ats_tree_examples.specs.Networks.{behind_bridge, from_bridge}
use Rattle.ats_tree_examples.specs.Runs.{copied, copies_behind, copy, own_copies}
use Rattle.ats_own_examples.specs.Networks.{bridge_rows, local, local_rows, own_and_flow}

-- Runs in which frames begin or end at bridges, and what is printed of them.

-- frames over the line of local streams and flows: one of a flow and one of a stream that the bridge sends at once, one
-- that ends at the bridge, and behind that one that goes on
abbrev pub local_frames : List Travel
local_frames =
    sunk 0 7 320 (hop 0 0 880000 3600000 ∷ []) 4100000
    ∷ sunk 0 3 90 (hop 0 0 0 880000 ∷ []) 1380000
    ∷ sunk 0 1 64 (hop 0 0 0 672000 ∷ []) 2172000
    ∷ sunk 0 0 64 (hop 0 0 672000 1344000 ∷ hop 2844000 2844000 3600000 4272000 ∷ []) 4772000
    ∷ []

-- frames that end at the bridge: two of a stream at once, where its burst is one, one that is longer than is declared,
-- and one of a flow that is so too
abbrev pub ending_frames : List Travel
ending_frames =
    sunk 0 2 64 (hop 0 0 0 672000 ∷ []) 2172000
    ∷ sunk 0 2 64 (hop 0 0 672000 1344000 ∷ []) 2844000
    ∷ sunk 0 2 65 (hop 0 0 1344000 2024000 ∷ []) 3524000
    ∷ sunk 0 3 301 (hop 0 0 0 2568000 ∷ []) 4068000
    ∷ []

-- the frames that are made of the seed 1: three over the line
abbrev pub own_made : List Travel
own_made =
    sunk 0 0 394 (hop 0 0 0 3312000 ∷ hop 4812000 4812000 4812000 8124000 ∷ []) 8624000
    ∷ sunk 1944153 1 64 (hop 1944153 1944153 1944153 2616153 ∷ []) 3116153
    ∷ sunk 2137023 2 64 (hop 2137023 2137023 3312000 3984000 ∷ []) 5484000
    ∷ []

-- three from the bridge to its three listeners, of which the third waits at b1 until its bucket has room
abbrev pub bridge_made : List Travel
bridge_made =
    copied (sunk 0 0 394 (hop 0 0 0 3312000 ∷ []) 3812000)
    (copy (hop 0 0 0 3312000 ∷ hop 4812000 4812000 4812000 8124000 ∷ []) 8624000
    ∷ copy (hop 0 0 0 3312000 ∷ []) 4812000
    ∷ [])
    ∷ copied (sunk 32240000 0 1511 (hop 32240000 32240000 32240000 44488000 ∷ []) 44988000)
    (copy (hop 32240000 32240000 32240000 44488000 ∷ hop 45988000 45988000 45988000 58236000 ∷ []) 58736000
    ∷ copy (hop 32240000 32240000 32240000 44488000 ∷ []) 45988000
    ∷ [])
    ∷ copied (sunk 95200000 0 767 (hop 95200000 95200000 95200000 101496000 ∷ []) 101996000)
    (copy (hop 95200000 95200000 95200000 101496000 ∷ hop 102996000 108068000 108068000 114364000 ∷ []) 114864000
    ∷ copy (hop 95200000 95200000 95200000 101496000 ∷ []) 102996000
    ∷ [])
    ∷ []

-- and six over the line of local streams and flows
abbrev pub local_made : List Travel
local_made =
    sunk 0 0 394 (hop 0 0 0 3312000 ∷ hop 4812000 4812000 4812000 8124000 ∷ []) 8624000
    ∷ sunk 1944153 1 76 (hop 1944153 1944153 3312000 4080000 ∷ []) 5580000
    ∷ sunk 2137023 2 73 (hop 2137023 2137023 2137023 2881023 ∷ []) 3381023
    ∷ sunk 2976818 3 87 (hop 2976818 2976818 2976818 3832818 ∷ []) 4332818
    ∷ sunk 3463720 4 67 (hop 3463720 3463720 3463720 4159720 ∷ []) 5659720
    ∷ sunk 3610466 0 690 (hop 3610466 3610466 4080000 9760000 ∷ hop 11260000 11260000 11260000 16940000 ∷ []) 17440000
    ∷ []

-- what `replay` prints
abbrev pub own_sent : List ℕ
own_sent =
    codes "frame 0 g 64 0\n"
    ++ codes "hop b1>s2 0 eligible 0 start 0 end 672000\n"
    ++ codes "sink 1172000\n"
    ++ codes "frame 1 h 64 0\n"
    ++ codes "hop s1>b1 0 eligible 0 start 0 end 672000\n"
    ++ codes "sink 2172000\n"
    ++ codes "frame 2 a 1522 0\n"
    ++ codes "hop s1>b1 0 eligible 0 start 672000 end 13008000\n"
    ++ codes "hop b1>s2 14508000 eligible 14508000 start 14508000 end 26844000\n"
    ++ codes "sink 27344000\n"
    ++ codes "total frames 3 sunk 3 late 0 size 0\n"

abbrev pub babbler_sent : List ℕ
babbler_sent =
    codes "frame 0 a 1522 0\n"
    ++ codes "hop s1>b1 0 eligible 0 start 0 end 12336000\n"
    ++ codes "hop b1>s2 13836000 eligible 13836000 start 15852000 end 28188000\n"
    ++ codes "sink 28688000\n"
    ++ codes "frame 1 g 64 13836000\n"
    ++ codes "hop b1>s2 13836000 eligible 13836000 start 13836000 end 14508000\n"
    ++ codes "sink 15008000\n"
    ++ codes "frame 2 g 64 13836000\n"
    ++ codes "hop b1>s2 13836000 eligible 13836000 start 14508000 end 15180000\n"
    ++ codes "sink 15680000\n"
    ++ codes "frame 3 g 64 13836000\n"
    ++ codes "hop b1>s2 13836000 eligible 13836000 start 15180000 end 15852000\n"
    ++ codes "sink 16352000\n"
    ++ codes "total frames 4 sunk 4 late 0 size 0\n"

abbrev pub ending_sent : List ℕ
ending_sent =
    codes "frame 0 h 64 0\n"
    ++ codes "hop s1>b1 0 eligible 0 start 0 end 672000\n"
    ++ codes "sink 2172000\n"
    ++ codes "frame 1 h 64 0\n"
    ++ codes "hop s1>b1 0 eligible 0 start 672000 end 1344000\n"
    ++ codes "sink 2844000\n"
    ++ codes "frame 2 h 65 0\n"
    ++ codes "hop s1>b1 0 eligible 0 start 1344000 end 2024000\n"
    ++ codes "sink 3524000\n"
    ++ codes "frame 3 m 301 0\n"
    ++ codes "hop s2>b1 0 eligible 0 start 0 end 2568000\n"
    ++ codes "sink 4068000\n"
    ++ codes "total frames 4 sunk 4 late 0 size 0\n"

abbrev pub bridge_sent : List ℕ
bridge_sent =
    codes "frame 0 a 1522 0\n"
    ++ codes "hop b2>s2 0 eligible 0 start 0 end 12336000\n"
    ++ codes "sink 12836000\n"
    ++ codes "listener s3\n"
    ++ codes "hop b2>b1 0 eligible 0 start 0 end 12336000\n"
    ++ codes "hop b1>s3 13836000 eligible 13836000 start 13836000 end 26172000\n"
    ++ codes "sink 26672000\n"
    ++ codes "listener b3\n"
    ++ codes "hop b2>b3 0 eligible 0 start 0 end 12336000\n"
    ++ codes "sink 13836000\n"
    ++ codes "total frames 1 sunk 3 late 0 size 0\n"

abbrev pub behind_sent : List ℕ
behind_sent =
    codes "frame 0 a 1522 0\n"
    ++ codes "hop b2>s2 0 eligible 0 start 0 end 12336000\n"
    ++ codes "sink 12836000\n"
    ++ codes "listener s3\n"
    ++ codes "hop b2>b1 0 eligible 0 start 0 end 12336000\n"
    ++ codes "hop b1>s3 13836000 eligible 13836000 start 13836000 end 26172000\n"
    ++ codes "sink 26672000\n"
    ++ codes "listener s1\n"
    ++ codes "hop b1>s1 13836000 eligible 13836000 start 13836000 end 26172000\n"
    ++ codes "sink 26672000\n"
    ++ codes "total frames 1 sunk 3 late 0 size 0\n"

abbrev pub local_sent : List ℕ
local_sent =
    codes "frame 0 l-2 320 0\n"
    ++ codes "hop b1>s2 0 eligible 0 start 880000 end 3600000\n"
    ++ codes "sink 4100000\n"
    ++ codes "frame 1 g-2 90 0\n"
    ++ codes "hop b1>s2 0 eligible 0 start 0 end 880000\n"
    ++ codes "sink 1380000\n"
    ++ codes "frame 2 g-0 64 0\n"
    ++ codes "hop s1>b1 0 eligible 0 start 0 end 672000\n"
    ++ codes "sink 2172000\n"
    ++ codes "frame 3 a 64 0\n"
    ++ codes "hop s1>b1 0 eligible 0 start 672000 end 1344000\n"
    ++ codes "hop b1>s2 2844000 eligible 2844000 start 3600000 end 4272000\n"
    ++ codes "sink 4772000\n"
    ++ codes "total frames 4 sunk 4 late 0 size 0\n"

-- the first hop of a frame is at the bridge where this sends it, and a frame arrives where its route ends, also at a
-- bridge; there no regulator judges it, so that it may be longer than is declared, and one of more than the burst
pub record RunsAreSent : Type 0 where
  pub ending_legal : IsIdeal own_and_flow ending_frames
  pub of_ending : departures_text own_and_flow ending_frames ≡ ending_sent
  pub local_legal : IsIdeal local local_frames
  pub of_local : departures_text local local_frames ≡ local_sent
  pub of_own : departures_text own own_frames ≡ own_sent
  pub of_babbler : departures_text own own_babbler ≡ babbler_sent
  pub of_bridge : departures_text from_bridge own_copies ≡ bridge_sent
  pub of_behind : departures_text behind_bridge copies_behind ≡ behind_sent

-- what `generate` prints
abbrev pub own_reported : List ℕ
own_reported =
    codes "stream a frames 1 sunk 1 late 0 size 0 worst 8624000 bound 28265214\n"
    ++ codes "stream g frames 1 sunk 1 late 0 size 0 worst 1172000 bound 13508000\n"
    ++ codes "stream h frames 1 sunk 1 late 0 size 0 worst 3346977 bound 14508000\n"
    ++ codes "total frames 3 sunk 3 late 0 size 0\n"

abbrev pub bridge_reported : List ℕ
bridge_reported =
    codes "stream a frames 3 sunk 3 late 0 size 0 worst 12748000 bound 12836000\n"
    ++ codes "listener a s3 frames 3 sunk 3 late 0 size 0 worst 26496000 bound 26672000\n"
    ++ codes "listener a b3 frames 3 sunk 3 late 0 size 0 worst 13748000 bound 13836000\n"
    ++ codes "total frames 3 sunk 9 late 0 size 0\n"

abbrev pub local_reported : List ℕ
local_reported =
    codes "stream a frames 2 sunk 2 late 0 size 0 worst 13829534 bound 33872270\n"
    ++ codes "stream g-0 frames 1 sunk 1 late 0 size 0 worst 3635847 bound 14716000\n"
    ++ codes "stream g-1 frames 1 sunk 1 late 0 size 0 worst 1244000 bound 4100000\n"
    ++ codes "stream g-2 frames 1 sunk 1 late 0 size 0 worst 1356000 bound 13716000\n"
    ++ codes "stream g-3 frames 1 sunk 1 late 0 size 0 worst 2196000 bound 5100000\n"
    ++ codes "flow l-0 frames 0 sunk 0 late 0 size 0 worst 0 bound -\n"
    ++ codes "flow l-1 frames 0 sunk 0 late 0 size 0 worst 0 bound -\n"
    ++ codes "flow l-2 frames 0 sunk 0 late 0 size 0 worst 0 bound -\n"
    ++ codes "flow l-3 frames 0 sunk 0 late 0 size 0 worst 0 bound -\n"
    ++ codes "total frames 6 sunk 6 late 0 size 0\n"

-- each stream and flow has its line, also one that begins or ends at a bridge, with the sum of its bounds
pub record RunsAreReported : Type 0 where
  pub own_releases : releases_of own_made ≡ made own 1 3
  pub own_legal : IsIdeal own own_made
  pub of_own : report_text own own_made (Some (sums_for own own_rows)) ≡ own_reported
  pub bridge_releases : releases_of bridge_made ≡ made from_bridge 1 3
  pub bridge_legal : IsIdeal from_bridge bridge_made
  pub of_bridge : report_text from_bridge bridge_made (Some (sums_for from_bridge bridge_rows)) ≡ bridge_reported
  pub local_releases : releases_of local_made ≡ made local 1 6
  pub local_legal : IsIdeal local local_made
  pub of_local : report_text local local_made (Some (sums_for local local_rows)) ≡ local_reported

-- a run with a bridge that babbles is one in which not all nodes keep their buckets
pub record RunsAreWorked : Type 0 where
  pub sent : RunsAreSent
  pub reported : RunsAreReported
  pub babbles : ¬ AllKeepBuckets own (releases_of own_babbler)

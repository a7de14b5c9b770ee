use Rattle.std.specs.Prelude.{◌≡◌, ℕ, zero, suc, ◌+◌, ◌*◌, ◌<◌, ◌≤◌, List, [], ◌∷◌, codes, length, All, None}
use Rattle.ats_topology.specs.Topology.{topology_of}
use Rattle.ats_streams.specs.Stream.{declared_stream}
use Rattle.ats_network.specs.Network.{DeclaredNetwork, IsNetwork, declared_network}
use Rattle.ats_port_rule.specs.Transmission.{Transmission}
use Rattle.ats_trace.specs.Journey.{Travel}
use Rattle.ats_trace.specs.Projections.{sent_by}
use Rattle.ats_trace.specs.Releases.{AreReleases}
use Rattle.ats_trace.specs.Run.{IsIdeal, releases_of}
use Rattle.ats_trace.specs.Talker.{talker_of, KeepsBuckets}
use Rattle.ats_trace.specs.declared.journey.Release.{Release}
use Rattle.ats_trace.specs.declared.run.TheConstants.{MAX_FRAMES}
use Rattle.ats_examples.specs.Networks.{line_links, line_nodes}
use Rattle.ats_examples.specs.Runs.{hop, sunk}

-- Runs of a stream in which the network never rests.

-- the line with a stream that has the whole rate of its links
abbrev pub steady_line : DeclaredNetwork
steady_line = declared_network (topology_of line_nodes line_links)
    (declared_stream (codes "a") (0 ∷ 2 ∷ []) (6 ∷ 6 ∷ []) 1000000000 12336 64 1522 1000000 None ∷ []) []

-- the time of a frame of 64 octets on a link of the line
abbrev pub frame_ps : ℕ
frame_ps = 672000

-- the frame with a number: frames are released so long one after another, and each is sent behind the one before it,
-- and sent on as soon as it arrives at the bridge
abbrev pub steady_frame : ℕ → ℕ → Travel
steady_frame gap k =
    sunk (k * gap) 0 64
    (hop (k * gap) (k * gap) (k * frame_ps) (k * frame_ps + 672000)
    ∷ hop (k * frame_ps + 2172000) (k * frame_ps + 2172000) (k * frame_ps + 2172000) (k * frame_ps + 2844000) ∷ [])
    (k * frame_ps + 3344000)

-- so many of them, the first of which has this number
abbrev pub steady_from : ℕ → ℕ → ℕ → List Travel
steady_from gap k zero = []
steady_from gap k (suc n) = steady_frame gap k ∷ steady_from gap (k + 1) n

-- a frame starts as soon as it is eligible, at the moment at which the one before it ends
abbrev pub IsBusy : Transmission → Type 0
IsBusy x = (x.eligible ≡ x.start) × (x.start ≡ x.frame * frame_ps + 2172000) × (x.end ≡ x.start + frame_ps)

-- for each number there is a legal run of exactly so many frames, released at once or up to one frame time apart. The
-- bridge sends each of them without a pause, so that no bucket is ever full again, however many they are. Where they
-- are released one frame time apart, the talker keeps its bucket; and they may be more than may be run
pub record SteadyIsLegal : Type 0 where
  pub network : IsNetwork steady_line
  pub legal : (gap n : ℕ) → gap ≤ frame_ps → IsIdeal steady_line (steady_from gap 0 n)
  pub long : (gap n : ℕ) → length (steady_from gap 0 n) ≡ n
  pub busy : (gap n : ℕ) → All IsBusy (sent_by steady_line (steady_from gap 0 n) 2)
  pub at_once : (n : ℕ) → All (λ (r : Release). r.at.0 ≡ 0) (releases_of (steady_from 0 0 n))
  pub kept : (n : ℕ) → KeepsBuckets steady_line (releases_of (steady_from frame_ps 0 n)) (talker_of steady_line 0)
  pub beyond : (gap n : ℕ) → MAX_FRAMES < n → ¬ AreReleases steady_line (releases_of (steady_from gap 0 n))

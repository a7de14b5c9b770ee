use Rattle.std.specs.Prelude.{ℕ, ◌+◌, ◌<◌, ◌≤◌, List, [], ◌∷◌, length, sum_by, All, Contains}
use Rattle.ats_topology.specs.Port.{port_at}
use Rattle.ats_topology.specs.Topology.{IsStationAt}
use Rattle.ats_network.specs.Bridges.{IsBridgeAt}
use Rattle.ats_network.specs.Sender.{Sender}
use Rattle.ats_network.specs.Network.{DeclaredNetwork, senders_of}
use Rattle.ats_network.specs.Senders.{sender_at}
use Rattle.ats_certificate.specs.Certificate.{bound_of_hop}
use Rattle.ats_certificate.specs.declared.row.Row.{Row}
use Rattle.ats_bucket.specs.Conforming.{Frame}
use Rattle.ats_streams.specs.declared.traffic.Declared.{Declared}
use Rattle.ats_group.specs.declared.verdict.Verdict.{Verdict}
use Rattle.ats_group.specs.declared.verdict.Verdict.TheVariants.{Eligible, Late, Size}
use Rattle.ats_group.specs.Judge.{OnEligible}
use Rattle.ats_trace.specs.Journey.{Leg, Travel, IsOfStream}
use Rattle.ats_trace.specs.Ways.{listener_count, route_to, way_to}
use Rattle.ats_trace.specs.Talker.{talker_of, KeepsBucketsBy}
use Rattle.ats_trace.specs.declared.journey.Release.{Release}
use Rattle.ats_trace.specs.HopRecord.{HopRecord}
use Rattle.ats_trace.specs.declared.journey.Ending.{Ending}
use Rattle.ats_trace.specs.declared.journey.Ending.TheVariants.{Sink, Discard}
use Rattle.ats_soundness_law.specs.Runs.{Runs, ats_runs}

-- a verdict of eligible by this time, and what holds of its time
abbrev pub IsEligibleBy : ℕ → (ℕ → Type 0) → Verdict → Type 0
IsEligibleBy limit next (Eligible e) = (e.0 ≤ limit) × next e.0
IsEligibleBy limit next (Late e) = ⊥
IsEligibleBy limit next Size = ⊥

-- from a port on a frame is eligible at each port, and at each within the bound of the port before since it was
-- eligible there; at the next by this time, and behind the last port it arrives
abbrev pub IsPrompt : (ℕ → ℕ) → ℕ → List ℕ → List HopRecord → Ending → Type 0
IsPrompt bound limit [] [] (Sink at) = at.0 ≤ limit
IsPrompt bound limit [] [] Discard = ⊥
IsPrompt bound limit [] (hop ∷ hops) ending = ⊥
IsPrompt bound limit (p ∷ path) [] ending = ⊥
IsPrompt bound limit (p ∷ path) (hop ∷ hops) ending =
    IsEligibleBy limit (λ e. IsPrompt bound (e + bound p) path hops ending) hop.verdict

-- the frame arrives at its listener by this time
abbrev pub ArrivesBy : ℕ → Ending → Type 0
ArrivesBy limit (Sink at) = at.0 ≤ limit
ArrivesBy limit Discard = ⊥

-- the bounds of a sender's ports, by the rows of a certificate
abbrev pub bounds_of : List Row → Sender → ℕ → ℕ
bounds_of rows sender port = bound_of_hop rows sender port

-- on this way along a route a frame is never discarded, is eligible at each next hop within the bound of the hop
-- before, and arrives within the sum
pub record IsServedOn (rows : List Row) (sender : Sender) (release : Release) (route : List ℕ) (way : Leg)
    : Type 0 where
  pub prompt : IsPrompt (bounds_of rows sender) release.at.0 route way.hops way.ending
  pub arrives : ArrivesBy (release.at.0 + sum_by (bounds_of rows sender) route) way.ending

-- so it is on its way to each listener
abbrev pub IsServed : List Row → Sender → Travel → Type 0
IsServed rows sender journey = (listener : ℕ) → listener < listener_count sender
    → IsServedOn rows sender journey.release (route_to sender listener) (way_to sender journey listener)

-- if a frame is eligible at the first of these ports, it is prompt behind it
abbrev pub IsPromptIfEligible : (ℕ → ℕ) → List ℕ → List HopRecord → Ending → Type 0
IsPromptIfEligible bound [] hops ending = Unit {0}
IsPromptIfEligible bound (p ∷ path) [] ending = Unit {0}
IsPromptIfEligible bound (p ∷ path) (hop ∷ hops) ending =
    OnEligible hop.verdict (λ e. IsPrompt bound (e + bound p) path hops ending)

-- all but the first
abbrev pub all_but_first : {X : Type 0} → List X → List X
all_but_first [] = []
all_but_first (x ∷ xs) = xs

-- on this way along a route a frame that is eligible behind the first port is prompt from there on
abbrev pub IsContainedOn : List Row → Sender → List ℕ → Leg → Type 0
IsContainedOn rows sender route way =
    IsPromptIfEligible (bounds_of rows sender) (all_but_first route) (all_but_first way.hops) way.ending

-- so it is on its way to each listener
abbrev pub IsContained : List Row → Sender → Travel → Type 0
IsContained rows sender journey = (listener : ℕ) → listener < listener_count sender
    → IsContainedOn rows sender (route_to sender listener) (way_to sender journey listener)

-- each bridge that one of these ports leaves keeps this rule: its own frames are as it says. One at which no route
-- begins has none, and keeps each rule
abbrev pub BridgesKeep : (Declared → List Frame → Type 0) → DeclaredNetwork → List Release → List ℕ → Type 0
BridgesKeep rule network releases ports =
    All (λ p. IsBridgeAt network.topology (port_at network.topology.ports p).from
    → KeepsBucketsBy rule network releases (port_at network.topology.ports p).from) ports

-- in a legal run each bridge that one of these ports leaves keeps what is asked of it
abbrev pub BridgesKeepIn : (runs : Runs) (network : DeclaredNetwork) (run : List Travel) → runs.legal network run
    → List ℕ → Type 0
BridgesKeepIn runs network run legal ports =
    All (λ p. IsBridgeAt network.topology (port_at network.topology.ports p).from
    → runs.keeps network run legal (port_at network.topology.ports p).from) ports

-- in each legal run each frame of a stream whose talker keeps what is asked of it is served at each listener such that
-- the bridges that ports of the route there leave keep it too
abbrev pub AreServed : Runs → DeclaredNetwork → List Row → Type 0
AreServed runs network rows = (run : List Travel) → (legal : runs.legal network run) → (journey : Travel)
    → Contains run journey → IsOfStream network journey
    → runs.keeps network run legal (talker_of network journey.release.sender)
    → (listener : ℕ) → listener < listener_count (sender_at network journey.release.sender)
    → BridgesKeepIn runs network run legal (route_to (sender_at network journey.release.sender) listener)
    → IsServedOn rows (sender_at network journey.release.sender) journey.release
    (route_to (sender_at network journey.release.sender) listener)
    (way_to (sender_at network journey.release.sender) journey listener)

-- and each frame of any stream is contained, whatever its talker does, on its way to each listener such that the
-- bridges that ports of the route but the first leave keep it
abbrev pub AreContained : Runs → DeclaredNetwork → List Row → Type 0
AreContained runs network rows = (run : List Travel) → (legal : runs.legal network run) → (journey : Travel)
    → Contains run journey → IsOfStream network journey
    → (listener : ℕ) → listener < listener_count (sender_at network journey.release.sender)
    → BridgesKeepIn runs network run legal
    (all_but_first (route_to (sender_at network journey.release.sender) listener))
    → IsContainedOn rows (sender_at network journey.release.sender)
    (route_to (sender_at network journey.release.sender) listener)
    (way_to (sender_at network journey.release.sender) journey listener)

-- the bounds of these rows are sound in these runs: frames are served and contained
pub record IsSoundBy (runs : Runs) (network : DeclaredNetwork) (rows : List Row) : Type 0 where
  pub served : AreServed runs network rows
  pub contained : AreContained runs network rows

-- in those of Asynchronous Traffic Shaping, where each bridge goes by its own clock, and talkers keep their buckets,
-- each by its own clock; all times that are promised are true ones
abbrev pub IsSound : DeclaredNetwork → List Row → Type 0
IsSound network rows = IsSoundBy ats_runs network rows

-- no bridge has frames of its own: the routes of each sender begin at a station
abbrev pub BeginAtStations : DeclaredNetwork → Type 0
BeginAtStations network =
    (i : ℕ) → i < length (senders_of network) → IsStationAt network.topology (talker_of network i)

-- what sound bounds promise then, where nothing is asked of bridges: each frame of a stream whose talker, a station
-- that reads true time, keeps what is asked of it is served at each listener, and each frame of any stream is contained
-- on its way to each
pub record IsSoundFromStations (runs : Runs) (network : DeclaredNetwork) (rows : List Row) : Type 0 where
  pub served : (run : List Travel) → runs.legal network run → (journey : Travel)
      → Contains run journey → IsOfStream network journey
      → runs.station_keeps network run (talker_of network journey.release.sender)
      → IsServed rows (sender_at network journey.release.sender) journey
  pub contained : (run : List Travel) → runs.legal network run → (journey : Travel)
      → Contains run journey → IsOfStream network journey
      → IsContained rows (sender_at network journey.release.sender) journey

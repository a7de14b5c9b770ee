use Rattle.std.specs.Prelude.{◌≡◌, ◌↔◌, ℕ, ◌+◌, ◌<◌, List, [], ◌∷◌, length}
use Rattle.std.specs.List.{AllZip}
use Rattle.ats_streams.specs.Branches.{with_leads}
use Rattle.ats_streams.specs.Stream.{DeclaredStream}
use Rattle.ats_network.specs.Network.{DeclaredNetwork, IsNetwork}
use Rattle.ats_network.specs.Sender.{Sender, stream_sender}
use Rattle.ats_network.specs.Senders.{sender_at}
use Rattle.ats_certificate.specs.declared.row.Row.{Row}
use Rattle.ats_trace.specs.Journey.{AreCopies, IsJourney, IsReleased, IsWay, Leg, Travel, legs_in}
use Rattle.ats_trace.specs.Ways.{listener_count, records_in, route_to, routes_by, way_to}
use Rattle.ats_trace.specs.HopRecord.{HopRecord}
use Rattle.ats_soundness_law.specs.Sound.{IsContained, IsContainedOn, IsServed, IsServedOn}
use Rattle.ats_checker.specs.InTime.{ArrivesInTime, ArrivesInTimeOn}

-- a sender has a listener for its trunk, and one for each branch
abbrev pub OneForEachLeg : Type 0
OneForEachLeg = (sender : Sender) → listener_count sender ≡ 1 + length sender.branches

-- the way of a frame to a listener is one over the route there: from its release on there is a record at each port that
-- it came to, and where it came to all of them, it arrived
pub record GoesTo (sender : Sender) (journey : Travel) (listener : ℕ) : Type 0 where
  pub way : IsWay (route_to sender listener) (way_to sender journey listener).hops
      (way_to sender journey listener).ending
  pub released : IsReleased journey.release (way_to sender journey listener).hops

-- so is that of each frame of a network, to each listener
abbrev pub WaysAreWays : Type 0
WaysAreWays = (network : DeclaredNetwork) (journey : Travel) (listener : ℕ) → IsNetwork network
    → IsJourney network journey → listener < listener_count (sender_at network journey.release.sender)
    → GoesTo (sender_at network journey.release.sender) journey listener

-- records along routes, each with the ending of its leg
abbrev pub ended_as : List (List HopRecord) → List Leg → List Leg
ended_as (hops ∷ further) (leg ∷ legs) = record { hops = hops; ending = leg.ending } ∷ ended_as further legs
ended_as further legs = []

-- the ways of a frame, listener by listener
abbrev pub ways_by : Sender → Travel → List Leg
ways_by sender journey = ended_as (with_leads (records_in journey) sender.branches) (legs_in journey)

-- what is asked of a frame is asked of its way along each of the routes of its sender, one by one
pub record IsAskedOfEach (rows : List Row) (sender : Sender) (journey : Travel) : Type 0 where
  pub served : IsServed rows sender journey
      ↔ AllZip (IsServedOn rows sender journey.release) (routes_by sender) (ways_by sender journey)
  pub contained : IsContained rows sender journey
      ↔ AllZip (IsContainedOn rows sender) (routes_by sender) (ways_by sender journey)

-- so it is that a frame is served, and that it is contained
abbrev pub EachWayIsServed : Type 0
EachWayIsServed = (rows : List Row) (sender : Sender) (journey : Travel) → AreCopies sender journey
    → IsAskedOfEach rows sender journey

-- and that it arrives in time
abbrev pub EachWayIsInTime : Type 0
EachWayIsInTime = (rows : List Row) (stream : DeclaredStream) (journey : Travel)
    → AreCopies (stream_sender stream) journey
    → ArrivesInTime rows stream journey
    ↔ AllZip (λ route way. ArrivesInTimeOn rows stream journey.release route way.ending)
    (routes_by (stream_sender stream)) (ways_by (stream_sender stream) journey)

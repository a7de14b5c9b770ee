use Rattle.std.specs.Prelude.{◌≡◌, ◌↔◌, ℕ, ◌<◌, [], ◌∷◌, length}
use Rattle.ats_num.specs.Wire.{IsFrameSize}
use Rattle.ats_network.specs.Network.{DeclaredNetwork, senders_of}
use Rattle.ats_network.specs.Senders.{sender_at}
use Rattle.ats_trace.specs.Journey.{Travel, IsJourney, IsReleased, IsWay}
use Rattle.ats_trace.specs.Projections.{crossings_along, handed_along, hops_along, journey_crossings, journey_handed}
use Rattle.ats_trace.specs.Projections.{journey_hops}
use Rattle.ats_trace.specs.Ways.{routes_by, way_to}

-- a journey of a frame whose sender has one listener: its way goes over the sender's ports, and it has no copy
pub record IsJourneyOnPath (network : DeclaredNetwork) (journey : Travel) : Type 0 where
  pub sender : journey.release.sender < length (senders_of network)
  pub octets : IsFrameSize journey.release.octets
  pub way : IsWay (sender_at network journey.release.sender).ports journey.hops journey.ending
  pub released : IsReleased journey.release journey.hops
  pub no_copy : journey.copies ≡ []

-- what the definitions say of a frame whose sender has one listener: its journey is one over the sender's ports; what
-- is projected from it goes along these; and they are its one route, on which all of it is the way to the listener
pub record HasOneLeg (network : DeclaredNetwork) (journey : Travel) : Type 0 where
  pub is : IsJourney network journey ↔ IsJourneyOnPath network journey
  pub hops : (frame : ℕ) → journey_hops network frame journey ≡ hops_along frame journey.release
      (sender_at network journey.release.sender) (sender_at network journey.release.sender).ports journey.hops
  pub crossings : (frame : ℕ) → journey_crossings network frame journey ≡ crossings_along frame journey.release
      (sender_at network journey.release.sender) (sender_at network journey.release.sender).ports journey.hops
      journey.ending
  pub handed : (frame : ℕ) → journey_handed network frame journey ≡ handed_along frame journey.release
      (sender_at network journey.release.sender) (sender_at network journey.release.sender).ports journey.hops
  pub routes : routes_by (sender_at network journey.release.sender)
      ≡ (sender_at network journey.release.sender).ports ∷ []
  pub way : way_to (sender_at network journey.release.sender) journey 0
      ≡ record { hops = journey.hops; ending = journey.ending }

abbrev pub OneListenerHasOneLeg : Type 0
OneListenerHasOneLeg = (network : DeclaredNetwork) (journey : Travel)
    → (sender_at network journey.release.sender).branches ≡ [] → HasOneLeg network journey

-- a journey without copies is one of a sender with one listener
abbrev pub NoCopyNoBranch : Type 0
NoCopyNoBranch = (network : DeclaredNetwork) (journey : Travel) → IsJourney network journey → journey.copies ≡ []
    → (sender_at network journey.release.sender).branches ≡ []

use Rattle.std.specs.Prelude.{◌≡◌, ◌↔◌, ℕ, ◌<◌, List, [], ◌∷◌, length, IsTrue, All, AllPairs, Contains}
use Rattle.ats_num.specs.Name.{is_name}
use Rattle.ats_network.specs.Network.{DeclaredNetwork, senders_of}
use Rattle.ats_network.specs.Sender.{Sender}
use Rattle.ats_network.specs.Senders.{sender_at}
use Rattle.ats_trace.specs.Clocks.{IsLegal}
use Rattle.ats_trace.specs.Journey.{IsJourney, Travel}
use Rattle.ats_trace.specs.OneListener.{HasOneLeg, IsJourneyOnPath}
use Rattle.ats_trace.specs.Projections.{crossings_along, handed_along, hops_along, journey_crossings, journey_handed}
use Rattle.ats_trace.specs.Projections.{journey_hops}
use Rattle.ats_trace.specs.Ways.{routes_by, way_to}
use Rattle.ats_trace.specs.declared.journey.Release.{Release}
use Rattle.ats_schedule.specs.Laws.{AreNamed}
use Rattle.ats_fit_law.specs.Laws.{AreNotKept, SenderKeeps}
use Rattle.ats_buffer_law.specs.Laws.{AreAskedAlone, NodesKeepBuckets, NodesKeepInTrueTime, TalkersKeepBuckets}

-- What words come to that laws only ask for, or only conclude, both ways: each part of them is written out, and there
-- are no others.

-- senders are named where each has a name. Refuses a premise that asks for more, by which no schedule is read back
abbrev pub NamingIsMeant : Type 0
NamingIsMeant = (senders : List Sender) → AreNamed senders ↔ All (λ (s : Sender). IsTrue (is_name s.name)) senders

-- talkers alone are asked to keep their buckets where it is so by the nodes' clocks, and in true time
abbrev pub AskingAloneIsMeant : Type 0
AskingAloneIsMeant = (network : DeclaredNetwork) (run : List Travel) (port class : ℕ)
    → AreAskedAlone network run port class
    ↔ (((legal : IsLegal network run)
    → NodesKeepBuckets network run legal port class ↔ TalkersKeepBuckets network run port class)
    × (NodesKeepInTrueTime network run port class ↔ TalkersKeepBuckets network run port class))

-- along these ports stand the transmissions, the crossings and what is handed on of a journey, whatever its frame's
-- number
pub record StandsAlong (network : DeclaredNetwork) (ports : List ℕ) (journey : Travel) : Type 0 where
  pub sent : (frame : ℕ) → journey_hops network frame journey
      ≡ hops_along frame journey.release (sender_at network journey.release.sender) ports journey.hops
  pub crossed : (frame : ℕ) → journey_crossings network frame journey
      ≡ crossings_along frame journey.release (sender_at network journey.release.sender) ports journey.hops
      journey.ending
  pub handed_on : (frame : ℕ) → journey_handed network frame journey
      ≡ handed_along frame journey.release (sender_at network journey.release.sender) ports journey.hops

-- a journey has one leg where it is one over its sender's ports, all of it stands along these, and they are its one
-- route, on which all of it is the way
abbrev pub OneLegIsMeant : Type 0
OneLegIsMeant = (network : DeclaredNetwork) (journey : Travel) → HasOneLeg network journey
    ↔ ((IsJourney network journey ↔ IsJourneyOnPath network journey)
    × StandsAlong network (sender_at network journey.release.sender).ports journey
    × (routes_by (sender_at network journey.release.sender) ≡ (sender_at network journey.release.sender).ports ∷ [])
    × (way_to (sender_at network journey.release.sender) journey 0
    ≡ record { hops = journey.hops; ending = journey.ending }))

-- these senders are not kept to what they declare: their numbers rise, and are those of the senders of the network
-- whose releases are not as they declare, and no others
abbrev pub NotKeepingIsMeant : Type 0
NotKeepingIsMeant = (network : DeclaredNetwork) (releases : List Release) (numbers : List ℕ)
    → AreNotKept network releases numbers
    ↔ (AllPairs (λ i j. i < j) numbers
    × ((i : ℕ) → Contains numbers i ↔ ((i < length (senders_of network)) × (¬ SenderKeeps network releases i))))

pub record AskedIsMeant : Type 0 where
  pub named : NamingIsMeant
  pub alone : AskingAloneIsMeant
  pub one_leg : OneLegIsMeant
  pub not_kept : NotKeepingIsMeant

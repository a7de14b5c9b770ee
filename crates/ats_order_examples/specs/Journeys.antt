use Rattle.std.specs.Prelude.{◌≡◌, ℕ, ◌+◌, ◌&&◌, ◌==◌, ◌<◌, ◌↔◌, List, [], ◌∷◌, ◌++◌, length, map, filter, slice_get}
use Rattle.std.specs.Prelude.{slice_index_or, unwrap_or, Some, None}
use Rattle.std.specs.List.{AllZip}
use Rattle.ats_num.specs.Wire.{IsFrameSize, bits_of}
use Rattle.ats_num.specs.declared.time.Ps.{Ps}
use Rattle.ats_streams.specs.Branches.{branches_of, legs_of, trunk_of}
use Rattle.ats_streams.specs.declared.branch.Branch.{Branch}
use Rattle.ats_network.specs.Sender.{Sender}
use Rattle.ats_network.specs.Network.{DeclaredNetwork, senders_of}
use Rattle.ats_network.specs.Rates.{scheduled_at}
use Rattle.ats_network.specs.Residence.{residence_after}
use Rattle.ats_network.specs.Senders.{sender_at}
use Rattle.ats_group.specs.declared.verdict.Verdict.{Verdict}
use Rattle.ats_group.specs.declared.verdict.Verdict.TheVariants.{Eligible, Late, Size}
use Rattle.ats_port_rule.specs.Transmission.{Transmission}
use Rattle.ats_trace.specs.Eligibility.{declared_by, offer_of, residence_of_groups, scheduled_by}
use Rattle.ats_trace.specs.HopRecord.{HopRecord}
use Rattle.ats_trace.specs.Journey.{Leg, Travel, AreCopies, IsCopy, IsJourney, IsWay, class_at, legs_in, no_leg}
use Rattle.ats_trace.specs.Journey.{record_at}
use Rattle.ats_trace.specs.Projections.{Crossing, Handed, Hop, crossings_along, crossings_by, crossings_from}
use Rattle.ats_trace.specs.Projections.{crossings_over, handed_along, handed_by, handed_from, handed_over, hops_along}
use Rattle.ats_trace.specs.Projections.{hops_from, hops_over, sent_by}
use Rattle.ats_trace.specs.declared.journey.Ending.{Ending}
use Rattle.ats_trace.specs.declared.journey.Ending.TheVariants.{Discard, Sink}
use Rattle.ats_trace.specs.declared.journey.Release.{Release}

-- What happens to one frame, and what ports and links are told of it, written out.

-- the ways along ports that frames may go: an eligible frame is sent and goes on, behind the last port it arrives, and
-- one with another verdict is not sent, and its way ends there. No other is one
pub record WaysAreWritten : Type 0 where
  pub arrives : (at : Ps) → IsWay [] [] (Sink at)
  pub not_lost : ¬ IsWay [] [] Discard
  pub no_more : (hop : HopRecord) (hops : List HopRecord) (ending : Ending) → ¬ IsWay [] (hop ∷ hops) ending
  pub comes : (port : ℕ) (path : List ℕ) (ending : Ending) → ¬ IsWay (port ∷ path) [] ending
  pub goes_on : (port : ℕ) (path : List ℕ) (came eligible start end : Ps) (hops : List HopRecord) (ending : Ending)
      → IsWay (port ∷ path) (record { arrival = came; verdict = Eligible eligible; sent = Some (start, end) } ∷ hops)
      ending
      ↔ IsWay path hops ending
  pub is_sent : (port : ℕ) (path : List ℕ) (came eligible : Ps) (hops : List HopRecord) (ending : Ending)
      → ¬ IsWay (port ∷ path) (record { arrival = came; verdict = Eligible eligible; sent = None } ∷ hops) ending
  pub late : (port : ℕ) (path : List ℕ) (came at : Ps) (hops : List HopRecord) (ending : Ending)
      → IsWay (port ∷ path) (record { arrival = came; verdict = Late at; sent = None } ∷ hops) ending
      ↔ ((hops ≡ []) × (ending ≡ Discard))
  pub late_is_not_sent : (port : ℕ) (path : List ℕ) (came at start end : Ps) (hops : List HopRecord) (ending : Ending)
      → ¬ IsWay (port ∷ path) (record { arrival = came; verdict = Late at; sent = Some (start, end) } ∷ hops) ending
  pub size : (port : ℕ) (path : List ℕ) (came : Ps) (hops : List HopRecord) (ending : Ending)
      → IsWay (port ∷ path) (record { arrival = came; verdict = Size; sent = None } ∷ hops) ending
      ↔ ((hops ≡ []) × (ending ≡ Discard))
  pub size_is_not_sent : (port : ℕ) (path : List ℕ) (came start end : Ps) (hops : List HopRecord) (ending : Ending)
      → ¬ IsWay (port ∷ path) (record { arrival = came; verdict = Size; sent = Some (start, end) } ∷ hops) ending

-- a copy begins with the arrival and the verdict of the frame's record where its branch begins, and makes its way;
-- where the frame has none there, nothing is recorded of it
pub record CopiesAreWritten : Type 0 where
  pub at : (legs : List Leg) (b : Branch)
      → record_at legs b ≡ slice_get (slice_index_or legs b.leg no_leg).hops b.hop
  pub made : (start first : HopRecord) (path : List ℕ) (hops : List HopRecord) (ending : Ending)
      → IsCopy (Some start) path (record { hops = first ∷ hops; ending = ending })
      ↔ (((first.arrival ≡ start.arrival) × (first.verdict ≡ start.verdict)) × IsWay path (first ∷ hops) ending)
  pub is_made : (start : HopRecord) (path : List ℕ) (ending : Ending)
      → ¬ IsCopy (Some start) path (record { hops = []; ending = ending })
  pub none : (path : List ℕ) (leg : Leg) → IsCopy None path leg ↔ ((leg.hops ≡ []) × (leg.ending ≡ Discard))
  pub each : (sender : Sender) (journey : Travel) → AreCopies sender journey
      ↔ AllZip (λ (branch : Branch × List ℕ) (leg : Leg). IsCopy (record_at (legs_in journey) branch.0) branch.1 leg)
      (branches_of sender.ports sender.branches) journey.copies

-- a journey is a release of a sender of the network, with the octets of a frame, that makes its way along the sender's
-- trunk from its release on, and its copies
abbrev pub JourneysAreWritten : Type 0
JourneysAreWritten = (network : DeclaredNetwork) (release : Release) (first : HopRecord) (hops : List HopRecord)
    (ending : Ending) (copies : List Leg)
    → IsJourney network (record { release = release; hops = first ∷ hops; ending = ending; copies = copies })
    ↔ ((release.sender < length (senders_of network)) × IsFrameSize release.octets
    × IsWay (trunk_of (sender_at network release.sender).ports (sender_at network release.sender).branches)
    (first ∷ hops) ending
    × ((first.arrival ≡ release.at) × (first.verdict ≡ Eligible release.at))
    × AreCopies (sender_at network release.sender)
    (record { release = release; hops = first ∷ hops; ending = ending; copies = copies }))

-- the transmission of a frame by a port: in the sender's class there, with the wire bits of its octets
abbrev pub sent_so : ℕ → Release → Sender → ℕ → Ps → Ps → Ps → Transmission
sent_so frame release sender port eligible start end = record {
  frame = frame;
  sender = release.sender;
  class = class_at sender port;
  bits = bits_of release.octets;
  eligible = eligible.0;
  start = start.0;
  end = end.0;
}

abbrev pub crossed_so : ℕ → Release → Sender → ℕ → Ps → Ps → Ps → Ps → Ps → Crossing
crossed_so frame release sender port came eligible start end arrival = record {
  port = port;
  octets = release.octets;
  came = came.0;
  sent = sent_so frame release sender port eligible start end;
  arrival = arrival.0;
}

-- the record of a frame that was sent
abbrev pub sent_hop : Ps → Ps → Ps → Ps → HopRecord
sent_hop came eligible start end =
    record { arrival = came; verdict = Eligible eligible; sent = Some (start, end) }

-- along a leg each record of a frame that was sent tells of its transmission; with the next record, or where the frame
-- arrived behind the last, of its crossing; and with the next record, of what was handed on
pub record RecordsAreTold : Type 0 where
  pub hop : (frame : ℕ) (release : Release) (sender : Sender) (port : ℕ) (path : List ℕ) (came eligible start end : Ps)
      (hops : List HopRecord)
      → hops_along frame release sender (port ∷ path) (sent_hop came eligible start end ∷ hops)
      ≡ record { port = port; sent = sent_so frame release sender port eligible start end }
      ∷ hops_along frame release sender path hops
  pub crossing : (frame : ℕ) (release : Release) (sender : Sender) (port : ℕ) (path : List ℕ)
      (came eligible start end : Ps) (next : HopRecord) (hops : List HopRecord) (ending : Ending)
      → crossings_along frame release sender (port ∷ path) (sent_hop came eligible start end ∷ next ∷ hops) ending
      ≡ crossed_so frame release sender port came eligible start end next.arrival
      ∷ crossings_along frame release sender path (next ∷ hops) ending
  pub last : (frame : ℕ) (release : Release) (sender : Sender) (port : ℕ) (path : List ℕ)
      (came eligible start end at : Ps)
      → crossings_along frame release sender (port ∷ path) (sent_hop came eligible start end ∷ []) (Sink at)
      ≡ crossed_so frame release sender port came eligible start end at
      ∷ crossings_along frame release sender path [] (Sink at)
  pub handed : (frame : ℕ) (release : Release) (sender : Sender) (port : ℕ) (path : List ℕ)
      (came eligible start end : Ps) (next : HopRecord) (hops : List HopRecord)
      → handed_along frame release sender (port ∷ path) (sent_hop came eligible start end ∷ next ∷ hops)
      ≡ record {
        crossing = crossed_so frame release sender port came eligible start end next.arrival;
        verdict = next.verdict;
      }
      ∷ handed_along frame release sender path (next ∷ hops)
  pub nowhere : (frame : ℕ) (release : Release) (sender : Sender) (port : ℕ) (path : List ℕ)
      (came eligible start end : Ps)
      → handed_along frame release sender (port ∷ path) (sent_hop came eligible start end ∷ []) ≡ []

-- and one of a frame that was discarded tells of none of these
abbrev pub discarded_hop : Ps → Verdict → HopRecord
discarded_hop came verdict = record { arrival = came; verdict = verdict; sent = None }

pub record DiscardsTellNothing : Type 0 where
  pub late : (frame : ℕ) (release : Release) (sender : Sender) (port : ℕ) (path : List ℕ) (came at : Ps)
      → (hops_along frame release sender (port ∷ path) (discarded_hop came (Late at) ∷ []) ≡ [])
      × (crossings_along frame release sender (port ∷ path) (discarded_hop came (Late at) ∷ []) Discard ≡ [])
      × (handed_along frame release sender (port ∷ path) (discarded_hop came (Late at) ∷ []) ≡ [])
  pub size : (frame : ℕ) (release : Release) (sender : Sender) (port : ℕ) (path : List ℕ) (came : Ps)
      → (hops_along frame release sender (port ∷ path) (discarded_hop came Size ∷ []) ≡ [])
      × (crossings_along frame release sender (port ∷ path) (discarded_hop came Size ∷ []) Discard ≡ [])
      × (handed_along frame release sender (port ∷ path) (discarded_hop came Size ∷ []) ≡ [])

-- and so it is along each leg of each frame, by its number: of these a port has those that are its own, and a class of
-- those handed on those that were sent in it
pub record RunsAreTold : Type 0 where
  pub hops : (network : DeclaredNetwork) (frame : ℕ) (j : Travel) (run : List Travel)
      → hops_from network frame (j ∷ run)
      ≡ hops_over frame j.release (sender_at network j.release.sender)
      (legs_of (sender_at network j.release.sender).ports (sender_at network j.release.sender).branches) (legs_in j)
      ++ hops_from network (frame + 1) run
  pub crossings : (network : DeclaredNetwork) (frame : ℕ) (j : Travel) (run : List Travel)
      → crossings_from network frame (j ∷ run)
      ≡ crossings_over frame j.release (sender_at network j.release.sender)
      (legs_of (sender_at network j.release.sender).ports (sender_at network j.release.sender).branches) (legs_in j)
      ++ crossings_from network (frame + 1) run
  pub handed : (network : DeclaredNetwork) (frame : ℕ) (j : Travel) (run : List Travel)
      → handed_from network frame (j ∷ run)
      ≡ handed_over frame j.release (sender_at network j.release.sender)
      (legs_of (sender_at network j.release.sender).ports (sender_at network j.release.sender).branches) (legs_in j)
      ++ handed_from network (frame + 1) run
  pub along_legs : (frame : ℕ) (release : Release) (sender : Sender) (path : List ℕ) (paths : List (List ℕ)) (leg : Leg)
      (legs : List Leg)
      → (hops_over frame release sender (path ∷ paths) (leg ∷ legs)
      ≡ hops_along frame release sender path leg.hops ++ hops_over frame release sender paths legs)
      × (crossings_over frame release sender (path ∷ paths) (leg ∷ legs)
      ≡ crossings_along frame release sender path leg.hops leg.ending
      ++ crossings_over frame release sender paths legs)
      × (handed_over frame release sender (path ∷ paths) (leg ∷ legs)
      ≡ handed_along frame release sender path leg.hops ++ handed_over frame release sender paths legs)
  pub by_port : (network : DeclaredNetwork) (run : List Travel) (port : ℕ)
      → (sent_by network run port
      ≡ map (λ (h : Hop). h.sent) (filter (λ (h : Hop). h.port == port) (hops_from network 0 run)))
      × (crossings_by network run port
      ≡ filter (λ (c : Crossing). c.port == port) (crossings_from network 0 run))
  pub by_class : (network : DeclaredNetwork) (run : List Travel) (port class : ℕ)
      → handed_by network run port class
      ≡ filter (λ (h : Handed). h.crossing.port == port && h.crossing.sent.class == class)
      (handed_from network 0 run)

-- and what a group behind a port has of the frames that come to it: by whom, when and how long they are; of each sender
-- the sizes that it declares, with the rate and burst of its scheduler; and the residence of the bridge
pub record GroupsAreTold : Type 0 where
  pub offer : (h : Handed) → offer_of h
      ≡ record { member = h.crossing.sent.sender; arrival = h.crossing.arrival; octets = h.crossing.octets }
  pub scheduled : (network : DeclaredNetwork) (port i : ℕ) → scheduled_by network port i ≡ record {
    rate = (scheduled_at network.topology port (sender_at network i)).rate;
    burst_bits = (scheduled_at network.topology port (sender_at network i)).burst_bits;
    min_octets = (sender_at network i).min_octets;
    max_octets = (sender_at network i).max_octets;
  }
  pub declared : (network : DeclaredNetwork) (i : ℕ) → declared_by network i ≡ record {
    rate = (sender_at network i).rate;
    burst_bits = (sender_at network i).burst_bits;
    min_octets = (sender_at network i).min_octets;
    max_octets = (sender_at network i).max_octets;
  }
  pub residence : (network : DeclaredNetwork) (port : ℕ)
      → residence_of_groups network port ≡ unwrap_or (residence_after network.topology port) 0

pub record JourneysAreMeant : Type 0 where
  pub ways : WaysAreWritten
  pub copies : CopiesAreWritten
  pub journeys : JourneysAreWritten
  pub records : RecordsAreTold
  pub discards : DiscardsTellNothing
  pub runs : RunsAreTold
  pub groups : GroupsAreTold

use Rattle.std.specs.Prelude.{◌≡◌, ℕ, ◌+◌, ◌*◌, List, [], ◌∷◌, ◌++◌, map, drop, Option, Some, None}
use Rattle.std.specs.List.{filter_map, flat_map, zip}
use Rattle.std.specs.Option.{option_map}
use Rattle.ats_num.specs.declared.time.Ps.{Ps}
use Rattle.ats_streams.specs.Branches.{legs_of}
use Rattle.ats_network.specs.Class.{class_at}
use Rattle.ats_network.specs.Network.{DeclaredNetwork}
use Rattle.ats_network.specs.Sender.{Sender}
use Rattle.ats_network.specs.Senders.{sender_at}
use Rattle.ats_group.specs.declared.verdict.Verdict.TheVariants.{Eligible, Late, Size}
use Rattle.ats_port_rule.specs.Transmission.{Transmission}
use Rattle.ats_trace.specs.HopRecord.{HopRecord}
use Rattle.ats_trace.specs.Journey.{Leg, Travel, legs_in}
use Rattle.ats_trace.specs.Projections.{Crossing, Handed, Hop, crossings_along, crossings_from, handed_along}
use Rattle.ats_trace.specs.Projections.{handed_from, hops_along, hops_from, transmission_of}
use Rattle.ats_trace.specs.declared.journey.Ending.{Ending}
use Rattle.ats_trace.specs.declared.journey.Ending.TheVariants.{Discard, Sink}
use Rattle.ats_trace.specs.declared.journey.Release.{Release}

-- the record of an eligible frame that was sent tells of a transmission, with 8 bits for each octet and for 20 more; no
-- other record does
pub record TransmissionsAreTraced : Type 0 where
  pub sent : (frame : ℕ) (release : Release) (class : ℕ) (came eligible start end : Ps)
      → transmission_of frame release class
      (record { arrival = came; verdict = Eligible eligible; sent = Some (start, end) })
      ≡ Some (record {
        frame = frame;
        sender = release.sender;
        class = class;
        bits = 8 * (release.octets + 20);
        eligible = eligible.0;
        start = start.0;
        end = end.0;
      })
  pub not_sent : (frame : ℕ) (release : Release) (class : ℕ) (came eligible : Ps)
      → transmission_of frame release class (record { arrival = came; verdict = Eligible eligible; sent = None })
      ≡ None
  pub late : (frame : ℕ) (release : Release) (class : ℕ) (came at : Ps) (times : Option (Ps × Ps))
      → transmission_of frame release class (record { arrival = came; verdict = Late at; sent = times }) ≡ None
  pub size : (frame : ℕ) (release : Release) (class : ℕ) (came : Ps) (times : Option (Ps × Ps))
      → transmission_of frame release class (record { arrival = came; verdict = Size; sent = times }) ≡ None

-- the time at which a frame comes to its listener, if it does
abbrev pub heard : Ending → List ℕ
heard (Sink at) = at.0 ∷ []
heard Discard = []

-- behind each port with a record a frame arrives when the next record tells, or, behind the last, when it comes to its
-- listener, if it does
abbrev pub arrivals_behind : List HopRecord → Ending → List ℕ
arrivals_behind hops ending = map (λ (hop : HopRecord). hop.arrival.0) (drop 1 hops) ++ heard ending

-- along a leg each record is that of the port at its place. A port makes the transmission of which its record tells;
-- its link is crossed where the frame arrived behind it; and it has handed the frame on where there is a next record,
-- with the verdict of that
abbrev pub hop_told : ℕ → Release → Sender → ℕ × HopRecord → Option Hop
hop_told frame release sender at =
    option_map (λ (sent : Transmission). record { port = at.0; sent = sent })
    (transmission_of frame release (class_at sender at.0) at.1)

abbrev pub crossing_told : ℕ → Release → Sender → ℕ × (HopRecord × ℕ) → Option Crossing
crossing_told frame release sender at =
    option_map (λ (sent : Transmission). record {
      port = at.0;
      octets = release.octets;
      came = at.1.0.arrival.0;
      sent = sent;
      arrival = at.1.1;
    }) (transmission_of frame release (class_at sender at.0) at.1.0)

abbrev pub handed_told : ℕ → Release → Sender → ℕ × (HopRecord × HopRecord) → Option Handed
handed_told frame release sender at =
    option_map (λ (crossing : Crossing). record { crossing = crossing; verdict = at.1.1.verdict })
    (crossing_told frame release sender (at.0, (at.1.0, at.1.1.arrival.0)))

pub record LegsAreTold : Type 0 where
  pub hops : (frame : ℕ) (release : Release) (sender : Sender) (path : List ℕ) (hops : List HopRecord)
      → hops_along frame release sender path hops ≡ filter_map (hop_told frame release sender) (zip path hops)
  pub crossings : (frame : ℕ) (release : Release) (sender : Sender) (path : List ℕ) (hops : List HopRecord)
      (ending : Ending) → crossings_along frame release sender path hops ending
      ≡ filter_map (crossing_told frame release sender) (zip path (zip hops (arrivals_behind hops ending)))
  pub handed : (frame : ℕ) (release : Release) (sender : Sender) (path : List ℕ) (hops : List HopRecord)
      → handed_along frame release sender path hops
      ≡ filter_map (handed_told frame release sender) (zip path (zip hops (drop 1 hops)))

-- the ports of each leg of a frame's sender, with what happened to the frame along it
abbrev pub told_legs : DeclaredNetwork → Travel → List (List ℕ × Leg)
told_legs network j =
    zip (legs_of (sender_at network j.release.sender).ports (sender_at network j.release.sender).branches) (legs_in j)

-- a run is told frame by frame, each with the number behind the one before it, and each frame leg by leg
pub record RunsAreTold : Type 0 where
  pub no_hop : (network : DeclaredNetwork) (frame : ℕ) → hops_from network frame [] ≡ []
  pub hops : (network : DeclaredNetwork) (frame : ℕ) (j : Travel) (run : List Travel)
      → hops_from network frame (j ∷ run)
      ≡ flat_map (λ (leg : List ℕ × Leg).
      hops_along frame j.release (sender_at network j.release.sender) leg.0 leg.1.hops) (told_legs network j)
      ++ hops_from network (frame + 1) run
  pub no_crossing : (network : DeclaredNetwork) (frame : ℕ) → crossings_from network frame [] ≡ []
  pub crossings : (network : DeclaredNetwork) (frame : ℕ) (j : Travel) (run : List Travel)
      → crossings_from network frame (j ∷ run)
      ≡ flat_map (λ (leg : List ℕ × Leg).
      crossings_along frame j.release (sender_at network j.release.sender) leg.0 leg.1.hops leg.1.ending)
      (told_legs network j)
      ++ crossings_from network (frame + 1) run
  pub none_handed : (network : DeclaredNetwork) (frame : ℕ) → handed_from network frame [] ≡ []
  pub handed : (network : DeclaredNetwork) (frame : ℕ) (j : Travel) (run : List Travel)
      → handed_from network frame (j ∷ run)
      ≡ flat_map (λ (leg : List ℕ × Leg).
      handed_along frame j.release (sender_at network j.release.sender) leg.0 leg.1.hops) (told_legs network j)
      ++ handed_from network (frame + 1) run

pub record TellingsAreTraced : Type 0 where
  pub transmissions : TransmissionsAreTraced
  pub legs : LegsAreTold
  pub runs : RunsAreTold

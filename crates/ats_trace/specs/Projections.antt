use Rattle.std.specs.Prelude.{ℕ, ◌+◌, ◌&&◌, ◌==◌, List, [], ◌∷◌, ◌++◌, map, filter, Option, Some, None}
use Rattle.ats_num.specs.declared.time.Ps.{Ps}
use Rattle.ats_num.specs.Wire.{bits_of}
use Rattle.ats_network.specs.Sender.{Sender}
use Rattle.ats_network.specs.Network.{DeclaredNetwork}
use Rattle.ats_network.specs.Senders.{sender_at}
use Rattle.ats_group.specs.declared.verdict.Verdict.{Verdict}
use Rattle.ats_group.specs.declared.verdict.Verdict.TheVariants.{Eligible}
use Rattle.ats_port_rule.specs.Transmission.{Transmission}
use Rattle.ats_trace.specs.Journey.{Leg, Travel, class_at, legs_at, legs_in}
use Rattle.ats_trace.specs.declared.journey.Release.{Release}
use Rattle.ats_trace.specs.HopRecord.{HopRecord}
use Rattle.ats_trace.specs.declared.journey.Ending.{Ending}
use Rattle.ats_trace.specs.declared.journey.Ending.TheVariants.{Sink, Discard}

-- a transmission, and the port that made it
pub record Hop : Type 0 where
  pub port : ℕ
  pub sent : Transmission

-- a frame's way over a port and the link behind it: its octets, when it came to the node that the port leaves, its
-- transmission, and when it arrived behind the port, at the next node of its leg or at its listener
pub record Crossing : Type 0 where
  pub port : ℕ
  pub octets : ℕ
  pub came : ℕ
  pub sent : Transmission
  pub arrival : ℕ

-- a frame that crossed a port to a bridge, with its verdict there: told once, of the port that comes next in the leg,
-- however many ports it goes on from
pub record Handed : Type 0 where
  pub crossing : Crossing
  pub verdict : Verdict

-- the transmission of a frame with this release, in this class, by its verdict and the times of its start and end
abbrev pub transmission_by : ℕ → Release → ℕ → Verdict → Option (Ps × Ps) → Option Transmission
transmission_by frame release class (Eligible e) (Some times) = Some (record {
  frame = frame;
  sender = release.sender;
  class = class;
  bits = bits_of release.octets;
  eligible = e.0;
  start = times.0.0;
  end = times.1.0;
})
transmission_by frame release class verdict times = None

-- the transmission that a hop record tells of, if the frame was sent there
abbrev pub transmission_of : ℕ → Release → ℕ → HopRecord → Option Transmission
transmission_of frame release class hop = transmission_by frame release class hop.verdict hop.sent

-- that transmission with its port
abbrev pub hop_at : ℕ → Option Transmission → List Hop
hop_at port None = []
hop_at port (Some sent) = record { port = port; sent = sent } ∷ []

-- the crossing of a frame with so many octets, which came at this time, was sent so, and arrived behind the port at
-- that
abbrev pub crossing_of : ℕ → ℕ → ℕ → Transmission → ℕ → Crossing
crossing_of octets came port sent arrival =
    record { port = port; octets = octets; came = came; sent = sent; arrival = arrival }

-- the next record, or behind the last port the ending, tells when it arrived
abbrev pub crossing_at : ℕ → ℕ → ℕ → Option Transmission → List HopRecord → Ending → List Crossing
crossing_at octets came port None hops ending = []
crossing_at octets came port (Some sent) (next ∷ hops) ending = crossing_of octets came port sent next.arrival.0 ∷ []
crossing_at octets came port (Some sent) [] (Sink at) = crossing_of octets came port sent at.0 ∷ []
crossing_at octets came port (Some sent) [] Discard = []

-- and the next record, where there is one, its verdict there
abbrev pub handed_at : ℕ → ℕ → ℕ → Option Transmission → List HopRecord → List Handed
handed_at octets came port None hops = []
handed_at octets came port (Some sent) [] = []
handed_at octets came port (Some sent) (next ∷ hops) =
    record { crossing = crossing_of octets came port sent next.arrival.0; verdict = next.verdict } ∷ []

-- the transmissions of a frame along what is left of a leg
abbrev pub hops_along : ℕ → Release → Sender → List ℕ → List HopRecord → List Hop
hops_along frame release sender [] hops = []
hops_along frame release sender (p ∷ path) [] = []
hops_along frame release sender (p ∷ path) (hop ∷ hops) =
    hop_at p (transmission_of frame release (class_at sender p) hop) ++ hops_along frame release sender path hops

-- those of them behind which it arrived, with its arrivals
abbrev pub crossings_along : ℕ → Release → Sender → List ℕ → List HopRecord → Ending → List Crossing
crossings_along frame release sender [] hops ending = []
crossings_along frame release sender (p ∷ path) [] ending = []
crossings_along frame release sender (p ∷ path) (hop ∷ hops) ending =
    crossing_at release.octets hop.arrival.0 p (transmission_of frame release (class_at sender p) hop) hops ending
    ++ crossings_along frame release sender path hops ending

-- and those behind which it came to another port, with its verdicts there
abbrev pub handed_along : ℕ → Release → Sender → List ℕ → List HopRecord → List Handed
handed_along frame release sender [] hops = []
handed_along frame release sender (p ∷ path) [] = []
handed_along frame release sender (p ∷ path) (hop ∷ hops) =
    handed_at release.octets hop.arrival.0 p (transmission_of frame release (class_at sender p) hop) hops
    ++ handed_along frame release sender path hops

-- the same along legs, one after another: their ports, and what happened there
abbrev pub hops_over : ℕ → Release → Sender → List (List ℕ) → List Leg → List Hop
hops_over frame release sender (path ∷ paths) (leg ∷ legs) =
    hops_along frame release sender path leg.hops ++ hops_over frame release sender paths legs
hops_over frame release sender paths legs = []

abbrev pub crossings_over : ℕ → Release → Sender → List (List ℕ) → List Leg → List Crossing
crossings_over frame release sender (path ∷ paths) (leg ∷ legs) =
    crossings_along frame release sender path leg.hops leg.ending
    ++ crossings_over frame release sender paths legs
crossings_over frame release sender paths legs = []

abbrev pub handed_over : ℕ → Release → Sender → List (List ℕ) → List Leg → List Handed
handed_over frame release sender (path ∷ paths) (leg ∷ legs) =
    handed_along frame release sender path leg.hops ++ handed_over frame release sender paths legs
handed_over frame release sender paths legs = []

-- of the journey with this number, along all legs of its sender
abbrev pub journey_hops : DeclaredNetwork → ℕ → Travel → List Hop
journey_hops network frame j =
    hops_over frame j.release (sender_at network j.release.sender) (legs_at network j.release.sender) (legs_in j)

abbrev pub journey_crossings : DeclaredNetwork → ℕ → Travel → List Crossing
journey_crossings network frame j =
    crossings_over frame j.release (sender_at network j.release.sender) (legs_at network j.release.sender) (legs_in j)

abbrev pub journey_handed : DeclaredNetwork → ℕ → Travel → List Handed
journey_handed network frame j =
    handed_over frame j.release (sender_at network j.release.sender) (legs_at network j.release.sender) (legs_in j)

-- of journeys that are numbered from this number on
abbrev pub hops_from : DeclaredNetwork → ℕ → List Travel → List Hop
hops_from network frame [] = []
hops_from network frame (j ∷ run) = journey_hops network frame j ++ hops_from network (frame + 1) run

abbrev pub crossings_from : DeclaredNetwork → ℕ → List Travel → List Crossing
crossings_from network frame [] = []
crossings_from network frame (j ∷ run) = journey_crossings network frame j ++ crossings_from network (frame + 1) run

abbrev pub handed_from : DeclaredNetwork → ℕ → List Travel → List Handed
handed_from network frame [] = []
handed_from network frame (j ∷ run) = journey_handed network frame j ++ handed_from network (frame + 1) run

-- the transmissions of a port in a run
abbrev pub sent_by : DeclaredNetwork → List Travel → ℕ → List Transmission
sent_by network run port = map (λ (h : Hop). h.sent) (filter (λ (h : Hop). h.port == port) (hops_from network 0 run))

-- the crossings of a port in a run
abbrev pub crossings_by : DeclaredNetwork → List Travel → ℕ → List Crossing
crossings_by network run port = filter (λ (c : Crossing). c.port == port) (crossings_from network 0 run)

-- the frames of a class that a port has handed on in a run
abbrev pub handed_by : DeclaredNetwork → List Travel → ℕ → ℕ → List Handed
handed_by network run port class =
    filter (λ (h : Handed). h.crossing.port == port && h.crossing.sent.class == class) (handed_from network 0 run)

use Rattle.std.proofs.Common.{◌≡◌, ℕ, List, [], ◌∷◌, ◌++◌, All, refl}
use Rattle.std.specs.Prelude.{Option, Some, None}
use Rattle.std.proofs.lemmas.List.Elements.{All-nil, All-cons, All-head, All-tail, All-append}
use Rattle.ats_facts.proofs.Lists.{all_left, all_right}
use Rattle.ats_num.specs.declared.time.Ps.{Ps}
use Rattle.ats_num.specs.Wire.{bits_of}
use Rattle.ats_network.specs.Sender.{Sender}
use Rattle.ats_network.specs.Senders.{AllNeighbours}
use Rattle.ats_group.specs.declared.verdict.Verdict.{Verdict}
use Rattle.ats_group.specs.declared.verdict.Verdict.TheVariants.{Eligible, Late, Size}
use Rattle.ats_port_rule.specs.Transmission.{Transmission}
use Rattle.ats_trace.specs.Journey.{class_at, IsSentOrEnds, IsWay}
use Rattle.ats_trace.specs.Projections.{Hop, Crossing, Handed, transmission_by, transmission_of, hop_at, crossing_at}
use Rattle.ats_trace.specs.Projections.{handed_at, hops_along, crossings_along, handed_along}
use Rattle.ats_trace.specs.declared.journey.Release.{Release}
use Rattle.ats_trace.specs.HopRecord.{HopRecord}
use Rattle.ats_trace.specs.declared.journey.Ending.{Ending}
use Rattle.ats_trace.specs.declared.journey.Ending.TheVariants.{Sink, Discard}

-- the transmission of a frame with this release at a port, eligible and sent at these times
abbrev pub hop_by : ℕ → Release → ℕ → ℕ → Ps → Ps × Ps → Hop
hop_by frame release class port e times = record {
  port = port;
  sent = record {
    frame = frame;
    sender = release.sender;
    class = class;
    bits = bits_of release.octets;
    eligible = e.0;
    start = times.0.0;
    end = times.1.0;
  };
}

-- its crossing, of a frame that came to the port's node at this time and arrived behind the port at that
abbrev pub crossing_by : ℕ → Release → ℕ → ℕ → ℕ → Ps → Ps × Ps → ℕ → Crossing
crossing_by frame release class port came e times arrival = record {
  port = port;
  octets = release.octets;
  came = came;
  sent = (hop_by frame release class port e times).sent;
  arrival = arrival;
}

-- and with this verdict behind the port
abbrev pub handed_on : ℕ → Release → ℕ → ℕ → ℕ → Ps → Ps × Ps → ℕ → Verdict → Handed
handed_on frame release class port came e times arrival verdict =
    record { crossing = crossing_by frame release class port came e times arrival; verdict = verdict }

-- the transmission of a crossing, with its port
abbrev pub hop_of : Crossing → Hop
hop_of c = record { port = c.port; sent = c.sent }

-- what holds of each transmission that a frame may make at a port
abbrev pub AtPort : (Hop → Type 0) → ℕ → Release → Sender → ℕ → Type 0
AtPort P frame release sender port =
    (e : Ps) (times : Ps × Ps) → P (hop_by frame release (class_at sender port) port e times)

-- and of each with what becomes of it, where it goes on to another port
abbrev pub AtPorts : (Handed → Type 0) → ℕ → Release → Sender → ℕ → ℕ → Type 0
AtPorts P frame release sender port next =
    (came : ℕ) (e : Ps) (times : Ps × Ps) (arrival : ℕ) (verdict : Verdict)
    → P (handed_on frame release (class_at sender port) port came e times arrival verdict)

pub one_hop : (P : Hop → Type 0) (frame : ℕ) (release : Release) (sender : Sender) (port : ℕ)
    (verdict : Verdict) (sent : Option (Ps × Ps)) → AtPort P frame release sender port
    → All P (hop_at port (transmission_by frame release (class_at sender port) verdict sent))
one_hop P frame release sender port (Eligible e) (Some times) each =
    All-cons P (hop_by frame release (class_at sender port) port e times) [] (each e times) (All-nil P)
one_hop P frame release sender port (Eligible e) None each = All-nil P
one_hop P frame release sender port (Late e) sent each = All-nil P
one_hop P frame release sender port Size sent each = All-nil P

-- so of each transmission along a path
pub all_hops : (P : Hop → Type 0) (frame : ℕ) (release : Release) (sender : Sender) (path : List ℕ)
    (hops : List HopRecord)
    → All (AtPort P frame release sender) path → All P (hops_along frame release sender path hops)
all_hops P frame release sender [] hops each = All-nil P
all_hops P frame release sender (p ∷ path) [] each = All-nil P
all_hops P frame release sender (p ∷ path) (hop ∷ hops) each =
    All-append P (hop_at p (transmission_of frame release (class_at sender p) hop))
    (hops_along frame release sender path hops)
    (one_hop P frame release sender p hop.verdict hop.sent
    (All-head (AtPort P frame release sender) p path each))
    (all_hops P frame release sender path hops (All-tail (AtPort P frame release sender) p path each))

-- where there is no record there is nothing
pub no_hops : (frame : ℕ) (release : Release) (sender : Sender) (path : List ℕ)
    → hops_along frame release sender path [] ≡ []
no_hops frame release sender [] = refl
no_hops frame release sender (p ∷ path) = refl

pub none_handed : (frame : ℕ) (release : Release) (sender : Sender) (path : List ℕ)
    → handed_along frame release sender path [] ≡ []
none_handed frame release sender [] = refl
none_handed frame release sender (p ∷ path) = refl

-- what crossed a port was sent there
one_crossed : (P : Hop → Type 0) (octets came port : ℕ) (sent : Option Transmission) (hops : List HopRecord)
    (ending : Ending)
    → All P (hop_at port sent) → All (λ (c : Crossing). P (hop_of c)) (crossing_at octets came port sent hops ending)
one_crossed P octets came port None hops ending all = All-nil (λ (c : Crossing). P (hop_of c))
one_crossed P octets came port (Some sent) (next ∷ hops) ending all =
    All-cons (λ (c : Crossing). P (hop_of c)) _ [] (All-head P (record { port = port; sent = sent }) [] all)
    (All-nil (λ (c : Crossing). P (hop_of c)))
one_crossed P octets came port (Some sent) [] (Sink at) all =
    All-cons (λ (c : Crossing). P (hop_of c)) _ [] (All-head P (record { port = port; sent = sent }) [] all)
    (All-nil (λ (c : Crossing). P (hop_of c)))
one_crossed P octets came port (Some sent) [] Discard all = All-nil (λ (c : Crossing). P (hop_of c))

pub all_were_sent : (P : Hop → Type 0) (frame : ℕ) (release : Release) (sender : Sender) (path : List ℕ)
    (hops : List HopRecord) (ending : Ending)
    → All P (hops_along frame release sender path hops)
    → All (λ (c : Crossing). P (hop_of c)) (crossings_along frame release sender path hops ending)
all_were_sent P frame release sender [] hops ending all = All-nil (λ (c : Crossing). P (hop_of c))
all_were_sent P frame release sender (p ∷ path) [] ending all = All-nil (λ (c : Crossing). P (hop_of c))
all_were_sent P frame release sender (p ∷ path) (hop ∷ hops) ending all =
    let sent : Option Transmission = transmission_of frame release (class_at sender p) hop in
    All-append (λ (c : Crossing). P (hop_of c)) (crossing_at release.octets hop.arrival.0 p sent hops ending)
    (crossings_along frame release sender path hops ending)
    (one_crossed P release.octets hop.arrival.0 p sent hops ending
    (all_left P (hop_at p sent) (hops_along frame release sender path hops) all))
    (all_were_sent P frame release sender path hops ending
    (all_right P (hop_at p sent) (hops_along frame release sender path hops) all))

-- what is handed on crossed the port
one_handed : (P : Crossing → Type 0) (octets came port : ℕ) (sent : Option Transmission) (hops : List HopRecord)
    (ending : Ending)
    → All P (crossing_at octets came port sent hops ending)
    → All (λ (h : Handed). P h.crossing) (handed_at octets came port sent hops)
one_handed P octets came port None hops ending all = All-nil (λ (h : Handed). P h.crossing)
one_handed P octets came port (Some sent) [] ending all = All-nil (λ (h : Handed). P h.crossing)
one_handed P octets came port (Some sent) (next ∷ hops) ending all =
    All-cons (λ (h : Handed). P h.crossing) _ [] (All-head P _ [] all) (All-nil (λ (h : Handed). P h.crossing))

pub all_have_crossed : (P : Crossing → Type 0) (frame : ℕ) (release : Release) (sender : Sender) (path : List ℕ)
    (hops : List HopRecord) (ending : Ending)
    → All P (crossings_along frame release sender path hops ending)
    → All (λ (h : Handed). P h.crossing) (handed_along frame release sender path hops)
all_have_crossed P frame release sender [] hops ending all = All-nil (λ (h : Handed). P h.crossing)
all_have_crossed P frame release sender (p ∷ path) [] ending all = All-nil (λ (h : Handed). P h.crossing)
all_have_crossed P frame release sender (p ∷ path) (hop ∷ hops) ending all =
    let sent : Option Transmission = transmission_of frame release (class_at sender p) hop in
    let here : List Crossing = crossing_at release.octets hop.arrival.0 p sent hops ending in
    All-append (λ (h : Handed). P h.crossing) (handed_at release.octets hop.arrival.0 p sent hops)
    (handed_along frame release sender path hops)
    (one_handed P release.octets hop.arrival.0 p sent hops ending
    (all_left P here (crossings_along frame release sender path hops ending) all))
    (all_have_crossed P frame release sender path hops ending
    (all_right P here (crossings_along frame release sender path hops ending) all))

-- what holds of all that may be handed on holds of all that is
handed_here : (P : Handed → Type 0) (frame : ℕ) (release : Release) (sender : Sender) (came p : ℕ) (path : List ℕ)
    (verdict : Verdict) (sent : Option (Ps × Ps)) (hops : List HopRecord) (ending : Ending)
    → AllNeighbours (AtPorts P frame release sender) (p ∷ path)
    → (IsWay path hops ending → All P (handed_along frame release sender path hops))
    → IsSentOrEnds (IsWay path hops ending) verdict sent hops ending
    → All P (handed_at release.octets came p (transmission_by frame release (class_at sender p) verdict sent) hops
    ++ handed_along frame release sender path hops)
handed_here P frame release sender came p [] (Eligible e) (Some times) [] ending each rest way = All-nil P
handed_here P frame release sender came p [] (Eligible e) (Some times) (next ∷ hops) ending each rest way = absurd way
handed_here P frame release sender came p (q ∷ path) (Eligible e) (Some times) [] ending each rest way = absurd way
handed_here P frame release sender came p (q ∷ path) (Eligible e) (Some times) (next ∷ hops) ending each rest way =
    All-cons P (handed_on frame release (class_at sender p) p came e times next.arrival.0 next.verdict)
    (handed_along frame release sender (q ∷ path) (next ∷ hops))
    (each.0 came e times next.arrival.0 next.verdict) (rest way)
handed_here P frame release sender came p path (Eligible e) None hops ending each rest way = absurd way
handed_here P frame release sender came p path (Late e) (Some times) hops ending each rest way = absurd way
handed_here P frame release sender came p path (Late e) None hops ending each rest way =
    rw (way.0, none_handed frame release sender path) (All-nil P)
handed_here P frame release sender came p path Size (Some times) hops ending each rest way = absurd way
handed_here P frame release sender came p path Size None hops ending each rest way =
    rw (way.0, none_handed frame release sender path) (All-nil P)

later_neighbours : (R : ℕ → ℕ → Type 0) (p : ℕ) (path : List ℕ) → AllNeighbours R (p ∷ path) → AllNeighbours R path
later_neighbours R p [] each = tt
later_neighbours R p (q ∷ path) each = each.1

pub all_handed : (P : Handed → Type 0) (frame : ℕ) (release : Release) (sender : Sender) (path : List ℕ)
    (hops : List HopRecord) (ending : Ending)
    → AllNeighbours (AtPorts P frame release sender) path → IsWay path hops ending
    → All P (handed_along frame release sender path hops)
all_handed P frame release sender [] hops ending each way = All-nil P
all_handed P frame release sender (p ∷ path) [] ending each way = All-nil P
all_handed P frame release sender (p ∷ path) (hop ∷ hops) ending each way =
    handed_here P frame release sender hop.arrival.0 p path hop.verdict hop.sent hops ending each
    (all_handed P frame release sender path hops ending
    (later_neighbours (AtPorts P frame release sender) p path each))
    way

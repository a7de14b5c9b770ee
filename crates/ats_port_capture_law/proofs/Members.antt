-- Each transmission of a port is of a frame of the run, and the port makes one of a frame at most.
use Rattle.std.proofs.Common.{◌≡◌, ◌∙◌, ℕ, suc, ◌+◌, ◌<◌, ◌≤◌, Bool, false, cond, List, [], ◌∷◌, ◌++◌, length, get_or}
use Rattle.std.proofs.Common.{refl, sym, ap, subst, eqb, Option, Some, None, arith, sum_by}
use Rattle.std.specs.List.{All, concat, count_by, filter}
use Rattle.std.proofs.lemmas.Bool.{ne_eqb}
use Rattle.std.proofs.lemmas.List.{length-append, length-map, nil_from_length}
use Rattle.std.proofs.lemmas.List.Elements.{All-append, All-filter, All-head, All-map, All-nil, All-tail, All-cons}
use Rattle.std.proofs.lemmas.List.Sums.{length-filter, sum_by-cons}
use Rattle.ats_facts.proofs.Lists.{count_by-cons}
use Rattle.ats_num.specs.Wire.{IsFrameSize, bits_of}
use Rattle.ats_num.specs.declared.time.Ps.{Ps}
use Rattle.ats_streams.specs.Branches.{legs_of}
use Rattle.ats_network.specs.Class.{class_at}
use Rattle.ats_network.specs.Network.{DeclaredNetwork, IsNetwork}
use Rattle.ats_network.specs.Sender.{Sender}
use Rattle.ats_network.specs.Senders.{IsSender, no_sender, sender_at}
use Rattle.ats_network.proofs.ClassLemmas.{class_at-le}
use Rattle.ats_network.proofs.SenderLemmas.{each_is_sender}
use Rattle.ats_group.specs.declared.verdict.Verdict.{Verdict}
use Rattle.ats_group.specs.declared.verdict.Verdict.TheVariants.{Eligible, Late, Size}
use Rattle.ats_port_rule.specs.Transmission.{Transmission}
use Rattle.ats_trace.specs.Journey.{IsJourney, Leg, Travel, legs_in}
use Rattle.ats_trace.specs.Projections.{Hop, hop_at, hops_along, hops_from, hops_over, journey_hops, sent_by}
use Rattle.ats_trace.specs.Projections.{transmission_by, transmission_of}
use Rattle.ats_trace.specs.Stored.{no_travel, travel_at}
use Rattle.ats_trace.specs.HopRecord.{HopRecord}
use Rattle.ats_trace.specs.declared.journey.Release.{Release}
use Rattle.ats_trace.proofs.Legs.{concat-legs_of}
use Rattle.ats_trace.proofs.OneVerdict.{at_most_once, over-le}
use Rattle.ats_port_capture.specs.Capture.{octets_of}
use Rattle.ats_port_capture.proofs.Along.{picked, picked-append}

-- a transmission whose record can be read back: its frame has the octets of one, its class is one, and it has bits
pub record IsReadable (run : List Travel) (t : Transmission) : Type 0 where
  pub octets : IsFrameSize (octets_of run t.frame)
  pub class : t.class ≤ 7
  pub bits : 1 ≤ t.bits

-- so is the transmission that a record tells of
abbrev pub HopIsReadable : List Travel → Hop → Type 0
HopIsReadable run h = IsReadable run h.sent

readable_by : (run : List Travel) (frame : ℕ) (release : Release) (port class : ℕ) (verdict : Verdict)
    (sent : Option (Ps × Ps)) → IsFrameSize (octets_of run frame) → class ≤ 7
    → All (HopIsReadable run) (hop_at port (transmission_by frame release class verdict sent))
readable_by run frame release port class (Eligible e) (Some times) size most =
    All-cons (HopIsReadable run) _ [] (record { octets = size; class = most; bits = omega arith })
    (All-nil (HopIsReadable run))
readable_by run frame release port class (Eligible e) None size most = All-nil (HopIsReadable run)
readable_by run frame release port class (Late e) sent size most = All-nil (HopIsReadable run)
readable_by run frame release port class Size sent size most = All-nil (HopIsReadable run)

readable_along : (run : List Travel) (frame : ℕ) (release : Release) (s : Sender) (path : List ℕ)
    (hops : List HopRecord) → IsFrameSize (octets_of run frame) → ((port : ℕ) → class_at s port ≤ 7)
    → All (HopIsReadable run) (hops_along frame release s path hops)
readable_along run frame release s [] hops size most = All-nil (HopIsReadable run)
readable_along run frame release s (p ∷ path) [] size most = All-nil (HopIsReadable run)
readable_along run frame release s (p ∷ path) (hop ∷ hops) size most =
    All-append (HopIsReadable run) (hop_at p (transmission_of frame release (class_at s p) hop))
    (hops_along frame release s path hops)
    (readable_by run frame release p (class_at s p) hop.verdict hop.sent size (most p))
    (readable_along run frame release s path hops size most)

-- and so along legs
readable_over : (run : List Travel) (frame : ℕ) (release : Release) (s : Sender) (paths : List (List ℕ))
    (legs : List Leg) → IsFrameSize (octets_of run frame) → ((port : ℕ) → class_at s port ≤ 7)
    → All (HopIsReadable run) (hops_over frame release s paths legs)
readable_over run frame release s [] legs size most = All-nil (HopIsReadable run)
readable_over run frame release s (path ∷ paths) [] size most = All-nil (HopIsReadable run)
readable_over run frame release s (path ∷ paths) (leg ∷ legs) size most =
    All-append (HopIsReadable run) (hops_along frame release s path leg.hops) (hops_over frame release s paths legs)
    (readable_along run frame release s path leg.hops size most)
    (readable_over run frame release s paths legs size most)

-- the journeys from this number on are the rest of a run
abbrev IsRestOf : List Travel → ℕ → List Travel → Type 0
IsRestOf run frame rest = (i : ℕ) → i < length rest → travel_at run (frame + i) ≡ get_or rest i no_travel

rest_next : (run : List Travel) (frame : ℕ) (j : Travel) (rest : List Travel) → IsRestOf run frame (j ∷ rest)
    → IsRestOf run (frame + 1) rest
rest_next run frame j rest is i within =
    ap (travel_at run) (omega arith) ∙ is (suc i) (omega arith)

readable_from : (network : DeclaredNetwork) (run : List Travel) (frame : ℕ) (rest : List Travel) → IsNetwork network
    → All (IsJourney network) rest → IsRestOf run frame rest
    → All (HopIsReadable run) (hops_from network frame rest)
readable_from network run frame [] net journeys is = All-nil (HopIsReadable run)
readable_from network run frame (j ∷ rest) net journeys is =
    let journey : IsJourney network j = All-head (IsJourney network) j rest journeys in
    let s : Sender = sender_at network j.release.sender in
    let sender : IsSender network.topology s = each_is_sender network net j.release.sender no_sender journey.sender in
    let same : travel_at run frame ≡ j = ap (travel_at run) (omega arith) ∙ is 0 (omega arith) in
    All-append (HopIsReadable run) (journey_hops network frame j) (hops_from network (frame + 1) rest)
    (readable_over run frame j.release s (legs_of s.ports s.branches) (legs_in j)
    (subst (λ (t : Travel). IsFrameSize t.release.octets) (sym same) journey.octets)
    (λ port. class_at-le s port sender.classes))
    (readable_from network run (frame + 1) rest net (All-tail (IsJourney network) j rest journeys)
    (rest_next run frame j rest is))

pub each_readable : (network : DeclaredNetwork) (run : List Travel) (port : ℕ) → IsNetwork network
    → All (IsJourney network) run → All (IsReadable run) (sent_by network run port)
each_readable network run port net journeys =
    All-map (IsReadable run) (λ (h : Hop). h.sent) (filter (λ (h : Hop). eqb h.port port) (hops_from network 0 run))
    (All-filter (λ (h : Hop). eqb h.port port) (HopIsReadable run) (hops_from network 0 run)
    (readable_from network run 0 run net journeys (λ i within. ap (travel_at run) (omega arith))))

-- a hop at this port weighs 1, any other nothing
abbrev weight : ℕ → Hop → ℕ
weight port h = cond (eqb h.port port) 1 0

-- so many transmissions are those of a port
picked-length : (port : ℕ) (hops : List Hop) → length (picked port hops) ≡ sum_by (weight port) hops
picked-length port hops =
    length-map (filter (λ (h : Hop). eqb h.port port) hops) (λ (h : Hop). h.sent)
    ∙ length-filter (λ (h : Hop). eqb h.port port) hops

weight-le : (port frame p : ℕ) (release : Release) (class : ℕ) (verdict : Verdict) (sent : Option (Ps × Ps))
    → sum_by (weight port) (hop_at p (transmission_by frame release class verdict sent)) ≤ cond (eqb p port) 1 0
weight-le port frame p release class (Eligible e) (Some times) =
    let hop : Hop = record {
      port = p;
      sent = record {
        frame = frame;
        sender = release.sender;
        class = class;
        bits = bits_of release.octets;
        eligible = e.0;
        start = times.0.0;
        end = times.1.0;
      };
    } in
    omega (arith, sum_by-cons (weight port) hop [])
weight-le port frame p release class (Eligible e) None = omega arith
weight-le port frame p release class (Late e) sent = omega arith
weight-le port frame p release class Size sent = omega arith

-- a journey makes no more transmissions at a port than its sender has this port
few_over : (network : DeclaredNetwork) (port frame : ℕ) (j : Travel) → IsNetwork network → IsJourney network j
    → length (picked port (journey_hops network frame j))
    ≤ count_by (λ (p : ℕ). eqb p port) (sender_at network j.release.sender).ports
few_over network port frame j net journey =
    let s : Sender = sender_at network j.release.sender in
    let sender : IsSender network.topology s = each_is_sender network net j.release.sender no_sender journey.sender in
    let at : ℕ → ℕ = λ (p : ℕ). cond (eqb p port) 1 0 in
    let most : sum_by (weight port) (journey_hops network frame j) ≤ sum_by at (concat (legs_of s.ports s.branches)) =
    over-le (weight port) at frame j.release s
    (λ p hop. weight-le port frame p j.release (class_at s p) hop.verdict hop.sent) (legs_of s.ports s.branches)
    (legs_in j) in
    let whole : sum_by at (concat (legs_of s.ports s.branches)) ≡ sum_by at s.ports =
    ap (sum_by at) (concat-legs_of s.ports s.branches sender.branches) in
    omega (arith, picked-length port (journey_hops network frame j), most, whole)

few_from : (network : DeclaredNetwork) (port frame : ℕ) (rest : List Travel) → IsNetwork network
    → All (IsJourney network) rest → length (picked port (hops_from network frame rest)) ≤ length rest
few_from network port frame [] net journeys = omega arith
few_from network port frame (j ∷ rest) net journeys =
    let journey : IsJourney network j = All-head (IsJourney network) j rest journeys in
    let s : Sender = sender_at network j.release.sender in
    let sender : IsSender network.topology s = each_is_sender network net j.release.sender no_sender journey.sender in
    let here = few_over network port frame j net journey in
    let once : count_by (λ (p : ℕ). eqb p port) s.ports ≤ 1 = at_most_once port s.ports sender.apart in
    let further = few_from network port (frame + 1) rest net (All-tail (IsJourney network) j rest journeys) in
    let both : length (picked port (journey_hops network frame j ++ hops_from network (frame + 1) rest))
    ≡ length (picked port (journey_hops network frame j)) + length (picked port (hops_from network (frame + 1) rest)) =
    ap (λ (l : List Transmission). length l)
    (picked-append port (journey_hops network frame j) (hops_from network (frame + 1) rest))
    ∙ length-append (picked port (journey_hops network frame j)) (picked port (hops_from network (frame + 1) rest)) in
    omega (arith, here, once, further, both)

pub few_sent : (network : DeclaredNetwork) (run : List Travel) (port : ℕ) → IsNetwork network
    → All (IsJourney network) run → length (sent_by network run port) ≤ length run
few_sent network run port net journeys = few_from network port 0 run net journeys

-- a port that does not exist sends nothing
none_beyond : (port ports : ℕ) (path : List ℕ) → ports ≤ port → All (λ p. p < ports) path
    → count_by (λ (p : ℕ). eqb p port) path ≡ 0
none_beyond port ports [] beyond inside = refl
none_beyond port ports (p ∷ path) beyond inside =
    let at : p < ports = All-head (λ p. p < ports) p path inside in
    let other : eqb p port ≡ false = ne_eqb p port (λ e. omega (arith, at, e, beyond)) in
    count_by-cons (λ (p : ℕ). eqb p port) p path
    ∙ ap (λ (t : Bool). cond t 1 0 + count_by (λ (p : ℕ). eqb p port) path) other
    ∙ (omega (arith, none_beyond port ports path beyond (All-tail (λ p. p < ports) p path inside)))

none_from : (network : DeclaredNetwork) (port frame : ℕ) (rest : List Travel) → IsNetwork network
    → length network.topology.ports ≤ port → All (IsJourney network) rest
    → picked port (hops_from network frame rest) ≡ []
none_from network port frame [] net beyond journeys = refl
none_from network port frame (j ∷ rest) net beyond journeys =
    let journey : IsJourney network j = All-head (IsJourney network) j rest journeys in
    let s : Sender = sender_at network j.release.sender in
    let sender : IsSender network.topology s = each_is_sender network net j.release.sender no_sender journey.sender in
    let none = none_beyond port (length network.topology.ports) s.ports beyond sender.ports in
    let here : length (picked port (journey_hops network frame j)) ≡ 0 =
    omega (arith, few_over network port frame j net journey, none) in
    picked-append port (journey_hops network frame j) (hops_from network (frame + 1) rest)
    ∙ ap (λ (l : List Transmission). l ++ picked port (hops_from network (frame + 1) rest))
    (nil_from_length (picked port (journey_hops network frame j)) here)
    ∙ none_from network port (frame + 1) rest net beyond (All-tail (IsJourney network) j rest journeys)

pub none_sent : (network : DeclaredNetwork) (run : List Travel) (port : ℕ) → IsNetwork network
    → length network.topology.ports ≤ port → All (IsJourney network) run → sent_by network run port ≡ []
none_sent network run port net beyond journeys = none_from network port 0 run net beyond journeys

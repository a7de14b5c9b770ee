-- What is kept of one frame of a run along one leg, by what is read of it.
use Rattle.std.proofs.Common.{◌≡◌, ◌∙◌, ℕ, ◌<◌, ◌≤◌, ◌^◌, List, [], length, get_or, map, refl, sym, ap, subst, eqb}
use Rattle.std.proofs.Common.{false, Option, Some, None, arith}
use Rattle.std.specs.Prelude.{slice_get}
use Rattle.std.specs.List.{All, position_from}
use Rattle.std.proofs.lemmas.Bool.{eqb-true}
use Rattle.std.proofs.lemmas.List.{get_or-map, length-map}
use Rattle.std.proofs.lemmas.List.Elements.{All-append, All-map}
use Rattle.std.proofs.lemmas.List.Sums.{get_or-le-sum_by}
use Rattle.std.proofs.lemmas.Option.{slice_get_past, slice_get_read}
use Rattle.ats_num.specs.Wire.{IsFrameSize}
use Rattle.ats_num.specs.declared.time.Ps.{Ps}
use Rattle.ats_streams.specs.Branches.{leg_at}
use Rattle.ats_streams.specs.Flow.{DeclaredFlow, IsFlow}
use Rattle.ats_streams.specs.Path.{IsPath}
use Rattle.ats_streams.specs.Stream.{DeclaredStream}
use Rattle.ats_streams.proofs.BranchLemmas.{legs-length}
use Rattle.ats_topology.proofs.PositionLemmas.{IsFound, all_fail, found}
use Rattle.ats_network.specs.Class.{class_at}
use Rattle.ats_network.specs.Sender.{Sender, flow_sender, stream_sender}
use Rattle.ats_network.specs.Network.{DeclaredNetwork, IsNetwork, ports_together, senders_of}
use Rattle.ats_network.specs.Senders.{IsSender, no_sender, sender_at}
use Rattle.ats_network.proofs.ClassLemmas.{class_at-le}
use Rattle.ats_network.proofs.SenderLemmas.{sender_keeps}
use Rattle.ats_trace.specs.Journey.{IsJourney, Travel, legs_at, legs_in, no_leg}
use Rattle.ats_trace.specs.Stored.{journey_of, leg_in, no_travel, travel_at}
use Rattle.ats_trace.specs.declared.journey.Journey.{Journey}
use Rattle.ats_trace.specs.HopRecord.{HopRecord}
use Rattle.ats_trace.specs.declared.journey.Release.{Release}
use Rattle.ats_port_capture.specs.Sightings.{IsWritable, sent_in, sighting_of}
use Rattle.ats_port_capture.proofs.Along.{AgreesAt, at_place, kept, kept_at, kept_there, none_along, sent_there}
use Rattle.ats_port_capture.proofs.Ways.{as_many, leg_apart, legs_agree}

-- the rows of a run
pub rows_long : (run : List Travel) (rows : List Journey) → rows ≡ map journey_of run → length rows ≡ length run
rows_long run rows e = rw e (length-map run journey_of)

pub row_at : (run : List Travel) (rows : List Journey) (frame : ℕ) (d : Journey) → rows ≡ map journey_of run
    → frame < length run → get_or rows frame d ≡ journey_of (travel_at run frame)
row_at run rows frame d e within = rw e (get_or-map journey_of run frame no_travel d within)

-- a sender has few ports
streams_few : (streams : List DeclaredStream) → ports_together streams ≤ 65536
    → All (λ (s : Sender). length s.ports ≤ 65536) (map stream_sender streams)
streams_few streams few = All-map (λ (s : Sender). length s.ports ≤ 65536) stream_sender streams
    (λ k d h. omega (arith, few, get_or-le-sum_by (λ (s : DeclaredStream). length s.ports) streams k d h))

flows_few : (flows : List DeclaredFlow) → All IsFlow flows
    → All (λ (s : Sender). length s.ports ≤ 65536) (map flow_sender flows)
flows_few flows keep = All-map (λ (s : Sender). length s.ports ≤ 65536) flow_sender flows
    (λ k d h. (let path : IsPath (get_or flows k d).path = (keep k d h).path in omega (arith, path.most)))

pub few_ports : (network : DeclaredNetwork) (sender : ℕ) → IsNetwork network → sender < length (senders_of network)
    → length (sender_at network sender).ports ≤ 65536
few_ports network sender is within =
    All-append (λ (s : Sender). length s.ports ≤ 65536) (map stream_sender network.streams)
    (map flow_sender network.flows) (streams_few network.streams is.few_ports) (flows_few network.flows is.flows)
    sender no_sender within

-- what is read of a frame of a run along a leg: its release, the ports of the leg, its records there, and its sender's
-- class at a port
pub record IsRead (network : DeclaredNetwork) (run : List Travel) (port frame leg : ℕ) (release : Release)
    (path : List ℕ) (hops : List HopRecord) (class : ℕ) : Type 0 where
  pub net : IsNetwork network
  pub journey : IsJourney network (travel_at run frame)
  pub within : leg < length (legs_in (travel_at run frame))
  pub same : release ≡ (travel_at run frame).release
  pub path_is : path ≡ leg_at (legs_at network release.sender) leg
  pub hops_are : hops ≡ (leg_in (travel_at run frame) leg).hops
  pub class_is : class ≡ class_at (sender_at network (travel_at run frame).release.sender) port

-- the ports that are read are those of the frame's leg
path_of : {network : DeclaredNetwork} {run : List Travel} {port frame leg : ℕ} {release : Release} {path : List ℕ}
    {hops : List HopRecord} {class : ℕ} → IsRead network run port frame leg release path hops class
    → path ≡ leg_at (legs_at network (travel_at run frame).release.sender) leg
path_of {network} {leg = leg} read =
    read.path_is ∙ ap (λ (r : Release). leg_at (legs_at network r.sender) leg) read.same

-- along a leg that does not have the port, the frame is not sent there
pub not_there : {network : DeclaredNetwork} {run : List Travel} {port frame leg : ℕ} {release : Release} {path : List ℕ}
    {hops : List HopRecord} {class : ℕ} → IsRead network run port frame leg release path hops class
    → position_from (λ p. eqb p port) 0 path ≡ None
    → map (sighting_of run) (sent_in network port frame (travel_at run frame) leg) ≡ []
not_there {network} {run} {port} {frame} {leg} {path = path} read none =
    let j : Travel = travel_at run frame in
    ap (map (sighting_of run)) (none_along port frame j.release (sender_at network j.release.sender)
    (leg_at (legs_at network j.release.sender) leg) (leg_in j leg).hops
    (subst (All (λ p. eqb p port ≡ false)) (path_of read) (all_fail (λ p. eqb p port) 0 path none)))

-- along one that has it at this hop, the record there tells what is kept
kept_of : (network : DeclaredNetwork) (run : List Travel) (port frame leg n : ℕ) → IsNetwork network
    → IsJourney network (travel_at run frame) → leg < length (legs_in (travel_at run frame))
    → n < length (leg_at (legs_at network (travel_at run frame).release.sender) leg)
    → get_or (leg_at (legs_at network (travel_at run frame).release.sender) leg) n 0 ≡ port
    → map (sighting_of run) (sent_in network port frame (travel_at run frame) leg)
    ≡ kept_there (travel_at run frame).release.octets (travel_at run frame).release.sender
    (class_at (sender_at network (travel_at run frame).release.sender) port)
    (slice_get (leg_in (travel_at run frame) leg).hops n)
kept_of network run port frame leg n net journey there within is =
    let j : Travel = travel_at run frame in
    let s : Sender = sender_at network j.release.sender in
    let path : List ℕ = leg_at (legs_at network j.release.sender) leg in
    let hops : List HopRecord = (leg_in j leg).hops in
    let apart = leg_apart network j.release.sender leg net journey.sender
    (omega (arith, there, as_many network j journey)) in
    let agree : All AgreesAt hops = legs_agree network j journey leg no_leg there in
    ap (map (sighting_of run)) (at_place port frame j.release s path hops n apart within is
    ∙ ap (λ (p : ℕ). sent_there frame j.release (class_at s p) (slice_get hops n)) is)
    ∙ kept_at run frame j.release (class_at s port) hops n agree refl

kept_is : {network : DeclaredNetwork} {run : List Travel} {port frame leg : ℕ} {release : Release} {path : List ℕ}
    {hops : List HopRecord} {class : ℕ} (n : ℕ) → IsRead network run port frame leg release path hops class
    → position_from (λ p. eqb p port) 0 path ≡ Some n
    → map (sighting_of run) (sent_in network port frame (travel_at run frame) leg)
    ≡ kept_there release.octets release.sender class (slice_get hops n)
kept_is {network} {run} {port} {frame} {leg} {release} {path} {hops} {class} n read place =
    let j : Travel = travel_at run frame in
    let legs : List (List ℕ) = legs_at network j.release.sender in
    let is : path ≡ leg_at legs leg = path_of read in
    let f : IsFound (λ p. eqb p port) path 0 0 n = found (λ p. eqb p port) 0 path n 0 place in
    let long : length path ≡ length (leg_at legs leg) = ap (λ (l : List ℕ). length l) is in
    let at : n ≡ f.place = omega (arith, f.is) in
    let port_is : get_or (leg_at legs leg) n 0 ≡ port =
    ap (λ (l : List ℕ). get_or l n 0) (sym is) ∙ ap (λ (k : ℕ). get_or path k 0) at
    ∙ eqb-true (get_or path f.place 0) port f.passes in
    kept_of network run port frame leg n read.net read.journey read.within (omega (arith, f.within, at, long)) port_is
    ∙ ap (λ (c : ℕ). kept_there j.release.octets j.release.sender c (slice_get (leg_in j leg).hops n))
    (sym read.class_is)
    ∙ ap (λ (r : Release). kept_there r.octets r.sender class (slice_get (leg_in j leg).hops n)) (sym read.same)
    ∙ ap (λ (l : List HopRecord). kept_there release.octets release.sender class (slice_get l n)) (sym read.hops_are)

-- where there is no record at that hop, the frame was not sent there
pub never_came : {network : DeclaredNetwork} {run : List Travel} {port frame leg : ℕ} {release : Release}
    {path : List ℕ} {hops : List HopRecord} {class : ℕ} (n : ℕ)
    → IsRead network run port frame leg release path hops class → position_from (λ p. eqb p port) 0 path ≡ Some n
    → length hops ≤ n → map (sighting_of run) (sent_in network port frame (travel_at run frame) leg) ≡ []
never_came {release = release} {hops = hops} {class = class} n read place past =
    kept_is n read place ∙ ap (kept_there release.octets release.sender class) (slice_get_past hops n past)

-- where there is one, it tells what is kept
pub came : {network : DeclaredNetwork} {run : List Travel} {port frame leg : ℕ} {release : Release} {path : List ℕ}
    {hops : List HopRecord} {class : ℕ} (n : ℕ) (hop : HopRecord) (sent : Option (Ps × Ps))
    → IsRead network run port frame leg release path hops class → position_from (λ p. eqb p port) 0 path ≡ Some n
    → n < length hops → hop ≡ get_or hops n hop → hop.sent ≡ sent
    → map (sighting_of run) (sent_in network port frame (travel_at run frame) leg)
    ≡ kept release.octets release.sender class sent
came {release = release} {hops = hops} {class = class} n hop sent read place within is sent_is =
    kept_is n read place
    ∙ ap (kept_there release.octets release.sender class) (slice_get_read hops (length hops) n hop refl within is)
    ∙ ap (kept release.octets release.sender class) sent_is

-- a leg of a frame is one of its sender
pub leg_within : (network : DeclaredNetwork) (run : List Travel) (frame leg : ℕ) (release : Release)
    → release ≡ (travel_at run frame).release → IsJourney network (travel_at run frame)
    → leg < length (legs_in (travel_at run frame)) → leg ≤ length (sender_at network release.sender).branches
leg_within network run frame leg release same journey within =
    let s : Sender = sender_at network release.sender in
    let many : length (legs_in (travel_at run frame)) ≡ length (legs_at network release.sender) =
    as_many network (travel_at run frame) journey
    ∙ ap (λ (r : Release). length (legs_at network r.sender)) (sym same) in
    omega (arith, within, many, legs-length 0 s.ports s.branches)

-- what is kept can be written
pub writable : {network : DeclaredNetwork} {run : List Travel} {port frame leg : ℕ} {release : Release} {path : List ℕ}
    {hops : List HopRecord} {class : ℕ} (start : Ps) → IsRead network run port frame leg release path hops class
    → start.0 < 2 ^ 64
    → IsWritable (record { start = start; octets = release.octets; sender = release.sender; class = class })
writable {network} {run} {port} {frame} {release = release} {class = class} start read fits =
    let s : Sender = sender_at network (travel_at run frame).release.sender in
    let keeps : IsSender network.topology s =
    sender_keeps network (travel_at run frame).release.sender read.net read.journey.sender in
    let sized : IsFrameSize release.octets =
    subst (λ (r : Release). IsFrameSize r.octets) (sym read.same) read.journey.octets in
    record {
      start = fits;
      octets = sized;
      class = omega (arith, class_at-le s port keeps.classes, read.class_is);
    }

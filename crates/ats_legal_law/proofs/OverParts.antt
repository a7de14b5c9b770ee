use Rattle.std.proofs.Common.{ℕ, ◌+◌, ◌≤◌, List, [], ◌∷◌, filter, All}
use Rattle.std.specs.Prelude.{◌==◌, ◌&&◌, Option, Some, None}
use Rattle.std.proofs.lemmas.List.Elements.{All-nil, All-cons, All-head, All-tail, All-append, All-filter, All-map}
use Rattle.ats_num.specs.declared.time.Ps.{Ps}
use Rattle.ats_network.specs.Sender.{Sender}
use Rattle.ats_network.specs.Network.{DeclaredNetwork}
use Rattle.ats_network.specs.Senders.{sender_at}
use Rattle.ats_group.specs.declared.verdict.Verdict.{Verdict}
use Rattle.ats_group.specs.declared.verdict.Verdict.TheVariants.{Eligible, Late, Size}
use Rattle.ats_group.specs.Judge.{OnEligible}
use Rattle.ats_trace.specs.Journey.{Leg, Travel, class_at, legs_at, legs_in}
use Rattle.ats_trace.specs.Projections.{Hop, Crossing, Handed, transmission_by, transmission_of, hop_at, crossing_at}
use Rattle.ats_trace.specs.Projections.{handed_at, hops_along, crossings_along, handed_along, hops_over}
use Rattle.ats_trace.specs.Projections.{crossings_over, handed_over, journey_hops, journey_crossings, journey_handed}
use Rattle.ats_trace.specs.Projections.{hops_from, crossings_from, handed_from}
use Rattle.ats_trace.specs.Projections.{sent_by, crossings_by, handed_by}
use Rattle.ats_trace.specs.declared.journey.Release.{Release}
use Rattle.ats_trace.specs.HopRecord.{HopRecord}
use Rattle.ats_trace.specs.declared.journey.Ending.{Ending}
use Rattle.ats_trace.specs.declared.journey.Ending.TheVariants.{Sink, Discard}
use Rattle.ats_legal_law.specs.Rest.{AreTimesBy, IsRecordBy, IsEndingBy, IsLegBy, IsOverBy}
use Rattle.ats_legal_law.proofs.LaterRules.{HasEndedBy, HasArrivedBy}

-- Where all of a run is over by a time, so is what it tells.

abbrev EndsBy : ℕ → Hop → Type 0
EndsBy over h = HasEndedBy over h.sent

-- what was handed on had arrived, and was eligible
abbrev pub IsHandedBy : ℕ → Handed → Type 0
IsHandedBy over h = (h.crossing.arrival ≤ over) × OnEligible h.verdict (λ e. e ≤ over)

hop_over : (over frame : ℕ) (release : Release) (class port : ℕ) (verdict : Verdict) (sent : Option (Ps × Ps))
    → AreTimesBy over sent → All (EndsBy over) (hop_at port (transmission_by frame release class verdict sent))
hop_over over frame release class port (Eligible e) (Some times) by =
    All-cons (EndsBy over) _ [] by (All-nil (EndsBy over))
hop_over over frame release class port (Eligible e) None by = All-nil (EndsBy over)
hop_over over frame release class port (Late e) sent by = All-nil (EndsBy over)
hop_over over frame release class port Size sent by = All-nil (EndsBy over)

crossing_over : (over frame : ℕ) (release : Release) (class came port : ℕ) (verdict : Verdict)
    (sent : Option (Ps × Ps)) (hops : List HopRecord) (ending : Ending) → AreTimesBy over sent
    → All (IsRecordBy over) hops → IsEndingBy over ending → All (HasArrivedBy over)
    (crossing_at release.octets came port (transmission_by frame release class verdict sent) hops ending)
crossing_over over frame release class came port (Eligible e) (Some times) (next ∷ hops) ending by each ended =
    All-cons (HasArrivedBy over) _ [] (by, (All-head (IsRecordBy over) next hops each).arrival)
    (All-nil (HasArrivedBy over))
crossing_over over frame release class came port (Eligible e) (Some times) [] (Sink at) by each ended =
    All-cons (HasArrivedBy over) _ [] (by, ended) (All-nil (HasArrivedBy over))
crossing_over over frame release class came port (Eligible e) (Some times) [] Discard by each ended =
    All-nil (HasArrivedBy over)
crossing_over over frame release class came port (Eligible e) None hops ending by each ended =
    All-nil (HasArrivedBy over)
crossing_over over frame release class came port (Late e) sent hops ending by each ended = All-nil (HasArrivedBy over)
crossing_over over frame release class came port Size sent hops ending by each ended = All-nil (HasArrivedBy over)

frame_handed_over : (over frame : ℕ) (release : Release) (class came port : ℕ) (verdict : Verdict)
    (sent : Option (Ps × Ps)) (hops : List HopRecord) → All (IsRecordBy over) hops
    → All (IsHandedBy over)
    (handed_at release.octets came port (transmission_by frame release class verdict sent) hops)
frame_handed_over over frame release class came port (Eligible e) (Some times) (next ∷ hops) each =
    let is : IsRecordBy over next = All-head (IsRecordBy over) next hops each in
    All-cons (IsHandedBy over) _ [] (is.arrival, is.eligible) (All-nil (IsHandedBy over))
frame_handed_over over frame release class came port (Eligible e) (Some times) [] each = All-nil (IsHandedBy over)
frame_handed_over over frame release class came port (Eligible e) None hops each = All-nil (IsHandedBy over)
frame_handed_over over frame release class came port (Late e) sent hops each = All-nil (IsHandedBy over)
frame_handed_over over frame release class came port Size sent hops each = All-nil (IsHandedBy over)

all_hops_over : (over frame : ℕ) (release : Release) (sender : Sender) (path : List ℕ) (hops : List HopRecord)
    → All (IsRecordBy over) hops → All (EndsBy over) (hops_along frame release sender path hops)
all_hops_over over frame release sender [] hops each = All-nil (EndsBy over)
all_hops_over over frame release sender (p ∷ path) [] each = All-nil (EndsBy over)
all_hops_over over frame release sender (p ∷ path) (hop ∷ hops) each =
    All-append (EndsBy over) (hop_at p (transmission_of frame release (class_at sender p) hop))
    (hops_along frame release sender path hops)
    (hop_over over frame release (class_at sender p) p hop.verdict hop.sent
    (All-head (IsRecordBy over) hop hops each).sent)
    (all_hops_over over frame release sender path hops (All-tail (IsRecordBy over) hop hops each))

all_crossings_over : (over frame : ℕ) (release : Release) (sender : Sender) (path : List ℕ) (hops : List HopRecord)
    (ending : Ending) → All (IsRecordBy over) hops → IsEndingBy over ending
    → All (HasArrivedBy over) (crossings_along frame release sender path hops ending)
all_crossings_over over frame release sender [] hops ending each ended = All-nil (HasArrivedBy over)
all_crossings_over over frame release sender (p ∷ path) [] ending each ended = All-nil (HasArrivedBy over)
all_crossings_over over frame release sender (p ∷ path) (hop ∷ hops) ending each ended =
    let later : All (IsRecordBy over) hops = All-tail (IsRecordBy over) hop hops each in
    All-append (HasArrivedBy over)
    (crossing_at release.octets hop.arrival.0 p (transmission_of frame release (class_at sender p) hop) hops ending)
    (crossings_along frame release sender path hops ending)
    (crossing_over over frame release (class_at sender p) hop.arrival.0 p hop.verdict hop.sent hops ending
    (All-head (IsRecordBy over) hop hops each).sent later ended)
    (all_crossings_over over frame release sender path hops ending later ended)

all_handed_over : (over frame : ℕ) (release : Release) (sender : Sender) (path : List ℕ) (hops : List HopRecord)
    → All (IsRecordBy over) hops → All (IsHandedBy over) (handed_along frame release sender path hops)
all_handed_over over frame release sender [] hops each = All-nil (IsHandedBy over)
all_handed_over over frame release sender (p ∷ path) [] each = All-nil (IsHandedBy over)
all_handed_over over frame release sender (p ∷ path) (hop ∷ hops) each =
    let later : All (IsRecordBy over) hops = All-tail (IsRecordBy over) hop hops each in
    All-append (IsHandedBy over)
    (handed_at release.octets hop.arrival.0 p (transmission_of frame release (class_at sender p) hop) hops)
    (handed_along frame release sender path hops)
    (frame_handed_over over frame release (class_at sender p) hop.arrival.0 p hop.verdict hop.sent hops later)
    (all_handed_over over frame release sender path hops later)

-- along legs

legs_over : (over : ℕ) (j : Travel) → IsOverBy over j → All (IsLegBy over) (legs_in j)
legs_over over j is =
    All-cons (IsLegBy over) (record { hops = j.hops; ending = j.ending }) j.copies
    (record { hops = is.hops; ending = is.ending }) is.copies

legs_hops_over : (over frame : ℕ) (release : Release) (sender : Sender) (paths : List (List ℕ)) (legs : List Leg)
    → All (IsLegBy over) legs → All (EndsBy over) (hops_over frame release sender paths legs)
legs_hops_over over frame release sender [] legs each = All-nil (EndsBy over)
legs_hops_over over frame release sender (path ∷ paths) [] each = All-nil (EndsBy over)
legs_hops_over over frame release sender (path ∷ paths) (leg ∷ legs) each =
    All-append (EndsBy over) (hops_along frame release sender path leg.hops)
    (hops_over frame release sender paths legs)
    (all_hops_over over frame release sender path leg.hops (All-head (IsLegBy over) leg legs each).hops)
    (legs_hops_over over frame release sender paths legs (All-tail (IsLegBy over) leg legs each))

legs_crossings_over : (over frame : ℕ) (release : Release) (sender : Sender) (paths : List (List ℕ)) (legs : List Leg)
    → All (IsLegBy over) legs → All (HasArrivedBy over) (crossings_over frame release sender paths legs)
legs_crossings_over over frame release sender [] legs each = All-nil (HasArrivedBy over)
legs_crossings_over over frame release sender (path ∷ paths) [] each = All-nil (HasArrivedBy over)
legs_crossings_over over frame release sender (path ∷ paths) (leg ∷ legs) each =
    let is : IsLegBy over leg = All-head (IsLegBy over) leg legs each in
    All-append (HasArrivedBy over) (crossings_along frame release sender path leg.hops leg.ending)
    (crossings_over frame release sender paths legs)
    (all_crossings_over over frame release sender path leg.hops leg.ending is.hops is.ending)
    (legs_crossings_over over frame release sender paths legs (All-tail (IsLegBy over) leg legs each))

legs_handed_over : (over frame : ℕ) (release : Release) (sender : Sender) (paths : List (List ℕ)) (legs : List Leg)
    → All (IsLegBy over) legs → All (IsHandedBy over) (handed_over frame release sender paths legs)
legs_handed_over over frame release sender [] legs each = All-nil (IsHandedBy over)
legs_handed_over over frame release sender (path ∷ paths) [] each = All-nil (IsHandedBy over)
legs_handed_over over frame release sender (path ∷ paths) (leg ∷ legs) each =
    All-append (IsHandedBy over) (handed_along frame release sender path leg.hops)
    (handed_over frame release sender paths legs)
    (all_handed_over over frame release sender path leg.hops (All-head (IsLegBy over) leg legs each).hops)
    (legs_handed_over over frame release sender paths legs (All-tail (IsLegBy over) leg legs each))

run_hops_over : (network : DeclaredNetwork) (over n : ℕ) (run : List Travel) → All (IsOverBy over) run
    → All (EndsBy over) (hops_from network n run)
run_hops_over network over n [] all = All-nil (EndsBy over)
run_hops_over network over n (j ∷ run) all =
    let s : Sender = sender_at network j.release.sender in
    All-append (EndsBy over) (journey_hops network n j) (hops_from network (n + 1) run)
    (legs_hops_over over n j.release s (legs_at network j.release.sender) (legs_in j)
    (legs_over over j (All-head (IsOverBy over) j run all)))
    (run_hops_over network over (n + 1) run (All-tail (IsOverBy over) j run all))

run_crossings_over : (network : DeclaredNetwork) (over n : ℕ) (run : List Travel) → All (IsOverBy over) run
    → All (HasArrivedBy over) (crossings_from network n run)
run_crossings_over network over n [] all = All-nil (HasArrivedBy over)
run_crossings_over network over n (j ∷ run) all =
    let s : Sender = sender_at network j.release.sender in
    All-append (HasArrivedBy over) (journey_crossings network n j) (crossings_from network (n + 1) run)
    (legs_crossings_over over n j.release s (legs_at network j.release.sender) (legs_in j)
    (legs_over over j (All-head (IsOverBy over) j run all)))
    (run_crossings_over network over (n + 1) run (All-tail (IsOverBy over) j run all))

run_handed_over : (network : DeclaredNetwork) (over n : ℕ) (run : List Travel) → All (IsOverBy over) run
    → All (IsHandedBy over) (handed_from network n run)
run_handed_over network over n [] all = All-nil (IsHandedBy over)
run_handed_over network over n (j ∷ run) all =
    let s : Sender = sender_at network j.release.sender in
    All-append (IsHandedBy over) (journey_handed network n j) (handed_from network (n + 1) run)
    (legs_handed_over over n j.release s (legs_at network j.release.sender) (legs_in j)
    (legs_over over j (All-head (IsOverBy over) j run all)))
    (run_handed_over network over (n + 1) run (All-tail (IsOverBy over) j run all))

pub sent_over : (network : DeclaredNetwork) (over : ℕ) (run : List Travel) (port : ℕ) → All (IsOverBy over) run
    → All (HasEndedBy over) (sent_by network run port)
sent_over network over run port all =
    All-map (HasEndedBy over) (λ (h : Hop). h.sent) (filter (λ (h : Hop). h.port == port) (hops_from network 0 run))
    (All-filter (λ (h : Hop). h.port == port) (EndsBy over) (hops_from network 0 run)
    (run_hops_over network over 0 run all))

pub crossed_over : (network : DeclaredNetwork) (over : ℕ) (run : List Travel) (port : ℕ) → All (IsOverBy over) run
    → All (HasArrivedBy over) (crossings_by network run port)
crossed_over network over run port all =
    All-filter (λ (c : Crossing). c.port == port) (HasArrivedBy over) (crossings_from network 0 run)
    (run_crossings_over network over 0 run all)

pub given_over : (network : DeclaredNetwork) (over : ℕ) (run : List Travel) (port class : ℕ)
    → All (IsOverBy over) run → All (IsHandedBy over) (handed_by network run port class)
given_over network over run port class all =
    All-filter (λ (h : Handed). h.crossing.port == port && h.crossing.sent.class == class) (IsHandedBy over)
    (handed_from network 0 run) (run_handed_over network over 0 run all)

use Rattle.std.proofs.Common.{◌≡◌, ℕ, ◌+◌, List, [], ◌∷◌, ◌++◌, append_assoc, length, map, filter, refl, sym, ap, ◌∙◌}
use Rattle.std.proofs.Common.{arith, subst}
use Rattle.std.specs.Prelude.{◌==◌, ◌&&◌, Option, Some, None, slice_get, slice_index_or}
use Rattle.std.specs.List.{AllZip}
use Rattle.std.specs.Option.{option_map}
use Rattle.std.proofs.Math.ListN.{get_or-map}
use Rattle.std.proofs.lemmas.List.{map-append}
use Rattle.std.proofs.lemmas.Option.{slice_get-map}
use Rattle.std.proofs.lemmas.Simd.{map-map}
use Rattle.ats_num.specs.declared.time.Ps.{Ps}
use Rattle.ats_streams.specs.Branches.{branches_of}
use Rattle.ats_streams.specs.declared.branch.Branch.{Branch}
use Rattle.ats_network.specs.Sender.{Sender}
use Rattle.ats_network.specs.Network.{DeclaredNetwork}
use Rattle.ats_network.specs.Senders.{sender_at}
use Rattle.ats_group.specs.declared.verdict.Verdict.{Verdict}
use Rattle.ats_group.specs.declared.verdict.Verdict.TheVariants.{Eligible, Late, Size}
use Rattle.ats_port_rule.specs.Transmission.{Transmission}
use Rattle.ats_trace.specs.Journey.{Leg, Travel, class_at, IsSentOrEnds, IsWay, IsReleased, IsCopy, IsJourney, BeginsAs}
use Rattle.ats_trace.specs.Journey.{legs_at, legs_in, no_leg, record_at, trunk_at}
use Rattle.ats_trace.specs.Projections.{Hop, Crossing, Handed, transmission_by, transmission_of, hop_at, crossing_at}
use Rattle.ats_trace.specs.Projections.{handed_at, hops_along, crossings_along, handed_along, hops_over, crossings_over}
use Rattle.ats_trace.specs.Projections.{handed_over, journey_hops}
use Rattle.ats_trace.specs.Projections.{journey_crossings, journey_handed, hops_from, crossings_from, handed_from}
use Rattle.ats_trace.specs.Projections.{sent_by, crossings_by, handed_by}
use Rattle.ats_trace.specs.declared.journey.Release.{Release}
use Rattle.ats_trace.specs.HopRecord.{HopRecord}
use Rattle.ats_trace.specs.declared.journey.Ending.{Ending}
use Rattle.ats_trace.specs.declared.journey.Ending.TheVariants.{Sink, Discard}
use Rattle.ats_legal_law.specs.Later.{later_time, later_verdict, later_times, later_record, later_ending, later_release}
use Rattle.ats_legal_law.specs.Later.{later_leg, later_travel, later_run}
use Rattle.ats_legal_law.proofs.ListFacts.{filter_behind}

-- What a run tells that happens later, behind so many frames: the same, later, under the numbers behind theirs.

abbrev pub later_transmission : ℕ → ℕ → Transmission → Transmission
later_transmission more by x = record {
  frame = x.frame + more;
  sender = x.sender;
  class = x.class;
  bits = x.bits;
  eligible = x.eligible + by;
  start = x.start + by;
  end = x.end + by;
}

abbrev pub later_hop : ℕ → ℕ → Hop → Hop
later_hop more by h = record { port = h.port; sent = later_transmission more by h.sent }

abbrev pub later_crossing : ℕ → ℕ → Crossing → Crossing
later_crossing more by c = record {
  port = c.port;
  octets = c.octets;
  came = c.came + by;
  sent = later_transmission more by c.sent;
  arrival = c.arrival + by;
}

abbrev pub later_handed : ℕ → ℕ → Handed → Handed
later_handed more by h =
    record { crossing = later_crossing more by h.crossing; verdict = later_verdict by h.verdict }

-- at one port

hop_later : (more by frame : ℕ) (release : Release) (class port : ℕ) (verdict : Verdict) (sent : Option (Ps × Ps))
    → hop_at port (transmission_by (frame + more) (later_release by release) class (later_verdict by verdict)
    (later_times by sent))
    ≡ map (later_hop more by) (hop_at port (transmission_by frame release class verdict sent))
hop_later more by frame release class port (Eligible e) (Some times) = refl
hop_later more by frame release class port (Eligible e) None = refl
hop_later more by frame release class port (Late e) (Some times) = refl
hop_later more by frame release class port (Late e) None = refl
hop_later more by frame release class port Size (Some times) = refl
hop_later more by frame release class port Size None = refl

crossing_later : (more by frame : ℕ) (release : Release) (class came port : ℕ) (verdict : Verdict)
    (sent : Option (Ps × Ps)) (hops : List HopRecord) (ending : Ending)
    → crossing_at release.octets (came + by) port (transmission_by (frame + more) (later_release by release) class
    (later_verdict by verdict) (later_times by sent)) (map (later_record by) hops) (later_ending by ending)
    ≡ map (later_crossing more by)
    (crossing_at release.octets came port (transmission_by frame release class verdict sent) hops ending)
crossing_later more by frame release class came port (Eligible e) (Some times) (next ∷ hops) ending = refl
crossing_later more by frame release class came port (Eligible e) (Some times) [] (Sink at) = refl
crossing_later more by frame release class came port (Eligible e) (Some times) [] Discard = refl
crossing_later more by frame release class came port (Eligible e) None hops ending = refl
crossing_later more by frame release class came port (Late e) (Some times) hops ending = refl
crossing_later more by frame release class came port (Late e) None hops ending = refl
crossing_later more by frame release class came port Size (Some times) hops ending = refl
crossing_later more by frame release class came port Size None hops ending = refl

handed_later : (more by frame : ℕ) (release : Release) (class came port : ℕ) (verdict : Verdict)
    (sent : Option (Ps × Ps)) (hops : List HopRecord)
    → handed_at release.octets (came + by) port (transmission_by (frame + more) (later_release by release) class
    (later_verdict by verdict) (later_times by sent)) (map (later_record by) hops)
    ≡ map (later_handed more by)
    (handed_at release.octets came port (transmission_by frame release class verdict sent) hops)
handed_later more by frame release class came port (Eligible e) (Some times) (next ∷ hops) = refl
handed_later more by frame release class came port (Eligible e) (Some times) [] = refl
handed_later more by frame release class came port (Eligible e) None hops = refl
handed_later more by frame release class came port (Late e) (Some times) hops = refl
handed_later more by frame release class came port (Late e) None hops = refl
handed_later more by frame release class came port Size (Some times) hops = refl
handed_later more by frame release class came port Size None hops = refl

-- images of two pieces
pieces : {X Y : Type 0} (f : X → Y) (one two : List X) (first second : List Y) → first ≡ map f one
    → second ≡ map f two → first ++ second ≡ map f (one ++ two)
pieces f one two first second a b =
    ap (λ (l : List _). l ++ second) a ∙ ap (λ (l : List _). map f one ++ l) b ∙ sym (map-append f one two)

-- along a path

hops_later : (more by frame : ℕ) (release : Release) (sender : Sender) (path : List ℕ) (hops : List HopRecord)
    → hops_along (frame + more) (later_release by release) sender path (map (later_record by) hops)
    ≡ map (later_hop more by) (hops_along frame release sender path hops)
hops_later more by frame release sender [] hops = refl
hops_later more by frame release sender (p ∷ path) [] = refl
hops_later more by frame release sender (p ∷ path) (hop ∷ hops) =
    pieces (later_hop more by) (hop_at p (transmission_of frame release (class_at sender p) hop))
    (hops_along frame release sender path hops)
    (hop_at p (transmission_of (frame + more) (later_release by release) (class_at sender p) (later_record by hop)))
    (hops_along (frame + more) (later_release by release) sender path (map (later_record by) hops))
    (hop_later more by frame release (class_at sender p) p hop.verdict hop.sent)
    (hops_later more by frame release sender path hops)

crossings_later : (more by frame : ℕ) (release : Release) (sender : Sender) (path : List ℕ) (hops : List HopRecord)
    (ending : Ending)
    → crossings_along (frame + more) (later_release by release) sender path (map (later_record by) hops)
    (later_ending by ending)
    ≡ map (later_crossing more by) (crossings_along frame release sender path hops ending)
crossings_later more by frame release sender [] hops ending = refl
crossings_later more by frame release sender (p ∷ path) [] ending = refl
crossings_later more by frame release sender (p ∷ path) (hop ∷ hops) ending =
    pieces (later_crossing more by)
    (crossing_at release.octets hop.arrival.0 p (transmission_of frame release (class_at sender p) hop) hops ending)
    (crossings_along frame release sender path hops ending)
    (crossing_at release.octets (hop.arrival.0 + by) p
    (transmission_of (frame + more) (later_release by release) (class_at sender p) (later_record by hop))
    (map (later_record by) hops) (later_ending by ending))
    (crossings_along (frame + more) (later_release by release) sender path (map (later_record by) hops)
    (later_ending by ending))
    (crossing_later more by frame release (class_at sender p) hop.arrival.0 p hop.verdict hop.sent hops ending)
    (crossings_later more by frame release sender path hops ending)

all_handed_later : (more by frame : ℕ) (release : Release) (sender : Sender) (path : List ℕ) (hops : List HopRecord)
    → handed_along (frame + more) (later_release by release) sender path (map (later_record by) hops)
    ≡ map (later_handed more by) (handed_along frame release sender path hops)
all_handed_later more by frame release sender [] hops = refl
all_handed_later more by frame release sender (p ∷ path) [] = refl
all_handed_later more by frame release sender (p ∷ path) (hop ∷ hops) =
    pieces (later_handed more by)
    (handed_at release.octets hop.arrival.0 p (transmission_of frame release (class_at sender p) hop) hops)
    (handed_along frame release sender path hops)
    (handed_at release.octets (hop.arrival.0 + by) p
    (transmission_of (frame + more) (later_release by release) (class_at sender p) (later_record by hop))
    (map (later_record by) hops))
    (handed_along (frame + more) (later_release by release) sender path (map (later_record by) hops))
    (handed_later more by frame release (class_at sender p) hop.arrival.0 p hop.verdict hop.sent hops)
    (all_handed_later more by frame release sender path hops)

-- along legs

legs_hops_later : (more by frame : ℕ) (release : Release) (sender : Sender) (paths : List (List ℕ)) (legs : List Leg)
    → hops_over (frame + more) (later_release by release) sender paths (map (later_leg by) legs)
    ≡ map (later_hop more by) (hops_over frame release sender paths legs)
legs_hops_later more by frame release sender [] legs = refl
legs_hops_later more by frame release sender (path ∷ paths) [] = refl
legs_hops_later more by frame release sender (path ∷ paths) (leg ∷ legs) =
    pieces (later_hop more by) (hops_along frame release sender path leg.hops)
    (hops_over frame release sender paths legs)
    (hops_along (frame + more) (later_release by release) sender path (map (later_record by) leg.hops))
    (hops_over (frame + more) (later_release by release) sender paths (map (later_leg by) legs))
    (hops_later more by frame release sender path leg.hops)
    (legs_hops_later more by frame release sender paths legs)

legs_crossings_later : (more by frame : ℕ) (release : Release) (sender : Sender) (paths : List (List ℕ))
    (legs : List Leg)
    → crossings_over (frame + more) (later_release by release) sender paths (map (later_leg by) legs)
    ≡ map (later_crossing more by) (crossings_over frame release sender paths legs)
legs_crossings_later more by frame release sender [] legs = refl
legs_crossings_later more by frame release sender (path ∷ paths) [] = refl
legs_crossings_later more by frame release sender (path ∷ paths) (leg ∷ legs) =
    pieces (later_crossing more by) (crossings_along frame release sender path leg.hops leg.ending)
    (crossings_over frame release sender paths legs)
    (crossings_along (frame + more) (later_release by release) sender path (map (later_record by) leg.hops)
    (later_ending by leg.ending))
    (crossings_over (frame + more) (later_release by release) sender paths (map (later_leg by) legs))
    (crossings_later more by frame release sender path leg.hops leg.ending)
    (legs_crossings_later more by frame release sender paths legs)

legs_handed_later : (more by frame : ℕ) (release : Release) (sender : Sender) (paths : List (List ℕ)) (legs : List Leg)
    → handed_over (frame + more) (later_release by release) sender paths (map (later_leg by) legs)
    ≡ map (later_handed more by) (handed_over frame release sender paths legs)
legs_handed_later more by frame release sender [] legs = refl
legs_handed_later more by frame release sender (path ∷ paths) [] = refl
legs_handed_later more by frame release sender (path ∷ paths) (leg ∷ legs) =
    pieces (later_handed more by) (handed_along frame release sender path leg.hops)
    (handed_over frame release sender paths legs)
    (handed_along (frame + more) (later_release by release) sender path (map (later_record by) leg.hops))
    (handed_over (frame + more) (later_release by release) sender paths (map (later_leg by) legs))
    (all_handed_later more by frame release sender path leg.hops)
    (legs_handed_later more by frame release sender paths legs)

-- of a run

run_hops_later : (network : DeclaredNetwork) (more by n : ℕ) (run : List Travel)
    → hops_from network (n + more) (later_run by run) ≡ map (later_hop more by) (hops_from network n run)
run_hops_later network more by n [] = refl
run_hops_later network more by n (j ∷ run) =
    let s : Sender = sender_at network j.release.sender in
    let next : n + more + 1 ≡ n + 1 + more = omega arith in
    pieces (later_hop more by) (journey_hops network n j) (hops_from network (n + 1) run)
    (journey_hops network (n + more) (later_travel by j)) (hops_from network (n + more + 1) (later_run by run))
    (legs_hops_later more by n j.release s (legs_at network j.release.sender) (legs_in j))
    (ap (λ (m : ℕ). hops_from network m (later_run by run)) next ∙ run_hops_later network more by (n + 1) run)

run_crossings_later : (network : DeclaredNetwork) (more by n : ℕ) (run : List Travel)
    → crossings_from network (n + more) (later_run by run)
    ≡ map (later_crossing more by) (crossings_from network n run)
run_crossings_later network more by n [] = refl
run_crossings_later network more by n (j ∷ run) =
    let s : Sender = sender_at network j.release.sender in
    let next : n + more + 1 ≡ n + 1 + more = omega arith in
    pieces (later_crossing more by) (journey_crossings network n j) (crossings_from network (n + 1) run)
    (journey_crossings network (n + more) (later_travel by j))
    (crossings_from network (n + more + 1) (later_run by run))
    (legs_crossings_later more by n j.release s (legs_at network j.release.sender) (legs_in j))
    (ap (λ (m : ℕ). crossings_from network m (later_run by run)) next
    ∙ run_crossings_later network more by (n + 1) run)

run_handed_later : (network : DeclaredNetwork) (more by n : ℕ) (run : List Travel)
    → handed_from network (n + more) (later_run by run) ≡ map (later_handed more by) (handed_from network n run)
run_handed_later network more by n [] = refl
run_handed_later network more by n (j ∷ run) =
    let s : Sender = sender_at network j.release.sender in
    let next : n + more + 1 ≡ n + 1 + more = omega arith in
    pieces (later_handed more by) (journey_handed network n j) (handed_from network (n + 1) run)
    (journey_handed network (n + more) (later_travel by j)) (handed_from network (n + more + 1) (later_run by run))
    (legs_handed_later more by n j.release s (legs_at network j.release.sender) (legs_in j))
    (ap (λ (m : ℕ). handed_from network m (later_run by run)) next ∙ run_handed_later network more by (n + 1) run)

-- what is listed of each frame with its number is listed of two runs one behind the other
joined : {X : Type 0} (from : ℕ → List Travel → List X) (own : ℕ → Travel → List X)
    → ((n : ℕ) → from n [] ≡ [])
    → ((n : ℕ) (j : Travel) (run : List Travel) → from n (j ∷ run) ≡ own n j ++ from (n + 1) run)
    → (n m : ℕ) (first second : List Travel) → m ≡ n + length first
    → from n (first ++ second) ≡ from n first ++ from m second
joined from own none step n m [] second e =
    let same : n ≡ m = omega arith in
    ap (λ (i : ℕ). from i second) same ∙ ap (λ (l : List _). l ++ from m second) (sym (none n))
joined from own none step n m (j ∷ first) second e =
    step n j (first ++ second)
    ∙ ap (λ (l : List _). own n j ++ l) (joined from own none step (n + 1) m first second (omega arith))
    ∙ sym (append_assoc (own n j) (from (n + 1) first) (from m second))
    ∙ ap (λ (l : List _). l ++ from m second) (sym (step n j first))

-- so of a run, and one behind it that happens later

hops_in_turn : (network : DeclaredNetwork) (by : ℕ) (first second : List Travel)
    → hops_from network 0 (first ++ later_run by second)
    ≡ hops_from network 0 first ++ map (later_hop (length first) by) (hops_from network 0 second)
hops_in_turn network by first second =
    joined (hops_from network) (journey_hops network) (λ n. refl) (λ n j run. refl) 0 (0 + length first) first
    (later_run by second) refl
    ∙ ap (λ (l : List Hop). hops_from network 0 first ++ l) (run_hops_later network (length first) by 0 second)

crossings_in_turn : (network : DeclaredNetwork) (by : ℕ) (first second : List Travel)
    → crossings_from network 0 (first ++ later_run by second)
    ≡ crossings_from network 0 first ++ map (later_crossing (length first) by) (crossings_from network 0 second)
crossings_in_turn network by first second =
    joined (crossings_from network) (journey_crossings network) (λ n. refl) (λ n j run. refl) 0 (0 + length first) first
    (later_run by second) refl
    ∙ ap (λ (l : List Crossing). crossings_from network 0 first ++ l)
    (run_crossings_later network (length first) by 0 second)

handed_in_turn : (network : DeclaredNetwork) (by : ℕ) (first second : List Travel)
    → handed_from network 0 (first ++ later_run by second)
    ≡ handed_from network 0 first ++ map (later_handed (length first) by) (handed_from network 0 second)
handed_in_turn network by first second =
    joined (handed_from network) (journey_handed network) (λ n. refl) (λ n j run. refl) 0 (0 + length first) first
    (later_run by second) refl
    ∙ ap (λ (l : List Handed). handed_from network 0 first ++ l) (run_handed_later network (length first) by 0 second)

pub sent_in_turn : (network : DeclaredNetwork) (by : ℕ) (first second : List Travel) (port : ℕ)
    → sent_by network (first ++ later_run by second) port
    ≡ sent_by network first port ++ map (later_transmission (length first) by) (sent_by network second port)
sent_in_turn network by first second port =
    let test = λ (h : Hop). h.port == port in
    let sent = λ (h : Hop). h.sent in
    let moved = later_hop (length first) by in
    let one : List Hop = filter test (hops_from network 0 first) in
    let two : List Hop = filter test (hops_from network 0 second) in
    ap (λ (l : List Hop). map sent (filter test l)) (hops_in_turn network by first second)
    ∙ ap (λ (l : List Hop). map sent l)
    (filter_behind test moved (λ h. refl) (hops_from network 0 first) (hops_from network 0 second))
    ∙ map-append sent one (map moved two)
    ∙ ap (λ (l : List Transmission). map sent one ++ l)
    (map-map sent moved two ∙ sym (map-map (later_transmission (length first) by) sent two))

pub crossed_in_turn : (network : DeclaredNetwork) (by : ℕ) (first second : List Travel) (port : ℕ)
    → crossings_by network (first ++ later_run by second) port
    ≡ crossings_by network first port ++ map (later_crossing (length first) by) (crossings_by network second port)
crossed_in_turn network by first second port =
    let test = λ (c : Crossing). c.port == port in
    ap (λ (l : List Crossing). filter test l) (crossings_in_turn network by first second)
    ∙ filter_behind test (later_crossing (length first) by) (λ c. refl) (crossings_from network 0 first)
    (crossings_from network 0 second)

pub given_in_turn : (network : DeclaredNetwork) (by : ℕ) (first second : List Travel) (port class : ℕ)
    → handed_by network (first ++ later_run by second) port class
    ≡ handed_by network first port class ++ map (later_handed (length first) by) (handed_by network second port class)
given_in_turn network by first second port class =
    let test = λ (h : Handed). h.crossing.port == port && h.crossing.sent.class == class in
    ap (λ (l : List Handed). filter test l) (handed_in_turn network by first second)
    ∙ filter_behind test (later_handed (length first) by) (λ h. refl) (handed_from network 0 first)
    (handed_from network 0 second)

-- a journey, later

sent_later : (by : ℕ) (path : List ℕ) (verdict : Verdict) (sent : Option (Ps × Ps)) (hops : List HopRecord)
    (ending : Ending)
    → (IsWay path hops ending → IsWay path (map (later_record by) hops) (later_ending by ending))
    → IsSentOrEnds (IsWay path hops ending) verdict sent hops ending
    → IsSentOrEnds (IsWay path (map (later_record by) hops) (later_ending by ending)) (later_verdict by verdict)
    (later_times by sent) (map (later_record by) hops) (later_ending by ending)
sent_later by path (Eligible e) (Some times) hops ending rest way = rest way
sent_later by path (Eligible e) None hops ending rest way = absurd way
sent_later by path (Late e) (Some times) hops ending rest way = absurd way
sent_later by path (Late e) None hops ending rest way =
    (ap (λ (l : List HopRecord). map (later_record by) l) way.0, ap (later_ending by) way.1)
sent_later by path Size (Some times) hops ending rest way = absurd way
sent_later by path Size None hops ending rest way =
    (ap (λ (l : List HopRecord). map (later_record by) l) way.0, ap (later_ending by) way.1)

way_later : (by : ℕ) (path : List ℕ) (hops : List HopRecord) (ending : Ending) → IsWay path hops ending
    → IsWay path (map (later_record by) hops) (later_ending by ending)
way_later by [] [] (Sink at) way = tt
way_later by [] [] Discard way = absurd way
way_later by [] (hop ∷ hops) ending way = absurd way
way_later by (p ∷ path) [] ending way = absurd way
way_later by (p ∷ path) (hop ∷ hops) ending way =
    sent_later by path hop.verdict hop.sent hops ending (way_later by path hops ending) way

released_later : (by : ℕ) (release : Release) (hops : List HopRecord) → IsReleased release hops
    → IsReleased (later_release by release) (map (later_record by) hops)
released_later by release [] released = absurd released
released_later by release (hop ∷ hops) released =
    (ap (later_time by) released.0, ap (later_verdict by) released.1)

-- the record where a branch begins, later
record_later : (by : ℕ) (legs : List Leg) (b : Branch)
    → record_at (map (later_leg by) legs) b ≡ option_map (later_record by) (record_at legs b)
record_later by legs b =
    ap (λ (leg : Leg). slice_get leg.hops b.hop) (get_or-map (later_leg by) legs b.leg no_leg)
    ∙ slice_get-map (later_record by) (slice_index_or legs b.leg no_leg).hops b.hop

begins_later : (by : ℕ) (start : HopRecord) (hops : List HopRecord) → BeginsAs start hops
    → BeginsAs (later_record by start) (map (later_record by) hops)
begins_later by start [] begins = absurd begins
begins_later by start (hop ∷ hops) begins = (ap (later_time by) begins.0, ap (later_verdict by) begins.1)

copy_later : (by : ℕ) (start : Option HopRecord) (path : List ℕ) (leg : Leg) → IsCopy start path leg
    → IsCopy (option_map (later_record by) start) path (later_leg by leg)
copy_later by (Some start) path leg is =
    (begins_later by start leg.hops is.0, way_later by path leg.hops leg.ending is.1)
copy_later by None path leg is =
    (ap (λ (l : List HopRecord). map (later_record by) l) is.0, ap (later_ending by) is.1)

copies_later : (by : ℕ) (told : List Leg) (branches : List (Branch × List ℕ)) (legs : List Leg)
    → AllZip (λ (branch : Branch × List ℕ) (leg : Leg). IsCopy (record_at told branch.0) branch.1 leg) branches legs
    → AllZip
    (λ (branch : Branch × List ℕ) (leg : Leg). IsCopy (record_at (map (later_leg by) told) branch.0) branch.1 leg)
    branches (map (later_leg by) legs)
copies_later by told [] [] are = tt
copies_later by told [] (leg ∷ legs) are = absurd are
copies_later by told (branch ∷ branches) [] are = absurd are
copies_later by told (branch ∷ branches) (leg ∷ legs) are = (
  subst (λ (start : Option HopRecord). IsCopy start branch.1 (later_leg by leg)) (sym (record_later by told branch.0))
      (copy_later by (record_at told branch.0) branch.1 leg are.0),
  copies_later by told branches legs are.1,
)

pub journey_later : (network : DeclaredNetwork) (by : ℕ) (j : Travel) → IsJourney network j
    → IsJourney network (later_travel by j)
journey_later network by j is =
    let s : Sender = sender_at network j.release.sender in
    record {
      sender = is.sender;
      octets = is.octets;
      way = way_later by (trunk_at network j.release.sender) j.hops j.ending is.way;
      released = released_later by j.release j.hops is.released;
      copies = copies_later by (legs_in j) (branches_of s.ports s.branches) j.copies is.copies;
    }

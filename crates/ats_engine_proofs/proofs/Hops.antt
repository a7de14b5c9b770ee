use Rattle.std.proofs.Common.{◌≡◌, ℕ, zero, suc, ◌+◌, ◌<◌, ◌≤◌, List, [], ◌∷◌, filter, length, map, get_or}
use Rattle.std.proofs.Common.{subst, arith, All}
use Rattle.std.specs.Prelude.{◌≢◌, ◌==◌, AllPairs, Option, Some, None}
use Rattle.std.specs.List.{flat_map}
use Rattle.std.proofs.lemmas.Bool.{eqb-true}
use Rattle.std.proofs.lemmas.List.{get_or_default}
use Rattle.std.proofs.lemmas.List.Elements.{All-nil, All-cons, All-head, All-tail, All-append, All-filter, All-map}
use Rattle.std.proofs.lemmas.List.Elements.{filter_passes}
use Rattle.ats_facts.proofs.Lists.{pairs_head, pairs_tail}
use Rattle.ats_num.specs.declared.time.Ps.{Ps}
use Rattle.ats_num.specs.Wire.{bits_of}
use Rattle.ats_network.specs.Class.{class_at}
use Rattle.ats_network.specs.Network.{DeclaredNetwork}
use Rattle.ats_network.specs.Sender.{Sender}
use Rattle.ats_group.specs.declared.verdict.Verdict.{Verdict}
use Rattle.ats_group.specs.declared.verdict.Verdict.TheVariants.{Eligible, Late, Size}
use Rattle.ats_port_rule.specs.Transmission.{Transmission}
use Rattle.ats_trace.specs.Projections.{Hop, transmission_by, transmission_of, hop_at, hops_along}
use Rattle.ats_trace.specs.declared.journey.Release.{Release}
use Rattle.ats_trace.specs.HopRecord.{HopRecord}
use Rattle.ats_run_records.specs.Progress.{Progress, progress_at, no_progress}
use Rattle.ats_engine_steps.specs.Course.{Course, leg_hops, sent_so_far}
use Rattle.ats_engine_steps.specs.Frames.{Stands}
use Rattle.ats_engine_proofs.proofs.Placed.{stands-at_most}

-- what holds of each transmission that a frame may make at a port
abbrev pub AtPort : (Hop → Type 0) → ℕ → Release → Sender → ℕ → Type 0
AtPort P frame release sender port = (e : Ps) (times : Ps × Ps) → P (record {
  port = port;
  sent = record {
    frame = frame;
    sender = release.sender;
    class = class_at sender port;
    bits = bits_of release.octets;
    eligible = e.0;
    start = times.0.0;
    end = times.1.0;
  };
})

-- holds of the one that its record there tells of
pub one_hop : (P : Hop → Type 0) (frame : ℕ) (release : Release) (sender : Sender) (port : ℕ)
    (verdict : Verdict) (sent : Option (Ps × Ps)) → AtPort P frame release sender port
    → All P (hop_at port (transmission_by frame release (class_at sender port) verdict sent))
one_hop P frame release sender port (Eligible e) (Some times) each =
    All-cons P _ [] (each e times) (All-nil P)
one_hop P frame release sender port (Eligible e) None each = All-nil P
one_hop P frame release sender port (Late e) sent each = All-nil P
one_hop P frame release sender port Size sent each = All-nil P

-- and so, where it holds at each port of a path, of each along it
pub all_hops : (P : Hop → Type 0) (frame : ℕ) (release : Release) (sender : Sender) (path : List ℕ)
    (hops : List HopRecord) → All (AtPort P frame release sender) path
    → All P (hops_along frame release sender path hops)
all_hops P frame release sender [] hops each = All-nil P
all_hops P frame release sender (p ∷ path) [] each = All-nil P
all_hops P frame release sender (p ∷ path) (hop ∷ hops) each =
    All-append P (hop_at p (transmission_of frame release (class_at sender p) hop))
    (hops_along frame release sender path hops)
    (one_hop P frame release sender p hop.verdict hop.sent
    (All-head (AtPort P frame release sender) p path each))
    (all_hops P frame release sender path hops (All-tail (AtPort P frame release sender) p path each))

-- a record without a transmission tells of none
none_sent : (P : Hop → Type 0) (frame port class : ℕ) (release : Release) (verdict : Verdict)
    (sent : Option (Ps × Ps)) → sent ≡ None → All P (hop_at port (transmission_by frame release class verdict sent))
none_sent P frame port class release verdict (Some times) e = absurd (let no : Some times ≡ None = e in cc)
none_sent P frame port class release (Eligible e) None is = All-nil P
none_sent P frame port class release (Late e) None is = All-nil P
none_sent P frame port class release Size None is = All-nil P

-- nor does a frame's way where there is no record
no_more_hops : (P : Hop → Type 0) (frame : ℕ) (release : Release) (sender : Sender) (path : List ℕ)
    → All P (hops_along frame release sender path [])
no_more_hops P frame release sender [] = All-nil P
no_more_hops P frame release sender (p ∷ path) = All-nil P

-- a frame whose last record is without a transmission was not sent by the port of that record
pub not_sent_last : (Last : HopRecord → Type 0) (frame : ℕ) (release : Release) (sender : Sender) (path : List ℕ)
    (hops : List HopRecord) (last : ℕ) → length hops ≡ last + 1 → ((hop : HopRecord) → Last hop → hop.sent ≡ None)
    → AllPairs (λ (p q : ℕ). p ≢ q) path → Stands Last path hops
    → All (λ (h : Hop). h.port ≢ get_or path last 0) (hops_along frame release sender path hops)
not_sent_last Last frame release sender [] hops last many none apart stands = elim stands [ ]
not_sent_last Last frame release sender (p ∷ path) [] last many none apart stands = elim stands [ ]
not_sent_last Last frame release sender (p ∷ path) (hop ∷ []) zero many none apart stands =
    let P : Hop → Type 0 = λ (h : Hop). h.port ≢ p in
    All-append P (hop_at p (transmission_of frame release (class_at sender p) hop))
    (hops_along frame release sender path [])
    (none_sent P frame p (class_at sender p) release hop.verdict hop.sent (none hop stands))
    (no_more_hops P frame release sender path)
not_sent_last Last frame release sender (p ∷ path) (hop ∷ []) (suc last) many none apart stands = absurd (omega arith)
not_sent_last Last frame release sender (p ∷ path) (hop ∷ next ∷ hops) zero many none apart stands =
    absurd (omega arith)
not_sent_last Last frame release sender (p ∷ path) (hop ∷ next ∷ hops) (suc last) many none apart stands =
    let P : Hop → Type 0 = λ (h : Hop). h.port ≢ get_or path last 0 in
    let within : length (next ∷ hops) ≤ length path = stands-at_most Last path (next ∷ hops) stands.1 in
    let later : p ≢ get_or path last 0 =
    pairs_head (λ (p q : ℕ). p ≢ q) p path apart last 0 (omega arith) in
    All-append P (hop_at p (transmission_of frame release (class_at sender p) hop))
    (hops_along frame release sender path (next ∷ hops))
    (one_hop P frame release sender p hop.verdict hop.sent (λ e times. later))
    (not_sent_last Last frame release sender path (next ∷ hops) last (omega arith) none
    (pairs_tail (λ (p q : ℕ). p ≢ q) p path apart) stands.1)

-- what holds of the transmissions along each leg holds of those along all
pub of_legs : (P : Hop → Type 0) (network : DeclaredNetwork) (legs : List Progress)
    → All (λ (p : Progress). All P (leg_hops network p)) legs → All P (flat_map (leg_hops network) legs)
of_legs P network [] each = All-nil P
of_legs P network (p ∷ legs) each =
    let Each : Progress → Type 0 = λ (p : Progress). All P (leg_hops network p) in
    All-append P (leg_hops network p) (flat_map (leg_hops network) legs) (All-head Each p legs each)
    (of_legs P network legs (All-tail Each p legs each))

-- so of those of a port
pub of_port : (Q : Transmission → Type 0) (hops : List Hop) (port : ℕ)
    → All (λ (h : Hop). h.port ≡ port → Q h.sent) hops
    → All Q (map (λ (h : Hop). h.sent) (filter (λ (h : Hop). h.port == port) hops))
of_port Q hops port all =
    let P : Hop → Type 0 = λ (h : Hop). h.port ≡ port → Q h.sent in
    let here : List Hop = filter (λ (h : Hop). h.port == port) hops in
    All-map Q (λ (h : Hop). h.sent) here (λ k d h.
    All-filter (λ (h : Hop). h.port == port) P hops all k d h
    (eqb-true (get_or here k d).port port (filter_passes (λ (h : Hop). h.port == port) hops k d h)))

-- what holds of each transmission along each leg holds of those of a port in the run so far
pub of_rows : {T : Type 0} (Q : Transmission → Type 0) (network : DeclaredNetwork) (course : Course T) (port : ℕ)
    → ((row : ℕ) → row < length course.records
    → All (λ (h : Hop). h.port ≡ port → Q h.sent) (leg_hops network (progress_at course.records row)))
    → All Q (sent_so_far network course port)
of_rows Q network course port each =
    let P : Hop → Type 0 = λ (h : Hop). h.port ≡ port → Q h.sent in
    of_port Q (flat_map (leg_hops network) course.records) port
    (of_legs P network course.records (λ k d h.
    subst (λ (p : Progress). All P (leg_hops network p)) (get_or_default course.records k no_progress d h)
    (each k h)))

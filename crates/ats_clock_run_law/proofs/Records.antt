-- What is told of a run, record by record: a transmission of each frame at each port that it was sent from, and a frame
-- handed on for each two records of a leg, one after the other.
use Rattle.std.proofs.Common.{◌≡◌, ℕ, zero, suc, ◌+◌, ◌<◌, Bool, List, [], ◌∷◌, length, get_or, All, refl, ap, subst}
use Rattle.std.proofs.Common.{◌∙◌, arith, eqb, filter}
use Rattle.std.specs.Prelude.{Option, Some, None, ◌&&◌}
use Rattle.std.specs.List.{slice_get}
use Rattle.std.proofs.lemmas.Bool.{and_parts, eqb-true}
use Rattle.std.proofs.lemmas.List.Elements.{All-append, All-cons, All-filter, All-head, All-map, All-nil, filter_passes}
use Rattle.ats_facts.proofs.Lists.{all_left, all_right}
use Rattle.ats_num.specs.declared.time.Ps.{Ps}
use Rattle.ats_num.specs.Wire.{bits_of}
use Rattle.ats_streams.specs.Branches.{leg_at}
use Rattle.ats_network.specs.Network.{DeclaredNetwork}
use Rattle.ats_network.specs.Sender.{Sender}
use Rattle.ats_network.specs.Senders.{sender_at}
use Rattle.ats_group.specs.declared.verdict.Verdict.{Verdict}
use Rattle.ats_group.specs.declared.verdict.Verdict.TheVariants.{Eligible, Late, Size}
use Rattle.ats_port_rule.specs.Transmission.{Transmission}
use Rattle.ats_trace.specs.HopRecord.{HopRecord}
use Rattle.ats_trace.specs.Journey.{Leg, Travel, class_at, legs_at, legs_in, no_leg}
use Rattle.ats_trace.specs.Projections.{Hop, Handed, crossing_of, handed_along, handed_at, handed_by, handed_from}
use Rattle.ats_trace.specs.Projections.{handed_over}
use Rattle.ats_trace.specs.Projections.{hop_at, hops_along, hops_from, hops_over, journey_handed, journey_hops}
use Rattle.ats_trace.specs.Projections.{sent_by, transmission_by, transmission_of}
use Rattle.ats_trace.specs.Stored.{no_travel, travel_at}
use Rattle.ats_trace.specs.declared.journey.Release.{Release}

-- the transmission of a frame, eligible and sent at these times
abbrev pub sent_at : ℕ → Release → ℕ → Ps → Ps × Ps → Transmission
sent_at frame release class e times = record {
  frame = frame;
  sender = release.sender;
  class = class;
  bits = bits_of release.octets;
  eligible = e.0;
  start = times.0.0;
  end = times.1.0;
}

-- at a hop of a path
abbrev pub hop_on : ℕ → Release → Sender → List ℕ → ℕ → Ps → Ps × Ps → Hop
hop_on frame release s path hop e times = record {
  port = get_or path hop 0;
  sent = sent_at frame release (class_at s (get_or path hop 0)) e times;
}

-- and handed on to where this record stands
abbrev pub handed_on : ℕ → Release → Sender → List ℕ → ℕ → Ps → Ps × Ps → HopRecord → HopRecord → Handed
handed_on frame release s path hop e times own next = record {
  crossing = crossing_of release.octets own.arrival.0 (get_or path hop 0)
      (sent_at frame release (class_at s (get_or path hop 0)) e times) next.arrival.0;
  verdict = next.verdict;
}

-- a record of an eligible frame that was sent
pub record IsSent (own : HopRecord) (e : Ps) (times : Ps × Ps) : Type 0 where
  pub verdict : own.verdict ≡ Eligible e
  pub sent : own.sent ≡ Some times

-- what holds of each transmission along a path
abbrev pub EachSent : (Hop → Type 0) → ℕ → Release → Sender → List ℕ → List HopRecord → Type 0
EachSent P frame release s path hops =
    (hop : ℕ) (own : HopRecord) (e : Ps) (times : Ps × Ps) → hop < length path → slice_get hops hop ≡ Some own
    → IsSent own e times → P (hop_on frame release s path hop e times)

-- and of each frame handed on
abbrev pub EachHanded : (Handed → Type 0) → ℕ → Release → Sender → List ℕ → List HopRecord → Type 0
EachHanded P frame release s path hops =
    (hop : ℕ) (own next : HopRecord) (e : Ps) (times : Ps × Ps) → hop < length path → slice_get hops hop ≡ Some own
    → slice_get hops (suc hop) ≡ Some next → IsSent own e times
    → P (handed_on frame release s path hop e times own next)

sent_along : (P : Hop → Type 0) (frame : ℕ) (release : Release) (s : Sender) (path : List ℕ) (hops : List HopRecord)
    → EachSent P frame release s path hops → All P (hops_along frame release s path hops)
sent_along P frame release s [] hops each = All-nil P
sent_along P frame release s (p ∷ path) [] each = All-nil P
sent_along P frame release s (p ∷ path) (own ∷ hops) each =
    All-append P (hop_at p (transmission_of frame release (class_at s p) own)) (hops_along frame release s path hops)
    (one own.verdict own.sent (λ e times v t. each 0 own e times (omega arith) refl (record { verdict = v; sent = t })))
    (sent_along P frame release s path hops
    (λ hop other e times within at is. each (suc hop) other e times (omega (arith, within)) at is))
  where
    one : (v : Verdict) (sent : Option (Ps × Ps))
        → ((e : Ps) (times : Ps × Ps) → v ≡ Eligible e → sent ≡ Some times
        → P (record { port = p; sent = sent_at frame release (class_at s p) e times }))
        → All P (hop_at p (transmission_by frame release (class_at s p) v sent))
    one (Eligible e) (Some times) here =
        All-cons P (record { port = p; sent = sent_at frame release (class_at s p) e times }) []
        (here e times refl refl) (All-nil P)
    one (Eligible e) None here = All-nil P
    one (Late e) sent here = All-nil P
    one Size sent here = All-nil P

handed_along_path : (P : Handed → Type 0) (frame : ℕ) (release : Release) (s : Sender) (path : List ℕ)
    (hops : List HopRecord) → EachHanded P frame release s path hops → All P (handed_along frame release s path hops)
handed_along_path P frame release s [] hops each = All-nil P
handed_along_path P frame release s (p ∷ path) [] each = All-nil P
handed_along_path P frame release s (p ∷ path) (own ∷ hops) each =
    All-append P (handed_at release.octets own.arrival.0 p (transmission_of frame release (class_at s p) own) hops)
    (handed_along frame release s path hops)
    (one own.verdict own.sent hops
    (λ e times next at v t. each 0 own next e times (omega arith) refl at (record { verdict = v; sent = t })))
    (handed_along_path P frame release s path hops
    (λ hop other next e times within at behind is.
    each (suc hop) other next e times (omega (arith, within)) at behind is))
  where
    handed : Ps → Ps × Ps → HopRecord → Handed
    handed e times next = record {
      crossing = crossing_of release.octets own.arrival.0 p (sent_at frame release (class_at s p) e times)
          next.arrival.0;
      verdict = next.verdict;
    }

    one : (v : Verdict) (sent : Option (Ps × Ps)) (hops : List HopRecord)
        → ((e : Ps) (times : Ps × Ps) (next : HopRecord) → slice_get hops 0 ≡ Some next → v ≡ Eligible e
        → sent ≡ Some times → P (handed e times next))
        → All P (handed_at release.octets own.arrival.0 p (transmission_by frame release (class_at s p) v sent) hops)
    one (Eligible e) (Some times) [] here = All-nil P
    one (Eligible e) (Some times) (next ∷ rest) here =
        All-cons P (handed e times next) [] (here e times next refl refl refl) (All-nil P)
    one (Eligible e) None hops here = All-nil P
    one (Late e) sent hops here = All-nil P
    one Size sent hops here = All-nil P

-- and the other way round
handed_there : (P : Handed → Type 0) (frame : ℕ) (release : Release) (s : Sender) (path : List ℕ)
    (hops : List HopRecord) → All P (handed_along frame release s path hops) → EachHanded P frame release s path hops
handed_there P frame release s [] hops all hop own next e times within at behind is = absurd (omega (arith, within))
handed_there P frame release s (p ∷ path) [] all hop own next e times within at behind is = absurd (nothing at)
  where
    nothing : None ≡ Some own → ⊥
    nothing h = cc
handed_there P frame release s (p ∷ path) (first ∷ []) all zero own next e times within at behind is =
    absurd (nothing behind)
  where
    nothing : None ≡ Some next → ⊥
    nothing h = cc
handed_there P frame release s (p ∷ path) (first ∷ second ∷ hops) all zero own next e times within at behind is =
    subst (λ (r : HopRecord). P (handed_on frame release s (p ∷ path) 0 e times own r)) (inside second next behind)
    (subst (λ (r : HopRecord). P (handed_on frame release s (p ∷ path) 0 e times r second)) (inside first own at)
    (one first.verdict first.sent (ap (λ (r : HopRecord). r.verdict) (inside first own at) ∙ is.verdict)
    (ap (λ (r : HopRecord). r.sent) (inside first own at) ∙ is.sent)
    (all_left P
    (handed_at release.octets first.arrival.0 p (transmission_of frame release (class_at s p) first) (second ∷ hops))
    (handed_along frame release s path (second ∷ hops)) all)))
  where
    inside : (a b : HopRecord) → Some a ≡ Some b → a ≡ b
    inside a b h = cc

    one : (v : Verdict) (sent : Option (Ps × Ps)) → v ≡ Eligible e → sent ≡ Some times
        → All P (handed_at release.octets first.arrival.0 p
        (transmission_by frame release (class_at s p) v sent) (second ∷ hops))
        → P (handed_on frame release s (p ∷ path) 0 e times first second)
    one v sent v_is sent_is all =
        All-head P (handed_on frame release s (p ∷ path) 0 e times first second) []
        (subst (λ (o : Option (Ps × Ps)). All P (handed_at release.octets first.arrival.0 p
        (transmission_by frame release (class_at s p) (Eligible e) o) (second ∷ hops))) sent_is
        (subst (λ (w : Verdict). All P (handed_at release.octets first.arrival.0 p
        (transmission_by frame release (class_at s p) w sent) (second ∷ hops))) v_is all))
handed_there P frame release s (p ∷ path) (first ∷ hops) all (suc hop) own next e times within at behind is =
    handed_there P frame release s path hops
    (all_right P
    (handed_at release.octets first.arrival.0 p (transmission_of frame release (class_at s p) first) hops)
    (handed_along frame release s path hops) all)
    hop own next e times (omega (arith, within)) at behind is

-- along legs

sent_over : (P : Hop → Type 0) (frame : ℕ) (release : Release) (s : Sender) (paths : List (List ℕ))
    (legs : List Leg)
    → ((leg : ℕ) → leg < length paths → leg < length legs
    → EachSent P frame release s (leg_at paths leg) (get_or legs leg no_leg).hops)
    → All P (hops_over frame release s paths legs)
sent_over P frame release s [] legs each = All-nil P
sent_over P frame release s (path ∷ paths) [] each = All-nil P
sent_over P frame release s (path ∷ paths) (leg ∷ legs) each =
    All-append P (hops_along frame release s path leg.hops) (hops_over frame release s paths legs)
    (sent_along P frame release s path leg.hops (each 0 (omega arith) (omega arith)))
    (sent_over P frame release s paths legs
    (λ n in_paths in_legs. each (suc n) (omega (arith, in_paths)) (omega (arith, in_legs))))

handed_over_legs : (P : Handed → Type 0) (frame : ℕ) (release : Release) (s : Sender) (paths : List (List ℕ))
    (legs : List Leg)
    → ((leg : ℕ) → leg < length paths → leg < length legs
    → EachHanded P frame release s (leg_at paths leg) (get_or legs leg no_leg).hops)
    → All P (handed_over frame release s paths legs)
handed_over_legs P frame release s [] legs each = All-nil P
handed_over_legs P frame release s (path ∷ paths) [] each = All-nil P
handed_over_legs P frame release s (path ∷ paths) (leg ∷ legs) each =
    All-append P (handed_along frame release s path leg.hops) (handed_over frame release s paths legs)
    (handed_along_path P frame release s path leg.hops (each 0 (omega arith) (omega arith)))
    (handed_over_legs P frame release s paths legs
    (λ n in_paths in_legs. each (suc n) (omega (arith, in_paths)) (omega (arith, in_legs))))

handed_on_leg : (P : Handed → Type 0) (frame : ℕ) (release : Release) (s : Sender) (paths : List (List ℕ))
    (legs : List Leg) (leg : ℕ) → leg < length paths → leg < length legs
    → All P (handed_over frame release s paths legs)
    → EachHanded P frame release s (leg_at paths leg) (get_or legs leg no_leg).hops
handed_on_leg P frame release s [] legs leg in_paths in_legs all = absurd (omega (arith, in_paths))
handed_on_leg P frame release s (path ∷ paths) [] leg in_paths in_legs all = absurd (omega (arith, in_legs))
handed_on_leg P frame release s (path ∷ paths) (own ∷ legs) zero in_paths in_legs all =
    handed_there P frame release s path own.hops
    (all_left P (handed_along frame release s path own.hops) (handed_over frame release s paths legs) all)
handed_on_leg P frame release s (path ∷ paths) (own ∷ legs) (suc leg) in_paths in_legs all =
    handed_on_leg P frame release s paths legs leg (omega (arith, in_paths)) (omega (arith, in_legs))
    (all_right P (handed_along frame release s path own.hops) (handed_over frame release s paths legs) all)

-- in a run, whose journeys have numbers

sent_from : (P : Hop → Type 0) (network : DeclaredNetwork) (n : ℕ) (run : List Travel) (d : Travel)
    → ((k frame : ℕ) → k < length run → frame ≡ n + k → All P (journey_hops network frame (get_or run k d)))
    → All P (hops_from network n run)
sent_from P network n [] d each = All-nil P
sent_from P network n (j ∷ run) d each =
    All-append P (journey_hops network n j) (hops_from network (n + 1) run)
    (each 0 n (omega arith) (omega arith))
    (sent_from P network (n + 1) run d
    (λ k frame within is. each (suc k) frame (omega (arith, within)) (omega (arith, is))))

handed_from_run : (P : Handed → Type 0) (network : DeclaredNetwork) (n : ℕ) (run : List Travel) (d : Travel)
    → ((k frame : ℕ) → k < length run → frame ≡ n + k → All P (journey_handed network frame (get_or run k d)))
    → All P (handed_from network n run)
handed_from_run P network n [] d each = All-nil P
handed_from_run P network n (j ∷ run) d each =
    All-append P (journey_handed network n j) (handed_from network (n + 1) run)
    (each 0 n (omega arith) (omega arith))
    (handed_from_run P network (n + 1) run d
    (λ k frame within is. each (suc k) frame (omega (arith, within)) (omega (arith, is))))

handed_in : (P : Handed → Type 0) (network : DeclaredNetwork) (n : ℕ) (run : List Travel) (d : Travel) (k frame : ℕ)
    → k < length run → frame ≡ n + k → All P (handed_from network n run)
    → All P (journey_handed network frame (get_or run k d))
handed_in P network n [] d k frame within is all = absurd (omega (arith, within))
handed_in P network n (j ∷ run) d zero frame within is all =
    subst (λ (m : ℕ). All P (journey_handed network m j)) (omega (arith, is))
    (all_left P (journey_handed network n j) (handed_from network (n + 1) run) all)
handed_in P network n (j ∷ run) d (suc k) frame within is all =
    handed_in P network (n + 1) run d k frame (omega (arith, within)) (omega (arith, is))
    (all_right P (journey_handed network n j) (handed_from network (n + 1) run) all)

-- what holds of each transmission along each leg of each journey holds of all of the run
pub sent_in_run : (P : Hop → Type 0) (network : DeclaredNetwork) (run : List Travel)
    → ((frame leg : ℕ) → frame < length run
    → leg < length (legs_at network (travel_at run frame).release.sender)
    → EachSent P frame (travel_at run frame).release (sender_at network (travel_at run frame).release.sender)
    (leg_at (legs_at network (travel_at run frame).release.sender) leg)
    (get_or (legs_in (travel_at run frame)) leg no_leg).hops)
    → All P (hops_from network 0 run)
sent_in_run P network run each =
    sent_from P network 0 run no_travel
    (λ k frame within is. subst (λ (n : ℕ). All P (journey_hops network n (travel_at run k))) (omega (arith, is))
    (sent_over P k (travel_at run k).release (sender_at network (travel_at run k).release.sender)
    (legs_at network (travel_at run k).release.sender) (legs_in (travel_at run k))
    (λ leg in_paths in_legs. each k leg within in_paths)))

-- and so of each frame handed on
pub handed_in_run : (P : Handed → Type 0) (network : DeclaredNetwork) (run : List Travel)
    → ((frame leg : ℕ) → frame < length run
    → leg < length (legs_at network (travel_at run frame).release.sender)
    → EachHanded P frame (travel_at run frame).release (sender_at network (travel_at run frame).release.sender)
    (leg_at (legs_at network (travel_at run frame).release.sender) leg)
    (get_or (legs_in (travel_at run frame)) leg no_leg).hops)
    → All P (handed_from network 0 run)
handed_in_run P network run each =
    handed_from_run P network 0 run no_travel
    (λ k frame within is. subst (λ (n : ℕ). All P (journey_handed network n (travel_at run k))) (omega (arith, is))
    (handed_over_legs P k (travel_at run k).release (sender_at network (travel_at run k).release.sender)
    (legs_at network (travel_at run k).release.sender) (legs_in (travel_at run k))
    (λ leg in_paths in_legs. each k leg within in_paths)))

-- the other way round
pub handed_of_run : (P : Handed → Type 0) (network : DeclaredNetwork) (run : List Travel) (frame leg : ℕ)
    → frame < length run → leg < length (legs_at network (travel_at run frame).release.sender)
    → leg < length (legs_in (travel_at run frame)) → All P (handed_from network 0 run)
    → EachHanded P frame (travel_at run frame).release (sender_at network (travel_at run frame).release.sender)
    (leg_at (legs_at network (travel_at run frame).release.sender) leg)
    (get_or (legs_in (travel_at run frame)) leg no_leg).hops
handed_of_run P network run frame leg within in_paths in_legs all =
    handed_on_leg P frame (travel_at run frame).release (sender_at network (travel_at run frame).release.sender)
    (legs_at network (travel_at run frame).release.sender) (legs_in (travel_at run frame)) leg in_paths in_legs
    (handed_in P network 0 run no_travel frame frame within (omega arith) all)

-- at one port

pub sent_at_port : (P : ℕ → Transmission → Type 0) (network : DeclaredNetwork) (run : List Travel) (port : ℕ)
    → All (λ (g : Hop). P g.port g.sent) (hops_from network 0 run) → All (P port) (sent_by network run port)
sent_at_port P network run port all =
    All-map (P port) (λ (g : Hop). g.sent) (filter test (hops_from network 0 run))
    (λ k d within. (
    let g : Hop = get_or (filter test (hops_from network 0 run)) k d in
    subst (λ (p : ℕ). P p g.sent) (eqb-true g.port port (filter_passes test (hops_from network 0 run) k d within))
    (All-filter test (λ (h : Hop). P h.port h.sent) (hops_from network 0 run) all k d within)))
  where
    test : Hop → Bool
    test g = eqb g.port port

pub handed_at_port : (P : ℕ → Handed → Type 0) (network : DeclaredNetwork) (run : List Travel) (port class : ℕ)
    → All (λ (h : Handed). P h.crossing.port h) (handed_from network 0 run)
    → All (P port) (handed_by network run port class)
handed_at_port P network run port class all k d within =
    let h : Handed = get_or (handed_by network run port class) k d in
    let passes = and_parts (eqb h.crossing.port port) (eqb h.crossing.sent.class class)
    (filter_passes test (handed_from network 0 run) k d within) in
    subst (λ (p : ℕ). P p h) (eqb-true h.crossing.port port passes.0)
    (All-filter test (λ (h : Handed). P h.crossing.port h) (handed_from network 0 run) all k d within)
  where
    test : Handed → Bool
    test h = eqb h.crossing.port port && eqb h.crossing.sent.class class

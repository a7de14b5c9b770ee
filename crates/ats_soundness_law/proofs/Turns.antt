-- A way of a frame along the first ports of a route, and then along a branch that begins there.
use Rattle.std.proofs.Common.{◌≡◌, ℕ, zero, suc, ◌<◌, List, [], ◌∷◌, ◌++◌, length, take, refl, sym, ap, ◌∙◌, subst}
use Rattle.std.proofs.Common.{arith, append_assoc}
use Rattle.std.specs.Prelude.{Option, Some, None}
use Rattle.std.specs.List.{slice_get}
use Rattle.ats_num.specs.declared.time.Ps.{Ps}
use Rattle.ats_network.specs.Sender.{Sender}
use Rattle.ats_group.specs.declared.verdict.Verdict.{Verdict}
use Rattle.ats_group.specs.declared.verdict.Verdict.TheVariants.{Eligible, Late, Size}
use Rattle.ats_port_rule.specs.Transmission.{Transmission}
use Rattle.ats_trace.specs.Journey.{Leg, BeginsAs, IsCopy, IsReleased, IsSentOrEnds, IsWay, class_at}
use Rattle.ats_trace.specs.Projections.{Crossing, Handed, crossing_at, crossing_of, crossings_along, handed_along}
use Rattle.ats_trace.specs.Projections.{handed_at, transmission_by, transmission_of}
use Rattle.ats_trace.specs.declared.journey.Release.{Release}
use Rattle.ats_trace.specs.HopRecord.{HopRecord}
use Rattle.ats_trace.specs.declared.journey.Ending.{Ending}
use Rattle.ats_trace.specs.declared.journey.Ending.TheVariants.{Discard}
use Rattle.ats_soundness_law.proofs.Parts.{IsPart, part_append, part_behind, part_same}

-- where a frame did not come to the hop at which the branch begins, no more is told of it on its way there
abbrev Ended : List HopRecord → Ending → Type 0
Ended hops ending = (hops ≡ []) × (ending ≡ Discard)

ended : (hops : List HopRecord) (k : ℕ) (own : List ℕ) (leg : Leg) → hops ≡ [] → IsCopy (slice_get hops k) own leg
    → Ended (take k hops ++ leg.hops) leg.ending
ended [] zero own leg none copy = copy
ended [] (suc k) own leg none copy = copy
ended (hop ∷ hops) k own leg none copy = cc (none)

-- its way there
turned_on : (path : List ℕ) (verdict : Verdict) (sent : Option (Ps × Ps)) (hops : List HopRecord) (ending : Ending)
    (k : ℕ) (own : List ℕ) (leg : Leg)
    → (IsWay path hops ending → IsWay (take k path ++ own) (take k hops ++ leg.hops) leg.ending)
    → IsCopy (slice_get hops k) own leg → IsSentOrEnds (IsWay path hops ending) verdict sent hops ending
    → IsSentOrEnds (IsWay (take k path ++ own) (take k hops ++ leg.hops) leg.ending) verdict sent
    (take k hops ++ leg.hops) leg.ending
turned_on path (Eligible e) (Some times) hops ending k own leg rest copy way = rest way
turned_on path (Eligible e) None hops ending k own leg rest copy way = absurd way
turned_on path (Late e) (Some times) hops ending k own leg rest copy way = absurd way
turned_on path (Late e) None hops ending k own leg rest copy way = ended hops k own leg way.0 copy
turned_on path Size (Some times) hops ending k own leg rest copy way = absurd way
turned_on path Size None hops ending k own leg rest copy way = ended hops k own leg way.0 copy

pub turned_way : (path : List ℕ) (hops : List HopRecord) (ending : Ending) (k : ℕ) (own : List ℕ) (leg : Leg)
    → k < length path → IsCopy (slice_get hops k) own leg → IsWay path hops ending
    → IsWay (take k path ++ own) (take k hops ++ leg.hops) leg.ending
turned_way [] hops ending k own leg within copy way = absurd (omega arith)
turned_way (p ∷ path) [] ending k own leg within copy way = absurd way
turned_way (p ∷ path) (hop ∷ hops) ending zero own leg within copy way = copy.1
turned_way (p ∷ path) (hop ∷ hops) ending (suc k) own leg within copy way =
    turned_on path hop.verdict hop.sent hops ending k own leg
    (turned_way path hops ending k own leg (omega (arith, within)) copy) copy way

-- a copy that begins at the talker is released as the frame
begins_released : (release : Release) (start : HopRecord) (own : List HopRecord) → start.arrival ≡ release.at
    → start.verdict ≡ Eligible release.at → BeginsAs start own → IsReleased release own
begins_released release start [] came judged begins = absurd begins
begins_released release start (hop ∷ own) came judged begins = (begins.0 ∙ came, begins.1 ∙ judged)

pub turned_release : (release : Release) (hops : List HopRecord) (k : ℕ) (own : List ℕ) (leg : Leg)
    → IsCopy (slice_get hops k) own leg → IsReleased release hops → IsReleased release (take k hops ++ leg.hops)
turned_release release [] k own leg copy is = absurd is
turned_release release (hop ∷ hops) zero own leg copy is = begins_released release hop leg.hops is.0 is.1 copy.0
turned_release release (hop ∷ hops) (suc k) own leg copy is = is

-- the copy came, and was judged, as the frame at the hop where the branch begins
abbrev told_at : ℕ → ℕ → ℕ → Transmission → Ps → Verdict → List Handed
told_at octets came port sent at verdict =
    record { crossing = crossing_of octets came port sent at.0; verdict = verdict } ∷ []

begins_handed : (octets came port : ℕ) (sent : Transmission) (next : HopRecord) (hops own : List HopRecord)
    → BeginsAs next own → handed_at octets came port (Some sent) own
    ≡ handed_at octets came port (Some sent) (next ∷ hops)
begins_handed octets came port sent next hops [] begins = absurd begins
begins_handed octets came port sent next hops (hop ∷ own) begins =
    ap (λ (at : Ps). told_at octets came port sent at hop.verdict) begins.0
    ∙ ap (λ (v : Verdict). told_at octets came port sent next.arrival v) begins.1

same_handed : (octets came port : ℕ) (sent : Option Transmission) (hops : List HopRecord) (k : ℕ) (own : List ℕ)
    (leg : Leg) → IsCopy (slice_get hops k) own leg
    → handed_at octets came port sent (take k hops ++ leg.hops) ≡ handed_at octets came port sent hops
same_handed octets came port None hops k own leg copy = refl
same_handed octets came port (Some sent) [] k own leg copy =
    ap (λ (hs : List HopRecord). handed_at octets came port (Some sent) hs) (ended [] k own leg refl copy).0
same_handed octets came port (Some sent) (next ∷ hops) zero own leg copy =
    begins_handed octets came port sent next hops leg.hops copy.0
same_handed octets came port (Some sent) (next ∷ hops) (suc k) own leg copy = refl

-- what is handed on along its way there is some of what is handed on along the route and the branch
pub turned_handed : (frame : ℕ) (release : Release) (sender : Sender) (path : List ℕ) (hops : List HopRecord) (k : ℕ)
    (own : List ℕ) (leg : Leg) → k < length path → IsCopy (slice_get hops k) own leg
    → IsPart (handed_along frame release sender (take k path ++ own) (take k hops ++ leg.hops))
    (handed_along frame release sender path hops ++ handed_along frame release sender own leg.hops)
turned_handed frame release sender path hops zero own leg within copy =
    part_behind (handed_along frame release sender path hops) (handed_along frame release sender own leg.hops)
turned_handed frame release sender [] hops (suc k) own leg within copy = absurd (omega arith)
turned_handed frame release sender (p ∷ path) [] (suc k) own leg within copy =
    subst
    (λ (hs : List HopRecord). IsPart (handed_along frame release sender (p ∷ take k path ++ own) hs)
    (handed_along frame release sender own leg.hops)) (sym copy.0) tt
turned_handed frame release sender (p ∷ path) (hop ∷ hops) (suc k) own leg within copy =
    let sent : Option Transmission = transmission_of frame release (class_at sender p) hop in
    let here : List Handed = handed_at release.octets hop.arrival.0 p sent hops in
    let rest : List Handed = handed_along frame release sender path hops in
    let behind : List Handed = handed_along frame release sender own leg.hops in
    let turned : List Handed = handed_along frame release sender (take k path ++ own) (take k hops ++ leg.hops) in
    subst (λ (hs : List Handed). IsPart (hs ++ turned) ((here ++ rest) ++ behind))
    (sym (same_handed release.octets hop.arrival.0 p sent hops k own leg copy))
    (subst (IsPart (here ++ turned)) (sym (append_assoc here rest behind))
    (part_append here here turned (rest ++ behind) (part_same here)
    (turned_handed frame release sender path hops k own leg (omega (arith, within)) copy)))

-- so with crossings
begins_crossing : (octets came port : ℕ) (sent : Transmission) (next : HopRecord) (hops own : List HopRecord)
    (ending last : Ending) → BeginsAs next own → crossing_at octets came port (Some sent) own last
    ≡ crossing_at octets came port (Some sent) (next ∷ hops) ending
begins_crossing octets came port sent next hops [] ending last begins = absurd begins
begins_crossing octets came port sent next hops (hop ∷ own) ending last begins =
    ap (λ (at : Ps). crossing_of octets came port sent at.0 ∷ []) begins.0

none_crossed : (frame : ℕ) (release : Release) (sender : Sender) (path : List ℕ) (ending : Ending)
    → crossings_along frame release sender path [] ending ≡ []
none_crossed frame release sender [] ending = refl
none_crossed frame release sender (p ∷ path) ending = refl

-- a frame that is sent at a port of the way comes to the next
same_crossing : (octets came port : ℕ) (sent : Transmission) (path : List ℕ) (hops : List HopRecord) (ending : Ending)
    (k : ℕ) (own : List ℕ) (leg : Leg) → k < length path → IsCopy (slice_get hops k) own leg → IsWay path hops ending
    → crossing_at octets came port (Some sent) (take k hops ++ leg.hops) leg.ending
    ≡ crossing_at octets came port (Some sent) hops ending
same_crossing octets came port sent [] hops ending k own leg within copy way = absurd (omega arith)
same_crossing octets came port sent (q ∷ path) [] ending k own leg within copy way = absurd way
same_crossing octets came port sent (q ∷ path) (next ∷ hops) ending zero own leg within copy way =
    begins_crossing octets came port sent next hops leg.hops ending leg.ending copy.0
same_crossing octets came port sent (q ∷ path) (next ∷ hops) ending (suc k) own leg within copy way = refl

-- the crossings along the way there, along the route, and along the branch
abbrev Crosses : ℕ → Release → Sender → List ℕ → List HopRecord → Ending → ℕ → List ℕ → Leg → Type 0
Crosses frame release sender path hops ending k own leg =
    IsPart (crossings_along frame release sender (take k path ++ own) (take k hops ++ leg.hops) leg.ending)
    (crossings_along frame release sender path hops ending
    ++ crossings_along frame release sender own leg.hops leg.ending)

crossed_no_more : (frame : ℕ) (release : Release) (sender : Sender) (path : List ℕ) (hops : List HopRecord)
    (ending : Ending) (k : ℕ) (own : List ℕ) (leg : Leg) → hops ≡ [] → IsCopy (slice_get hops k) own leg
    → Crosses frame release sender path hops ending k own leg
crossed_no_more frame release sender path hops ending k own leg none copy =
    let all : List Crossing = crossings_along frame release sender path hops ending
    ++ crossings_along frame release sender own leg.hops leg.ending in
    let nothing : crossings_along frame release sender (take k path ++ own) (take k hops ++ leg.hops) leg.ending ≡ [] =
    ap (λ (hs : List HopRecord). crossings_along frame release sender (take k path ++ own) hs leg.ending)
    (ended hops k own leg none copy).0
    ∙ none_crossed frame release sender (take k path ++ own) leg.ending in
    subst (λ (cs : List Crossing). IsPart cs all) (sym nothing) tt

crossed_on : (frame : ℕ) (release : Release) (sender : Sender) (came p : ℕ) (path : List ℕ) (verdict : Verdict)
    (sent : Option (Ps × Ps)) (hops : List HopRecord) (ending : Ending) (k : ℕ) (own : List ℕ) (leg : Leg)
    → (IsWay path hops ending → Crosses frame release sender path hops ending k own leg)
    → k < length path → IsCopy (slice_get hops k) own leg
    → IsSentOrEnds (IsWay path hops ending) verdict sent hops ending
    → IsPart
    (crossing_at release.octets came p (transmission_by frame release (class_at sender p) verdict sent)
    (take k hops ++ leg.hops) leg.ending
    ++ crossings_along frame release sender (take k path ++ own) (take k hops ++ leg.hops) leg.ending)
    ((crossing_at release.octets came p (transmission_by frame release (class_at sender p) verdict sent) hops ending
    ++ crossings_along frame release sender path hops ending)
    ++ crossings_along frame release sender own leg.hops leg.ending)
crossed_on frame release sender came p path (Eligible e) (Some times) hops ending k own leg rest within copy way =
    let hop : Option Transmission = transmission_by frame release (class_at sender p) (Eligible e) (Some times) in
    let here : List Crossing = crossing_at release.octets came p hop hops ending in
    let along : List Crossing = crossings_along frame release sender path hops ending in
    let behind : List Crossing = crossings_along frame release sender own leg.hops leg.ending in
    let turned : List Crossing =
    crossings_along frame release sender (take k path ++ own) (take k hops ++ leg.hops) leg.ending in
    subst (λ (cs : List Crossing). IsPart (cs ++ turned) ((here ++ along) ++ behind))
    (sym (same_crossing release.octets came p _ path hops ending k own leg within copy way))
    (subst (IsPart (here ++ turned)) (sym (append_assoc here along behind))
    (part_append here here turned (along ++ behind) (part_same here) (rest way)))
crossed_on frame release sender came p path (Eligible e) None hops ending k own leg rest within copy way = absurd way
crossed_on frame release sender came p path (Late e) (Some times) hops ending k own leg rest within copy way =
    absurd way
crossed_on frame release sender came p path (Late e) None hops ending k own leg rest within copy way =
    crossed_no_more frame release sender path hops ending k own leg way.0 copy
crossed_on frame release sender came p path Size (Some times) hops ending k own leg rest within copy way = absurd way
crossed_on frame release sender came p path Size None hops ending k own leg rest within copy way =
    crossed_no_more frame release sender path hops ending k own leg way.0 copy

pub turned_crossings : (frame : ℕ) (release : Release) (sender : Sender) (path : List ℕ) (hops : List HopRecord)
    (ending : Ending) (k : ℕ) (own : List ℕ) (leg : Leg) → k < length path → IsCopy (slice_get hops k) own leg
    → IsWay path hops ending → Crosses frame release sender path hops ending k own leg
turned_crossings frame release sender path hops ending zero own leg within copy way =
    part_behind (crossings_along frame release sender path hops ending)
    (crossings_along frame release sender own leg.hops leg.ending)
turned_crossings frame release sender [] hops ending (suc k) own leg within copy way = absurd (omega arith)
turned_crossings frame release sender (p ∷ path) [] ending (suc k) own leg within copy way = absurd way
turned_crossings frame release sender (p ∷ path) (hop ∷ hops) ending (suc k) own leg within copy way =
    crossed_on frame release sender hop.arrival.0 p path hop.verdict hop.sent hops ending k own leg
    (turned_crossings frame release sender path hops ending k own leg (omega (arith, within)) copy)
    (omega (arith, within)) copy way

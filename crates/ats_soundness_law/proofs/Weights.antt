use Rattle.std.proofs.Common.{◌≡◌, ℕ, ◌≤◌, List, [], ◌∷◌, ◌++◌, sum_by, sym, subst, arith}
use Rattle.std.specs.Prelude.{Option, Some, None}
use Rattle.std.proofs.lemmas.List.Sums.{sum_by-cons, sum_by-append}
use Rattle.ats_num.specs.declared.time.Ps.{Ps}
use Rattle.ats_network.specs.Sender.{Sender}
use Rattle.ats_network.specs.Senders.{AllNeighbours}
use Rattle.ats_group.specs.declared.verdict.Verdict.{Verdict}
use Rattle.ats_group.specs.declared.verdict.Verdict.TheVariants.{Eligible, Late, Size}
use Rattle.ats_port_rule.specs.Transmission.{Transmission}
use Rattle.ats_trace.specs.Journey.{class_at, IsSentOrEnds, IsWay}
use Rattle.ats_trace.specs.Projections.{Hop, Handed, transmission_by, transmission_of, hop_at, handed_at, hops_along}
use Rattle.ats_trace.specs.Projections.{handed_along}
use Rattle.ats_trace.specs.declared.journey.Release.{Release}
use Rattle.ats_trace.specs.HopRecord.{HopRecord}
use Rattle.ats_trace.specs.declared.journey.Ending.{Ending}
use Rattle.ats_soundness_law.proofs.Along.{hop_by, hop_of, handed_on}

-- what is handed on weighs no more than what is sent
one_handed-le : (f : Hop → ℕ) (octets came port : ℕ) (sent : Option Transmission) (hops : List HopRecord) → sum_by
    (λ (h : Handed). f (hop_of h.crossing)) (handed_at octets came port sent hops) ≤ sum_by f (hop_at port sent)
one_handed-le f octets came port None hops = omega arith
one_handed-le f octets came port (Some sent) [] = omega arith
one_handed-le f octets came port (Some sent) (next ∷ hops) = omega arith

pub handed-le : (f : Hop → ℕ) (frame : ℕ) (release : Release) (sender : Sender) (path : List ℕ) (hops : List HopRecord)
    → sum_by (λ (h : Handed). f (hop_of h.crossing)) (handed_along frame release sender path hops)
    ≤ sum_by f (hops_along frame release sender path hops)
handed-le f frame release sender [] hops = omega arith
handed-le f frame release sender (p ∷ path) [] = omega arith
handed-le f frame release sender (p ∷ path) (hop ∷ hops) =
    let sent : Option Transmission = transmission_of frame release (class_at sender p) hop in
    let here = one_handed-le f release.octets hop.arrival.0 p sent hops in
    let rest = handed-le f frame release sender path hops in
    let all = sum_by-append (λ (h : Handed). f (hop_of h.crossing)) (handed_at release.octets hop.arrival.0 p sent hops)
    (handed_along frame release sender path hops) in
    let sums = sum_by-append f (hop_at p sent) (hops_along frame release sender path hops) in
    omega (arith, here, rest, all, sums)

-- a transmission at a port weighs no more than what the port before handed on
abbrev pub IsPassedOn : (Hop → ℕ) → (Handed → ℕ) → ℕ → Release → Sender → ℕ → ℕ → Type 0
IsPassedOn f g frame release sender before port =
    (e since : Ps) (times earlier : Ps × Ps) (came arrival : ℕ)
    → f (hop_by frame release (class_at sender port) port e times)
    ≤ g (handed_on frame release (class_at sender before) before came since earlier arrival (Eligible e))

-- where that holds of neighbours on a path, all later transmissions weigh no more than what is handed on
next_hop : (f : Hop → ℕ) (g : Handed → ℕ) (frame : ℕ) (release : Release) (sender : Sender) (came p q : ℕ)
    (since : Ps) (earlier : Ps × Ps) (arrival : ℕ) (verdict : Verdict) (sent : Option (Ps × Ps))
    → IsPassedOn f g frame release sender p q
    → sum_by f (hop_at q (transmission_by frame release (class_at sender q) verdict sent))
    ≤ g (handed_on frame release (class_at sender p) p came since earlier arrival verdict)
next_hop f g frame release sender came p q since earlier arrival (Eligible e) (Some times) passed =
    let le = passed e since times earlier came arrival in
    omega (arith, le)
next_hop f g frame release sender came p q since earlier arrival (Eligible e) None passed = omega arith
next_hop f g frame release sender came p q since earlier arrival (Late e) sent passed = omega arith
next_hop f g frame release sender came p q since earlier arrival Size sent passed = omega arith

-- the rest of a way, behind a port
later_here : (f : Hop → ℕ) (g : Handed → ℕ) (frame : ℕ) (release : Release) (sender : Sender) (came p q : ℕ)
    (path : List ℕ) (verdict : Verdict) (sent : Option (Ps × Ps)) (next : HopRecord) (hops : List HopRecord)
    (ending : Ending)
    → IsPassedOn f g frame release sender p q
    → (IsWay (q ∷ path) (next ∷ hops) ending → sum_by f (hops_along frame release sender path hops)
    ≤ sum_by g (handed_along frame release sender (q ∷ path) (next ∷ hops)))
    → IsSentOrEnds (IsWay (q ∷ path) (next ∷ hops) ending) verdict sent (next ∷ hops) ending
    → sum_by f (hops_along frame release sender (q ∷ path) (next ∷ hops))
    ≤ sum_by g (handed_at release.octets came p (transmission_by frame release (class_at sender p) verdict sent)
    (next ∷ hops) ++ handed_along frame release sender (q ∷ path) (next ∷ hops))
later_here f g frame release sender came p q path (Eligible e) (Some times) next hops ending passed rest way =
    let one : Handed = handed_on frame release (class_at sender p) p came e times next.arrival.0 next.verdict in
    let here = next_hop f g frame release sender came p q e times next.arrival.0 next.verdict next.sent passed in
    let behind = rest way in
    let sent = sum_by-append f (hop_at q (transmission_of frame release (class_at sender q) next))
    (hops_along frame release sender path hops) in
    let handed = sum_by-cons g one (handed_along frame release sender (q ∷ path) (next ∷ hops)) in
    omega (arith, here, behind, sent, handed)
later_here f g frame release sender came p q path (Eligible e) None next hops ending passed rest way = absurd way
later_here f g frame release sender came p q path (Late e) (Some times) next hops ending passed rest way = absurd way
later_here f g frame release sender came p q path (Late e) None next hops ending passed rest way = cc (way.0)
later_here f g frame release sender came p q path Size (Some times) next hops ending passed rest way = absurd way
later_here f g frame release sender came p q path Size None next hops ending passed rest way = cc (way.0)

pub later-le : (f : Hop → ℕ) (g : Handed → ℕ) (frame : ℕ) (release : Release) (sender : Sender) (p : ℕ) (path : List ℕ)
    (hop : HopRecord) (hops : List HopRecord) (ending : Ending)
    → AllNeighbours (IsPassedOn f g frame release sender) (p ∷ path) → IsWay (p ∷ path) (hop ∷ hops) ending
    → sum_by f (hops_along frame release sender path hops)
    ≤ sum_by g (handed_along frame release sender (p ∷ path) (hop ∷ hops))
later-le f g frame release sender p [] hop hops ending each way = omega arith
later-le f g frame release sender p (q ∷ path) hop [] ending each way = omega arith
later-le f g frame release sender p (q ∷ path) hop (next ∷ hops) ending each way =
    later_here f g frame release sender hop.arrival.0 p q path hop.verdict hop.sent next hops ending each.0
    (later-le f g frame release sender q path next hops ending each.1)
    way

-- the first transmission, of a frame that is eligible at its release
pub first-le : (f : Hop → ℕ) (most frame : ℕ) (release : Release) (sender : Sender) (p : ℕ) (verdict : Verdict)
    (sent : Option (Ps × Ps))
    → verdict ≡ Eligible release.at
    → ((times : Ps × Ps) → f (hop_by frame release (class_at sender p) p release.at times) ≤ most)
    → sum_by f (hop_at p (transmission_by frame release (class_at sender p) verdict sent)) ≤ most
first-le f most frame release sender p verdict sent is each =
    let Goal : Verdict → Type 0 =
    λ (v : Verdict). sum_by f (hop_at p (transmission_by frame release (class_at sender p) v sent)) ≤ most in
    subst Goal (sym is) (by sent)
  where
    by : (sent : Option (Ps × Ps))
        → sum_by f (hop_at p (transmission_by frame release (class_at sender p) (Eligible release.at) sent)) ≤ most
    by None = omega arith
    by (Some times) = omega (arith, each times)

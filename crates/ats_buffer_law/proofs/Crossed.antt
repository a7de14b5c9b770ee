use Rattle.std.proofs.Common.{ℕ, ◌+◌, ◌≤◌, List, [], ◌∷◌, ◌++◌, All, sum_by, arith}
use Rattle.std.specs.Prelude.{Option, Some, None}
use Rattle.std.proofs.lemmas.List.Elements.{All-nil, All-head, All-tail, All-append}
use Rattle.std.proofs.lemmas.List.Sums.{sum_by-cons, sum_by-append}
use Rattle.ats_num.specs.declared.time.Ps.{Ps}
use Rattle.ats_network.specs.Sender.{Sender}
use Rattle.ats_network.specs.Network.{DeclaredNetwork}
use Rattle.ats_network.specs.Senders.{sender_at, AllNeighbours}
use Rattle.ats_group.specs.declared.verdict.Verdict.{Verdict}
use Rattle.ats_group.specs.declared.verdict.Verdict.TheVariants.{Eligible, Late, Size}
use Rattle.ats_port_rule.specs.Transmission.{Transmission}
use Rattle.ats_trace.specs.Journey.{Leg, Travel, class_at, IsSentOrEnds, IsWay, legs_at, legs_in}
use Rattle.ats_trace.specs.Projections.{Hop, Crossing, Handed, transmission_by, transmission_of, hop_at, crossing_at}
use Rattle.ats_trace.specs.Projections.{handed_at, hops_along, crossings_along, handed_along, hops_over, journey_hops}
use Rattle.ats_trace.specs.Projections.{journey_crossings, journey_handed, hops_from, crossings_from, handed_from}
use Rattle.ats_trace.specs.Projections.{crossings_over}
use Rattle.ats_trace.specs.declared.journey.Release.{Release}
use Rattle.ats_trace.specs.HopRecord.{HopRecord}
use Rattle.ats_trace.specs.declared.journey.Ending.{Ending}
use Rattle.ats_trace.specs.declared.journey.Ending.TheVariants.{Sink, Discard}
use Rattle.ats_soundness_law.proofs.Along.{crossing_by, handed_on, hop_of}

-- what crossed weighs no more than what was sent
one_crossed-le : (f : Hop → ℕ) (octets came port : ℕ) (sent : Option Transmission) (hops : List HopRecord)
    (ending : Ending) → sum_by (λ (c : Crossing). f (hop_of c)) (crossing_at octets came port sent hops ending)
    ≤ sum_by f (hop_at port sent)
one_crossed-le f octets came port None hops ending = omega arith
one_crossed-le f octets came port (Some sent) (next ∷ hops) ending = omega arith
one_crossed-le f octets came port (Some sent) [] (Sink at) = omega arith
one_crossed-le f octets came port (Some sent) [] Discard = omega arith

crossed-le : (f : Hop → ℕ) (frame : ℕ) (release : Release) (s : Sender) (path : List ℕ) (hops : List HopRecord)
    (ending : Ending) → sum_by (λ (c : Crossing). f (hop_of c)) (crossings_along frame release s path hops ending)
    ≤ sum_by f (hops_along frame release s path hops)
crossed-le f frame release s [] hops ending = omega arith
crossed-le f frame release s (p ∷ path) [] ending = omega arith
crossed-le f frame release s (p ∷ path) (hop ∷ hops) ending =
    let sent : Option Transmission = transmission_of frame release (class_at s p) hop in
    let here = one_crossed-le f release.octets hop.arrival.0 p sent hops ending in
    let rest = crossed-le f frame release s path hops ending in
    let all = sum_by-append (λ (c : Crossing). f (hop_of c))
    (crossing_at release.octets hop.arrival.0 p sent hops ending) (crossings_along frame release s path hops ending) in
    let sums = sum_by-append f (hop_at p sent) (hops_along frame release s path hops) in
    omega (arith, here, rest, all, sums)

over_crossed-le : (f : Hop → ℕ) (frame : ℕ) (release : Release) (s : Sender) (paths : List (List ℕ)) (legs : List Leg)
    → sum_by (λ (c : Crossing). f (hop_of c)) (crossings_over frame release s paths legs)
    ≤ sum_by f (hops_over frame release s paths legs)
over_crossed-le f frame release s [] legs = omega arith
over_crossed-le f frame release s (path ∷ paths) [] = omega arith
over_crossed-le f frame release s (path ∷ paths) (leg ∷ legs) =
    let g : Crossing → ℕ = λ (c : Crossing). f (hop_of c) in
    omega (
      arith,
      crossed-le f frame release s path leg.hops leg.ending,
      over_crossed-le f frame release s paths legs,
      sum_by-append g (crossings_along frame release s path leg.hops leg.ending)
          (crossings_over frame release s paths legs),
      sum_by-append f (hops_along frame release s path leg.hops) (hops_over frame release s paths legs),
    )

pub run_crossed-le : (f : Hop → ℕ) (network : DeclaredNetwork) (n : ℕ) (run : List Travel)
    → sum_by (λ (c : Crossing). f (hop_of c)) (crossings_from network n run) ≤ sum_by f (hops_from network n run)
run_crossed-le f network n [] = omega arith
run_crossed-le f network n (j ∷ run) =
    let here : sum_by (λ (c : Crossing). f (hop_of c)) (journey_crossings network n j)
    ≤ sum_by f (journey_hops network n j) = over_crossed-le f n j.release (sender_at network j.release.sender)
    (legs_at network j.release.sender) (legs_in j) in
    let rest = run_crossed-le f network (n + 1) run in
    let all = sum_by-append (λ (c : Crossing). f (hop_of c)) (journey_crossings network n j)
    (crossings_from network (n + 1) run) in
    let sums = sum_by-append f (journey_hops network n j) (hops_from network (n + 1) run) in
    omega (arith, here, rest, all, sums)

-- a crossing weighs no more than what the port before handed on
abbrev pub IsCrossedOn : (Crossing → ℕ) → (Handed → ℕ) → ℕ → Release → Sender → ℕ → ℕ → Type 0
IsCrossedOn f g frame release s before port =
    (e since : Ps) (times earlier : Ps × Ps) (came arrival next : ℕ)
    → f (crossing_by frame release (class_at s port) port arrival e times next)
    ≤ g (handed_on frame release (class_at s before) before came since earlier arrival (Eligible e))

-- where that holds of neighbours on a path, all later crossings weigh no more than what is handed on
next_crossing : (f : Crossing → ℕ) (g : Handed → ℕ) (frame : ℕ) (release : Release) (s : Sender) (came p q : ℕ)
    (since : Ps) (earlier : Ps × Ps) (arrival : ℕ) (verdict : Verdict) (sent : Option (Ps × Ps)) (hops : List HopRecord)
    (ending : Ending) → IsCrossedOn f g frame release s p q
    → sum_by f (crossing_at release.octets arrival q (transmission_by frame release (class_at s q) verdict sent) hops
    ending) ≤ g (handed_on frame release (class_at s p) p came since earlier arrival verdict)
next_crossing f g frame release s came p q since earlier arrival (Eligible e) (Some times) (next ∷ hops) ending on =
    let le = on e since times earlier came arrival next.arrival.0 in
    omega (arith, le)
next_crossing f g frame release s came p q since earlier arrival (Eligible e) (Some times) [] (Sink at) on =
    let le = on e since times earlier came arrival at.0 in
    omega (arith, le)
next_crossing f g frame release s came p q since earlier arrival (Eligible e) (Some times) [] Discard on = omega arith
next_crossing f g frame release s came p q since earlier arrival (Eligible e) None hops ending on = omega arith
next_crossing f g frame release s came p q since earlier arrival (Late e) sent hops ending on = omega arith
next_crossing f g frame release s came p q since earlier arrival Size sent hops ending on = omega arith

later_here : (f : Crossing → ℕ) (g : Handed → ℕ) (frame : ℕ) (release : Release) (s : Sender) (came p q : ℕ)
    (path : List ℕ) (verdict : Verdict) (sent : Option (Ps × Ps)) (next : HopRecord) (hops : List HopRecord)
    (ending : Ending) → IsCrossedOn f g frame release s p q
    → (IsWay (q ∷ path) (next ∷ hops) ending → sum_by f (crossings_along frame release s path hops ending)
    ≤ sum_by g (handed_along frame release s (q ∷ path) (next ∷ hops)))
    → IsSentOrEnds (IsWay (q ∷ path) (next ∷ hops) ending) verdict sent (next ∷ hops) ending
    → sum_by f (crossings_along frame release s (q ∷ path) (next ∷ hops) ending)
    ≤ sum_by g (handed_at release.octets came p (transmission_by frame release (class_at s p) verdict sent)
    (next ∷ hops) ++ handed_along frame release s (q ∷ path) (next ∷ hops))
later_here f g frame release s came p q path (Eligible e) (Some times) next hops ending on rest way =
    let one : Handed = handed_on frame release (class_at s p) p came e times next.arrival.0 next.verdict in
    let here =
    next_crossing f g frame release s came p q e times next.arrival.0 next.verdict next.sent hops ending on in
    let behind = rest way in
    let crossed = sum_by-append f (crossing_at release.octets next.arrival.0 q
    (transmission_of frame release (class_at s q) next) hops ending)
    (crossings_along frame release s path hops ending) in
    let handed = sum_by-cons g one (handed_along frame release s (q ∷ path) (next ∷ hops)) in
    omega (arith, here, behind, crossed, handed)
later_here f g frame release s came p q path (Eligible e) None next hops ending on rest way = absurd way
later_here f g frame release s came p q path (Late e) (Some times) next hops ending on rest way = absurd way
later_here f g frame release s came p q path (Late e) None next hops ending on rest way = cc (way.0)
later_here f g frame release s came p q path Size (Some times) next hops ending on rest way = absurd way
later_here f g frame release s came p q path Size None next hops ending on rest way = cc (way.0)

pub later_crossed-le : (f : Crossing → ℕ) (g : Handed → ℕ) (frame : ℕ) (release : Release) (s : Sender) (p : ℕ)
    (path : List ℕ) (hop : HopRecord) (hops : List HopRecord) (ending : Ending)
    → AllNeighbours (IsCrossedOn f g frame release s) (p ∷ path) → IsWay (p ∷ path) (hop ∷ hops) ending
    → sum_by f (crossings_along frame release s path hops ending)
    ≤ sum_by g (handed_along frame release s (p ∷ path) (hop ∷ hops))
later_crossed-le f g frame release s p [] hop hops ending each way = omega arith
later_crossed-le f g frame release s p (q ∷ path) hop [] ending each way = omega arith
later_crossed-le f g frame release s p (q ∷ path) hop (next ∷ hops) ending each way =
    later_here f g frame release s hop.arrival.0 p q path hop.verdict hop.sent next hops ending each.0
    (later_crossed-le f g frame release s q path next hops ending each.1)
    way

-- where a port's crossings weigh nothing
pub none_here : (f : Crossing → ℕ) (octets came port : ℕ) (sent : Option Transmission) (hops : List HopRecord)
    (ending : Ending) → ((x : Transmission) (next : ℕ)
    → f (record { port = port; octets = octets; came = came; sent = x; arrival = next }) ≤ 0)
    → sum_by f (crossing_at octets came port sent hops ending) ≤ 0
none_here f octets came port None hops ending none = omega arith
none_here f octets came port (Some sent) (next ∷ hops) ending none =
    let le = none sent next.arrival.0 in omega (arith, le)
none_here f octets came port (Some sent) [] (Sink at) none = let le = none sent at.0 in omega (arith, le)
none_here f octets came port (Some sent) [] Discard none = omega arith

-- what holds of each crossing of each journey holds of all of the run
pub run_crossings : (J : Travel → Type 0) (P : Crossing → Type 0) (network : DeclaredNetwork) (n : ℕ)
    (run : List Travel) → ((n : ℕ) (j : Travel) → J j → All P (journey_crossings network n j)) → All J run
    → All P (crossings_from network n run)
run_crossings J P network n [] each all = All-nil P
run_crossings J P network n (j ∷ run) each all =
    All-append P (journey_crossings network n j) (crossings_from network (n + 1) run)
    (each n j (All-head J j run all)) (run_crossings J P network (n + 1) run each (All-tail J j run all))

-- where the crossings of each journey weigh no more than what it handed on, so do those of the run
pub run_crossings-le : (J : Travel → Type 0) (f : Crossing → ℕ) (g : Handed → ℕ) (network : DeclaredNetwork) (n : ℕ)
    (run : List Travel)
    → ((n : ℕ) (j : Travel) → J j → sum_by f (journey_crossings network n j) ≤ sum_by g (journey_handed network n j))
    → All J run → sum_by f (crossings_from network n run) ≤ sum_by g (handed_from network n run)
run_crossings-le J f g network n [] each all = omega arith
run_crossings-le J f g network n (j ∷ run) each all =
    let here = each n j (All-head J j run all) in
    let rest = run_crossings-le J f g network (n + 1) run each (All-tail J j run all) in
    let crossed = sum_by-append f (journey_crossings network n j) (crossings_from network (n + 1) run) in
    let handed = sum_by-append g (journey_handed network n j) (handed_from network (n + 1) run) in
    omega (arith, here, rest, crossed, handed)

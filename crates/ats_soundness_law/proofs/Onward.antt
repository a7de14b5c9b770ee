-- What is known of a transmission from the verdict that the frame got at the node before.
use Rattle.std.proofs.Common.{◌≡◌, ℕ, suc, ◌+◌, ◌<◌, List, [], ◌∷◌, ◌++◌, length, get_or, All, sym, subst, arith}
use Rattle.std.specs.Prelude.{Option, Some, None}
use Rattle.std.proofs.lemmas.List.Elements.{All-nil, All-cons, All-head, All-tail, All-append}
use Rattle.ats_facts.proofs.Lists.{all_left, all_right}
use Rattle.ats_num.specs.declared.time.Ps.{Ps}
use Rattle.ats_network.specs.Network.{DeclaredNetwork}
use Rattle.ats_network.specs.Sender.{Sender}
use Rattle.ats_network.specs.Senders.{AllNeighbours}
use Rattle.ats_group.specs.declared.verdict.Verdict.{Verdict}
use Rattle.ats_group.specs.declared.verdict.Verdict.TheVariants.{Eligible, Late, Size}
use Rattle.ats_trace.specs.Journey.{Travel, class_at, IsSentOrEnds, IsWay}
use Rattle.ats_trace.specs.Projections.{Hop, Handed, transmission_by, transmission_of, hop_at, handed_at, hops_along}
use Rattle.ats_trace.specs.Projections.{handed_along, handed_from, hops_from, journey_handed, journey_hops}
use Rattle.ats_trace.specs.declared.journey.Release.{Release}
use Rattle.ats_trace.specs.HopRecord.{HopRecord}
use Rattle.ats_trace.specs.declared.journey.Ending.{Ending}
use Rattle.ats_soundness_law.proofs.Along.{hop_by, handed_on}

-- what holds of a frame that is handed on and eligible gives what holds of its transmission at the next port
abbrev pub PassesOn : (Handed → Type 0) → (Hop → Type 0) → ℕ → Release → Sender → ℕ → ℕ → Type 0
PassesOn Q P frame release sender before port =
    (e since : Ps) (times earlier : Ps × Ps) (came arrival : ℕ)
    → Q (handed_on frame release (class_at sender before) before came since earlier arrival (Eligible e))
    → P (hop_by frame release (class_at sender port) port e times)

next_hop : (Q : Handed → Type 0) (P : Hop → Type 0) (frame : ℕ) (release : Release) (sender : Sender) (came p q : ℕ)
    (since : Ps) (earlier : Ps × Ps) (arrival : ℕ) (verdict : Verdict) (sent : Option (Ps × Ps))
    → PassesOn Q P frame release sender p q
    → Q (handed_on frame release (class_at sender p) p came since earlier arrival verdict)
    → All P (hop_at q (transmission_by frame release (class_at sender q) verdict sent))
next_hop Q P frame release sender came p q since earlier arrival (Eligible e) (Some times) passed given =
    All-cons P (hop_by frame release (class_at sender q) q e times) []
    (passed e since times earlier came arrival given) (All-nil P)
next_hop Q P frame release sender came p q since earlier arrival (Eligible e) None passed given = All-nil P
next_hop Q P frame release sender came p q since earlier arrival (Late e) sent passed given = All-nil P
next_hop Q P frame release sender came p q since earlier arrival Size sent passed given = All-nil P

-- the rest of a way, behind a port
later_here : (Q : Handed → Type 0) (P : Hop → Type 0) (frame : ℕ) (release : Release) (sender : Sender)
    (came p q : ℕ) (path : List ℕ) (verdict : Verdict) (sent : Option (Ps × Ps)) (next : HopRecord)
    (hops : List HopRecord) (ending : Ending)
    → PassesOn Q P frame release sender p q
    → (IsWay (q ∷ path) (next ∷ hops) ending → All Q (handed_along frame release sender (q ∷ path) (next ∷ hops))
    → All P (hops_along frame release sender path hops))
    → IsSentOrEnds (IsWay (q ∷ path) (next ∷ hops) ending) verdict sent (next ∷ hops) ending
    → All Q (handed_at release.octets came p (transmission_by frame release (class_at sender p) verdict sent)
    (next ∷ hops) ++ handed_along frame release sender (q ∷ path) (next ∷ hops))
    → All P (hops_along frame release sender (q ∷ path) (next ∷ hops))
later_here Q P frame release sender came p q path (Eligible e) (Some times) next hops ending passed rest way given =
    let one : Handed = handed_on frame release (class_at sender p) p came e times next.arrival.0 next.verdict in
    let behind : List Handed = handed_along frame release sender (q ∷ path) (next ∷ hops) in
    All-append P (hop_at q (transmission_of frame release (class_at sender q) next))
    (hops_along frame release sender path hops)
    (next_hop Q P frame release sender came p q e times next.arrival.0 next.verdict next.sent passed
    (All-head Q one behind given))
    (rest way (All-tail Q one behind given))
later_here Q P frame release sender came p q path (Eligible e) None next hops ending passed rest way given = absurd way
later_here Q P frame release sender came p q path (Late e) (Some times) next hops ending passed rest way given =
    absurd way
later_here Q P frame release sender came p q path (Late e) None next hops ending passed rest way given = cc (way.0)
later_here Q P frame release sender came p q path Size (Some times) next hops ending passed rest way given = absurd way
later_here Q P frame release sender came p q path Size None next hops ending passed rest way given = cc (way.0)

-- so of each transmission at a later port
pub later_by : (Q : Handed → Type 0) (P : Hop → Type 0) (frame : ℕ) (release : Release) (sender : Sender) (p : ℕ)
    (path : List ℕ) (hop : HopRecord) (hops : List HopRecord) (ending : Ending)
    → AllNeighbours (PassesOn Q P frame release sender) (p ∷ path) → IsWay (p ∷ path) (hop ∷ hops) ending
    → All Q (handed_along frame release sender (p ∷ path) (hop ∷ hops))
    → All P (hops_along frame release sender path hops)
later_by Q P frame release sender p [] hop hops ending each way given = All-nil P
later_by Q P frame release sender p (q ∷ path) hop [] ending each way given = All-nil P
later_by Q P frame release sender p (q ∷ path) hop (next ∷ hops) ending each way given =
    later_here Q P frame release sender hop.arrival.0 p q path hop.verdict hop.sent next hops ending each.0
    (later_by Q P frame release sender q path next hops ending each.1) way given

-- and of the first one, of a frame that is eligible at its release
pub first_by : (P : Hop → Type 0) (frame : ℕ) (release : Release) (sender : Sender) (p : ℕ) (verdict : Verdict)
    (sent : Option (Ps × Ps)) → verdict ≡ Eligible release.at
    → ((times : Ps × Ps) → P (hop_by frame release (class_at sender p) p release.at times))
    → All P (hop_at p (transmission_by frame release (class_at sender p) verdict sent))
first_by P frame release sender p verdict sent is each =
    let Goal : Verdict → Type 0 =
    λ (v : Verdict). All P (hop_at p (transmission_by frame release (class_at sender p) v sent)) in
    subst Goal (sym is) (by sent)
  where
    by : (sent : Option (Ps × Ps))
        → All P (hop_at p (transmission_by frame release (class_at sender p) (Eligible release.at) sent))
    by None = All-nil P
    by (Some times) =
        All-cons P (hop_by frame release (class_at sender p) p release.at times) [] (each times) (All-nil P)

-- so of all transmissions of a run, where it is so of each journey, by its number
pub run_numbered_by : (J : ℕ → Travel → Type 0) (Q : Handed → Type 0) (P : Hop → Type 0) (network : DeclaredNetwork)
    (n : ℕ) (run : List Travel)
    → ((n : ℕ) (j : Travel) → J n j → All Q (journey_handed network n j) → All P (journey_hops network n j))
    → ((k : ℕ) (d : Travel) → k < length run → J (n + k) (get_or run k d))
    → All Q (handed_from network n run) → All P (hops_from network n run)
run_numbered_by J Q P network n [] each all given = All-nil P
run_numbered_by J Q P network n (j ∷ run) each all given =
    let first : n + 0 ≡ n = omega arith in
    All-append P (journey_hops network n j) (hops_from network (n + 1) run)
    (each n j (subst (λ (m : ℕ). J m j) first (all 0 j (omega arith)))
    (all_left Q (journey_handed network n j) (handed_from network (n + 1) run) given))
    (run_numbered_by J Q P network (n + 1) run each
    (λ k d within. (
    let next : n + suc k ≡ n + 1 + k = omega arith in
    subst (λ (m : ℕ). J m (get_or run k d)) next (all (suc k) d (omega (arith, within)))))
    (all_right Q (journey_handed network n j) (handed_from network (n + 1) run) given))

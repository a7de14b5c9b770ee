use Rattle.std.proofs.Common.{◌≡◌, ℕ, zero, suc, ◌+◌, ◌<◌, ◌≤◌, List, [], ◌∷◌, length, get_or, All, sum_by, subst}
use Rattle.std.proofs.Common.{arith}
use Rattle.std.specs.Prelude.{Contains}
use Rattle.std.proofs.lemmas.List.Elements.{All-nil, All-head, All-tail, All-append}
use Rattle.std.proofs.lemmas.List.Sums.{sum_by-cons, sum_by-append}
use Rattle.ats_facts.proofs.Lists.{all_left, all_right}
use Rattle.ats_network.specs.Network.{DeclaredNetwork}
use Rattle.ats_trace.specs.Journey.{Travel}
use Rattle.ats_trace.specs.Projections.{Hop, Crossing, Handed, journey_hops, journey_crossings, journey_handed}
use Rattle.ats_trace.specs.Projections.{hops_from, crossings_from, handed_from}
use Rattle.ats_soundness_law.proofs.Along.{hop_of}

-- what holds of all transmissions of each journey holds of all of the run
pub run_hops : (J : Travel → Type 0) (P : Hop → Type 0) (network : DeclaredNetwork) (n : ℕ) (run : List Travel)
    → ((n : ℕ) (j : Travel) → J j → All P (journey_hops network n j)) → All J run → All P (hops_from network n run)
run_hops J P network n [] each all = All-nil P
run_hops J P network n (j ∷ run) each all =
    All-append P (journey_hops network n j) (hops_from network (n + 1) run)
    (each n j (All-head J j run all)) (run_hops J P network (n + 1) run each (All-tail J j run all))

-- also where it rests on what was handed on
pub run_hops_by : (J : Travel → Type 0) (Q : Handed → Type 0) (P : Hop → Type 0) (network : DeclaredNetwork) (n : ℕ)
    (run : List Travel)
    → ((n : ℕ) (j : Travel) → J j → All Q (journey_handed network n j) → All P (journey_hops network n j)) → All J run
    → All Q (handed_from network n run) → All P (hops_from network n run)
run_hops_by J Q P network n [] each all handed = All-nil P
run_hops_by J Q P network n (j ∷ run) each all handed =
    All-append P (journey_hops network n j) (hops_from network (n + 1) run)
    (each n j (All-head J j run all) (all_left Q (journey_handed network n j) (handed_from network (n + 1) run) handed))
    (run_hops_by J Q P network (n + 1) run each (All-tail J j run all)
    (all_right Q (journey_handed network n j) (handed_from network (n + 1) run) handed))

-- the same of what was handed on
pub run_handed : (J : Travel → Type 0) (P : Handed → Type 0) (network : DeclaredNetwork) (n : ℕ) (run : List Travel)
    → ((n : ℕ) (j : Travel) → J j → All P (journey_handed network n j)) → All J run → All P (handed_from network n run)
run_handed J P network n [] each all = All-nil P
run_handed J P network n (j ∷ run) each all =
    All-append P (journey_handed network n j) (handed_from network (n + 1) run)
    (each n j (All-head J j run all)) (run_handed J P network (n + 1) run each (All-tail J j run all))

-- and of what was sent, of what crossed
pub run_were_sent : (P : Hop → Type 0) (network : DeclaredNetwork) (n : ℕ) (run : List Travel)
    → ((n : ℕ) (j : Travel) → All P (journey_hops network n j)
    → All (λ (c : Crossing). P (hop_of c)) (journey_crossings network n j))
    → All P (hops_from network n run) → All (λ (c : Crossing). P (hop_of c)) (crossings_from network n run)
run_were_sent P network n [] each all = All-nil (λ (c : Crossing). P (hop_of c))
run_were_sent P network n (j ∷ run) each all =
    All-append (λ (c : Crossing). P (hop_of c)) (journey_crossings network n j) (crossings_from network (n + 1) run)
    (each n j (all_left P (journey_hops network n j) (hops_from network (n + 1) run) all))
    (run_were_sent P network (n + 1) run each
    (all_right P (journey_hops network n j) (hops_from network (n + 1) run) all))

-- and of what crossed, of what was handed on
pub run_have_crossed : (P : Crossing → Type 0) (network : DeclaredNetwork) (n : ℕ) (run : List Travel)
    → ((n : ℕ) (j : Travel) → All P (journey_crossings network n j)
    → All (λ (h : Handed). P h.crossing) (journey_handed network n j))
    → All P (crossings_from network n run) → All (λ (h : Handed). P h.crossing) (handed_from network n run)
run_have_crossed P network n [] each all = All-nil (λ (h : Handed). P h.crossing)
run_have_crossed P network n (j ∷ run) each all =
    All-append (λ (h : Handed). P h.crossing) (journey_handed network n j) (handed_from network (n + 1) run)
    (each n j (all_left P (journey_crossings network n j) (crossings_from network (n + 1) run) all))
    (run_have_crossed P network (n + 1) run each
    (all_right P (journey_crossings network n j) (crossings_from network (n + 1) run) all))

-- where the transmissions of each journey weigh no more than what it handed on, so do those of the run
pub run_hops-le : (J : Travel → Type 0) (f : Hop → ℕ) (g : Handed → ℕ) (network : DeclaredNetwork) (n : ℕ)
    (run : List Travel)
    → ((n : ℕ) (j : Travel) → J j → sum_by f (journey_hops network n j) ≤ sum_by g (journey_handed network n j))
    → All J run → sum_by f (hops_from network n run) ≤ sum_by g (handed_from network n run)
run_hops-le J f g network n [] each all = omega arith
run_hops-le J f g network n (j ∷ run) each all =
    let here = each n j (All-head J j run all) in
    let rest = run_hops-le J f g network (n + 1) run each (All-tail J j run all) in
    let hops = sum_by-append f (journey_hops network n j) (hops_from network (n + 1) run) in
    let handed = sum_by-append g (journey_handed network n j) (handed_from network (n + 1) run) in
    omega (arith, here, rest, hops, handed)

-- the other way round
pub run_handed-le : (f : Hop → ℕ) (network : DeclaredNetwork) (n : ℕ) (run : List Travel)
    → ((n : ℕ) (j : Travel) → sum_by (λ (h : Handed). f (hop_of h.crossing)) (journey_handed network n j)
    ≤ sum_by f (journey_hops network n j))
    → sum_by (λ (h : Handed). f (hop_of h.crossing)) (handed_from network n run) ≤ sum_by f (hops_from network n run)
run_handed-le f network n [] each = omega arith
run_handed-le f network n (j ∷ run) each =
    let here = each n j in
    let rest = run_handed-le f network (n + 1) run each in
    let hops = sum_by-append f (journey_hops network n j) (hops_from network (n + 1) run) in
    let handed = sum_by-append (λ (h : Handed). f (hop_of h.crossing)) (journey_handed network n j)
    (handed_from network (n + 1) run) in
    omega (arith, here, rest, hops, handed)

-- and where they weigh no more than the journey
pub run_travels-le : (J : Travel → Type 0) (f : Hop → ℕ) (w : Travel → ℕ) (network : DeclaredNetwork) (n : ℕ)
    (run : List Travel)
    → ((n : ℕ) (j : Travel) → J j → sum_by f (journey_hops network n j) ≤ w j) → All J run
    → sum_by f (hops_from network n run) ≤ sum_by w run
run_travels-le J f w network n [] each all = omega arith
run_travels-le J f w network n (j ∷ run) each all =
    let here = each n j (All-head J j run all) in
    let rest = run_travels-le J f w network (n + 1) run each (All-tail J j run all) in
    let hops = sum_by-append f (journey_hops network n j) (hops_from network (n + 1) run) in
    let travels = sum_by-cons w j run in
    omega (arith, here, rest, hops, travels)

-- the same, with the number of each journey
pub run_numbered-le : (J : ℕ → Travel → Type 0) (f : Hop → ℕ) (w : Travel → ℕ) (network : DeclaredNetwork) (n : ℕ)
    (run : List Travel)
    → ((n : ℕ) (j : Travel) → J n j → sum_by f (journey_hops network n j) ≤ w j)
    → ((k : ℕ) (d : Travel) → k < length run → J (n + k) (get_or run k d))
    → sum_by f (hops_from network n run) ≤ sum_by w run
run_numbered-le J f w network n [] each all = omega arith
run_numbered-le J f w network n (j ∷ run) each all =
    let first : n + 0 ≡ n = omega arith in
    let here = each n j (subst (λ (m : ℕ). J m j) first (all 0 j (omega arith))) in
    let rest = run_numbered-le J f w network (n + 1) run each
    (λ k d within. (
    let next : n + suc k ≡ n + 1 + k = omega arith in
    subst (λ (m : ℕ). J m (get_or run k d)) next (all (suc k) d (omega (arith, within))))) in
    let hops = sum_by-append f (journey_hops network n j) (hops_from network (n + 1) run) in
    let travels = sum_by-cons w j run in
    omega (arith, here, rest, hops, travels)

-- a journey of the run has a number, and what holds of all of the run holds of its own
pub record Numbered (P : Crossing → Type 0) (Q : Handed → Type 0) (network : DeclaredNetwork)
    (j : Travel) : Type 0 where
  pub number : ℕ
  pub crossings : All P (journey_crossings network number j)
  pub handed : All Q (journey_handed network number j)

at_place : (P : Crossing → Type 0) (Q : Handed → Type 0) (network : DeclaredNetwork) (n : ℕ) (run : List Travel)
    → All P (crossings_from network n run) → All Q (handed_from network n run)
    → (k : ℕ) (d : Travel) → k < length run → Numbered P Q network (get_or run k d)
at_place P Q network n [] crossings handed k d h = absurd (omega arith)
at_place P Q network n (j ∷ run) crossings handed zero d h = record {
  number = n;
  crossings = all_left P (journey_crossings network n j) (crossings_from network (n + 1) run) crossings;
  handed = all_left Q (journey_handed network n j) (handed_from network (n + 1) run) handed;
}
at_place P Q network n (j ∷ run) crossings handed (suc k) d h =
    at_place P Q network (n + 1) run
    (all_right P (journey_crossings network n j) (crossings_from network (n + 1) run) crossings)
    (all_right Q (journey_handed network n j) (handed_from network (n + 1) run) handed) k d (omega arith)

pub numbered : (P : Crossing → Type 0) (Q : Handed → Type 0) (network : DeclaredNetwork) (run : List Travel)
    (j : Travel) → Contains run j
    → All P (crossings_from network 0 run) → All Q (handed_from network 0 run) → Numbered P Q network j
numbered P Q network run j c crossings handed =
    subst (Numbered P Q network) c.2 (at_place P Q network 0 run crossings handed c.0 j c.1)

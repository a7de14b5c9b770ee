-- What is told of a frame leg by leg, of lists of ports and what happened along each.
use Rattle.std.proofs.Common.{◌≡◌, ◌≢◌, ℕ, zero, suc, ◌<◌, ◌≤◌, List, [], ◌∷◌, ◌++◌, length, take, get_or, All}
use Rattle.std.proofs.Common.{sum_by, refl, sym, ap, ◌∙◌, arith, append_assoc}
use Rattle.std.specs.List.{AllPairs, concat}
use Rattle.std.proofs.lemmas.List.{append-nil}
use Rattle.std.proofs.lemmas.List.Elements.{All-nil, All-append}
use Rattle.std.proofs.lemmas.List.Sums.{sum_by-append}
use Rattle.ats_facts.proofs.Lists.{all_left, all_right}
use Rattle.ats_streams.specs.Branches.{leg_at}
use Rattle.ats_network.specs.Sender.{Sender}
use Rattle.ats_trace.specs.Journey.{Leg, no_leg}
use Rattle.ats_trace.specs.Projections.{Hop, Crossing, Handed, crossings_along, crossings_over, handed_along}
use Rattle.ats_trace.specs.Projections.{handed_over, hops_along, hops_over}
use Rattle.ats_trace.specs.declared.journey.Release.{Release}
use Rattle.ats_trace.proofs.Legs.{pairs_across, pairs_right, place_is, place_of, place_within}
use Rattle.ats_soundness_law.proofs.Parts.{IsPart, part_append, part_same}

-- what is told along each leg, one after another
abbrev pub over : {X : Type 0} → (List ℕ → Leg → List X) → List (List ℕ) → List Leg → List X
over along (path ∷ paths) (leg ∷ legs) = along path leg ++ over along paths legs
over along paths legs = []

-- of each leg what is sent, what crosses and what is handed on
abbrev pub hops_on : ℕ → Release → Sender → List ℕ → Leg → List Hop
hops_on frame release sender path leg = hops_along frame release sender path leg.hops

abbrev pub crossings_on : ℕ → Release → Sender → List ℕ → Leg → List Crossing
crossings_on frame release sender path leg = crossings_along frame release sender path leg.hops leg.ending

abbrev pub handed_on_leg : ℕ → Release → Sender → List ℕ → Leg → List Handed
handed_on_leg frame release sender path leg = handed_along frame release sender path leg.hops

pub hops_are : (frame : ℕ) (release : Release) (sender : Sender) (paths : List (List ℕ)) (legs : List Leg)
    → hops_over frame release sender paths legs ≡ over (hops_on frame release sender) paths legs
hops_are frame release sender [] legs = refl
hops_are frame release sender (path ∷ paths) [] = refl
hops_are frame release sender (path ∷ paths) (leg ∷ legs) =
    ap (λ (hs : List Hop). hops_along frame release sender path leg.hops ++ hs)
    (hops_are frame release sender paths legs)

pub crossings_are : (frame : ℕ) (release : Release) (sender : Sender) (paths : List (List ℕ)) (legs : List Leg)
    → crossings_over frame release sender paths legs ≡ over (crossings_on frame release sender) paths legs
crossings_are frame release sender [] legs = refl
crossings_are frame release sender (path ∷ paths) [] = refl
crossings_are frame release sender (path ∷ paths) (leg ∷ legs) =
    ap (λ (cs : List Crossing). crossings_along frame release sender path leg.hops leg.ending ++ cs)
    (crossings_are frame release sender paths legs)

pub handed_are : (frame : ℕ) (release : Release) (sender : Sender) (paths : List (List ℕ)) (legs : List Leg)
    → handed_over frame release sender paths legs ≡ over (handed_on_leg frame release sender) paths legs
handed_are frame release sender [] legs = refl
handed_are frame release sender (path ∷ paths) [] = refl
handed_are frame release sender (path ∷ paths) (leg ∷ legs) =
    ap (λ (hs : List Handed). handed_along frame release sender path leg.hops ++ hs)
    (handed_are frame release sender paths legs)

-- what is told along the first legs, and along one more
pub over_one_more : {X : Type 0} (along : List ℕ → Leg → List X) (paths : List (List ℕ)) (legs : List Leg) (m : ℕ)
    → m < length paths → m < length legs → over along (take (suc m) paths) (take (suc m) legs)
    ≡ over along (take m paths) (take m legs) ++ along (leg_at paths m) (get_or legs m no_leg)
over_one_more along [] legs m in_paths in_legs = absurd (omega arith)
over_one_more along (path ∷ paths) [] m in_paths in_legs = absurd (omega arith)
over_one_more along (path ∷ paths) (leg ∷ legs) zero in_paths in_legs = append-nil (along path leg)
over_one_more {X} along (path ∷ paths) (leg ∷ legs) (suc m) in_paths in_legs =
    ap (λ (xs : List X). along path leg ++ xs)
    (over_one_more along paths legs m (omega (arith, in_paths)) (omega (arith, in_legs)))
    ∙ sym (append_assoc (along path leg) (over along (take m paths) (take m legs))
    (along (leg_at paths m) (get_or legs m no_leg)))

-- along the first legs some is told of what is told along more
pub over_first : {X : Type 0} (along : List ℕ → Leg → List X) (paths : List (List ℕ)) (legs : List Leg) (m n : ℕ)
    → m ≤ n → IsPart (over along (take m paths) (take m legs)) (over along (take n paths) (take n legs))
over_first along paths legs zero n h = tt
over_first along paths legs (suc m) zero h = absurd (omega arith)
over_first along [] legs (suc m) (suc n) h = tt
over_first along (path ∷ paths) [] (suc m) (suc n) h = tt
over_first along (path ∷ paths) (leg ∷ legs) (suc m) (suc n) h =
    part_append (along path leg) (along path leg) (over along (take m paths) (take m legs))
    (over along (take n paths) (take n legs)) (part_same (along path leg))
    (over_first along paths legs m n (omega (arith, h)))

-- and of what is told along all
pub over_some : {X : Type 0} (along : List ℕ → Leg → List X) (paths : List (List ℕ)) (legs : List Leg) (m : ℕ)
    → IsPart (over along (take m paths) (take m legs)) (over along paths legs)
over_some along paths legs zero = tt
over_some along [] legs (suc m) = tt
over_some along (path ∷ paths) [] (suc m) = tt
over_some along (path ∷ paths) (leg ∷ legs) (suc m) =
    part_append (along path leg) (along path leg) (over along (take m paths) (take m legs)) (over along paths legs)
    (part_same (along path leg)) (over_some along paths legs m)

-- what holds of all that is told along each leg holds of all that is told
pub over_all : {X : Type 0} (P : X → Type 0) (along : List ℕ → Leg → List X) (paths : List (List ℕ)) (legs : List Leg)
    → ((m : ℕ) → m < length paths → m < length legs → All P (along (leg_at paths m) (get_or legs m no_leg)))
    → All P (over along paths legs)
over_all P along [] legs each = All-nil P
over_all P along (path ∷ paths) [] each = All-nil P
over_all P along (path ∷ paths) (leg ∷ legs) each =
    All-append P (along path leg) (over along paths legs) (each 0 (omega arith) (omega arith))
    (over_all P along paths legs
    (λ m in_paths in_legs. each (suc m) (omega (arith, in_paths)) (omega (arith, in_legs))))

-- where nothing weighs along a leg without this port, all that is told weighs nothing if no leg has it
pub over_none : {X : Type 0} (f : X → ℕ) (along : List ℕ → Leg → List X) (port : ℕ) (paths : List (List ℕ))
    (legs : List Leg)
    → ((path : List ℕ) (leg : Leg) → All (λ (p : ℕ). port ≢ p) path → sum_by f (along path leg) ≤ 0)
    → All (λ (p : ℕ). port ≢ p) (concat paths) → sum_by f (over along paths legs) ≤ 0
over_none f along port [] legs none away = omega arith
over_none f along port (path ∷ paths) [] none away = omega arith
over_none f along port (path ∷ paths) (leg ∷ legs) none away =
    omega (
      arith,
      none path leg (all_left (λ (p : ℕ). port ≢ p) path (concat paths) away),
      over_none f along port paths legs none (all_right (λ (p : ℕ). port ≢ p) path (concat paths) away),
      sum_by-append f (along path leg) (over along paths legs),
    )

-- and no more than what is told along the one leg that has it
pub over-le : {X : Type 0} (f : X → ℕ) (along : List ℕ → Leg → List X) (paths : List (List ℕ)) (legs : List Leg)
    (leg hop : ℕ)
    → ((path : List ℕ) (own : Leg) → All (λ (p : ℕ). get_or (leg_at paths leg) hop 0 ≢ p) path
    → sum_by f (along path own) ≤ 0)
    → AllPairs (λ p q. p ≢ q) (concat paths) → leg < length paths → hop < length (leg_at paths leg)
    → sum_by f (over along paths legs) ≤ sum_by f (along (leg_at paths leg) (get_or legs leg no_leg))
over-le f along [] legs leg hop none apart in_legs in_leg = absurd (omega arith)
over-le f along (path ∷ paths) [] leg hop none apart in_legs in_leg = omega arith
over-le f along (path ∷ paths) (own ∷ legs) zero hop none apart in_legs in_leg =
    omega (
      arith,
      over_none f along (get_or path hop 0) paths legs none
          (pairs_across (λ p q. p ≢ q) path (concat paths) apart hop 0 in_leg),
      sum_by-append f (along path own) (over along paths legs),
    )
over-le f along (path ∷ paths) (own ∷ legs) (suc leg) hop none apart in_legs in_leg =
    let port : ℕ = get_or (leg_at paths leg) hop 0 in
    let place : ℕ = place_of paths leg hop in
    let is : get_or (concat paths) place 0 ≡ port = place_is paths leg hop (omega (arith, in_legs)) in_leg in
    omega (
      arith,
      none path own
          (λ k d h same. pairs_across (λ p q. p ≢ q) path (concat paths) apart k d h place 0
          (place_within paths leg hop (omega (arith, in_legs)) in_leg) (sym (is ∙ same))),
      over-le f along paths legs leg hop none (pairs_right (λ p q. p ≢ q) path (concat paths) apart)
          (omega (arith, in_legs)) in_leg,
      sum_by-append f (along path own) (over along paths legs),
    )

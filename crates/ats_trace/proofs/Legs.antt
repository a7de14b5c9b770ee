-- The legs of a stream: its ports, leg by leg.
use Rattle.std.proofs.Common.{◌≡◌, ℕ, zero, suc, ◌+◌, ◌-◌, ◌<◌, inl, inr, List, [], ◌∷◌, ◌++◌, length, drop}
use Rattle.std.proofs.Common.{get_or, All, refl, sym, ap, ◌∙◌, arith, length-append}
use Rattle.std.specs.List.{AllPairs, concat, slice_range}
use Rattle.std.proofs.lemmas.Bool.{cases_lt}
use Rattle.std.proofs.lemmas.List.{append-nil, get_or_append_left, get_or-append-add}
use Rattle.std.proofs.lemmas.List.Elements.{All-nil, All-cons, All-drop, All-take}
use Rattle.std.proofs.lemmas.List.Folds.{drop_split}
use Rattle.std.proofs.lemmas.List.Kept.{AllPairs-cons}
use Rattle.ats_facts.proofs.Lists.{all_left, all_right, pairs_head, pairs_tail}
use Rattle.ats_streams.specs.Branches.{Ascend, AreBranches, leg_at, legs_from, legs_of, trunk_of}
use Rattle.ats_streams.specs.declared.branch.Branch.{Branch}

-- the trunk is the first leg, and those of branches follow
pub legs_cons : (ports : List ℕ) (branches : List Branch)
    → legs_of ports branches ≡ trunk_of ports branches ∷ drop 1 (legs_of ports branches)
legs_cons ports [] = refl
legs_cons ports (b ∷ branches) = refl

-- what holds of all ports holds of those of each leg
pub legs_keep : (P : ℕ → Type 0) (at : ℕ) (ports : List ℕ) (branches : List Branch) → All P ports
    → All (All P) (legs_from at ports branches)
legs_keep P at ports [] all = All-cons (All P) (drop at ports) [] (All-drop P at ports all) (All-nil (All P))
legs_keep P at ports (b ∷ branches) all =
    All-cons (All P) (slice_range ports at b.first) (legs_from b.first ports branches)
    (All-take P (b.first - at) (drop at ports) (All-drop P at ports all)) (legs_keep P b.first ports branches all)

-- the legs, one behind another, are all ports
concat-legs : (at : ℕ) (ports : List ℕ) (branches : List Branch) → Ascend at branches (length ports)
    → concat (legs_from at ports branches) ≡ drop at ports
concat-legs at ports [] ascend = append-nil (drop at ports)
concat-legs at ports (b ∷ branches) ascend =
    ap (λ (l : List ℕ). slice_range ports at b.first ++ l) (concat-legs b.first ports branches ascend.2)
    ∙ sym (drop_split ports at b.first (omega (arith, ascend.0)))

pub concat-legs_of : (ports : List ℕ) (branches : List Branch) → AreBranches ports branches
    → concat (legs_of ports branches) ≡ ports
concat-legs_of ports branches are = concat-legs 0 ports branches are.places

-- what holds of each two of joined lists
pub pairs_left : {X : Type 0} (R : X → X → Type 0) (xs ys : List X) → AllPairs R (xs ++ ys) → AllPairs R xs
pairs_left R [] ys h = λ i j d below within. absurd (omega arith)
pairs_left R (x ∷ xs) ys h =
    AllPairs-cons R x xs (all_left (R x) xs ys (pairs_head R x (xs ++ ys) h))
    (pairs_left R xs ys (pairs_tail R x (xs ++ ys) h))

pub pairs_right : {X : Type 0} (R : X → X → Type 0) (xs ys : List X) → AllPairs R (xs ++ ys) → AllPairs R ys
pairs_right R [] ys h = h
pairs_right R (x ∷ xs) ys h = pairs_right R xs ys (pairs_tail R x (xs ++ ys) h)

pub pairs_across : {X : Type 0} (R : X → X → Type 0) (xs ys : List X) → AllPairs R (xs ++ ys)
    → All (λ (x : X). All (R x) ys) xs
pairs_across {X} R [] ys h = All-nil (λ (x : X). All (R x) ys)
pairs_across {X} R (x ∷ xs) ys h =
    All-cons (λ (x : X). All (R x) ys) x xs (all_right (R x) xs ys (pairs_head R x (xs ++ ys) h))
    (pairs_across R xs ys (pairs_tail R x (xs ++ ys) h))

-- the place of the port at a hop of a leg, among the ports of all legs
abbrev pub place_of : List (List ℕ) → ℕ → ℕ → ℕ
place_of [] leg hop = hop
place_of (path ∷ paths) zero hop = hop
place_of (path ∷ paths) (suc leg) hop = length path + place_of paths leg hop

pub place_is : (paths : List (List ℕ)) (leg hop : ℕ) → leg < length paths → hop < length (leg_at paths leg)
    → get_or (concat paths) (place_of paths leg hop) 0 ≡ get_or (leg_at paths leg) hop 0
place_is [] leg hop in_legs in_leg = absurd (omega arith)
place_is (path ∷ paths) zero hop in_legs in_leg = get_or_append_left path (concat paths) 0 hop in_leg
place_is (path ∷ paths) (suc leg) hop in_legs in_leg =
    get_or-append-add path (concat paths) (place_of paths leg hop) 0 ∙ place_is paths leg hop (omega arith) in_leg

pub place_within : (paths : List (List ℕ)) (leg hop : ℕ) → leg < length paths → hop < length (leg_at paths leg)
    → place_of paths leg hop < length (concat paths)
place_within [] leg hop in_legs in_leg = absurd (omega arith)
place_within (path ∷ paths) zero hop in_legs in_leg = omega (arith, length-append path (concat paths), in_leg)
place_within (path ∷ paths) (suc leg) hop in_legs in_leg =
    omega (arith, length-append path (concat paths), place_within paths leg hop (omega arith) in_leg)

pub place_first : (paths : List (List ℕ)) (hop : ℕ) → place_of paths 0 hop ≡ hop
place_first [] hop = refl
place_first (path ∷ paths) hop = refl

-- the ports of a leg stand one behind another
pub place_next : (paths : List (List ℕ)) (leg hop : ℕ) → place_of paths leg (suc hop) ≡ suc (place_of paths leg hop)
place_next [] leg hop = refl
place_next (path ∷ paths) zero hop = refl
place_next (path ∷ paths) (suc leg) hop = omega (arith, place_next paths leg hop)

-- each place is that of a hop of a leg
pub record Stands (paths : List (List ℕ)) (place : ℕ) : Type 0 where
  pub leg : ℕ
  pub hop : ℕ
  pub in_legs : leg < length paths
  pub in_leg : hop < length (leg_at paths leg)
  pub there : place_of paths leg hop ≡ place

pub stands : (paths : List (List ℕ)) (place : ℕ) → place < length (concat paths) → Stands paths place
stands [] place within = absurd (omega arith)
stands (path ∷ paths) place within = elim (cases_lt place (length path)) as (λ _. Stands (path ∷ paths) place) [
  | inl here ↦ record { leg = 0; hop = place; in_legs = omega arith; in_leg = here; there = refl }
  | inr past ↦ (
      let further : Stands paths (place - length path) =
      stands paths (place - length path) (omega (arith, past, length-append path (concat paths))) in
      record {
        leg = suc further.leg;
        hop = further.hop;
        in_legs = omega (arith, further.in_legs);
        in_leg = further.in_leg;
        there = omega (arith, past, further.there);
      })
]

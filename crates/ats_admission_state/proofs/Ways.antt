-- The legs and the routes that branches make of two lists of the same length.
use Rattle.std.proofs.Common.{◌≡◌, ℕ, zero, suc, ◌+◌, ◌-◌, List, [], ◌∷◌, ◌++◌, length, map, take, drop, get_or}
use Rattle.std.proofs.Common.{sum_by, refl, sym, ap, subst, ◌∙◌, arith}
use Rattle.std.specs.List.{All, slice_range}
use Rattle.std.proofs.lemmas.List.{drop-map, get_or-map, length-map, map-append, take-map}
use Rattle.std.proofs.lemmas.List.Elements.{All-cons, All-drop, All-head, All-nil, All-tail, All-take}
use Rattle.std.proofs.lemmas.List.Sums.{sum_by-cons}
use Rattle.ats_streams.specs.Branches.{AreBranches, BeginEarlier, Ascend, joined, lead_to, leads_from, leg_at}
use Rattle.ats_streams.specs.Branches.{legs_from, legs_of, routes_of}
use Rattle.ats_streams.specs.Path.{IsPath}
use Rattle.ats_streams.specs.declared.branch.Branch.{Branch}
use Rattle.ats_streams.proofs.BranchLemmas.{routes-length}
use Rattle.ats_streams.proofs.RouteLemmas.{each_on_routes}

module _ (f : ℕ → ℕ) where
  leg_at-map : (lists : List (List ℕ)) (n : ℕ) → leg_at (map (map f) lists) n ≡ map f (leg_at lists n)
  leg_at-map [] n = refl
  leg_at-map (list ∷ lists) zero = refl
  leg_at-map (list ∷ lists) (suc n) = leg_at-map lists n

  legs-map : (at : ℕ) (xs : List ℕ) (branches : List Branch)
      → legs_from at (map f xs) branches ≡ map (map f) (legs_from at xs branches)
  legs-map at xs [] = ap (λ (leg : List ℕ). leg ∷ []) (drop-map f at xs)
  legs-map at xs (b ∷ branches) =
      ap (λ (leg : List ℕ). leg ∷ legs_from b.first (map f xs) branches)
      (ap (take (b.first - at)) (drop-map f at xs) ∙ take-map f (b.first - at) (drop at xs))
      ∙ ap (λ (legs : List (List ℕ)). map f (slice_range xs at b.first) ∷ legs) (legs-map b.first xs branches)

  lead-map : (legs leads : List (List ℕ)) (b : Branch)
      → lead_to (map (map f) legs) (map (map f) leads) b ≡ map f (lead_to legs leads b)
  lead-map legs leads b =
      ap (λ (l : List ℕ). l ++ take b.hop (leg_at (map (map f) legs) b.leg)) (leg_at-map leads b.leg)
      ∙ ap (λ (l : List ℕ). map f (leg_at leads b.leg) ++ take b.hop l) (leg_at-map legs b.leg)
      ∙ ap (λ (l : List ℕ). map f (leg_at leads b.leg) ++ l) (take-map f b.hop (leg_at legs b.leg))
      ∙ sym (map-append f (leg_at leads b.leg) (take b.hop (leg_at legs b.leg)))

  leads-map : (legs leads : List (List ℕ)) (branches : List Branch)
      → leads_from (map (map f) legs) (map (map f) leads) branches ≡ map (map f) (leads_from legs leads branches)
  leads-map legs leads [] = refl
  leads-map legs leads (b ∷ branches) =
      ap (λ (more : List (List ℕ)). leads_from (map (map f) legs) more branches)
      (ap (λ (lead : List ℕ). map (map f) leads ++ lead ∷ []) (lead-map legs leads b)
      ∙ sym (map-append (map f) leads (lead_to legs leads b ∷ [])))
      ∙ leads-map legs (leads ++ lead_to legs leads b ∷ []) branches

  joined-map : (leads legs : List (List ℕ))
      → joined (map (map f) leads) (map (map f) legs) ≡ map (map f) (joined leads legs)
  joined-map [] legs = refl
  joined-map (lead ∷ leads) [] = refl
  joined-map (lead ∷ leads) (leg ∷ legs) =
      ap (λ (l : List ℕ). l ∷ joined (map (map f) leads) (map (map f) legs)) (sym (map-append f lead leg))
      ∙ ap (λ (ls : List (List ℕ)). map f (lead ++ leg) ∷ ls) (joined-map leads legs)

  -- the routes of a list's image are the images of its routes
  pub routes-map : (xs : List ℕ) (branches : List Branch)
      → routes_of (map f xs) branches ≡ map (map f) (routes_of xs branches)
  routes-map xs branches =
      let legs : List (List ℕ) = legs_of xs branches in
      ap (λ (l : List (List ℕ)). joined (leads_from l ([] ∷ []) branches) l) (legs-map 0 xs branches)
      ∙ ap (λ (leads : List (List ℕ)). joined leads (map (map f) legs)) (leads-map legs ([] ∷ []) branches)
      ∙ joined-map (leads_from legs ([] ∷ []) branches) legs

  -- so is each of them
  pub route-map : (xs : List ℕ) (branches : List Branch) (leg : ℕ)
      → leg_at (routes_of (map f xs) branches) leg ≡ map f (leg_at (routes_of xs branches) leg)
  route-map xs branches leg =
      ap (λ (routes : List (List ℕ)). leg_at routes leg) (routes-map xs branches)
      ∙ leg_at-map (routes_of xs branches) leg

  begin-map : (legs : List (List ℕ)) (own : ℕ) (branches : List Branch) → BeginEarlier (map (map f) legs) own branches
      → BeginEarlier legs own branches
  begin-map legs own [] begin = tt
  begin-map legs own (b ∷ branches) begin = (
    record {
      earlier = begin.0.earlier;
      at_talker = begin.0.at_talker;
      within = omega (
        arith,
        begin.0.within,
        ap (λ (l : List ℕ). length l) (leg_at-map legs b.leg),
        length-map (leg_at legs b.leg) f,
      );
    },
    begin-map legs (own + 1) branches begin.1,
  )

  -- branches of the image are branches of the list
  pub branches-map : (xs : List ℕ) (branches : List Branch) → AreBranches (map f xs) branches → AreBranches xs branches
  branches-map xs branches are = record {
    places = subst (Ascend 0 branches) (length-map xs f) are.places;
    begin = begin-map (legs_of xs branches) 1 branches
        (subst (λ (legs : List (List ℕ)). BeginEarlier legs 1 branches) (legs-map 0 xs branches) are.begin);
    few = are.few;
  }

  -- and the routes are paths where those of the image are
  pub paths-map : (xs : List ℕ) (branches : List Branch) → All IsPath (routes_of (map f xs) branches)
      → All IsPath (routes_of xs branches)
  paths-map xs branches all k d h =
      let routes : List (List ℕ) = routes_of xs branches in
      let images : All IsPath (map (map f) routes) = subst (All IsPath) (routes-map xs branches) all in
      let image : IsPath (get_or (map (map f) routes) k []) =
      images k [] (omega (arith, h, length-map routes (map f))) in
      let same : length (get_or (map (map f) routes) k []) ≡ length (get_or routes k d) =
      ap (λ (l : List ℕ). length l) (get_or-map (map f) routes k d [] h) ∙ length-map (get_or routes k d) f in
      record { least = omega (arith, same, image.least); most = omega (arith, same, image.most) }

  -- a sum over an image, where each element gives what its image gives
  pub sum-map : (given image : ℕ → ℕ) (xs : List ℕ) → All (λ x. given x ≡ image (f x)) xs
      → sum_by given xs ≡ sum_by image (map f xs)
  sum-map given image [] all = refl
  sum-map given image (x ∷ xs) all =
      sum_by-cons given x xs
      ∙ ap (λ (n : ℕ). n + sum_by given xs) (All-head (λ x. given x ≡ image (f x)) x xs all)
      ∙ ap (λ (n : ℕ). image (f x) + n)
      (sum-map given image xs (All-tail (λ x. given x ≡ image (f x)) x xs all))
      ∙ sym (sum_by-cons image (f x) (map f xs))

at_holds : (P : ℕ → Type 0) (lists : List (List ℕ)) (n : ℕ) → All (All P) lists → All P (leg_at lists n)
at_holds P [] n all = All-nil P
at_holds P (list ∷ lists) zero all = All-head (All P) list lists all
at_holds P (list ∷ lists) (suc n) all = at_holds P lists n (All-tail (All P) list lists all)

legs_hold : (P : ℕ → Type 0) (at : ℕ) (xs : List ℕ) (branches : List Branch) → All P xs
    → All (All P) (legs_from at xs branches)
legs_hold P at xs [] all = All-cons (All P) (drop at xs) [] (All-drop P at xs all) (All-nil (All P))
legs_hold P at xs (b ∷ branches) all =
    All-cons (All P) (slice_range xs at b.first) (legs_from b.first xs branches)
    (All-take P (b.first - at) (drop at xs) (All-drop P at xs all))
    (legs_hold P b.first xs branches all)

-- what holds of each element holds of each of a leg, as it is read
pub leg_holds : (P : ℕ → Type 0) (xs : List ℕ) (branches : List Branch) (leg : ℕ) (own : List ℕ) → All P xs
    → own ≡ leg_at (legs_of xs branches) leg → All P own
leg_holds P xs branches leg own all own_is =
    subst (All P) (sym own_is) (at_holds P (legs_of xs branches) leg (legs_hold P 0 xs branches all))

-- what holds of each element holds of each on a route
pub route_holds : (P : ℕ → Type 0) (xs : List ℕ) (branches : List Branch) (leg : ℕ) → All P xs
    → All P (leg_at (routes_of xs branches) leg)
route_holds P xs branches leg all = at_holds P (routes_of xs branches) leg (each_on_routes P xs branches all)

-- the routes of a list, under a name of their own; there is one more than branches
abbrev pub routes_to : List ℕ → List Branch → List (List ℕ)
routes_to xs branches = routes_of xs branches

pub ways_many : (xs : List ℕ) (branches : List Branch) → length (routes_to xs branches) ≡ suc (length branches)
ways_many xs branches = routes-length xs branches

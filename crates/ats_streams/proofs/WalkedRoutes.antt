-- A route, made from its last leg on: in front of the ports so far come those of the leg where this one begins.
use Rattle.std.proofs.Common.{◌≡◌, ℕ, ◌+◌, ◌-◌, ◌<◌, ◌≤◌, List, [], ◌++◌, length, take, get_or}
use Rattle.std.proofs.Common.{sym, ap, subst, ◌∙◌, arith, append_assoc, length-append, length-take}
use Rattle.std.specs.List.{All}
use Rattle.ats_streams.specs.Branches.{AreBranches, BeginsEarlier, leads_of, leg_at, legs_of, no_branch, routes_of}
use Rattle.ats_streams.specs.Path.{IsPath}
use Rattle.ats_streams.specs.declared.branch.Branch.{Branch}
use Rattle.ats_streams.specs.declared.path.TheConstants.{MAX_PORTS}
use Rattle.ats_streams.proofs.BranchLemmas.{begins_at, lead_of, lead_of_trunk, route-at, routes-length}

-- the ports in front of a leg, and these behind them, are those of a route
pub record IsBehind (ports : List ℕ) (branches : List Branch) (leg at : ℕ) (route : List ℕ) : Type 0 where
  pub whole : leg_at (routes_of ports branches) leg ≡ leg_at (leads_of ports branches) at ++ route
  pub within : at ≤ length branches

-- at first those of its own leg
pub behind_first : (ports : List ℕ) (branches : List Branch) (leg : ℕ) → leg ≤ length branches
    → IsBehind ports branches leg leg (leg_at (legs_of ports branches) leg)
behind_first ports branches leg within = record { whole = route-at ports branches leg [] within; within = within }

-- each route has 1 to 64 ports
pub route_path : (ports : List ℕ) (branches : List Branch) (leg : ℕ) → All IsPath (routes_of ports branches)
    → leg ≤ length branches → IsPath (leg_at (routes_of ports branches) leg)
route_path ports branches leg routes within = routes leg [] (omega (arith, within, routes-length ports branches))

-- then as many as its hop tells of the leg where this one begins
pub behind_next : (ports : List ℕ) (branches : List Branch) (leg at : ℕ) (route : List ℕ) → AreBranches ports branches
    → IsBehind ports branches leg at route → 0 < at
    → IsBehind ports branches leg (get_or branches (at - 1) no_branch).leg
    (take (get_or branches (at - 1) no_branch).hop
    (leg_at (legs_of ports branches) (get_or branches (at - 1) no_branch).leg) ++ route)
behind_next ports branches leg at route are so_far some =
    let b : Branch = get_or branches (at - 1) no_branch in
    let front : List ℕ = take b.hop (leg_at (legs_of ports branches) b.leg) in
    let below : at - 1 < length branches = omega (arith, some, so_far.within) in
    let begins : BeginsEarlier (legs_of ports branches) (1 + (at - 1)) b =
    begins_at (legs_of ports branches) 1 branches (at - 1) are.begin below in
    let next : at ≡ 1 + (at - 1) = omega (arith, some) in
    let lead : leg_at (leads_of ports branches) at ≡ leg_at (leads_of ports branches) b.leg ++ front =
    ap (λ (k : ℕ). leg_at (leads_of ports branches) k) next ∙ lead_of ports branches (at - 1) are below in
    record {
      whole = so_far.whole ∙ ap (λ (l : List ℕ). l ++ route) lead
          ∙ append_assoc (leg_at (leads_of ports branches) b.leg) front route;
      within = omega (arith, begins.earlier, so_far.within);
    }

-- and there is room for them
pub behind_fits : (ports : List ℕ) (branches : List Branch) (leg at : ℕ) (route : List ℕ)
    → All IsPath (routes_of ports branches) → leg ≤ length branches → IsBehind ports branches leg at route
    → length route ≤ MAX_PORTS
behind_fits ports branches leg at route routes within so_far =
    omega (
      arith,
      (route_path ports branches leg routes within).most,
      ap (λ (l : List ℕ). length l) so_far.whole,
      length-append (leg_at (leads_of ports branches) at) route,
    )

-- a branch begins within its leg
pub hop_within : (ports : List ℕ) (branches : List Branch) (at : ℕ) → AreBranches ports branches
    → at ≤ length branches → 0 < at → (get_or branches (at - 1) no_branch).hop
    < length (leg_at (legs_of ports branches) (get_or branches (at - 1) no_branch).leg)
hop_within ports branches at are within some =
    (begins_at (legs_of ports branches) 1 branches (at - 1) are.begin (omega (arith, some, within))).within

-- in front of the trunk is nothing
pub behind_all : (ports : List ℕ) (branches : List Branch) (leg at : ℕ) (route : List ℕ)
    → IsBehind ports branches leg at route → at ≡ 0 → route ≡ leg_at (routes_of ports branches) leg
behind_all ports branches leg at route so_far none =
    sym (so_far.whole ∙ ap (λ (l : List ℕ). l ++ route)
    (ap (λ (k : ℕ). leg_at (leads_of ports branches) k) none ∙ lead_of_trunk ports branches))

-- the same, where the ports of the leg are given under another name
pub front_next : (ports : List ℕ) (branches : List Branch) (leg at : ℕ) (route before : List ℕ)
    → AreBranches ports branches → before ≡ leg_at (legs_of ports branches) (get_or branches (at - 1) no_branch).leg
    → IsBehind ports branches leg at route → 0 < at
    → IsBehind ports branches leg (get_or branches (at - 1) no_branch).leg
    (take (get_or branches (at - 1) no_branch).hop before ++ route)
front_next ports branches leg at route before are is so_far some =
    let b : Branch = get_or branches (at - 1) no_branch in
    subst (λ (l : List ℕ). IsBehind ports branches leg b.leg (take b.hop l ++ route)) (sym is)
    (behind_next ports branches leg at route are so_far some)

pub front_fits : (ports : List ℕ) (branches : List Branch) (leg at : ℕ) (route before : List ℕ)
    → AreBranches ports branches → before ≡ leg_at (legs_of ports branches) (get_or branches (at - 1) no_branch).leg
    → All IsPath (routes_of ports branches) → leg ≤ length branches → IsBehind ports branches leg at route → 0 < at
    → length (take (get_or branches (at - 1) no_branch).hop before) + length route ≤ MAX_PORTS
front_fits ports branches leg at route before are is routes within so_far some =
    let b : Branch = get_or branches (at - 1) no_branch in
    omega (
      arith,
      length-append (take b.hop before) route,
      behind_fits ports branches leg b.leg (take b.hop before ++ route) routes within
          (front_next ports branches leg at route before are is so_far some),
    )

pub front_whole : (ports : List ℕ) (branches : List Branch) (at : ℕ) (before : List ℕ) → AreBranches ports branches
    → before ≡ leg_at (legs_of ports branches) (get_or branches (at - 1) no_branch).leg
    → at ≤ length branches → 0 < at
    → (get_or branches (at - 1) no_branch).hop ≡ length (take (get_or branches (at - 1) no_branch).hop before)
front_whole ports branches at before are is within some =
    let b : Branch = get_or branches (at - 1) no_branch in
    omega (
      arith,
      hop_within ports branches at are within some,
      ap (λ (l : List ℕ). length l) is,
      length-take b.hop before,
    )

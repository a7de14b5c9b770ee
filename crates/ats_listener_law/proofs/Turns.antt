-- A route turns off an earlier one.
use Rattle.std.proofs.Common.{◌≡◌, ℕ, ◌+◌, ◌-◌, ◌≤◌, List, [], ◌++◌, length, take, get_or, sym, ap, ◌∙◌}
use Rattle.std.proofs.Common.{arith, length-append}
use Rattle.std.proofs.Math.Seq.{take-append-add}
use Rattle.ats_streams.specs.Branches.{BeginsEarlier, leads_of, leg_at, legs_of, no_branch, routes_of}
use Rattle.ats_streams.specs.Branches.{trunk_of}
use Rattle.ats_streams.specs.declared.branch.Branch.{Branch}
use Rattle.ats_streams.proofs.BranchLemmas.{begins_at, lead_of, lead_of_trunk, route-at, routes-length}
use Rattle.ats_listener_law.specs.Routes.{RoutesTurnOff, up_to}

-- the first route is the trunk
pub first_route : (ports : List ℕ) (branches : List Branch)
    → leg_at (routes_of ports branches) 0 ≡ trunk_of ports branches
first_route ports branches =
    route-at ports branches 0 [] (omega arith)
    ∙ ap (λ (lead : List ℕ). lead ++ trunk_of ports branches) (lead_of_trunk ports branches)

-- and what leads to a branch is an earlier one, up to where the branch begins
lead_is : (ports : List ℕ) (branches : List Branch) (b : Branch) → b.leg ≤ length branches
    → leg_at (leads_of ports branches) b.leg ++ take b.hop (leg_at (legs_of ports branches) b.leg)
    ≡ up_to ports branches b
lead_is ports branches b within =
    let lead : List ℕ = leg_at (leads_of ports branches) b.leg in
    let leg : List ℕ = leg_at (legs_of ports branches) b.leg in
    let route : List ℕ = leg_at (routes_of ports branches) b.leg in
    let whole : route ≡ lead ++ leg = route-at ports branches b.leg [] within in
    let long : length route ≡ length (lead ++ leg) = ap (λ (l : List ℕ). length l) whole in
    let place : length lead + b.hop ≡ length route - length leg + b.hop =
    omega (arith, long, length-append lead leg) in
    sym (take-append-add lead leg b.hop)
    ∙ ap (λ (l : List ℕ). take (length lead + b.hop) l) (sym whole)
    ∙ ap (λ (k : ℕ). take k route) place

pub routes_turn_off : RoutesTurnOff
routes_turn_off ports branches are = record {
  trunk = first_route ports branches;
  each = λ n within. (
      let b : Branch = get_or branches n no_branch in
      let begins : BeginsEarlier (legs_of ports branches) (1 + n) b =
      begins_at (legs_of ports branches) 1 branches n are.begin within in
      route-at ports branches (1 + n) [] (omega (arith, within))
      ∙ ap (λ (lead : List ℕ). lead ++ leg_at (legs_of ports branches) (1 + n))
      (lead_of ports branches n are within ∙ lead_is ports branches b (omega (arith, begins.earlier, within))));
  many = routes-length ports branches ∙ (omega arith);
}

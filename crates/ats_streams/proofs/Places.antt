-- The places of a leg's ports among all ports.
use Rattle.std.proofs.Common.{◌≡◌, ℕ, zero, suc, ◌+◌, ◌-◌, ◌<◌, ◌≤◌, List, [], ◌∷◌, length, drop, get_or}
use Rattle.std.proofs.Common.{sym, ◌∙◌, arith, length-drop, length-take}
use Rattle.std.proofs.lemmas.List.{get_or-drop, get_or-take}
use Rattle.ats_streams.specs.Branches.{Ascend, first_from, leg_at, legs_from, no_branch}
use Rattle.ats_streams.specs.declared.branch.Branch.{Branch}

-- the leg of a branch has a port
pub branch_some : (at : ℕ) (ports : List ℕ) (branches : List Branch) (n : ℕ) → Ascend at branches (length ports)
    → n < length branches → 0 < length (leg_at (legs_from at ports branches) (suc n))
branch_some at ports [] n ascend within = absurd (omega arith)
branch_some at ports (b ∷ []) zero ascend within = omega (arith, length-drop b.first ports, ascend.1)
branch_some at ports (b ∷ c ∷ branches) zero ascend within = omega (
  arith,
  length-take (c.first - b.first) (drop b.first ports),
  length-drop b.first ports,
  ascend.1,
  ascend.2.0,
  ascend.2.1,
)
branch_some at ports (b ∷ branches) (suc n) ascend within =
    branch_some b.first ports branches n ascend.2 (omega arith)

-- the place of a port of a leg
pub record IsPlace (at : ℕ) (ports : List ℕ) (branches : List Branch) (leg hop : ℕ) : Type 0 where
  pub within : first_from at branches leg + hop < length ports
  pub port : get_or ports (first_from at branches leg + hop) 0
      ≡ get_or (leg_at (legs_from at ports branches) leg) hop 0
  pub below : leg < length branches → first_from at branches leg + hop < (get_or branches leg no_branch).first

place_on : (at : ℕ) (ports : List ℕ) (b : Branch) (branches : List Branch) (n hop : ℕ)
    → IsPlace b.first ports branches n hop → IsPlace at ports (b ∷ branches) (suc n) hop
place_on at ports b branches zero hop s =
    record { within = s.within; port = s.port; below = λ h. s.below (omega (arith, h)) }
place_on at ports b branches (suc n) hop s =
    record { within = s.within; port = s.port; below = λ h. s.below (omega (arith, h)) }

pub is_place : (at : ℕ) (ports : List ℕ) (branches : List Branch) (leg hop : ℕ) → Ascend at branches (length ports)
    → at ≤ length ports → leg ≤ length branches → hop < length (leg_at (legs_from at ports branches) leg)
    → IsPlace at ports branches leg hop
is_place at ports [] zero hop ascend from inside within = record {
  within = omega (arith, within, from, length-drop at ports);
  port = sym (get_or-drop at ports hop 0);
  below = λ h. absurd (omega (arith, h));
}
is_place at ports [] (suc n) hop ascend from inside within = absurd (omega (arith, inside))
is_place at ports (b ∷ branches) zero hop ascend from inside within =
    let short : hop < b.first - at = omega (arith, within, length-take (b.first - at) (drop at ports)) in
    record {
      within = omega (arith, short, ascend.1);
      port = sym (get_or-take (b.first - at) (drop at ports) hop 0 short ∙ get_or-drop at ports hop 0);
      below = λ h. omega (arith, short);
    }
is_place at ports (b ∷ branches) (suc n) hop ascend from inside within =
    place_on at ports b branches n hop
    (is_place b.first ports branches n hop ascend.2 (omega (arith, ascend.1)) (omega (arith, inside)) within)

-- The port before the one at a place among a sender's ports.
use Rattle.std.proofs.Common.{◌≡◌, ◌≢◌, ℕ, zero, suc, ◌+◌, ◌-◌, ◌<◌, ◌≤◌, List, [], ◌∷◌, length, get_or, Some, None}
use Rattle.std.proofs.Common.{◌⊎◌, inl, inr, refl, sym, ap, ◌∙◌, arith, length-drop, length-take, drop}
use Rattle.std.specs.List.{concat, slice_range}
use Rattle.ats_streams.specs.Branches.{Ascend, BeginsEarlier, first_from, legs_from, legs_of, no_branch}
use Rattle.ats_streams.specs.declared.branch.Branch.{Branch}
use Rattle.ats_streams.proofs.BranchLemmas.{begins_at, behind_or_talker, legs-length}
use Rattle.ats_streams.proofs.Places.{branch_some}
use Rattle.ats_topology.specs.Topology.{DeclaredTopology}
use Rattle.ats_network.specs.Class.{port_before}
use Rattle.ats_network.specs.Sender.{Sender}
use Rattle.ats_network.specs.Senders.{IsSender}
use Rattle.ats_trace.proofs.Legs.{Stands, concat-legs_of, place_is, place_of, place_within, stands}
use Rattle.ats_route_law.specs.Laws.{before_hop, port_to, ports_of_leg}
use Rattle.ats_route_law.proofs.Before.{IsSomewhere, port_before_is_one, somewhere}

-- the place of a hop is that of its leg's first port, and the hops from there
place_from : (at : ℕ) (ports : List ℕ) (branches : List Branch) (leg hop : ℕ) → Ascend at branches (length ports)
    → leg ≤ length branches → at + place_of (legs_from at ports branches) leg hop ≡ first_from at branches leg + hop
place_from at ports [] zero hop ascend within = refl
place_from at ports [] (suc leg) hop ascend within = absurd (omega arith)
place_from at ports (b ∷ branches) zero hop ascend within = refl
place_from at ports (b ∷ branches) (suc leg) hop ascend within =
    let long : length (slice_range ports at b.first) ≡ b.first - at =
    omega (arith, length-take (b.first - at) (drop at ports), length-drop at ports, ascend.0, ascend.1) in
    let further : b.first + place_of (legs_from b.first ports branches) leg hop
    ≡ first_from b.first branches leg + hop = place_from b.first ports branches leg hop ascend.2 (omega arith) in
    omega (arith, long, further, ascend.0, first_step at b branches leg)
  where
    first_step : (at : ℕ) (b : Branch) (branches : List Branch) (n : ℕ)
        → first_from b.first branches n ≡ first_from at (b ∷ branches) (suc n)
    first_step at b branches zero = refl
    first_step at b branches (suc n) = refl

-- the port at a hop of a leg
at_place : (topology : DeclaredTopology) (s : Sender) (leg hop place : ℕ) → IsSender topology s
    → leg ≤ length s.branches → hop < length (ports_of_leg s leg) → first_from 0 s.branches leg + hop ≡ place
    → get_or s.ports place 0 ≡ get_or (ports_of_leg s leg) hop 0
at_place topology s leg hop place is in_legs in_leg there =
    let legs : List (List ℕ) = legs_of s.ports s.branches in
    let at : place_of legs leg hop ≡ place =
    omega (arith, place_from 0 s.ports s.branches leg hop is.branches.places in_legs, there) in
    ap (λ (l : List ℕ). get_or l place 0) (sym (concat-legs_of s.ports s.branches is.branches))
    ∙ ap (λ (k : ℕ). get_or (concat legs) k 0) (sym at)
    ∙ place_is legs leg hop (omega (arith, legs-length 0 s.ports s.branches, in_legs)) in_leg

-- where a branch begins, it is the one that leads there, if one does
pub before_branch : (topology : DeclaredTopology) (s : Sender) (n : ℕ) → IsSender topology s → n < length s.branches
    → port_before s (get_or s.ports (get_or s.branches n no_branch).first 0)
    ≡ port_to s (get_or s.branches n no_branch)
before_branch topology s n is within =
    let some : 0 < length (ports_of_leg s (suc n)) = branch_some 0 s.ports s.branches n is.branches.places within in
    ap (port_before s) (at_place topology s (suc n) 0 (get_or s.branches n no_branch).first is (omega arith) some
    (omega arith))
    ∙ port_before_is_one topology s (suc n) 0 is (omega arith) some

-- to the talker none does
pub none_leads : (s : Sender) (b : Branch) → first_from 0 s.branches b.leg + b.hop ≡ 0 → port_to s b ≡ None
none_leads s b first =
    let zero : b.hop ≡ 0 = omega (arith, first) in
    ap (before_hop (ports_of_leg s b.leg)) zero

-- the place of the port that leads to where a branch begins
pub record LeadsTo (s : Sender) (b : Branch) (place : ℕ) : Type 0 where
  pub at : port_to s b ≡ Some (get_or s.ports place 0)
  pub within : place < length s.ports

pub leads_to : (topology : DeclaredTopology) (s : Sender) (n place : ℕ) → IsSender topology s → n < length s.branches
    → place + 1 ≡ first_from 0 s.branches (get_or s.branches n no_branch).leg + (get_or s.branches n no_branch).hop
    → LeadsTo s (get_or s.branches n no_branch) place
leads_to topology s n place is within there = by (behind_or_talker legs (1 + n) b begins)
  where
    b : Branch
    b = get_or s.branches n no_branch

    legs : List (List ℕ)
    legs = legs_of s.ports s.branches

    begins : BeginsEarlier (legs_of s.ports s.branches) (1 + n) (get_or s.branches n no_branch)
    begins = begins_at legs 1 s.branches n is.branches.begin within

    by : (1 ≤ b.hop) ⊎ ((b.leg ≡ 0) × (b.hop ≡ 0)) → LeadsTo s (get_or s.branches n no_branch) place
    by (inl later) =
        let in_legs : b.leg ≤ length s.branches = omega (arith, begins.earlier, within) in
        let in_leg : b.hop - 1 < length (ports_of_leg s b.leg) = omega (arith, begins.within, later) in
        let below : place_of legs b.leg (b.hop - 1) < length (concat legs) =
        place_within legs b.leg (b.hop - 1) (omega (arith, legs-length 0 s.ports s.branches, in_legs)) in_leg in
        let hop_is : b.hop ≡ suc (b.hop - 1) = omega (arith, later) in
        record {
          at = ap (before_hop (ports_of_leg s b.leg)) hop_is
              ∙ ap (λ (p : ℕ). Some p) (sym (at_place topology s b.leg (b.hop - 1) place is in_legs in_leg
              (omega (arith, later, there))));
          within = omega (
            arith,
            later,
            there,
            below,
            place_from 0 s.ports s.branches b.leg (b.hop - 1) is.branches.places in_legs,
            ap (λ (l : List ℕ). length l) (concat-legs_of s.ports s.branches is.branches),
          );
        }
    by (inr at) = absurd (omega (arith, there, at.1, ap (first_from 0 s.branches) at.0))

-- before the port at the first place there is none
pub none_before_first : (topology : DeclaredTopology) (s : Sender) → IsSender topology s
    → port_before s (get_or s.ports 0 0) ≡ None
none_before_first topology s is =
    let some : 0 < length (ports_of_leg s 0) = is.tree.trunk.some in
    ap (port_before s) (at_place topology s 0 0 0 is (omega arith) some refl)
    ∙ port_before_is_one topology s 0 0 is (omega arith) some

-- and at each other place but the first it is the one at the place before
pub before_place : (topology : DeclaredTopology) (s : Sender) (place : ℕ) → IsSender topology s → 1 ≤ place
    → place < length s.ports → ((n : ℕ) → n < length s.branches → (get_or s.branches n no_branch).first ≢ place)
    → port_before s (get_or s.ports place 0) ≡ Some (get_or s.ports (place - 1) 0)
before_place topology s place is later within elsewhere =
    by at.leg at.hop (omega (arith, at.in_legs, legs-length 0 s.ports s.branches)) at.in_leg (omega (
      arith,
      at.there,
      place_from 0 s.ports s.branches at.leg at.hop is.branches.places
          (omega (arith, at.in_legs, legs-length 0 s.ports s.branches)),
    ))
  where
    at : Stands (legs_of s.ports s.branches) place
    at = stands (legs_of s.ports s.branches) place
        (omega (arith, within, ap (λ (l : List ℕ). length l) (concat-legs_of s.ports s.branches is.branches)))

    by : (leg hop : ℕ) → leg ≤ length s.branches → hop < length (ports_of_leg s leg)
        → first_from 0 s.branches leg + hop ≡ place
        → port_before s (get_or s.ports place 0) ≡ Some (get_or s.ports (place - 1) 0)
    by zero zero in_legs in_leg there = absurd (omega (arith, later, there))
    by (suc n) zero in_legs in_leg there = absurd (elsewhere n (omega arith) (omega (arith, there)))
    by leg (suc hop) in_legs in_leg there =
        ap (port_before s) (at_place topology s leg (suc hop) place is in_legs in_leg there)
        ∙ port_before_is_one topology s leg (suc hop) is in_legs in_leg
        ∙ ap (λ (p : ℕ). Some p)
        (sym (at_place topology s leg hop (place - 1) is in_legs (omega arith) (omega (arith, there))))

-- a port that has one before it is at a place among all
pub record StandsBehind (s : Sender) (port : ℕ) : Type 0 where
  pub place : ℕ
  pub within : place < length s.ports
  pub is : get_or s.ports place 0 ≡ port

pub stands_behind : (topology : DeclaredTopology) (s : Sender) (port before : ℕ) → IsSender topology s
    → port_before s port ≡ Some before → StandsBehind s port
stands_behind topology s port before is has =
    let at : IsSomewhere s port = somewhere topology s port before is has in
    let in_legs : at.leg ≤ length s.branches = omega (arith, at.at.in_legs, legs-length 0 s.ports s.branches) in
    record {
      place = first_from 0 s.branches at.leg + at.hop;
      within = omega (
        arith,
        place_within (legs_of s.ports s.branches) at.leg at.hop at.at.in_legs at.at.in_leg,
        place_from 0 s.ports s.branches at.leg at.hop is.branches.places in_legs,
        ap (λ (l : List ℕ). length l) (concat-legs_of s.ports s.branches is.branches),
      );
      is = at_place topology s at.leg at.hop (first_from 0 s.branches at.leg + at.hop) is in_legs at.at.in_leg refl
          ∙ at.at.is;
    }

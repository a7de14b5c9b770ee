-- The ports of a leg among those of its stream, and how many schedulers its legs have.
use Rattle.std.proofs.Common.{◌≡◌, ◌∙◌, ℕ, zero, suc, ◌+◌, ◌-◌, ◌<◌, ◌≤◌, List, [], ◌∷◌, length, drop, get_or, take}
use Rattle.std.proofs.Common.{inl, inr, refl, sym, ap, subst, arith, length-append, length-drop, length-take}
use Rattle.std.specs.List.{flat_map, slice_range}
use Rattle.std.proofs.lemmas.Bool.{cases_lt}
use Rattle.std.proofs.lemmas.List.{get_or-drop, get_or-take, length-map}
use Rattle.ats_group.specs.declared.member.Member.{Member}
use Rattle.ats_streams.specs.Branches.{Ascend, AreBranches, first_from, leg_at, legs_from, legs_of, no_branch}
use Rattle.ats_streams.specs.declared.branch.Branch.{Branch}
use Rattle.ats_streams.proofs.BranchLemmas.{IsPlaced, Spans, placed, spans_between, spans_last}
use Rattle.ats_topology.specs.Topology.{DeclaredTopology}
use Rattle.ats_network.specs.Sender.{Sender}
use Rattle.ats_schedulers.specs.Schedulers.{leg_members, member_behind, ports_to_bridges}

-- a leg begins at a port that there is
first_below : (at : ℕ) (branches : List Branch) (end leg : ℕ) → Ascend at branches end → at < end
    → leg ≤ length branches → first_from at branches leg < end
first_below at branches end zero ascend below within = below
first_below at [] end (suc n) ascend below within = absurd (omega arith)
first_below at (b ∷ branches) end (suc n) ascend below within =
    subst (λ (k : ℕ). k < end) (first_step at b branches n)
    (first_below b.first branches end n ascend.2 ascend.1 (omega arith))
  where
    first_step : (at : ℕ) (b : Branch) (branches : List Branch) (n : ℕ)
        → first_from b.first branches n ≡ first_from at (b ∷ branches) (suc n)
    first_step at b branches zero = refl
    first_step at b branches (suc n) = refl

-- the ports of a leg stand behind one another among those of the stream, from this place on
pub record IsLeg (ports path : List ℕ) (first : ℕ) : Type 0 where
  pub some : 1 ≤ length path
  pub within : first + length path ≤ length ports
  pub port : (hop : ℕ) → hop < length path → get_or ports (first + hop) 0 ≡ get_or path hop 0

spanned : (ports path : List ℕ) (from to : ℕ) → from < to → to ≤ length ports → slice_range ports from to ≡ path
    → IsLeg ports path from
spanned ports path from to ascends within is =
    let long : length path ≡ to - from =
    sym (ap (λ (l : List ℕ). length l) is)
    ∙ omega (arith, length-take (to - from) (drop from ports), length-drop from ports, ascends, within) in
    record {
      some = omega (arith, long, ascends);
      within = omega (arith, long, ascends, within);
      port = λ hop below.
          (sym (get_or-drop from ports hop 0)
          ∙ sym (get_or-take (to - from) (drop from ports) hop 0 (omega (arith, below, long)))
          ∙ ap (λ (l : List ℕ). get_or l hop 0) is);
    }

pub leg_is : (ports : List ℕ) (branches : List Branch) (leg : ℕ) → AreBranches ports branches → 1 ≤ length ports
    → leg ≤ length branches → IsLeg ports (leg_at (legs_of ports branches) leg) (first_from 0 branches leg)
leg_is ports branches leg are some within = elim (cases_lt leg (length branches)) [
  | inl before ↦
      (let span : Spans ports branches leg (first_from 0 branches leg) (get_or branches leg no_branch).first =
      spans_between ports branches leg are before in
      let one : IsPlaced (first_from 0 branches leg) (get_or branches leg no_branch).first (length ports) =
      placed 0 branches (length ports) leg are.places before in
      spanned ports (leg_at (legs_of ports branches) leg) (first_from 0 branches leg)
      (get_or branches leg no_branch).first one.ascends span.within span.leg_is)
  | inr last ↦
      (let same : leg ≡ length branches = omega (arith, within, last) in
      let n : ℕ = length branches in
      let span : Spans ports branches n (first_from 0 branches n) (length ports) = spans_last ports branches are in
      subst (λ (k : ℕ). IsLeg ports (leg_at (legs_of ports branches) k) (first_from 0 branches k)) (sym same)
      (spanned ports (leg_at (legs_of ports branches) n) (first_from 0 branches n) (length ports)
      (first_below 0 branches (length ports) n are.places some (omega arith)) span.within span.leg_is))
]

-- a leg has a scheduler behind each of its ports but the last
pub leg_count : (topology : DeclaredTopology) (s : Sender) (path : List ℕ)
    → length (leg_members topology s path) ≡ length path - 1
leg_count topology s path =
    omega (
      arith,
      length-map (ports_to_bridges path) (member_behind topology s),
      length-take (length path - 1) path,
    )

-- so legs before one have as many as ports, but one for each leg
pub counted_before : (topology : DeclaredTopology) (s : Sender) (at : ℕ) (ports : List ℕ) (branches : List Branch)
    (leg : ℕ)
    → Ascend at branches (length ports) → leg ≤ length branches
    → length (flat_map (leg_members topology s) (take leg (legs_from at ports branches))) + leg + at
    ≡ first_from at branches leg
counted_before topology s at ports branches zero ascend within = omega arith
counted_before topology s at ports [] (suc n) ascend within = absurd (omega arith)
counted_before topology s at ports (b ∷ branches) (suc n) ascend within =
    let own : List ℕ = slice_range ports at b.first in
    let rest : List Member = flat_map (leg_members topology s) (take n (legs_from b.first ports branches)) in
    let long : length own ≡ b.first - at =
    omega (arith, length-take (b.first - at) (drop at ports), length-drop at ports, ascend.0, ascend.1) in
    let further : length rest + n + b.first ≡ first_from b.first branches n =
    counted_before topology s b.first ports branches n ascend.2 (omega arith) in
    omega (
      arith,
      length-append (leg_members topology s own) rest,
      leg_count topology s own,
      long,
      further,
      ascend.0,
      first_step at b branches n,
    )
  where
    first_step : (at : ℕ) (b : Branch) (branches : List Branch) (n : ℕ)
        → first_from b.first branches n ≡ first_from at (b ∷ branches) (suc n)
    first_step at b branches zero = refl
    first_step at b branches (suc n) = refl

-- and all legs no more than ports
pub counted_all : (topology : DeclaredTopology) (s : Sender) (at : ℕ) (ports : List ℕ) (branches : List Branch)
    → Ascend at branches (length ports)
    → length (flat_map (leg_members topology s) (legs_from at ports branches)) ≤ length ports - at
counted_all topology s at ports [] ascend =
    omega (
      arith,
      length-append (leg_members topology s (drop at ports)) [],
      leg_count topology s (drop at ports),
      length-drop at ports,
    )
counted_all topology s at ports (b ∷ branches) ascend =
    let own : List ℕ = slice_range ports at b.first in
    let rest : List Member = flat_map (leg_members topology s) (legs_from b.first ports branches) in
    omega (
      arith,
      length-append (leg_members topology s own) rest,
      leg_count topology s own,
      length-take (b.first - at) (drop at ports),
      length-drop at ports,
      ascend.0,
      ascend.1,
      counted_all topology s b.first ports branches ascend.2,
    )

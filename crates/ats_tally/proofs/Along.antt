-- A sum along a route, from its last leg on: behind the sum so far come the ports of the leg where this one begins.
use Rattle.std.proofs.Common.{◌≡◌, ℕ, ◌+◌, ◌-◌, ◌*◌, ◌<◌, ◌≤◌, ◌^◌, List, ◌++◌, length, take, drop, get_or, sum_by}
use Rattle.std.proofs.Common.{sym, ap, subst, ◌∙◌, inl, inr, arith, length-append, length-drop, length-take}
use Rattle.std.specs.List.{All, slice_range}
use Rattle.std.proofs.lemmas.Bool.{cases_lt}
use Rattle.std.proofs.lemmas.List.{get_or-drop, get_or-take, take_all}
use Rattle.std.proofs.lemmas.List.Sums.{sum_by-append}
use Rattle.ats_streams.specs.Branches.{AreBranches, first_from, leg_at, legs_of, no_branch, routes_of}
use Rattle.ats_streams.specs.Path.{IsPath}
use Rattle.ats_streams.specs.declared.branch.Branch.{Branch}
use Rattle.ats_streams.specs.declared.path.TheConstants.{MAX_PORTS}
use Rattle.ats_streams.proofs.BranchLemmas.{Spans, spans_between, spans_last}
use Rattle.ats_streams.proofs.WalkedRoutes.{IsBehind, behind_all, behind_first, behind_fits, behind_next, hop_within}

-- the port of a hop of a leg stands at this place of a stream's ports
pub record IsPlaced (ports leg : List ℕ) (first hop : ℕ) : Type 0 where
  pub within : first + hop < length ports
  pub is : get_or ports (first + hop) 0 ≡ get_or leg hop 0

placed_between : (ports : List ℕ) (branches : List Branch) (n from to hop : ℕ) → Spans ports branches n from to
    → hop < length (leg_at (legs_of ports branches) n) → IsPlaced ports (leg_at (legs_of ports branches) n) from hop
placed_between ports branches n from to hop spans below =
    let long : length (slice_range ports from to) ≡ length (leg_at (legs_of ports branches) n) =
    ap (λ (l : List ℕ). length l) spans.leg_is in
    let inside : hop < to - from = omega (arith, below, long, length-take (to - from) (drop from ports)) in
    let rest : hop < length (drop from ports) =
    omega (arith, below, long, length-take (to - from) (drop from ports)) in
    record {
      within = omega (arith, rest, length-drop from ports);
      is = sym (ap (λ (l : List ℕ). get_or l hop 0) (sym spans.leg_is)
          ∙ get_or-take (to - from) (drop from ports) hop 0 inside ∙ get_or-drop from ports hop 0);
    }

-- the ports of a leg stand one behind the other
pub leg_placed : (ports : List ℕ) (branches : List Branch) (n hop : ℕ) → AreBranches ports branches
    → n ≤ length branches → hop < length (leg_at (legs_of ports branches) n)
    → IsPlaced ports (leg_at (legs_of ports branches) n) (first_from 0 branches n) hop
leg_placed ports branches n hop are within below = elim (cases_lt n (length branches)) as (λ _.
    IsPlaced ports (leg_at (legs_of ports branches) n) (first_from 0 branches n) hop) [
      | inl before ↦ placed_between ports branches n (first_from 0 branches n) (get_or branches n no_branch).first hop
          (spans_between ports branches n are before) below
      | inr past ↦ (
          let last : length branches ≡ n = omega (arith, past, within) in
          placed_between ports branches n (first_from 0 branches n) (length ports) hop
          (subst (λ (k : ℕ). Spans ports branches k (first_from 0 branches k) (length ports)) last
          (spans_last ports branches are)) below)
    ]

-- the sum of so many digits over the ports of a route that are behind those in front of a leg
pub record IsSummed (amount : ℕ → ℕ) (ports : List ℕ) (branches : List Branch) (leg at sum : ℕ) : Type 0 where
  pub rest : List ℕ
  pub behind : IsBehind ports branches leg at rest
  pub sum_is : sum ≡ sum_by amount rest
  pub most : sum ≤ length rest * 10 ^ 36

module _ (amount : ℕ → ℕ) (ports : List ℕ) (branches : List Branch) (leg : ℕ) (are : AreBranches ports branches)
    (routes : All IsPath (routes_of ports branches)) (listed : leg ≤ length branches) where
  -- at first those of its own leg
  pub summed_first : (own : List ℕ) (hops sum : ℕ) → own ≡ leg_at (legs_of ports branches) leg → hops ≡ length own
      → sum ≡ sum_by amount (take hops (leg_at (legs_of ports branches) leg)) → sum ≤ hops * 10 ^ 36
      → IsSummed amount ports branches leg leg sum
  summed_first own hops sum own_is all is small =
      let trunk : List ℕ = leg_at (legs_of ports branches) leg in
      let long : hops ≡ length trunk = all ∙ ap (λ (l : List ℕ). length l) own_is in
      record {
        rest = trunk;
        behind = behind_first ports branches leg listed;
        sum_is = is ∙ ap (sum_by amount) (take_all hops trunk (omega (arith, long)));
        most = subst (λ (n : ℕ). sum ≤ n * 10 ^ 36) long small;
      }

  -- which are 64 at most
  pub few_first : (own : List ℕ) → own ≡ leg_at (legs_of ports branches) leg → length own ≤ MAX_PORTS
  few_first own own_is =
      subst (λ (l : List ℕ). length l ≤ MAX_PORTS) (sym own_is)
      (behind_fits ports branches leg leg (leg_at (legs_of ports branches) leg) routes listed
      (behind_first ports branches leg listed))

  -- then those of the leg where this one begins
  pub summed_next : (at sum more : ℕ) → IsSummed amount ports branches leg at sum → 0 < at
      → more ≡ sum_by amount (take (get_or branches (at - 1) no_branch).hop
      (leg_at (legs_of ports branches) (get_or branches (at - 1) no_branch).leg))
      → more ≤ (get_or branches (at - 1) no_branch).hop * 10 ^ 36
      → IsSummed amount ports branches leg (get_or branches (at - 1) no_branch).leg (sum + more)
  summed_next at sum more so_far some is small =
      let b : Branch = get_or branches (at - 1) no_branch in
      let before : List ℕ = leg_at (legs_of ports branches) b.leg in
      let front : List ℕ = take b.hop before in
      let within : b.hop < length before = hop_within ports branches at are so_far.behind.within some in
      let many : length front ≡ b.hop = omega (arith, within, length-take b.hop before) in
      record {
        rest = front ++ so_far.rest;
        behind = behind_next ports branches leg at so_far.rest are so_far.behind some;
        sum_is = omega (arith, is, so_far.sum_is, sum_by-append amount front so_far.rest);
        most = omega (arith, small, so_far.most, many, length-append front so_far.rest);
      }

  -- which are 64 at most as well
  pub few_next : (at sum : ℕ) → IsSummed amount ports branches leg at sum → 0 < at
      → (get_or branches (at - 1) no_branch).hop ≤ MAX_PORTS
  few_next at sum so_far some =
      let b : Branch = get_or branches (at - 1) no_branch in
      let before : List ℕ = leg_at (legs_of ports branches) b.leg in
      let front : List ℕ = take b.hop before in
      let within : b.hop < length before = hop_within ports branches at are so_far.behind.within some in
      let fits : length (front ++ so_far.rest) ≤ MAX_PORTS =
      behind_fits ports branches leg b.leg (front ++ so_far.rest) routes listed
      (behind_next ports branches leg at so_far.rest are so_far.behind some) in
      omega (arith, fits, within, length-take b.hop before, length-append front so_far.rest)

  -- so the sum stays small
  pub sum_small : (at sum : ℕ) → IsSummed amount ports branches leg at sum → sum ≤ 64 * 10 ^ 36
  sum_small at sum so_far =
      omega (arith, so_far.most, behind_fits ports branches leg at so_far.rest routes listed so_far.behind)

pub along_all : (amount : ℕ → ℕ) (ports : List ℕ) (branches : List Branch) (leg at sum : ℕ)
    → IsSummed amount ports branches leg at sum → at ≡ 0
    → sum ≡ sum_by amount (leg_at (routes_of ports branches) leg)
along_all amount ports branches leg at sum so_far none =
    so_far.sum_is ∙ ap (sum_by amount) (behind_all ports branches leg at so_far.rest so_far.behind none)

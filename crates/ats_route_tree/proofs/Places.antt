-- Places of ports, and the legs that have them.
use Rattle.std.proofs.Common.{◌≡◌, ◌≢◌, ℕ, zero, suc, ◌+◌, ◌-◌, ◌<◌, ◌≤◌, Bool, true, false, cond, List, [], ◌∷◌}
use Rattle.std.proofs.Common.{length, drop, get_or, Option, Some, refl, sym, ap, ◌∙◌, arith}
use Rattle.std.proofs.Common.{ltb, length-drop, length-take}
use Rattle.std.specs.List.{AllPairs, position_from}
use Rattle.std.proofs.lemmas.Bool.{eq-eqb, le-ltb, lt-ltb, ltb-false, ltb-true, ne_eqb}
use Rattle.std.proofs.lemmas.List.{get_or-drop, get_or-map, get_or-take, length-map}
use Rattle.std.proofs.lemmas.Option.{none-some, same_Some}
use Rattle.ats_facts.proofs.Lists.{pairs_head, pairs_tail}
use Rattle.ats_streams.specs.Branches.{Ascend, first_from, leg_at, legs_from}
use Rattle.ats_streams.specs.Branches.{no_branch}
use Rattle.ats_streams.specs.declared.branch.Branch.{Branch}
use Rattle.ats_topology.specs.Port.{leads_to, port_at}
use Rattle.ats_topology.specs.declared.port.Port.{Port}
use Rattle.ats_network.proofs.PathLemmas.{nodes_to}
use Rattle.ats_route_tree.specs.Steps.{leg_with}

-- what a search found passes its test
pub record IsFound (test : ℕ → Bool) (xs : List ℕ) (n i : ℕ) : Type 0 where
  pub place : ℕ
  pub is : i ≡ n + place
  pub within : place < length xs
  pub passes : test (get_or xs place 0) ≡ true

pub found : (test : ℕ → Bool) (n : ℕ) (xs : List ℕ) (i : ℕ) → position_from test n xs ≡ Some i → IsFound test xs n i
found test n [] i h = absurd (none-some i h)
found test n (x ∷ xs) i h = by (test x) refl h (found test (n + 1) xs i)
  where
    by : (b : Bool) → test x ≡ b → cond b (Some n) (position_from test (n + 1) xs) ≡ Some i
        → (position_from test (n + 1) xs ≡ Some i → IsFound test xs (n + 1) i) → IsFound test (x ∷ xs) n i
    by true e h more =
        let here : n ≡ i = same_Some n i h in
        record { place = zero; is = omega (arith, here); within = omega arith; passes = e }
    by false e h more =
        let f : IsFound test xs (n + 1) i = more h in
        record { place = suc f.place; is = omega (arith, f.is); within = omega (arith, f.within); passes = f.passes }

-- where ports lead to different nodes, each is the first that leads to its node
pub place_own : (ports : List Port) (numbers : List ℕ) (n i : ℕ) → AllPairs (λ a b. a ≢ b) (nodes_to ports numbers)
    → i < length numbers
    → position_from (λ p. leads_to (port_at ports (get_or numbers i 0)).to (port_at ports p)) n numbers ≡ Some (n + i)
place_own ports [] n i apart within = absurd (omega (arith, within))
place_own ports (q ∷ numbers) n zero apart within =
    let node : ℕ = (port_at ports q).to in
    let rest : Option ℕ = position_from (λ p. leads_to node (port_at ports p)) (n + 1) numbers in
    let here : n ≡ n + 0 = omega arith in
    ap (λ (t : Bool). cond t (Some n) rest) (eq-eqb node node refl) ∙ ap Some here
place_own ports (q ∷ numbers) n (suc i) apart within =
    let node : ℕ = (port_at ports (get_or numbers i 0)).to in
    let rest : Option ℕ = position_from (λ p. leads_to node (port_at ports p)) (n + 1) numbers in
    let to : ℕ → ℕ = λ p. (port_at ports p).to in
    let differ : (port_at ports q).to ≢ node = λ same.
    pairs_head (λ a b. a ≢ b) (port_at ports q).to (nodes_to ports numbers) apart i 0
    (omega (arith, within, length-map numbers to))
    (same ∙ sym (get_or-map to numbers i 0 0 (omega (arith, within)))) in
    let next : n + 1 + i ≡ n + suc i = omega arith in
    ap (λ (t : Bool). cond t (Some n) rest) (ne_eqb (port_at ports q).to node differ)
    ∙ place_own ports numbers (n + 1) i
    (pairs_tail (λ a b. a ≢ b) (port_at ports q).to (nodes_to ports numbers) apart) (omega (arith, within))
    ∙ ap Some next

-- the first ports of further legs
pub first_step : (at : ℕ) (b : Branch) (branches : List Branch) (n : ℕ)
    → first_from b.first branches n ≡ first_from at (b ∷ branches) (suc n)
first_step at b branches zero = refl
first_step at b branches (suc n) = refl

pub first_least : (at : ℕ) (branches : List Branch) (end n : ℕ) → Ascend at branches end → n ≤ length branches
    → at ≤ first_from at branches n
first_least at branches end zero ascend inside = omega arith
first_least at [] end (suc n) ascend inside = absurd (omega (arith, inside))
first_least at (b ∷ branches) end (suc n) ascend inside =
    omega (
      arith,
      ascend.0,
      first_least b.first branches end n ascend.2 (omega (arith, inside)),
      first_step at b branches n,
    )

-- a leg has the port at a place
pub record HasPlace (at : ℕ) (ports : List ℕ) (branches : List Branch) (place leg : ℕ) : Type 0 where
  pub inside : leg ≤ length branches
  pub from : first_from at branches leg ≤ place
  pub within : place - first_from at branches leg < length (leg_at (legs_from at ports branches) leg)
  pub port : get_or (leg_at (legs_from at ports branches) leg) (place - first_from at branches leg) 0
      ≡ get_or ports place 0

place_behind : (at : ℕ) (ports : List ℕ) (b : Branch) (branches : List Branch) (place n : ℕ)
    → HasPlace b.first ports branches place n → HasPlace at ports (b ∷ branches) place (suc n)
place_behind at ports b branches place zero s =
    record { inside = omega arith; from = s.from; within = s.within; port = s.port }
place_behind at ports b branches place (suc n) s =
    record { inside = omega (arith, s.inside); from = s.from; within = s.within; port = s.port }

pub has_place : (at : ℕ) (ports : List ℕ) (branches : List Branch) (place : ℕ) → Ascend at branches (length ports)
    → at ≤ place → place < length ports → HasPlace at ports branches place (leg_with branches place)
has_place at ports [] place ascend from within =
    let whole : at + (place - at) ≡ place = omega (arith, from) in
    record {
      inside = omega arith;
      from = from;
      within = omega (arith, within, from, length-drop at ports);
      port = get_or-drop at ports (place - at) 0 ∙ ap (λ (i : ℕ). get_or ports i 0) whole;
    }
has_place at ports (b ∷ branches) place ascend from within =
    by (ltb place b.first) refl (has_place b.first ports branches place ascend.2)
  where
    by : (t : Bool) → ltb place b.first ≡ t
        → (b.first ≤ place → place < length ports → HasPlace b.first ports branches place (leg_with branches place))
        → HasPlace at ports (b ∷ branches) place (cond t 0 (suc (leg_with branches place)))
    by true e more =
        let below : place < b.first = ltb-true place b.first e in
        let whole : at + (place - at) ≡ place = omega (arith, from) in
        record {
          inside = omega arith;
          from = from;
          within = omega (
            arith,
            below,
            from,
            within,
            length-take (b.first - at) (drop at ports),
            length-drop at ports,
          );
          port = get_or-take (b.first - at) (drop at ports) (place - at) 0 (omega (arith, below, from))
              ∙ get_or-drop at ports (place - at) 0 ∙ ap (λ (i : ℕ). get_or ports i 0) whole;
        }
    by false e more =
        place_behind at ports b branches place (leg_with branches place) (more (ltb-false place b.first e) within)

-- a leg is the one that has a place, where this is one of its places
pub leg_is : (at : ℕ) (branches : List Branch) (end place leg : ℕ) → Ascend at branches end → leg ≤ length branches
    → first_from at branches leg ≤ place
    → (leg < length branches → place < (get_or branches leg no_branch).first) → leg_with branches place ≡ leg
leg_is at [] end place zero ascend inside from below = refl
leg_is at [] end place (suc n) ascend inside from below = absurd (omega (arith, inside))
leg_is at (b ∷ branches) end place zero ascend inside from below =
    ap (λ (t : Bool). cond t 0 (suc (leg_with branches place))) (lt-ltb place b.first (below (omega arith)))
leg_is at (b ∷ branches) end place (suc n) ascend inside from below =
    let past : b.first ≤ place = omega (
      arith,
      from,
      first_least b.first branches end n ascend.2 (omega (arith, inside)),
      first_step at b branches n,
    ) in
    ap (λ (t : Bool). cond t 0 (suc (leg_with branches place))) (le-ltb place b.first past)
    ∙ ap suc (leg_is b.first branches end place n ascend.2 (omega (arith, inside))
    (omega (arith, from, first_step at b branches n)) (λ h. below (omega (arith, h))))

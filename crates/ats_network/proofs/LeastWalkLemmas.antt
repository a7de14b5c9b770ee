-- The first ports of a least walk are one, and what is first of a walk leads into a tree by the tree's own ports.
use Rattle.std.proofs.Common.{◌≡◌, ℕ, zero, suc, ◌<◌, ◌≤◌, true, ◌||◌, List, [], ◌∷◌, ◌++◌, length}
use Rattle.std.proofs.Common.{take, drop}
use Rattle.std.proofs.Common.{get_or, refl, sym, ap, subst, ◌∙◌, arith, eqb, inl, inr, length-append}
use Rattle.std.specs.Prelude.{IsTrue}
use Rattle.std.specs.List.{slice_range}
use Rattle.std.specs.Ordering.{nat_cmp, is_le, ordering_then}
use Rattle.std.specs.Cmp.Lexicographic.{slice_cmp}
use Rattle.std.specs.declared.cmp.Ordering.{Ordering}
use Rattle.std.specs.declared.cmp.Ordering.TheVariants.{Less, Equal, Greater}
use Rattle.std.proofs.lemmas.Bool.{eq-eqb, eqb-true, false≢true, or_cases}
use Rattle.std.proofs.lemmas.List.{take-append-drop}
use Rattle.std.proofs.lemmas.List.Folds.{drop_split, list_any_at, list_any-append}
use Rattle.ats_streams.specs.Branches.{Ascend, leg_at, legs_from}
use Rattle.ats_streams.specs.declared.branch.Branch.{Branch}
use Rattle.ats_topology.specs.Port.{port_at, leads_to}
use Rattle.ats_topology.specs.Walks.{IsWalk, IsLeastWalk}
use Rattle.ats_topology.specs.declared.port.Port.{Port}
use Rattle.ats_network.specs.PathSteps.{comes_to}
use Rattle.ats_network.specs.Senders.{AllNeighbours}
use Rattle.ats_network.proofs.ValidRoutes.{walk_join}

le_more : (m n : ℕ) (o q : Ordering) → (IsTrue (is_le o) → IsTrue (is_le q))
    → IsTrue (is_le (ordering_then (nat_cmp m n) o)) → IsTrue (is_le (ordering_then (nat_cmp m n) q))
le_more m n o q more = by (nat_cmp m n)
  where
    by : (r : Ordering) → IsTrue (is_le (ordering_then r o)) → IsTrue (is_le (ordering_then r q))
    by Less h = h
    by Equal h = more h
    by Greater h = h

-- lists that go on alike are in the order of their first parts
cmp_front : (xs ys zs : List ℕ) → length xs ≡ length ys → IsTrue (is_le (slice_cmp nat_cmp (xs ++ zs) (ys ++ zs)))
    → IsTrue (is_le (slice_cmp nat_cmp xs ys))
cmp_front [] [] zs long h = refl
cmp_front [] (y ∷ ys) zs long h = absurd (omega arith)
cmp_front (x ∷ xs) [] zs long h = absurd (omega arith)
cmp_front (x ∷ xs) (y ∷ ys) zs long h =
    le_more x y (slice_cmp nat_cmp (xs ++ zs) (ys ++ zs)) (slice_cmp nat_cmp xs ys)
    (cmp_front xs ys zs (omega arith)) h

-- the first part of a least walk is the least to where it leads
least_front : (ports : List Port) (a b c : ℕ) (xs ys : List ℕ) → IsLeastWalk ports a c (xs ++ ys)
    → IsWalk ports a b xs → IsWalk ports b c ys → IsLeastWalk ports a b xs
least_front ports a b c xs ys whole front back = record {
  walk_is = front;
  least = λ other is. (
      let least : length (xs ++ ys) ≤ length (other ++ ys) =
      whole.least (other ++ ys) (walk_join ports a b c other ys is back) in
      omega (arith, least, length-append xs ys, length-append other ys));
  first = λ other is long. cmp_front xs other ys (sym long) (whole.first (other ++ ys)
      (walk_join ports a b c other ys is back)
      (omega (arith, long, length-append xs ys, length-append other ys)));
}

-- the first ports of a walk lead to where the last of them leads, and the others go on from there
pub walk_upto : (ports : List Port) (a b : ℕ) (path : List ℕ) (i : ℕ) → IsWalk ports a b path → i < length path
    → IsWalk ports a (port_at ports (get_or path i 0)).to (take (suc i) path)
walk_upto ports a b [] i walk within = absurd (omega arith)
walk_upto ports a b (p ∷ path) zero walk within = (walk.0, refl)
walk_upto ports a b (p ∷ path) (suc i) walk within =
    (walk.0, walk_upto ports (port_at ports p).to b path i walk.1 (omega arith))

pub walk_rest : (ports : List Port) (a b : ℕ) (path : List ℕ) (i : ℕ) → IsWalk ports a b path → i < length path
    → IsWalk ports (port_at ports (get_or path i 0)).to b (drop (suc i) path)
walk_rest ports a b [] i walk within = absurd (omega arith)
walk_rest ports a b (p ∷ path) zero walk within = walk.1
walk_rest ports a b (p ∷ path) (suc i) walk within =
    walk_rest ports (port_at ports p).to b path i walk.1 (omega arith)

pub least_upto : (ports : List Port) (a b : ℕ) (path : List ℕ) (i : ℕ) → IsLeastWalk ports a b path → i < length path
    → IsLeastWalk ports a (port_at ports (get_or path i 0)).to (take (suc i) path)
least_upto ports a b path i least within =
    least_front ports a (port_at ports (get_or path i 0)).to b (take (suc i) path) (drop (suc i) path)
    (subst (IsLeastWalk ports a b) (sym (take-append-drop (suc i) path)) least)
    (walk_upto ports a b path i least.walk_is within) (walk_rest ports a b path i least.walk_is within)

-- a walk ends at one node
pub ends_once : (ports : List Port) (a b c : ℕ) (path : List ℕ) → IsWalk ports a b path → IsWalk ports a c path → b ≡ c
ends_once ports a b c [] first second = sym first ∙ second
ends_once ports a b c (p ∷ path) first second = ends_once ports (port_at ports p).to b c path first.1 second.1

-- a port of these leads to a node
record IsAt (ports : List Port) (node : ℕ) (numbers : List ℕ) : Type 0 where
  place : ℕ
  within : place < length numbers
  leads : (port_at ports (get_or numbers place 0)).to ≡ node

at_place : (ports : List Port) (node : ℕ) (numbers : List ℕ) → comes_to ports node numbers ≡ true
    → IsAt ports node numbers
at_place ports node [] comes = absurd (false≢true comes)
at_place ports node (p ∷ numbers) comes =
    elim (or_cases (eqb (port_at ports p).to node) (comes_to ports node numbers) comes) as
    (λ _. IsAt ports node (p ∷ numbers)) [
      | inl here ↦ record { place = 0; within = omega arith; leads = eqb-true (port_at ports p).to node here }
      | inr later ↦ (let s = at_place ports node numbers later in
          record { place = suc s.place; within = omega (arith, s.within); leads = s.leads })
    ]

-- a port of a leg leads to a node
pub record IsOnLeg (ports : List Port) (legs : List (List ℕ)) (most node : ℕ) : Type 0 where
  pub leg : ℕ
  pub hop : ℕ
  pub inside : leg ≤ most
  pub within : hop < length (leg_at legs leg)
  pub leads : (port_at ports (get_or (leg_at legs leg) hop 0)).to ≡ node

pub on_leg : (ports : List Port) (node at : ℕ) (numbers : List ℕ) (branches : List Branch)
    → Ascend at branches (length numbers) → comes_to ports node (drop at numbers) ≡ true
    → IsOnLeg ports (legs_from at numbers branches) (length branches) node
on_leg ports node at numbers [] ascend comes =
    let s : IsAt ports node (drop at numbers) = at_place ports node (drop at numbers) comes in
    record { leg = 0; hop = s.place; inside = omega arith; within = s.within; leads = s.leads }
on_leg ports node at numbers (b ∷ branches) ascend comes =
    let first : List ℕ = slice_range numbers at b.first in
    let rest : List ℕ = drop b.first numbers in
    let whole : drop at numbers ≡ first ++ rest = drop_split numbers at b.first (omega (arith, ascend.0)) in
    let either : (comes_to ports node first || comes_to ports node rest) ≡ true =
    sym (list_any-append (λ p. leads_to node (port_at ports p)) first rest)
    ∙ ap (comes_to ports node) (sym whole) ∙ comes in
    elim (or_cases (comes_to ports node first) (comes_to ports node rest) either) as
    (λ _. IsOnLeg ports (legs_from at numbers (b ∷ branches)) (suc (length branches)) node) [
      | inl here ↦ (let s : IsAt ports node first = at_place ports node first here in
          record { leg = 0; hop = s.place; inside = omega arith; within = s.within; leads = s.leads })
      | inr later ↦ (
          let s : IsOnLeg ports (legs_from b.first numbers branches) (length branches) node =
          on_leg ports node b.first numbers branches ascend.2 later in
          record {
            leg = suc s.leg;
            hop = s.hop;
            inside = omega (arith, s.inside);
            within = s.within;
            leads = s.leads;
          })
    ]

-- a port that comes to where one of these leads: if a number is among them, its node is reached
pub own_node : (ports : List Port) (numbers : List ℕ) (i : ℕ) → i < length numbers
    → comes_to ports (port_at ports (get_or numbers i 0)).to numbers ≡ true
own_node ports numbers i within = list_any_at (λ p. leads_to (port_at ports (get_or numbers i 0)).to (port_at ports p))
    numbers i 0 within (eq-eqb (port_at ports (get_or numbers i 0)).to (port_at ports (get_or numbers i 0)).to refl)

pub neighbours_at : (R : ℕ → ℕ → Type 0) (path : List ℕ) (i : ℕ) → AllNeighbours R path → suc i < length path
    → R (get_or path i 0) (get_or path (suc i) 0)
neighbours_at R [] i all within = absurd (omega arith)
neighbours_at R (p ∷ []) i all within = absurd (omega arith)
neighbours_at R (p ∷ q ∷ path) zero all within = all.0
neighbours_at R (p ∷ q ∷ path) (suc i) all within = neighbours_at R (q ∷ path) i all.1 (omega arith)

use Rattle.std.proofs.Common.{◌≡◌, ℕ, zero, suc, ◌<◌, ◌≤◌, Bool, true, false, cond, List, [], ◌∷◌, length, Option, Some}
use Rattle.std.proofs.Common.{None, refl, sym, ap, subst, ◌∙◌, arith, eqb, ⊎_elim}
use Rattle.std.specs.Prelude.{is_some, IsTrue, IfSome, IfNone, IfOk, OnOk, Result, Ok, Err}
use Rattle.std.specs.Global.{Vec}
use Rattle.std.specs.Option.{option_map}
use Rattle.std.specs.Ordering.{nat_cmp, is_le, ordering_then}
use Rattle.std.specs.Cmp.Lexicographic.{slice_cmp}
use Rattle.std.specs.declared.cmp.Ordering.{Ordering}
use Rattle.std.specs.declared.cmp.Ordering.TheVariants.{Less, Equal}
use Rattle.std.proofs.lemmas.Bool.{cases_eq, cases_lt, eqb-true, eq-eqb}
use Rattle.std.proofs.lemmas.Bool.Decides.{nat_tests}
use Rattle.std.specs.declared.alloc.AllocError.{AllocError}
use Rattle.std.proofs.lemmas.Option.{same_Some, none-some}
use Rattle.ats_topology.specs.Port.{port_at, leaving}
use Rattle.ats_topology.specs.Topology.{DeclaredTopology, IsTopology}
use Rattle.ats_topology.specs.Walks.{IsWalk, IsLeastWalk, NoWalk}
use Rattle.ats_topology.specs.declared.port.Port.{Port}
use Rattle.ats_topology.proofs.Leaving.{IsLeastPort, find-leaving, find-leaving_some}
use Rattle.ats_topology.proofs.LawLemmas.{walk_is_one}
use Rattle.ats_network.specs.Shortest.{first_walk, shortest_of}
use Rattle.ats_network.specs.Laws.{ShortestIsLeast}
use Rattle.ats_network.proofs.FirstLemmas.{IsFirst, first_along-some, first_along-none, IsLeastOf, first_of-some}
use Rattle.ats_network.proofs.FirstLemmas.{first_of-none}
use Rattle.ats_network.proofs.SimpleWalks.{SimpleWalk, simple_walk, simple_short}

-- the first walk through a port, where the rest can be gone
abbrev through : ℕ → List Port → ℕ → ℕ → Option (List ℕ)
through n ports b p = option_map (λ walk. p ∷ walk) (first_walk n ports (port_at ports p).to b)

passes : (o : Option (List ℕ)) (p : ℕ) → (o ≡ None → ⊥) → is_some (option_map (λ (walk : List ℕ). p ∷ walk) o) ≡ true
passes None p h = absurd (h refl)
passes (Some walk) p h = refl

-- where there is a walk of so many ports, one is computed
pub walk_found : (n : ℕ) (ports : List Port) (a b : ℕ) (walk : List ℕ) → IsWalk ports a b walk → length walk ≡ n
    → first_walk n ports a b ≡ None → ⊥
walk_found zero ports a b [] is long none =
    none-some [] (sym none ∙ ap (λ (t : Bool). cond t (Some []) None) (eq-eqb a b is))
walk_found zero ports a b (p ∷ walk) is long none = omega arith
walk_found (suc n) ports a b [] is long none = omega arith
walk_found (suc n) ports a b (p ∷ walk) is long none =
    let there : is_some (through n ports b p) ≡ true = passes (first_walk n ports (port_at ports p).to b) p
    (walk_found n ports (port_at ports p).to b walk is.1 (omega arith)) in
    find-leaving_some (λ q. is_some (through n ports b q)) a ports p is.0 there
    (first_along-none (through n ports b) (leaving a ports) none)

-- what is computed for so many ports: a walk of them, and the first of those
pub record IsFirstWalk (ports : List Port) (a b n : ℕ) (walk : List ℕ) : Type 0 where
  pub is : IsWalk ports a b walk
  pub long : length walk ≡ n
  pub first : (other : List ℕ) → IsWalk ports a b other → length other ≡ n
      → IsTrue (is_le (slice_cmp nat_cmp walk other))

le_less : (m n : ℕ) (o : Ordering) → m < n → IsTrue (is_le (ordering_then (nat_cmp m n) o))
le_less m n o below =
    let less : nat_cmp m n ≡ Less = grind (arith, nat_tests) in
    ap (λ (p : Ordering). is_le (ordering_then p o)) less

le_equal : (m n : ℕ) (o : Ordering) → m ≡ n → IsTrue (is_le o) → IsTrue (is_le (ordering_then (nat_cmp m n) o))
le_equal m n o same h =
    let equal : nat_cmp m n ≡ Equal = grind (arith, nat_tests) in
    ap (λ (p : Ordering). is_le (ordering_then p o)) equal ∙ h

-- the first walk through the first port from which the rest can be gone
first_step : (n : ℕ) (ports : List Port) (a b p : ℕ) (rest : List ℕ)
    → IsLeastPort (λ q. is_some (through n ports b q)) a ports p → IsFirstWalk ports (port_at ports p).to b n rest
    → IsFirstWalk ports a b (suc n) (p ∷ rest)
first_step n ports a b p rest port walk = record {
  is = (port.leaves, walk.is);
  long = omega (arith, walk.long);
  first = first;
}
  where
    first : (other : List ℕ) → IsWalk ports a b other → length other ≡ suc n
        → IsTrue (is_le (slice_cmp nat_cmp (p ∷ rest) other))
    first [] is long = absurd (omega arith)
    first (q ∷ other) is long =
        let there : is_some (through n ports b q) ≡ true = passes (first_walk n ports (port_at ports q).to b) q
        (walk_found n ports (port_at ports q).to b other is.1 (omega arith)) in
        let least : p ≤ q = port.least q is.0 there in
        ⊎_elim
        (λ same. le_equal p q (slice_cmp nat_cmp rest other) same
        (walk.first other (subst (λ (k : ℕ). IsWalk ports (port_at ports k).to b other) (sym same) is.1) (omega arith)))
        (λ ne. le_less p q (slice_cmp nat_cmp rest other) (omega arith))
        (cases_eq p q)

pub first_walk-is : (n : ℕ) (ports : List Port) (a b : ℕ) (walk : List ℕ) → first_walk n ports a b ≡ Some walk
    → IsFirstWalk ports a b n walk
first_walk-is zero ports a b walk h = by (eqb a b) refl h
  where
    alone : (other : List ℕ) → length other ≡ 0 → IsTrue (is_le (slice_cmp nat_cmp [] other))
    alone [] long = refl
    alone (p ∷ other) long = absurd (omega arith)

    by : (t : Bool) → eqb a b ≡ t → cond t (Some []) None ≡ Some walk → IsFirstWalk ports a b 0 walk
    by true e h =
        subst (IsFirstWalk ports a b 0) (same_Some [] walk h)
        (record { is = eqb-true a b e; long = refl; first = λ other is long. alone other long })
    by false e h = absurd (none-some walk h)
first_walk-is (suc n) ports a b walk h =
    let f : IsFirst (through n ports b) (leaving a ports) walk =
    first_along-some (through n ports b) (leaving a ports) walk h in
    by f (first_walk n ports (port_at ports f.number).to b) refl f.gives
    (first_walk-is n ports (port_at ports f.number).to b)
  where
    by : (f : IsFirst (through n ports b) (leaving a ports) walk) (o : Option (List ℕ))
        → first_walk n ports (port_at ports f.number).to b ≡ o
        → option_map (λ (rest : List ℕ). f.number ∷ rest) o ≡ Some walk
        → ((rest : List ℕ) → first_walk n ports (port_at ports f.number).to b ≡ Some rest
        → IsFirstWalk ports (port_at ports f.number).to b n rest) → IsFirstWalk ports a b (suc n) walk
    by f None e g more = absurd (none-some walk g)
    by f (Some rest) e g more =
        subst (IsFirstWalk ports a b (suc n)) (same_Some (f.number ∷ rest) walk g)
        (first_step n ports a b f.number rest
        (find-leaving (λ q. is_some (through n ports b q)) a ports f.number f.found) (more rest e))

abbrev by_length : DeclaredTopology → ℕ → ℕ → ℕ → Option (List ℕ)
by_length topology a b n = first_walk n topology.ports a b

-- the walk of fewest ports is the least
computed_least : (topology : DeclaredTopology) (a b : ℕ) (walk : List ℕ) → shortest_of topology a b ≡ Some walk
    → IsLeastWalk topology.ports a b walk
computed_least topology a b walk h =
    let l : IsLeastOf (by_length topology a b) (length topology.nodes) walk =
    first_of-some (by_length topology a b) (length topology.nodes) walk h in
    let w : IsFirstWalk topology.ports a b l.number walk = first_walk-is l.number topology.ports a b walk l.gives in
    record {
      walk_is = w.is;
      least = λ other is. least l w.long other is;
      first = λ other is long. w.first other is (long ∙ w.long);
    }
  where
    least : (l : IsLeastOf (by_length topology a b) (length topology.nodes) walk) → length walk ≡ l.number
        → (other : List ℕ) → IsWalk topology.ports a b other → length walk ≤ length other
    least l long other is = ⊎_elim
        (λ below. absurd (walk_found (length other) topology.ports a b other is refl (l.before (length other) below)))
        (λ above. omega arith)
        (cases_lt (length other) l.number)

pub shortest_least : ShortestIsLeast
shortest_least topology a b is in_a in_b = record {
  least = computed_least topology a b;
  none = λ none walk goes.
      let s : SimpleWalk topology.ports a b = simple_walk topology.ports a walk b goes in
      walk_found (length s.walk) topology.ports a b s.walk s.is refl (first_of-none (by_length topology a b)
      (length topology.nodes) none (length s.walk) (simple_short topology a b is in_a s));
}

-- a walk that a search found is the one that is computed
pub found_is : (topology : DeclaredTopology) (a b : ℕ) (found : Option (Vec ℕ)) → IsTopology topology
    → a < length topology.nodes → b < length topology.nodes
    → IfSome found (λ walk. IsLeastWalk topology.ports a b walk.items) → IfNone found (NoWalk topology.ports a b)
    → option_map (λ (walk : Vec ℕ). walk.items) found ≡ shortest_of topology a b
found_is topology a b None is in_a in_b walk none = by (shortest_of topology a b) refl
  where
    by : (o : Option (List ℕ)) → shortest_of topology a b ≡ o → None ≡ shortest_of topology a b
    by None e = sym e
    by (Some other) e = absurd (none other (computed_least topology a b other e).walk_is)
found_is topology a b (Some walk) is in_a in_b least none = by (shortest_of topology a b) refl
  where
    by : (o : Option (List ℕ)) → shortest_of topology a b ≡ o → Some walk.items ≡ shortest_of topology a b
    by None e = absurd ((shortest_least topology a b is in_a in_b).none e walk.items least.walk_is)
    by (Some other) e =
        ap Some (walk_is_one topology.ports a b walk.items other least (computed_least topology a b other e)) ∙ sym e

pub result_is : (topology : DeclaredTopology) (a b : ℕ) (result : Result (Option (Vec ℕ)) AllocError)
    → IsTopology topology → a < length topology.nodes → b < length topology.nodes
    → IfOk result (λ found. IfSome found (λ walk. IsLeastWalk topology.ports a b walk.items))
    → IfOk result (λ found. IfNone found (NoWalk topology.ports a b))
    → IfOk result (λ found. option_map (λ (walk : Vec ℕ). walk.items) found ≡ shortest_of topology a b)
result_is topology a b (Ok found) is in_a in_b walk none = found_is topology a b found is in_a in_b walk none
result_is topology a b (Err e) is in_a in_b walk none = tt

-- what a search answers is what is computed, where the topology is known to be one only once it answered
pub ok_result_is : (topology : DeclaredTopology) (a b : ℕ) (result : Result (Option (Vec ℕ)) AllocError)
    → OnOk result (IsTopology topology) → a < length topology.nodes → b < length topology.nodes
    → IfOk result (λ found. IfSome found (λ walk. IsLeastWalk topology.ports a b walk.items))
    → IfOk result (λ found. IfNone found (NoWalk topology.ports a b))
    → IfOk result (λ found. option_map (λ (walk : Vec ℕ). walk.items) found ≡ shortest_of topology a b)
ok_result_is topology a b (Ok found) is in_a in_b walk none = found_is topology a b found is in_a in_b walk none
ok_result_is topology a b (Err e) is in_a in_b walk none = tt

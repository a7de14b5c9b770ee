use Rattle.std.proofs.Common.{◌≡◌, ◌≢◌, ℕ, ◌<◌, ◌≤◌, Bool, true, false, ◌||◌, List, [], ◌∷◌, length, Option, Some, None}
use Rattle.std.proofs.Common.{refl, sym, subst, arith, eqb}
use Rattle.std.specs.Prelude.{IfSome, IfOk, OnOk, Result, Ok, Err}
use Rattle.std.specs.declared.alloc.AllocError.{AllocError}
use Rattle.std.specs.List.{AllPairs}
use Rattle.std.specs.Option.{option_map}
use Rattle.std.specs.Global.{Vec}
use Rattle.std.proofs.lemmas.Bool.{eqb-true, false≢true}
use Rattle.std.proofs.lemmas.List.Kept.{AllPairs-cons}
use Rattle.ats_topology.specs.Port.{port_at}
use Rattle.ats_topology.specs.Topology.{DeclaredTopology, IsTopology, IsStationAt}
use Rattle.ats_topology.specs.Walks.{IsWalk, IsLeastWalk}
use Rattle.ats_topology.specs.declared.port.Port.{Port}
use Rattle.ats_network.specs.Path.{IsValidPath}
use Rattle.ats_network.specs.PathSteps.{comes_to}
use Rattle.ats_network.specs.Shortest.{shortest_of}
use Rattle.ats_network.proofs.PathLemmas.{nodes_to, away}
use Rattle.ats_network.proofs.RouteLemmas.{shortest_least}

-- The least walk from one node to another one is a valid path.

-- a walk of fewer than n ports
record Shorter (ports : List Port) (a b n : ℕ) : Type 0 where
  walk : List ℕ
  is : IsWalk ports a b walk
  short : length walk < n

-- what is left of a walk from the place where it comes to a node is shorter than the walk
rest_of : (ports : List Port) (x : ℕ) (walk : List ℕ) (b node : ℕ) → IsWalk ports x b walk
    → comes_to ports node walk ≡ true → Shorter ports node b (length walk)
rest_of ports x [] b node is comes = absurd (false≢true comes)
rest_of ports x (p ∷ walk) b node is comes =
    by (eqb (port_at ports p).to node) refl comes (rest_of ports (port_at ports p).to walk b node is.1)
  where
    by : (t : Bool) → eqb (port_at ports p).to node ≡ t → (t || comes_to ports node walk) ≡ true
        → (comes_to ports node walk ≡ true → Shorter ports node b (length walk))
        → Shorter ports node b (length (p ∷ walk))
    by true e h more = record {
      walk = walk;
      is = subst (λ (n : ℕ). IsWalk ports n b walk) (eqb-true (port_at ports p).to node e) is.1;
      short = omega arith;
    }
    by false e h more =
        let s : Shorter ports node b (length walk) = more h in
        record { walk = s.walk; is = s.is; short = omega (arith, s.short) }

-- no walk between these nodes has fewer ports
abbrev HasFewest : List Port → ℕ → ℕ → List ℕ → Type 0
HasFewest ports a b walk = (other : List ℕ) → IsWalk ports a b other → length walk ≤ length other

-- a walk of fewest ports comes to no node twice
fewest_apart : (ports : List Port) (a : ℕ) (walk : List ℕ) (b : ℕ) → IsWalk ports a b walk → HasFewest ports a b walk
    → AllPairs (λ m n. m ≢ n) (a ∷ nodes_to ports walk)
fewest_apart ports a [] b is fewest = λ i j d before within. absurd (omega arith)
fewest_apart ports a (p ∷ walk) b is fewest =
    by (comes_to ports a (p ∷ walk)) refl (fewest_apart ports (port_at ports p).to walk b is.1
    (λ other goes. omega (arith, fewest (p ∷ other) (is.0, goes))))
  where
    by : (t : Bool) → comes_to ports a (p ∷ walk) ≡ t → AllPairs (λ m n. m ≢ n) (nodes_to ports (p ∷ walk))
        → AllPairs (λ m n. m ≢ n) (a ∷ nodes_to ports (p ∷ walk))
    by true e apart =
        let s : Shorter ports a b (length (p ∷ walk)) = rest_of ports a (p ∷ walk) b a is e in
        absurd (omega (arith, fewest s.walk s.is, s.short))
    by false e apart =
        AllPairs-cons (λ m n. m ≢ n) a (nodes_to ports (p ∷ walk)) (away ports a (p ∷ walk) e) apart

-- the least walk from one node to another one is a valid path
pub least_valid : (topology : DeclaredTopology) (a b : ℕ) (walk : List ℕ) → IsLeastWalk topology.ports a b walk
    → a ≢ b → IsValidPath topology walk
least_valid topology a b [] least differ = absurd (differ least.walk_is)
least_valid topology a b (p ∷ walk) least differ = record {
  talker = a;
  listener = b;
  some = omega arith;
  walk = least.walk_is;
  apart =
      subst (λ (n : ℕ). AllPairs (λ m k. m ≢ k) (n ∷ nodes_to topology.ports (p ∷ walk))) (sym least.walk_is.0.from)
      (fewest_apart topology.ports a (p ∷ walk) b least.walk_is least.least);
}

-- so is the one that a search found
pub found_valid : (topology : DeclaredTopology) (a b : ℕ) (found : Option (Vec ℕ)) → IsTopology topology
    → IsStationAt topology a → IsStationAt topology b → a ≢ b
    → option_map (λ (walk : Vec ℕ). walk.items) found ≡ shortest_of topology a b
    → IfSome found (λ walk. IsValidPath topology walk.items)
found_valid topology a b None is begins ends differ same = tt
found_valid topology a b (Some walk) is begins ends differ same =
    least_valid topology a b walk.items ((shortest_least topology a b is begins.within ends.within).least walk.items
    (sym same)) differ

-- and the one that a call answers
pub answer_valid : (topology : DeclaredTopology) (a b : ℕ) (answer : Result (Option (Vec ℕ)) AllocError)
    → OnOk answer (IsTopology topology) → IsStationAt topology a → IsStationAt topology b → a ≢ b
    → IfOk answer (λ found. option_map (λ (walk : Vec ℕ). walk.items) found ≡ shortest_of topology a b)
    → IfOk answer (λ found. IfSome found (λ walk. IsValidPath topology walk.items))
answer_valid topology a b (Ok found) is begins ends differ same =
    found_valid topology a b found is begins ends differ same
answer_valid topology a b (Err e) is begins ends differ same = tt

use Rattle.std.proofs.Common.{◌≡◌, ◌≢◌, ℕ, ◌<◌, ◌≤◌, Bool, true, false, ◌||◌, List, [], ◌∷◌, length, refl, sym, subst}
use Rattle.std.proofs.Common.{arith, eqb}
use Rattle.std.specs.List.{All, AllPairs, list_any}
use Rattle.std.proofs.lemmas.Bool.{eqb-true, false≢true}
use Rattle.std.proofs.lemmas.Bool.Decides.{Decides-eqb}
use Rattle.std.proofs.lemmas.List.{length-map}
use Rattle.std.proofs.lemmas.List.Elements.{All-nil, All-cons, All-head, All-tail}
use Rattle.std.proofs.lemmas.List.Kept.{AllPairs-cons}
use Rattle.std.proofs.lemmas.Map.Made.{IsDistinct-from_AllPairs}
use Rattle.std.proofs.lemmas.Map.Steps.{length-le_from_distinct_below}
use Rattle.ats_facts.proofs.Lists.{pairs_tail}
use Rattle.ats_topology.specs.Port.{port_at, no_port}
use Rattle.ats_topology.specs.Topology.{DeclaredTopology, IsTopology}
use Rattle.ats_topology.specs.Walks.{IsWalk}
use Rattle.ats_topology.specs.declared.port.Port.{Port}
use Rattle.ats_topology.proofs.Rules.{ports_are_lawful}
use Rattle.ats_network.specs.PathSteps.{comes_to}
use Rattle.ats_network.proofs.PathLemmas.{nodes_to, away}

-- a walk that comes to no node twice
pub record SimpleWalk (ports : List Port) (a b : ℕ) : Type 0 where
  pub walk : List ℕ
  pub is : IsWalk ports a b walk
  pub apart : AllPairs (λ m n. m ≢ n) (a ∷ nodes_to ports walk)

-- what is left of a walk from the place where it comes to a node
cut : (ports : List Port) (x : ℕ) (walk : List ℕ) (b node : ℕ) → IsWalk ports x b walk
    → AllPairs (λ m n. m ≢ n) (nodes_to ports walk) → comes_to ports node walk ≡ true → SimpleWalk ports node b
cut ports x [] b node is apart comes = absurd (false≢true comes)
cut ports x (p ∷ walk) b node is apart comes =
    by (eqb (port_at ports p).to node) refl comes (cut ports (port_at ports p).to walk b node is.1
    (pairs_tail (λ m n. m ≢ n) (port_at ports p).to (nodes_to ports walk) apart))
  where
    by : (t : Bool) → eqb (port_at ports p).to node ≡ t → (t || comes_to ports node walk) ≡ true
        → (comes_to ports node walk ≡ true → SimpleWalk ports node b) → SimpleWalk ports node b
    by true e h more =
        let here : (port_at ports p).to ≡ node = eqb-true (port_at ports p).to node e in
        record {
          walk = walk;
          is = subst (λ (n : ℕ). IsWalk ports n b walk) here is.1;
          apart = subst (λ (n : ℕ). AllPairs (λ m k. m ≢ k) (n ∷ nodes_to ports walk)) here apart;
        }
    by false e h more = more h

-- each walk can be shortened to one that comes to no node twice
pub simple_walk : (ports : List Port) (a : ℕ) (walk : List ℕ) (b : ℕ) → IsWalk ports a b walk → SimpleWalk ports a b
simple_walk ports a [] b is = record {
  walk = [];
  is = is;
  apart = λ i j d before within. absurd (omega arith);
}
simple_walk ports a (p ∷ walk) b is = by (simple_walk ports (port_at ports p).to walk b is.1)
  where
    by : SimpleWalk ports (port_at ports p).to b → SimpleWalk ports a b
    by s = either (comes_to ports a (p ∷ s.walk)) refl
      where
        either : (t : Bool) → comes_to ports a (p ∷ s.walk) ≡ t → SimpleWalk ports a b
        either true e = cut ports a (p ∷ s.walk) b a (is.0, s.is) s.apart e
        either false e = record {
          walk = p ∷ s.walk;
          is = (is.0, s.is);
          apart = AllPairs-cons (λ m n. m ≢ n) a (nodes_to ports (p ∷ s.walk)) (away ports a (p ∷ s.walk) e) s.apart;
        }

-- a number that is in a list of numbers below n is below n
listed_below : (n : ℕ) (numbers : List ℕ) → All (λ m. m < n) numbers → (q : ℕ) → list_any (eqb q) numbers ≡ true → q < n
listed_below n [] all q listed = absurd (false≢true listed)
listed_below n (m ∷ numbers) all q listed =
    by (eqb q m) refl listed (listed_below n numbers (All-tail (λ m. m < n) m numbers all) q)
  where
    by : (t : Bool) → eqb q m ≡ t → (t || list_any (eqb q) numbers) ≡ true
        → (list_any (eqb q) numbers ≡ true → q < n) → q < n
    by true e h more = subst (λ (k : ℕ). k < n) (sym (eqb-true q m e)) (All-head (λ m. m < n) m numbers all)
    by false e h more = more h

-- a walk leads to nodes of the topology
nodes_below : (topology : DeclaredTopology) (a : ℕ) (walk : List ℕ) (b : ℕ) → IsTopology topology
    → IsWalk topology.ports a b walk → All (λ n. n < length topology.nodes) (nodes_to topology.ports walk)
nodes_below topology a [] b is goes = All-nil (λ n. n < length topology.nodes)
nodes_below topology a (p ∷ walk) b is goes =
    All-cons (λ n. n < length topology.nodes) (port_at topology.ports p).to (nodes_to topology.ports walk)
    ((ports_are_lawful topology is).each p no_port goes.0.within).between.to
    (nodes_below topology (port_at topology.ports p).to walk b is goes.1)

-- a walk that comes to no node twice has fewer ports than there are nodes
pub simple_short : (topology : DeclaredTopology) (a b : ℕ) → IsTopology topology → a < length topology.nodes
    → (s : SimpleWalk topology.ports a b) → length s.walk < length topology.nodes
simple_short topology a b is inside s =
    let nodes : List ℕ = a ∷ nodes_to topology.ports s.walk in
    let all : All (λ n. n < length topology.nodes) nodes = All-cons (λ n. n < length topology.nodes) a
    (nodes_to topology.ports s.walk) inside (nodes_below topology a s.walk b is s.is) in
    let few : length nodes ≤ length topology.nodes =
    length-le_from_distinct_below nodes (length topology.nodes) (IsDistinct-from_AllPairs Decides-eqb nodes s.apart)
    (listed_below (length topology.nodes) nodes all) in
    omega (arith, length-map s.walk (λ q. (port_at topology.ports q).to))

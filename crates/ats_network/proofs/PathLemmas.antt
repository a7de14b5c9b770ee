use Rattle.std.proofs.Common.{◌≡◌, ◌≢◌, ℕ, ◌<◌, Bool, true, false, cond, not, ◌&&◌, ◌||◌, List, [], ◌∷◌, map, length}
use Rattle.std.proofs.Common.{Option, Some, None, refl, sym, ap, subst, ◌∙◌, arith, eqb, ltb}
use Rattle.std.specs.List.{All, AllPairs}
use Rattle.std.specs.Option.{option_map}
use Rattle.std.proofs.lemmas.Bool.{eqb-true, eq-eqb, ne_eqb, and_parts, true≢false, lt-ltb, ltb-true, not-true}
use Rattle.std.proofs.lemmas.List.Elements.{All-nil, All-cons, All-head, All-tail}
use Rattle.std.proofs.lemmas.List.Kept.{AllPairs-cons}
use Rattle.std.proofs.lemmas.Option.{same_Some, none-some}
use Rattle.ats_facts.proofs.Lists.{pairs_head, pairs_tail}
use Rattle.ats_topology.specs.Port.{port_at}
use Rattle.ats_topology.specs.Topology.{DeclaredTopology}
use Rattle.ats_topology.specs.Walks.{IsPortFrom, IsWalk, ArePorts}
use Rattle.ats_topology.specs.declared.port.Port.{Port}
use Rattle.ats_network.specs.Path.{IsValidPath}
use Rattle.ats_network.specs.PathSteps.{walk_end, ends_of, comes_to, part_ways}

-- where a walk ends, as it is computed
pub walk_from_end : (ports : List Port) (a : ℕ) (path : List ℕ) (b : ℕ) → walk_end ports a path ≡ Some b
    → IsWalk ports a b path
walk_from_end ports a [] b h = same_Some a b h
walk_from_end ports a (p ∷ path) b h =
    by (ltb p (length ports) && eqb (port_at ports p).from a) refl h (walk_from_end ports (port_at ports p).to path b)
  where
    by : (t : Bool) → (ltb p (length ports) && eqb (port_at ports p).from a) ≡ t
        → cond t (walk_end ports (port_at ports p).to path) None ≡ Some b
        → (walk_end ports (port_at ports p).to path ≡ Some b → IsWalk ports (port_at ports p).to b path)
        → IsWalk ports a b (p ∷ path)
    by true e h more =
        let parts : (ltb p (length ports) ≡ true) × (eqb (port_at ports p).from a ≡ true) =
        and_parts (ltb p (length ports)) (eqb (port_at ports p).from a) e in
        let goes : IsPortFrom ports a p =
        record { within = ltb-true p (length ports) parts.0; from = eqb-true (port_at ports p).from a parts.1 } in
        (goes, more h)
    by false e h more = absurd (none-some b h)

pub walk_end-walk : (ports : List Port) (a : ℕ) (path : List ℕ) (b : ℕ) → IsWalk ports a b path
    → walk_end ports a path ≡ Some b
walk_end-walk ports a [] b w = ap Some w
walk_end-walk ports a (p ∷ path) b w =
    let test : (ltb p (length ports) && eqb (port_at ports p).from a) ≡ true =
    ap (λ (t : Bool). t && eqb (port_at ports p).from a) (lt-ltb p (length ports) w.0.within)
    ∙ eq-eqb (port_at ports p).from a w.0.from in
    ap (λ (t : Bool). cond t (walk_end ports (port_at ports p).to path) None) test
    ∙ walk_end-walk ports (port_at ports p).to path b w.1

-- the ports of a walk are ports
pub walk_ports : (ports : List Port) (a : ℕ) (path : List ℕ) (b : ℕ) → IsWalk ports a b path → ArePorts ports path
walk_ports ports a [] b w = All-nil (λ p. p < length ports)
walk_ports ports a (p ∷ path) b w =
    All-cons (λ p. p < length ports) p path w.0.within (walk_ports ports (port_at ports p).to path b w.1)

-- two ends, and a walk between them that has a port
pub record AreEnds (ports : List Port) (path : List ℕ) (a b : ℕ) : Type 0 where
  pub first : ℕ
  pub rest : List ℕ
  pub whole : path ≡ first ∷ rest
  pub from : (port_at ports first).from ≡ a
  pub walk : IsWalk ports a b path

pub ends_are : (ports : List Port) (path : List ℕ) (a b : ℕ) → ends_of ports path ≡ Some (a, b) → AreEnds ports path a b
ends_are ports [] a b h = absurd (none-some (a, b) h)
ends_are ports (p ∷ path) a b h = by (walk_end ports (port_at ports p).from (p ∷ path)) refl h
  where
    by : (o : Option ℕ) → walk_end ports (port_at ports p).from (p ∷ path) ≡ o
        → option_map {U = ℕ × ℕ} (λ n. ((port_at ports p).from, n)) o ≡ Some (a, b) → AreEnds ports (p ∷ path) a b
    by None e h = absurd (none-some (a, b) h)
    by (Some n) e h =
        let both : ((port_at ports p).from, n) ≡ (a, b) = same_Some ((port_at ports p).from, n) (a, b) h in
        let from : (port_at ports p).from ≡ a = ap (λ (pair : ℕ × ℕ). pair.0) both in
        let to : n ≡ b = ap (λ (pair : ℕ × ℕ). pair.1) both in
        record {
          first = p;
          rest = path;
          whole = refl;
          from = from;
          walk = subst (λ (m : ℕ). IsWalk ports m b (p ∷ path)) from
              (walk_from_end ports (port_at ports p).from (p ∷ path) b (e ∙ ap Some to));
        }

-- a valid path has ends
pub ends_of-valid : (topology : DeclaredTopology) (path : List ℕ) (valid : IsValidPath topology path)
    → ends_of topology.ports path ≡ Some (valid.talker, valid.listener)
ends_of-valid topology [] valid = absurd (omega (arith, valid.some))
ends_of-valid topology (p ∷ path) valid =
    let from : (port_at topology.ports p).from ≡ valid.talker = valid.walk.0.from in
    ap (λ (a : ℕ). option_map {U = ℕ × ℕ} (λ b. (a, b)) (walk_end topology.ports a (p ∷ path))) from
    ∙ ap (option_map {U = ℕ × ℕ} (λ b. (valid.talker, b)))
    (walk_end-walk topology.ports valid.talker (p ∷ path) valid.listener valid.walk)

pub no_ends : (topology : DeclaredTopology) (path : List ℕ) → ends_of topology.ports path ≡ None
    → IsValidPath topology path → ⊥
no_ends topology path none valid =
    none-some (valid.talker, valid.listener) (sym none ∙ ends_of-valid topology path valid)

-- the ends of a valid path are its talker and its listener
pub talker_is : (topology : DeclaredTopology) (path : List ℕ) (a b : ℕ) → ends_of topology.ports path ≡ Some (a, b)
    → (valid : IsValidPath topology path) → valid.talker ≡ a
talker_is topology path a b h valid = ap (λ (pair : ℕ × ℕ). pair.0)
    (same_Some (valid.talker, valid.listener) (a, b) (sym (ends_of-valid topology path valid) ∙ h))

pub listener_is : (topology : DeclaredTopology) (path : List ℕ) (a b : ℕ) → ends_of topology.ports path ≡ Some (a, b)
    → (valid : IsValidPath topology path) → valid.listener ≡ b
listener_is topology path a b h valid = ap (λ (pair : ℕ × ℕ). pair.1)
    (same_Some (valid.talker, valid.listener) (a, b) (sym (ends_of-valid topology path valid) ∙ h))

-- the nodes to which ports lead
abbrev pub nodes_to : List Port → List ℕ → List ℕ
nodes_to ports path = map (λ q. (port_at ports q).to) path

or_parts : (a b : Bool) → (a || b) ≡ false → (a ≡ false) × (b ≡ false)
or_parts true b h = absurd (true≢false h)
or_parts false b h = (refl, h)

no_eqb : (m n : ℕ) → eqb m n ≡ false → n ≢ m
no_eqb m n h e = true≢false (sym (eq-eqb m n (sym e)) ∙ h)

-- a node that none of the ports leads to
pub away : (ports : List Port) (node : ℕ) (path : List ℕ) → comes_to ports node path ≡ false
    → All (λ n. node ≢ n) (nodes_to ports path)
away ports node [] h = All-nil (λ n. node ≢ n)
away ports node (p ∷ path) h =
    let parts : (eqb (port_at ports p).to node ≡ false) × (comes_to ports node path ≡ false) =
    or_parts (eqb (port_at ports p).to node) (comes_to ports node path) h in
    All-cons (λ n. node ≢ n) (port_at ports p).to (nodes_to ports path) (no_eqb (port_at ports p).to node parts.0)
    (away ports node path parts.1)

pub comes_to-away : (ports : List Port) (node : ℕ) (path : List ℕ) → All (λ n. node ≢ n) (nodes_to ports path)
    → comes_to ports node path ≡ false
comes_to-away ports node [] h = refl
comes_to-away ports node (p ∷ path) h =
    ap (λ (t : Bool). t || comes_to ports node path) (ne_eqb (port_at ports p).to node
    (λ e. All-head (λ n. node ≢ n) (port_at ports p).to (nodes_to ports path) h (sym e)))
    ∙ comes_to-away ports node path (All-tail (λ n. node ≢ n) (port_at ports p).to (nodes_to ports path) h)

-- ports that part ways lead to different nodes, and the other way round
pub pairs_from_parting : (ports : List Port) (path : List ℕ) → part_ways ports path ≡ true
    → AllPairs (λ a b. a ≢ b) (nodes_to ports path)
pairs_from_parting ports [] h = λ i j d before within. absurd (omega arith)
pairs_from_parting ports (p ∷ path) h =
    let parts : (not (comes_to ports (port_at ports p).to path) ≡ true) × (part_ways ports path ≡ true) =
    and_parts (not (comes_to ports (port_at ports p).to path)) (part_ways ports path) h in
    AllPairs-cons (λ a b. a ≢ b) (port_at ports p).to (nodes_to ports path)
    (away ports (port_at ports p).to path (not-true (comes_to ports (port_at ports p).to path) parts.0))
    (pairs_from_parting ports path parts.1)

pub part_ways-pairs : (ports : List Port) (path : List ℕ) → AllPairs (λ a b. a ≢ b) (nodes_to ports path)
    → part_ways ports path ≡ true
part_ways-pairs ports [] pairs = refl
part_ways-pairs ports (p ∷ path) pairs =
    ap (λ (t : Bool). not t && part_ways ports path) (comes_to-away ports (port_at ports p).to path
    (pairs_head (λ a b. a ≢ b) (port_at ports p).to (nodes_to ports path) pairs))
    ∙ part_ways-pairs ports path (pairs_tail (λ a b. a ≢ b) (port_at ports p).to (nodes_to ports path) pairs)

-- a walk whose ports part ways, none of them back to its first node, is a valid path
pub valid_from_parts : (topology : DeclaredTopology) (path : List ℕ) (a b : ℕ)
    → ends_of topology.ports path ≡ Some (a, b) → comes_to topology.ports a path ≡ false
    → part_ways topology.ports path ≡ true → IsValidPath topology path
valid_from_parts topology [] a b h back part = absurd (none-some (a, b) h)
valid_from_parts topology (p ∷ path) a b h back part =
    let e : AreEnds topology.ports (p ∷ path) a b = ends_are topology.ports (p ∷ path) a b h in
    let from : (port_at topology.ports p).from ≡ a = e.walk.0.from in
    record {
      talker = a;
      listener = b;
      some = omega arith;
      walk = e.walk;
      apart =
          AllPairs-cons (λ a b. a ≢ b) (port_at topology.ports p).from (nodes_to topology.ports (p ∷ path))
          (away topology.ports (port_at topology.ports p).from (p ∷ path)
          (ap (λ (n : ℕ). comes_to topology.ports n (p ∷ path)) from ∙ back))
          (pairs_from_parting topology.ports (p ∷ path) part);
    }

-- a valid path's ports part ways, none of them back to its first node
pub valid_parts : (topology : DeclaredTopology) (path : List ℕ) → IsValidPath topology path
    → part_ways topology.ports path ≡ true
valid_parts topology [] valid = refl
valid_parts topology (p ∷ path) valid =
    part_ways-pairs topology.ports (p ∷ path)
    (pairs_tail (λ a b. a ≢ b) (port_at topology.ports p).from (nodes_to topology.ports (p ∷ path)) valid.apart)

pub valid_never_back : (topology : DeclaredTopology) (path : List ℕ) (valid : IsValidPath topology path)
    → comes_to topology.ports valid.talker path ≡ false
valid_never_back topology [] valid = refl
valid_never_back topology (p ∷ path) valid =
    ap (λ (n : ℕ). comes_to topology.ports n (p ∷ path)) (sym valid.walk.0.from)
    ∙ comes_to-away topology.ports (port_at topology.ports p).from (p ∷ path)
    (pairs_head (λ a b. a ≢ b) (port_at topology.ports p).from (nodes_to topology.ports (p ∷ path)) valid.apart)

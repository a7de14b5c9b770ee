use Rattle.std.proofs.Common.{◌≡◌, ℕ, zero, suc, ◌+◌, ◌<◌, ◌≤◌, Bool, true, false, cond, List, [], ◌∷◌, length, get_or}
use Rattle.std.proofs.Common.{take, drop, Option, Some, None, refl, sym, ap, ◌∙◌, arith, subst}
use Rattle.std.specs.List.{All, Contains, find}
use Rattle.std.specs.Option.{option_or}
use Rattle.std.proofs.lemmas.List.{take-append-drop, drop_more, take_more}
use Rattle.std.proofs.lemmas.List.Folds.{find-append}
use Rattle.std.proofs.lemmas.Bool.{eqb-true, eq-eqb, true≢false}
use Rattle.std.proofs.lemmas.List.Elements.{All-nil, All-cons, All-weaker}
use Rattle.std.proofs.lemmas.Option.{same_Some, none-some}
use Rattle.ats_topology.specs.Port.{leaves, leaving, leaving_from, port_at}
use Rattle.ats_topology.specs.Walks.{IsPortFrom}
use Rattle.ats_topology.specs.declared.port.Port.{Port}

-- the number p, where the list begins with port k, is that of a port that leaves the node
record LeavesAt (node k : ℕ) (ports : List Port) (p : ℕ) : Type 0 where
  place : ℕ
  is : p ≡ k + place
  within : place < length ports
  from : (port_at ports place).from ≡ node

later : (node k : ℕ) (port : Port) (ports : List Port) (p : ℕ) → LeavesAt node (k + 1) ports p
    → LeavesAt node k (port ∷ ports) p
later node k port ports p h =
    record { place = suc h.place; is = omega (arith, h.is); within = omega (arith, h.within); from = h.from }

all_leave : (node k : ℕ) (ports : List Port) → All (LeavesAt node k ports) (leaving_from node k ports)
all_leave node k [] = All-nil (LeavesAt node k [])
all_leave node k (port ∷ ports) =
    by (leaves node port) refl (All-weaker (LeavesAt node (k + 1) ports) (LeavesAt node k (port ∷ ports))
    (later node k port ports) (leaving_from node (k + 1) ports) (all_leave node (k + 1) ports))
  where
    by : (b : Bool) → leaves node port ≡ b → All (LeavesAt node k (port ∷ ports)) (leaving_from node (k + 1) ports)
        → All (LeavesAt node k (port ∷ ports))
        (cond b (k ∷ leaving_from node (k + 1) ports) (leaving_from node (k + 1) ports))
    by true e rest = All-cons (LeavesAt node k (port ∷ ports)) k (leaving_from node (k + 1) ports)
        (record { place = zero; is = omega arith; within = omega arith; from = eqb-true port.from node e }) rest
    by false e rest = rest

at_first : (node : ℕ) (ports : List Port) (p : ℕ) → LeavesAt node 0 ports p → IsPortFrom ports node p
at_first node ports p h =
    let same : p ≡ h.place = omega (arith, h.is) in
    record { within = omega (arith, h.within); from = ap (λ (n : ℕ). (port_at ports n).from) same ∙ h.from }

-- each number of the list is that of a port that leaves the node
pub leaving-all : (node : ℕ) (ports : List Port) → All (IsPortFrom ports node) (leaving node ports)
leaving-all node ports = All-weaker (LeavesAt node 0 ports) (IsPortFrom ports node) (at_first node ports)
    (leaving node ports) (all_leave node 0 ports)

behind : (xs : List ℕ) (y x z : ℕ) → x ≡ z → Contains xs x → Contains (y ∷ xs) z
behind xs y x z same h = subst (Contains (y ∷ xs)) same (suc h.0, omega (arith, h.1), h.2)

has_port : (node k : ℕ) (ports : List Port) (j : ℕ) → j < length ports → (port_at ports j).from ≡ node
    → Contains (leaving_from node k ports) (k + j)
has_port node k [] j within from = absurd (omega arith)
has_port node k (port ∷ ports) zero within from =
    subst (λ (b : Bool). Contains (cond b (k ∷ leaving_from node (k + 1) ports) (leaving_from node (k + 1) ports))
    (k + zero)) (sym (eq-eqb port.from node from)) (zero, omega arith, omega arith)
has_port node k (port ∷ ports) (suc j) within from =
    by (leaves node port) (has_port node (k + 1) ports j (omega arith) from)
  where
    by : (b : Bool) → Contains (leaving_from node (k + 1) ports) ((k + 1) + j)
        → Contains (cond b (k ∷ leaving_from node (k + 1) ports) (leaving_from node (k + 1) ports)) (k + suc j)
    by true h = behind (leaving_from node (k + 1) ports) k ((k + 1) + j) (k + suc j) (omega arith) h
    by false h = subst (Contains (leaving_from node (k + 1) ports)) (omega arith) h

-- the list has each port that leaves the node
pub leaving-has : (node : ℕ) (ports : List Port) (p : ℕ) → IsPortFrom ports node p → Contains (leaving node ports) p
leaving-has node ports p h =
    subst (Contains (leaving node ports)) (omega arith) (has_port node 0 ports p h.within h.from)

-- the first number of the list that passes a test is the least of those that pass
record IsLeastAt (t : ℕ → Bool) (node k : ℕ) (ports : List Port) (p : ℕ) : Type 0 where
  leaves : LeavesAt node k ports p
  passes : t p ≡ true
  least : (j : ℕ) → j < length ports → (port_at ports j).from ≡ node → t (k + j) ≡ true → p ≤ k + j

behind_least : (t : ℕ → Bool) (node k : ℕ) (port : Port) (ports : List Port) (p : ℕ)
    → (port.from ≡ node → t k ≡ true → ⊥) → IsLeastAt t node (k + 1) ports p → IsLeastAt t node k (port ∷ ports) p
behind_least t node k port ports p not_first h = record {
  leaves = later node k port ports p h.leaves;
  passes = h.passes;
  least = by;
}
  where
    by : (j : ℕ) → j < length (port ∷ ports) → (port_at (port ∷ ports) j).from ≡ node → t (k + j) ≡ true → p ≤ k + j
    by zero within from passes = let same : k + zero ≡ k = omega arith in
        absurd (not_first from (sym (ap t same) ∙ passes))
    by (suc j) within from passes =
        let same : k + suc j ≡ (k + 1) + j = omega arith in
        omega (arith, h.least j (omega arith) from (sym (ap t same) ∙ passes))

least_at : (t : ℕ → Bool) (node k : ℕ) (ports : List Port) (p : ℕ) → find t (leaving_from node k ports) ≡ Some p
    → IsLeastAt t node k ports p
least_at t node k [] p h = absurd (none-some p h)
least_at t node k (port ∷ ports) p h = by (leaves node port) refl h (least_at t node (k + 1) ports p)
  where
    here : (b : Bool) → t k ≡ b → leaves node port ≡ true → cond b (Some k) (find t (leaving_from node (k + 1) ports))
        ≡ Some p → (find t (leaving_from node (k + 1) ports) ≡ Some p → IsLeastAt t node (k + 1) ports p)
        → IsLeastAt t node k (port ∷ ports) p
    here true e from g more =
        let same : k ≡ p = same_Some k p g in
        record {
          leaves = record { place = zero; is = omega arith; within = omega arith; from = eqb-true port.from node from };
          passes = sym (ap t same) ∙ e;
          least = λ j within q passes. omega arith;
        }
    here false e from g more = behind_least t node k port ports p (λ q passes. true≢false (sym passes ∙ e)) (more g)

    by : (b : Bool) → leaves node port ≡ b
        → find t (cond b (k ∷ leaving_from node (k + 1) ports) (leaving_from node (k + 1) ports)) ≡ Some p
        → (find t (leaving_from node (k + 1) ports) ≡ Some p → IsLeastAt t node (k + 1) ports p)
        → IsLeastAt t node k (port ∷ ports) p
    by true e g more = here (t k) refl e g more
    by false e g more =
        behind_least t node k port ports p (λ from passes. true≢false (sym (eq-eqb port.from node from) ∙ e)) (more g)

-- what `find` gives of the ports that leave a node
pub record IsLeastPort (t : ℕ → Bool) (node : ℕ) (ports : List Port) (p : ℕ) : Type 0 where
  pub leaves : IsPortFrom ports node p
  pub passes : t p ≡ true
  pub least : (q : ℕ) → IsPortFrom ports node q → t q ≡ true → p ≤ q

pub find-leaving : (t : ℕ → Bool) (node : ℕ) (ports : List Port) (p : ℕ) → find t (leaving node ports) ≡ Some p
    → IsLeastPort t node ports p
find-leaving t node ports p h =
    let l : IsLeastAt t node 0 ports p = least_at t node 0 ports p h in
    record {
      leaves = at_first node ports p l.leaves;
      passes = l.passes;
      least = λ q from passes. let same : 0 + q ≡ q = omega arith in
          omega (arith, l.least q from.within from.from (ap t same ∙ passes));
    }

-- a port that passes is found
pub find-leaving_some : (t : ℕ → Bool) (node : ℕ) (ports : List Port) (q : ℕ) → IsPortFrom ports node q → t q ≡ true
    → find t (leaving node ports) ≡ None → ⊥
find-leaving_some t node ports q from passes none =
    let c : Contains (leaving node ports) q = leaving-has node ports q from in
    each (leaving node ports) none c.0 q c.1 (ap t c.2 ∙ passes)
  where
    each : (xs : List ℕ) → find t xs ≡ None → (i d : ℕ) → i < length xs → t (get_or xs i d) ≡ true → ⊥
    each [] none i d within passes = absurd (omega arith)
    each (x ∷ xs) none i d within passes = by (t x) refl none i within passes (each xs)
      where
        by : (b : Bool) → t x ≡ b → cond b (Some x) (find t xs) ≡ None
            → (i : ℕ) → i < length (x ∷ xs) → t (get_or (x ∷ xs) i d) ≡ true
            → (find t xs ≡ None → (i d : ℕ) → i < length xs → t (get_or xs i d) ≡ true → ⊥) → ⊥
        by true e g i within passes more = none-some x (sym g)
        by false e g zero within passes more = true≢false (sym passes ∙ e)
        by false e g (suc i) within passes more = more g i d (omega arith) passes

-- a number read from the list is that of a port that leaves the node
pub leaving_at : (node : ℕ) (ports : List Port) (items : List ℕ) (i : ℕ) → items ≡ leaving node ports → i < length items
    → IsPortFrom ports node (get_or items i 0)
leaving_at node ports items i is within =
    subst (All (IsPortFrom ports node)) (sym is) (leaving-all node ports) i 0 within

-- a search of a list, where none before a place passes
pub find-here : (t : ℕ → Bool) (xs : List ℕ) (i d : ℕ) → find t (take i xs) ≡ None → i < length xs
    → t (get_or xs i d) ≡ true → find t xs ≡ Some (get_or xs i d)
find-here t xs i d none within passes =
    ap (find t) (sym (take-append-drop i xs))
    ∙ find-append t (take i xs) (drop i xs)
    ∙ ap (λ (o : Option ℕ). option_or o (find t (drop i xs))) none
    ∙ ap (find t) (drop_more xs i d within)
    ∙ ap (λ (b : Bool). cond b (Some (get_or xs i d)) (find t (drop (i + 1) xs))) passes

pub find-over : (t : ℕ → Bool) (xs : List ℕ) (i d : ℕ) → find t (take i xs) ≡ None → i < length xs
    → t (get_or xs i d) ≡ false → find t (take (i + 1) xs) ≡ None
find-over t xs i d none within fails =
    ap (find t) (take_more xs i d within)
    ∙ find-append t (take i xs) (get_or xs i d ∷ [])
    ∙ ap (λ (o : Option ℕ). option_or o (find t (get_or xs i d ∷ []))) none
    ∙ ap (λ (b : Bool). cond b (Some (get_or xs i d)) None) fails

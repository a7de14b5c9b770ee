use Rattle.std.proofs.Common.{◌≡◌, ℕ, zero, suc, ◌+◌, ◌<◌, ◌≤◌, List, [], ◌∷◌, ◌++◌, length, get_or, set, replicate}
use Rattle.std.proofs.Common.{drop, Option, Some, None, refl, sym, ap, ◌∙◌, arith, subst, append_assoc, length-append}
use Rattle.std.proofs.Common.{length-drop, get_or-set_same, get_or-set_other, ⊎_elim, inl, inr, ◌⊎◌}
use Rattle.std.specs.List.{All, Contains}
use Rattle.std.proofs.lemmas.Bool.{cases_eq, cases_lt}
use Rattle.std.proofs.lemmas.List.{append-nil, get_or-replicate, get_or_past, length-replicate, drop_more}
use Rattle.std.proofs.lemmas.List.{drop-append-le}
use Rattle.std.proofs.lemmas.List.Elements.{All-nil, All-cons, All-head, All-tail, All-append, All-weaker, All-same}
use Rattle.std.proofs.lemmas.List.Elements.{All-contains, Contains-append_left, Contains-append_right}
use Rattle.std.proofs.lemmas.List.Sums.{sum_by-cons}
use Rattle.std.proofs.lemmas.Option.{same_Some, none-some}
use Rattle.ats_topology.specs.Port.{port_at, leaving, HasBack, ArePaired}
use Rattle.ats_topology.specs.Walks.{IsPortFrom, IsWalk}
use Rattle.ats_topology.specs.Search.{distance, unreached, Spreads, IsAdded, HasWalk, IsWithin, AreDistances}
use Rattle.ats_topology.specs.declared.port.Port.{Port}
use Rattle.ats_topology.proofs.Leaving.{leaving-all, leaving-has}
use Rattle.ats_topology.proofs.Spreading.{counts, unreached-set}

-- each port of a node leads to one with a distance at most one greater
abbrev pub IsSettled : List Port → List (Option ℕ) → ℕ → ℕ → Type 0
IsSettled ports distances node e = (p : ℕ) → IsPortFrom ports node p → IsWithin distances (port_at ports p).to (e + 1)

-- a search so far: the nodes that wait in the queue are some with one distance, then some with the next; those with a
-- distance that do not wait are settled
pub record IsSearch (ports : List Port) (to : ℕ) (distances : List (Option ℕ)) (head : ℕ)
    (pending : List ℕ) : Type 0 where
  pub far : ℕ
  pub level : List ℕ
  pub next : List ℕ
  pub split : pending ≡ level ++ next
  pub here : distance distances to ≡ Some 0
  pub reached : (node e : ℕ) → distance distances node ≡ Some e → HasWalk ports node to e
  pub near : (node e : ℕ) → distance distances node ≡ Some e → e ≤ far + 1
  pub in_level : All (λ node. distance distances node ≡ Some far) level
  pub in_next : All (λ node. distance distances node ≡ Some (far + 1)) next
  pub settled : (node e : ℕ) → distance distances node ≡ Some e
      → IsSettled ports distances node e ⊎ Contains pending node
  pub slow : far + 1 ≤ head + length level

-- the same where a node is at the head of the queue
pub record IsTurn (ports : List Port) (to : ℕ) (distances : List (Option ℕ)) (head node : ℕ)
    (rest : List ℕ) : Type 0 where
  pub far : ℕ
  pub level : List ℕ
  pub next : List ℕ
  pub split : rest ≡ level ++ next
  pub here : distance distances to ≡ Some 0
  pub at : distance distances node ≡ Some far
  pub reached : (other e : ℕ) → distance distances other ≡ Some e → HasWalk ports other to e
  pub near : (other e : ℕ) → distance distances other ≡ Some e → e ≤ far + 1
  pub in_level : All (λ other. distance distances other ≡ Some far) level
  pub in_next : All (λ other. distance distances other ≡ Some (far + 1)) next
  pub settled : (other e : ℕ) → distance distances other ≡ Some e
      → IsSettled ports distances other e ⊎ Contains (node ∷ rest) other
  pub slow : far ≤ head + length level

heads : (x y : ℕ) (xs ys : List ℕ) → x ∷ xs ≡ y ∷ ys → (x ≡ y) × (xs ≡ ys)
heads x y xs ys h = (cc, cc)

pub turn : (ports : List Port) (to : ℕ) (distances : List (Option ℕ)) (head node : ℕ) (rest : List ℕ)
    → IsSearch ports to distances head (node ∷ rest) → IsTurn ports to distances head node rest
turn ports to distances head node rest s = by s.level s.split s.in_level s.slow
  where
    by : (level : List ℕ) → node ∷ rest ≡ level ++ s.next → All (λ n. distance distances n ≡ Some s.far) level
        → s.far + 1 ≤ head + length level → IsTurn ports to distances head node rest
    by [] split in_level slow =
        let next : All (λ n. distance distances n ≡ Some (s.far + 1)) (node ∷ rest) =
        All-same (λ n. distance distances n ≡ Some (s.far + 1)) (node ∷ rest) s.next split s.in_next in
        record {
          far = s.far + 1;
          level = rest;
          next = [];
          split = sym (append-nil rest);
          here = s.here;
          at = All-head (λ n. distance distances n ≡ Some (s.far + 1)) node rest next;
          reached = s.reached;
          near = λ n e h. omega (arith, s.near n e h);
          in_level = All-tail (λ n. distance distances n ≡ Some (s.far + 1)) node rest next;
          in_next = All-nil (λ n. distance distances n ≡ Some (s.far + 1 + 1));
          settled = s.settled;
          slow = omega arith;
        }
    by (x ∷ level) split in_level slow =
        let parts : (node ≡ x) × (rest ≡ level ++ s.next) = heads node x rest (level ++ s.next) split in
        record {
          far = s.far;
          level = level;
          next = s.next;
          split = parts.1;
          here = s.here;
          at = ap (distance distances) parts.0 ∙ All-head (λ n. distance distances n ≡ Some s.far) x level in_level;
          reached = s.reached;
          near = s.near;
          in_level = All-tail (λ n. distance distances n ≡ Some s.far) x level in_level;
          in_next = s.in_next;
          settled = s.settled;
          slow = omega arith;
        }

contains_cases : (x : ℕ) (xs : List ℕ) (y : ℕ) → Contains (x ∷ xs) y → (y ≡ x) ⊎ Contains xs y
contains_cases x xs y h = by h.0 h.1 h.2
  where
    by : (k : ℕ) → k < length (x ∷ xs) → get_or (x ∷ xs) k y ≡ y → (y ≡ x) ⊎ Contains xs y
    by zero within is = inl (sym is)
    by (suc k) within is = inr (k, omega arith, is)

-- a walk from a node to which a port leads back
walk_back : (ports : List Port) (p node from to far : ℕ) → HasBack ports p → (port_at ports p).from ≡ from
    → (port_at ports p).to ≡ node → HasWalk ports from to far → HasWalk ports node to (far + 1)
walk_back ports p node from to far b is_from is_to w = record {
  walk = b.back ∷ w.walk;
  is = (
    record { within = b.within; from = b.from ∙ is_to },
    subst (λ (n : ℕ). IsWalk ports n to w.walk) (sym (b.to ∙ is_from)) w.is,
  );
  long = omega (arith, w.long);
}

still_within : (old new : List (Option ℕ)) → ((n e : ℕ) → distance old n ≡ Some e → distance new n ≡ Some e)
    → (node most : ℕ) → IsWithin old node most → IsWithin new node most
still_within old new kept node most h = record { far = h.far; is = kept node h.far h.is; within = h.within }

-- after the node at the head has spread
pub after : (ports : List Port) (to : ℕ) (old new : List (Option ℕ)) (head node : ℕ) (rest queue longer : List ℕ)
    → ArePaired ports → (t : IsTurn ports to old head node rest)
    → (s : Spreads ports (leaving node ports) (t.far + 1) old new queue longer)
    → IsSearch ports to new (head + 1) (rest ++ s.added)
after ports to old new head node rest queue longer paired t s = record {
  far = t.far;
  level = t.level;
  next = t.next ++ s.added;
  split = ap (λ (q : List ℕ). q ++ s.added) t.split ∙ append_assoc t.level t.next s.added;
  here = s.kept to 0 t.here;
  reached =
      λ other e h. ⊎_elim (λ was. t.reached other e was) (λ more. walk other e more.0 more.1) (s.others other e h);
  near = near;
  in_level = All-weaker (λ n. distance old n ≡ Some t.far) (λ n. distance new n ≡ Some t.far) (λ n h. s.kept n t.far h)
      t.level t.in_level;
  in_next = All-append (λ n. distance new n ≡ Some (t.far + 1)) t.next s.added
      (All-weaker (λ n. distance old n ≡ Some (t.far + 1)) (λ n. distance new n ≡ Some (t.far + 1))
      (λ n h. s.kept n (t.far + 1) h) t.next t.in_next) s.alike;
  settled = λ other e h. ⊎_elim (λ was. old_one other e was)
      (λ more. inr (Contains-append_right rest s.added other more.1.there)) (s.others other e h);
  slow = omega (arith, t.slow);
}
  where
    near : (other e : ℕ) → distance new other ≡ Some e → e ≤ t.far + 1
    near other e h = ⊎_elim (λ was. t.near other e was) (λ more. omega (arith, more.0)) (s.others other e h)

    walk : (other e : ℕ) → e ≡ t.far + 1 → IsAdded ports (leaving node ports) s.added other → HasWalk ports other to e
    walk other e is a =
        let port : IsPortFrom ports node a.port =
        All-contains (IsPortFrom ports node) (leaving node ports) a.port (leaving-all node ports) a.listed in
        subst (HasWalk ports other to) (sym is) (walk_back ports a.port other node to t.far (paired a.port port.within)
        port.from a.to (t.reached node t.far t.at))

    here_settled : IsSettled ports new node t.far
    here_settled p from =
        let d = s.done p (leaving-has node ports p from) in
        record { far = d.0; is = d.1; within = near (port_at ports p).to d.0 d.1 }

    old_one : (other e : ℕ) → distance old other ≡ Some e
        → IsSettled ports new other e ⊎ Contains (rest ++ s.added) other
    old_one other e h =
        ⊎_elim (λ ok. inl (λ p from. still_within old new s.kept (port_at ports p).to (e + 1) (ok p from)))
        (λ waits. ⊎_elim
        (λ same. let is : t.far ≡ e = same_Some t.far e (sym t.at ∙ ap (distance old) (sym same) ∙ h) in
        inl (subst (λ (n : ℕ). IsSettled ports new n e) (sym same) (subst (IsSettled ports new node) is here_settled)))
        (λ later. inr (Contains-append_left rest s.added other later)) (contains_cases node rest other waits))
        (t.settled other e h)

-- at the end each distance is that of a shortest walk
pub found_all : (ports : List Port) (to : ℕ) (distances : List (Option ℕ)) (head : ℕ) → ArePaired ports
    → IsSearch ports to distances head [] → AreDistances ports to distances
found_all ports to distances head paired s = record { reached = s.reached; least = least }
  where
    settled : (node e : ℕ) → distance distances node ≡ Some e → IsSettled ports distances node e
    settled node e h = ⊎_elim (λ ok. ok) (λ waits. absurd (omega (arith, waits.1))) (s.settled node e h)

    step : (node p : ℕ) (walk : List ℕ) → IsPortFrom ports node p
        → IsWithin distances (port_at ports p).to (length walk) → IsWithin distances node (length (p ∷ walk))
    step node p walk from w =
        let b : HasBack ports p = paired p from.within in
        let back : IsWithin distances (port_at ports b.back).to (w.far + 1) =
        settled (port_at ports p).to w.far w.is b.back (record { within = b.within; from = b.from }) in
        record {
          far = back.far;
          is = ap (distance distances) (sym (b.to ∙ from.from)) ∙ back.is;
          within = omega (arith, back.within, w.within);
        }

    least : (node : ℕ) (walk : List ℕ) → IsWalk ports node to walk → IsWithin distances node (length walk)
    least node [] is = record { far = 0; is = ap (distance distances) is ∙ s.here; within = omega arith }
    least node (p ∷ walk) is = step node p walk is.0 (least (port_at ports p).to walk is.1)

-- the search at first: only the node itself has a distance
pub search_start : (ports : List Port) (nodes to : ℕ) → to < nodes
    → IsSearch ports to (set (replicate nodes None) to (Some 0)) 0 (to ∷ [])
search_start ports nodes to within = record {
  far = 0;
  level = to ∷ [];
  next = [];
  split = refl;
  here = here;
  reached = λ node e h. let o = only node e h in record { walk = []; is = o.0; long = sym o.1 };
  near = λ node e h. omega (arith, (only node e h).1);
  in_level = All-cons (λ n. distance first n ≡ Some 0) to [] here (All-nil (λ n. distance first n ≡ Some 0));
  in_next = All-nil (λ n. distance first n ≡ Some (0 + 1));
  settled = λ node e h. inr (zero, omega arith, sym (only node e h).0);
  slow = omega arith;
}
  where
    nothing : Option ℕ
    nothing = None

    blank : List (Option ℕ)
    blank = replicate nodes None

    first : List (Option ℕ)
    first = set blank to (Some 0)

    here : distance first to ≡ Some 0
    here = get_or-set_same blank to (Some 0) None (omega (arith, length-replicate nodes nothing))

    nowhere : (node : ℕ) → distance blank node ≡ None
    nowhere node = ⊎_elim (λ h. get_or-replicate nodes node None None h)
        (λ h. get_or_past blank node None (omega (arith, length-replicate nodes nothing))) (cases_lt node nodes)

    only : (node e : ℕ) → distance first node ≡ Some e → (node ≡ to) × (e ≡ 0)
    only node e h = ⊎_elim (λ same. (same, same_Some e 0 (sym h ∙ ap (distance first) same ∙ here)))
        (λ apart. absurd (none-some e (sym (get_or-set_other blank to node (Some 0) None apart ∙ nowhere node) ∙ h)))
        (cases_eq node to)

-- the node at the head of the queue
pub turn_at : (ports : List Port) (to : ℕ) (distances : List (Option ℕ)) (head node : ℕ) (queue : List ℕ)
    → head < length queue → node ≡ get_or queue head node → IsSearch ports to distances head (drop head queue)
    → IsTurn ports to distances head node (drop (head + 1) queue)
turn_at ports to distances head node queue within read s =
    turn ports to distances head node (drop (head + 1) queue)
    (subst (IsSearch ports to distances head)
    (drop_more queue head node within ∙ ap (λ (n : ℕ). n ∷ drop (head + 1) queue) (sym read)) s)

-- its distance is below the number of nodes that were queued
pub turn_small : (ports : List Port) (to : ℕ) (distances : List (Option ℕ)) (head node : ℕ) (queue : List ℕ)
    → head < length queue → (t : IsTurn ports to distances head node (drop (head + 1) queue)) → t.far < length queue
turn_small ports to distances head node queue within t =
    omega (
      arith,
      t.slow,
      ap (λ (q : List ℕ). length q) t.split,
      length-append t.level t.next,
      length-drop (head + 1) queue,
    )

-- the queue from the next place on
pub queue_after : (head : ℕ) (queue longer added : List ℕ) → head < length queue → longer ≡ queue ++ added
    → drop (head + 1) queue ++ added ≡ drop (head + 1) longer
queue_after head queue longer added within queued =
    sym (ap (drop (head + 1)) queued ∙ drop-append-le (head + 1) queue added (omega arith))

-- how the search stands after the node at the head has spread
pub search_on : (ports : List Port) (to : ℕ) (old new : List (Option ℕ)) (head node far : ℕ) (queue longer : List ℕ)
    → ArePaired ports → head < length queue → node ≡ get_or queue head node
    → IsSearch ports to old head (drop head queue)
    → distance old node ≡ Some far → Spreads ports (leaving node ports) (far + 1) old new queue longer
    → IsSearch ports to new (head + 1) (drop (head + 1) longer)
search_on ports to old new head node far queue longer paired within read s is spread =
    let t : IsTurn ports to old head node (drop (head + 1) queue) =
    turn_at ports to old head node queue within read s in
    let same : far ≡ t.far = same_Some far t.far (sym is ∙ t.at) in
    let from_turn : Spreads ports (leaving node ports) (t.far + 1) old new queue longer =
    subst (λ (n : ℕ). Spreads ports (leaving node ports) (n + 1) old new queue longer) same spread in
    subst (IsSearch ports to new (head + 1)) (queue_after head queue longer from_turn.added within from_turn.queued)
    (after ports to old new head node (drop (head + 1) queue) queue longer paired t from_turn)

all_none : (nothing : Option ℕ) → nothing ≡ None → (n : ℕ) → unreached (replicate n nothing) ≡ n
all_none nothing none zero = refl
all_none nothing none (suc n) =
    omega (arith, all_none nothing none n, sum_by-cons counts nothing (replicate n nothing), ap counts none)

-- at first all nodes but one are without a distance
pub unreached_start : (nodes to : ℕ) → to < nodes → unreached (set (replicate nodes None) to (Some 0)) + 1 ≡ nodes
unreached_start nodes to within =
    unreached-set (replicate nodes None) to 0 (omega (arith, length-replicate nodes nothing))
    (get_or-replicate nodes to None None within) ∙ all_none nothing refl nodes
  where
    nothing : Option ℕ
    nothing = None

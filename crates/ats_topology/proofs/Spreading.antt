use Rattle.std.proofs.Common.{◌≡◌, ℕ, zero, suc, ◌+◌, ◌<◌, true, false, cond, List, [], ◌∷◌, ◌++◌, length, get_or, set}
use Rattle.std.proofs.Common.{take, Option, Some, None, refl, sym, ap, ◌∙◌, arith, subst, append_assoc, length-append}
use Rattle.std.proofs.Common.{length-set, get_or-set_same, get_or-set_other, ⊎_elim, inl, inr, ◌⊎◌}
use Rattle.std.specs.Prelude.{is_none, is_some}
use Rattle.std.specs.List.{All, Contains}
use Rattle.std.proofs.lemmas.Bool.{cases_eq, cases_lt, true≢false}
use Rattle.std.proofs.lemmas.List.{append-nil, get_or_past, get_or_default, take_more}
use Rattle.std.proofs.lemmas.List.Sums.{sum_by-cons}
use Rattle.std.proofs.lemmas.List.Elements.{All-nil, All-push, All-weaker, Contains-append_left, Contains-push}
use Rattle.std.proofs.lemmas.List.Elements.{Contains-push_cases}
use Rattle.std.proofs.lemmas.Option.{same_Some, none-some}
use Rattle.ats_facts.proofs.Options.{is_some-false}
use Rattle.ats_topology.specs.Port.{port_at, leaving, no_port, IsBetween}
use Rattle.ats_topology.specs.Search.{distance, unreached, Spreads, IsAdded}
use Rattle.ats_topology.specs.declared.port.Port.{Port}

-- a node with a distance is one of the list
pub distance_within : (distances : List (Option ℕ)) (node e : ℕ) → distance distances node ≡ Some e
    → node < length distances
distance_within distances node e is = ⊎_elim (λ h. h)
    (λ h. absurd (none-some e (sym (get_or_past distances node None h) ∙ is))) (cases_lt node (length distances))

abbrev pub counts : Option ℕ → ℕ
counts o = cond (is_none o) 1 0

-- one node less without a distance
pub unreached-set : (distances : List (Option ℕ)) (node e : ℕ) → node < length distances
    → distance distances node ≡ None → unreached (set distances node (Some e)) + 1 ≡ unreached distances
unreached-set [] node e within none = absurd (omega arith)
unreached-set (None ∷ xs) zero e within none = omega (arith, sum_by-cons counts (Some e) xs, sum_by-cons counts None xs)
unreached-set (Some y ∷ xs) zero e within none = absurd (none-some y (sym none))
unreached-set (x ∷ xs) (suc node) e within none = omega (
  arith,
  unreached-set xs node e (omega arith) none,
  sum_by-cons counts x xs,
  sum_by-cons counts x (set xs node (Some e)),
)

-- before the first port
pub spreads_none : (ports : List Port) (far : ℕ) (distances : List (Option ℕ)) (queue : List ℕ)
    → Spreads ports [] far distances distances queue queue
spreads_none ports far distances queue = record {
  long = refl;
  added = [];
  queued = sym (append-nil queue);
  kept = λ node e h. h;
  alike = All-nil (λ node. distance distances node ≡ Some far);
  others = λ node e h. inl h;
  done = λ p h. absurd (omega (arith, h.1));
  count = refl;
}

more_added : (ports : List Port) (list : List ℕ) (p : ℕ) (added : List ℕ) (node : ℕ) → IsAdded ports list added node
    → IsAdded ports (list ++ p ∷ []) added node
more_added ports list p added node h =
    record { port = h.port; listed = Contains-append_left list (p ∷ []) h.port h.listed; to = h.to; there = h.there }

-- a port that leads to a node with a distance
pub spreads_over : (ports : List Port) (list : List ℕ) (far p e : ℕ) (old new : List (Option ℕ)) (queue longer : List ℕ)
    → Spreads ports list far old new queue longer → distance new (port_at ports p).to ≡ Some e
    → Spreads ports (list ++ p ∷ []) far old new queue longer
spreads_over ports list far p e old new queue longer s is = record {
  long = s.long;
  added = s.added;
  queued = s.queued;
  kept = s.kept;
  alike = s.alike;
  others = λ node f h.
      ⊎_elim (λ was. inl was) (λ more. inr (more.0, more_added ports list p s.added node more.1)) (s.others node f h);
  done = λ q h. ⊎_elim (λ before. s.done q before)
      (λ same. (e, ap (λ (n : ℕ). distance new (port_at ports n).to) (sym same) ∙ is)) (Contains-push_cases list p q h);
  count = s.count;
}

-- a port that leads to a node without one
pub spreads_to : (ports : List Port) (list : List ℕ) (far p node : ℕ) (old new : List (Option ℕ))
    (queue longer : List ℕ) → Spreads ports list far old new queue longer → (port_at ports p).to ≡ node
    → node < length new → distance new node ≡ None
    → Spreads ports (list ++ p ∷ []) far old (set new node (Some far)) queue (longer ++ node ∷ [])
spreads_to ports list far p node old new queue longer s to within none = record {
  long = length-set new node (Some far) ∙ s.long;
  added = s.added ++ node ∷ [];
  queued = ap (λ (t : List ℕ). t ++ node ∷ []) s.queued ∙ append_assoc queue s.added (node ∷ []);
  kept = λ other e h. stays other e (s.kept other e h);
  alike = All-push (λ n. distance later n ≡ Some far) s.added node
      (All-weaker (λ n. distance new n ≡ Some far) (λ n. distance later n ≡ Some far) (λ n h. stays n far h)
      s.added s.alike) here;
  others = others;
  done = λ q h. ⊎_elim (λ before. let f = s.done q before in (f.0, stays (port_at ports q).to f.0 f.1))
      (λ same. (far, ap (λ (n : ℕ). distance later (port_at ports n).to) (sym same) ∙ ap (distance later) to ∙ here))
      (Contains-push_cases list p q h);
  count = omega (arith, unreached-set new node far within none, length-append longer (node ∷ []), s.count);
}
  where
    later : List (Option ℕ)
    later = set new node (Some far)

    here : distance later node ≡ Some far
    here = get_or-set_same new node (Some far) None within

    stays : (other e : ℕ) → distance new other ≡ Some e → distance later other ≡ Some e
    stays other e h =
        let apart : other ≡ node → ⊥ = λ same. none-some e (sym none ∙ ap (distance new) (sym same) ∙ h) in
        get_or-set_other new node other (Some far) None apart ∙ h

    new_one : (other e : ℕ) → distance later other ≡ Some e → other ≡ node
        → (distance old other ≡ Some e) ⊎ ((e ≡ far) × IsAdded ports (list ++ p ∷ []) (s.added ++ node ∷ []) other)
    new_one other e h same = inr (
      same_Some e far (sym h ∙ ap (distance later) same ∙ here),
      record {
        port = p;
        listed = Contains-push list p;
        to = to ∙ sym same;
        there = subst (Contains (s.added ++ node ∷ [])) (sym same) (Contains-push s.added node);
      },
    )

    old_one : (other e : ℕ) → distance later other ≡ Some e → (other ≡ node → ⊥)
        → (distance old other ≡ Some e) ⊎ ((e ≡ far) × IsAdded ports (list ++ p ∷ []) (s.added ++ node ∷ []) other)
    old_one other e h apart = ⊎_elim (λ was. inl was)
        (λ more. let a = more_added ports list p s.added other more.1 in
        inr (
          more.0,
          record {
            port = a.port;
            listed = a.listed;
            to = a.to;
            there = Contains-append_left s.added (node ∷ []) other a.there;
          },
        ))
        (s.others other e (sym (get_or-set_other new node other (Some far) None apart) ∙ h))

    others : (other e : ℕ) → distance later other ≡ Some e
        → (distance old other ≡ Some e) ⊎ ((e ≡ far) × IsAdded ports (list ++ p ∷ []) (s.added ++ node ∷ []) other)
    others other e h = ⊎_elim (new_one other e h) (old_one other e h) (cases_eq other node)

list_more : (node : ℕ) (ports : List Port) (items : List ℕ) (i : ℕ) → items ≡ leaving node ports → i < length items
    → take i (leaving node ports) ++ get_or items i 0 ∷ [] ≡ take (i + 1) (leaving node ports)
list_more node ports items i is within =
    ap (λ (xs : List ℕ). take i xs ++ get_or items i 0 ∷ []) (sym is) ∙ sym (take_more items i 0 within)
    ∙ ap (take (i + 1)) is

-- what is read of a node's distance
pub read_is : (distances : List (Option ℕ)) (node : ℕ) (read : Option ℕ) → node < length distances
    → read ≡ get_or distances node read → distance distances node ≡ read
read_is distances node read within h = get_or_default distances node None read within ∙ sym h

some_value : (o : Option ℕ) → is_some o ≡ true → (e : ℕ) × (o ≡ Some e)
some_value None h = absurd (true≢false (sym h))
some_value (Some e) h = (e, refl)

-- one port more of a node, as the code reads it
pub step_over : (node far i : ℕ) (all ports : List Port) (items : List ℕ) (old new : List (Option ℕ))
    (queue longer : List ℕ) (read : Option ℕ) → ports ≡ all → items ≡ leaving node all → i < length items
    → (port_at ports (get_or items i 0)).to < length new → read ≡ get_or new (port_at ports (get_or items i 0)).to read
    → is_some read ≡ true
    → Spreads all (take i (leaving node all)) far old new queue longer
    → Spreads all (take (i + 1) (leaving node all)) far old new queue longer
step_over node far i all ports items old new queue longer read same is within inside reads some s =
    let p : ℕ = get_or items i 0 in
    let value : (e : ℕ) × (read ≡ Some e) = some_value read some in
    let at : distance new (port_at all p).to ≡ Some value.0 =
    ap (λ (ps : List Port). distance new (port_at ps p).to) (sym same)
    ∙ read_is new (port_at ports p).to read inside reads ∙ value.1 in
    subst (λ (xs : List ℕ). Spreads all xs far old new queue longer) (list_more node all items i is within)
    (spreads_over all (take i (leaving node all)) far p value.0 old new queue longer s at)

pub step_to : (node far i : ℕ) (all ports : List Port) (items : List ℕ) (old new : List (Option ℕ))
    (queue longer after : List ℕ) (read : Option ℕ) → ports ≡ all → items ≡ leaving node all → i < length items
    → (port_at ports (get_or items i 0)).to < length new → read ≡ get_or new (port_at ports (get_or items i 0)).to read
    → is_some read ≡ false → after ≡ longer ++ (port_at ports (get_or items i 0)).to ∷ []
    → Spreads all (take i (leaving node all)) far old new queue longer → Spreads all (take (i + 1) (leaving node all))
    far old (set new (port_at ports (get_or items i 0)).to (Some far)) queue after
step_to node far i all ports items old new queue longer after read same is within inside reads none pushed s =
    let p : ℕ = get_or items i 0 in
    let to : ℕ = (port_at ports p).to in
    let later : List (Option ℕ) = set new to (Some far) in
    subst (λ (xs : List ℕ). Spreads all (take (i + 1) (leaving node all)) far old later queue xs) (sym pushed)
    (subst (λ (xs : List ℕ). Spreads all xs far old later queue (longer ++ to ∷ []))
    (list_more node all items i is within)
    (spreads_to all (take i (leaving node all)) far p to old new queue longer s
    (ap (λ (ps : List Port). (port_at ps p).to) (sym same)) inside
    (read_is new to read inside reads ∙ is_some-false read none)))

-- a port leads to a node of the list
pub to_within : (nodes : ℕ) (all ports : List Port) (p : ℕ) (distances : List (Option ℕ)) → All (IsBetween nodes) all
    → ports ≡ all → p < length all → length distances ≡ nodes → (port_at ports p).to < length distances
to_within nodes all ports p distances between same within long =
    let b : IsBetween nodes (port_at all p) = between p no_port within in
    omega (arith, b.to, ap (λ (ps : List Port). (port_at ps p).to) same)

use Rattle.std.proofs.Common.{◌≡◌, ℕ, ◌+◌, ◌-◌, ◌<◌, ◌≤◌, Bool, true, List, [], ◌∷◌, ◌++◌, length, Option, Some, None}
use Rattle.std.proofs.Common.{refl, sym, ap, ◌∙◌, arith, subst, ⊎_elim, eqb, append_assoc, IsSome}
use Rattle.std.specs.Prelude.{IsTrue, unwrap_or}
use Rattle.std.specs.List.{find}
use Rattle.std.specs.Option.{option_eq}
use Rattle.std.specs.Ordering.{nat_cmp, is_le, ordering_then}
use Rattle.std.specs.declared.cmp.Ordering.{Ordering}
use Rattle.std.specs.declared.cmp.Ordering.TheVariants.{Less, Equal}
use Rattle.std.specs.Cmp.Lexicographic.{slice_cmp}
use Rattle.std.proofs.lemmas.Bool.{cases_eq, true≢false, eqb-true, eq-eqb}
use Rattle.std.proofs.lemmas.Bool.Decides.{nat_tests}
use Rattle.std.proofs.lemmas.Option.{same_Some, none-some}
use Rattle.ats_topology.specs.Port.{port_at, leaving}
use Rattle.ats_topology.specs.Walks.{IsPortFrom, IsWalk, IsLeastWalk, NoWalk, ArePorts}
use Rattle.std.proofs.lemmas.List.Elements.{All-nil, All-cons}
use Rattle.ats_topology.specs.Search.{distance, is_at, HasWalk, IsWithin, AreDistances}
use Rattle.ats_topology.specs.declared.port.Port.{Port}
use Rattle.ats_topology.proofs.Leaving.{IsLeastPort, find-leaving, find-leaving_some}

at_is : (far : ℕ) (o : Option ℕ) → is_at far o ≡ true → o ≡ Some far
at_is far None h = absurd (true≢false (sym h))
at_is far (Some e) h = ap Some (eqb-true e far h)

is_at_of : (far : ℕ) (o : Option ℕ) → o ≡ Some far → is_at far o ≡ true
is_at_of far None h = absurd (none-some far h)
is_at_of far (Some e) h = eq-eqb e far (same_Some e far h)

-- the first port of a walk leads to a node that is at most one nearer
pub one_nearer : (ports : List Port) (to : ℕ) (distances : List (Option ℕ)) (at far p e : ℕ)
    → AreDistances ports to distances → distance distances at ≡ Some far → IsPortFrom ports at p
    → distance distances (port_at ports p).to ≡ Some e → far ≤ e + 1
one_nearer ports to distances at far p e d is from end =
    let w : HasWalk ports (port_at ports p).to to e = d.reached (port_at ports p).to e end in
    let b : IsWithin distances at (length (p ∷ w.walk)) = d.least at (p ∷ w.walk) (from, w.is) in
    let same : b.far ≡ far = same_Some b.far far (sym b.is ∙ is) in
    omega (arith, b.within, w.long)

-- the first port of a shortest walk leads to a node that is one nearer
pub leads_nearer : (ports : List Port) (to : ℕ) (distances : List (Option ℕ)) (at far p : ℕ) (walk : List ℕ)
    → AreDistances ports to distances → distance distances at ≡ Some far → IsWalk ports at to (p ∷ walk)
    → length (p ∷ walk) ≡ far
    → distance distances (port_at ports p).to ≡ Some (far - 1)
leads_nearer ports to distances at far p walk d is w long =
    let b : IsWithin distances (port_at ports p).to (length walk) = d.least (port_at ports p).to walk w.1 in
    let low : far ≤ b.far + 1 = one_nearer ports to distances at far p b.far d is w.0 b.is in
    b.is ∙ ap Some (omega (arith, b.within))

-- such a port is found, where the walk has one
pub nearer_found : (ports : List Port) (to : ℕ) (distances : List (Option ℕ)) (at far : ℕ)
    → AreDistances ports to distances → distance distances at ≡ Some far → (at ≡ to → ⊥)
    → find (λ p. is_at (far - 1) (distance distances (port_at ports p).to)) (leaving at ports) ≡ None → ⊥
nearer_found ports to distances at far d is apart none =
    let w : HasWalk ports at to far = d.reached at far is in
    by w.walk w.is w.long
  where
    by : (walk : List ℕ) → IsWalk ports at to walk → length walk ≡ far → ⊥
    by [] here long = apart here
    by (p ∷ walk) here long =
        find-leaving_some (λ q. is_at (far - 1) (distance distances (port_at ports q).to)) at ports p here.0
        (is_at_of (far - 1) (distance distances (port_at ports p).to)
        (leads_nearer ports to distances at far p walk d is here long)) none

pub far_positive : (ports : List Port) (to : ℕ) (distances : List (Option ℕ)) (at far : ℕ)
    → AreDistances ports to distances → distance distances at ≡ Some far → (at ≡ to → ⊥) → 1 ≤ far
far_positive ports to distances at far d is apart =
    let w : HasWalk ports at to far = d.reached at far is in
    by w.walk w.is w.long
  where
    by : (walk : List ℕ) → IsWalk ports at to walk → length walk ≡ far → 1 ≤ far
    by [] here long = absurd (apart here)
    by (p ∷ walk) here long = omega (arith, long)

less_first : (p q : ℕ) (xs ys : List ℕ) → p < q → IsTrue (is_le (slice_cmp nat_cmp (p ∷ xs) (q ∷ ys)))
less_first p q xs ys h = let less : nat_cmp p q ≡ Less = grind (arith, nat_tests) in
    ap (λ (o : Ordering). is_le (ordering_then o (slice_cmp nat_cmp xs ys))) less

same_first : (p q : ℕ) (xs ys : List ℕ) → p ≡ q → IsTrue (is_le (slice_cmp nat_cmp xs ys))
    → IsTrue (is_le (slice_cmp nat_cmp (p ∷ xs) (q ∷ ys)))
same_first p q xs ys h rest = let equal : nat_cmp p q ≡ Equal = grind (arith, nat_tests) in
    ap (λ (o : Ordering). is_le (ordering_then o (slice_cmp nat_cmp xs ys))) equal ∙ rest

-- before a least walk from there, the first port that leads nearer gives a least walk from here
pub least_step : (ports : List Port) (to : ℕ) (distances : List (Option ℕ)) (at far p : ℕ) (rest : List ℕ)
    → AreDistances ports to distances → distance distances at ≡ Some far → (at ≡ to → ⊥)
    → find (λ q. is_at (far - 1) (distance distances (port_at ports q).to)) (leaving at ports) ≡ Some p
    → IsLeastWalk ports (port_at ports p).to to rest → IsLeastWalk ports at to (p ∷ rest)
least_step ports to distances at far p rest d is apart found l = record {
  walk_is = (f.leaves, l.walk_is);
  least = least;
  first = first;
}
  where
    test : ℕ → Bool
    test q = is_at (far - 1) (distance distances (port_at ports q).to)

    f : IsLeastPort test at ports p
    f = find-leaving test at ports p found

    positive : 1 ≤ far
    positive = far_positive ports to distances at far d is apart

    end : distance distances (port_at ports p).to ≡ Some (far - 1)
    end = at_is (far - 1) (distance distances (port_at ports p).to) f.passes

    long : length rest ≡ far - 1
    long =
        let w : HasWalk ports (port_at ports p).to to (far - 1) = d.reached (port_at ports p).to (far - 1) end in
        let b : IsWithin distances (port_at ports p).to (length rest) = d.least (port_at ports p).to rest l.walk_is in
        let same : b.far ≡ far - 1 = same_Some b.far (far - 1) (sym b.is ∙ end) in
        omega (arith, l.least w.walk w.is, w.long, b.within)

    least : (other : List ℕ) → IsWalk ports at to other → length (p ∷ rest) ≤ length other
    least other walk =
        let b : IsWithin distances at (length other) = d.least at other walk in
        let same : b.far ≡ far = same_Some b.far far (sym b.is ∙ is) in
        omega (arith, b.within, long, positive)

    first : (other : List ℕ) → IsWalk ports at to other → length other ≡ length (p ∷ rest)
        → IsTrue (is_le (slice_cmp nat_cmp (p ∷ rest) other))
    first [] walk as_long = absurd (omega arith)
    first (q ∷ others) walk as_long =
        let whole : length (q ∷ others) ≡ far = omega (arith, long, positive) in
        let passes : test q ≡ true = is_at_of (far - 1) (distance distances (port_at ports q).to)
        (leads_nearer ports to distances at far q others d is walk whole) in
        let low : p ≤ q = f.least q walk.0 passes in
        ⊎_elim
        (λ same. same_first p q rest others same
        (l.first others (subst (λ (n : ℕ). IsWalk ports (port_at ports n).to to others) (sym same) walk.1)
        (omega (arith, as_long))))
        (λ differ. less_first p q rest others (omega arith)) (cases_eq p q)

-- no port is a least walk from a node to itself
pub least_here : (ports : List Port) (at to : ℕ) → at ≡ to → IsLeastWalk ports at to []
least_here ports at to same = record {
  walk_is = same;
  least = λ other walk. omega arith;
  first = empty_first;
}
  where
    empty_first : (other : List ℕ) → IsWalk ports at to other → length other ≡ 0
        → IsTrue (is_le (slice_cmp nat_cmp [] other))
    empty_first [] walk long = refl
    empty_first (q ∷ other) walk long = absurd (omega arith)

-- a node without a distance has no walk
pub no_walk : (ports : List Port) (to : ℕ) (distances : List (Option ℕ)) (at : ℕ) → AreDistances ports to distances
    → distance distances at ≡ None → NoWalk ports at to
no_walk ports to distances at d none walk is =
    let b : IsWithin distances at (length walk) = d.least at walk is in
    none-some b.far (sym none ∙ b.is)

-- the test that the code makes
pub is_at_eq : (far : ℕ) (o : Option ℕ) → is_at far o ≡ option_eq eqb o (Some far)
is_at_eq far None = refl
is_at_eq far (Some e) = refl

-- so what it gives of the port at a place is what the definition gives
pub is_far_as : (far p : ℕ) (distances : List (Option ℕ)) (ports given : List Port) (tested passes : Bool)
    → given ≡ ports → tested ≡ option_eq eqb (distance distances (port_at given p).to) (Some far) → tested ≡ passes
    → is_at far (distance distances (port_at ports p).to) ≡ passes
is_far_as far p distances ports given tested passes same test h =
    ap (λ (ps : List Port). is_at far (distance distances (port_at ps p).to)) (sym same)
    ∙ is_at_eq far (distance distances (port_at given p).to) ∙ sym test ∙ h

-- the port that is found leads one nearer
pub nearer_end : (ports : List Port) (distances : List (Option ℕ)) (at far p : ℕ)
    → find (λ q. is_at far (distance distances (port_at ports q).to)) (leaving at ports) ≡ Some p
    → distance distances (port_at ports p).to ≡ Some far
nearer_end ports distances at far p found = at_is far (distance distances (port_at ports p).to)
    (find-leaving (λ q. is_at far (distance distances (port_at ports q).to)) at ports p found).passes

pub nearer_within : (ports : List Port) (distances : List (Option ℕ)) (at far p : ℕ)
    → find (λ q. is_at far (distance distances (port_at ports q).to)) (leaving at ports) ≡ Some p → p < length ports
nearer_within ports distances at far p found =
    (find-leaving (λ q. is_at far (distance distances (port_at ports q).to)) at ports p found).leaves.within

pub not_none : (o : Option ℕ) → (o ≡ None → ⊥) → IsSome o
not_none None h = absurd (h refl)
not_none (Some n) h = refl

pub some_there : (o : Option ℕ) (n : ℕ) → o ≡ Some n → IsSome o
some_there None n h = absurd (none-some n h)
some_there (Some m) n h = refl

-- the number falls
pub nearer_falls : (o p : Option ℕ) (far : ℕ) → 1 ≤ far → o ≡ Some (far - 1) → p ≡ Some far
    → unwrap_or o 0 < unwrap_or p 0
nearer_falls o p far positive e g =
    omega (arith, ap (λ (q : Option ℕ). unwrap_or q 0) e, ap (λ (q : Option ℕ). unwrap_or q 0) g)

-- the walk so far, with one port more
pub least_so_far : (ports : List Port) (from to : ℕ) (distances : List (Option ℕ)) (at far p : ℕ) (walk longer : List ℕ)
    → AreDistances ports to distances → distance distances at ≡ Some far → (at ≡ to → ⊥)
    → find (λ q. is_at (far - 1) (distance distances (port_at ports q).to)) (leaving at ports) ≡ Some p
    → longer ≡ walk ++ p ∷ []
    → ((rest : List ℕ) → IsLeastWalk ports at to rest → IsLeastWalk ports from to (walk ++ rest)) → (rest : List ℕ)
    → IsLeastWalk ports (port_at ports p).to to rest → IsLeastWalk ports from to (longer ++ rest)
least_so_far ports from to distances at far p walk longer d is apart found pushed so_far rest l =
    subst (IsLeastWalk ports from to) (sym (ap (λ (w : List ℕ). w ++ rest) pushed ∙ append_assoc walk (p ∷ []) rest))
    (so_far (p ∷ rest) (least_step ports to distances at far p rest d is apart found l))

-- a walk has numbers of ports
pub walk_ports : (ports : List Port) (to at : ℕ) (walk : List ℕ) → IsWalk ports at to walk → ArePorts ports walk
walk_ports ports to at [] is = All-nil (λ p. p < length ports)
walk_ports ports to at (p ∷ walk) is =
    All-cons (λ q. q < length ports) p walk is.0.within (walk_ports ports to (port_at ports p).to walk is.1)

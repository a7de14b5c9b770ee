use Rattle.std.proofs.Common.{◌≡◌, ℕ, suc, ◌*◌, ◌<◌, ◌≤◌, ◌⊎◌, Bool, true, false, cond, List, [], ◌∷◌}
use Rattle.std.proofs.Common.{length, get_or, map, filter, sum_by, refl, sym, ap, subst, ◌∙◌, inl, inr, arith}
use Rattle.std.specs.Prelude.{◌&&◌, ◌||◌, ◌==◌, fold, max, min, nat_le, nat_lt, Contains}
use Rattle.std.specs.List.{All}
use Rattle.std.proofs.lemmas.Bool.{and_parts, cases_lt, eq-eqb, eqb-true, lt-ltb, ltb-true}
use Rattle.std.proofs.lemmas.Bool.Decides.{nat_tests}
use Rattle.std.proofs.lemmas.List.Elements.{All-contains, All-contains_itself, All-filter, All-nil, filter_passes}
use Rattle.std.proofs.lemmas.List.Sums.{sum_by-cons}
use Rattle.ats_facts.proofs.Lists.{All-from_filter}
use Rattle.ats_num.specs.Wire.{bits_of}
use Rattle.ats_topology.specs.Port.{port_at}
use Rattle.ats_topology.specs.Topology.{DeclaredTopology}
use Rattle.ats_network.specs.Class.{PortSender, class_at, seen_at}
use Rattle.ats_network.specs.Network.{DeclaredNetwork, senders_of}
use Rattle.ats_network.specs.Rates.{committed_at}
use Rattle.ats_network.specs.Sender.{Sender}
use Rattle.ats_network.specs.Senders.{no_sender}
use Rattle.ats_certificate.specs.PortSums.{is_above, is_below, is_of, least_of, longest}
use Rattle.ats_certificate.specs.PortSums.{port_sums, senders_at, shortest, sum_where, uses}
use Rattle.ats_port_law.proofs.Sums.{sum_by-filter, sum_by-map}
use Rattle.ats_port_law.proofs.Totals.{greatest_reaches, least_reaches}
use Rattle.ats_listener_law.proofs.Once.{uses_its_ports}
use Rattle.ats_meaning_examples.specs.Rows.{IsBelow, IsOf, SumsAreMeant}

-- The sums of a port, by its senders one by one.

-- a sum of what is the same at each
same_sum : (f g : Sender → ℕ) (senders : List Sender) → ((s : Sender) → f s ≡ g s) → sum_by f senders ≡ sum_by g senders
same_sum f g [] each = refl
same_sum f g (s ∷ senders) each =
    let rest : sum_by f senders ≡ sum_by g senders = same_sum f g senders each in
    omega (arith, rest, each s, sum_by-cons f s senders, sum_by-cons g s senders)

one_test : (a b : Bool) (n : ℕ) → cond a (cond b n 0) 0 ≡ cond (a && b) n 0
one_test true b n = refl
one_test false b n = refl

-- what the senders at a port that pass a test make together
together : (topology : DeclaredTopology) (port : ℕ) (test : PortSender → Bool) (amount : PortSender → ℕ)
    (senders : List Sender) → sum_where test amount (senders_at topology port senders)
    ≡ sum_by (λ (s : Sender). cond (uses port s && test (seen_at topology port s)) (amount (seen_at topology port s)) 0)
    senders
together topology port test amount senders =
    sum_by-filter amount test (senders_at topology port senders)
    ∙ sum_by-map (λ (x : PortSender). cond (test x) (amount x) 0) (seen_at topology port) (filter (uses port) senders)
    ∙ sum_by-filter (λ (s : Sender). cond (test (seen_at topology port s)) (amount (seen_at topology port s)) 0)
    (uses port) senders
    ∙ same_sum
    (λ (s : Sender). cond (uses port s)
    (cond (test (seen_at topology port s)) (amount (seen_at topology port s)) 0) 0)
    (λ (s : Sender). cond (uses port s && test (seen_at topology port s)) (amount (seen_at topology port s)) 0)
    senders (λ s. one_test (uses port s) (test (seen_at topology port s)) (amount (seen_at topology port s)))

-- a class that is above another one, or is this one
no_less : (class other : ℕ) → (nat_lt class other || (other == class)) ≡ nat_le class other
no_less class other = grind (arith, nat_tests)

-- the senders with a port that pass a test, as it sees them, are those that do both
merged : (used : Sender → Bool) (see : Sender → PortSender) (test : PortSender → Bool) (senders : List Sender)
    → filter test (map see (filter used senders)) ≡ map see (filter (λ s. used s && test (see s)) senders)
merged used see test [] = refl
merged used see test (s ∷ senders) = by (used s) (merged used see test senders)
  where
    kept : List Sender
    kept = filter used senders

    both : List Sender
    both = filter (λ t. used t && test (see t)) senders

    chosen : (b : Bool) → filter test (map see kept) ≡ map see both
        → cond b (see s ∷ filter test (map see kept)) (filter test (map see kept)) ≡ map see (cond b (s ∷ both) both)
    chosen true e = ap (λ (rest : List PortSender). see s ∷ rest) e
    chosen false e = e

    by : (b : Bool) → filter test (map see kept) ≡ map see both
        → filter test (map see (cond b (s ∷ kept) kept)) ≡ map see (cond (b && test (see s)) (s ∷ both) both)
    by true e = chosen (test (see s)) e
    by false e = e

mapped : (see : Sender → PortSender) (amount : PortSender → ℕ) (senders : List Sender)
    → map amount (map see senders) ≡ map (λ s. amount (see s)) senders
mapped see amount [] = refl
mapped see amount (s ∷ senders) = ap (λ (rest : List ℕ). amount (see s) ∷ rest) (mapped see amount senders)

-- the greatest of numbers and a start is the start or one of them, and the least is
greatest_is : (f : Sender → ℕ) (start : ℕ) (senders : List Sender)
    → (fold max start (map f senders) ≡ start)
    ⊎ ((k : ℕ) × (k < length senders) × ((d : Sender) → f (get_or senders k d) ≡ fold max start (map f senders)))
greatest_is f start [] = inl refl
greatest_is f start (s ∷ senders) =
    elim (greatest_is f (max start (f s)) senders) as (λ _. (fold max start (map f (s ∷ senders)) ≡ start)
    ⊎ ((k : ℕ) × (k < length (s ∷ senders))
    × ((d : Sender) → f (get_or (s ∷ senders) k d) ≡ fold max start (map f (s ∷ senders))))) [
      | inl first ↦ here (fold max (max start (f s)) (map f senders)) first
      | inr later ↦ inr (suc later.0, omega (arith, later.1), later.2)
    ]
  where
    here : (m : ℕ) → m ≡ max start (f s) → (m ≡ start) ⊎ ((k : ℕ) × (k < length (s ∷ senders))
        × ((d : Sender) → f (get_or (s ∷ senders) k d) ≡ m))
    here m is = elim (cases_lt start (f s)) as (λ _. (m ≡ start) ⊎ ((k : ℕ) × (k < length (s ∷ senders))
        × ((d : Sender) → f (get_or (s ∷ senders) k d) ≡ m))) [
          | inl past ↦ inr (0, omega arith, λ d. omega (arith, is, past))
          | inr within ↦ inl (omega (arith, is, within))
        ]

least_is : (f : Sender → ℕ) (start : ℕ) (senders : List Sender)
    → (fold min start (map f senders) ≡ start)
    ⊎ ((k : ℕ) × (k < length senders) × ((d : Sender) → f (get_or senders k d) ≡ fold min start (map f senders)))
least_is f start [] = inl refl
least_is f start (s ∷ senders) =
    elim (least_is f (min start (f s)) senders) as (λ _. (fold min start (map f (s ∷ senders)) ≡ start)
    ⊎ ((k : ℕ) × (k < length (s ∷ senders))
    × ((d : Sender) → f (get_or (s ∷ senders) k d) ≡ fold min start (map f (s ∷ senders))))) [
      | inl first ↦ here (fold min (min start (f s)) (map f senders)) first
      | inr later ↦ inr (suc later.0, omega (arith, later.1), later.2)
    ]
  where
    here : (m : ℕ) → m ≡ min start (f s) → (m ≡ start) ⊎ ((k : ℕ) × (k < length (s ∷ senders))
        × ((d : Sender) → f (get_or (s ∷ senders) k d) ≡ m))
    here m is = elim (cases_lt (f s) start) as (λ _. (m ≡ start) ⊎ ((k : ℕ) × (k < length (s ∷ senders))
        × ((d : Sender) → f (get_or (s ∷ senders) k d) ≡ m))) [
          | inl past ↦ inr (0, omega arith, λ d. omega (arith, is, past))
          | inr within ↦ inl (omega (arith, is, within))
        ]

-- the least of numbers is 0 where there are none, and else one of them
least_case : (f : Sender → ℕ) (senders : List Sender)
    → ((senders ≡ []) × (least_of (map f senders) ≡ 0))
    ⊎ ((k : ℕ) × (k < length senders) × ((d : Sender) → f (get_or senders k d) ≡ least_of (map f senders)))
least_case f [] = inl (refl, refl)
least_case f (s ∷ senders) = elim (least_is f (f s) senders)
    as (λ _. ((s ∷ senders ≡ []) × (least_of (map f (s ∷ senders)) ≡ 0))
    ⊎ ((k : ℕ) × (k < length (s ∷ senders))
    × ((d : Sender) → f (get_or (s ∷ senders) k d) ≡ least_of (map f (s ∷ senders))))) [
      | inl first ↦ inr (0, omega arith, λ d. sym first)
      | inr later ↦ inr (suc later.0, omega (arith, later.1), later.2)
    ]

pub and_both : (x y : Bool) → x ≡ true → y ≡ true → (x && y) ≡ true
and_both true y h k = k
and_both false y h k = h

-- a sender of the list that uses the port
used_there : (port : ℕ) (senders : List Sender) (s : Sender) (at : Contains senders s) → Contains s.ports port
    → uses port (get_or senders at.0 s) ≡ true
used_there port senders s at has =
    subst (λ (x : Sender). uses port x ≡ true) (sym at.2) ((uses_its_ports port s).1 has)

lower_most : (network : DeclaredNetwork) (port class : ℕ) (s : Sender) → IsBelow network port class s
    → bits_of s.max_octets ≤ (port_sums network port class).lower
lower_most network port class s is =
    let t : DeclaredTopology = network.topology in
    let senders : List Sender = senders_of network in
    let below : is_below class (seen_at t port (get_or senders is.0.0 s)) ≡ true =
    subst (λ (x : Sender). is_below class (seen_at t port x) ≡ true) (sym is.0.2)
    (lt-ltb (class_at s port) class is.2) in
    subst (λ (x : Sender). bits_of x.max_octets ≤ (port_sums network port class).lower) is.0.2
    (greatest_reaches t port (is_below class) longest senders is.0.0 s is.0.1 (used_there port senders s is.0 is.1)
    below)

least_least : (network : DeclaredNetwork) (port class : ℕ) (s : Sender) → IsOf network port class s
    → (port_sums network port class).least ≤ bits_of s.min_octets
least_least network port class s is =
    let t : DeclaredTopology = network.topology in
    let senders : List Sender = senders_of network in
    let of : is_of class (seen_at t port (get_or senders is.0.0 s)) ≡ true =
    subst (λ (x : Sender). is_of class (seen_at t port x) ≡ true) (sym is.0.2)
    (eq-eqb (class_at s port) class is.2) in
    subst (λ (x : Sender). (port_sums network port class).least ≤ bits_of x.min_octets) is.0.2
    (least_reaches t port (is_of class) shortest senders is.0.0 s is.0.1 (used_there port senders s is.0 is.1) of)

-- what each of the senders at a port sends that pass a test
amounts_are : (t : DeclaredTopology) (port : ℕ) (test : PortSender → Bool) (amount : PortSender → ℕ)
    (senders : List Sender) → map amount (filter test (senders_at t port senders))
    ≡ map (λ s. amount (seen_at t port s)) (filter (λ s. uses port s && test (seen_at t port s)) senders)
amounts_are t port test amount senders =
    ap (map amount) (merged (uses port) (seen_at t port) test senders)
    ∙ mapped (seen_at t port) amount (filter (λ s. uses port s && test (seen_at t port s)) senders)

-- one that is kept
record IsKept (t : DeclaredTopology) (port : ℕ) (test : PortSender → Bool) (senders : List Sender) (s : Sender) : Type 0
  where
    there : Contains senders s
    has : Contains s.ports port
    passes : test (seen_at t port s) ≡ true

kept_at : (t : DeclaredTopology) (port : ℕ) (test : PortSender → Bool) (senders : List Sender) (k : ℕ)
    → k < length (filter (λ s. uses port s && test (seen_at t port s)) senders)
    → IsKept t port test senders
    (get_or (filter (λ s. uses port s && test (seen_at t port s)) senders) k no_sender)
kept_at t port test senders k within =
    let both : Sender → Bool = λ s. uses port s && test (seen_at t port s) in
    let s : Sender = get_or (filter both senders) k no_sender in
    let parts = and_parts (uses port s) (test (seen_at t port s))
    (filter_passes both senders k no_sender within) in
    record {
      there = All-filter both (Contains senders) senders (All-contains_itself senders) k no_sender within;
      has = (uses_its_ports port s).0 parts.0;
      passes = parts.1;
    }

lower_is : (network : DeclaredNetwork) (port class : ℕ) → ((port_sums network port class).lower ≡ 0)
    ⊎ ((s : Sender) × IsBelow network port class s × (bits_of s.max_octets ≡ (port_sums network port class).lower))
lower_is network port class =
    let t : DeclaredTopology = network.topology in
    let senders : List Sender = senders_of network in
    let f : Sender → ℕ = λ s. longest (seen_at t port s) in
    let kept : List Sender = filter (λ s. uses port s && is_below class (seen_at t port s)) senders in
    let e : (port_sums network port class).lower ≡ fold max 0 (map f kept) =
    ap (λ (ns : List ℕ). fold max 0 ns) (amounts_are t port (is_below class) longest senders) in
    elim (greatest_is f 0 kept) as (λ _. ((port_sums network port class).lower ≡ 0)
    ⊎ ((s : Sender) × IsBelow network port class s × (bits_of s.max_octets ≡ (port_sums network port class).lower))) [
      | inl none ↦ inl (e ∙ none)
      | inr some ↦ (
          let is = kept_at t port (is_below class) senders some.0 some.1 in
          let s : Sender = get_or kept some.0 no_sender in
          inr (s, (is.there, is.has, ltb-true (class_at s port) class is.passes), some.2 no_sender ∙ sym e))
    ]

none_of : (network : DeclaredNetwork) (port class : ℕ)
    → filter (λ s. uses port s && is_of class (seen_at network.topology port s)) (senders_of network) ≡ []
    → (s : Sender) → ¬ IsOf network port class s
none_of network port class empty s is =
    let t : DeclaredTopology = network.topology in
    let both : Sender → Bool = λ x. uses port x && is_of class (seen_at t port x) in
    let never : All (λ (x : Sender). both x ≡ true → ⊥) (senders_of network) =
    All-from_filter both (λ (x : Sender). ⊥) (senders_of network)
    (subst (All (λ (x : Sender). ⊥)) (sym empty) (All-nil (λ (x : Sender). ⊥))) in
    All-contains (λ (x : Sender). both x ≡ true → ⊥) (senders_of network) s never is.0
    (and_both (uses port s) (is_of class (seen_at t port s)) ((uses_its_ports port s).1 is.1)
    (eq-eqb (class_at s port) class is.2))

least_of_is : (network : DeclaredNetwork) (port class : ℕ)
    → (((port_sums network port class).least ≡ 0) × ((s : Sender) → ¬ IsOf network port class s))
    ⊎ ((s : Sender) × IsOf network port class s × (bits_of s.min_octets ≡ (port_sums network port class).least))
least_of_is network port class =
    let t : DeclaredTopology = network.topology in
    let senders : List Sender = senders_of network in
    let f : Sender → ℕ = λ s. shortest (seen_at t port s) in
    let kept : List Sender = filter (λ s. uses port s && is_of class (seen_at t port s)) senders in
    let e : (port_sums network port class).least ≡ least_of (map f kept) =
    ap least_of (amounts_are t port (is_of class) shortest senders) in
    elim (least_case f kept)
    as (λ _. (((port_sums network port class).least ≡ 0) × ((s : Sender) → ¬ IsOf network port class s))
    ⊎ ((s : Sender) × IsOf network port class s × (bits_of s.min_octets ≡ (port_sums network port class).least))) [
      | inl none ↦ inl (e ∙ none.1, none_of network port class none.0)
      | inr some ↦ (
          let is = kept_at t port (is_of class) senders some.0 some.1 in
          let s : Sender = get_or kept some.0 no_sender in
          inr (s, (is.there, is.has, eqb-true (class_at s port) class is.passes), some.2 no_sender ∙ sym e))
    ]

-- the burst of a class that is above another one, or is this one
of_either : (network : DeclaredNetwork) (port class : ℕ) (s : Sender)
    → cond (uses port s && (nat_lt class (class_at s port) || class_at s port == class))
    (committed_at network.topology port s).burst_bits 0
    ≡ cond (uses port s && nat_le class (class_at s port)) (committed_at network.topology port s).burst_bits 0
of_either network port class s =
    ap (λ (b : Bool). cond (uses port s && b) (committed_at network.topology port s).burst_bits 0)
    (no_less class (class_at s port))

pub sums_are_meant : (network : DeclaredNetwork) (port class : ℕ) → SumsAreMeant network port class
sums_are_meant network port class =
    let t : DeclaredTopology = network.topology in
    let senders : List Sender = senders_of network in
    let ps : ℕ = (port_at t.ports port).ps_per_bit in
    record {
      higher = ap (λ (n : ℕ). ps * n) (together t port (is_above class) (λ x. x.rate) senders);
      equal = ap (λ (n : ℕ). ps * n) (together t port (is_of class) (λ x. x.rate) senders);
      bursts = together t port (λ x. is_above class x || is_of class x) (λ x. x.burst_bits) senders
          ∙ same_sum
          (λ (s : Sender). cond (uses port s && (nat_lt class (class_at s port) || class_at s port == class))
          (committed_at t port s).burst_bits 0)
          (λ (s : Sender). cond (uses port s && nat_le class (class_at s port)) (committed_at t port s).burst_bits 0)
          senders (of_either network port class);
      lower_most = lower_most network port class;
      lower_is = lower_is network port class;
      least_least = least_least network port class;
      least_is = least_of_is network port class;
    }

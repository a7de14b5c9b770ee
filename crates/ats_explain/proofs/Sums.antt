-- The parts of a bound add up to it, and the bounds along a route to its sum.
use Rattle.std.proofs.Common.{◌≡◌, ◌+◌, ◌-◌, ◌*◌, ◌≤◌, ℕ, Bool, true, false, cond, List, [], ◌∷◌, get_or, map, filter}
use Rattle.std.proofs.Common.{fold, min, sum_by, Option, Some, None, sym, ap, subst, ◌∙◌, refl, inl, inr, eqb, arith}
use Rattle.std.specs.Prelude.{◌||◌, unwrap_or}
use Rattle.std.specs.List.{All, find}
use Rattle.std.specs.Option.{option_map}
use Rattle.std.proofs.Math.Nat.{mul-le-mul_left, mul-add}
use Rattle.std.proofs.lemmas.Bool.{and_parts, eqb-true, ltb-true, true≢false}
use Rattle.std.proofs.lemmas.List.Elements.{All-cons, All-filter, All-head, All-nil, All-tail, filter_passes}
use Rattle.std.proofs.lemmas.List.Sums.{sum_by-cons}
use Rattle.std.proofs.lemmas.Option.{none-some, same_Some}
use Rattle.ats_num.specs.declared.time.TheConstants.{PS_PER_SECOND}
use Rattle.ats_topology.specs.Node.{clock_of}
use Rattle.ats_topology.specs.Port.{port_at, spread_of}
use Rattle.ats_topology.specs.declared.node.Kind.{Kind}
use Rattle.ats_topology.specs.declared.node.Kind.TheVariants.{Station, Bridge}
use Rattle.ats_streams.specs.Branches.{routes_of}
use Rattle.ats_streams.specs.Rules.{KeepsRules}
use Rattle.ats_streams.specs.Stream.{DeclaredStream}
use Rattle.ats_streams.proofs.RouteLemmas.{each_on_routes}
use Rattle.ats_network.specs.Network.{DeclaredNetwork, IsNetwork, senders_of}
use Rattle.ats_network.specs.Sender.{Sender, stream_sender}
use Rattle.ats_network.specs.Class.{PortSender, class_at, seen_at}
use Rattle.ats_network.specs.Residence.{residence_at}
use Rattle.ats_network.proofs.SenderLemmas.{each_is_sender}
use Rattle.ats_certificate.specs.PortSums.{PortSums, is_above, is_below, is_of, is_used, least_of, longest, port_sums}
use Rattle.ats_certificate.specs.PortSums.{senders_at, shortest, uses}
use Rattle.ats_certificate.specs.Certificate.{bound_at, bound_of_hop, is_row_of, need_behind, need_by, row_of}
use Rattle.ats_certificate.specs.declared.row.Row.{Row}
use Rattle.ats_tally.proofs.Lists.{All-found, IsFound, found_is, option_cases}
use Rattle.ats_tally.proofs.Places.{IsPlace, is_place}
use Rattle.ats_tally.proofs.SeenLemmas.{IsSeen, all_seen}
use Rattle.ats_bound.specs.First.{IsFirstBreach}
use Rattle.ats_bound.specs.Least.{least_row, least_certificate}
use Rattle.ats_bound.proofs.LeastHolds.{least_rows}
use Rattle.ats_bound.proofs.NoneHolds.{IsLeastOf, each_least, no_none, row_at}
use Rattle.ats_bound.proofs.Waits.{Fits, least_row-is, least_wait-is, remains}
use Rattle.ats_explain.specs.Laws.{AreParts, Carries, EachStreamAddsUp, IsOfLongest, IsStayOf, kind_behind}
use Rattle.ats_explain.specs.Parts.{HopIsUsed, parts_at, parts_of_hop, stay_behind, stay_by}
use Rattle.ats_explain.specs.Senders.{is_lower_of, lower_name, lower_sender, name_of, sends_lower}
use Rattle.ats_explain.proofs.Hops.{fits_used, hops_used}

-- the least of numbers from one on is at most the first
fold_min : (n : ℕ) (ns : List ℕ) → fold min n ns ≤ n
fold_min n [] = omega arith
fold_min n (m ∷ ns) = let less = fold_min (min n m) ns in omega (arith, less)

-- the shortest frame of some senders is no longer than their bursts, where that of each is no longer than its own
least_burst : (senders : List PortSender) → All (λ (s : PortSender). shortest s ≤ s.burst_bits) senders
    → least_of (map shortest senders) ≤ sum_by (λ (s : PortSender). s.burst_bits) senders
least_burst [] all = omega arith
least_burst (s ∷ senders) all = omega (
  arith,
  fold_min (shortest s) (map shortest senders),
  All-head (λ (s : PortSender). shortest s ≤ s.burst_bits) s senders all,
  sum_by-cons (λ (s : PortSender). s.burst_bits) s senders,
)

-- the bursts of a class are among those of it and the higher ones
own_bursts : (class : ℕ) (senders : List PortSender)
    → sum_by (λ (s : PortSender). s.burst_bits) (filter (is_of class) senders)
    ≤ sum_by (λ (s : PortSender). s.burst_bits) (filter (λ s. is_above class s || is_of class s) senders)
own_bursts class [] = omega arith
own_bursts class (s ∷ senders) = by (is_above class s) (is_of class s) (own_bursts class senders)
  where
    own : List PortSender
    own = filter (is_of class) senders

    both : List PortSender
    both = filter (λ s. is_above class s || is_of class s) senders

    by : (a b : Bool) → sum_by (λ (s : PortSender). s.burst_bits) own ≤ sum_by (λ (s : PortSender). s.burst_bits) both
        → sum_by (λ (s : PortSender). s.burst_bits) (cond b (s ∷ own) own)
        ≤ sum_by (λ (s : PortSender). s.burst_bits) (cond (a || b) (s ∷ both) both)
    by true true h = omega (
      arith,
      h,
      sum_by-cons (λ (s : PortSender). s.burst_bits) s own,
      sum_by-cons (λ (s : PortSender). s.burst_bits) s both,
    )
    by true false h = omega (arith, h, sum_by-cons (λ (s : PortSender). s.burst_bits) s both)
    by false true h = omega (
      arith,
      h,
      sum_by-cons (λ (s : PortSender). s.burst_bits) s own,
      sum_by-cons (λ (s : PortSender). s.burst_bits) s both,
    )
    by false false h = h

-- so the shortest frame of a class is no longer than the bursts of it and the higher ones
least_bursts : (network : DeclaredNetwork) (port class : ℕ) → IsNetwork network → 1 ≤ class
    → (port_sums network port class).least ≤ (port_sums network port class).bursts
least_bursts network port class is some =
    let seen : List PortSender = senders_at network.topology port (senders_of network) in
    let all : All IsSeen seen = all_seen network.topology port (senders_of network) (each_is_sender network is) in
    let each : All (λ (s : PortSender). shortest s ≤ s.burst_bits) (filter (is_of class) seen) =
    λ k d h. (
    let s : PortSender = get_or (filter (is_of class) seen) k d in
    let one : IsSeen s = All-filter (is_of class) IsSeen seen all k d h in
    let own : s.class ≡ class = eqb-true s.class class (filter_passes (is_of class) seen k d h) in
    let rules : KeepsRules s.rate s.burst_bits s.min_octets s.max_octets = one.shaped (omega (arith, own, some)) in
    omega (arith, rules.covers, one.sizes.ordered)) in
    omega (arith, least_burst (filter (is_of class) seen) each, own_bursts class seen)

-- a wait is at least the time in which its bits are sent
at_least : (work wait higher : ℕ) → 1 ≤ PS_PER_SECOND - higher → PS_PER_SECOND * work ≤ wait * (PS_PER_SECOND - higher)
    → work ≤ wait
at_least work wait higher some reaches =
    let less : wait * (PS_PER_SECOND - higher) ≤ wait * PS_PER_SECOND = mul-le-mul_left wait (omega arith) in
    omega (arith, reaches, less)

-- the bound of a port and a class that are used is that of the least row
pub bound_is : (network : DeclaredNetwork) (port class : ℕ) → IsNetwork network → is_used network port class ≡ true
    → bound_at (least_certificate network) port class ≡ (least_row network (port, class)).bound
bound_is network port class is used =
    elim (option_cases (row_of (least_certificate network) port class)) as (λ _.
    bound_at (least_certificate network) port class ≡ (least_row network (port, class)).bound) [
      | inl none ↦ absurd (no_none (row_of (least_certificate network) port class) none
          ((least_rows network is).complete port class used))
      | inr some ↦ (
          let l : Row = some.0 in
          let f : IsFound (is_row_of port class) (least_certificate network) l =
          found_is (is_row_of port class) (least_certificate network) l some.1 in
          let at = row_at l port class f.passes in
          let of : IsLeastOf network l = All-found (IsLeastOf network) (is_row_of port class)
          (least_certificate network) l (each_least network) some.1 in
          ap (λ (o : Option Row). unwrap_or (option_map (λ (row : Row). row.bound) o) 0) some.1
          ∙ ap (λ (row : Row). row.bound) of.is
          ∙ ap (λ (n : ℕ). (least_row network (n, l.class)).bound) at.0
          ∙ ap (λ (n : ℕ). (least_row network (port, n)).bound) at.1)
    ]

-- what a search finds is the first that passes, and where it finds none, none does
find_first : {X : Type 0} (test : X → Bool) (xs : List X) (x : X) → find test xs ≡ Some x
    → (test x ≡ true) × IsFirstBreach (λ y. test y ≡ false) xs x
find_first test [] x h = absurd (none-some x h)
find_first {X} test (y ∷ ys) x h = by (test y) refl h (find_first test ys x)
  where
    Fails : X → Type 0
    Fails z = test z ≡ false

    by : (b : Bool) → test y ≡ b → cond b (Some y) (find test ys) ≡ Some x
        → (find test ys ≡ Some x → (test x ≡ true) × IsFirstBreach Fails ys x)
        → (test x ≡ true) × IsFirstBreach Fails (y ∷ ys) x
    by true e k later =
        let passes : test x ≡ true = subst (λ (z : X). test z ≡ true) (same_Some y x k) e in (
          passes,
          record {
            before = [];
            after = ys;
            cut = ap (λ (z : X). z ∷ ys) (sym (same_Some y x k));
            kept = All-nil Fails;
            breaks = λ fails. true≢false (sym passes ∙ fails);
          },
        )
    by false e k later =
        let rest = later k in (
          rest.0,
          record {
            before = y ∷ rest.1.before;
            after = rest.1.after;
            cut = ap (λ (zs : List X). y ∷ zs) rest.1.cut;
            kept = All-cons Fails y rest.1.before e rest.1.kept;
            breaks = rest.1.breaks;
          },
        )

find_none : {X : Type 0} (test : X → Bool) (xs : List X) → find test xs ≡ None → All (λ y. test y ≡ false) xs
find_none {X} test [] h = All-nil (λ (y : X). test y ≡ false)
find_none {X} test (x ∷ xs) h = by (test x) refl h (find_none test xs)
  where
    by : (b : Bool) → test x ≡ b → cond b (Some x) (find test xs) ≡ None
        → (find test xs ≡ None → All (λ (y : X). test y ≡ false) xs) → All (λ (y : X). test y ≡ false) (x ∷ xs)
    by true e k later = absurd (none-some x (sym k))
    by false e k later = All-cons (λ (y : X). test y ≡ false) x xs e (later k)

-- the name of a port and a class is that of the sender of the longest lower frame
of_longest : (network : DeclaredNetwork) (port class : ℕ)
    → IsOfLongest network port class (lower_name network port class)
of_longest network port class = by (lower_sender network port class) refl
  where
    bits : ℕ
    bits = (port_sums network port class).lower

    seen : Sender → PortSender
    seen = seen_at network.topology port

    by : (o : Option Sender) → find (sends_lower network.topology port class bits) (senders_of network) ≡ o
        → IsOfLongest network port class (name_of o)
    by None e = find_none (sends_lower network.topology port class bits) (senders_of network) e
    by (Some sender) e =
        let first = find_first (sends_lower network.topology port class bits) (senders_of network) sender e in
        let uses_it = and_parts (uses port sender) (is_lower_of class bits (seen sender)) first.0 in
        let lower = and_parts (is_below class (seen sender)) (eqb (longest (seen sender)) bits) uses_it.1 in
        record {
          sender = sender;
          named = refl;
          uses = uses_it.0;
          lower = ltb-true (seen sender).class class lower.0;
          longest = eqb-true (longest (seen sender)) bits lower.1;
          first = first.1;
        }

-- the stay of a row, by what its port leads to
stay_is : (network : DeclaredNetwork) (port : ℕ) (row : Row)
    → IsStayOf network port row.wait (stay_behind network port row.wait)
stay_is network port row = by (kind_behind network port) refl
  where
    by : (kind : Kind) → kind_behind network port ≡ kind
        → IsStayOf network port row.wait (stay_by (need_behind network port row.wait) (residence_at kind))
    by Station e = e
    by (Bridge processing_min_ns processing_max_ns residence_ns clock_ppm clock_step_ps) e = record {
      processing_min_ns = processing_min_ns;
      processing_max_ns = processing_max_ns;
      residence_ns = residence_ns;
      clock_ppm = clock_ppm;
      clock_step_ps = clock_step_ps;
      bridge = e;
      need = ap (λ (k : Kind). need_by (clock_of k) (row.wait + spread_of (port_at network.topology.ports port))) e;
      residence = refl;
    }

-- the five parts of the bound of a port and a class that are used
pub parts_add : (network : DeclaredNetwork) (port class : ℕ) → IsNetwork network → Carries network
    → is_used network port class ≡ true → AreParts network port class (parts_at network port class)
parts_add network port class is carries used =
    let at : IsPlace network port class = is_place network port class is used in
    let fits : Fits network port class = fits_used network port class is carries used in
    let ps : ℕ = (port_at network.topology.ports port).ps_per_bit in
    let sums : PortSums = port_sums network port class in
    let wait : ℕ = (least_row network (port, class)).wait in
    let enough = (least_wait-is network port class at fits).reaches in
    let sent : ps * (sums.lower + sums.bursts - sums.least) ≤ wait =
    at_least (ps * (sums.lower + sums.bursts - sums.least)) wait sums.higher (remains network port class at fits)
    enough in
    let short = least_bursts network port class is at.least in
    let whole : sums.lower + sums.bursts - sums.least ≡ sums.lower + (sums.bursts - sums.least) = omega
    (arith, short) in
    let apart : ps * (sums.lower + (sums.bursts - sums.least)) ≡ ps * sums.lower + ps * (sums.bursts - sums.least) =
    mul-add ps sums.lower (sums.bursts - sums.least) in
    let sent_apart : ps * sums.lower + ps * (sums.bursts - sums.least) ≤ wait =
    subst (λ (n : ℕ). n ≤ wait) (ap (λ (n : ℕ). ps * n) whole ∙ apart) sent in
    let filled : sums.bursts - sums.least + sums.least ≡ sums.bursts = omega (arith, short) in
    record {
      row = least_row network (port, class);
      least = least_row-is network port class at fits;
      port_is = refl;
      class_is = refl;
      lower = refl;
      frame = refl;
      bursts = sym (mul-add ps (sums.bursts - sums.least) sums.least) ∙ ap (λ (n : ℕ). ps * n) filled;
      higher = rest (ps * sums.lower) (ps * (sums.bursts - sums.least)) wait sent_apart;
      latency = refl;
      bound_is = refl;
      add_up =
          add_up (ps * sums.lower) (ps * (sums.bursts - sums.least)) wait (ps * sums.least)
          (port_at network.topology.ports port).latency.0 sent_apart;
      sender = of_longest network port class;
      stay = stay_is network port (least_row network (port, class));
    }
  where
    rest : (lower bursts wait : ℕ) → lower + bursts ≤ wait → lower + bursts + (wait - (lower + bursts)) ≡ wait
    rest lower bursts wait h = omega arith

    add_up : (lower bursts wait frame latency : ℕ) → lower + bursts ≤ wait
        → lower + bursts + (wait - (lower + bursts)) + frame + latency ≡ wait + frame + latency
    add_up lower bursts wait frame latency h = omega arith

-- sums of what is the same along a list
same_sums : (f g : ℕ → ℕ) (xs : List ℕ) → All (λ x. f x ≡ g x) xs → sum_by f xs ≡ sum_by g xs
same_sums f g [] all = refl
same_sums f g (x ∷ xs) all =
    sum_by-cons f x xs ∙ ap (λ (n : ℕ). n + sum_by f xs) (All-head (λ x. f x ≡ g x) x xs all)
    ∙ ap (λ (n : ℕ). g x + n) (same_sums f g xs (All-tail (λ x. f x ≡ g x) x xs all))
    ∙ sym (sum_by-cons g x xs)

-- the parts of a hop add up to its bound
abbrev AddsUpAt : DeclaredNetwork → DeclaredStream → ℕ → Type 0
AddsUpAt network stream port = (parts_of_hop network stream port).bound
    ≡ bound_of_hop (least_certificate network) (stream_sender stream) port

pub each_stream_adds_up : EachStreamAddsUp
each_stream_adds_up network is carries k d within =
    let stream : DeclaredStream = get_or network.streams k d in
    let used : All (HopIsUsed network stream) stream.ports = hops_used network k d within in
    record {
      parts = λ hop e inside.
          parts_add network (get_or stream.ports hop e) (class_at (stream_sender stream) (get_or stream.ports hop e)) is
          carries (used hop e inside);
      sum = λ route d listed. same_sums (λ port. (parts_of_hop network stream port).bound)
          (bound_of_hop (least_certificate network) (stream_sender stream))
          (get_or (routes_of stream.ports stream.branches) route d)
          (each_on_routes (AddsUpAt network stream) stream.ports stream.branches
          (λ hop e inside. sym (bound_is network (get_or stream.ports hop e)
          (class_at (stream_sender stream) (get_or stream.ports hop e)) is (used hop e inside))) route d listed);
    }

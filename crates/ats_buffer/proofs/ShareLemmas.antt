use Rattle.std.proofs.Common.{◌≡◌, ◌≢◌, ℕ, ◌+◌, ◌<◌, ◌≤◌, Bool, true, false, cond, List, [], ◌∷◌, length, get_or}
use Rattle.std.proofs.Common.{take, filter, sum_by, Some, refl, sym, ap, ◌∙◌, subst, inl, inr, arith}
use Rattle.std.specs.Prelude.{◌==◌, ◌&&◌, ◌||◌}
use Rattle.std.specs.List.{AllPairs, list_any}
use Rattle.std.proofs.lemmas.Bool.{cases_Bool, cases_eq, eq-eqb, ne_eqb, eqb-true}
use Rattle.std.proofs.lemmas.List.{take_more, get_or-take, get_or_default, length-take-le}
use Rattle.std.proofs.lemmas.List.Elements.{filter-append}
use Rattle.std.proofs.lemmas.List.Folds.{list_any_more, list_any_none}
use Rattle.std.proofs.lemmas.List.Sums.{sum_by-append, sum_by-cons}
use Rattle.ats_class_table.specs.Table.{Sets, Table, value_at}
use Rattle.ats_streams.specs.Stream.{DeclaredStream}
use Rattle.ats_network.specs.Sender.{stream_sender}
use Rattle.ats_network.specs.Class.{class_at}
use Rattle.ats_network.specs.Edits.{no_stream}
use Rattle.ats_network.specs.Network.{DeclaredNetwork}
use Rattle.ats_network.proofs.ClassLemmas.{class_along-has}
use Rattle.ats_certificate.specs.declared.row.Row.{Row}
use Rattle.ats_buffer.specs.Buffer.{has_class, share_at, shares_at}
use Rattle.ats_buffer.specs.Sums.{AreAdding, AreSums}

-- the stream with a number
abbrev pub stream_at : DeclaredNetwork → ℕ → DeclaredStream
stream_at network n = get_or network.streams n no_stream

-- at first no port of the stream is added
pub adding_none : (network : DeclaredNetwork) (rows : List Row) (number : ℕ) (table : Table ℕ)
    → AreSums network rows number table → AreAdding network rows number [] table
adding_none network rows number table sums = record {
  ports = sums.ports;
  each = λ port class within least most.
      sums.each port class within least most ∙ ap Some (omega arith);
}

-- a port that is not among the first ones
not_before : (path : List ℕ) (k : ℕ) → AllPairs (λ p q. p ≢ q) path → k < length path
    → list_any (λ p. p == get_or path k 0) (take k path) ≡ false
not_before path k apart h = list_any_none (λ p. p == get_or path k 0) (take k path)
    (λ i d below. (
    let short = length-take-le k path (omega arith) in
    let before : i < k = omega (arith, below, short) in
    ne_eqb (get_or (take k path) i d) (get_or path k 0)
    (λ e. apart i k 0 before h (get_or_default path i 0 d (omega arith) ∙ sym (get_or-take k path i d before) ∙ e))))

-- what is there already at the next port
pub before_port : (network : DeclaredNetwork) (rows : List Row) (number : ℕ) (path : List ℕ) (k : ℕ) (table : Table ℕ)
    → AllPairs (λ p q. p ≢ q) path → k < length path → get_or path k 0 < length network.topology.ports
    → AreAdding network rows number (take k path) table → (class : ℕ) → 1 ≤ class → class ≤ 7
    → value_at table (get_or path k 0) class
    ≡ Some (shares_at network rows (get_or path k 0) class (take number network.streams))
before_port network rows number path k table apart h within before class least most =
    let port : ℕ = get_or path k 0 in
    let s : DeclaredStream = stream_at network number in
    before.each port class within least most
    ∙ ap (λ (b : Bool). Some (shares_at network rows port class (take number network.streams)
    + cond (b && has_class port class s) (share_at network rows port class s) 0)) (not_before path k apart h)
    ∙ ap Some (omega arith)

-- with the share at one port more
pub adding_more : (network : DeclaredNetwork) (rows : List Row) (number : ℕ) (path : List ℕ) (k : ℕ)
    (old new : Table ℕ) → AllPairs (λ p q. p ≢ q) path → k < length path
    → get_or path k 0 < length network.topology.ports
    → AreAdding network rows number (take k path) old
    → Sets (get_or path k 0) (class_at (stream_sender (stream_at network number)) (get_or path k 0))
    (shares_at network rows (get_or path k 0)
    (class_at (stream_sender (stream_at network number)) (get_or path k 0)) (take number network.streams)
    + share_at network rows (get_or path k 0)
    (class_at (stream_sender (stream_at network number)) (get_or path k 0)) (stream_at network number)) old new
    → AreAdding network rows number (take (k + 1) path) new
adding_more network rows number path k old new apart h inside before sets = record {
  ports = sets.count ∙ before.ports;
  each = λ port class within least most. elim (cases_eq at port) as (λ _. Goal port class) [
    | inl same ↦ subst (λ (p : ℕ). Goal p class) same (here class least most)
    | inr other ↦ elsewhere port class within least most other
  ];
}
  where
    at : ℕ
    at = get_or path k 0

    s : DeclaredStream
    s = stream_at network number

    sum_with : ℕ → ℕ → Bool → Bool → ℕ
    sum_with port class b c = shares_at network rows port class (take number network.streams)
        + cond (b && c) (share_at network rows port class s) 0

    Goal : ℕ → ℕ → Type 0
    Goal port class = value_at new port class
        ≡ Some (sum_with port class (list_any (λ p. p == port) (take (k + 1) path)) (has_class port class s))

    more : (port : ℕ) → list_any (λ p. p == port) (take (k + 1) path)
        ≡ (list_any (λ p. p == port) (take k path) || (at == port))
    more port = list_any_more (λ p. p == port) path k 0 h

    or_false : (b : Bool) → (b || false) ≡ b
    or_false true = refl
    or_false false = refl

    or_true : (b : Bool) → (b || true) ≡ true
    or_true true = refl
    or_true false = refl

    now : list_any (λ p. p == at) (take (k + 1) path) ≡ true
    now = more at ∙ ap (λ (b : Bool). list_any (λ p. p == at) (take k path) || b) (eq-eqb at at refl)
        ∙ or_true (list_any (λ p. p == at) (take k path))

    here : (class : ℕ) → 1 ≤ class → class ≤ 7 → Goal at class
    here class least most = elim (cases_eq (class_at (stream_sender s) at) class) as (λ _. Goal at class) [
      | inl ranked ↦ subst (λ (c : ℕ). Goal at c) ranked (
          sets.here
          ∙ ap Some (sym (ap (λ (b : Bool). sum_with at (class_at (stream_sender s) at) b
          (has_class at (class_at (stream_sender s) at) s)) now
          ∙ ap (λ (c : Bool). sum_with at (class_at (stream_sender s) at) true c)
          (eq-eqb (class_at (stream_sender s) at) (class_at (stream_sender s) at) refl))))
      | inr other ↦
          sets.others at class (inr (λ e. other (sym e)))
          ∙ before_port network rows number path k old apart h inside before class least most
          ∙ ap Some (sym (ap (λ (b : Bool). sum_with at class b (has_class at class s)) now
          ∙ ap (λ (c : Bool). sum_with at class true c) (ne_eqb (class_at (stream_sender s) at) class other)
          ∙ omega arith))
    ]

    elsewhere : (port class : ℕ) → port < length network.topology.ports → 1 ≤ class → class ≤ 7 → (at ≡ port → ⊥)
        → Goal port class
    elsewhere port class within least most other =
        sets.others port class (inl (λ e. other (sym e)))
        ∙ before.each port class within least most
        ∙ ap Some (sym (ap (λ (b : Bool). sum_with port class b (has_class port class s)) (more port
        ∙ ap (λ (b : Bool). list_any (λ p. p == port) (take k path) || b) (ne_eqb at port other)
        ∙ or_false (list_any (λ p. p == port) (take k path)))))

-- one stream more
shares_more : (network : DeclaredNetwork) (rows : List Row) (port class number : ℕ) (d : DeclaredStream)
    → number < length network.streams → shares_at network rows port class (take (number + 1) network.streams)
    ≡ shares_at network rows port class (take number network.streams)
    + cond (has_class port class (get_or network.streams number d))
    (share_at network rows port class (get_or network.streams number d)) 0
shares_more network rows port class number d h =
    let s : DeclaredStream = get_or network.streams number d in
    let share : DeclaredStream → ℕ = share_at network rows port class in
    let front : List DeclaredStream = take number network.streams in
    let chosen : List DeclaredStream = cond (has_class port class s) (s ∷ []) [] in
    ap (λ (l : List DeclaredStream). sum_by share (filter (has_class port class) l))
    (take_more network.streams number d h)
    ∙ ap (sum_by share) (filter-append (has_class port class) front (s ∷ []))
    ∙ sum_by-append share (filter (has_class port class) front) chosen
    ∙ ap (λ (n : ℕ). sum_by share (filter (has_class port class) front) + n) (one (has_class port class s) share s)
  where
    one : (b : Bool) (f : DeclaredStream → ℕ) (s : DeclaredStream) → sum_by f (cond b (s ∷ []) []) ≡ cond b (f s) 0
    one true f s = omega (arith, sum_by-cons f s [])
    one false f s = refl

-- when the stream is added at all of its ports, it is one of those that are added
pub added_all : (network : DeclaredNetwork) (rows : List Row) (number : ℕ) (table : Table ℕ)
    → number < length network.streams
    → AreAdding network rows number (stream_at network number).ports table → AreSums network rows (number + 1) table
added_all network rows number table h all = record {
  ports = all.ports;
  each = λ port class within least most.
      all.each port class within least most
      ∙ ap Some (ap (λ (b : Bool). shares_at network rows port class (take number network.streams)
      + cond b (share_at network rows port class s) 0) (used port class least)
      ∙ sym (shares_more network rows port class number no_stream h));
}
  where
    s : DeclaredStream
    s = stream_at network number

    used : (port class : ℕ) → 1 ≤ class
        → (list_any (λ p. p == port) s.ports && has_class port class s) ≡ has_class port class s
    used port class least = elim (cases_Bool (has_class port class s))
        as (λ _. (list_any (λ p. p == port) s.ports && has_class port class s) ≡ has_class port class s) [
          | inl own ↦ ap (λ (b : Bool). b && has_class port class s) (class_along-has port s.ports s.classes
              (omega (arith, least, eqb-true (class_at (stream_sender s) port) class own)))
          | inr other ↦ ap (λ (c : Bool). list_any (λ p. p == port) s.ports && c) other
              ∙ and_false (list_any (λ p. p == port) s.ports) ∙ sym other
        ]
      where
        and_false : (b : Bool) → (b && false) ≡ false
        and_false true = refl
        and_false false = refl

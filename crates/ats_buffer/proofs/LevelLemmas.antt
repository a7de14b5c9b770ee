use Rattle.std.proofs.Common.{◌≡◌, ◌≢◌, ℕ, ◌+◌, ◌*◌, ◌<◌, ◌≤◌, Bool, true, false, cond, List, [], ◌∷◌, ◌++◌, length}
use Rattle.std.proofs.Common.{get_or, take, drop, filter, sum_by, Some, refl, sym, ap, ◌∙◌, subst, inl, inr, ◌⊎◌, arith}
use Rattle.std.proofs.Common.{length-append, append_assoc}
use Rattle.std.specs.Prelude.{◌==◌}
use Rattle.std.proofs.lemmas.Bool.{cases_Bool, cases_eq, and_from, and_parts, eq-eqb, eqb-true, true≢false}
use Rattle.std.proofs.lemmas.Option.{same_Some}
use Rattle.std.proofs.lemmas.List.{take_more, take-append-drop, take-append-le, take_all, append-nil}
use Rattle.std.proofs.lemmas.List.Elements.{filter-append, All-filter}
use Rattle.std.proofs.lemmas.List.Sums.{length-filter, count_by-le-length}
use Rattle.std.proofs.lemmas.List.Kept.{IsNonDecreasingBy-filter}
use Rattle.std.proofs.lemmas.List.Sums.{fold-append, sum_by-take-le, sum_by-le}
use Rattle.ats_class_table.specs.Table.{IsFilled, Sets, Table, value_at}
use Rattle.ats_buffer.specs.Moments.{is_of, order_of, IsInside, AreOrdered}
use Rattle.ats_buffer.specs.Levels.{no_level, level_after, level_of, IsNext, AreLevels}
use Rattle.ats_buffer.specs.declared.levels.Level.{Level}
use Rattle.ats_buffer.specs.declared.moments.Moment.{Moment}
use Rattle.ats_buffer.proofs.Cuts.{weight, comes}
use Rattle.ats_buffer.proofs.Peak.{AreAtPlace, IsHeld, end_is_held, held_is}

-- of ordered moments, those of one port and class
pub at_place : (ports : ℕ) (ms : List Moment) → AreOrdered ports ms → (port class : ℕ)
    → AreAtPlace (filter (is_of port class) ms)
at_place ports ms o port class = record {
  in_order = IsNonDecreasingBy-filter order_of (is_of port class) ms o.in_order;
  balanced = o.balanced port class;
}

-- one moment more is one of the port and class, or is not
filter_more : (test : Moment → Bool) (ms : List Moment) (k : ℕ) (d : Moment) → k < length ms
    → filter test (take (k + 1) ms) ≡ filter test (take k ms) ++ cond (test (get_or ms k d)) (get_or ms k d ∷ []) []
filter_more test ms k d h =
    ap (filter test) (take_more ms k d h) ∙ filter-append test (take k ms) (get_or ms k d ∷ [])

level_push : (ms : List Moment) (m : Moment) → level_of (ms ++ m ∷ []) ≡ level_after (level_of ms) m
level_push ms m = fold-append level_after no_level ms (m ∷ [])

-- the table at first
pub levels_none : (ports : ℕ) (table : Table Level) → IsFilled ports no_level table → AreLevels ports [] table
levels_none ports table f = record { count = f.count; each = λ port class within most. f.each port class within most }

-- and with one moment more
pub levels_more : (ports : ℕ) (ms : List Moment) (k : ℕ) (d : Moment) (old new : Table Level) (level : Level)
    → k < length ms → IsInside ports (get_or ms k d) → AreLevels ports (take k ms) old
    → value_at old (get_or ms k d).port (get_or ms k d).class ≡ Some level
    → Sets (get_or ms k d).port (get_or ms k d).class (level_after level (get_or ms k d)) old new
    → AreLevels ports (take (k + 1) ms) new
levels_more ports ms k d old new level h inside before there sets = record {
  count = sets.count ∙ before.count;
  each = λ port class within most. elim (cases_Bool (is_of port class m))
      as (λ _. value_at new port class ≡ Some (level_of (filter (is_of port class) (take (k + 1) ms)))) [
        | inl own ↦ here port class own
        | inr other ↦ elsewhere port class within most other
      ];
}
  where
    m : Moment
    m = get_or ms k d

    level_is : level ≡ level_of (filter (is_of m.port m.class) (take k ms))
    level_is = same_Some level (level_of (filter (is_of m.port m.class) (take k ms)))
        (sym there ∙ before.each m.port m.class inside.port inside.class)

    own_now : (port class : ℕ) → is_of port class m ≡ true → (m.port ≡ port) × (m.class ≡ class)
    own_now port class own =
        let parts = and_parts (m.port == port) (m.class == class) own in
        (eqb-true m.port port parts.0, eqb-true m.class class parts.1)

    more : (port class : ℕ) (b : Bool) → is_of port class m ≡ b
        → filter (is_of port class) (take (k + 1) ms) ≡ filter (is_of port class) (take k ms) ++ cond b (m ∷ []) []
    more port class b e =
        filter_more (is_of port class) ms k d h
        ∙ ap (λ (c : Bool). filter (is_of port class) (take k ms) ++ cond c (m ∷ []) []) e

    at_own : value_at new m.port m.class ≡ Some (level_of (filter (is_of m.port m.class) (take (k + 1) ms)))
    at_own =
        sets.here
        ∙ ap (λ (l : Level). Some (level_after l m)) level_is
        ∙ ap Some (sym (level_push (filter (is_of m.port m.class) (take k ms)) m))
        ∙ ap (λ (l : List Moment). Some (level_of l)) (sym (more m.port m.class true
        (and_from (m.port == m.port) (m.class == m.class) (eq-eqb m.port m.port refl) (eq-eqb m.class m.class refl))))

    here : (port class : ℕ) → is_of port class m ≡ true
        → value_at new port class ≡ Some (level_of (filter (is_of port class) (take (k + 1) ms)))
    here port class own =
        let same = own_now port class own in
        let At : ℕ → ℕ → Type 0 = λ (p c : ℕ). value_at new p c
        ≡ Some (level_of (filter (is_of p c) (take (k + 1) ms))) in
        subst (λ (p : ℕ). At p class) same.0 (subst (λ (c : ℕ). At m.port c) same.1 at_own)

    differ : (port class : ℕ) → is_of port class m ≡ false → (port ≢ m.port) ⊎ (class ≢ m.class)
    differ port class other = elim (cases_eq m.port port) as (λ _. (port ≢ m.port) ⊎ (class ≢ m.class)) [
      | inl same ↦ inr (λ e. true≢false (sym (and_from (m.port == port) (m.class == class) (eq-eqb m.port port same)
          (eq-eqb m.class class (sym e))) ∙ other))
      | inr apart ↦ inl (λ e. apart (sym e))
    ]

    elsewhere : (port class : ℕ) → port < ports → class ≤ 7 → is_of port class m ≡ false
        → value_at new port class ≡ Some (level_of (filter (is_of port class) (take (k + 1) ms)))
    elsewhere port class within most other =
        sets.others port class (differ port class other)
        ∙ before.each port class within most
        ∙ ap (λ (l : List Moment). Some (level_of l))
        (sym (more port class false other ∙ append-nil (filter (is_of port class) (take k ms))))

-- the first moments of a port and class are those among the first moments
first_own : (test : Moment → Bool) (ms : List Moment) (k : ℕ) → take (length (filter test (take k ms))) (filter test ms)
    ≡ filter test (take k ms)
first_own test ms k =
    let own : List Moment = filter test (take k ms) in
    let both : filter test ms ≡ own ++ filter test (drop k ms) =
    ap (filter test) (sym (take-append-drop k ms)) ∙ filter-append test (take k ms) (drop k ms) in
    ap (take (length own)) both ∙ take-append-le (length own) own (filter test (drop k ms)) (omega arith)
    ∙ take_all (length own) own (omega arith)

-- what a moment more comes to: the next of its port and class, which fits
pub next_fits : (ports : ℕ) (ms : List Moment) → AreOrdered ports ms → (k : ℕ) (d : Moment) → k < length ms
    → (level : Level)
    → level ≡ level_of (filter (is_of (get_or ms k d).port (get_or ms k d).class) (take k ms))
    → IsNext level (get_or ms k d)
next_fits ports ms o k d h level same =
    let m : Moment = get_or ms k d in
    let test : Moment → Bool = is_of m.port m.class in
    let own : List Moment = filter test ms in
    let front : List Moment = filter test (take k ms) in
    let n : ℕ = length front in
    let a : AreAtPlace own = at_place ports ms o m.port m.class in
    let passes : test m ≡ true =
    and_from (m.port == m.port) (m.class == m.class) (eq-eqb m.port m.port refl) (eq-eqb m.class m.class refl) in
    let both : own ≡ filter test (take (k + 1) ms) ++ filter test (drop (k + 1) ms) =
    ap (filter test) (sym (take-append-drop (k + 1) ms)) ∙ filter-append test (take (k + 1) ms) (drop (k + 1) ms) in
    let more : filter test (take (k + 1) ms) ≡ front ++ m ∷ [] =
    filter_more test ms k d h ∙ ap (λ (c : Bool). front ++ cond c (m ∷ []) []) passes in
    let split : own ≡ (front ++ m ∷ []) ++ filter test (drop (k + 1) ms) =
    both ∙ ap (λ (l : List Moment). l ++ filter test (drop (k + 1) ms)) more in
    let long : length own ≡ n + 1 + length (filter test (drop (k + 1) ms)) =
    omega (
      arith,
      ap (λ (l : List Moment). length l) split,
      length-append (front ++ m ∷ []) (filter test (drop (k + 1) ms)),
      length-append front (m ∷ []),
    ) in
    let here : get_or own n d ≡ m =
    ap (λ (l : List Moment). get_or l n d) (split ∙ append_assoc front (m ∷ []) (filter test (drop (k + 1) ms)))
    ∙ get_or-append-here front m (filter test (drop (k + 1) ms)) d in
    let first : take n own ≡ front = first_own test ms k in
    let level_is : level_of (take n own) ≡ level = ap level_of first ∙ sym same in
    let held : IsHeld own n = held_is own a d n (omega (arith, long)) in
    let few : length own ≤ length ms = omega (arith, length-filter test ms, count_by-le-length test ms) in
    let each : sum_by (weight comes) own ≤ length own * 16160 =
    sum_by-le (weight comes) 16160 own (λ i e below. (
    let inside = All-filter test (IsInside ports) ms o.inside i e below in
    omega (arith, inside.bits, weight-most (get_or own i e).comes (get_or own i e).bits))) in
    record {
      fits = omega (
        arith,
        held,
        sum_by-take-le (weight comes) own n,
        each,
        few,
        o.few,
        ap (λ (l : Level). l.held) level_is,
        (o.inside k d h).bits,
      );
      there = λ end. (
          let le = end_is_held own a n d (omega (arith, long)) held (ap (λ (x : Moment). x.comes) here ∙ end) in
          omega (arith, le, ap (λ (x : Moment). x.bits) here, ap (λ (l : Level). l.held) level_is));
    }
  where
    weight-most : (b : Bool) (n : ℕ) → cond b n 0 ≤ n
    weight-most true n = omega arith
    weight-most false n = omega arith

    get_or-append-here : (xs : List Moment) (x : Moment) (ys : List Moment) (d : Moment)
        → get_or (xs ++ x ∷ ys) (length xs) d ≡ x
    get_or-append-here [] x ys d = refl
    get_or-append-here (y ∷ xs) x ys d = get_or-append-here xs x ys d

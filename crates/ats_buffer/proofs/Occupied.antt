use Rattle.std.proofs.Common.{◌≡◌, ℕ, ◌+◌, ◌-◌, ◌<◌, ◌≤◌, Bool, true, false, cond, List, [], ◌∷◌, filter, sum_by}
use Rattle.std.proofs.Common.{refl, sym, ap}
use Rattle.std.proofs.Common.{◌∙◌, ◌++◌, length, get_or, take, Some, subst, inl, inr, length-append, arith}
use Rattle.std.specs.Prelude.{◌==◌, ◌&&◌, nat_le, nat_lt, IsPermutation}
use Rattle.std.specs.List.{flat_map}
use Rattle.std.proofs.lemmas.Bool.{cases_lt}
use Rattle.std.proofs.lemmas.Bool.Decides.{nat_tests}
use Rattle.std.proofs.lemmas.Option.{same_Some}
use Rattle.std.proofs.lemmas.List.{length-take-le, get_or-take, get_or_append_left, get_or-append_right}
use Rattle.std.proofs.lemmas.List.Sums.{sum_by-cons, sum_by-le-sum_by}
use Rattle.std.proofs.lemmas.List.Sorted.{sum_by-IsPermutation, All-permutation, length_permutation}
use Rattle.ats_class_table.specs.Table.{Table, value_at}
use Rattle.ats_certificate.specs.declared.row.Row.{Row}
use Rattle.ats_network.specs.Network.{DeclaredNetwork}
use Rattle.ats_trace.specs.Journey.{Travel}
use Rattle.ats_trace.specs.Projections.{Crossing, crossings_from, crossings_by}
use Rattle.ats_buffer.specs.Occupancy.{is_held, occupancy, IsPeak, ArePeaks, no_row, row_at}
use Rattle.ats_buffer.specs.Moments.{moments_of, moments_in, is_of, bits_where, comes_before, comes_by, ends_by}
use Rattle.ats_buffer.specs.Moments.{IsBalanced}
use Rattle.ats_buffer.specs.Moments.{IsInside, AreReordered, AreByFrame, AreMomentsOf}
use Rattle.ats_buffer.specs.Levels.{level_of, AreLevels}
use Rattle.ats_buffer.specs.declared.levels.Level.{Level}
use Rattle.ats_buffer.specs.declared.moments.Moment.{Moment}
use Rattle.ats_buffer.proofs.Sums.{sum_by-filter, sum_by-flat_map, sum_by-both}
use Rattle.ats_buffer.proofs.Cuts.{weight, bits_are}
use Rattle.ats_buffer.proofs.Peak.{peak_is}
use Rattle.ats_buffer.proofs.LevelLemmas.{at_place}

-- the bits of the moments of a port and class that pass a test, as a sum over all
abbrev placed : ℕ → ℕ → (Moment → Bool) → Moment → ℕ
placed port class test m = cond (is_of port class m) (weight test m) 0

placed_bits : (port class : ℕ) (test : Moment → Bool) (ms : List Moment)
    → bits_where test (filter (is_of port class) ms) ≡ sum_by (placed port class test) ms
placed_bits port class test ms =
    bits_are test (filter (is_of port class) ms) ∙ sum_by-filter (weight test) (is_of port class) ms

-- over the moments of crossings
of_crossings : (port class : ℕ) (test : Moment → Bool) (xs : List Crossing)
    → bits_where test (filter (is_of port class) (flat_map moments_of xs))
    ≡ sum_by (λ (c : Crossing). sum_by (placed port class test) (moments_of c)) xs
of_crossings port class test xs =
    placed_bits port class test (flat_map moments_of xs) ∙ sum_by-flat_map (placed port class test) moments_of xs

-- where two moments are told, or none
sum_of_two : (f : Moment → ℕ) (b : Bool) (m n : Moment) → sum_by f (cond b (m ∷ n ∷ []) []) ≡ cond b (f m + f n) 0
sum_of_two f true m n = omega (arith, sum_by-cons f m (n ∷ []), sum_by-cons f n [])
sum_of_two f false m n = refl

-- the moments of a crossing, where there is time between them
abbrev coming : Crossing → Moment
coming c = record {
  at = record { 0 = c.came };
  comes = true;
  port = c.port;
  class = c.sent.class;
  bits = c.sent.bits;
}

abbrev ending : Crossing → Moment
ending c = record {
  at = record { 0 = c.sent.end };
  comes = false;
  port = c.port;
  class = c.sent.class;
  bits = c.sent.bits;
}

-- what has ended came before
balanced_pair : (own : Bool) (came end time bits : ℕ)
    → cond (nat_lt came end) (cond own 0 0 + cond own (cond (nat_le end time) bits 0) 0) 0
    ≤ cond (nat_lt came end) (cond own (cond (nat_lt came time) bits 0) 0 + cond own 0 0) 0
balanced_pair true came end time bits = grind (arith, nat_tests)
balanced_pair false came end time bits = grind (arith, nat_tests)

-- what has come has ended or is there
there_pair : (own : Bool) (came end time bits : ℕ)
    → cond (nat_lt came end) (cond own (cond (nat_le came time) bits 0) 0 + cond own 0 0) 0
    ≡ cond (nat_lt came end) (cond own 0 0 + cond own (cond (nat_le end time) bits 0) 0) 0
    + cond own (cond (nat_le came time && nat_lt time end) bits 0) 0
there_pair true came end time bits = grind (arith, nat_tests)
there_pair false came end time bits = grind (arith, nat_tests)

tests_joined : (here ranked there : Bool) (bits : ℕ)
    → cond (here && ranked) (cond there bits 0) 0 ≡ cond here (cond (ranked && there) bits 0) 0
tests_joined true true there bits = refl
tests_joined true false there bits = refl
tests_joined false ranked there bits = refl

-- what a crossing adds to the occupancy of a port and class
abbrev there_weight : ℕ → ℕ → ℕ → Crossing → ℕ
there_weight port class time c = cond (c.port == port) (cond (is_held class time c) c.sent.bits 0) 0

occupancy_is : (network : DeclaredNetwork) (run : List Travel) (port class time : ℕ)
    → occupancy network run port class time ≡ sum_by (there_weight port class time) (crossings_from network 0 run)
occupancy_is network run port class time =
    sum_by-filter (λ (c : Crossing). c.sent.bits) (is_held class time) (crossings_by network run port)
    ∙ sum_by-filter (λ (c : Crossing). cond (is_held class time c) c.sent.bits 0) (λ (c : Crossing). c.port == port)
    (crossings_from network 0 run)

one_balanced : (port class time : ℕ) (c : Crossing)
    → sum_by (placed port class (ends_by time)) (moments_of c)
    ≤ sum_by (placed port class (comes_before time)) (moments_of c)
one_balanced port class time c =
    let own : Bool = c.port == port && c.sent.class == class in
    let ended = sum_of_two (placed port class (ends_by time)) (nat_lt c.came c.sent.end) (coming c) (ending c) in
    let came = sum_of_two (placed port class (comes_before time)) (nat_lt c.came c.sent.end) (coming c) (ending c) in
    omega (arith, ended, came, balanced_pair own c.came c.sent.end time c.sent.bits)

one_there : (port class time : ℕ) (c : Crossing)
    → sum_by (placed port class (comes_by time)) (moments_of c)
    ≡ sum_by (placed port class (ends_by time)) (moments_of c) + there_weight port class time c
one_there port class time c =
    let own : Bool = c.port == port && c.sent.class == class in
    let ended = sum_of_two (placed port class (ends_by time)) (nat_lt c.came c.sent.end) (coming c) (ending c) in
    let came = sum_of_two (placed port class (comes_by time)) (nat_lt c.came c.sent.end) (coming c) (ending c) in
    let joined = tests_joined (c.port == port) (c.sent.class == class)
    (nat_le c.came time && nat_lt time c.sent.end) c.sent.bits in
    omega (arith, ended, came, there_pair own c.came c.sent.end time c.sent.bits, joined)

-- so the moments of crossings are balanced, in any order
pub balanced : (xs : List Crossing) (ms : List Moment) → IsPermutation (flat_map moments_of xs) ms → IsBalanced ms
balanced xs ms same port class time =
    let moved = λ (test : Moment → Bool).
    sum_by-IsPermutation (placed port class test) (flat_map moments_of xs) ms same in
    omega (
      arith,
      placed_bits port class (ends_by time) ms,
      placed_bits port class (comes_before time) ms,
      moved (ends_by time),
      moved (comes_before time),
      sum_by-flat_map (placed port class (ends_by time)) moments_of xs,
      sum_by-flat_map (placed port class (comes_before time)) moments_of xs,
      sum_by-le-sum_by (λ (c : Crossing). sum_by (placed port class (ends_by time)) (moments_of c))
          (λ (c : Crossing). sum_by (placed port class (comes_before time)) (moments_of c)) xs
          (one_balanced port class time),
    )

-- and of what has come by a time to a port, that which has not ended is its occupancy
pub there_is : (network : DeclaredNetwork) (run : List Travel) (ms : List Moment)
    → IsPermutation (moments_in network run) ms → (port class time : ℕ)
    → bits_where (comes_by time) (filter (is_of port class) ms)
    ≡ bits_where (ends_by time) (filter (is_of port class) ms) + occupancy network run port class time
there_is network run ms same port class time =
    let xs : List Crossing = crossings_from network 0 run in
    let moved = λ (test : Moment → Bool).
    sum_by-IsPermutation (placed port class test) (flat_map moments_of xs) ms same in
    omega (
      arith,
      placed_bits port class (comes_by time) ms,
      placed_bits port class (ends_by time) ms,
      moved (comes_by time),
      moved (ends_by time),
      sum_by-flat_map (placed port class (comes_by time)) moments_of xs,
      sum_by-flat_map (placed port class (ends_by time)) moments_of xs,
      sum_by-both (λ (c : Crossing). sum_by (placed port class (ends_by time)) (moments_of c))
          (there_weight port class time) (λ (c : Crossing). sum_by (placed port class (comes_by time)) (moments_of c))
          xs (one_there port class time),
      occupancy_is network run port class time,
    )

-- the moments of a run, put in their order
pub moments_are : (network : DeclaredNetwork) (run : List Travel) (moments ordered : List Moment)
    → AreByFrame network run moments → AreReordered moments ordered → AreMomentsOf network run ordered
moments_are network run moments ordered by o =
    let Same : List Moment → Type 0 = λ (l : List Moment). IsPermutation l ordered in
    let same : IsPermutation (moments_in network run) ordered = subst Same by.all o.same in
    record {
      same = same;
      ordered = record {
        in_order = o.in_order;
        inside = All-permutation (IsInside (length network.topology.ports)) moments ordered o.same by.inside;
        balanced = balanced (crossings_from network 0 run) ordered same;
        few = omega (arith, length_permutation moments ordered o.same, by.few);
      };
    }

-- when they are over, each level has the peak of the occupancy of its port and class
pub peak_at : (network : DeclaredNetwork) (run : List Travel) (ms : List Moment) (ports : ℕ) (table : Table Level)
    (port class : ℕ) (level : Level) → AreMomentsOf network run ms → AreLevels ports ms table → port < ports → class ≤ 7
    → value_at table port class ≡ Some level → IsPeak (occupancy network run port class) level.peak
peak_at network run ms ports table port class level is levels within most there =
    let own : List Moment = filter (is_of port class) ms in
    let same : level_of own ≡ level =
    same_Some (level_of own) level (sym (levels.each port class within most) ∙ there) in
    subst (λ (l : Level). IsPeak (occupancy network run port class) l.peak) same
    (peak_is own (occupancy network run port class)
    (at_place (length network.topology.ports) ms is.ordered port class)
    (there_is network run ms is.same port class))

-- one row more
pub peaks_more : (network : DeclaredNetwork) (run : List Travel) (rows : List Row) (k : ℕ) (peaks : List ℕ) (peak : ℕ)
    → k < length rows → ArePeaks network run (take k rows) peaks
    → IsPeak (occupancy network run (row_at rows k).port (row_at rows k).class) peak
    → ArePeaks network run (take (k + 1) rows) (peaks ++ peak ∷ [])
peaks_more network run rows k peaks peak h before is =
    let short = length-take-le k rows (omega arith) in
    let long = length-take-le (k + 1) rows (omega arith) in
    let many : length peaks ≡ k = omega (arith, before.count, short) in
    let At : Row → ℕ → Type 0 = λ (row : Row) (n : ℕ). IsPeak (occupancy network run row.port row.class) n in
    record {
      count = omega (arith, many, long, length-append peaks (peak ∷ []));
      each = λ n below. elim (cases_lt n k)
          as (λ _. At (row_at (take (k + 1) rows) n) (get_or (peaks ++ peak ∷ []) n 0)) [
            | inl earlier ↦ (
                let row : row_at (take k rows) n ≡ row_at (take (k + 1) rows) n =
                get_or-take k rows n no_row earlier ∙ sym (get_or-take (k + 1) rows n no_row (omega arith)) in
                let value : get_or peaks n 0 ≡ get_or (peaks ++ peak ∷ []) n 0 =
                sym (get_or_append_left peaks (peak ∷ []) 0 n (omega (arith, many))) in
                subst (At (row_at (take (k + 1) rows) n)) value
                (subst (λ (row : Row). At row (get_or peaks n 0)) row (before.each n (omega (arith, short)))))
            | inr last ↦ (
                let same : k ≡ n = omega (arith, below, long) in
                let row : row_at rows k ≡ row_at (take (k + 1) rows) n =
                ap (row_at rows) same ∙ sym (get_or-take (k + 1) rows n no_row (omega (arith, same))) in
                let none : n - k ≡ 0 = omega (arith, same) in
                let value : peak ≡ get_or (peaks ++ peak ∷ []) n 0 =
                sym (get_or-append_right peaks (peak ∷ []) k n 0 many (omega (arith, same))
                ∙ ap (λ (i : ℕ). get_or (peak ∷ []) i 0) none) in
                subst (At (row_at (take (k + 1) rows) n)) value (subst (λ (row : Row). At row peak) row is))
          ];
    }

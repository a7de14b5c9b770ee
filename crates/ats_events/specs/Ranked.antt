-- Proofs of the laws of `TimeOrder`. They stand here, and not in proofs/, since what an `impl` gives for a law cites
-- the specs/ of its own crate alone. A reader of meanings passes over them.
use Rattle.std.specs.Prelude.{◌≡◌, ◌≢◌, ℕ, ◌<◌, ◌≤◌, ◌⊎◌, bit_xor}
use Rattle.std.proofs.Common.{sym, ◌∙◌, ap, refl, inl, inr, arith}
use Rattle.std.proofs.lemmas.Bool.{cases_order}
use lib.Bits.{xor_assoc, xor_self, xor_zero_r}
use Rattle.ats_events.specs.declared.moment.Moment.{Moment}
use Rattle.ats_events.specs.Order.{IsIrreflexive, IsTransitive, IsTotal, IsTimed, IsBeforeByRank, IsBeforeUp}
use Rattle.ats_events.specs.Order.{IsBeforeDown, IsBeforeScrambled}

-- an order by ranks, where x and y give the two ranks of two ids
abbrev ByRank : (ℕ → ℕ → ℕ) → (ℕ → ℕ → ℕ) → Moment → Moment → Type 0
ByRank x y a b = IsBeforeByRank a b (x a.id b.id) (y a.id b.id)

by_rank_time : (a b : Moment) (x y : ℕ) → a.at.0 < b.at.0 → IsBeforeByRank a b x y
by_rank_time a b x y less =
    record { time = omega arith; phase = λ e. absurd (omega arith); rank = λ e. absurd (omega arith) }

by_rank_phase : (a b : Moment) (x y : ℕ) → a.at.0 ≡ b.at.0 → a.phase < b.phase → IsBeforeByRank a b x y
by_rank_phase a b x y same less =
    record { time = omega arith; phase = λ e. omega arith; rank = λ e f. absurd (omega arith) }

by_rank_id : (a b : Moment) (x y : ℕ) → a.at.0 ≡ b.at.0 → a.phase ≡ b.phase → x < y → IsBeforeByRank a b x y
by_rank_id a b x y same phase less = record { time = omega arith; phase = λ e. omega arith; rank = λ e f. less }

by_rank_timed : (x y : ℕ → ℕ → ℕ) → IsTimed (ByRank x y)
by_rank_timed x y =
    record {
      time = λ a b ha hb less. by_rank_time a b _ _ less;
      phase = λ a b ha hb same less. by_rank_phase a b _ _ same less;
    }

by_rank_irreflexive : (x y : ℕ → ℕ → ℕ) → ((i : ℕ) → ¬ (x i i < y i i)) → IsIrreflexive (ByRank x y)
by_rank_irreflexive x y never a ha before = never a.id (before.rank refl refl)

by_rank_transitive : (x y : ℕ → ℕ → ℕ) → ((i j k : ℕ) → x i j < y i j → x j k < y j k → x i k < y i k)
    → IsTransitive (ByRank x y)
by_rank_transitive x y joined a b c ha hb hc ab bc =
    let first : a.at.0 ≤ b.at.0 = ab.time in
    let second : b.at.0 ≤ c.at.0 = bc.time in
    let phases : a.at.0 ≡ c.at.0 → (a.phase ≤ b.phase) × (b.phase ≤ c.phase) =
    λ e. (ab.phase (omega arith), bc.phase (omega arith)) in
    record {
      time = omega arith;
      phase = λ e. (let p = phases e in omega (arith, p.0, p.1));
      rank = λ e f. (let p = phases e in
          joined a.id b.id c.id (ab.rank (omega arith) (omega (arith, p.0, p.1)))
          (bc.rank (omega arith) (omega (arith, p.0, p.1))));
    }

-- two moments with the same numbers are one
same_moment : (a b : Moment) → a.at.0 ≡ b.at.0 → a.phase ≡ b.phase → a.id ≡ b.id → a ≡ b
same_moment a b time phase id =
    let moment : ℕ → ℕ → ℕ → Moment = λ at p i. record { at = record { 0 = at }; phase = p; id = i } in
    ap (λ at. moment at a.phase a.id) time ∙ ap (λ p. moment b.at.0 p a.id) phase ∙ ap (moment b.at.0 b.phase) id

by_rank_total : (x y : ℕ → ℕ → ℕ) → ((i j : ℕ) → i ≢ j → (x i j < y i j) ⊎ (x j i < y j i)) → IsTotal (ByRank x y)
by_rank_total x y either a b ha hb apart =
    elim (cases_order a.at.0 b.at.0) as (λ _. ByRank x y a b ⊎ ByRank x y b a) [
      | inl time ↦ elim (cases_order a.phase b.phase) as (λ _. ByRank x y a b ⊎ ByRank x y b a) [
        | inl phase ↦ elim (either a.id b.id (λ id. apart (same_moment a b time phase id))) as (λ _. ByRank x y a b
            ⊎ ByRank x y b a) [
              | inl less ↦ inl (by_rank_id a b _ _ time phase less)
              | inr less ↦ inr (by_rank_id b a _ _ (sym time) (sym phase) less)
            ]
        | inr other ↦ elim other as (λ _. ByRank x y a b ⊎ ByRank x y b a) [
          | inl less ↦ inl (by_rank_phase a b _ _ time less)
          | inr less ↦ inr (by_rank_phase b a _ _ (sym time) less)
        ]
      ]
      | inr other ↦ elim other as (λ _. ByRank x y a b ⊎ ByRank x y b a) [
        | inl less ↦ inl (by_rank_time a b _ _ less)
        | inr less ↦ inr (by_rank_time b a _ _ less)
      ]
    ]

-- of two different numbers one is less
one_is_less : (i j : ℕ) → i ≢ j → (i < j) ⊎ (j < i)
one_is_less i j apart =
    elim (cases_order i j) as (λ _. (i < j) ⊎ (j < i)) [ inl same ↦ absurd (apart same) | inr other ↦ other ]

pub up_irreflexive : IsIrreflexive IsBeforeUp
up_irreflexive = by_rank_irreflexive (λ i j. i) (λ i j. j) (λ i less. omega arith)

pub up_transitive : IsTransitive IsBeforeUp
up_transitive = by_rank_transitive (λ i j. i) (λ i j. j) (λ i j k first second. omega arith)

pub up_total : IsTotal IsBeforeUp
up_total = by_rank_total (λ i j. i) (λ i j. j) one_is_less

pub up_timed : IsTimed IsBeforeUp
up_timed = by_rank_timed (λ i j. i) (λ i j. j)

pub down_irreflexive : IsIrreflexive IsBeforeDown
down_irreflexive = by_rank_irreflexive (λ i j. j) (λ i j. i) (λ i less. omega arith)

pub down_transitive : IsTransitive IsBeforeDown
down_transitive = by_rank_transitive (λ i j. j) (λ i j. i) (λ i j k first second. omega arith)

pub down_total : IsTotal IsBeforeDown
down_total = by_rank_total (λ i j. j) (λ i j. i) (λ i j apart. one_is_less j i (λ same. apart (sym same)))

pub down_timed : IsTimed IsBeforeDown
down_timed = by_rank_timed (λ i j. j) (λ i j. i)

-- an exclusive or with one number keeps different numbers apart
xor_apart : (n i j : ℕ) → i ≢ j → bit_xor i n ≢ bit_xor j n
xor_apart n i j apart same =
    let back : (k : ℕ) → bit_xor (bit_xor k n) n ≡ k =
    λ k. xor_assoc k n n ∙ ap (bit_xor k) (xor_self n) ∙ xor_zero_r k in
    apart (sym (back i) ∙ ap (λ k. bit_xor k n) same ∙ back j)

pub scrambled_irreflexive : (n : ℕ) → IsIrreflexive (IsBeforeScrambled n)
scrambled_irreflexive n = by_rank_irreflexive (λ i j. bit_xor i n) (λ i j. bit_xor j n) (λ i less. omega arith)

pub scrambled_transitive : (n : ℕ) → IsTransitive (IsBeforeScrambled n)
scrambled_transitive n =
    by_rank_transitive (λ i j. bit_xor i n) (λ i j. bit_xor j n) (λ i j k first second. omega arith)

pub scrambled_total : (n : ℕ) → IsTotal (IsBeforeScrambled n)
scrambled_total n =
    by_rank_total (λ i j. bit_xor i n) (λ i j. bit_xor j n) (λ i j apart. one_is_less _ _ (xor_apart n i j apart))

pub scrambled_timed : (n : ℕ) → IsTimed (IsBeforeScrambled n)
scrambled_timed n = by_rank_timed (λ i j. bit_xor i n) (λ i j. bit_xor j n)

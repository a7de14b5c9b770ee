use Rattle.std.specs.Prelude.{◌≡◌, ℕ, ◌<◌, ◌≤◌, ◌^◌}
use Rattle.std.proofs.Common.{arith, inl, inr}
use Rattle.std.proofs.lemmas.Bool.{cases_lt}
use Rattle.ats_events.specs.declared.moment.Moment.{Moment}
use Rattle.ats_events.specs.Order.{IsBeforeByRank}
use Rattle.ats_events.specs.Inside.{number_of}

-- the digits of a lesser number are those of an earlier moment
pub less_is_before : (a b : Moment) (x y : ℕ) → a.phase < 2 ^ 32 → b.phase < 2 ^ 32 → x < 2 ^ 32 → y < 2 ^ 32
    → number_of a.at.0 a.phase x < number_of b.at.0 b.phase y → IsBeforeByRank a b x y
less_is_before a b x y p q m n less =
    record { time = omega arith; phase = λ e. omega arith; rank = λ e f. omega arith }

-- and the other way round
pub before_is_less : (a b : Moment) (x y : ℕ) → a.phase < 2 ^ 32 → b.phase < 2 ^ 32 → x < 2 ^ 32 → y < 2 ^ 32
    → IsBeforeByRank a b x y → number_of a.at.0 a.phase x < number_of b.at.0 b.phase y
before_is_less a b x y p q m n before =
    elim (cases_lt a.at.0 b.at.0) as (λ _. number_of a.at.0 a.phase x < number_of b.at.0 b.phase y) [
      | inl sooner ↦ omega arith
      | inr later ↦
          let e : a.at.0 ≡ b.at.0 = omega (arith, before.time) in
          elim (cases_lt a.phase b.phase) as (λ _. number_of a.at.0 a.phase x < number_of b.at.0 b.phase y) [
            | inl lower ↦ omega arith
            | inr higher ↦
                let f : a.phase ≡ b.phase = omega (arith, before.phase e) in
                omega (arith, before.rank e f)
          ]
    ]

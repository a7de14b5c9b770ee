use Rattle.std.specs.Prelude.{◌≡◌, ℕ, ◌<◌, ◌≤◌, ◌^◌}
use Rattle.std.proofs.Common.{arith, inl, inr}
use Rattle.std.proofs.lemmas.Bool.{cases_lt}
use Rattle.ats_queue.specs.declared.queued.Queued.{Queued}
use Rattle.ats_queue.specs.Inside.{number_of}
use Rattle.ats_queue.specs.Order.{GoesBefore}

-- a frame whose time and key make the lesser number goes before the other
pub less_goes_before : (key : ℕ → ℕ → ℕ) (x y : Queued) → key x.sender x.frame < 2 ^ 64
    → key y.sender y.frame < 2 ^ 64
    → number_of x.eligible.0 (key x.sender x.frame) < number_of y.eligible.0 (key y.sender y.frame)
    → GoesBefore key x y
less_goes_before key x y p q less = record { eligible = omega arith; tie = λ e. omega arith }

-- and the other way round
pub goes_before_less : (key : ℕ → ℕ → ℕ) (x y : Queued) → key x.sender x.frame < 2 ^ 64
    → key y.sender y.frame < 2 ^ 64 → GoesBefore key x y
    → number_of x.eligible.0 (key x.sender x.frame) < number_of y.eligible.0 (key y.sender y.frame)
goes_before_less key x y p q before =
    elim (cases_lt x.eligible.0 y.eligible.0)
    as (λ _. number_of x.eligible.0 (key x.sender x.frame) < number_of y.eligible.0 (key y.sender y.frame)) [
      | inl sooner ↦ omega arith
      | inr later ↦
          let e : x.eligible.0 ≡ y.eligible.0 = omega (arith, before.eligible) in
          omega (arith, before.tie e)
    ]

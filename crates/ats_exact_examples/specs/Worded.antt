use Rattle.std.specs.Prelude.{◌≡◌, ◌↔◌, ℕ, ◌<◌, ◌≤◌, ◌^◌, List, decimal, Some}
use Rattle.ats_command_input.specs.Making.{count_named, seed_named}
use Rattle.ats_command_input.specs.Order.{order_named}
use Rattle.ats_command_input.specs.declared.order.Order.{Order}
use Rattle.ats_command_input.specs.declared.order.Order.TheVariants.{Early, Late, Mixed}
use Rattle.ats_exact_examples.specs.Only.{order_text}

-- Which words name orders, seeds and numbers of frames: of all words, these and no others. Refuses an order that no
-- word names, and a number that is left out.

-- the number of a mixed order has 32 bits
abbrev pub IsOrder : Order → Type 0
IsOrder Early = Unit {0}
IsOrder Late = Unit {0}
IsOrder (Mixed n) = n < 2 ^ 32

pub record WordsAreNumbers : Type 0 where
  pub order : (word : List ℕ) (order : Order)
      → order_named word ≡ Some order ↔ ((word ≡ order_text order) × IsOrder order)
  pub seed : (word : List ℕ) (n : ℕ) → seed_named word ≡ Some n ↔ ((word ≡ decimal n) × (n < 2 ^ 64))
  pub count : (word : List ℕ) (n : ℕ)
      → count_named word ≡ Some n ↔ ((word ≡ decimal n) × (1 ≤ n) × (n ≤ 200000))

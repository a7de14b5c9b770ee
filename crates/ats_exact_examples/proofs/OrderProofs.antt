use Rattle.std.proofs.Common.{◌≡◌, ◌≢◌, ℕ, ◌+◌, ◌^◌, Bool, true, false, refl, arith, lit<}
use Rattle.std.specs.Prelude.{◌==◌, if◌then◌else◌}
use Rattle.std.proofs.lemmas.Bool.{eqb-true, eq-eqb, false≢true}
use Rattle.ats_exact_examples.specs.Orders.{AllTakeTurns, GreatNumbersCount, LaterGoFirst, MixedGoByNumber}
use Rattle.ats_exact_examples.specs.Orders.{OrdersAreExact, OthersKeepTheirOrder}

-- Keys and turns.

later_go_first : LaterGoFirst
later_go_first sender other frame next before small low = omega arith

mixed_go_by_number : MixedGoByNumber
mixed_go_by_number n sender other frame next before low = omega arith

great_numbers_count : GreatNumbersCount
great_numbers_count = record {
  late = lit< tt;
  mixed = lit< tt;
  wait = refl;
}

-- where the test of the last sender fails, the key is the number
other_by : (b : Bool) (frame : ℕ) → b ≢ true → (if b then 2 ^ 32 + frame else frame) ≡ frame
other_by true frame differ = absurd (differ refl)
other_by false frame differ = refl

-- and where it passes, 2 ^ 32 is added
own_by : (b : Bool) (frame : ℕ) → b ≡ true → (if b then 2 ^ 32 + frame else frame) ≡ 2 ^ 32 + frame
own_by true frame same = refl
own_by false frame same = absurd (false≢true same)

others_keep_their_order : OthersKeepTheirOrder
others_keep_their_order = record {
  others = λ last sender frame differ. other_by (sender == last) frame (λ same. differ (eqb-true sender last same));
  own = λ last frame. own_by (last == last) frame (eq-eqb last last refl);
  before = lit< tt;
  behind = lit< tt;
}

all_take_turns : AllTakeTurns
all_take_turns = record {
  three = refl;
  five = refl;
  of_both = refl;
  made_of_both = refl;
  made = refl;
}

pub orders_are_exact : OrdersAreExact
orders_are_exact = record {
  late = later_go_first;
  mixed = mixed_go_by_number;
  great = great_numbers_count;
  others = others_keep_their_order;
  turns = all_take_turns;
}

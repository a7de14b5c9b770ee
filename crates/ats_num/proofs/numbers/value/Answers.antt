use Rattle.std.proofs.Common.{◌^◌, ◌≤◌, arith, lit<}
use Rattle.std.proofs.Math.Nat.{pow-le-pow_right}
use Rattle.ats_num.proofs.numbers.value.Goals as goal

-- the digits so far are at most 35
pub overflow_mul-value : goal.overflow_mul-value
overflow_mul-value c =
    let most : 10 ^ c.loop-digit.digit-index ≤ 10 ^ 35 = pow-le-pow_right (lit< tt) {j = 35} (omega arith) in
    omega arith

pub overflow_add-value : goal.overflow_add-value
overflow_add-value c =
    let most : 10 ^ c.loop-digit.digit-index ≤ 10 ^ 35 = pow-le-pow_right (lit< tt) {j = 35} (omega arith) in
    omega arith

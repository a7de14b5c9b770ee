use Rattle.std.proofs.Common.{◌^◌, ◌≤◌, arith, lit<}
use Rattle.std.proofs.Math.Nat.{pow-le-pow_right}
use Rattle.ats_num.proofs.numbers.short_number.Goals as goal

-- the digits so far are at most 18
pub overflow_mul-value : goal.overflow_mul-value
overflow_mul-value c =
    let most : 10 ^ c.loop-c.c-index ≤ 10 ^ 18 = pow-le-pow_right (lit< tt) {j = 18} (omega arith) in
    omega arith

pub overflow_add-value : goal.overflow_add-value
overflow_add-value c =
    let most : 10 ^ c.loop-c.c-index ≤ 10 ^ 18 = pow-le-pow_right (lit< tt) {j = 18} (omega arith) in
    omega arith

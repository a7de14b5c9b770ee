use Rattle.std.proofs.Common.{ℕ, ◌+◌, ◌-◌, ◌*◌, ◌≤◌, arith}
use Rattle.std.proofs.Math.Nat.{mul-le-mul_left, mul-le-mul_right}
use Rattle.ats_num.specs.Division.{ceiling}
use Rattle.ats_num.specs.declared.time.TheConstants.{PS_PER_SECOND}
use Rattle.ats_num.proofs.Ceiling.{ceiling-is}
use Rattle.ats_clock.specs.declared.clock.TheConstants.{MILLION}
use Rattle.ats_clock.specs.Laws.{AreMonotone}

-- a smaller number, divided by a greater one, gives no more
pub ceiling-le : (n m d e : ℕ) → 1 ≤ e → e ≤ d → n ≤ m → ceiling n d ≤ ceiling m e
ceiling-le n m d e h k l =
    let c = ceiling-is n d (omega arith) in
    let o = ceiling-is m e h in
    c.least (ceiling m e) (let r = o.reaches in omega (arith, mul-le-mul_left (ceiling m e) k))

-- products of no greater numbers
products : (a b c d : ℕ) → a ≤ b → c ≤ d → a * c ≤ b * d
products a b c d h k = omega (arith, mul-le-mul_right c h, mul-le-mul_left b k)

pub are_monotone : AreMonotone
are_monotone clock wider c greater below w g =
    let deviation = w.deviation in
    let step = w.step in
    let rate : c.rate ≤ greater.rate = g.rate in
    let burst = g.burst in
    let slow = ceiling-le (MILLION * c.rate) (MILLION * greater.rate) (MILLION - clock.deviation_ppm)
    (MILLION - wider.deviation_ppm) (omega arith) (omega arith) (omega arith) in
    let saved = ceiling-le _ _ PS_PER_SECOND PS_PER_SECOND (omega arith) (omega arith)
    (products _ _ clock.step_ps wider.step_ps slow step) in
    let fast = ceiling-le _ _ MILLION MILLION (omega arith) (omega arith)
    (products c.rate greater.rate (MILLION + clock.deviation_ppm) (MILLION + wider.deviation_ppm) rate (omega arith)) in
    let kept = ceiling-le _ _ (MILLION * PS_PER_SECOND) (MILLION * PS_PER_SECOND) (omega arith) (omega arith)
    (products c.rate greater.rate (MILLION * clock.step_ps + clock.deviation_ppm)
    (MILLION * wider.step_ps + wider.deviation_ppm) rate (omega arith)) in
    record {
      scheduler = record { rate = slow; burst = omega arith };
      output = record { rate = fast; burst = omega arith };
    }

use Rattle.std.proofs.Common.{◌≡◌, ◌-◌, ◌*◌, ◌≤◌, ℕ, ap, arith}
use Rattle.std.proofs.Math.Nat.{mul-le-mul_left, mul-le-mul_right}
use Rattle.ats_num.specs.declared.time.TheConstants.{PS_PER_SECOND}
use Rattle.ats_tally.proofs.waits.least_wait.Goals as goal

-- a quotient is at most the divided number
pub returns-clause-most : goal.returns-clause-most
returns-clause-most c =
    let bits : ℕ = c.from.result in
    let work : ℕ = c.from-second.result * (c.args.ps * bits) in
    let some : 1 ≤ c.from-second.result - c.args.higher = omega arith in
    let below : c.ceil_div.result ≤ work =
    c.ceil_div.ensures.least work (let more = mul-le-mul_left work some in omega arith) in
    let sent : c.args.ps * bits ≤ 100000 * bits = mul-le-mul_right bits c.requires.ps in
    let second : work ≡ PS_PER_SECOND * (c.args.ps * bits) =
    ap (λ (n : ℕ). n * (c.args.ps * bits)) c.from-second.ensures in
    omega arith

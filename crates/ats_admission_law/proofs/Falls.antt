-- Where the shortest frame of a class goes, the least wait falls by at least what the next shortest takes longer.
use Rattle.std.proofs.Common.{◌≡◌, ℕ, ◌+◌, ◌-◌, ◌*◌, ◌<◌, ◌≤◌, ap, arith}
use Rattle.std.proofs.Math.Nat.{mul-le-mul_left, le_of_mul-le-mul_left}

-- a wait that covers its work covers the lesser work still when it falls by p times what is gone
wait_covers : (m p work rest u left_old left_new v w : ℕ)
    → m * (p * work) ≤ w * left_old → rest + u ≤ work → left_old ≤ left_new → left_new ≤ m → w ≡ v + p * u
    → m * (p * rest) ≤ v * left_new
wait_covers m p work rest u left_old left_new v w covers fits wider within is =
    let one : p * (rest + u) ≤ p * work = mul-le-mul_left p fits in
    let all : m * (p * (rest + u)) ≤ m * (p * work) = mul-le-mul_left m one in
    let more : w * left_old ≤ w * left_new = mul-le-mul_left w wider in
    let cut : w * left_new ≡ (v + p * u) * left_new = ap (λ (n : ℕ). n * left_new) is in
    let most : (p * u) * left_new ≤ (p * u) * m = mul-le-mul_left (p * u) within in
    omega (arith, covers, all, more, cut, most)

-- and what is gone is within the wait
gone_within : (m p work u left w : ℕ) → 0 < m → m * (p * work) ≤ w * left → u ≤ work → left ≤ m → p * u ≤ w
gone_within m p work u left w some covers fits within =
    let one : p * u ≤ p * work = mul-le-mul_left p fits in
    let all : m * (p * u) ≤ m * (p * work) = mul-le-mul_left m one in
    let most : w * left ≤ w * m = mul-le-mul_left w within in
    let both : m * (p * u) ≤ m * w = omega (arith, covers, all, most) in
    le_of_mul-le-mul_left both some

-- what is left of a wait when the shortest frame goes, and that it is enough
pub record IsLeft (m p lower bursts least_old least left w : ℕ) : Type 0 where
  pub within : p * (least - least_old) ≤ w
  pub enough : m * (p * (lower + bursts - least)) ≤ (w - p * (least - least_old)) * left

pub is_left : (m p lower_old lower bursts_old bursts least_old least left_old left w : ℕ) → 0 < m
    → left_old ≤ left → left ≤ m → lower ≤ lower_old → bursts ≤ bursts_old → least_old ≤ least → least ≤ bursts
    → m * (p * (lower_old + bursts_old - least_old)) ≤ w * left_old
    → IsLeft m p lower bursts least_old least left w
is_left m p lower_old lower bursts_old bursts least_old least left_old left w some wider most low burst rises in_burst
    covers =
    let work : ℕ = lower_old + bursts_old - least_old in
    let gone : p * (least - least_old) ≤ w =
    gone_within m p work (least - least_old) left_old w some covers (omega arith) (omega arith) in
    record {
      within = gone;
      enough = wait_covers m p work (lower + bursts - least) (least - least_old) left_old left
          (w - p * (least - least_old)) w covers (omega arith) wider most (omega arith);
    }

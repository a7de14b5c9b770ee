use Rattle.std.proofs.Common.{◌≡◌, ℕ, ◌+◌, ◌-◌, ◌*◌, ◌≤◌, subst, ap, arith}
use Rattle.std.proofs.Math.Nat.{mul-le-mul_left, mul-le-mul_right, le_of_mul-le-mul_left}

-- the bound of a wait, where the link's second m is what the higher classes take of it and k more: a frame that became
-- eligible g after the moment since, started x after that, and is d longer than the shortest
wait_from_rest : (h k p lower bursts least d equal wait g x rest : ℕ) → 1 ≤ k → equal ≤ k
    → (h + k) * (p * rest) ≤ wait * k
    → (h + k) * (p * (lower + bursts)) ≤ (h + k) * (p * (least + rest))
    → (h + k) * (g + x + p * (least + d)) ≤ (h + k) * (p * lower) + (h * (g + x) + equal * g + (h + k) * (p * bursts))
    → x + p * d ≤ wait
wait_from_rest h k p lower bursts least d equal wait g x rest some share enough lengths fills =
    let since : equal * g ≤ k * g = mul-le-mul_right g share in
    let product : k * (x + p * d) ≤ k * wait = omega arith in
    le_of_mul-le-mul_left product some

-- the bound of a wait, as a certificate's row asks for it
wait_is_enough : (m higher p lower bursts least d equal wait g x : ℕ) → 1 ≤ equal → higher + equal ≤ m
    → m * (p * (lower + bursts - least)) ≤ wait * (m - higher)
    → m * (g + x + p * (least + d)) ≤ m * (p * lower) + (higher * (g + x) + equal * g + m * (p * bursts))
    → x + p * d ≤ wait
wait_is_enough m higher p lower bursts least d equal wait g x some load enough fills =
    let k : ℕ = m - higher in
    let rest : ℕ = lower + bursts - least in
    let whole : m ≡ higher + k = omega arith in
    let Enough : ℕ → Type 0 = λ (n : ℕ). n * (p * rest) ≤ wait * k in
    let Fills : ℕ → Type 0 = λ (n : ℕ). n * (g + x + p * (least + d))
    ≤ n * (p * lower) + (higher * (g + x) + equal * g + n * (p * bursts)) in
    wait_from_rest higher k p lower bursts least d equal wait g x rest (omega arith) (omega arith)
    (subst Enough whole enough)
    (mul-le-mul_left (higher + k) (mul-le-mul_left p (omega arith)))
    (subst Fills whole fills)

-- from since on the port sent at most one lower frame and the bits of a walk until a frame ended, which became eligible
-- g later and started x after that; and so many bits are within the rates, each for its stretch, and the bursts
filled : (m p lower walked rate_above rate_of bursts bits g x : ℕ) → g + x + p * bits ≤ p * (lower + walked)
    → m * walked ≤ rate_above * (g + x) + rate_of * g + m * bursts
    → m * (g + x + p * bits) ≤ m * (p * lower) + (p * rate_above * (g + x) + p * rate_of * g + m * (p * bursts))
filled m p lower walked rate_above rate_of bursts bits g x fills within =
    let whole = mul-le-mul_left m fills in
    let part = mul-le-mul_left p within in
    omega (arith, whole, part)

-- the sums of a row and the frame that the walk began with
pub record Walk (m p since at start end walked rate_above rate_of bits : ℕ)
    (higher equal bursts lower least wait : ℕ) : Type 0 where
  pub higher_is : higher ≡ p * rate_above
  pub equal_is : equal ≡ p * rate_of
  pub some : 1 ≤ equal
  pub load : higher + equal ≤ m
  pub enough : m * (p * (lower + bursts - least)) ≤ wait * (m - higher)
  pub eligible : since ≤ at
  pub waits : at ≤ start
  pub takes : end ≡ start + p * bits
  pub shortest : least ≤ bits
  pub fills : end ≤ since + p * (lower + walked)
  pub within : m * walked ≤ rate_above * (start - since) + rate_of * (at - since) + m * bursts

-- the frame ends within the wait and the time that the shortest takes
pub ends_within : (m p since at start end walked rate_above rate_of bits higher equal bursts lower least wait : ℕ)
    → Walk m p since at start end walked rate_above rate_of bits higher equal bursts lower least wait
    → end ≤ at + (wait + p * least)
ends_within m p since at start end walked rate_above rate_of bits higher equal bursts lower least wait w =
    let g : ℕ = at - since in
    let x : ℕ = start - at in
    let d : ℕ = bits - least in
    let Spanned : ℕ → Type 0 = λ (n : ℕ). m * walked ≤ rate_above * n + rate_of * g + m * bursts in
    let span : start - since ≡ g + x = omega (arith, w.eligible, w.waits) in
    let within : Spanned (g + x) = subst Spanned span w.within in
    let product : p * bits ≡ p * (least + d) = ap (λ (n : ℕ). p * n) (omega (arith, w.shortest)) in
    let fills : g + x + p * (least + d) ≤ p * (lower + walked) =
    omega (arith, w.fills, w.takes, w.eligible, w.waits, product) in
    let filling = filled m p lower walked rate_above rate_of bursts (least + d) g x fills within in
    let first = ap (λ (n : ℕ). n * (g + x)) w.higher_is in
    let second = ap (λ (n : ℕ). n * g) w.equal_is in
    let late : x + p * d ≤ wait = wait_is_enough m higher p lower bursts least d equal wait g x w.some w.load w.enough
    (omega (arith, filling, first, second)) in
    omega (arith, late, w.takes, w.waits, product)

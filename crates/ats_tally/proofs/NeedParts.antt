-- A need by a clock, as it is computed.
use Rattle.std.proofs.Common.{◌≡◌, ℕ, ◌+◌, ◌-◌, ◌*◌, ◌/◌, ◌%◌, ◌<◌, ◌≤◌, ◌^◌, ap, subst, ◌∙◌, arith}
use Rattle.std.proofs.Math.Nat.{mul-le-mul_left, mul-le-mul_right}
use Rattle.ats_num.specs.Division.{IsCeiling, ceiling}
use Rattle.ats_num.proofs.Ceiling.{ceiling-only}
use Rattle.ats_clock.specs.Clock.{DeclaredClock}
use Rattle.ats_clock.specs.declared.clock.TheConstants.{MILLION}
use Rattle.ats_clock.proofs.Monotone.{ceiling-le}
use Rattle.ats_topology.specs.Port.{port_at, spread_of}
use Rattle.ats_network.specs.Network.{DeclaredNetwork}
use Rattle.ats_network.specs.Rates.{clock_behind}
use Rattle.ats_certificate.specs.Certificate.{need_behind}

-- parts of a million of so many millions and a rest, rounded up
pub parts_of : (parts need millions rest ceil : ℕ) → need ≡ millions * MILLION + rest
    → IsCeiling (parts * rest) MILLION ceil → parts * millions + ceil ≡ ceiling (parts * need) MILLION
parts_of parts need millions rest ceil is c =
    ceiling-only (parts * need) MILLION (parts * millions + ceil) (omega arith) (record {
      reaches = omega (arith, all, c.reaches);
      least = λ k h. (let more : ceil ≤ k - parts * millions = c.least (k - parts * millions) (omega (arith, all, h)) in
          omega (arith, all, h, more));
    })
  where
    all : parts * need ≡ (parts * millions) * MILLION + parts * rest
    all = ap (λ (n : ℕ). parts * n) is ∙ spread parts millions rest
      where
        spread : (a b c : ℕ) → a * (b * MILLION + c) ≡ (a * b) * MILLION + a * c
        spread a b c = omega arith

-- few parts of few are few
pub few_parts : (parts n most : ℕ) → parts ≤ 1000 → n ≤ most → parts * n ≤ 1000 * most
few_parts parts n most few h =
    let a : parts * n ≤ 1000 * n = mul-le-mul_right n few in
    let b : 1000 * n ≤ 1000 * most = mul-le-mul_left 1000 h in
    omega (arith, a, b)

-- so it is of a need that is taken apart
pub gained : (parts need million ceil : ℕ) → million ≡ MILLION → IsCeiling (parts * (need % million)) million ceil
    → parts * (need / million) + ceil ≡ ceiling (parts * need) MILLION
gained parts need million ceil same c =
    ap (λ (n : ℕ). parts * (need / n) + ceil) same
    ∙ parts_of parts need (need / MILLION) (need % MILLION) ceil (omega arith)
    (subst (λ (n : ℕ). IsCeiling (parts * (need % n)) n ceil) same c)

-- which is no more than a thousandth of it, and a thousand
pub gained_few : (parts need million ceil : ℕ) → parts ≤ 1000 → need < 10 ^ 37 → million ≡ MILLION
    → IsCeiling (parts * (need % million)) million ceil → parts * (need / million) + ceil ≤ 10 ^ 34 + 1000
gained_few parts need million ceil few h same c =
    let d : IsCeiling (parts * (need % MILLION)) MILLION ceil =
    subst (λ (n : ℕ). IsCeiling (parts * (need % n)) n ceil) same c in
    let whole : parts * (need / MILLION) ≤ 1000 * 10 ^ 31 =
    few_parts parts (need / MILLION) (10 ^ 31) few (omega arith) in
    let rest : parts * (need % MILLION) ≤ 1000 * MILLION = few_parts parts (need % MILLION) MILLION few (omega arith) in
    let least : ceil ≤ 1000 = d.least 1000 rest in
    let same_parts : parts * (need / million) ≡ parts * (need / MILLION) = ap (λ (n : ℕ). parts * (need / n)) same in
    omega (arith, whole, least, same_parts)

-- after a longer wait the need is no shorter
pub need_grows : (network : DeclaredNetwork) (port wait longer : ℕ) → wait ≤ longer
    → need_behind network port wait ≤ need_behind network port longer
need_grows network port wait longer h =
    let clock : DeclaredClock = clock_behind network.topology port in
    let spread : ℕ = spread_of (port_at network.topology.ports port) in
    let more : clock.deviation_ppm * (wait + spread) ≤ clock.deviation_ppm * (longer + spread) =
    mul-le-mul_left clock.deviation_ppm (omega arith) in
    let gain = ceiling-le (clock.deviation_ppm * (wait + spread)) (clock.deviation_ppm * (longer + spread)) MILLION
    MILLION (omega arith) (omega arith) more in
    omega (arith, h, gain)

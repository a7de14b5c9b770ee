use Rattle.std.proofs.Common.{ℕ, ◌+◌, ◌-◌, ◌*◌, ◌<◌, ◌≤◌, [], ◌∷◌, arith}
use Rattle.std.proofs.Math.Nat.{mul-le-mul_left, le_of_mul-le-mul_right}
use Rattle.std.proofs.lemmas.List.Elements.{All-head, All-tail}
use Rattle.ats_num.specs.Division.{ceiling}
use Rattle.ats_num.proofs.Ceiling.{ceiling-is}
use Rattle.ats_clock.specs.declared.clock.TheConstants.{MILLION}
use Rattle.ats_clock.specs.declared.committed.Committed.{Committed}
use Rattle.ats_clock.specs.Clock.{DeclaredClock}
use Rattle.ats_clock.specs.Rates.{output_of, scheduler_for}
use Rattle.ats_clock.specs.Laws.{NeverFalls, NeverFallsAlong}

less : (n k : ℕ) → n - k ≤ n
less n k = omega arith

-- a greater multiple, divided, is no less
not_below : (n m d : ℕ) → 1 ≤ d → n * d ≤ m → n ≤ ceiling m d
not_below n m d h e =
    let c = ceiling-is m d h in
    let r = c.reaches in
    let whole : n * d ≤ ceiling m d * d = omega arith in
    le_of_mul-le-mul_right whole h

pub never_falls : NeverFalls
never_falls clock c below = record {
  scheduler = record {
    rate = not_below c.rate (MILLION * c.rate) (MILLION - clock.deviation_ppm) (omega arith)
        (omega (arith, mul-le-mul_left c.rate (less MILLION clock.deviation_ppm)));
    burst = omega arith;
  };
  output = record {
    rate = not_below c.rate (c.rate * (MILLION + clock.deviation_ppm)) MILLION (omega arith) (omega arith);
    burst = omega arith;
  };
}

pub never_falls_along : NeverFallsAlong
never_falls_along [] c h = record { rate = omega arith; burst = omega arith }
never_falls_along (clock ∷ clocks) c h =
    let below = All-head (λ (clock : DeclaredClock). clock.deviation_ppm < MILLION) clock clocks h in
    let set : Committed = scheduler_for clock c in
    let first = (never_falls clock c below).scheduler in
    let second = (never_falls clock set below).output in
    let rest = never_falls_along clocks (output_of clock set)
    (All-tail (λ (clock : DeclaredClock). clock.deviation_ppm < MILLION) clock clocks h) in
    let a = first.rate in
    let b = second.rate in
    let d = rest.rate in
    let e = first.burst in
    let f = second.burst in
    let g = rest.burst in
    record { rate = omega arith; burst = omega arith }

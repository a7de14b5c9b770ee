use Rattle.std.proofs.Common.{ℕ, ◌+◌, ◌-◌, ◌*◌, ◌≤◌, arith}
use Rattle.std.proofs.Math.Nat.{mul-le-mul_right}
use Rattle.ats_clock.specs.declared.clock.TheConstants.{MILLION}
use Rattle.ats_clock.specs.Laws.{KeepsGreater}

slower : (least less n gained step more : ℕ) → less ≤ least → step ≤ more → least * n ≤ gained + MILLION * step
    → less * n ≤ gained + MILLION * more
slower least less n gained step more h g e = omega (arith, mul-le-mul_right n h)

faster : (most greater n gained step more : ℕ) → most ≤ greater → step ≤ more → gained ≤ most * n + MILLION * step
    → gained ≤ greater * n + MILLION * more
faster most greater n gained step more h g e = omega (arith, mul-le-mul_right n h)

-- a greater deviation and a greater step allow no less
pub keeps_greater : KeepsGreater
keeps_greater clock wider shows w k = record {
  in_order = k.in_order;
  no_slower = λ s t h.
      slower (MILLION - clock.deviation_ppm) (MILLION - wider.deviation_ppm) (t - s) (MILLION * (shows t - shows s))
      clock.step_ps wider.step_ps (let d = w.deviation in omega arith) w.step (k.no_slower s t h);
  no_faster = λ s t h.
      faster (MILLION + clock.deviation_ppm) (MILLION + wider.deviation_ppm) (t - s) (MILLION * (shows t - shows s))
      clock.step_ps wider.step_ps (let d = w.deviation in omega arith) w.step (k.no_faster s t h);
}

use Rattle.std.proofs.Common.{ℕ, ◌+◌, ◌-◌, ◌*◌, ◌<◌, ◌≤◌, mul-le-mul_left, mul-le-mul_right, arith}
use Rattle.ats_num.specs.declared.time.TheConstants.{PS_PER_SECOND}
use Rattle.ats_num.proofs.Ceiling.{ceiling-is}
use Rattle.ats_clock.specs.declared.clock.TheConstants.{MILLION}
use Rattle.ats_clock.specs.declared.committed.Committed.{Committed}
use Rattle.ats_clock.specs.Clock.{DeclaredClock}
use Rattle.ats_clock.specs.Laws.{IsNoGreater}
use Rattle.ats_clock.specs.Rates.{output_of, scheduler_for}
use Rattle.ats_clock_law.specs.Retiming.{AreEnough}

-- the output of a scheduler is enough for what it lets through, from its clock to true time
pub output_enough : (clock : DeclaredClock) (scheduler : Committed)
    → AreEnough MILLION (MILLION + clock.deviation_ppm) (MILLION * clock.step_ps + clock.deviation_ppm) scheduler
    (output_of clock scheduler)
output_enough clock scheduler =
    let rate = ceiling-is (scheduler.rate * (MILLION + clock.deviation_ppm)) MILLION (omega arith) in
    let burst = ceiling-is (scheduler.rate * (MILLION * clock.step_ps + clock.deviation_ppm)) (MILLION * PS_PER_SECOND)
    (omega arith) in
    record {
      positive = omega arith;
      rate = rate.reaches;
      burst = (let r = burst.reaches in omega arith);
    }

-- a scheduler is enough for what arrives, from true time to its clock
pub scheduler_enough : (clock : DeclaredClock) (arriving : Committed) → clock.deviation_ppm < MILLION
    → AreEnough (MILLION - clock.deviation_ppm) MILLION (MILLION * clock.step_ps) arriving
    (scheduler_for clock arriving)
scheduler_enough clock arriving below =
    let slow : ℕ = MILLION - clock.deviation_ppm in
    let given : ℕ = (scheduler_for clock arriving).rate in
    let rate = ceiling-is (MILLION * arriving.rate) slow (omega arith) in
    let burst = ceiling-is (given * clock.step_ps) PS_PER_SECOND (omega arith) in
    let r : MILLION * arriving.rate ≤ given * slow = rate.reaches in
    let in_step = mul-le-mul_right clock.step_ps r in
    let saved = mul-le-mul_left slow burst.reaches in
    record {
      positive = omega arith;
      rate = omega arith;
      burst = omega arith;
    }

-- and so is a greater one
pub greater_enough : (a u v : ℕ) (before after greater : Committed) → AreEnough a u v before after
    → IsNoGreater after greater → AreEnough a u v before greater
greater_enough a u v before after greater e g =
    let rate = e.rate in
    let burst = e.burst in
    let more = mul-le-mul_right a g.rate in
    let saved = mul-le-mul_left (a * PS_PER_SECOND) g.burst in
    record { positive = e.positive; rate = omega arith; burst = omega arith }

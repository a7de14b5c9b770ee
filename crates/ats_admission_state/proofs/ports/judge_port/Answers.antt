use Rattle.std.proofs.Common.{ℕ, ◌≤◌, arith}
use Rattle.ats_bound.specs.Reason.{overload}
use Rattle.ats_admission_law.specs.Near.{overstay_at}
use Rattle.ats_admission_state.proofs.Found.{find_class, keep_class, pass_class}
use Rattle.ats_admission_state.proofs.Placed.{sets_more}
use Rattle.ats_admission_state.proofs.ports.judge_port.Goals as goal

pub returns-in-Err-clause-load : goal.returns-in-Err-clause-load
returns-in-Err-clause-load c =
    let class : ℕ = c.loop-class.class in
    find_class (overload c.args.network.now) c.args.network.now c.args.port class c.in-Err.load c.loop-class.auto.class
    (omega (arith, c.loop-class-test.true)) c.loop-class.invariant.loads c.in-Err.ensures.load

pub loop-class-preserved : goal.loop-class-preserved
loop-class-preserved c =
    let network = c.args.network.now in
    let port : ℕ = c.args.port in
    let class : ℕ = c.loop-class.class in
    let some : 1 ≤ class = c.loop-class.auto.class in
    let most : class ≤ 7 = omega (arith, c.loop-class-test.true) in
    record {
      loads = pass_class (overload network) network port class some most c.loop-class.invariant.loads
          c.in-Ok.ensures.fits;
      stays = keep_class (overstay_at network) network port class c.loop-class.stay c.in-Ok.found
          c.or-stay.result some most c.loop-class.invariant.stays c.in-Ok.ensures.stay c.or-stay.ensures;
      sets = sets_more network port class c.args.bounds.now c.loop-class.bounds c.judge_class.new.bounds
          c.in-Ok.ensures.set c.loop-class.invariant.sets;
    }

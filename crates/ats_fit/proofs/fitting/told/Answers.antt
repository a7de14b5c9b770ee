use Rattle.std.proofs.Common.{length, ap, arith}
use Rattle.std.proofs.lemmas.List.{length_push}
use Rattle.ats_fit.proofs.Gauges.{told-more}
use Rattle.ats_fit.proofs.fitting.told.Goals as goal

pub loop-gauge-preserved : goal.loop-gauge-preserved
loop-gauge-preserved c =
    let pushed = c.in_ok-push.ensures.items in
    record {
      count = omega (
        arith,
        ap length pushed,
        length_push c.loop-gauge.measured.items c.measured.result,
        c.loop-gauge.invariant.count,
      );
      each = rw pushed
          (told-more c.args.gauges.now c.loop-gauge.measured.items c.loop-gauge.gauge-index c.gauge-item.result
          c.measured.result c.loop-gauge.invariant.count c.loop-gauge-test.true c.gauge-item.is c.measured.ensures
          c.loop-gauge.invariant.each);
    }

use Rattle.std.proofs.Common.{◌≡◌, length, subst, sym, ap, List, All, arith}
use Rattle.ats_buffer.specs.Moments.{IsInside, moments_in}
use Rattle.ats_buffer.specs.declared.moments.Moment.{Moment}
use Rattle.ats_buffer.proofs.Crossings.{moments_inside, moments_few}
use Rattle.ats_buffer.proofs.Visits.{frames_over}
use Rattle.ats_buffer.proofs.moments.moments_by_frame.Goals as goal

pub returns : goal.returns
returns c =
    let all : c.loop-frame.moments.items ≡ moments_in c.args.network.now c.args.run.now =
    frames_over c.args.network.now c.args.run.now c.loop-frame.frame c.loop-frame.moments.items
    (omega arith) c.loop-frame.invariant in
    record {
      all = all;
      inside = subst (All (IsInside (length c.args.network.now.topology.ports))) (sym all)
          (moments_inside c.args.network.now c.args.run.now c.topology-topology.ensures.rules
          c.requires.legal);
      few = (let many : length c.loop-frame.moments.items ≡ length (moments_in c.args.network.now c.args.run.now) =
          ap (λ (l : List Moment). length l) all in
          omega (
            arith,
            many,
            c.len-frame-end.ensures.bounded,
            moments_few c.args.network.now c.args.run.now c.topology-topology.ensures.rules c.requires.legal,
          ));
    }

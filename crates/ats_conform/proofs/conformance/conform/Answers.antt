use Rattle.std.proofs.Common.{rules, arith}
use Rattle.ats_conform.specs.Releases.{AllKeepBuckets}
use Rattle.ats_conform.proofs.Judged.{all_kept, none_so_far}
use Rattle.ats_conform.proofs.Prefix.{one-breaks}
use Rattle.ats_conform.proofs.conformance.conform.Goals as goal

pub returns-clause-ok : goal.returns-clause-ok
returns-clause-ok c =
    all_kept c.args.network.now c.args.releases.now c.loop-place.place (omega arith) c.loop-place.invariant.kept

pub returns-in_err-judge-clause-broken : goal.returns-in_err-judge-clause-broken
returns-in_err-judge-clause-broken c =
    let not : ¬ AllKeepBuckets c.args.network.now c.args.releases.now =
    one-breaks c.args.network.now c.args.releases.now c.in_err-judge.field-0.0 c.in_err-judge.ensures.broken in
    search rules

pub loop-place-init : goal.loop-place-init
loop-place-init c = record {
  meters = c.in_ok-meters.ensures c.args.releases.now;
  kept = none_so_far c.args.network.now c.args.releases.now;
}

use Rattle.std.proofs.Common.{◌<◌, ℕ, List, length, refl, subst, arith}
use Rattle.std.proofs.lemmas.Result.{IfOk-weaker}
use Rattle.ats_conform.specs.Releases.{no_release, release_at}
use Rattle.ats_fit.specs.Measured.{AreMeasured}
use Rattle.ats_fit.specs.Steps.{AreTold, Gauging}
use Rattle.ats_fit.proofs.Gauges.{gauge-at, gauge-few, gauge-early, gauges-first, gauges-more, told-measured}
use Rattle.ats_fit.proofs.fitting.fit.Goals as goal

pub loop-release-init : goal.loop-release-init
loop-release-init c =
    gauges-first c.args.network.now c.args.releases.now c.in_ok-gauges.gauges.items c.in_ok-gauges.ensures

pub take-requires-clause-few : goal.take-requires-clause-few
take-requires-clause-few c =
    let n : ℕ = c.loop-release.release-index in
    let i : ℕ = (release_at c.args.releases.now n).sender in
    let exists = (c.requires.each n no_release c.loop-release-test.true).sender in
    gauge-few c.args.network.now c.args.releases.now n i c.index_mut.result.now
    (gauge-at c.args.network.now c.args.releases.now n i c.loop-release.gauges.items c.index_mut.result.now
    c.loop-release.invariant (omega (arith, c.loop-release.invariant.count)) c.index_mut.ensures.value)
    c.requires.few c.loop-release-test.true

pub take-requires-clause-order : goal.take-requires-clause-order
take-requires-clause-order c =
    let n : ℕ = c.loop-release.release-index in
    let i : ℕ = (release_at c.args.releases.now n).sender in
    let exists = (c.requires.each n no_release c.loop-release-test.true).sender in
    gauge-early c.args.network.now c.args.releases.now n i c.index_mut.result.now
    (gauge-at c.args.network.now c.args.releases.now n i c.loop-release.gauges.items c.index_mut.result.now
    c.loop-release.invariant (omega (arith, c.loop-release.invariant.count)) c.index_mut.ensures.value)
    c.requires.in_order c.loop-release-test.true

pub loop-release-preserved : goal.loop-release-preserved
loop-release-preserved c =
    let n : ℕ = c.loop-release.release-index in
    let i : ℕ = (release_at c.args.releases.now n).sender in
    let exists = (c.requires.each n no_release c.loop-release-test.true).sender in
    let inside : i < length c.loop-release.gauges.items = omega (arith, c.loop-release.invariant.count) in
    gauges-more c.args.network.now c.args.releases.now n i c.loop-release.gauges.items c.take.new.self
    c.loop-release-test.true c.loop-release.invariant refl inside c.index_mut.result.now
    (gauge-at c.args.network.now c.args.releases.now n i c.loop-release.gauges.items c.index_mut.result.now
    c.loop-release.invariant inside c.index_mut.ensures.value) c.take.ensures

pub returns : goal.returns
returns c =
    IfOk-weaker c.told.result (λ measured. AreTold c.deref.result.now measured.items)
    (λ measured. AreMeasured c.args.network.now c.args.releases.now measured.items)
    (λ measured are. told-measured c.args.network.now c.args.releases.now c.loop-release.release-index
    c.loop-release.gauges.items measured.items c.loop-release-test.false c.loop-release.invariant
    (subst (λ (l : List Gauging). AreTold l measured.items) c.deref.ensures.value are)) c.told.ensures

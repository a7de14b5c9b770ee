use Rattle.std.proofs.Common.{refl, subst, sym, ◌∙◌}
use Rattle.ats_bound.specs.Least.{least_certificate}
use Rattle.ats_witness.specs.Burst.{IsBurstFor}
use Rattle.ats_witness.proofs.FoundLemmas.{some_arrived}
use Rattle.ats_witness.proofs.finding.play.Goals as goal

pub unreachable-requires : goal.unreachable-requires
unreachable-requires c =
    let network = c.args.network.now in
    some_arrived network (least_certificate network) c.args.stream c.args.listener c.args.port c.in_ok-run.run'
    c.requires.rules c.requires.holds c.in_ok-run.ensures.by.legal c.requires.stream c.requires.listener c.requires.port
    (subst (IsBurstFor network c.args.stream c.args.port)
    (sym (c.in_ok-run.ensures.releases ∙ c.deref.ensures.value)) c.requires.burst)
    (c.in-None.ensures.none.0 refl)

use Rattle.std.proofs.Common.{◌≡◌, subst}
use Rattle.std.proofs.lemmas.Slice.Eq.{slice_eq-Decides}
use Rattle.ats_witness.specs.Burst.{IsBurstFor}
use Rattle.ats_witness.proofs.PlayedLemmas.{equal_releases}
use Rattle.ats_witness.proofs.finding.play_next.Goals as goal

-- an equal burst is the burst here
pub returns-then-eq-clause-burst : goal.returns-then-eq-clause-burst
returns-then-eq-clause-burst c =
    let same : c.in_ok-next.next.items ≡ c.args.last.burst.items =
    (slice_eq-Decides equal_releases c.in_ok-next.next.items c.args.last.burst.items c.eq.result c.eq.ensures).0
    c.if-eq.true in
    subst (IsBurstFor c.args.network.now c.args.stream c.args.port) same c.in_ok-next.ensures.burst

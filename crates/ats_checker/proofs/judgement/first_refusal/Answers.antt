use Rattle.std.proofs.Common.{◌<◌, ◌∙◌, length, sym, subst}
use Rattle.std.specs.List.{All}
use Rattle.ats_network.specs.Network.{DeclaredNetwork}
use Rattle.ats_certificate.specs.declared.row.Row.{Row}
use Rattle.ats_tally.specs.Reason.{overload_in}
use Rattle.ats_tally.proofs.Lists.{none_first}
use Rattle.ats_checker.specs.Refusal.{wrong_in}
use Rattle.ats_checker.proofs.Judged.{rows_used}
use Rattle.ats_checker.proofs.judgement.first_refusal.Goals as goal

pub first_wrong-requires-clause-used : goal.first_wrong-requires-clause-used
first_wrong-requires-clause-used c =
    rows_used c.args.tallies.now c.rows-rows.result.now c.network-network.ensures.rules
    (sym c.first_stray.ensures ∙ c.in_default-first_stray.is)

pub first_short-requires-clause-used : goal.first_short-requires-clause-used
first_short-requires-clause-used c =
    rows_used c.args.tallies.now c.rows-rows.result.now c.network-network.ensures.rules
    (sym c.first_stray.ensures ∙ c.in_default-first_stray.is)

pub first_short-requires-clause-right : goal.first_short-requires-clause-right
first_short-requires-clause-right c =
    none_first (wrong_in c.args.tallies.now) c.rows-rows.result.now
    (sym c.first_wrong.ensures ∙ c.in_default-first_wrong.is)

pub first_short-requires-clause-fits : goal.first_short-requires-clause-fits
first_short-requires-clause-fits c =
    none_first overload_in c.rows-rows.result.now (sym c.first_overload.ensures ∙ c.in_default-first_overload.is)

pub first_overstay-requires-clause-ports : goal.first_overstay-requires-clause-ports
first_overstay-requires-clause-ports c =
    subst (λ (n : DeclaredNetwork). All (λ (row : Row). row.port < length n.topology.ports) c.rows-rows.result.now)
    (sym c.network-network.ensures.value)
    (λ k d h. (rows_used c.args.tallies.now c.rows-rows.result.now c.network-network.ensures.rules
    (sym c.first_stray.ensures ∙ c.in_default-first_stray.is) k d h).inside)

use Rattle.std.proofs.Common.{◌≡◌, ◌<◌, List, length, None, sym, ap, subst, ◌∙◌}
use Rattle.std.specs.List.{All}
use Rattle.ats_network.specs.Network.{DeclaredNetwork, IsNetwork}
use Rattle.ats_certificate.specs.Used.{places_of}
use Rattle.ats_certificate.specs.declared.row.Row.{Row}
use Rattle.ats_tally.specs.Reason.{first_some, overstay, late}
use Rattle.ats_bound.specs.Least.{least_certificate}
use Rattle.ats_bound.specs.Reason.{overload}
use Rattle.ats_bound.proofs.LeastHolds.{least_certificate_holds, ports_exist}
use Rattle.ats_bound.proofs.NoneHolds.{reason_of-none}
use Rattle.ats_bound.proofs.least.make.Goals as goal

pub first_overstay-requires-clause-ports : goal.first_overstay-requires-clause-ports
first_overstay-requires-clause-ports c =
    let same : c.in_ok-tallies.tallies ≡ c.args.network.now = c.in_ok-tallies.ensures in
    subst (λ (rows : List Row). All (λ (row : Row). row.port < length c.args.network.now.topology.ports) rows)
    (sym (c.rows.ensures.value ∙ c.in_ok-certificate.ensures.ok ∙ ap least_certificate same))
    (ports_exist c.args.network.now (subst IsNetwork same c.in_ok-certificate.ensures.rules))

pub returns-clause-holds : goal.returns-clause-holds
returns-clause-holds c =
    let network : DeclaredNetwork = c.args.network.now in
    let same : c.in_ok-tallies.tallies ≡ network = c.in_ok-tallies.ensures in
    let made : c.in_ok-certificate.certificate ≡ least_certificate network =
    c.in_ok-certificate.ensures.ok ∙ ap least_certificate same in
    let fits : first_some (overload network) (places_of network) ≡ None =
    subst (λ (n : DeclaredNetwork). first_some (overload n) (places_of n) ≡ None) same
    c.in_ok-certificate.ensures.fits in
    let least : c.rows.result.now ≡ least_certificate network = c.rows.ensures.value ∙ made in
    let stays : first_some (overstay network) (least_certificate network) ≡ None =
    sym (ap (first_some (overstay network)) least) ∙ sym c.first_overstay.ensures ∙ c.in_default.is in
    let times : first_some (late network.topology (least_certificate network)) network.streams ≡ None =
    sym (ap (λ (rows : List Row). first_some (late network.topology rows) network.streams) made)
    ∙ sym c.in_ok-reason.ensures ∙ c.in_default-2.is in
    (least_certificate_holds network (subst IsNetwork same c.in_ok-certificate.ensures.rules)
    (reason_of-none network fits stays times)).holds

use Rattle.std.proofs.Common.{◌≡◌, ℕ, List, Option, Some, None, Result, Ok, Err, sym, ap, subst, ◌∙◌}
use Rattle.std.specs.Option.{option_map}
use Rattle.ats_topology.specs.Topology.{DeclaredTopology}
use Rattle.ats_network.specs.Network.{DeclaredNetwork, IsNetwork}
use Rattle.ats_certificate.specs.Certificate.{Holds}
use Rattle.ats_certificate.specs.declared.row.Row.{Row}
use Rattle.ats_certificate_file.specs.Text.{certificate_text}
use Rattle.ats_bound.specs.Least.{least_certificate}
use Rattle.ats_bound.specs.Reason.{reason_of}
use Rattle.ats_tally.specs.declared.reason.Reason.{Reason}
use Rattle.ats_bound.proofs.LeastHolds.{ports_exist}
use Rattle.ats_checker.specs.Ports.{RowsInside}
use Rattle.ats_checker.specs.Refusal.{refusal_of}
use Rattle.ats_checker.specs.declared.refusal.Refusal.{Refusal}
use Rattle.ats_checker.proofs.Refused.{refused_unless_holding}
use Rattle.ats_verdict_text.specs.Text.{accepted_text, reason_text, refusal_text, refused_text}
use Rattle.ats_command_input.specs.Answer.{Answer}
use Rattle.ats_command_due.specs.Judged.{judged, bound_judged, check_judged}
use Rattle.ats_command_input.specs.declared.status.Status.TheVariants as status

-- a refusal with this text
refused_with : List ℕ → Result (List ℕ) Answer
refused_with text = Err (record { status = status.Refused; text = text })

-- the rows of the certificate with the least waits are of ports of the topology
pub least_inside : (network : DeclaredNetwork) (topology : DeclaredTopology) (rows : List Row) → IsNetwork network
    → topology ≡ network.topology → rows ≡ least_certificate network → RowsInside topology rows
least_inside network topology rows is same least =
    subst (λ (t : DeclaredTopology). RowsInside t rows) (sym same)
    (subst (λ (r : List Row). RowsInside network.topology r) (sym least) (ports_exist network is))

-- the text of the certificate with the least waits, where there is no reason against the network
pub bound_text : (network : DeclaredNetwork) (topology : DeclaredTopology) (rows : List Row) (text : List ℕ)
    → topology ≡ network.topology → rows ≡ least_certificate network → reason_of network ≡ None
    → text ≡ certificate_text topology rows → bound_judged network ≡ Ok text
unfolding bound_judged
bound_text network topology rows text same least none written =
    ap (λ (o : Option Reason). judged (certificate_text network.topology (least_certificate network))
    (option_map (reason_text network.topology) o)) none
    ∙ ap (λ (t : List ℕ). judged t None)
    (sym (written ∙ ap (λ (t : DeclaredTopology). certificate_text t rows) same
    ∙ ap (λ (r : List Row). certificate_text network.topology r) least))

-- the line for the reason, where there is one
pub bound_refused : (network : DeclaredNetwork) (topology : DeclaredTopology) (reason : Reason) (text : List ℕ)
    → topology ≡ network.topology → reason_of network ≡ Some reason
    → text ≡ refused_text (reason_text topology reason)
    → bound_judged network ≡ Err (record { status = status.Refused; text = text })
unfolding bound_judged refused_with
bound_refused network topology reason text same why written =
    ap (λ (o : Option Reason). judged (certificate_text network.topology (least_certificate network))
    (option_map (reason_text network.topology) o)) why
    ∙ ap refused_with (sym (written ∙ ap (λ (t : DeclaredTopology). refused_text (reason_text t reason)) same))

-- a certificate that holds is not refused
not_refused : (network : DeclaredNetwork) (rows : List Row) → IsNetwork network → Holds network rows
    → refusal_of network rows ≡ None
not_refused network rows is holds = (refused_unless_holding network rows is holds.rows_of.ordered).1 holds

-- the text of a certificate that holds
pub check_text : (network : DeclaredNetwork) (rows : List Row) (text : List ℕ) → IsNetwork network → Holds network rows
    → text ≡ accepted_text network rows → check_judged network rows ≡ Ok text
unfolding check_judged
check_text network rows text is holds written =
    ap (λ (o : Option Refusal). judged (accepted_text network rows) (option_map (refusal_text network.topology) o))
    (not_refused network rows is holds)
    ∙ ap (λ (t : List ℕ). judged t None) (sym written)

-- the line for the refusal of a certificate
pub check_refused : (network : DeclaredNetwork) (rows : List Row) (topology : DeclaredTopology) (refusal : Refusal)
    (text : List ℕ) → topology ≡ network.topology
    → refusal_of network rows ≡ Some refusal → text ≡ refused_text (refusal_text topology refusal)
    → check_judged network rows ≡ Err (record { status = status.Refused; text = text })
unfolding check_judged refused_with
check_refused network rows topology refusal text same due written =
    ap (λ (o : Option Refusal). judged (accepted_text network rows) (option_map (refusal_text network.topology) o)) due
    ∙ ap refused_with (sym (written ∙ ap (λ (t : DeclaredTopology). refused_text (refusal_text t refusal)) same))

-- What an explanation and an overload settle.
use Rattle.std.proofs.Common.{◌≡◌, ℕ, List, Option, Some, None, Result, Ok, Err, sym, ap, ◌∙◌}
use Rattle.std.specs.Option.{option_map, option_or}
use Rattle.ats_topology.specs.Topology.{DeclaredTopology}
use Rattle.ats_network.specs.Network.{DeclaredNetwork, IsNetwork}
use Rattle.ats_certificate.specs.Used.{places_of}
use Rattle.ats_tally.specs.Reason.{ReasonInside, first_some, late, overstay}
use Rattle.ats_tally.specs.declared.reason.Reason.{Reason}
use Rattle.ats_bound.specs.Least.{least_certificate}
use Rattle.ats_bound.specs.Reason.{overload}
use Rattle.ats_explain_text.specs.Text.{explain_text}
use Rattle.ats_verdict_text.specs.Text.{reason_text, refused_text}
use Rattle.ats_command_input.specs.Answer.{Answer}
use Rattle.ats_command_input.specs.declared.status.Status.TheVariants as status
use Rattle.ats_command_due.specs.Judged.{explain_judged, judged}
use Rattle.ats_verdict_text.proofs.ReasonPorts.{reason_inside}

-- a refusal with this text
refused_with : List ℕ → Result (List ℕ) Answer
refused_with text = Err (record { status = status.Refused; text = text })

-- the port of an overload is one of the topology
pub overload_inside : (network : DeclaredNetwork) (topology : DeclaredTopology) (reason : Reason) → IsNetwork network
    → topology ≡ network.topology → first_some (overload network) (places_of network) ≡ Some reason
    → ReasonInside topology reason
overload_inside network topology reason is same why =
    reason_inside network topology reason is same
    (ap (λ (o : Option Reason). option_or o
    (option_or (first_some (overstay network) (least_certificate network))
    (first_some (late network.topology (least_certificate network)) network.streams))) why)

-- the text of an explanation, where nothing is overloaded
pub explain_text_is : (network : DeclaredNetwork) (text : List ℕ)
    → first_some (overload network) (places_of network) ≡ None → text ≡ explain_text network
    → explain_judged network ≡ Ok text
unfolding explain_judged
explain_text_is network text none written =
    ap (λ (o : Option Reason). judged (explain_text network) (option_map (reason_text network.topology) o)) none
    ∙ ap (λ (t : List ℕ). judged t None) (sym written)

-- the line for an overload
pub explain_refused : (network : DeclaredNetwork) (topology : DeclaredTopology) (reason : Reason) (text : List ℕ)
    → topology ≡ network.topology → first_some (overload network) (places_of network) ≡ Some reason
    → text ≡ refused_text (reason_text topology reason)
    → explain_judged network ≡ Err (record { status = status.Refused; text = text })
unfolding explain_judged refused_with
explain_refused network topology reason text same why written =
    ap (λ (o : Option Reason). judged (explain_text network) (option_map (reason_text network.topology) o)) why
    ∙ ap refused_with (sym (written ∙ ap (λ (t : DeclaredTopology). refused_text (reason_text t reason)) same))

-- What the answers to requests settle, and a reason against the network.
use Rattle.std.proofs.Common.{◌≡◌, ℕ, List, Option, Some, None, Result, Ok, Err, sym, ap, ◌∙◌}
use Rattle.std.specs.Option.{option_map}
use Rattle.ats_topology.specs.Topology.{DeclaredTopology}
use Rattle.ats_network.specs.Network.{DeclaredNetwork}
use Rattle.ats_tally.specs.declared.reason.Reason.{Reason}
use Rattle.ats_bound.specs.Reason.{reason_of}
use Rattle.ats_verdict_text.specs.Text.{reason_text, refused_text}
use Rattle.ats_requests.specs.declared.request.Request.{Request}
use Rattle.ats_admission_text.specs.Text.{admission_text}
use Rattle.ats_command_input.specs.Answer.{Answer}
use Rattle.ats_command_input.specs.declared.status.Status.TheVariants as status
use Rattle.ats_command_due.specs.Judged.{admission_judged, judged}

-- a refusal with this text
refused_with : List ℕ → Result (List ℕ) Answer
refused_with text = Err (record { status = status.Refused; text = text })

-- the text of the answers, where there is no reason against the network
pub answers_settle : (network session : DeclaredNetwork) (asked : List Request) (text : List ℕ) → session ≡ network
    → reason_of network ≡ None → text ≡ admission_text session asked → admission_judged network asked ≡ Ok text
unfolding admission_judged
answers_settle network session asked text same none written =
    ap (λ (o : Option Reason). judged (admission_text network asked)
    (option_map (reason_text network.topology) o)) none
    ∙ ap (λ (t : List ℕ). judged t None)
    (sym (written ∙ ap (λ (n : DeclaredNetwork). admission_text n asked) same))

-- the line for the reason, where there is one
pub admission_refused : (network : DeclaredNetwork) (asked : List Request) (topology : DeclaredTopology)
    (reason : Reason) (text : List ℕ) → topology ≡ network.topology → reason_of network ≡ Some reason
    → text ≡ refused_text (reason_text topology reason)
    → admission_judged network asked ≡ Err (record { status = status.Refused; text = text })
unfolding admission_judged refused_with
admission_refused network asked topology reason text same why written =
    ap (λ (o : Option Reason). judged (admission_text network asked)
    (option_map (reason_text network.topology) o)) why
    ∙ ap refused_with (sym (written ∙ ap (λ (t : DeclaredTopology). refused_text (reason_text t reason)) same))

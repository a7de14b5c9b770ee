-- What comes of a certificate that holds, and of one that does not.
use Rattle.std.proofs.Common.{◌≡◌, ℕ, List, Option, Some, None, Result, Ok, Err, refl, sym, ap, ◌∙◌}
use Rattle.std.specs.Option.{option_map}
use Rattle.ats_topology.specs.Topology.{DeclaredTopology}
use Rattle.ats_network.specs.Network.{DeclaredNetwork, IsNetwork}
use Rattle.ats_certificate.specs.Certificate.{Holds}
use Rattle.ats_certificate.specs.declared.row.Row.{Row}
use Rattle.ats_checker.specs.Refusal.{refusal_of}
use Rattle.ats_checker.specs.declared.refusal.Refusal.{Refusal}
use Rattle.ats_checker.proofs.Refused.{refused_unless_holding}
use Rattle.ats_verdict_text.specs.Text.{refusal_text, refused_text}
use Rattle.ats_command_input.specs.Answer.{Answer}
use Rattle.ats_command_input.specs.Outcome.{IsStopOf}
use Rattle.ats_command_input.specs.declared.outcome.Stop.{Stop}
use Rattle.ats_command_input.specs.declared.outcome.Stop.TheVariants.{Input, Refused, ReadFailed, NoMemory}
use Rattle.ats_command_input.specs.declared.status.Status.TheVariants as status
use Rattle.ats_command_due.specs.Judged.{judged, unless_refused}

-- one that holds gives its value
pub holding_gives : {A : Type 0} (network : DeclaredNetwork) (rows : List Row) (value : A) → IsNetwork network
    → Holds network rows → unless_refused network rows value ≡ Ok value
holding_gives network rows value is holds =
    ap (λ (o : Option Refusal). judged value (option_map (refusal_text network.topology) o))
    ((refused_unless_holding network rows is holds.rows_of.ordered).1 holds)

-- a refusal with this text
refused_with : {A : Type 0} → List ℕ → Result A Answer
refused_with text = Err (record { status = status.Refused; text = text })

-- the line for its refusal stands in the place of the value
pub refused_gives : {A : Type 0} (network : DeclaredNetwork) (rows : List Row) (value : A) (topology : DeclaredTopology)
    (refusal : Refusal) (text : List ℕ) → topology ≡ network.topology
    → refusal_of network rows ≡ Some refusal → text ≡ refused_text (refusal_text topology refusal)
    → unless_refused network rows value ≡ Err (record { status = status.Refused; text = text })
unfolding refused_with
refused_gives network rows value topology refusal text same due written =
    ap (λ (o : Option Refusal). judged value (option_map (refusal_text network.topology) o)) due
    ∙ ap refused_with (sym (written ∙ ap (λ (t : DeclaredTopology). refused_text (refusal_text t refusal)) same))

ok_is_no_err : {A B : Type 0} (value : A) (answer : Answer)
    → (let one : Result A Answer = Ok value in one ≡ Err answer) → B
ok_is_no_err value answer h = cc

err_moved : (A B : Type 0) (answer other : Answer) → (let one : Result A Answer = Err answer in one ≡ Err other)
    → (let moved : Result B Answer = Err answer in moved ≡ Err other)
err_moved A B answer other h = cc

-- what stops one value stops each other
stops : {A B : Type 0} (stop : Stop) (o : Option (List ℕ)) (one : A) (other : B) → IsStopOf stop (judged one o)
    → IsStopOf stop (judged other o)
stops (Input text) None one other h = ok_is_no_err one (record { status = status.Input; text = text.items }) h
stops {A} {B} (Input text) (Some why) one other h =
    err_moved A B (record { status = status.Refused; text = refused_text why })
    (record { status = status.Input; text = text.items }) h
stops (Refused text) None one other h = ok_is_no_err one (record { status = status.Refused; text = text.items }) h
stops {A} {B} (Refused text) (Some why) one other h =
    err_moved A B (record { status = status.Refused; text = refused_text why })
    (record { status = status.Refused; text = text.items }) h
stops ReadFailed o one other h = tt
stops NoMemory o one other h = tt

pub stops_each : {A B : Type 0} (stop : Stop) (network : DeclaredNetwork) (rows : List Row) (one : A) (other : B)
    → IsStopOf stop (unless_refused network rows one) → IsStopOf stop (unless_refused network rows other)
stops_each stop network rows one other =
    stops stop (option_map (refusal_text network.topology) (refusal_of network rows)) one other

err_is_no_ok : {A B : Type 0} (value : A) (answer : Answer)
    → (let one : Result A Answer = Err answer in one ≡ Ok value) → B
err_is_no_ok value answer h = cc

passes : {A B : Type 0} (o : Option (List ℕ)) (one passed : A) (other : B) → judged one o ≡ Ok passed
    → judged other o ≡ Ok other
passes None one passed other h = refl
passes (Some why) one passed other h =
    err_is_no_ok passed (record { status = status.Refused; text = refused_text why }) h

-- where one value is given, so is each other
pub passes_each : {A B : Type 0} (network : DeclaredNetwork) (rows : List Row) (one passed : A) (other : B)
    → unless_refused network rows one ≡ Ok passed → unless_refused network rows other ≡ Ok other
passes_each network rows one passed other =
    passes (option_map (refusal_text network.topology) (refusal_of network rows)) one passed other

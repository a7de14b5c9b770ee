-- The ports that answers name are ports of the network.
use Rattle.std.proofs.Common.{◌≡◌, ℕ, Bool, true, false, cond, List, [], ◌∷◌, Option, Some, None, refl, subst}
use Rattle.std.specs.Prelude.{IfErr, IfSome, Result, Ok, Err, is_some}
use Rattle.std.specs.List.{All}
use Rattle.std.specs.Option.{option_or, option_map}
use Rattle.std.proofs.lemmas.List.Elements.{All-nil, All-cons, All-head, All-tail}
use Rattle.ats_num.specs.Failure.{unless}
use Rattle.ats_streams.specs.Stream.{DeclaredStream, IsClass, with_class}
use Rattle.ats_network.specs.Edits.{stream_named}
use Rattle.ats_network.specs.Network.{DeclaredNetwork}
use Rattle.ats_network.specs.Pushes.{with_stream, is_beyond, is_name_taken}
use Rattle.ats_certificate.specs.Used.{stream_classes}
use Rattle.ats_tally.specs.Reason.{ReasonInside}
use Rattle.ats_tally.specs.declared.reason.Reason.{Reason}
use Rattle.ats_verdict_text.proofs.ReasonPorts.{each_reason_is_inside}
use Rattle.ats_requests.specs.Admission.{admit, admit_lowest, class_given, class_reason, entry_fault, first_class}
use Rattle.ats_requests.specs.Admission.{lowest_of, reason_with, sum_given, sum_with, withdraw_fault}
use Rattle.ats_requests.specs.Laws.{IsCertified}
use Rattle.ats_requests.specs.Requests.{MayAsk, MayEnter, admit_answer, answer, first_class_of, lowest_answer}
use Rattle.ats_requests.specs.Requests.{withdraw_answer}
use Rattle.ats_requests.specs.declared.denied.Denied.{Denied}
use Rattle.ats_requests.specs.declared.denied.Denied.TheVariants.{NameTaken, NameUnknown, Limit, Because}
use Rattle.ats_requests.specs.declared.request.Request.{Request}
use Rattle.ats_requests.specs.declared.request.Request.TheVariants.{Admit, Lowest, Withdraw}
use Rattle.ats_requests.proofs.Classes.{are_classes}
use Rattle.ats_requests.proofs.Keeps.{entered, enters_with}
use Rattle.ats_admission_text.specs.Inside.{AnswerInside, DeniedInside}

-- of what stands against an entry
entry_inside : (network : DeclaredNetwork) (stream : DeclaredStream)
    → IfSome (entry_fault network stream) (DeniedInside network.topology)
entry_inside network stream =
    by (is_name_taken network stream.name) (is_beyond network stream)
  where
    by : (a b : Bool)
        → IfSome (cond a (Some NameTaken) (cond b (Some Limit) None)) (DeniedInside network.topology)
    by true b = tt
    by false true = tt
    by false false = tt

-- of the reason against the network with a stream that came in
with_inside : (network : DeclaredNetwork) (stream : DeclaredStream) (reason : Reason) → IsCertified network
    → MayEnter network stream → entry_fault network stream ≡ None
    → reason_with network stream ≡ Some reason → ReasonInside network.topology reason
with_inside network stream reason is may entry found =
    each_reason_is_inside (with_stream network stream) reason (entered network stream is.rules may entry) found

admit_inside : (network : DeclaredNetwork) (stream : DeclaredStream) → IsCertified network
    → MayEnter network stream
    → AnswerInside network.topology (admit_answer (first_class_of stream) (admit network stream))
admit_inside network stream is may =
    by (entry_fault network stream) refl (reason_with network stream) refl (entry_inside network stream)
  where
    by : (o : Option Denied) → entry_fault network stream ≡ o → (r : Option Reason) → reason_with network stream ≡ r
        → IfSome o (DeniedInside network.topology)
        → AnswerInside network.topology (admit_answer (first_class_of stream)
        (unless (λ (d : Denied). d) (option_or o (option_map Because r)) (sum_with network stream)))
    by (Some denied) e r f inside = inside
    by None e None f inside = tt
    by None e (Some reason) f inside = with_inside network stream reason is may e f

-- of the reasons with which a stream gets none of these classes
lowest_inside : (network : DeclaredNetwork) (stream : DeclaredStream) (classes : List ℕ) → IsCertified network
    → MayEnter network stream → entry_fault network stream ≡ None → All IsClass classes
    → IfErr (lowest_of network stream classes) (All (ReasonInside network.topology))
lowest_inside network stream [] is may entry all = All-nil (ReasonInside network.topology)
lowest_inside network stream (class ∷ classes) is may entry all =
    by (class_reason network stream class) refl (lowest_of network stream classes)
    (lowest_inside network stream classes is may entry (All-tail IsClass class classes all))
  where
    by : (o : Option Reason) → class_reason network stream class ≡ o → (r : Result ℕ (List Reason))
        → IfErr r (All (ReasonInside network.topology))
        → IfErr (first_class class o r) (All (ReasonInside network.topology))
    by None e r rest = tt
    by (Some reason) e (Ok other) rest = tt
    by (Some reason) e (Err reasons) rest =
        All-cons (ReasonInside network.topology) reason reasons
        (with_inside network (with_class stream class) reason is
        (enters_with network stream class may (All-head IsClass class classes all)) entry e) rest

least_inside : (network : DeclaredNetwork) (stream : DeclaredStream) → IsCertified network
    → MayEnter network stream → AnswerInside network.topology (lowest_answer (admit_lowest network stream))
least_inside network stream is may =
    by (entry_fault network stream) refl (lowest_of network stream stream_classes) refl (entry_inside network stream)
  where
    by : (o : Option Denied) → entry_fault network stream ≡ o → (r : Result ℕ (List Reason))
        → lowest_of network stream stream_classes ≡ r → IfSome o (DeniedInside network.topology)
        → AnswerInside network.topology (lowest_answer (sum_given network stream (class_given o r)))
    by (Some denied) e r f inside = inside
    by None e (Ok class) f inside = tt
    by None e (Err reasons) f inside =
        subst (λ (r : Result ℕ (List Reason)). IfErr r (All (ReasonInside network.topology))) f
        (lowest_inside network stream stream_classes is may e are_classes)

withdraw_inside : (network : DeclaredNetwork) (name : List ℕ)
    → AnswerInside network.topology (withdraw_answer (withdraw_fault network name))
withdraw_inside network name = by (is_some (stream_named network.streams name))
  where
    by : (b : Bool) → AnswerInside network.topology (withdraw_answer (cond b None (Some NameUnknown)))
    by true = tt
    by false = tt

-- of the answer to a request
pub answer_inside : (network : DeclaredNetwork) (request : Request) → IsCertified network
    → MayAsk network request → AnswerInside network.topology (answer network request)
answer_inside network (Admit stream) is may = admit_inside network stream is may
answer_inside network (Lowest stream) is may = least_inside network stream is may
answer_inside network (Withdraw name) is may = withdraw_inside network name

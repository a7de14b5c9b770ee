use Rattle.std.proofs.Common.{◌≡◌, ℕ, List, Option, Result, Ok, Err, refl, sym, ap, ◌∙◌}
use Rattle.std.specs.Prelude.{IsErr}
use Rattle.ats_command_input.specs.Command.{Command, Shape, Show, Bound, Explain, Check, Replay, Unknown, command_of}
use Rattle.ats_command_input.specs.Command.{Capture, Conform, Admit, Generate, Settings}
use Rattle.ats_command_input.specs.Command.{Buffers, Peaks}
use Rattle.ats_command_input.specs.Command.{LrqShape, LrqBound, LrqCheck}
use Rattle.ats_command_input.specs.Command.{Record, Witness, Releases, Fit}
use Rattle.ats_command_input.specs.Answer.{Answer, words_answer}
use Rattle.ats_command_input.specs.Input.{network_in}
use Rattle.ats_command_due.specs.Due.{IsDueAnswer, IsTold, told_bytes}
use Rattle.ats_command_due.specs.Due.{admit_answer, bound_answer, check_answer, explain_answer, shape_answer}
use Rattle.ats_command_due.specs.Due.{buffers_answer, releases_answer, show_answer}
use Rattle.ats_command_due.specs.Due.{lrq_bound_answer, lrq_check_answer, lrq_shape_answer}
use Rattle.ats_command_due.specs.Held.{IsHeldText, held_in}
use Rattle.ats_fit.specs.Laws.{LeastBurstExists, MeasuredIsOne}
use Rattle.ats_command_law.specs.Laws.{HasOneAnswer, OneAnswerIsDue, OneStatusIsDue}
use Rattle.ats_command_due.specs.Captured.{IsCaptured, captured_in}
use Rattle.ats_command_due.specs.Fitted.{IsFitted}
use Rattle.ats_command_due.specs.Generated.{IsGenerated, generated_in}
use Rattle.ats_command_due.specs.Recorded.{IsRecorded, recorded_in}
use Rattle.ats_command_due.specs.Replayed.{IsOneOf, IsReplayed, scheduled_in}
use Rattle.ats_command_due.specs.Witnessed.{IsWitnessed, witnessed_in}
use Rattle.ats_command_law.proofs.OneFit.{one_fit}
use Rattle.ats_command_law.proofs.OneJudgement.{one_judgement, same_judgement}
use Rattle.ats_command_law.proofs.OneText.{one_text, same_text}
use Rattle.ats_command_law.proofs.Scheduled.{scheduled_may}

-- where none of the texts is due, just one answer is
one_without_texts : {A : Type 0} (Text : A → List ℕ → Type 0) (due : Result A Answer) → IsErr due
    → (answer : Answer) × (IsOneOf Text due answer) × ((other : Answer) → IsOneOf Text due other → other ≡ answer)
one_without_texts Text (Ok value) h = cc
one_without_texts Text (Err answer) h = (answer, refl, λ other is. is)

-- the answers that are due have one status
one_status : {A : Type 0} (Text : A → List ℕ → Type 0) (due : Result A Answer) (one other : Answer)
    → IsOneOf Text due one → IsOneOf Text due other → one.status ≡ other.status
one_status Text (Ok value) one other h k = h.0 ∙ sym k.0
one_status Text (Err answer) one other h k = ap (λ (a : Answer). a.status) (h ∙ sym k)

-- just one answer is due to a command
only_due : LeastBurstExists → MeasuredIsOne → (told : List ℕ → Option (List ℕ)) (command : Command)
    → IsTold told command → HasOneAnswer told command → (answer : Answer) × (IsDueAnswer told command answer)
    × ((other : Answer) → IsDueAnswer told command other → other ≡ answer)
only_due has_burst is_one told (Shape file) is_told one =
    (shape_answer file (told_bytes told file), record { is_told = is_told; answers = refl }, λ other due. due.answers)
only_due has_burst is_one told (Show net) is_told one =
    (show_answer net (told_bytes told net), record { is_told = is_told; answers = refl }, λ other due. due.answers)
only_due has_burst is_one told (Bound net) is_told one =
    (bound_answer net (told_bytes told net), record { is_told = is_told; answers = refl }, λ other due. due.answers)
only_due has_burst is_one told (Explain net) is_told one =
    (explain_answer net (told_bytes told net), record { is_told = is_told; answers = refl }, λ other due. due.answers)
only_due has_burst is_one told (Settings net) is_told one =
    let alone = one_text (network_in net (told_bytes told net)) in
    (alone.0, record { is_told = is_told; answers = alone.1 }, λ other due. alone.2 other due.answers)
only_due has_burst is_one told (Check net certificate) is_told one = (
  check_answer net certificate (told_bytes told net) (told_bytes told certificate),
  record { is_told = is_told; answers = refl },
  λ other due. due.answers,
)
only_due has_burst is_one told (Buffers net certificate) is_told one = (
  buffers_answer net certificate (told_bytes told net) (told_bytes told certificate),
  record { is_told = is_told; answers = refl },
  λ other due. due.answers,
)
only_due has_burst is_one told (Conform net schedule) is_told one =
    let alone = one_judgement (scheduled_in net schedule (told_bytes told net) (told_bytes told schedule))
    (scheduled_may net schedule (told_bytes told net) (told_bytes told schedule)) in
    (alone.0, record { is_told = is_told; answers = alone.1 }, λ other due. alone.2 other due.answers)
only_due has_burst is_one told (Admit net requests) is_told one = (
  admit_answer net requests (told_bytes told net) (told_bytes told requests),
  record { is_told = is_told; answers = refl },
  λ other due. due.answers,
)
only_due has_burst is_one told (Replay net schedule order) is_told one =
    let alone = one_without_texts (IsReplayed order)
    (scheduled_in net schedule (told_bytes told net) (told_bytes told schedule)) one in
    (alone.0, record { is_told = is_told; answers = alone.1 }, λ other due. alone.2 other due.answers)
only_due has_burst is_one told (Capture net station file order) is_told one =
    let alone = one_without_texts (IsCaptured order)
    (captured_in net station file (told_bytes told net) (told_bytes told file)) one in
    (alone.0, record { is_told = is_told; answers = alone.1 }, λ other due. alone.2 other due.answers)
only_due has_burst is_one told (Generate net seed count) is_told one =
    let alone = one_without_texts (IsGenerated seed count) (generated_in net seed count (told_bytes told net)) one in
    (alone.0, record { is_told = is_told; answers = alone.1 }, λ other due. alone.2 other due.answers)
only_due has_burst is_one told (Peaks net certificate schedule order) is_told one =
    let alone = one_without_texts (IsHeldText order)
    (held_in net certificate schedule (told_bytes told net) (told_bytes told certificate) (told_bytes told schedule))
    one in
    (alone.0, record { is_told = is_told; answers = alone.1 }, λ other due. alone.2 other due.answers)
only_due has_burst is_one told (LrqShape file) is_told one = (
  lrq_shape_answer file (told_bytes told file),
  record { is_told = is_told; answers = refl },
  λ other due.
      due.answers,
)
only_due has_burst is_one told (LrqBound net) is_told one =
    (lrq_bound_answer net (told_bytes told net), record { is_told = is_told; answers = refl }, λ other due. due.answers)
only_due has_burst is_one told (LrqCheck net certificate) is_told one = (
  lrq_check_answer net certificate (told_bytes told net) (told_bytes told certificate),
  record { is_told = is_told; answers = refl },
  λ other due. due.answers,
)
only_due has_burst is_one told (Record net schedule order port) is_told one =
    let alone = one_without_texts (IsRecorded order)
    (recorded_in net schedule port (told_bytes told net) (told_bytes told schedule)) one in
    (alone.0, record { is_told = is_told; answers = alone.1 }, λ other due. alone.2 other due.answers)
only_due has_burst is_one told (Witness net name) is_told one =
    let alone = one_without_texts IsWitnessed (witnessed_in net name (told_bytes told net)) one in
    (alone.0, record { is_told = is_told; answers = alone.1 }, λ other due. alone.2 other due.answers)
only_due has_burst is_one told (Releases net station file) is_told one = (
  releases_answer net station file (told_bytes told net) (told_bytes told file),
  record { is_told = is_told; answers = refl },
  λ other due. due.answers,
)
only_due has_burst is_one told (Fit net schedule) is_told one =
    let alone = one_fit has_burst is_one (scheduled_in net schedule (told_bytes told net) (told_bytes told schedule))
    (scheduled_may net schedule (told_bytes told net) (told_bytes told schedule)) in
    (alone.0, record { is_told = is_told; answers = alone.1 }, λ other due. alone.2 other due.answers)
only_due has_burst is_one told Unknown is_told one =
    (words_answer, record { is_told = is_told; answers = refl }, λ other due. due.answers)

pub one_answer : LeastBurstExists → MeasuredIsOne → OneAnswerIsDue
one_answer has_burst is_one told words is_told one =
    let d = only_due has_burst is_one told (command_of words) is_told one in
    (d.0, record { due = d.1; only = d.2 })

-- equal answers have one status
same_status : (one other due : Answer) → one ≡ due → other ≡ due → one.status ≡ other.status
same_status one other due h k = ap (λ (a : Answer). a.status) (h ∙ sym k)

same_due : (told : List ℕ → Option (List ℕ)) (command : Command) (one other : Answer) → IsDueAnswer told command one
    → IsDueAnswer told command other → one.status ≡ other.status
same_due told (Shape file) one other h k =
    same_status one other (shape_answer file (told_bytes told file)) h.answers k.answers
same_due told (Show net) one other h k =
    same_status one other (show_answer net (told_bytes told net)) h.answers k.answers
same_due told (Bound net) one other h k =
    same_status one other (bound_answer net (told_bytes told net)) h.answers k.answers
same_due told (Explain net) one other h k =
    same_status one other (explain_answer net (told_bytes told net)) h.answers k.answers
same_due told (Settings net) one other h k =
    ap (λ (a : Answer). a.status) (same_text (network_in net (told_bytes told net)) one other h.answers k.answers)
same_due told (Check net certificate) one other h k =
    same_status one other (check_answer net certificate (told_bytes told net) (told_bytes told certificate)) h.answers
    k.answers
same_due told (Buffers net certificate) one other h k =
    same_status one other (buffers_answer net certificate (told_bytes told net) (told_bytes told certificate)) h.answers
    k.answers
same_due told (Conform net schedule) one other h k =
    ap (λ (a : Answer). a.status)
    (same_judgement (scheduled_in net schedule (told_bytes told net) (told_bytes told schedule)) one other h.answers
    k.answers)
same_due told (Admit net requests) one other h k =
    same_status one other (admit_answer net requests (told_bytes told net) (told_bytes told requests)) h.answers
    k.answers
same_due told (Replay net schedule order) one other h k =
    one_status (IsReplayed order) (scheduled_in net schedule (told_bytes told net) (told_bytes told schedule)) one other
    h.answers k.answers
same_due told (Capture net station file order) one other h k =
    one_status (IsCaptured order) (captured_in net station file (told_bytes told net) (told_bytes told file)) one other
    h.answers k.answers
same_due told (Generate net seed count) one other h k =
    one_status (IsGenerated seed count) (generated_in net seed count (told_bytes told net)) one other h.answers
    k.answers
same_due told (Peaks net certificate schedule order) one other h k =
    one_status (IsHeldText order)
    (held_in net certificate schedule (told_bytes told net) (told_bytes told certificate) (told_bytes told schedule))
    one other h.answers k.answers
same_due told (LrqShape file) one other h k =
    same_status one other (lrq_shape_answer file (told_bytes told file)) h.answers k.answers
same_due told (LrqBound net) one other h k =
    same_status one other (lrq_bound_answer net (told_bytes told net)) h.answers k.answers
same_due told (LrqCheck net certificate) one other h k =
    same_status one other (lrq_check_answer net certificate (told_bytes told net) (told_bytes told certificate))
    h.answers k.answers
same_due told (Record net schedule order port) one other h k =
    one_status (IsRecorded order) (recorded_in net schedule port (told_bytes told net) (told_bytes told schedule)) one
    other h.answers k.answers
same_due told (Witness net name) one other h k =
    one_status IsWitnessed (witnessed_in net name (told_bytes told net)) one other h.answers k.answers
same_due told (Releases net station file) one other h k =
    same_status one other (releases_answer net station file (told_bytes told net) (told_bytes told file)) h.answers
    k.answers
same_due told (Fit net schedule) one other h k =
    one_status IsFitted (scheduled_in net schedule (told_bytes told net) (told_bytes told schedule)) one other h.answers
    k.answers
same_due told Unknown one other h k = same_status one other words_answer h.answers k.answers

pub one_status_due : OneStatusIsDue
one_status_due told words one other = same_due told (command_of words) one other

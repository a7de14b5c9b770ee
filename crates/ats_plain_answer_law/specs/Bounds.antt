use Rattle.std.specs.Prelude.{◌≡◌, ℕ, List, Some, None, Ok, Err}
use Rattle.ats_network.specs.Network.{DeclaredNetwork}
use Rattle.ats_network_text.specs.Text.{show_text}
use Rattle.ats_shape.specs.Shape.{DeclaredShape}
use Rattle.ats_shape.specs.Text.{text_of}
use Rattle.ats_lrq.specs.Narrow.{narrowed}
use Rattle.ats_lrq_shape.specs.Verdicts.{lrq_text_of}
use Rattle.ats_certificate.specs.Used.{places_of}
use Rattle.ats_certificate.specs.declared.row.Row.{Row}
use Rattle.ats_certificate_file.specs.Text.{certificate_text}
use Rattle.ats_tally.specs.Reason.{first_some}
use Rattle.ats_tally.specs.declared.reason.Reason.{Reason}
use Rattle.ats_bound.specs.Least.{least_certificate}
use Rattle.ats_bound.specs.Reason.{overload, reason_of}
use Rattle.ats_checker.specs.Refusal.{refusal_of}
use Rattle.ats_checker.specs.declared.refusal.Refusal.{Refusal}
use Rattle.ats_buffer.specs.Buffer.{buffers_of}
use Rattle.ats_buffer_text.specs.Text.{buffers_text}
use Rattle.ats_verdict_text.specs.Text.{accepted_text, reason_text, refusal_text}
use Rattle.ats_explain_text.specs.Text.{explain_text}
use Rattle.ats_requests.specs.declared.request.Request.{Request}
use Rattle.ats_admission_text.specs.Text.{admission_text}
use Rattle.ats_command_input.specs.Answer.{Answer}
use Rattle.ats_command_input.specs.Input.{network_in, requests_in, rows_in, shape_in}
use Rattle.ats_command_due.specs.Due.{admit_answer, bound_answer, buffers_answer, check_answer, explain_answer}
use Rattle.ats_command_due.specs.Due.{lrq_bound_answer, lrq_check_answer, lrq_shape_answer, shape_answer, show_answer}
use Rattle.ats_plain_answer_law.specs.Lines.{done_with, refused_for}

-- The answer to each command of which one text is due, case by case. A file that is not taken has its own line, the
-- network's before that of the other; of what is taken either something stands against it, or the command is done.

-- `shape FILE` and `lrq shape FILE`: the verdicts of the one regulator and of the other
pub record ShapeIsAnswered : Type 0 where
  pub not_taken : (file bytes : List ℕ) (due : Answer) → shape_in file bytes ≡ Err due → shape_answer file bytes ≡ due
  pub done : (file bytes : List ℕ) (shape : DeclaredShape) → shape_in file bytes ≡ Ok shape
      → shape_answer file bytes ≡ done_with (text_of shape)
  pub lrq_not_taken : (file bytes : List ℕ) (due : Answer) → shape_in file bytes ≡ Err due
      → lrq_shape_answer file bytes ≡ due
  pub lrq_done : (file bytes : List ℕ) (shape : DeclaredShape) → shape_in file bytes ≡ Ok shape
      → lrq_shape_answer file bytes ≡ done_with (lrq_text_of shape)

-- `show NET`: a network that is taken is shown, whatever its bounds
pub record ShowIsAnswered : Type 0 where
  pub not_taken : (net bytes : List ℕ) (due : Answer) → network_in net bytes ≡ Err due → show_answer net bytes ≡ due
  pub done : (net bytes : List ℕ) (network : DeclaredNetwork) → network_in net bytes ≡ Ok network
      → show_answer net bytes ≡ done_with (show_text network)

-- `bound NET`: the least certificate, or the first reason why none holds
pub record BoundIsAnswered : Type 0 where
  pub not_taken : (net bytes : List ℕ) (due : Answer) → network_in net bytes ≡ Err due → bound_answer net bytes ≡ due
  pub refused : (net bytes : List ℕ) (network : DeclaredNetwork) (reason : Reason) → network_in net bytes ≡ Ok network
      → reason_of network ≡ Some reason
      → bound_answer net bytes ≡ refused_for (reason_text network.topology reason)
  pub done : (net bytes : List ℕ) (network : DeclaredNetwork) → network_in net bytes ≡ Ok network
      → reason_of network ≡ None
      → bound_answer net bytes ≡ done_with (certificate_text network.topology (least_certificate network))

-- `lrq bound NET`: the same of the network whose streams have their longest frames as bursts
pub record LrqBoundIsAnswered : Type 0 where
  pub not_taken : (net bytes : List ℕ) (due : Answer) → network_in net bytes ≡ Err due
      → lrq_bound_answer net bytes ≡ due
  pub refused : (net bytes : List ℕ) (network : DeclaredNetwork) (reason : Reason) → network_in net bytes ≡ Ok network
      → reason_of (narrowed network) ≡ Some reason
      → lrq_bound_answer net bytes ≡ refused_for (reason_text network.topology reason)
  pub done : (net bytes : List ℕ) (network : DeclaredNetwork) → network_in net bytes ≡ Ok network
      → reason_of (narrowed network) ≡ None
      → lrq_bound_answer net bytes
      ≡ done_with (certificate_text network.topology (least_certificate (narrowed network)))

-- `explain NET`: refused for an overloaded port and class alone; late streams are explained
pub record ExplainIsAnswered : Type 0 where
  pub not_taken : (net bytes : List ℕ) (due : Answer) → network_in net bytes ≡ Err due
      → explain_answer net bytes ≡ due
  pub refused : (net bytes : List ℕ) (network : DeclaredNetwork) (reason : Reason) → network_in net bytes ≡ Ok network
      → first_some (overload network) (places_of network) ≡ Some reason
      → explain_answer net bytes ≡ refused_for (reason_text network.topology reason)
  pub done : (net bytes : List ℕ) (network : DeclaredNetwork) → network_in net bytes ≡ Ok network
      → first_some (overload network) (places_of network) ≡ None
      → explain_answer net bytes ≡ done_with (explain_text network)

-- `check NET CERT`: the sums by the rows, or the first refusal of them
pub record CheckIsAnswered : Type 0 where
  pub not_taken : (net certificate net_bytes certificate_bytes : List ℕ) (due : Answer)
      → network_in net net_bytes ≡ Err due
      → check_answer net certificate net_bytes certificate_bytes ≡ due
  pub no_rows : (net certificate net_bytes certificate_bytes : List ℕ) (network : DeclaredNetwork) (due : Answer)
      → network_in net net_bytes ≡ Ok network → rows_in network.topology certificate certificate_bytes ≡ Err due
      → check_answer net certificate net_bytes certificate_bytes ≡ due
  pub refused : (net certificate net_bytes certificate_bytes : List ℕ) (network : DeclaredNetwork) (rows : List Row)
      (refusal : Refusal) → network_in net net_bytes ≡ Ok network
      → rows_in network.topology certificate certificate_bytes ≡ Ok rows → refusal_of network rows ≡ Some refusal
      → check_answer net certificate net_bytes certificate_bytes ≡ refused_for (refusal_text network.topology refusal)
  pub done : (net certificate net_bytes certificate_bytes : List ℕ) (network : DeclaredNetwork) (rows : List Row)
      → network_in net net_bytes ≡ Ok network
      → rows_in network.topology certificate certificate_bytes ≡ Ok rows → refusal_of network rows ≡ None
      → check_answer net certificate net_bytes certificate_bytes ≡ done_with (accepted_text network rows)

-- `lrq check NET CERT`: the same of the network whose streams have their longest frames as bursts
pub record LrqCheckIsAnswered : Type 0 where
  pub not_taken : (net certificate net_bytes certificate_bytes : List ℕ) (due : Answer)
      → network_in net net_bytes ≡ Err due
      → lrq_check_answer net certificate net_bytes certificate_bytes ≡ due
  pub no_rows : (net certificate net_bytes certificate_bytes : List ℕ) (network : DeclaredNetwork) (due : Answer)
      → network_in net net_bytes ≡ Ok network → rows_in network.topology certificate certificate_bytes ≡ Err due
      → lrq_check_answer net certificate net_bytes certificate_bytes ≡ due
  pub refused : (net certificate net_bytes certificate_bytes : List ℕ) (network : DeclaredNetwork) (rows : List Row)
      (refusal : Refusal) → network_in net net_bytes ≡ Ok network
      → rows_in network.topology certificate certificate_bytes ≡ Ok rows
      → refusal_of (narrowed network) rows ≡ Some refusal
      → lrq_check_answer net certificate net_bytes certificate_bytes
      ≡ refused_for (refusal_text network.topology refusal)
  pub done : (net certificate net_bytes certificate_bytes : List ℕ) (network : DeclaredNetwork) (rows : List Row)
      → network_in net net_bytes ≡ Ok network
      → rows_in network.topology certificate certificate_bytes ≡ Ok rows → refusal_of (narrowed network) rows ≡ None
      → lrq_check_answer net certificate net_bytes certificate_bytes
      ≡ done_with (accepted_text (narrowed network) rows)

-- `buffers NET CERT`: the buffers of the rows, without peaks, or the first refusal of them
pub record BuffersAreAnswered : Type 0 where
  pub not_taken : (net certificate net_bytes certificate_bytes : List ℕ) (due : Answer)
      → network_in net net_bytes ≡ Err due
      → buffers_answer net certificate net_bytes certificate_bytes ≡ due
  pub no_rows : (net certificate net_bytes certificate_bytes : List ℕ) (network : DeclaredNetwork) (due : Answer)
      → network_in net net_bytes ≡ Ok network → rows_in network.topology certificate certificate_bytes ≡ Err due
      → buffers_answer net certificate net_bytes certificate_bytes ≡ due
  pub refused : (net certificate net_bytes certificate_bytes : List ℕ) (network : DeclaredNetwork) (rows : List Row)
      (refusal : Refusal) → network_in net net_bytes ≡ Ok network
      → rows_in network.topology certificate certificate_bytes ≡ Ok rows → refusal_of network rows ≡ Some refusal
      → buffers_answer net certificate net_bytes certificate_bytes
      ≡ refused_for (refusal_text network.topology refusal)
  pub done : (net certificate net_bytes certificate_bytes : List ℕ) (network : DeclaredNetwork) (rows : List Row)
      → network_in net net_bytes ≡ Ok network
      → rows_in network.topology certificate certificate_bytes ≡ Ok rows → refusal_of network rows ≡ None
      → buffers_answer net certificate net_bytes certificate_bytes
      ≡ done_with (buffers_text network.topology rows (buffers_of network rows) None)

-- `admit NET REQUESTS`: the answers to the requests, which are read before the network is judged
pub record AdmitIsAnswered : Type 0 where
  pub not_taken : (net requests net_bytes requests_bytes : List ℕ) (due : Answer)
      → network_in net net_bytes ≡ Err due
      → admit_answer net requests net_bytes requests_bytes ≡ due
  pub no_requests : (net requests net_bytes requests_bytes : List ℕ) (network : DeclaredNetwork) (due : Answer)
      → network_in net net_bytes ≡ Ok network → requests_in network requests requests_bytes ≡ Err due
      → admit_answer net requests net_bytes requests_bytes ≡ due
  pub refused : (net requests net_bytes requests_bytes : List ℕ) (network : DeclaredNetwork) (asked : List Request)
      (reason : Reason) → network_in net net_bytes ≡ Ok network
      → requests_in network requests requests_bytes ≡ Ok asked → reason_of network ≡ Some reason
      → admit_answer net requests net_bytes requests_bytes ≡ refused_for (reason_text network.topology reason)
  pub done : (net requests net_bytes requests_bytes : List ℕ) (network : DeclaredNetwork) (asked : List Request)
      → network_in net net_bytes ≡ Ok network → requests_in network requests requests_bytes ≡ Ok asked
      → reason_of network ≡ None
      → admit_answer net requests net_bytes requests_bytes ≡ done_with (admission_text network asked)

pub record BoundsAreAnswered : Type 0 where
  pub shape : ShapeIsAnswered
  pub show : ShowIsAnswered
  pub bound : BoundIsAnswered
  pub lrq_bound : LrqBoundIsAnswered
  pub explain : ExplainIsAnswered
  pub check : CheckIsAnswered
  pub lrq_check : LrqCheckIsAnswered
  pub buffers : BuffersAreAnswered
  pub admit : AdmitIsAnswered

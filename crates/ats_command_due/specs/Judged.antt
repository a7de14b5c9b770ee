use Rattle.std.specs.Prelude.{ℕ, List, Option, Some, None, Result, Ok, Err}
use Rattle.std.specs.Option.{option_map}
use Rattle.ats_network.specs.Network.{DeclaredNetwork}
use Rattle.ats_certificate.specs.declared.row.Row.{Row}
use Rattle.ats_certificate_file.specs.Text.{certificate_text}
use Rattle.ats_bound.specs.Least.{least_certificate}
use Rattle.ats_bound.specs.Reason.{overload, reason_of}
use Rattle.ats_buffer.specs.Buffer.{buffers_of}
use Rattle.ats_buffer_text.specs.Text.{buffers_text}
use Rattle.ats_certificate.specs.Used.{places_of}
use Rattle.ats_tally.specs.Reason.{first_some}
use Rattle.ats_explain_text.specs.Text.{explain_text}
use Rattle.ats_command_input.specs.Request.{Request}
use Rattle.ats_admission_text.specs.Text.{admission_text}
use Rattle.ats_verdict_text.specs.Refusal.{refusal_of}
use Rattle.ats_verdict_text.specs.Text.{accepted_text, reason_text, refusal_text, refused_text}
use Rattle.ats_num.specs.Failure.{◌>>=◌}
use Rattle.ats_command_input.specs.Answer.{Answer}
use Rattle.ats_command_input.specs.Input.{requests_in, rows_in}
use Rattle.ats_command_input.specs.declared.status.Status.TheVariants.{Refused}

-- a value, as a text, unless something is refused
abbrev pub judged : {A : Type 0} → A → Option (List ℕ) → Result A Answer
judged value None = Ok value
judged value (Some why) = Err (record { status = Refused; text = refused_text why })

-- the certificate with the least waits, unless no certificate of the network holds
unfoldable pub bound_judged : DeclaredNetwork → Result (List ℕ) Answer
bound_judged network = judged (certificate_text network.topology (least_certificate network))
    (option_map (reason_text network.topology) (reason_of network))

-- why the least bounds are as large as they are, unless a port and class is overloaded
unfoldable pub explain_judged : DeclaredNetwork → Result (List ℕ) Answer
explain_judged network = judged (explain_text network)
    (option_map (reason_text network.topology) (first_some (overload network) (places_of network)))

-- a value that a certificate gives, unless it does not hold
abbrev pub unless_refused : {A : Type 0} → DeclaredNetwork → List Row → A → Result A Answer
unless_refused network rows value =
    judged value (option_map (refusal_text network.topology) (refusal_of network rows))

-- the bounds and sums of the streams, unless the certificate does not hold
unfoldable pub check_judged : DeclaredNetwork → List Row → Result (List ℕ) Answer
check_judged network rows = unless_refused network rows (accepted_text network rows)

-- the same of the rows that a file of these bytes declares, unless it has a fault
abbrev pub certificate_judged : DeclaredNetwork → List ℕ → List ℕ → Result (List ℕ) Answer
certificate_judged network certificate bytes = do
  rows ← rows_in network.topology certificate bytes
  check_judged network rows

-- the buffers of the rows, unless the certificate does not hold
unfoldable pub buffers_judged : DeclaredNetwork → List Row → Result (List ℕ) Answer
buffers_judged network rows =
    unless_refused network rows (buffers_text network.topology rows (buffers_of network rows) None)

-- the same of the rows that a file of these bytes declares, unless it has a fault
abbrev pub rows_judged : DeclaredNetwork → List ℕ → List ℕ → Result (List ℕ) Answer
rows_judged network certificate bytes = do
  rows ← rows_in network.topology certificate bytes
  buffers_judged network rows

-- the answers to requests, one after the other, unless no certificate of the network holds
unfoldable pub admission_judged : DeclaredNetwork → List Request → Result (List ℕ) Answer
admission_judged network asked =
    judged (admission_text network asked) (option_map (reason_text network.topology) (reason_of network))

-- the same of the requests that a file of these bytes makes, unless it has a fault
abbrev pub requests_judged : DeclaredNetwork → List ℕ → List ℕ → Result (List ℕ) Answer
requests_judged network requests bytes = do
  asked ← requests_in network requests bytes
  admission_judged network asked

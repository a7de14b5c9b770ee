use Rattle.std.proofs.Common.{ℕ, List, ap, ◌∙◌}
use Rattle.std.specs.Prelude.{None, Ok, Result}
use Rattle.ats_network.specs.Network.{DeclaredNetwork}
use Rattle.ats_network_text.specs.Text.{show_text}
use Rattle.ats_shape.specs.Shape.{DeclaredShape}
use Rattle.ats_shape.specs.Text.{text_of}
use Rattle.ats_lrq.specs.Narrow.{narrowed}
use Rattle.ats_lrq_shape.specs.Verdicts.{lrq_text_of}
use Rattle.ats_certificate.specs.declared.row.Row.{Row}
use Rattle.ats_certificate_file.specs.Text.{certificate_text}
use Rattle.ats_bound.specs.Least.{least_certificate}
use Rattle.ats_buffer.specs.Buffer.{buffers_of}
use Rattle.ats_buffer_text.specs.Text.{buffers_text}
use Rattle.ats_verdict_text.specs.Text.{accepted_text, reason_text, refusal_text}
use Rattle.ats_explain_text.specs.Text.{explain_text}
use Rattle.ats_admission_text.specs.Text.{admission_text}
use Rattle.ats_command_input.specs.Answer.{Answer}
use Rattle.ats_command_due.specs.Due.{admit_answer, bound_answer, buffers_answer, check_answer, explain_answer}
use Rattle.ats_command_due.specs.Due.{lrq_bound_answer, lrq_check_answer, lrq_shape_answer, shape_answer, show_answer}
use Rattle.ats_command_due.specs.Judged.{admission_judged, bound_judged, buffers_judged, certificate_judged}
use Rattle.ats_command_due.specs.Judged.{check_judged, explain_judged, requests_judged, rows_judged}
use Rattle.ats_plain_answer_law.specs.Bounds.{AdmitIsAnswered, BoundIsAnswered, BoundsAreAnswered, BuffersAreAnswered}
use Rattle.ats_plain_answer_law.specs.Bounds.{CheckIsAnswered, ExplainIsAnswered, LrqBoundIsAnswered}
use Rattle.ats_plain_answer_law.specs.Bounds.{LrqCheckIsAnswered, ShapeIsAnswered, ShowIsAnswered}
use Rattle.ats_plain_answer_law.proofs.Stepping.{by_value, weighed}

-- The answer to each command of which one text is due.

abbrev shown : DeclaredShape → Result (List ℕ) Answer
shown shape = Ok (text_of shape)

abbrev lrq_shown : DeclaredShape → Result (List ℕ) Answer
lrq_shown shape = Ok (lrq_text_of shape)

shape : ShapeIsAnswered
unfolding shape_answer lrq_shape_answer
shape = record {
  not_taken = λ file bytes due is. ap (by_value shown) is;
  done = λ file bytes found is. ap (by_value shown) is;
  lrq_not_taken = λ file bytes due is. ap (by_value lrq_shown) is;
  lrq_done = λ file bytes found is. ap (by_value lrq_shown) is;
}

abbrev drawn : DeclaredNetwork → Result (List ℕ) Answer
drawn network = Ok (show_text network)

show : ShowIsAnswered
unfolding show_answer
show = record {
  not_taken = λ net bytes due is. ap (by_value drawn) is;
  done = λ net bytes network is. ap (by_value drawn) is;
}

bound : BoundIsAnswered
unfolding bound_answer bound_judged
bound = record {
  not_taken = λ net bytes due is. ap (by_value bound_judged) is;
  refused = λ net bytes network reason is why. ap (by_value bound_judged) is
      ∙ ap (weighed (reason_text network.topology) (certificate_text network.topology (least_certificate network))) why;
  done = λ net bytes network is why. ap (by_value bound_judged) is
      ∙ ap (weighed (reason_text network.topology) (certificate_text network.topology (least_certificate network))) why;
}

abbrev narrow_bound : DeclaredNetwork → Result (List ℕ) Answer
narrow_bound network = bound_judged (narrowed network)

lrq_bound : LrqBoundIsAnswered
unfolding lrq_bound_answer bound_judged
lrq_bound = record {
  not_taken = λ net bytes due is. ap (by_value narrow_bound) is;
  refused = λ net bytes network reason is why. ap (by_value narrow_bound) is
      ∙ ap (weighed (reason_text network.topology)
      (certificate_text network.topology (least_certificate (narrowed network)))) why;
  done = λ net bytes network is why. ap (by_value narrow_bound) is
      ∙ ap (weighed (reason_text network.topology)
      (certificate_text network.topology (least_certificate (narrowed network)))) why;
}

explain : ExplainIsAnswered
unfolding explain_answer explain_judged
explain = record {
  not_taken = λ net bytes due is. ap (by_value explain_judged) is;
  refused = λ net bytes network reason is why. ap (by_value explain_judged) is
      ∙ ap (weighed (reason_text network.topology) (explain_text network)) why;
  done = λ net bytes network is why. ap (by_value explain_judged) is
      ∙ ap (weighed (reason_text network.topology) (explain_text network)) why;
}

-- a network, and then the rows of these bytes for it
abbrev checked : List ℕ → List ℕ → DeclaredNetwork → Result (List ℕ) Answer
checked certificate bytes network = certificate_judged network certificate bytes

check : CheckIsAnswered
unfolding check_answer check_judged
check = record {
  not_taken = λ net certificate net_bytes bytes due is. ap (by_value (checked certificate bytes)) is;
  no_rows = λ net certificate net_bytes bytes network due is none.
      ap (by_value (checked certificate bytes)) is ∙ ap (by_value (check_judged network)) none;
  refused = λ net certificate net_bytes bytes network rows refusal is are why.
      ap (by_value (checked certificate bytes)) is ∙ ap (by_value (check_judged network)) are
      ∙ ap (weighed (refusal_text network.topology) (accepted_text network rows)) why;
  done = λ net certificate net_bytes bytes network rows is are why.
      ap (by_value (checked certificate bytes)) is ∙ ap (by_value (check_judged network)) are
      ∙ ap (weighed (refusal_text network.topology) (accepted_text network rows)) why;
}

abbrev narrow_checked : List ℕ → List ℕ → DeclaredNetwork → Result (List ℕ) Answer
narrow_checked certificate bytes network = certificate_judged (narrowed network) certificate bytes

lrq_check : LrqCheckIsAnswered
unfolding lrq_check_answer check_judged
lrq_check = record {
  not_taken = λ net certificate net_bytes bytes due is. ap (by_value (narrow_checked certificate bytes)) is;
  no_rows = λ net certificate net_bytes bytes network due is none.
      ap (by_value (narrow_checked certificate bytes)) is ∙ ap (by_value (check_judged (narrowed network))) none;
  refused = λ net certificate net_bytes bytes network rows refusal is are why.
      ap (by_value (narrow_checked certificate bytes)) is ∙ ap (by_value (check_judged (narrowed network))) are
      ∙ ap (weighed (refusal_text network.topology) (accepted_text (narrowed network) rows)) why;
  done = λ net certificate net_bytes bytes network rows is are why.
      ap (by_value (narrow_checked certificate bytes)) is ∙ ap (by_value (check_judged (narrowed network))) are
      ∙ ap (weighed (refusal_text network.topology) (accepted_text (narrowed network) rows)) why;
}

abbrev held : List ℕ → List ℕ → DeclaredNetwork → Result (List ℕ) Answer
held certificate bytes network = rows_judged network certificate bytes

abbrev buffered : DeclaredNetwork → List Row → List ℕ
buffered network rows = buffers_text network.topology rows (buffers_of network rows) None

buffers : BuffersAreAnswered
unfolding buffers_answer buffers_judged
buffers = record {
  not_taken = λ net certificate net_bytes bytes due is. ap (by_value (held certificate bytes)) is;
  no_rows = λ net certificate net_bytes bytes network due is none.
      ap (by_value (held certificate bytes)) is ∙ ap (by_value (buffers_judged network)) none;
  refused = λ net certificate net_bytes bytes network rows refusal is are why.
      ap (by_value (held certificate bytes)) is ∙ ap (by_value (buffers_judged network)) are
      ∙ ap (weighed (refusal_text network.topology) (buffered network rows)) why;
  done = λ net certificate net_bytes bytes network rows is are why.
      ap (by_value (held certificate bytes)) is ∙ ap (by_value (buffers_judged network)) are
      ∙ ap (weighed (refusal_text network.topology) (buffered network rows)) why;
}

abbrev entered : List ℕ → List ℕ → DeclaredNetwork → Result (List ℕ) Answer
entered requests bytes network = requests_judged network requests bytes

admit : AdmitIsAnswered
unfolding admit_answer admission_judged
admit = record {
  not_taken = λ net requests net_bytes bytes due is. ap (by_value (entered requests bytes)) is;
  no_requests = λ net requests net_bytes bytes network due is none.
      ap (by_value (entered requests bytes)) is ∙ ap (by_value (admission_judged network)) none;
  refused = λ net requests net_bytes bytes network asked reason is are why.
      ap (by_value (entered requests bytes)) is ∙ ap (by_value (admission_judged network)) are
      ∙ ap (weighed (reason_text network.topology) (admission_text network asked)) why;
  done = λ net requests net_bytes bytes network asked is are why.
      ap (by_value (entered requests bytes)) is ∙ ap (by_value (admission_judged network)) are
      ∙ ap (weighed (reason_text network.topology) (admission_text network asked)) why;
}

pub bounds_are_answered : BoundsAreAnswered
bounds_are_answered = record {
  shape = shape;
  show = show;
  bound = bound;
  lrq_bound = lrq_bound;
  explain = explain;
  check = check;
  lrq_check = lrq_check;
  buffers = buffers;
  admit = admit;
}

use Rattle.std.proofs.Common.{Result, refl, sym, subst}
use Rattle.std.specs.Prelude.{All}
use Rattle.std.specs.Global.{Vec}
use Rattle.ats_requests.specs.Requests.{MayAsk}
use Rattle.ats_requests.specs.declared.request.Request.{Request}
use Rattle.ats_request_file.specs.Reading.{requests_of}
use Rattle.ats_request_file.specs.FaultText.{fault_text}
use Rattle.ats_command_input.specs.Input.{bytes_in, declared_in, requests_in}
use Rattle.ats_command_input.specs.Outcome.{Gives}
use Rattle.ats_command_input.specs.declared.outcome.Stop.{Stop}
use Rattle.ats_command_input.proofs.Steps.{reads_stopped, stops_all, err_is, declares, passes_seen, read_keeps}
use Rattle.ats_command_input.proofs.input_file.requests_in.Goals as goal

pub returns-in_err-bytes-clause-due : goal.returns-in_err-bytes-clause-due
unfolding requests_in
returns-in_err-bytes-clause-due g c = λ bytes told.
    subst (λ (r : Result (Vec Request) Stop).
    Gives (λ (requests : Vec Request). requests.items) r
    (requests_in c.args.network.now c.args.file.now bytes))
    (sym (err_is c.from_residual.result c.in_err-bytes.field-0.0 c.from_residual.ensures.1))
    (stops_all c.in_err-bytes.field-0.0 (bytes_in 16777216 c.args.file.now bytes)
    (λ text. declared_in c.args.file.now fault_text (requests_of c.args.network.now text))
    (c.in_err-bytes.ensures.due bytes told))

pub returns-clause-due : goal.returns-clause-due
unfolding requests_in
returns-clause-due g c = λ bytes told.
    declares (λ (requests : Vec Request). requests.items) c.declared.result 16777216 c.args.file.now bytes
    c.in_ok-bytes.bytes.items c.deref.result.now fault_text (requests_of c.args.network.now)
    (c.in_ok-bytes.ensures.due bytes told) c.deref.ensures.value
    (passes_seen (λ (requests : Vec Request). requests.items) _ c.args.file.now c.read_requests.result
    c.declared.result fault_text (requests_of c.args.network.now c.deref.result.now) c.declared.ensures.due
    c.declared.ensures.spent (λ fault. refl) c.read_requests.ensures.value)

pub returns-clause-allowed : goal.returns-clause-allowed
returns-clause-allowed g c =
    read_keeps (λ (requests : Vec Request). All (MayAsk c.args.network.now) requests.items)
    c.read_requests.result c.declared.result c.declared.ensures.same c.read_requests.ensures.allowed

pub returns-in_err-bytes-clause-reads : goal.returns-in_err-bytes-clause-reads
returns-in_err-bytes-clause-reads g c =
    reads_stopped c.in_err-bytes.field-0.0 c.from_residual.result c.in_err-bytes.ensures.reads c.from_residual.ensures.1

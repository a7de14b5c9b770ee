use Rattle.ats_request_file.proofs.Allowed.{may_enter}
use Rattle.ats_request_file.proofs.line.admit_line.Goals as goal

pub returns-in-None-clause-allowed : goal.returns-in-None-clause-allowed
returns-in-None-clause-allowed c =
    may_enter c.args.network.now c.topology.result.now c.in_ok-path.path.items c.most_ports.result
    c.in_ok-stream.stream c.topology.ensures.value c.most_ports.ensures.value c.in_ok-path.ensures.valid
    c.in_ok-stream.ensures.rules c.in_ok-stream.ensures.short

pub returns-in-Some-clause-allowed : goal.returns-in-Some-clause-allowed
returns-in-Some-clause-allowed c =
    may_enter c.args.network.now c.topology.result.now c.in_ok-path.path.items c.most_ports.result
    c.in_ok-stream.stream c.topology.ensures.value c.most_ports.ensures.value c.in_ok-path.ensures.valid
    c.in_ok-stream.ensures.rules c.in_ok-stream.ensures.short

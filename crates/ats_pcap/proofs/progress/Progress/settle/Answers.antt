use Rattle.std.proofs.Common.{◌≡◌, length, Some, None, Ok, ap, ◌∙◌, arith, rules}
use Rattle.std.proofs.lemmas.Grind.{common_steps}
use Rattle.ats_pcap.specs.Capture.{Position}
use Rattle.ats_pcap.specs.Seen.{seen}
use Rattle.ats_pcap.proofs.Settled.{fault_seen, settled_fault, settled_none}
use Rattle.ats_pcap.proofs.progress.Progress.settle.Goals as goal

pub returns-in-Some : goal.returns-in-Some
returns-in-Some c =
    let p : Position = seen c.args.self.now in
    let count : c.len.result ≡ length p.records = first_of (search rules, grind (arith, common_steps)) in
    settled_fault p c.in-Some.fault (fault_seen p c.bytes.result.now c.bytes-front.result.now c.of-form.result
    c.len.result (Some c.in-Some.fault) c.bytes.ensures.value c.of-form.ensures c.bytes-front.ensures.value
    count c.in-Some.ensures)

pub returns-in_ok-pass_whole-in-None : goal.returns-in_ok-pass_whole-in-None
returns-in_ok-pass_whole-in-None c =
    let p : Position = seen c.args.self.now in
    let count : c.len.result ≡ length p.records = first_of (search rules, grind (arith, common_steps)) in
    settled_none p (fault_seen p c.bytes.result.now c.bytes-front.result.now c.of-form.result
    c.len.result None c.bytes.ensures.value c.of-form.ensures c.bytes-front.ensures.value
    count c.in-None.ensures)
    ∙ ap Ok c.in_ok-pass_whole-in-None.ensures

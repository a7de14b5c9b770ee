use Rattle.std.proofs.Common.{ℕ, List, [], sym, ap, ◌∙◌}
use Rattle.ats_pcap.specs.Capture.{Position}
use Rattle.ats_pcap.specs.Seen.{seen}
use Rattle.ats_pcap.specs.declared.record.Record.{Record}
use Rattle.ats_pcap.proofs.Settled.{behind_open, behind_passed, whole_front}
use Rattle.ats_pcap.proofs.progress.Progress.pass_whole.Goals as goal

pub record_of-record-requires-clause-header : goal.record_of-record-requires-clause-header
record_of-record-requires-clause-header c =
    whole_front (seen c.args.self.now) c.bytes-front.result.now c.args.form c.bytes-front.ensures.value
    c.requires.end.front (sym c.if-is_whole.true ∙ c.is_whole.ensures)

pub returns-in_ok-push : goal.returns-in_ok-push
returns-in_ok-push c =
    let p : Position = seen c.args.self.now in
    let with : List Record → List ℕ → Position = λ records front.
    record { header = p.header; records = records; there = 0; front = front } in
    behind_passed p c.bytes-front.result.now c.args.form c.record_of-record.result c.requires.form
    c.bytes-front.ensures.value (sym c.if-is_whole.true ∙ c.is_whole.ensures) c.record_of-record.ensures
    ∙ ap (λ (records : List Record). with records []) (sym c.in_ok-push.ensures.items)
    ∙ ap (with c.push.new.self.items) (sym c.clear.ensures)

pub returns-else-is_whole : goal.returns-else-is_whole
returns-else-is_whole c =
    behind_open (seen c.args.self.now) c.bytes-front.result.now c.args.form c.requires.form
    c.bytes-front.ensures.value (sym c.if-is_whole.false ∙ c.is_whole.ensures)

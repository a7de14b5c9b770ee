use Rattle.std.proofs.Common.{◌≡◌, ◌∙◌, ℕ, List, sym, arith}
use Rattle.ats_facts.proofs.Bytes.{bytes_eq-true}
use Rattle.ats_schedule.proofs.Named.{named_same}
use Rattle.ats_schedule.proofs.recent.has_name.Goals as goal

pub returns-clause-named : goal.returns-clause-named
returns-clause-named c = λ same.
    let name : List ℕ = c.sender_name.result in
    let text : List ℕ = c.args.text.now in
    let equal : c.bytes.result.now ≡ text = bytes_eq-true c.bytes.result.now text (sym c.eq.ensures ∙ same) in
    named_same c.args.network.now c.senders.ensures.rules c.args.sender name text
    (omega (arith, c.if-sender-senders.false, c.senders.ensures.value)) c.sender_name.ensures.value
    c.bytes.ensures.valid (sym c.bytes.ensures.value ∙ equal)

use Rattle.std.proofs.Common.{length, sym, ◌∙◌}
use Rattle.std.proofs.lemmas.Bool.{ltb-true, ltb-false}
use Rattle.ats_network.proofs.NameLemmas.{none_first}
use Rattle.ats_admission.proofs.Named.{is_flow, is_stream}
use Rattle.ats_admission.proofs.entering.stream_named.Goals as goal

pub returns-in_err-number : goal.returns-in_err-number
returns-in_err-number c =
    c.from_residual.ensures ∙ sym (none_first c.args.name.now c.args.network.now (sym c.in_err-number.ensures.number))

pub returns-then-is_stream : goal.returns-then-is_stream
returns-then-is_stream c = sym (is_stream c.args.name.now c.args.network.now c.in_ok-number.number
    (sym c.in_ok-number.ensures.number)
    (ltb-true c.in_ok-number.number (length c.args.network.now.streams)
    (sym c.sender.ensures.kind ∙ sym c.is_stream.ensures ∙ c.if-is_stream.true)))

pub returns-else-is_stream : goal.returns-else-is_stream
returns-else-is_stream c = sym (is_flow c.args.name.now c.args.network.now c.in_ok-number.number
    (sym c.in_ok-number.ensures.number)
    (ltb-false c.in_ok-number.number (length c.args.network.now.streams)
    (sym c.sender.ensures.kind ∙ sym c.is_stream.ensures ∙ c.if-is_stream.false)))

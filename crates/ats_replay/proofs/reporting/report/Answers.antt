use Rattle.std.proofs.Common.{◌∙◌, ◌++◌, List, [], ap, arith}
use Rattle.std.specs.Option.{option_copied}
use Rattle.ats_replay.specs.Inside.{summary_at}
use Rattle.ats_replay.specs.Report.{sender_lines}
use Rattle.ats_replay.specs.declared.summary.Summary.{Summary}
use Rattle.ats_replay.proofs.Places.{first_found, firsts_long}
use Rattle.ats_replay.proofs.Reported.{next_lines, report_written}
use Rattle.ats_replay.proofs.reporting.report.Goals as goal

pub index-requires : goal.index-requires
index-requires g c =
    omega (
      arith,
      c.loop-sender-test.true,
      c.senders-sender-end.ensures.value,
      firsts_long c.args.network.now c.in_ok-firsts.firsts.items c.in_ok-firsts.ensures,
    )

pub write_sender-requires-clause-first : goal.write_sender-requires-clause-first
write_sender-requires-clause-first g c =
    c.index.ensures
    ∙ first_found c.args.network.now c.in_ok-firsts.firsts.items c.loop-sender.sender c.index.result.now
    c.in_ok-firsts.ensures (omega (arith, c.loop-sender-test.true, c.senders-sender-end.ensures.value))

pub loop-sender-preserved : goal.loop-sender-preserved
loop-sender-preserved g c =
    next_lines (sender_lines c.args.network.now (summary_at c.args.network.now c.in_ok-summaries.summaries.items)
    (option_copied c.args.sums)) c.loop-sender.sender [] c.loop-sender.out.items c.write_sender.new.out.items
    c.loop-sender.invariant
    (c.in_ok-write_sender.ensures ∙ ap (λ (list : List Summary). c.loop-sender.out.items
    ++ sender_lines c.args.network.now (summary_at c.args.network.now list) (option_copied c.args.sums)
    c.loop-sender.sender) c.deref-in-loop-sender.ensures.value)

pub returns : goal.returns
returns g c =
    report_written c.args.network.now (g.R.Ended.run c.args.run.now) c.in_ok-summaries.summaries.items
    (option_copied c.args.sums) c.loop-sender.sender c.totals_of.result c.loop-sender.out.items
    c.write_totals.new.out.items c.in_ok-summaries.ensures
    (omega (arith, c.loop-sender-test.false, c.loop-sender.auto.sender-end, c.senders-sender-end.ensures.value))
    c.totals_of.ensures c.loop-sender.invariant c.in_ok-write_totals.ensures

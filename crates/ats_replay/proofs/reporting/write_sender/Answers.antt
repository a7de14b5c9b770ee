use Rattle.std.proofs.Common.{◌∙◌, ◌++◌, ℕ, ap, arith, length}
use Rattle.std.specs.List.{flat_map, range_with_len}
use Rattle.std.specs.Option.{option_copied}
use Rattle.ats_network.specs.Network.{senders_of}
use Rattle.ats_replay.specs.Inside.{summary_at}
use Rattle.ats_replay.specs.Report.{listener_line}
use Rattle.ats_replay.proofs.Places.{listeners_many, places_behind}
use Rattle.ats_replay.proofs.Reported.{line_written, next_lines}
use Rattle.ats_replay.proofs.reporting.write_sender.Goals as goal

pub write_title-requires-clause-leg : goal.write_title-requires-clause-leg
write_title-requires-clause-leg c =
    omega (
      arith,
      c.loop-leg-test.true,
      c.sender_legs-leg-end.ensures.value,
      listeners_many c.args.network.now c.args.sender,
    )

pub bounds-summaries-place : goal.bounds-summaries-place
bounds-summaries-place c =
    omega (
      arith,
      c.requires.first,
      c.requires.all,
      places_behind c.args.network.now c.args.sender c.loop-leg.leg (length (senders_of c.args.network.now))
          c.requires.sender (omega (
            arith,
            c.loop-leg-test.true,
            c.sender_legs-leg-end.ensures.value,
            listeners_many c.args.network.now c.args.sender,
          )) c.requires.sender,
    )

pub loop-leg-preserved : goal.loop-leg-preserved
loop-leg-preserved c =
    next_lines (listener_line c.args.network.now (summary_at c.args.network.now c.args.summaries.now)
    (option_copied c.args.sums) c.args.sender) c.loop-leg.leg c.args.out.now.items c.loop-leg.out.items
    c.write_summary.new.out.items c.loop-leg.invariant
    (line_written c.args.network.now c.args.summaries.now (option_copied c.args.sums) c.args.sender c.loop-leg.leg
    c.args.first _ c.bound_at.result c.loop-leg.out.items c.write_title.new.out.items c.write_summary.new.out.items
    c.requires.first (omega (
      arith,
      c.requires.first,
      c.requires.all,
      places_behind c.args.network.now c.args.sender c.loop-leg.leg (length (senders_of c.args.network.now))
          c.requires.sender (omega (
            arith,
            c.loop-leg-test.true,
            c.sender_legs-leg-end.ensures.value,
            listeners_many c.args.network.now c.args.sender,
          )) c.requires.sender,
    )) c.in_ok-write_title.ensures c.bound_at.ensures c.in_ok-write_summary.ensures)

pub returns : goal.returns
returns c =
    c.loop-leg.invariant
    ∙ ap (λ (n : ℕ). c.args.out.now.items
    ++ flat_map (listener_line c.args.network.now (summary_at c.args.network.now c.args.summaries.now)
    (option_copied c.args.sums) c.args.sender) (range_with_len 0 n))
    (omega (
      arith,
      c.loop-leg-test.false,
      c.loop-leg.auto.leg-end,
      c.sender_legs-leg-end.ensures.value,
      listeners_many c.args.network.now c.args.sender,
    ))

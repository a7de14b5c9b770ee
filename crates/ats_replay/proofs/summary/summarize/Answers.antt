use Rattle.std.proofs.Common.{◌∙◌, ap, arith}
use Rattle.std.specs.Prelude.{slice_index_or}
use Rattle.ats_replay.specs.Summary.{first_of}
use Rattle.ats_trace.specs.declared.journey.Release.{Release}
use Rattle.ats_replay.proofs.Places.{first_found, firsts_long}
use Rattle.ats_replay.proofs.Summaries.{none_yet, sender_inside}
use Rattle.ats_replay.proofs.summary.summarize.Goals as goal

pub bounds-firsts-senders : goal.bounds-firsts-senders
bounds-firsts-senders g c =
    omega (arith, firsts_long c.args.network.now c.args.firsts.now c.requires.firsts, c.senders.ensures.value)

pub loop-frame-init : goal.loop-frame-init
loop-frame-init g c =
    none_yet c.args.network.now (slice_index_or c.args.firsts.now c.senders.result 0) c.in_ok-summaries.summaries.items
    (first_found c.args.network.now c.args.firsts.now c.senders.result 0 c.requires.firsts
    (omega (arith, c.senders.ensures.value))
    ∙ ap (first_of c.args.network.now) c.senders.ensures.value)
    (c.in_ok-summaries.ensures.items_if_clones_equal (λ y same. same))

pub bounds-firsts-sender : goal.bounds-firsts-sender
bounds-firsts-sender g c =
    omega (
      arith,
      firsts_long c.args.network.now c.args.firsts.now c.requires.firsts,
      sender_inside c.args.network.now (g.R.Ended.run c.args.run.now) c.loop-frame.frame c.release_of-sender.result
          c.requires.journeys (omega (arith, c.loop-frame-test.true, c.len-frame-end.ensures.value))
          c.release_of-sender.ensures,
    )

pub add_frame-requires-clause-first : goal.add_frame-requires-clause-first
add_frame-requires-clause-first g c =
    first_found c.args.network.now c.args.firsts.now c.release_of-sender.result.sender 0 c.requires.firsts
    (omega (
      arith,
      sender_inside c.args.network.now (g.R.Ended.run c.args.run.now) c.loop-frame.frame c.release_of-sender.result
          c.requires.journeys (omega (arith, c.loop-frame-test.true, c.len-frame-end.ensures.value))
          c.release_of-sender.ensures,
    ))
    ∙ ap (λ (r : Release). first_of c.args.network.now r.sender) c.release_of-sender.ensures

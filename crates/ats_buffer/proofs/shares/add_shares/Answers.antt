use Rattle.std.proofs.Common.{arith}
use Rattle.ats_buffer.proofs.Hops.{legs_added, legs_many, stream_exists}
use Rattle.ats_buffer.proofs.ShareLemmas.{adding_none, added_all}
use Rattle.ats_buffer.proofs.shares.add_shares.Goals as goal

pub sender_legs-leg-end-requires : goal.sender_legs-leg-end-requires
sender_legs-leg-end-requires c = stream_exists c.args.network.now c.args.stream c.requires.stream

pub loop-leg-init : goal.loop-leg-init
loop-leg-init c =
    adding_none c.args.network.now c.args.rows.now.rows c.args.stream c.args.sums.now c.requires.before

pub add_leg-requires-clause-leg : goal.add_leg-requires-clause-leg
add_leg-requires-clause-leg c =
    let many = legs_many c.args.network.now c.args.stream in
    omega (arith, many, c.loop-leg-test.true, c.sender_legs-leg-end.ensures.value)

pub returns : goal.returns
returns c =
    added_all c.args.network.now c.args.rows.now.rows c.args.stream c.loop-leg.sums c.requires.stream
    (legs_added c.args.network.now c.args.rows.now.rows c.args.stream c.loop-leg.leg c.loop-leg.sums
    c.sender_legs-leg-end.ensures.rules c.requires.stream
    (omega (arith, c.loop-leg-test.false, c.sender_legs-leg-end.ensures.value)) c.loop-leg.invariant)

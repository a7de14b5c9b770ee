use Rattle.std.proofs.Common.{ℕ, take, arith}
use Rattle.std.proofs.lemmas.List.{length-take}
use Rattle.std.proofs.lemmas.List.Elements.{All-take}
use Rattle.ats_tally.specs.declared.tally.TheConstants.{MAX_SENDERS}
use Rattle.ats_tally.specs.Shares.{no_share, IsLimited}
use Rattle.ats_tally.proofs.ShareLemmas.{bursts_within}
use Rattle.ats_tally.proofs.class_tallies.bursts.Goals as goal

pub overflow_add-sum : goal.overflow_add-sum
overflow_add-sum c =
    let i : ℕ = c.loop-share.share-index in
    let before = bursts_within MAX_SENDERS (take i c.args.shares.now)
    (let few = length-take i c.args.shares.now in omega (arith, few, c.requires.few))
    (All-take (IsLimited MAX_SENDERS) i c.args.shares.now c.requires.limits) in
    let one = c.requires.limits i no_share c.loop-share-test.true in
    omega (arith, before, one.bursts, c.loop-share.invariant)

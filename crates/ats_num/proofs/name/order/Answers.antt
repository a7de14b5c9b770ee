use Rattle.std.proofs.Common.{sym, ◌∙◌}
use Rattle.ats_num.proofs.NameOrder.{words_first, decided, undecided}
use Rattle.ats_num.proofs.name.order.Goals as goal

-- words that differ decide
pub returns-then-mine-theirs : goal.returns-then-mine-theirs
returns-then-mine-theirs c =
    c.cmp.ensures ∙ sym (decided c.word-mine.result c.word-theirs.result _ c.if-mine-theirs.true)
    ∙ words_first c.args.text.now c.args.other.now c.loop-place.place c.word-mine.result c.word-theirs.result
    c.loop-place-test.true c.told-text c.told-other c.fits-text c.fits-other c.word-mine.ensures c.word-theirs.ensures
    c.loop-place.invariant

-- words that are the same do not
pub loop-place-preserved : goal.loop-place-preserved
loop-place-preserved c =
    sym (undecided c.word-mine.result c.word-theirs.result _ c.if-mine-theirs.false)
    ∙ words_first c.args.text.now c.args.other.now c.loop-place.place c.word-mine.result c.word-theirs.result
    c.loop-place-test.true c.told-text c.told-other c.fits-text c.fits-other c.word-mine.ensures c.word-theirs.ensures
    c.loop-place.invariant

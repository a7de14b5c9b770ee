use Rattle.std.proofs.Common.{◌≢◌, ◌<◌, length, sym, ◌∙◌, arith, length-set}
use Rattle.std.proofs.lemmas.List.{get_or_default}
use Rattle.std.proofs.lemmas.List.Elements.{All-set}
use Rattle.std.proofs.lemmas.List.Sorted.{IsPermutation-trans}
use Rattle.ats_heap.specs.Inside.{Leads}
use Rattle.ats_heap.proofs.Holes.{moved, rises}
use Rattle.ats_heap.proofs.Tops.{leads-trans}
use Rattle.ats_heap.proofs.sift.rise.Goals as goal

pub loop-above-preserved : goal.loop-above-preserved
loop-above-preserved g c =
    let covers = g.O.Precedence.covers c.args.order in
    let before = g.O.Precedence.goes_before c.args.order in
    let kept = c.loop-above.invariant in
    let xs = c.loop-above.items in
    let h = c.loop-above.hole in
    let p = c.in-Some.above in
    let v = c.index-items-above.result in
    let found = c.in-Some.ensures.some in
    let within : p < length xs = omega (arith, kept.within, found.below.least) in
    let apart : h ≢ p = λ e. omega (arith, found.below.least) in
    let at = λ (d : g.row.T.Denot). get_or_default xs p d v within ∙ sym c.index-items-above.is in
    let later = rw (← c.index-items-above.is) at (found.later v) in
    let covered = rw (← c.index-items-above.is) at (kept.covered p v within) in
    let joins = leads-trans covers before (g.met.O.Precedence.weak_order c.args.order) in
    let next = rises (Leads covers before) xs h p c.args.item v joins kept.within found.below at later
    kept.around kept.fits in
    record {
      within = omega (arith, within, length-set xs h v);
      covered = All-set covers xs h v covered kept.covered;
      around = next.0;
      fits = next.1;
      items = IsPermutation-trans _ _ _ kept.items (moved xs h p c.args.item v kept.within within apart at);
    }

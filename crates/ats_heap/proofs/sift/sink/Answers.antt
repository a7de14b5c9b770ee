use Rattle.std.proofs.Common.{◌≢◌, sym, ◌∙◌, arith, length-set}
use Rattle.std.proofs.lemmas.List.{get_or_default}
use Rattle.std.proofs.lemmas.List.Elements.{All-set}
use Rattle.std.proofs.lemmas.List.Sorted.{IsPermutation-trans}
use Rattle.ats_heap.specs.Inside.{Leads}
use Rattle.ats_heap.proofs.Holes.{moved, sinks}
use Rattle.ats_heap.proofs.sift.sink.Goals as goal

pub loop-below-preserved : goal.loop-below-preserved
loop-below-preserved g c =
    let covers = g.O.Precedence.covers c.args.order in
    let before = g.O.Precedence.goes_before c.args.order in
    let kept = c.loop-below.invariant in
    let xs = c.loop-below.items in
    let h = c.loop-below.hole in
    let k = c.in-Some.below in
    let v = c.index-items-below.result in
    let found = c.in-Some.ensures.some in
    let apart : h ≢ k = λ e. omega (arith, found.below.least) in
    let at = λ (d : g.row.T.Denot). get_or_default xs k d v found.within ∙ sym c.index-items-below.is in
    let covered = rw (← c.index-items-below.is) at (kept.covered k v found.within) in
    record {
      within = omega (arith, found.within, length-set xs h v);
      covered = All-set covers xs h v covered kept.covered;
      around = sinks (Leads covers before) xs h k v found.within found.below at
          (λ j d b l. rw (at d) at (found.first j d b l)) kept.around;
      items = λ item. IsPermutation-trans _ _ _ (kept.items item)
          (moved xs h k item v kept.within found.within apart at);
    }

use Rattle.ats_heap.proofs.Fours.{first_of}
use Rattle.ats_heap.proofs.sift.first_of_four.Goals as goal

pub returns : goal.returns
returns g c =
    rw (
      c.place_of-3.ensures,
      c.place_of-2.ensures,
      c.place_of.ensures,
      c.either-is_behind.ensures,
      c.either-before_two.ensures,
      c.either-before_one.ensures,
    )
    (first_of (g.O.Precedence.covers c.args.order) (g.O.Precedence.goes_before c.args.order)
    (g.met.O.Precedence.weak_order c.args.order) c.args.items.now c.args.first c.args.second c.args.third c.args.last
    c.index-items-first.result c.index-items-second.result c.index-items-third.result c.index-items-last.result
    c.goes_before-is_two.result c.goes_before-is_four.result c.goes_before.result c.goes_before-2.result
    c.goes_before-3.result c.goes_before-4.result c.requires.covered c.requires.places c.requires.within
    c.index-items-first.is c.index-items-second.is c.index-items-third.is c.index-items-last.is
    c.goes_before-is_two.ensures c.goes_before-is_four.ensures c.goes_before.ensures c.goes_before-2.ensures
    c.goes_before-3.ensures c.goes_before-4.ensures)

use Rattle.std.proofs.Common.{◌≡◌, ◌<◌, [], ◌∷◌, ◌++◌, length, get_or, set, sym, ◌∙◌, arith, length-append}
use Rattle.std.proofs.Common.{IsPermutation}
use Rattle.std.proofs.lemmas.Grind.{common_steps}
use Rattle.std.proofs.lemmas.List.{get_or_append_left}
use Rattle.std.proofs.lemmas.List.Elements.{All-tail}
use Rattle.std.proofs.lemmas.List.Sorted.{All-permutation, IsPermutation-cons, IsPermutation-trans}
use Rattle.ats_heap.specs.Inside.{Leads}
use Rattle.ats_heap.proofs.Tops.{top_leads, replaced}
use Rattle.ats_heap.proofs.sift.settle.Goals as goal

pub returns-clause-items : goal.returns-clause-items
returns-clause-items g c =
    let xs = c.args.items.now in
    let item = c.args.item in
    let first = c.index-items-0.result in
    let some : 0 < length xs = grind (arith, common_steps) in
    let rest : IsPermutation (set xs 0 item) c.rise.new.items =
    IsPermutation-trans _ _ _ (c.sink-hole.ensures.items item) c.rise.ensures.items in
    IsPermutation-trans _ _ _ (replaced xs item first some c.index-items-0.is) (IsPermutation-cons first _ _ rest)

pub returns-clause-first : goal.returns-clause-first
returns-clause-first g c =
    let covers = g.O.Precedence.covers c.args.order in
    let before = g.O.Precedence.goes_before c.args.order in
    let xs = c.args.items.now in
    let last = c.args.item ∷ [] in
    let first = c.index-items-0.result in
    let some : 0 < length xs = grind (arith, common_steps) in
    let within : 0 < length (xs ++ last) = omega (arith, length-append xs last) in
    let at : get_or (xs ++ last) 0 first ≡ first = get_or_append_left xs last first 0 some ∙ sym c.index-items-0.is in
    let led = top_leads covers before (g.met.O.Precedence.weak_order c.args.order) (xs ++ last) first within (sym at)
    c.requires.covered c.requires.heap in
    All-tail (Leads covers before first) first c.rise.new.items
    (All-permutation (Leads covers before first) (xs ++ last) (first ∷ c.rise.new.items) (returns-clause-items g c) led)

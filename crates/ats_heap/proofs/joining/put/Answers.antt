use Rattle.std.proofs.Common.{◌∷◌, ◌++◌, sym, subst, List, IsPermutation}
use Rattle.std.proofs.lemmas.List.Elements.{All-cons}
use Rattle.std.proofs.lemmas.List.Sorted.{All-permutation, IsPermutation-append_left, IsPermutation-append_right}
use Rattle.std.proofs.lemmas.List.Sorted.{IsPermutation-middle, IsPermutation-sym, IsPermutation-trans}
use Rattle.ats_heap.proofs.joining.put.Goals as goal

pub returns-then-join-clause-items : goal.returns-then-join-clause-items
returns-then-join-clause-items g c =
    IsPermutation-append_left c.args.tree.now.items (c.args.item ∷ c.args.line.now) c.join.new.line
    c.if-join.ensures.items

pub returns-clause-items : goal.returns-clause-items
returns-clause-items g c =
    let line = c.args.line.now in
    let old = c.args.tree.now.items in
    let new = c.insert.new.self.items in
    let item = c.args.item in
    let Is : List g.row.T.Denot → Type 0 = λ l. IsPermutation (item ∷ (line ++ old)) (l ++ new) in
    subst Is (sym c.if-join.ensures.same)
    (IsPermutation-trans _ _ _ (IsPermutation-sym _ _ (IsPermutation-middle line item old))
    (IsPermutation-append_right line (item ∷ old) new c.insert.ensures.items))

pub returns-clause-kept : goal.returns-clause-kept
returns-clause-kept g c =
    let covers = g.O.Precedence.covers c.args.tree.now.order in
    record {
      line = rw c.order.ensures at c.if-join.ensures.line;
      tree = All-permutation covers (c.args.item ∷ c.args.tree.now.items) c.insert.new.self.items
          c.insert.ensures.items
          (All-cons covers c.args.item c.args.tree.now.items c.requires.item c.requires.kept.tree);
    }

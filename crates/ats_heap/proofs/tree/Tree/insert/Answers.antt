use Rattle.std.proofs.Common.{◌≡◌, [], ◌∷◌, ◌++◌, length, drop, ◌∙◌, ap, arith}
use Rattle.std.proofs.lemmas.Grind.{common_steps}
use Rattle.std.proofs.lemmas.List.Elements.{All-cons}
use Rattle.std.proofs.lemmas.List.Sorted.{All-permutation, IsPermutation-trans, IsPermutation-sym}
use Rattle.std.proofs.lemmas.List.Sorted.{IsPermutation-to_front, length_permutation}
use Rattle.ats_heap.proofs.Tops.{added, whole}
use Rattle.ats_heap.proofs.tree.Tree.insert.Goals as goal

pub returns-clause-items : goal.returns-clause-items
returns-clause-items g c =
    let old = c.self.inside.items.items in
    let item = c.args.item in
    let new = c.rise.new.items in
    let pushed : c.push.new.self.items ≡ old ++ item ∷ [] = grind (arith, common_steps) in
    let end : length old ≡ c.len-place.result = grind (arith, common_steps) in
    let risen = added old c.deref_mut.result.now new item c.len-place.result (c.deref_mut.ensures.value ∙ pushed) end
    c.rise.ensures.items in
    let size : length new ≡ c.push.new.self.len = omega (
      arith,
      length_permutation (old ++ item ∷ []) new risen,
      ap length pushed,
      c.push.new.self.ok.0,
    ) in
    rw (whole c.push.new.self.len new (drop (length new) c.push.new.self.items) size, ← c.self.view_is)
    (IsPermutation-trans _ _ _ (IsPermutation-sym _ _ (IsPermutation-to_front old item)) risen)

pub invariant_of-self : goal.invariant_of-self
invariant_of-self g c =
    let old = c.self.inside.items.items in
    let item = c.args.item in
    let new = c.rise.new.items in
    let pushed : c.push.new.self.items ≡ old ++ item ∷ [] = grind (arith, common_steps) in
    let end : length old ≡ c.len-place.result = grind (arith, common_steps) in
    let risen = added old c.deref_mut.result.now new item c.len-place.result (c.deref_mut.ensures.value ∙ pushed) end
    c.rise.ensures.items in
    let size : length new ≡ c.push.new.self.len = omega (
      arith,
      length_permutation (old ++ item ∷ []) new risen,
      ap length pushed,
      c.push.new.self.ok.0,
    ) in
    let covers = g.O.Precedence.covers c.self.inside.order in
    let front = IsPermutation-trans _ _ _ (IsPermutation-sym _ _ (IsPermutation-to_front old item)) risen in
    let room = rw (← c.self.view_is) at c.requires.room in
    let covered = rw (← c.self.view_is) at c.requires.covered in
    rw (whole c.push.new.self.len new (drop (length new) c.push.new.self.items) size)
    record {
      reserved = omega (arith, c.self.invariant.reserved, c.push.ensures.capacity);
      within = omega (arith, length_permutation (item ∷ old) new front, room);
      covered = All-permutation covers (item ∷ old) new front
          (All-cons covers item old covered c.self.invariant.covered);
      heap = c.rise.ensures.heap;
    }

use Rattle.std.proofs.Common.{arith}
use Rattle.std.proofs.lemmas.List.Sorted.{length_permutation}
use Rattle.std.proofs.lemmas.Option.{IfSome_then}
use Rattle.ats_heap.proofs.heap.Heap.pop.Goals as goal

pub returns-clause-count : goal.returns-clause-count
returns-clause-count g c =
    rw (← c.self.view_is)
    (IfSome_then c.take_first.result c.take_first.ensures.popped
    (λ x pops. omega (arith, length_permutation _ _ pops.items)))

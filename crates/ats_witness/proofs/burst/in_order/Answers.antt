use Rattle.std.proofs.Common.{rules}
use Rattle.std.proofs.lemmas.List.Sorted.{IsNonDecreasingBy-from_sort_by_key}
use Rattle.ats_witness.specs.Made.{order_of}
use Rattle.ats_witness.proofs.burst.in_order.Goals as goal

pub returns : goal.returns
returns c = record {
  same = c.in_ok-sort_by_key.ensures.permutation;
  in_order =
      IsNonDecreasingBy-from_sort_by_key order_of _ c.in_ok-sort_by_key.ensures.sorted (λ a r q k. search rules);
}

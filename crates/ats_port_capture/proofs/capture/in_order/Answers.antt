use Rattle.std.proofs.Common.{rules}
use Rattle.std.proofs.lemmas.List.Sorted.{IsNonDecreasingBy-from_sort_by_key}
use Rattle.ats_port_capture.specs.declared.sighting.Sighting.{Sighting}
use Rattle.ats_port_capture.proofs.capture.in_order.Goals as goal

pub returns : goal.returns
returns c = record {
  same = c.in_ok-sort_by_key.ensures.permutation;
  in_order = IsNonDecreasingBy-from_sort_by_key (λ (s : Sighting). s.start.0) _ c.in_ok-sort_by_key.ensures.sorted
      (λ a r q k. search rules);
}

-- What a link keeps does not go by the order in which its crossings are listed.
use Rattle.std.proofs.Common.{◌≡◌, ℕ, ◌<◌, List, get_or, IsPermutation, ap, ◌∙◌, arith}
use Rattle.std.specs.Prelude.{◌+◌, max}
use Rattle.std.proofs.lemmas.List.Sorted.{All-permutation, IsPermutation-sym}
use Rattle.ats_topology.specs.Port.{spread_of}
use Rattle.ats_topology.specs.declared.port.Port.{Port}
use Rattle.ats_port_rule.proofs.Permuted.{all_of_all-permutation}
use Rattle.ats_trace.specs.Links.{ArrivesWithin, KeepsLinkRule, KeepsPace, ArrivesByPace, in_order_from}
use Rattle.ats_trace.specs.Projections.{Crossing}
use Rattle.ats_engine_proofs.proofs.Arriving.{from-each, from-least}

-- when the next frame may arrive
from-permuted : (end : ℕ) (xs ys : List Crossing) → IsPermutation xs ys → in_order_from end xs ≡ in_order_from end ys
from-permuted end xs ys moved =
    let Before : ℕ → Crossing → Type 0 = λ (bound : ℕ) (x : Crossing). x.sent.end < end → x.arrival < bound in
    let up = from-least end (in_order_from end ys) xs
    (All-permutation (Before (in_order_from end ys)) ys xs (IsPermutation-sym xs ys moved) (from-each end ys)) in
    let down = from-least end (in_order_from end xs) ys
    (All-permutation (Before (in_order_from end xs)) xs ys moved (from-each end xs)) in
    omega (arith, up, down)

-- the link rule
pub link-permuted : (port : Port) (xs ys : List Crossing) → IsPermutation xs ys → KeepsLinkRule port xs
    → KeepsLinkRule port ys
link-permuted port xs ys moved rule =
    let After : Crossing → Crossing → Type 0 = λ (x y : Crossing). x.sent.end < y.sent.end → x.arrival < y.arrival in
    record {
      within = All-permutation (ArrivesWithin port.earliest.0 port.latency.0) xs ys moved rule.within;
      order = all_of_all-permutation After xs ys moved rule.order;
    }

-- and the pace
pub pace-permuted : (wait : ℕ → ℕ → ℕ) (port : Port) (xs ys : List Crossing) → IsPermutation xs ys
    → KeepsPace wait port xs → KeepsPace wait port ys
pace-permuted wait port xs ys moved pace =
    All-permutation (ArrivesByPace wait port ys) xs ys moved
    (λ i d h. pace i d h
    ∙ ap (max ((get_or xs i d).sent.end + port.earliest.0
    + wait (get_or xs i d).sent.frame (spread_of port)))
    (from-permuted (get_or xs i d).sent.end xs ys moved))

-- What one more frame does to those that have crossed a port, where it was sent after all of them.
use Rattle.std.proofs.Common.{◌≡◌, ℕ, ◌+◌, ◌<◌, ◌≤◌, max, nat_lt, Bool, true, List, [], ◌∷◌, get_or, map, filter}
use Rattle.std.proofs.Common.{fold, All, IsPermutation, sym, ◌∙◌, arith}
use Rattle.std.proofs.lemmas.Bool.{lt-ltb, ltb-true}
use Rattle.std.proofs.lemmas.List.Elements.{All-nil, All-cons, All-head, All-tail, All-weaker, All-map, All-filter}
use Rattle.std.proofs.lemmas.List.Elements.{filter_passes}
use Rattle.std.proofs.lemmas.List.Sorted.{All-permutation, IsPermutation-sym}
use Rattle.ats_facts.proofs.Lists.{all_unmapped, All-from_filter}
use Rattle.ats_num.specs.declared.time.TheConstants.{END}
use Rattle.ats_topology.specs.Port.{spread_of}
use Rattle.ats_topology.specs.declared.port.Port.{Port}
use Rattle.ats_port_rule.proofs.Permuted.{all_of_all-permutation}
use Rattle.ats_trace.specs.Links.{ArrivesWithin, KeepsLinkRule, KeepsPace, ArrivesByPace, in_order_from}
use Rattle.ats_trace.specs.Projections.{Crossing}
use Rattle.ats_engine_steps.specs.Paces.{arrival_behind}

-- the greatest of a start and numbers is at least the start and each of them
greatest_bounds : (start : ℕ) (xs : List ℕ) → (start ≤ fold max start xs) × All (λ x. x ≤ fold max start xs) xs
greatest_bounds start [] = (omega arith, All-nil (λ x. x ≤ start))
greatest_bounds start (x ∷ xs) =
    let rest = greatest_bounds (max start x) xs in (
      omega (arith, rest.0),
      All-cons (λ y. y ≤ fold max start (x ∷ xs)) x xs (omega (arith, rest.0)) rest.1,
    )

-- and no more than what is at least each of these
greatest_least : (start bound : ℕ) (xs : List ℕ) → start ≤ bound → All (λ x. x ≤ bound) xs → fold max start xs ≤ bound
greatest_least start bound [] s all = s
greatest_least start bound (x ∷ xs) s all =
    let here : x ≤ bound = All-head (λ y. y ≤ bound) x xs all in
    greatest_least (max start x) bound xs (omega (arith, s, here)) (All-tail (λ y. y ≤ bound) x xs all)

-- whatever was sent to its end before a time arrived before a frame may that is sent until then
pub from-each : (end : ℕ) (xs : List Crossing)
    → All (λ (x : Crossing). x.sent.end < end → x.arrival < in_order_from end xs) xs
from-each end xs =
    let early : Crossing → Bool = λ (x : Crossing). nat_lt x.sent.end end in
    let after : Crossing → ℕ = λ (x : Crossing). x.arrival + 1 in
    let bounds = greatest_bounds 0 (map after (filter early xs)) in
    All-weaker (λ (x : Crossing). early x ≡ true → after x ≤ in_order_from end xs)
    (λ (x : Crossing). x.sent.end < end → x.arrival < in_order_from end xs)
    (λ x passes sooner. omega (arith, passes (lt-ltb x.sent.end end sooner))) xs
    (All-from_filter early (λ (x : Crossing). after x ≤ in_order_from end xs) xs
    (all_unmapped (λ n. n ≤ in_order_from end xs) after (filter early xs) bounds.1))

-- and a time before which all of that arrived is no earlier
pub from-least : (end bound : ℕ) (xs : List Crossing)
    → All (λ (x : Crossing). x.sent.end < end → x.arrival < bound) xs → in_order_from end xs ≤ bound
from-least end bound xs each =
    let early : Crossing → Bool = λ (x : Crossing). nat_lt x.sent.end end in
    let after : Crossing → ℕ = λ (x : Crossing). x.arrival + 1 in
    let Sooner : Crossing → Type 0 = λ (x : Crossing). x.sent.end < end → x.arrival < bound in
    let kept : All (λ (x : Crossing). after x ≤ bound) (filter early xs) = λ k d h.
    omega (arith, All-filter early Sooner xs each k d h (ltb-true _ end (filter_passes early xs k d h))) in
    greatest_least 0 bound (map after (filter early xs)) (omega arith)
    (All-map (λ n. n ≤ bound) after (filter early xs) kept)

-- a frame that is not sent to its end before the time does not count
pub from-later : (end : ℕ) (x : Crossing) (old new : List Crossing) → IsPermutation (x ∷ old) new → end ≤ x.sent.end
    → in_order_from end new ≡ in_order_from end old
from-later end x old new moved later =
    let Before : ℕ → Crossing → Type 0 = λ (bound : ℕ) (y : Crossing). y.sent.end < end → y.arrival < bound in
    let up = from-least end (in_order_from end old) new (All-permutation (Before (in_order_from end old)) (x ∷ old) new
    moved (All-cons (Before (in_order_from end old)) x old (λ sooner. absurd (omega arith)) (from-each end old))) in
    let down = from-least end (in_order_from end new) old (All-tail (Before (in_order_from end new)) x old
    (All-permutation (Before (in_order_from end new)) new (x ∷ old) (IsPermutation-sym (x ∷ old) new moved)
    (from-each end new))) in
    omega (arith, up, down)

-- one that is, and arrives no earlier than the others allow, sets the time
pub from-sooner : (end : ℕ) (x : Crossing) (old new : List Crossing) → IsPermutation (x ∷ old) new → x.sent.end < end
    → in_order_from end old ≤ x.arrival → in_order_from end new ≡ x.arrival + 1
from-sooner end x old new moved sooner past =
    let Before : ℕ → Crossing → Type 0 = λ (bound : ℕ) (y : Crossing). y.sent.end < end → y.arrival < bound in
    let wider = All-weaker (Before (in_order_from end old)) (Before (x.arrival + 1)) (λ y before h.
    omega (arith, before h)) old (from-each end old) in
    let up = from-least end (x.arrival + 1) new (All-permutation (Before (x.arrival + 1)) (x ∷ old) new moved
    (All-cons (Before (x.arrival + 1)) x old (λ h. omega arith) wider)) in
    let down = All-head (Before (in_order_from end new)) x old
    (All-permutation (Before (in_order_from end new)) new (x ∷ old) (IsPermutation-sym (x ∷ old) new moved)
    (from-each end new)) sooner in
    omega (arith, up, down)

-- at any two times by which all were sent to their end it is the same
pub from-all : (end late : ℕ) (xs : List Crossing) → All (λ (x : Crossing). x.sent.end < end) xs → end ≤ late
    → in_order_from end xs ≡ in_order_from late xs
from-all end late xs each le =
    let up = from-least end (in_order_from late xs) xs (λ k d h sooner.
    from-each late xs k d h (omega (arith, each k d h))) in
    let down = from-least late (in_order_from end xs) xs (λ k d h sooner.
    from-each end xs k d h (each k d h)) in
    omega (arith, up, down)

-- a frame crosses a port after these: it is sent to its end after all of them, and arrives by the pace, where the next
-- one may arrive from this time on
pub record IsNewest (wait : ℕ → ℕ → ℕ) (port : Port) (from : ℕ) (x : Crossing) (old : List Crossing) : Type 0 where
  pub later : All (λ (y : Crossing). y.sent.end < x.sent.end) old
  pub allowed : from ≡ in_order_from END old
  pub arrives : x.arrival ≡ arrival_behind wait port x.sent.frame x.sent.end from
  pub waits : wait x.sent.frame (spread_of port) ≤ spread_of port
  pub ordered : port.earliest.0 ≤ port.latency.0
  pub end : x.sent.end < END

-- so it arrives after all of them
arrives_last : (wait : ℕ → ℕ → ℕ) (port : Port) (from : ℕ) (x : Crossing) (old : List Crossing)
    → IsNewest wait port from x old → All (λ (y : Crossing). y.arrival < x.arrival) old
arrives_last wait port from x old newest k d h =
    let sooner = newest.later k d h in
    let before = from-each END old k d h (omega (arith, sooner, newest.end)) in
    omega (arith, before, newest.allowed, newest.arrives)

-- and within the port's latencies
arrives_within : (wait : ℕ → ℕ → ℕ) (port : Port) (from : ℕ) (x : Crossing) (old : List Crossing)
    → IsNewest wait port from x old → KeepsLinkRule port old → ArrivesWithin port.earliest.0 port.latency.0 x
arrives_within wait port from x old newest rule =
    let bound : from ≤ x.sent.end + port.latency.0 =
    rw newest.allowed (from-least END (x.sent.end + port.latency.0) old (λ k d h sooner.
    omega (arith, (rule.within k d h).latest, newest.later k d h))) in
    record {
      earliest = omega (arith, newest.arrives);
      latest = omega (arith, newest.arrives, newest.waits, newest.ordered, bound);
    }

-- so the port's link rule is kept
pub rule-more : (wait : ℕ → ℕ → ℕ) (port : Port) (from : ℕ) (x : Crossing) (old new : List Crossing)
    → IsNewest wait port from x old → IsPermutation (x ∷ old) new → KeepsLinkRule port old → KeepsLinkRule port new
rule-more wait port from x old new newest moved rule =
    let In : Crossing → Type 0 = ArrivesWithin port.earliest.0 port.latency.0 in
    let After : Crossing → Crossing → Type 0 = λ (y z : Crossing). y.sent.end < z.sent.end → y.arrival < z.arrival in
    let last = arrives_last wait port from x old newest in
    let first : All (After x) (x ∷ old) = All-cons (After x) x old (λ h. absurd (omega arith))
    (λ k d h sooner. absurd (omega (arith, newest.later k d h))) in
    let others : All (λ (y : Crossing). All (After y) (x ∷ old)) old = λ k d h.
    All-cons (After (get_or old k d)) x old (λ sooner. last k d h) (rule.order k d h) in
    record {
      within = All-permutation In (x ∷ old) new moved
          (All-cons In x old (arrives_within wait port from x old newest rule) rule.within);
      order = all_of_all-permutation After (x ∷ old) new moved
          (All-cons (λ (y : Crossing). All (After y) (x ∷ old)) x old first others);
    }

-- and so is its pace
pub pace-more : (wait : ℕ → ℕ → ℕ) (port : Port) (from : ℕ) (x : Crossing) (old new : List Crossing)
    → IsNewest wait port from x old → IsPermutation (x ∷ old) new → KeepsPace wait port old → KeepsPace wait port new
pace-more wait port from x old new newest moved pace =
    let By : Crossing → Type 0 = ArrivesByPace wait port new in
    let same : in_order_from x.sent.end new ≡ from =
    from-later x.sent.end x old new moved (omega arith)
    ∙ from-all x.sent.end END old newest.later (omega (arith, newest.end)) ∙ sym newest.allowed in
    let first : By x = omega (arith, newest.arrives, same) in
    let others : All By old = λ k d h.
    omega (
      arith,
      pace k d h,
      from-later (get_or old k d).sent.end x old new moved
          (omega (arith, newest.later k d h)),
    ) in
    All-permutation By (x ∷ old) new moved (All-cons By x old first others)

-- and the next frame may arrive a picosecond after it
pub from-more : (wait : ℕ → ℕ → ℕ) (port : Port) (from : ℕ) (x : Crossing) (old new : List Crossing)
    → IsNewest wait port from x old → IsPermutation (x ∷ old) new → x.arrival + 1 ≡ in_order_from END new
from-more wait port from x old new newest moved =
    sym (from-sooner END x old new moved newest.end (omega (arith, newest.allowed, newest.arrives)))

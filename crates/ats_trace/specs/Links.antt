use Rattle.std.specs.Prelude.{◌≡◌, ℕ, ◌+◌, ◌<◌, ◌≤◌, nat_lt, max, List, map, filter, fold, All}
use Rattle.ats_topology.specs.Port.{spread_of}
use Rattle.ats_topology.specs.declared.port.Port.{Port}
use Rattle.ats_trace.specs.Projections.{Crossing}

-- a frame arrives behind a port so long after the end of its transmission, at least and at most
pub record ArrivesWithin (least most : ℕ) (x : Crossing) : Type 0 where
  pub earliest : x.sent.end + least ≤ x.arrival
  pub latest : x.arrival ≤ x.sent.end + most

-- each frame does, and they arrive in the order in which they were sent
pub record KeepsTimes (least most : ℕ) (crossings : List Crossing) : Type 0 where
  pub within : All (ArrivesWithin least most) crossings
  pub order : All
      (λ (x : Crossing). All (λ (y : Crossing). x.sent.end < y.sent.end → x.arrival < y.arrival) crossings) crossings

-- what a port's link does, and the node behind it while it takes in what comes: a frame arrives between the port's
-- earliest latency and its latency after the end of its transmission, and in the order in which frames were sent
abbrev pub KeepsLinkRule : Port → List Crossing → Type 0
KeepsLinkRule port crossings = KeepsTimes port.earliest.0 port.latency.0 crossings

-- a picosecond after the last arrival of those frames that were sent to their end before this time, so that a frame
-- sent until then keeps the order; 0 where there are none
abbrev pub in_order_from : ℕ → List Crossing → ℕ
in_order_from end crossings =
    fold max 0 (map (λ (x : Crossing). x.arrival + 1) (filter (λ (x : Crossing). nat_lt x.sent.end end) crossings))

-- a frame arrives behind the port its wait after the port's earliest latency or, where a frame that was sent before it
-- has not arrived by then, a picosecond after that one; the wait goes by the frame's number and the port's spread
abbrev pub ArrivesByPace : (ℕ → ℕ → ℕ) → Port → List Crossing → Crossing → Type 0
ArrivesByPace wait port crossings x =
    x.arrival
    ≡ max (x.sent.end + port.earliest.0 + wait x.sent.frame (spread_of port)) (in_order_from x.sent.end crossings)

-- each frame does
abbrev pub KeepsPace : (ℕ → ℕ → ℕ) → Port → List Crossing → Type 0
KeepsPace wait port crossings = All (ArrivesByPace wait port crossings) crossings

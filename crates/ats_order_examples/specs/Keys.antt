use Rattle.std.specs.Prelude.{◌≡◌, ℕ, ◌+◌, ◌-◌, ◌<◌, ◌≤◌, ◌↔◌, max, nat_lt, List, map, filter, fold, All}
use Rattle.ats_topology.specs.Port.{spread_of}
use Rattle.ats_topology.specs.declared.port.Port.{Port}
use Rattle.ats_port_rule.specs.PortRule.{KeepsTie}
use Rattle.ats_port_rule.specs.Transmission.{Transmission}
use Rattle.ats_trace.specs.Links.{KeepsLinkRule, KeepsPace, in_order_from}
use Rattle.ats_trace.specs.Projections.{Crossing}
use Rattle.ats_trace.specs.Run.{IsRunBy}
use Rattle.ats_examples.specs.LegalRuns.{descending_key, frame_key, least_wait}
use Rattle.ats_examples.specs.Networks.{line_of_classes}
use Rattle.ats_order_examples.specs.Orders.{just_released}

-- What a port keeps of a key, and a link of a pace, of any frames: it is asked of all of them, and nothing else is.

-- of any two frames of one class that became eligible together the one that starts first has the lesser key, whatever
-- the port sends in between
abbrev pub TiesAreOfAll : Type 0
TiesAreOfAll = (key : ℕ → ℕ → ℕ) (sent : List Transmission) → KeepsTie key sent
    ↔ All (λ (x : Transmission). All (λ (y : Transmission). x.class ≡ y.class → x.eligible ≡ y.eligible
    → x.start < y.start → key x.sender x.frame < key y.sender y.frame) sent) sent

-- each frame arrives within the port's latencies of its end, and behind all that were sent before it
abbrev pub LinksAreOfAll : Type 0
LinksAreOfAll = (port : Port) (crossings : List Crossing) → KeepsLinkRule port crossings
    ↔ (All (λ (x : Crossing). (x.sent.end + port.earliest.0 ≤ x.arrival) × (x.arrival ≤ x.sent.end + port.latency.0))
    crossings
    × All (λ (x : Crossing). All (λ (y : Crossing). x.sent.end < y.sent.end → x.arrival < y.arrival) crossings)
    crossings)

-- and by a pace it arrives so long after the earliest that it may, or a picosecond after the last of those
pub record PacesAreOfAll : Type 0 where
  pub each : (wait : ℕ → ℕ → ℕ) (port : Port) (crossings : List Crossing) → KeepsPace wait port crossings
      ↔ All (λ (x : Crossing). x.arrival
      ≡ max (x.sent.end + port.earliest.0 + wait x.sent.frame (spread_of port)) (in_order_from x.sent.end crossings))
      crossings
  pub spread : (port : Port) → spread_of port ≡ port.latency.0 - port.earliest.0
  pub behind : (end : ℕ) (crossings : List Crossing) → in_order_from end crossings
      ≡ fold max 0 (map (λ (x : Crossing). x.arrival + 1)
      (filter (λ (x : Crossing). nat_lt x.sent.end end) crossings))

-- two frames of the lower class tie at the station, and one of the higher class goes between them: the key decides of
-- the two all the same. Refuses a key for frames alone that are sent one directly behind the other
pub record TiesAreAcross : Type 0 where
  pub by_frame : IsRunBy frame_key least_wait line_of_classes (just_released 1344000 672000)
  pub not_turned : ¬ IsRunBy descending_key least_wait line_of_classes (just_released 1344000 672000)

pub record KeysAreOfAll : Type 0 where
  pub ties : TiesAreOfAll
  pub links : LinksAreOfAll
  pub paces : PacesAreOfAll
  pub across : TiesAreAcross

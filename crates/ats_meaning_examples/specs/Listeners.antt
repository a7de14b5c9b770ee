use Rattle.std.specs.Prelude.{◌≡◌, ◌↔◌, ℕ, ◌+◌, ◌<◌, List, ◌∷◌, ◌++◌, length, map, drop, count_by, sum_by, find}
use Rattle.std.specs.Prelude.{slice_index_or, Some, None}
use Rattle.std.specs.List.{AllZip}
use Rattle.std.specs.Option.{option_map}
use Rattle.ats_topology.specs.Topology.{DeclaredTopology}
use Rattle.ats_streams.specs.Branches.{leg_at, legs_of, no_branch, routes_of, trunk_of}
use Rattle.ats_streams.specs.Stream.{DeclaredStream}
use Rattle.ats_streams.specs.declared.branch.Branch.{Branch}
use Rattle.ats_network.specs.Listeners.{Listener, listeners_of, station_of}
use Rattle.ats_network.specs.Network.{DeclaredNetwork}
use Rattle.ats_network.specs.Sender.{Sender}
use Rattle.ats_certificate.specs.declared.row.Row.{Row}
use Rattle.ats_trace.specs.Journey.{IsReleased, IsWay, Travel}
use Rattle.ats_trace.specs.Ways.{route_to, routes_by, way_to}
use Rattle.ats_soundness_law.specs.OneListener.{IsServedAlone}
use Rattle.ats_soundness_law.specs.Sound.{IsContained, IsContainedOn, IsServed, IsServedOn}
use Rattle.ats_explain.specs.Margins.{is_late, is_tightest, margin_on, margins_of}
use Rattle.ats_explain.specs.Parts.{is_over, parts_of_hop}
use Rattle.ats_explain.specs.Totals.{late_count, over_count, totals_of}
use Rattle.ats_listener_law.specs.Listeners.{AreLegByLeg}
use Rattle.ats_listener_law.specs.OneListener.{HasOneMarginEach}
use Rattle.ats_listener_law.specs.Routes.{TurnOff, up_to}
use Rattle.ats_listener_law.specs.Ways.{GoesTo, IsAskedOfEach, ways_by}

-- What laws conclude of the listeners of a stream, part by part, both ways.

-- a listener for each leg and its route, in their order, of which all but the first have names; and how routes turn off
pub record ListenersAreTold : Type 0 where
  pub legs : (topology : DeclaredTopology) (s : DeclaredStream) → AreLegByLeg topology s
      ↔ ((map (λ (l : Listener). l.leg) (listeners_of topology s) ≡ legs_of s.ports s.branches)
      × (map (λ (l : Listener). l.route) (listeners_of topology s) ≡ routes_of s.ports s.branches)
      × (map (λ (l : Listener). l.name) (listeners_of topology s)
      ≡ None ∷ map (λ route. Some (station_of topology route)) (drop 1 (routes_of s.ports s.branches))))
  pub routes : (ports : List ℕ) (branches : List Branch) → TurnOff ports branches
      ↔ ((leg_at (routes_of ports branches) 0 ≡ trunk_of ports branches)
      × ((n : ℕ) → n < length branches → leg_at (routes_of ports branches) (1 + n)
      ≡ up_to ports branches (slice_index_or branches n no_branch) ++ leg_at (legs_of ports branches) (1 + n))
      × (length (routes_of ports branches) ≡ 1 + length branches))

-- the way of a frame to a listener, and what is asked of a frame on each of its ways
pub record WaysAreTold : Type 0 where
  pub way : (sender : Sender) (journey : Travel) (listener : ℕ) → GoesTo sender journey listener
      ↔ (IsWay (route_to sender listener) (way_to sender journey listener).hops
      (way_to sender journey listener).ending
      × IsReleased journey.release (way_to sender journey listener).hops)
  pub asked : (rows : List Row) (sender : Sender) (journey : Travel) → IsAskedOfEach rows sender journey
      ↔ ((IsServed rows sender journey
      ↔ AllZip (IsServedOn rows sender journey.release) (routes_by sender) (ways_by sender journey))
      × (IsContained rows sender journey
      ↔ AllZip (IsContainedOn rows sender) (routes_by sender) (ways_by sender journey)))

-- where there is one listener, a frame is served and contained on the way along all ports, and there is one margin for
-- each stream
pub record OneListenerIsTold : Type 0 where
  pub served : (rows : List Row) (sender : Sender) (journey : Travel) → IsServedAlone rows sender journey
      ↔ ((IsServed rows sender journey
      ↔ IsServedOn rows sender journey.release sender.ports (record { hops = journey.hops; ending = journey.ending }))
      × (IsContained rows sender journey
      ↔ IsContainedOn rows sender sender.ports (record { hops = journey.hops; ending = journey.ending })))
  pub margins : (network : DeclaredNetwork) → HasOneMarginEach network
      ↔ ((margins_of network ≡ map (λ (s : DeclaredStream). margin_on network s s.ports) network.streams)
      × (late_count network
      ≡ count_by (λ (s : DeclaredStream). is_late (margin_on network s s.ports)) network.streams)
      × (over_count network
      ≡ sum_by (λ (s : DeclaredStream). count_by (λ port. is_over (parts_of_hop network s port).stay) s.ports)
      network.streams)
      × ((totals_of network).tightest
      ≡ option_map
      (λ (s : DeclaredStream). record { name = s.name; listener = None; margin = margin_on network s s.ports })
      (find (λ (s : DeclaredStream). is_tightest (margins_of network) (margin_on network s s.ports))
      network.streams)))

pub record ListenersAreMeant : Type 0 where
  pub listeners : ListenersAreTold
  pub ways : WaysAreTold
  pub one : OneListenerIsTold

use Rattle.std.specs.Prelude.{◌≡◌, ◌↔◌, ℕ, List, [], ◌∷◌, map, count_by, sum_by, find, Option, None}
use Rattle.std.specs.Option.{option_map}
use Rattle.ats_streams.specs.Stream.{DeclaredStream}
use Rattle.ats_topology.specs.Topology.{DeclaredTopology}
use Rattle.ats_network.specs.Class.{before_along, port_before}
use Rattle.ats_network.specs.Listeners.{listeners_of}
use Rattle.ats_network.specs.Network.{DeclaredNetwork, HasOneListener}
use Rattle.ats_network.specs.Sender.{Sender}
use Rattle.ats_certificate.specs.Certificate.{IsInTime, bound_along}
use Rattle.ats_certificate.specs.declared.row.Row.{Row}
use Rattle.ats_trace.specs.Journey.{Travel}
use Rattle.ats_bound.specs.First.{IsFirstBreach, IsFirstOverdue}
use Rattle.ats_explain.specs.Margins.{is_late, is_tightest, margin_on, margins_of}
use Rattle.ats_explain.specs.Parts.{is_over, parts_of_hop}
use Rattle.ats_explain.specs.Totals.{late_count, over_count, totals_of}
use Rattle.ats_checker.specs.InTime.{ArrivesInTime, ArrivesInTimeOn}

-- Where no stream has a branch, each word says of a stream's ports what it said of one path.

-- the one listener has no name, and its leg and its route are all ports
abbrev pub OneListenerHasAllPorts : Type 0
OneListenerHasAllPorts = (topology : DeclaredTopology) (stream : DeclaredStream) → stream.branches ≡ []
    → listeners_of topology stream ≡ record { name = None; leg = stream.ports; route = stream.ports } ∷ []

-- the port before another one is the one in front of it
abbrev pub OnePathComesTo : Type 0
OnePathComesTo = (sender : Sender) (port : ℕ) → sender.branches ≡ []
    → port_before sender port ≡ before_along port sender.ports

-- a frame arrives in time where it does at the end of all ports
abbrev pub OneArrivalIsInTime : Type 0
OneArrivalIsInTime = (rows : List Row) (stream : DeclaredStream) (journey : Travel) → stream.branches ≡ []
    → ArrivesInTime rows stream journey
    ↔ ArrivesInTimeOn rows stream journey.release stream.ports journey.ending

-- there is one margin for each stream; the totals count the streams that are late and the hops of their paths, and tell
-- the first stream of the least slack
pub record HasOneMarginEach (network : DeclaredNetwork) : Type 0 where
  pub margins : margins_of network ≡ map (λ (s : DeclaredStream). margin_on network s s.ports) network.streams
  pub late : late_count network
      ≡ count_by (λ (s : DeclaredStream). is_late (margin_on network s s.ports)) network.streams
  pub over : over_count network
      ≡ sum_by (λ (s : DeclaredStream). count_by (λ port. is_over (parts_of_hop network s port).stay) s.ports)
      network.streams
  pub tightest : (totals_of network).tightest
      ≡ option_map
      (λ (s : DeclaredStream). record { name = s.name; listener = None; margin = margin_on network s s.ports })
      (find (λ (s : DeclaredStream). is_tightest (margins_of network) (margin_on network s s.ports)) network.streams)

abbrev pub OneMarginForEach : Type 0
OneMarginForEach = (network : DeclaredNetwork) → HasOneListener network → HasOneMarginEach network

-- the stream of this name is the first whose bounds are together over its deadline, this is their sum, and no listener
-- is named
pub record IsFirstOverdueAlone (network : DeclaredNetwork) (rows : List Row) (name : List ℕ)
    (listener : Option (List ℕ)) (along : ℕ) : Type 0 where
  pub unnamed : listener ≡ None
  pub stream : DeclaredStream
  pub name_is : stream.name ≡ name
  pub first : IsFirstBreach (IsInTime rows) network.streams stream
  pub along_is : bound_along rows stream ≡ along

abbrev pub OneIsFirstOverdue : Type 0
OneIsFirstOverdue = (network : DeclaredNetwork) (rows : List Row) (name : List ℕ) (listener : Option (List ℕ))
    (along : ℕ) → HasOneListener network → IsFirstOverdue network rows name listener along
    ↔ IsFirstOverdueAlone network rows name listener along

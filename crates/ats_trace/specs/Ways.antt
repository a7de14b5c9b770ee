use Rattle.std.specs.Prelude.{ℕ, List, length, map, slice_index_or}
use Rattle.ats_streams.specs.Branches.{leg_at, routes_of, with_leads}
use Rattle.ats_network.specs.Sender.{Sender}
use Rattle.ats_trace.specs.Journey.{Leg, Travel, legs_in, no_leg}
use Rattle.ats_trace.specs.HopRecord.{HopRecord}

-- the routes of a sender, listener by listener
abbrev pub routes_by : Sender → List (List ℕ)
routes_by sender = routes_of sender.ports sender.branches

-- how many listeners it has
abbrev pub listener_count : Sender → ℕ
listener_count sender = length (routes_by sender)

-- the route to the listener with a number
abbrev pub route_to : Sender → ℕ → List ℕ
route_to sender listener = leg_at (routes_by sender) listener

-- the records of a frame along each leg
abbrev pub records_in : Travel → List (List HopRecord)
records_in journey = map (λ (leg : Leg). leg.hops) (legs_in journey)

-- the way of a frame to the listener with a number: its records at the ports of the route there, as far as there are
-- records, and the ending of the listener's leg
abbrev pub way_to : Sender → Travel → ℕ → Leg
way_to sender journey listener = record {
  hops = leg_at (with_leads (records_in journey) sender.branches) listener;
  ending = (slice_index_or (legs_in journey) listener no_leg).ending;
}

use Rattle.std.specs.Prelude.{ℕ, List, [], ◌++◌, Option, Some, None, codes, decimal}
use Rattle.std.specs.List.{enumerate_from, flat_map, zip}
use Rattle.ats_num.specs.declared.time.Ps.{Ps}
use Rattle.ats_topology.specs.Topology.{DeclaredTopology}
use Rattle.ats_port_names.specs.PortName.{port_name}
use Rattle.ats_streams.specs.Branches.{leg_at, legs_of}
use Rattle.ats_network.specs.Listeners.{station_of}
use Rattle.ats_network.specs.Network.{DeclaredNetwork}
use Rattle.ats_network.specs.Sender.{Sender}
use Rattle.ats_network.specs.Senders.{sender_at}
use Rattle.ats_group.specs.declared.verdict.Verdict.{Verdict}
use Rattle.ats_group.specs.declared.verdict.Verdict.TheVariants.{Eligible, Late, Size}
use Rattle.ats_trace.specs.Journey.{Leg, Travel, trunk_at}
use Rattle.ats_trace.specs.Stored.{leg_in}
use Rattle.ats_trace.specs.Ways.{route_to}
use Rattle.ats_trace.specs.declared.journey.Release.{Release}
use Rattle.ats_trace.specs.HopRecord.{HopRecord}
use Rattle.ats_trace.specs.declared.journey.Ending.{Ending}
use Rattle.ats_trace.specs.declared.journey.Ending.TheVariants.{Sink, Discard}
use Rattle.ats_replay.specs.Totals.{totals_line, totals_of}

-- `frame N NAME OCTETS RELEASE`
unfoldable pub frame_line : DeclaredNetwork → ℕ → Release → List ℕ
frame_line network n r =
    codes "frame " ++ decimal n ++ codes " " ++ (sender_at network r.sender).name ++ codes " " ++ decimal r.octets
    ++ codes " " ++ decimal r.at.0 ++ codes "\n"

-- what a hop line says of a verdict: `eligible E`, `late E` or `size`
abbrev pub verdict_text : Verdict → List ℕ
verdict_text (Eligible e) = codes " eligible " ++ decimal e.0
verdict_text (Late e) = codes " late " ++ decimal e.0
verdict_text Size = codes " size"

-- and of a transmission, where there was one: `start S end T`
abbrev pub sent_text : Option (Ps × Ps) → List ℕ
sent_text None = []
sent_text (Some times) = codes " start " ++ decimal times.0.0 ++ codes " end " ++ decimal times.1.0

-- `hop PORT ARRIVAL`, then the verdict and the transmission
unfoldable pub hop_line : DeclaredTopology → ℕ × HopRecord → List ℕ
hop_line topology at_port =
    codes "hop " ++ port_name topology at_port.0 ++ codes " " ++ decimal at_port.1.arrival.0
    ++ verdict_text at_port.1.verdict ++ sent_text at_port.1.sent ++ codes "\n"

-- `sink TIME` or `discard`
abbrev pub ending_line : Ending → List ℕ
ending_line (Sink at) = codes "sink " ++ decimal at.0 ++ codes "\n"
ending_line Discard = codes "discard\n"

-- the lines of a frame along a leg: a line for each port of the leg that it came to, and its end there
abbrev pub leg_lines : DeclaredTopology → List ℕ → Leg → List ℕ
leg_lines topology path leg = flat_map (hop_line topology) (zip path leg.hops) ++ ending_line leg.ending

-- `listener STATION`, for the station at which a route ends
unfoldable pub station_line : DeclaredTopology → List ℕ → List ℕ
station_line topology route = codes "listener " ++ station_of topology route ++ codes "\n"

-- the lines of a copy, by the number of its leg: whose listener's it is, its hops along the branch, and its end
abbrev pub copy_text : DeclaredTopology → Sender → ℕ × Leg → List ℕ
copy_text topology sender numbered =
    station_line topology (route_to sender numbered.0)
    ++ leg_lines topology (leg_at (legs_of sender.ports sender.branches) numbered.0) numbered.1

-- the lines of a frame with its number: its release, its hops along the trunk, each with the port there, and its end;
-- and behind them those of its copies, branch by branch
unfoldable pub journey_text : DeclaredNetwork → ℕ × Travel → List ℕ
journey_text network numbered =
    frame_line network numbered.0 numbered.1.release
    ++ leg_lines network.topology (trunk_at network numbered.1.release.sender) (leg_in numbered.1 0)
    ++ flat_map (copy_text network.topology (sender_at network numbered.1.release.sender))
    (enumerate_from 1 numbered.1.copies)

-- what is printed of a run: its frames in order, numbered from 0, and the totals
unfoldable pub departures_text : DeclaredNetwork → List Travel → List ℕ
departures_text network run =
    flat_map (journey_text network) (enumerate_from 0 run) ++ totals_line (totals_of network run)

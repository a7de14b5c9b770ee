use Rattle.std.specs.Prelude.{ℕ, ◌-◌, List, [], ◌++◌, codes, decimal, Option, Some, None, if◌then◌else◌}
use Rattle.std.specs.List.{flat_map, enumerate_from}
use Rattle.ats_topology.specs.Topology.{DeclaredTopology}
use Rattle.ats_topology.specs.declared.port.Port.{Port}
use Rattle.ats_port_names.specs.PortName.{port_name}
use Rattle.ats_streams.specs.Stream.{DeclaredStream}
use Rattle.ats_network.specs.Class.{class_at}
use Rattle.ats_network.specs.Sender.{stream_sender}
use Rattle.ats_network.specs.Network.{DeclaredNetwork}
use Rattle.ats_network.specs.Listeners.{Listener, listeners_of, listener_text}
use Rattle.ats_explain.specs.Parts.{parts_of_hop}
use Rattle.ats_explain.specs.Margins.{is_late, margin_on}
use Rattle.ats_explain.specs.Loads.{has_stream, port_load}
use Rattle.ats_explain.specs.Totals.{totals_of}
use Rattle.ats_explain.specs.declared.parts.Parts.{Parts}
use Rattle.ats_explain.specs.declared.parts.Stay.{Stay}
use Rattle.ats_explain.specs.declared.margin.Margin.{Margin}
use Rattle.ats_explain.specs.declared.totals.Tightest.{Tightest}
use Rattle.ats_explain.specs.declared.totals.Totals.{Totals}

-- ` late LATE` where the sum is over the deadline, else ` slack SLACK`
abbrev pub slack_text : Margin → List ℕ
slack_text margin =
    if is_late margin then (codes " late " ++ decimal (margin.sum - margin.deadline))
    else (codes " slack " ++ decimal (margin.deadline - margin.sum))

-- `stream` for the first listener of a stream, `listener` for a further one
abbrev pub kind_text : Option (List ℕ) → List ℕ
kind_text None = codes "stream "
kind_text (Some station) = codes "listener "

-- `stream NAME sum SUM deadline DEADLINE`, or `listener NAME STATION sum SUM deadline DEADLINE`, and the slack
unfoldable pub stream_line : List ℕ → Option (List ℕ) → Margin → List ℕ
stream_line name listener margin =
    kind_text listener ++ listener_text name listener ++ codes " sum " ++ decimal margin.sum
    ++ codes " deadline " ++ decimal margin.deadline ++ slack_text margin ++ codes "\n"

-- a sender's name; `-` where there is none
abbrev pub sender_text : Option (List ℕ) → List ℕ
sender_text None = codes "-"
sender_text (Some name) = name

-- ` stay NEED of RESIDENCE` where the port leads to a bridge
abbrev pub stay_text : Option Stay → List ℕ
stay_text None = []
stay_text (Some stay) = codes " stay " ++ decimal stay.need ++ codes " of " ++ decimal stay.residence

-- ` lower B NAME bursts U higher H`: the parts of the wait
unfoldable pub wait_text : Parts → List ℕ
wait_text parts =
    codes " lower " ++ decimal parts.lower ++ codes " " ++ sender_text parts.sender
    ++ codes " bursts " ++ decimal parts.bursts ++ codes " higher " ++ decimal parts.higher

-- ` frame F latency L bound D`: the other parts, and the bound
unfoldable pub bound_text : Parts → List ℕ
bound_text parts =
    codes " frame " ++ decimal parts.frame ++ codes " latency " ++ decimal parts.latency
    ++ codes " bound " ++ decimal parts.bound

-- all of them, and the stay
abbrev pub parts_text : Parts → List ℕ
parts_text parts = wait_text parts ++ bound_text parts ++ stay_text parts.stay

-- `hop PORT CLASS` and the parts
unfoldable pub hop_line : DeclaredTopology → ℕ → ℕ → Parts → List ℕ
hop_line topology port class parts =
    codes "hop " ++ port_name topology port ++ codes " " ++ decimal class ++ parts_text parts ++ codes "\n"

-- the line of a port of a stream
abbrev pub hop_text : DeclaredNetwork → DeclaredStream → ℕ → List ℕ
hop_text network stream port =
    hop_line network.topology port (class_at (stream_sender stream) port) (parts_of_hop network stream port)

-- the line of a listener, and one for each port of its leg
abbrev pub listener_lines : DeclaredNetwork → DeclaredStream → Listener → List ℕ
listener_lines network stream listener =
    stream_line stream.name listener.name (margin_on network stream listener.route)
    ++ flat_map (hop_text network stream) listener.leg

-- the lines of each listener of a stream
abbrev pub stream_text : DeclaredNetwork → DeclaredStream → List ℕ
stream_text network stream =
    flat_map (listener_lines network stream) (listeners_of network.topology stream)

-- `port PORT load LOAD`
unfoldable pub port_line : DeclaredTopology → ℕ → ℕ → List ℕ
port_line topology port load = codes "port " ++ port_name topology port ++ codes " load " ++ decimal load ++ codes "\n"

-- the line of a port, where a stream uses it
abbrev pub port_text : DeclaredNetwork → ℕ × Port → List ℕ
port_text network numbered =
    if has_stream network numbered.0 then port_line network.topology numbered.0 (port_load network numbered.0) else []

-- ` tightest NAME`, or ` tightest NAME STATION`, and its slack, where there is a stream
abbrev pub tightest_text : Option Tightest → List ℕ
tightest_text None = []
tightest_text (Some tightest) =
    codes " tightest " ++ listener_text tightest.name tightest.listener ++ slack_text tightest.margin

-- `total streams N late K over R`
unfoldable pub counts_text : Totals → List ℕ
counts_text totals =
    codes "total streams " ++ decimal totals.streams ++ codes " late " ++ decimal totals.late
    ++ codes " over " ++ decimal totals.over

-- and the tightest
abbrev pub totals_line : Totals → List ℕ
totals_line totals = counts_text totals ++ tightest_text totals.tightest ++ codes "\n"

-- what is printed of a network: each stream in order, listener by listener, with the hops of its legs; each port that a
-- stream uses by number; and totals
unfoldable pub explain_text : DeclaredNetwork → List ℕ
explain_text network =
    flat_map (stream_text network) network.streams
    ++ flat_map (port_text network) (enumerate_from 0 network.topology.ports)
    ++ totals_line (totals_of network)

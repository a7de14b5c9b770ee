use Rattle.std.specs.Prelude.{ℕ, ◌==◌, ◌&&◌, Bool, List, [], ◌∷◌, ◌++◌, length, Option, Some, None}
use Rattle.std.specs.Prelude.{if◌then◌else◌, codes, decimal}
use Rattle.std.specs.List.{flat_map, enumerate_from, list_all}
use Rattle.std.specs.Option.{option_map}
use Rattle.ats_clock.specs.declared.committed.Committed.{Committed}
use Rattle.ats_topology.specs.Port.{spread_of}
use Rattle.ats_topology.specs.Topology.{DeclaredTopology}
use Rattle.ats_topology.specs.declared.port.Port.{Port}
use Rattle.ats_port_names.specs.PortName.{name_of, port_name}
use Rattle.ats_streams.specs.Branches.{leg_at, legs_of, routes_of}
use Rattle.ats_streams.specs.Stream.{DeclaredStream}
use Rattle.ats_streams.specs.declared.branch.Branch.{Branch}
use Rattle.ats_streams.specs.Flow.{DeclaredFlow}
use Rattle.ats_network.specs.Class.{port_before}
use Rattle.ats_network.specs.Listeners.{listener_text, station_of}
use Rattle.ats_network.specs.Network.{DeclaredNetwork}
use Rattle.ats_network.specs.Rates.{committed_at, scheduled_at}
use Rattle.ats_network.specs.Sender.{Sender, stream_sender}

-- a sixth word of a port, its earliest latency, where its spread is not 0
abbrev pub earliest_text : Port → List ℕ
earliest_text port = if spread_of port == 0 then [] else (codes " " ++ decimal port.earliest.0)

-- `port NUMBER FROM>TO PS_PER_BIT LATENCY`, and the earliest latency where it is another
unfoldable pub port_line : DeclaredTopology → ℕ × Port → List ℕ
port_line topology numbered =
    codes "port " ++ decimal numbered.0 ++ codes " " ++ name_of topology numbered.1 ++ codes " "
    ++ decimal numbered.1.ps_per_bit
    ++ codes " " ++ decimal numbered.1.latency.0 ++ earliest_text numbered.1 ++ codes "\n"

-- ports, with a space before each
abbrev pub path_text : DeclaredTopology → List ℕ → List ℕ
path_text topology path = flat_map (λ p. codes " " ++ port_name topology p) path

-- classes, each behind a comma
abbrev pub behind_commas : List ℕ → List ℕ
behind_commas classes = flat_map (λ class. codes "," ++ decimal class) classes

-- the class that all of these are; where they differ, each of them, joined by commas
unfoldable pub classes_text : List ℕ → List ℕ
classes_text [] = []
classes_text (class ∷ classes) =
    decimal class ++ (if list_all (λ c. c == class) classes then [] else behind_commas classes)

-- a word, the name of a sender, its class or its classes, and its ports
unfoldable pub sender_line : DeclaredTopology → List ℕ → List ℕ → List ℕ → List ℕ → List ℕ
sender_line topology word name classes path =
    word ++ codes " " ++ name ++ codes " " ++ classes_text classes ++ path_text topology path ++ codes "\n"

-- a word, a name, the class or the classes of one leg of a stream, and the ports of this leg
abbrev pub leg_line : DeclaredTopology → List ℕ → List ℕ → DeclaredStream → ℕ → List ℕ
leg_line topology word name s leg =
    sender_line topology word name (leg_at (legs_of s.classes s.branches) leg) (leg_at (legs_of s.ports s.branches) leg)

-- `stream NAME CLASS` and the ports of the trunk, with their classes in the place of CLASS where they differ
abbrev pub stream_line : DeclaredTopology → DeclaredStream → List ℕ
stream_line topology s = leg_line topology (codes "stream") s.name s 0

-- `listener NAME STATION CLASS` and the ports of the branch that is the leg with this number, with their classes in the
-- place of CLASS where they differ
abbrev pub listener_line : DeclaredTopology → DeclaredStream → ℕ → List ℕ
listener_line topology s leg =
    leg_line topology (codes "listener")
    (listener_text s.name (Some (station_of topology (leg_at (routes_of s.ports s.branches) leg)))) s leg

-- the line of a stream, and behind it one for each branch
abbrev pub stream_lines : DeclaredTopology → DeclaredStream → List ℕ
stream_lines topology s =
    stream_line topology s
    ++ flat_map (λ (b : ℕ × Branch). listener_line topology s b.0) (enumerate_from 1 s.branches)

-- `RATE:BURST`, with a space before
abbrev pub committed_text : Committed → List ℕ
committed_text c = codes " " ++ decimal c.rate ++ codes ":" ++ decimal c.burst_bits

-- the rate and the burst are those that a sender declares
abbrev pub is_declared : Sender → Committed → Bool
is_declared s c = c.rate == s.rate && c.burst_bits == s.burst_bits

-- what a sender's scheduler has behind the port that comes before one of its ports; none where that one leaves its
-- talker
abbrev pub scheduled_before : DeclaredTopology → Sender → ℕ → Option Committed
scheduled_before topology s port = option_map (λ before. scheduled_at topology before s) (port_before s port)

-- what a sender's scheduler has in front of a hop, if there is one, and what the hop sees of the sender, are as it
-- declares
abbrev pub are_declared : Sender → Option Committed → Committed → Bool
are_declared s None seen = is_declared s seen
are_declared s (Some scheduled) seen = is_declared s scheduled && is_declared s seen

-- so it is at one of its ports
abbrev pub hop_is_declared : DeclaredTopology → Sender → ℕ → Bool
hop_is_declared topology s port = are_declared s (scheduled_before topology s port) (committed_at topology port s)

-- both; without a scheduler nothing, where what the hop sees is as the sender declares
abbrev pub rates_text : Sender → Option Committed → Committed → List ℕ
rates_text s None seen = if is_declared s seen then [] else committed_text seen
rates_text s (Some scheduled) seen = committed_text scheduled ++ committed_text seen

-- so it is at one of its ports
abbrev pub hop_text : DeclaredTopology → Sender → ℕ → List ℕ
hop_text topology s port = rates_text s (scheduled_before topology s port) (committed_at topology port s)

-- `rates NAME` and the rates and bursts of a sender at its ports; nothing where they are all as it declares
unfoldable pub rates_line : DeclaredTopology → Sender → List ℕ
rates_line topology s =
    if list_all (hop_is_declared topology s) s.ports
    then []
    else (codes "rates " ++ s.name ++ flat_map (hop_text topology s) s.ports ++ codes "\n")

-- the lines of a stream, and behind them that of its rates
abbrev pub stream_text : DeclaredTopology → DeclaredStream → List ℕ
stream_text topology s = stream_lines topology s ++ rates_line topology (stream_sender s)

-- `flow NAME 0` and its ports
abbrev pub flow_line : DeclaredTopology → DeclaredFlow → List ℕ
flow_line topology f = sender_line topology (codes "flow") f.name (0 ∷ []) f.path

-- `total ports P streams S flows F`
unfoldable pub totals_line : ℕ → ℕ → ℕ → List ℕ
totals_line ports streams flows = codes "total ports " ++ decimal ports ++ codes " streams " ++ decimal streams
    ++ codes " flows " ++ decimal flows ++ codes "\n"

-- what is printed of a network: its ports by number, its streams with their branches and its flows in order, each with
-- its ports, and where clocks change the rates of a stream those behind it, and how many there are
unfoldable pub show_text : DeclaredNetwork → List ℕ
show_text network =
    flat_map (port_line network.topology) (enumerate_from 0 network.topology.ports)
    ++ flat_map (stream_text network.topology) network.streams
    ++ flat_map (flow_line network.topology) network.flows
    ++ totals_line (length network.topology.ports) (length network.streams) (length network.flows)

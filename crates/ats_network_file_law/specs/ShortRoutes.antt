use Rattle.std.specs.Prelude.{◌≡◌, ◌≤◌, ℕ, IsTrue, List, length, All, Result, Ok, Some}
use Rattle.ats_num.specs.Failure.{◌>>=◌}
use Rattle.ats_topology.specs.Topology.{DeclaredTopology, topology_of}
use Rattle.ats_streams.specs.declared.path.TheConstants.{MAX_PORTS, MAX_SHORT_PORTS}
use Rattle.ats_network.specs.Ends.{joins_stations}
use Rattle.ats_network.specs.Network.{DeclaredNetwork}
use Rattle.ats_network_table.specs.declared.format.Format.TheVariants.{One, Three, Two}
use Rattle.ats_network_toml.specs.Document as file
use Rattle.ats_network_file.specs.Reading.{links_of, network_in, nodes_of}
use Rattle.ats_network_file.specs.Routes.{ports_of}
use Rattle.ats_network_file.specs.declared.fault.NetFault.{NetFault}
use Rattle.ats_network_file_law.specs.Entries.{declared_flows, declared_streams}

-- these ports are at most 16, and the first leaves a station, and the last leads to one
pub record IsShortBetweenStations (topology : DeclaredTopology) (ports : List ℕ) : Type 0 where
  pub few : length ports ≤ MAX_SHORT_PORTS
  pub stations : IsTrue (joins_stations topology ports)

-- so are the ports of a route, where it has some
abbrev pub HasShortRoute : DeclaredTopology → file.DeclaredRoute → Type 0
HasShortRoute topology route =
    (ports : List ℕ) → ports_of topology route ≡ Some ports → IsShortBetweenStations topology ports

-- so they are of each stream and each flow that a document declares, those for each port too
abbrev pub StreamIsShort : DeclaredTopology → file.DeclaredStream → Type 0
StreamIsShort topology e = All (HasShortRoute topology) e.routes

abbrev pub FlowIsShort : DeclaredTopology → file.DeclaredFlow → Type 0
FlowIsShort topology e = HasShortRoute topology e.route

abbrev pub HasShortSenders : DeclaredTopology → file.DeclaredDocument → Type 0
HasShortSenders topology d =
    All (StreamIsShort topology) (declared_streams topology d) × All (FlowIsShort topology) (declared_flows topology d)

abbrev pub HasShortEntries : file.DeclaredDocument → Type 0
HasShortEntries d = HasShortSenders (topology_of (nodes_of d) (links_of d)) d

-- a network, as one whose routes may be long
abbrev pub as_long : Result DeclaredNetwork NetFault → Result DeclaredNetwork NetFault
as_long made = made >>= λ network. Ok (record network { most_ports = MAX_PORTS })

-- with short routes between stations a document declares in format 3 the network that it declares in format 2, but for
-- the greatest number of ports of a route, or has the same first fault
abbrev pub ShortRoutesAreOfBoth : Type 0
ShortRoutesAreOfBoth = (d : file.DeclaredDocument) → HasShortEntries d
    → network_in (record d { format = Three }) ≡ as_long (network_in (record d { format = Two }))

-- by the same tables formats 1 and 2 declare the same network, or have the same first fault
abbrev pub FormatOneIsFormatTwo : Type 0
FormatOneIsFormatTwo =
    (d : file.DeclaredDocument) → network_in (record d { format = One }) ≡ network_in (record d { format = Two })

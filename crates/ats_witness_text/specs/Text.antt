use Rattle.std.specs.Prelude.{ℕ, ◌-◌, ◌==◌, List, [], ◌++◌, Option, None, Some, codes, decimal, slice_index}
use Rattle.std.specs.Prelude.{if◌then◌else◌}
use Rattle.std.specs.List.{enumerate_from, flat_map, zip}
use Rattle.ats_topology.specs.Topology.{DeclaredTopology}
use Rattle.ats_port_names.specs.PortName.{port_name}
use Rattle.ats_network.specs.Listeners.{listener_text, station_of}
use Rattle.ats_network.specs.Network.{DeclaredNetwork}
use Rattle.ats_network.specs.Senders.{sender_at}
use Rattle.ats_trace.specs.Ways.{route_to}
use Rattle.ats_trace.specs.declared.journey.Release.{Release}
use Rattle.ats_witness.specs.Found.{FoundDelays}

-- `hop PORT DELAY`, for a port and the delay found there
unfoldable pub hop_line : DeclaredTopology → ℕ × ℕ → List ℕ
hop_line topology at_port =
    codes "hop " ++ port_name topology at_port.0 ++ codes " " ++ decimal at_port.1 ++ codes "\n"

-- `release AT NAME OCTETS`
unfoldable pub release_line : DeclaredNetwork → Release → List ℕ
release_line network r =
    codes "release " ++ decimal r.at.0 ++ codes " " ++ (sender_at network r.sender).name ++ codes " "
    ++ decimal r.octets ++ codes "\n"

-- the name by which a stream's listener is told from the first, by their numbers: that of its node
abbrev pub station_at : DeclaredNetwork → ℕ → ℕ → Option (List ℕ)
station_at network stream listener =
    if listener == 0 then None
    else Some (station_of network.topology (route_to (sender_at network stream) listener))

-- in front of what is found for a further listener `listener NAME STATION`, and of that for the first nothing
unfoldable pub title_line : List ℕ → Option (List ℕ) → List ℕ
title_line stream None = []
title_line stream (Some station) = codes "listener " ++ listener_text stream (Some station) ++ codes "\n"

-- `witness NAME delay D bound B gap G`, of a further listener `witness NAME STATION delay ..`, where the gap is by how
-- much the bound is above the delay
unfoldable pub witness_line : List ℕ → Option (List ℕ) → ℕ → ℕ → List ℕ
witness_line stream station delay bound =
    codes "witness " ++ listener_text stream station ++ codes " delay " ++ decimal delay ++ codes " bound "
    ++ decimal bound ++ codes " gap " ++ decimal (bound - delay) ++ codes "\n"

-- what is printed of what is found of a stream for a listener: a further one's title, a line for each port of the route
-- there, with the delay found there, then the releases, and last the listener with the greatest delay found and with
-- this bound
unfoldable pub found_text : DeclaredNetwork → ℕ → ℕ → FoundDelays → ℕ → List ℕ
found_text network stream listener found bound =
    title_line (sender_at network stream).name (station_at network stream listener)
    ++ flat_map (hop_line network.topology) (zip (route_to (sender_at network stream) listener) found.delays)
    ++ flat_map (release_line network) found.releases
    ++ witness_line (sender_at network stream).name (station_at network stream listener)
    (slice_index found.delays found.hop) bound

-- so for each of its listeners, one by one, with the bound for each
unfoldable pub witness_text : DeclaredNetwork → ℕ → List FoundDelays → (ℕ → ℕ) → List ℕ
witness_text network stream founds bound =
    flat_map (λ (f : ℕ × FoundDelays). found_text network stream f.0 f.1 (bound f.0)) (enumerate_from 0 founds)

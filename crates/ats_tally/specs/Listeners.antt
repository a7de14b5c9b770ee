use Rattle.std.specs.Prelude.{ℕ, [], None, slice_index_or}
use Rattle.ats_topology.specs.Topology.{DeclaredTopology}
use Rattle.ats_streams.specs.Stream.{DeclaredStream}
use Rattle.ats_network.specs.Listeners.{Listener, listeners_of}

-- for numbers past that of the last listener
abbrev pub no_listener : Listener
no_listener = record { name = None; leg = []; route = [] }

-- the listener of a stream to which the leg with this number leads
abbrev pub listener_at : DeclaredTopology → DeclaredStream → ℕ → Listener
listener_at topology stream leg = slice_index_or (listeners_of topology stream) leg no_listener

use Rattle.std.specs.Prelude.{ℕ, ◌==◌, if◌then◌else◌, Bool, ◌||◌, nat_lt, List, [], ◌∷◌, map, slice_index_or, All}
use Rattle.std.specs.List.{before_first, list_any}
use Rattle.ats_num.specs.declared.rate.TheConstants.{MAX_BPS, MAX_BURST_BITS}
use Rattle.ats_clock.specs.Clock.{DeclaredClock}
use Rattle.ats_clock.specs.Rates.{IsCommitted, committed, output_behind, output_of, scheduler_for}
use Rattle.ats_clock.specs.declared.committed.Committed.{Committed}
use Rattle.ats_topology.specs.Node.{clock_of}
use Rattle.ats_topology.specs.Port.{port_at}
use Rattle.ats_topology.specs.Topology.{DeclaredTopology, node_at}
use Rattle.ats_streams.specs.Branches.{routes_of}
use Rattle.ats_streams.specs.Stream.{DeclaredStream}
use Rattle.ats_streams.specs.Traffic.{declared_as}
use Rattle.ats_streams.specs.declared.traffic.Declared.{Declared}
use Rattle.ats_network.specs.Sender.{Sender, stream_sender}

-- the ports in front of one on the first of these routes that has it
abbrev pub in_front_on : ℕ → List (List ℕ) → List ℕ
in_front_on port [] = []
in_front_on port (route ∷ routes) =
    if list_any (λ p. p == port) route then before_first (λ p. p == port) route else in_front_on port routes

-- the ports over which a sender's frames come to one of its ports: those in front of it on its routes, all of which
-- come to it in the same way
abbrev pub ports_to : Sender → ℕ → List ℕ
ports_to s port = in_front_on port (routes_of s.ports s.branches)

-- the clock of the schedulers behind a port: that of the node to which it leads
abbrev pub clock_behind : DeclaredTopology → ℕ → DeclaredClock
clock_behind topology port = clock_of (node_at topology.nodes (port_at topology.ports port).to).kind

-- the clock of a sender's talker
abbrev pub talker_clock : DeclaredTopology → Sender → DeclaredClock
talker_clock topology s =
    clock_of (node_at topology.nodes (port_at topology.ports (slice_index_or s.ports 0 0)).from).kind

-- to which rate and burst the frames of a sender conform in true time where they are eligible at a port: by its
-- talker's clock to the declared ones, and behind each bridge on the way to what its clock makes of them
abbrev pub committed_at : DeclaredTopology → ℕ → Sender → Committed
committed_at topology port s = output_behind (map (clock_behind topology) (ports_to s port))
    (output_of (talker_clock topology s) (committed s.rate s.burst_bits))

-- what its scheduler behind a port has
abbrev pub scheduled_at : DeclaredTopology → ℕ → Sender → Committed
scheduled_at topology port s = scheduler_for (clock_behind topology port) (committed_at topology port s)

-- a scheduler may have what comes of a sender to a port, and what the sender's scheduler has behind that port
pub record IsRated (topology : DeclaredTopology) (s : Sender) (port : ℕ) : Type 0 where
  pub seen : IsCommitted (committed_at topology port s)
  pub scheduled : IsCommitted (scheduled_at topology port s)

-- so it is at each port of a stream
abbrev pub HasRates : DeclaredTopology → DeclaredStream → Type 0
HasRates topology stream = All (IsRated topology (stream_sender stream)) stream.ports

-- a rate or a burst is over the limits of a scheduler
abbrev pub is_committed_over : Committed → Bool
is_committed_over c = nat_lt MAX_BPS c.rate || nat_lt MAX_BURST_BITS c.burst_bits

-- at one of its ports what comes of a sender is over them, or what its scheduler has behind the port
abbrev pub is_overrated : DeclaredTopology → Sender → Bool
is_overrated topology s =
    list_any
    (λ port. is_committed_over (committed_at topology port s) || is_committed_over (scheduled_at topology port s))
    s.ports

-- a sender's sizes, with this rate and burst
abbrev pub declared_with : Committed → Sender → Declared
declared_with c s = declared_as c.rate c.burst_bits s.min_octets s.max_octets

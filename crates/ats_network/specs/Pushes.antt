use Rattle.std.specs.Prelude.{ℕ, ◌+◌, Bool, false, ◌&&◌, ◌||◌, ◌==◌, nat_le, nat_lt, if◌then◌else◌, List, [], ◌∷◌}
use Rattle.std.specs.Prelude.{◌++◌, length}
use Rattle.std.specs.Prelude.{Option, Some, None, is_some}
use Rattle.std.specs.List.{position_from}
use Rattle.ats_num.specs.Places.{place_of}
use Rattle.ats_streams.specs.Stream.{DeclaredStream}
use Rattle.ats_streams.specs.Flow.{DeclaredFlow}
use Rattle.ats_network.specs.Network.{DeclaredNetwork, network_within, senders_of, names_of, ports_together}
use Rattle.ats_network.specs.Rates.{is_overrated}
use Rattle.ats_network.specs.Sender.{stream_sender}
use Rattle.ats_network.specs.declared.network.TheConstants.{MAX_STREAMS, MAX_FLOWS, MAX_PORTS_TOGETHER}
use Rattle.ats_network.specs.declared.fault.PushFault.{PushFault}
use Rattle.ats_network.specs.declared.fault.PushFault.TheVariants.{NameTaken, IdentityTaken, Limit}

-- the network with one stream more, the last of them
abbrev pub with_stream : DeclaredNetwork → DeclaredStream → DeclaredNetwork
with_stream network stream =
    network_within network.topology network.most_ports (network.streams ++ stream ∷ []) network.flows

-- the network with one flow more, the last of them
abbrev pub with_flow : DeclaredNetwork → DeclaredFlow → DeclaredNetwork
with_flow network flow =
    network_within network.topology network.most_ports network.streams (network.flows ++ flow ∷ [])

-- a sender of the network has this name
abbrev pub is_name_taken : DeclaredNetwork → List ℕ → Bool
is_name_taken network name = is_some (place_of name (names_of (senders_of network)))

-- what a stream may declare is this destination address and VLAN identifier
abbrev pub is_identity : ℕ × ℕ → Option (ℕ × ℕ) → Bool
is_identity identity None = false
is_identity identity (Some declared) = declared.0 == identity.0 && declared.1 == identity.1

-- a stream declares this destination address and VLAN identifier
abbrev pub has_identity : ℕ × ℕ → DeclaredStream → Bool
has_identity identity stream = is_identity identity stream.identity

-- the number of the stream that declares this destination address and VLAN identifier, if there is one
abbrev pub place_identified : ℕ × ℕ → List DeclaredStream → Option ℕ
place_identified identity streams = position_from (has_identity identity) 0 streams

-- an identity is given, and one of the streams has it
abbrev pub is_identity_taken : List DeclaredStream → Option (ℕ × ℕ) → Bool
is_identity_taken streams None = false
is_identity_taken streams (Some identity) = is_some (place_identified identity streams)

-- there is no room for one more stream with these ports: there are as many streams as may be, or with it they would
-- have more ports together than they may
abbrev pub is_full : List DeclaredStream → List ℕ → Bool
is_full streams ports =
    nat_le MAX_STREAMS (length streams) || nat_lt MAX_PORTS_TOGETHER (ports_together streams + length ports)

-- a stream is over a limit: there is no room for it, or a rate or a burst of it at one of its ports is over the limits
-- of a scheduler
abbrev pub is_beyond : DeclaredNetwork → DeclaredStream → Bool
is_beyond network stream =
    is_full network.streams stream.ports || is_overrated network.topology (stream_sender stream)

-- why a stream can't be added, if it can't: its name is taken, then its identity, then it is over a limit
abbrev pub stream_push_fault : DeclaredNetwork → DeclaredStream → Option PushFault
stream_push_fault network stream =
    if is_name_taken network stream.name then Some NameTaken
    else if is_identity_taken network.streams stream.identity then Some IdentityTaken
    else if is_beyond network stream then Some Limit
    else None

-- why a flow can't be added, if it can't: its name is taken, then as many flows as may be are there
abbrev pub flow_push_fault : DeclaredNetwork → DeclaredFlow → Option PushFault
flow_push_fault network flow =
    if is_name_taken network flow.name then Some NameTaken
    else if nat_le MAX_FLOWS (length network.flows) then Some Limit
    else None

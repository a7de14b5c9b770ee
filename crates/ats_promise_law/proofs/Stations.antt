-- A network file of format 1 or 2 declares a network whose bridges have no frames of their own.
use Rattle.std.proofs.Common.{◌≡◌, ℕ, ◌<◌, ◌≤◌, Bool, true, false, List, [], ◌∷◌, length, get_or, All, refl, sym, subst}
use Rattle.std.proofs.Common.{map, ◌∙◌, arith}
use Rattle.std.specs.Prelude.{nat_lt, codes, Result, Ok, Err, if◌then◌else◌}
use Rattle.std.proofs.lemmas.List.Elements.{All-nil, All-cons, All-append, All-map, All-weaker}
use Rattle.ats_num.specs.Failure.{◌>>=◌}
use Rattle.ats_topology.specs.Port.{port_at}
use Rattle.ats_topology.specs.Topology.{IsStationAt}
use Rattle.ats_topology.specs.declared.port.Port.{Port}
use Rattle.ats_streams.specs.Branches.{routes_of}
use Rattle.ats_streams.specs.Flow.{DeclaredFlow}
use Rattle.ats_streams.specs.Path.{IsPath}
use Rattle.ats_streams.proofs.BranchLemmas.{routes-length}
use Rattle.ats_network.specs.Network.{DeclaredNetwork, senders_of}
use Rattle.ats_network.specs.Sender.{Sender, flow_sender, stream_sender}
use Rattle.ats_network.specs.Senders.{IsSender, no_sender, sender_at}
use Rattle.ats_network_file.specs.FaultText.{fault_text}
use Rattle.ats_network_file.specs.Reading.{IsBeforeFormat3, network_of}
use Rattle.ats_network_file.specs.Stations.{JoinStations, JoinsStations}
use Rattle.ats_network_file.specs.declared.fault.NetFault.{NetFault}
use Rattle.ats_network_file.proofs.Networks.{declared_is_network, each_joins_stations}
use Rattle.ats_trace.specs.Talker.{start_of}
use Rattle.ats_trace.specs.Ways.{listener_count, route_to}
use Rattle.ats_soundness_law.specs.Sound.{BeginAtStations}
use Rattle.ats_soundness_law.proofs.Journeys.{route_starts}
use Rattle.ats_soundness_law.proofs.Paths.{sender_is}
use Rattle.ats_command_input.specs.Answer.{input_answer}
use Rattle.ats_command_input.specs.Input.{declared_in, network_in}
use Rattle.ats_promise_law.specs.Stations.{JoinedBeginAtStations}

-- so do the routes of each sender
senders_join : (network : DeclaredNetwork) → JoinStations network
    → All (λ (s : Sender). All (JoinsStations network.topology) (routes_of s.ports s.branches)) (senders_of network)
senders_join network join =
    let Joins : Sender → Type 0 = λ s. All (JoinsStations network.topology) (routes_of s.ports s.branches) in
    All-append Joins (map stream_sender network.streams) (map flow_sender network.flows)
    (All-map Joins stream_sender network.streams join.streams)
    (All-map Joins flow_sender network.flows
    (All-weaker (λ (f : DeclaredFlow). JoinsStations network.topology f.path)
    (λ (f : DeclaredFlow). Joins (flow_sender f))
    (λ f h. All-cons (JoinsStations network.topology) f.path [] h (All-nil (JoinsStations network.topology)))
    network.flows join.flows))

start_is : (ports : List Port) (path : List ℕ) → 1 ≤ length path
    → start_of ports path ≡ (port_at ports (get_or path 0 0)).from
start_is ports [] some = absurd (omega (arith, some))
start_is ports (p ∷ path) some = refl

-- the first route of a sender begins at its talker
pub joined_begin_at_stations : JoinedBeginAtStations
joined_begin_at_stations network net join i within =
    let s : Sender = sender_at network i in
    let keeps : IsSender network.topology s = sender_is network net i within in
    let one : 0 < length (routes_of s.ports s.branches) = omega (arith, routes-length s.ports s.branches) in
    let path : IsPath (route_to s 0) = keeps.routes 0 [] one in
    let joins : JoinsStations network.topology (route_to s 0) = senders_join network join i no_sender within 0 [] one in
    subst (IsStationAt network.topology)
    (sym (start_is network.topology.ports (route_to s 0) path.least) ∙ route_starts network.topology s 0 keeps one)
    joins.begins

-- what a file declares is what its bytes are read as
read_as : (file : List ℕ) (read : Result DeclaredNetwork NetFault) (network : DeclaredNetwork)
    → declared_in file fault_text read ≡ Ok network → read ≡ Ok network
read_as file (Ok one) network h = cc
read_as file (Err fault) network h = cc

network_read : (net bytes : List ℕ) (network : DeclaredNetwork) → network_in net bytes ≡ Ok network
    → network_of bytes ≡ Ok network
unfolding network_in
network_read net bytes network h = by (nat_lt 16777216 (length bytes)) h
  where
    by : (b : Bool) → ((if b then Err (input_answer net (codes "too-long")) else Ok bytes)
        >>= λ text. declared_in net fault_text (network_of text)) ≡ Ok network → network_of bytes ≡ Ok network
    by true g = absurd (cc)
    by false g = read_as net (network_of bytes) network g

-- so in a file of format 1 or 2 bridges have no frames of their own
pub file_begins_at_stations : (net bytes : List ℕ) (network : DeclaredNetwork) → network_in net bytes ≡ Ok network
    → IsBeforeFormat3 bytes → BeginAtStations network
file_begins_at_stations net bytes network h before =
    let is : network_of bytes ≡ Ok network = network_read net bytes network h in
    joined_begin_at_stations network (declared_is_network bytes network is)
    (each_joins_stations bytes network before is)

use Rattle.std.proofs.Common.{◌≡◌, ℕ, List, [], ◌∷◌, None, Result, Ok, Err, refl, ap, ◌∙◌}
use Rattle.std.specs.Fmt.{digits}
use Rattle.std.specs.Prelude.{codes}
use Rattle.ats_num.specs.Failure.{◌>>=◌}
use Rattle.ats_topology.specs.Topology.{DeclaredTopology, topology_of}
use Rattle.ats_streams.specs.Flow.{DeclaredFlow, declared_flow}
use Rattle.ats_streams.specs.Stream.{DeclaredStream, declared_stream}
use Rattle.ats_streams.specs.declared.fault.StreamFault.TheVariants as rule
use Rattle.ats_network.specs.Network.{DeclaredNetwork, long_network}
use Rattle.ats_network.specs.Path.{IsValidPath}
use Rattle.ats_network_table.specs.declared.format.Format.TheVariants.{Three}
use Rattle.ats_network_toml.specs.Document as file
use Rattle.ats_network_file.specs.Reading.{links_of, network_in, nodes_of}
use Rattle.ats_network_file.specs.Senders.{all_added, flow_added, legs_in, path_in, stream_added}
use Rattle.ats_network_file.specs.declared.fault.NetFault.{NetFault}
use Rattle.ats_network_file.specs.declared.fault.NetFault.TheVariants as fault
use Rattle.ats_network_file.specs.declared.senders.Place.{Place}
use Rattle.ats_network_file.specs.declared.senders.SenderTable.TheVariants.{Flow, LinkLocal, LinkLocalFlow, Stream}
use Rattle.ats_examples.proofs.NetworkTest.{valid_from_by}
use Rattle.ats_file_examples.proofs.Steps.{at_flow, at_stream, flow_is, legs_is, none_more, one_leg, one_more, path_is}
use Rattle.ats_file_examples.proofs.Steps.{stream_is}
use Rattle.ats_first_examples.specs.Ports.{ArraysOfThreeAreFirst, LocalFlowTablesAreJudged, LocalKeysAreMissing}
use Rattle.ats_first_examples.specs.Ports.{LocalKindsAreWrong, LocalsAreRead, NamesLeaveRoom, PortSendersAreFirst}
use Rattle.ats_first_examples.specs.Ports.{PortsAreFirst, TopOfThreeIsFirst, a_flow, a_stream, along, flow_for_ports}
use Rattle.ats_first_examples.specs.Ports.{for_ports, nowhere, pair_with}

-- Tables for each port by computation, and the senders of a file one after another.

local_keys_are_missing : LocalKeysAreMissing
local_keys_are_missing = record {
  name = refl;
  class = refl;
  rate = refl;
  burst = refl;
  least = refl;
  greatest = refl;
  classes = refl;
}

local_kinds_are_wrong : LocalKindsAreWrong
local_kinds_are_wrong = record {
  unknown = refl;
  no_deadline = refl;
  route = refl;
  identity = refl;
  classes = refl;
  name = refl;
  class = refl;
  rate = refl;
  burst = refl;
  least = refl;
  greatest = refl;
  deadline = refl;
  list = refl;
}

locals_are_read : LocalsAreRead
locals_are_read = record { with_deadline = refl; without = refl }

local_flow_tables_are_judged : LocalFlowTablesAreJudged
local_flow_tables_are_judged = record {
  no_name = refl;
  no_size = refl;
  unknown = refl;
  of_flows = refl;
  of_streams = refl;
  name = refl;
  size = refl;
  declared = refl;
}

names_leave_room : NamesLeaveRoom
unfolding digits
names_leave_room = record {
  at_port = refl;
  longest = refl;
  longer = refl;
  none = refl;
  two_words = refl;
  of_stream = refl;
  of_flow = refl;
  of_flow_longest = refl;
}

top_of_three_is_first : TopOfThreeIsFirst
top_of_three_is_first = record {
  no_format = refl;
  unknown = refl;
  format = refl;
  station = refl;
  bridge = refl;
  link = refl;
  stream = refl;
  link_local = refl;
  flow = refl;
  link_local_flow = refl;
  tables = refl;
  others = refl;
  others_for_flows = refl;
  no_table = refl;
  one_table = refl;
}

arrays_of_three_are_first : ArraysOfThreeAreFirst
arrays_of_three_are_first = record {
  streams = refl;
  too_many = refl;
  link_locals = refl;
  too_many_flows = refl;
  flows = refl;
  too_many_for_ports = refl;
  link_local_flows = refl;
}

-- the topology of the pair, and a network of these streams over it
abbrev pair : DeclaredTopology
pair = topology_of (nodes_of (pair_with [] [] [] [])) (links_of (pair_with [] [] [] []))

abbrev over : List DeclaredStream → DeclaredNetwork
over streams = long_network pair streams []

-- where the first and the second entry for each port stand
abbrev local : ℕ → Place
local n = record { table = LinkLocal; number = n }

abbrev local_flow : ℕ → Place
local_flow n = record { table = LinkLocalFlow; number = n }

-- the route along port 1, and what stands there
abbrev back : file.DeclaredRoute
back = file.path (codes "b1" ∷ codes "s1" ∷ [])

abbrev entry : List ℕ → file.DeclaredRoute → ℕ → file.DeclaredStream
entry name route class = record {
  name = name;
  routes = route ∷ [];
  classes = class ∷ [];
  rate_bps = 1;
  burst_bits = 672;
  min_octets = 64;
  max_octets = 64;
  deadline_ns = 1;
  identity = None;
}

abbrev flow_entry : List ℕ → file.DeclaredRoute → ℕ → file.DeclaredFlow
flow_entry name route most = record { name = name; route = route; max_octets = most }

-- a stream over a port
abbrev there : List ℕ → ℕ → DeclaredStream
there name port = declared_stream name (port ∷ []) (1 ∷ []) 1 672 64 64 1 None

valid_0 : IsValidPath pair (0 ∷ [])
valid_0 = valid_from_by pair 0 (0 ∷ []) refl

valid_1 : IsValidPath pair (1 ∷ [])
valid_1 = valid_from_by pair 1 (1 ∷ []) refl

legs_0 : (n : Place) → legs_in Three pair n (along ∷ []) ≡ Ok (one_leg (0 ∷ []))
legs_0 n = legs_is Three pair n (along ∷ []) (0 ∷ []) refl refl valid_0

legs_1 : (n : Place) → legs_in Three pair n (back ∷ []) ≡ Ok (one_leg (1 ∷ []))
legs_1 n = legs_is Three pair n (back ∷ []) (1 ∷ []) refl refl valid_1

path_0 : (n : Place) → path_in Three pair n along ≡ Ok (0 ∷ [])
path_0 n = path_is Three pair n along (0 ∷ []) refl refl valid_0

path_1 : (n : Place) → path_in Three pair n back ≡ Ok (1 ∷ [])
path_1 n = path_is Three pair n back (1 ∷ []) refl refl valid_1

-- senders with their places, and what a file of them comes to
abbrev Streams : Type 0
Streams = List (Place × file.DeclaredStream)

abbrev Flows : Type 0
Flows = List (Place × file.DeclaredFlow)

abbrev comes_to : Streams → Flows → Result DeclaredNetwork NetFault
comes_to streams flows =
    all_added (stream_added Three) (over []) streams >>= λ streamed. all_added (flow_added Three) streamed flows

-- a stream has this fault, or a flow behind all streams
stream_fails : (streams : Streams) (flows : Flows) (why : NetFault)
    → all_added (stream_added Three) (over []) streams ≡ Err why → comes_to streams flows ≡ Err why
stream_fails streams flows why is =
    ap (λ (r : Result DeclaredNetwork NetFault). r >>= λ streamed. all_added (flow_added Three) streamed flows) is

flow_fails : (streams : Streams) (flows : Flows) (network : DeclaredNetwork) (why : NetFault)
    → all_added (stream_added Three) (over []) streams ≡ Ok network
    → all_added (flow_added Three) network flows ≡ Err why → comes_to streams flows ≡ Err why
flow_fails streams flows network why taken is =
    ap (λ (r : Result DeclaredNetwork NetFault). r >>= λ streamed. all_added (flow_added Three) streamed flows) taken
    ∙ is

-- the two streams of an entry for the ports are taken, and what follows
abbrev both : List DeclaredStream
both = there (codes "g-0") 0 ∷ there (codes "g-1") 1 ∷ []

abbrev g0 : file.DeclaredStream
g0 = entry (codes "g-0") along 1

abbrev g1 : file.DeclaredStream
g1 = entry (codes "g-1") back 1

taken : (rest : Streams)
    → all_added (stream_added Three) (over []) ((local 1, g0) ∷ (local 1, g1) ∷ rest)
    ≡ all_added (stream_added Three) (over both) rest
taken rest =
    one_more (stream_added Three) (over []) (over (there (codes "g-0") 0 ∷ [])) (local 1) g0 ((local 1, g1) ∷ rest)
    (stream_is Three (over []) (local 1) g0 (one_leg (0 ∷ [])) (Ok (over (there (codes "g-0") 0 ∷ [])))
    (legs_0 (local 1)) refl)
    ∙ one_more (stream_added Three) (over (there (codes "g-0") 0 ∷ [])) (over both) (local 1) g1 rest
    (stream_is Three (over (there (codes "g-0") 0 ∷ [])) (local 1) g1 (one_leg (1 ∷ [])) (Ok (over both))
    (legs_1 (local 1)) refl)

stream_first : network_in (pair_with (a_stream (codes "a") 0 ∷ []) (for_ports (codes "g") 0 ∷ []) [] [])
    ≡ Err (fault.Sender Stream 1 rule.BadClass)
unfolding digits
stream_first =
    let why : NetFault = fault.Sender Stream 1 rule.BadClass in
    let a : file.DeclaredStream = entry (codes "a") along 0 in
    let rest : Streams = (local 1, entry (codes "g-0") along 0) ∷ (local 1, entry (codes "g-1") back 0) ∷ [] in
    stream_fails ((at_stream 1, a) ∷ rest) [] why (none_more (stream_added Three) (over []) (at_stream 1) a rest why
    (stream_is Three (over []) (at_stream 1) a (one_leg (0 ∷ [])) (Err why) (legs_0 (at_stream 1)) refl))

local_first : network_in (pair_with [] (for_ports (codes "g") 0 ∷ []) (a_flow (codes "f") nowhere ∷ []) [])
    ≡ Err (fault.Sender LinkLocal 1 rule.BadClass)
unfolding digits
local_first =
    let why : NetFault = fault.Sender LinkLocal 1 rule.BadClass in
    let g : file.DeclaredStream = entry (codes "g-0") along 0 in
    let rest : Streams = (local 1, entry (codes "g-1") back 0) ∷ [] in
    stream_fails ((local 1, g) ∷ rest) ((at_flow 1, flow_entry (codes "f") nowhere 64) ∷ []) why
    (none_more (stream_added Three) (over []) (local 1) g rest why
    (stream_is Three (over []) (local 1) g (one_leg (0 ∷ [])) (Err why) (legs_0 (local 1)) refl))

flow_first : network_in (pair_with [] [] (a_flow (codes "f") nowhere ∷ []) (flow_for_ports (codes "l") 63 ∷ []))
    ≡ Err (fault.BadPath Flow 1)
unfolding digits
flow_first =
    let why : NetFault = fault.BadPath Flow 1 in
    let f : file.DeclaredFlow = flow_entry (codes "f") nowhere 64 in
    let rest : Flows =
    (local_flow 1, flow_entry (codes "l-0") along 63) ∷ (local_flow 1, flow_entry (codes "l-1") back 63) ∷ [] in
    flow_fails [] ((at_flow 1, f) ∷ rest) (over []) why refl
    (none_more (flow_added Three) (over []) (at_flow 1) f rest why refl)

local_flow_last : network_in (pair_with [] [] [] (flow_for_ports (codes "l") 63 ∷ []))
    ≡ Err (fault.Sender LinkLocalFlow 1 rule.BadSizes)
unfolding digits
local_flow_last =
    let why : NetFault = fault.Sender LinkLocalFlow 1 rule.BadSizes in
    let l : file.DeclaredFlow = flow_entry (codes "l-0") along 63 in
    let rest : Flows = (local_flow 1, flow_entry (codes "l-1") back 63) ∷ [] in
    flow_fails [] ((local_flow 1, l) ∷ rest) (over []) why refl
    (none_more (flow_added Three) (over []) (local_flow 1) l rest why
    (flow_is Three (over []) (local_flow 1) l (0 ∷ []) (Err why) (path_0 (local_flow 1)) refl))

second_named : network_in (pair_with [] (for_ports (codes "g") 1 ∷ for_ports (codes "h") 8 ∷ []) [] [])
    ≡ Err (fault.Sender LinkLocal 2 rule.BadClass)
unfolding digits
second_named =
    let why : NetFault = fault.Sender LinkLocal 2 rule.BadClass in
    let h : file.DeclaredStream = entry (codes "h-0") along 8 in
    let rest : Streams = (local 2, entry (codes "h-1") back 8) ∷ [] in
    stream_fails ((local 1, g0) ∷ (local 1, g1) ∷ (local 2, h) ∷ rest) [] why (taken ((local 2, h) ∷ rest)
    ∙ none_more (stream_added Three) (over both) (local 2) h rest why
    (stream_is Three (over both) (local 2) h (one_leg (0 ∷ [])) (Err why) (legs_0 (local 2)) refl))

-- a network of the two flows of an entry for the ports
abbrev flows_to : List DeclaredFlow → DeclaredNetwork
flows_to flows = long_network pair [] flows

abbrev l0 : file.DeclaredFlow
l0 = flow_entry (codes "l-0") along 64

abbrev l1 : file.DeclaredFlow
l1 = flow_entry (codes "l-1") back 64

abbrev first_there : List DeclaredFlow
first_there = declared_flow (codes "l-0") (0 ∷ []) 64 ∷ []

abbrev both_there : List DeclaredFlow
both_there = declared_flow (codes "l-0") (0 ∷ []) 64 ∷ declared_flow (codes "l-1") (1 ∷ []) 64 ∷ []

flows_taken : (rest : Flows)
    → all_added (flow_added Three) (over []) ((local_flow 1, l0) ∷ (local_flow 1, l1) ∷ rest)
    ≡ all_added (flow_added Three) (flows_to both_there) rest
flows_taken rest =
    one_more (flow_added Three) (over []) (flows_to first_there) (local_flow 1) l0 ((local_flow 1, l1) ∷ rest)
    (flow_is Three (over []) (local_flow 1) l0 (0 ∷ []) (Ok (flows_to first_there)) (path_0 (local_flow 1)) refl)
    ∙ one_more (flow_added Three) (flows_to first_there) (flows_to both_there) (local_flow 1) l1 rest
    (flow_is Three (flows_to first_there) (local_flow 1) l1 (1 ∷ []) (Ok (flows_to both_there)) (path_1 (local_flow 1))
    refl)

second_flow_named : network_in
    (pair_with [] [] [] (flow_for_ports (codes "l") 64 ∷ flow_for_ports (codes "m") 2001 ∷ []))
    ≡ Err (fault.Sender LinkLocalFlow 2 rule.BadSizes)
unfolding digits
second_flow_named =
    let why : NetFault = fault.Sender LinkLocalFlow 2 rule.BadSizes in
    let m : file.DeclaredFlow = flow_entry (codes "m-0") along 2001 in
    let rest : Flows = (local_flow 2, flow_entry (codes "m-1") back 2001) ∷ [] in
    flow_fails [] ((local_flow 1, l0) ∷ (local_flow 1, l1) ∷ (local_flow 2, m) ∷ rest) (over []) why refl
    (flows_taken ((local_flow 2, m) ∷ rest)
    ∙ none_more (flow_added Three) (flows_to both_there) (local_flow 2) m rest why
    (flow_is Three (flows_to both_there) (local_flow 2) m (0 ∷ []) (Err why) (path_0 (local_flow 2)) refl))

-- the second stream of the entry has the name of a stream that stands there
name_taken : network_in (pair_with (a_stream (codes "g-1") 1 ∷ []) (for_ports (codes "g") 1 ∷ []) [] [])
    ≡ Err (fault.SenderTwice LinkLocal 1)
unfolding digits
name_taken =
    let why : NetFault = fault.SenderTwice LinkLocal 1 in
    let one : DeclaredNetwork = over (there (codes "g-1") 0 ∷ []) in
    let two : DeclaredNetwork = over (there (codes "g-1") 0 ∷ there (codes "g-0") 0 ∷ []) in
    let a : file.DeclaredStream = entry (codes "g-1") along 1 in
    stream_fails ((at_stream 1, a) ∷ (local 1, g0) ∷ (local 1, g1) ∷ []) [] why
    (one_more (stream_added Three) (over []) one (at_stream 1) a ((local 1, g0) ∷ (local 1, g1) ∷ [])
    (stream_is Three (over []) (at_stream 1) a (one_leg (0 ∷ [])) (Ok one) (legs_0 (at_stream 1)) refl)
    ∙ one_more (stream_added Three) one two (local 1) g0 ((local 1, g1) ∷ [])
    (stream_is Three one (local 1) g0 (one_leg (0 ∷ [])) (Ok two) (legs_0 (local 1)) refl)
    ∙ none_more (stream_added Three) two (local 1) g1 [] why
    (stream_is Three two (local 1) g1 (one_leg (1 ∷ [])) (Err why) (legs_1 (local 1)) refl))

second_name_taken : network_in (pair_with [] (for_ports (codes "g") 1 ∷ for_ports (codes "g") 2 ∷ []) [] [])
    ≡ Err (fault.SenderTwice LinkLocal 2)
unfolding digits
second_name_taken =
    let why : NetFault = fault.SenderTwice LinkLocal 2 in
    let g : file.DeclaredStream = entry (codes "g-0") along 2 in
    let rest : Streams = (local 2, entry (codes "g-1") back 2) ∷ [] in
    stream_fails ((local 1, g0) ∷ (local 1, g1) ∷ (local 2, g) ∷ rest) [] why (taken ((local 2, g) ∷ rest)
    ∙ none_more (stream_added Three) (over both) (local 2) g rest why
    (stream_is Three (over both) (local 2) g (one_leg (0 ∷ [])) (Err why) (legs_0 (local 2)) refl))

flow_name_taken : network_in (pair_with [] (for_ports (codes "g") 1 ∷ []) [] (flow_for_ports (codes "g") 64 ∷ []))
    ≡ Err (fault.SenderTwice LinkLocalFlow 1)
unfolding digits
flow_name_taken =
    let why : NetFault = fault.SenderTwice LinkLocalFlow 1 in
    let l : file.DeclaredFlow = flow_entry (codes "g-0") along 64 in
    let rest : Flows = (local_flow 1, flow_entry (codes "g-1") back 64) ∷ [] in
    flow_fails ((local 1, g0) ∷ (local 1, g1) ∷ []) ((local_flow 1, l) ∷ rest) (over both) why (taken [])
    (none_more (flow_added Three) (over both) (local_flow 1) l rest why
    (flow_is Three (over both) (local_flow 1) l (0 ∷ []) (Err why) (path_0 (local_flow 1)) refl))

port_senders_are_first : PortSendersAreFirst
port_senders_are_first = record {
  stream = stream_first;
  local = local_first;
  flow = flow_first;
  local_flow = local_flow_last;
  second = second_named;
  second_flow = second_flow_named;
  name = name_taken;
  second_name = second_name_taken;
  flow_name = flow_name_taken;
}

pub ports_are_first : PortsAreFirst
ports_are_first = record {
  missing = local_keys_are_missing;
  wrong = local_kinds_are_wrong;
  read = locals_are_read;
  flows = local_flow_tables_are_judged;
  names = names_leave_room;
  top = top_of_three_is_first;
  arrays = arrays_of_three_are_first;
  senders = port_senders_are_first;
}

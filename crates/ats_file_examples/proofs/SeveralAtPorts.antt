use Rattle.std.proofs.Common.{◌≡◌, ℕ, List, [], ◌∷◌, take, Result, Ok, refl, ap, ◌∙◌}
use Rattle.std.specs.Fmt.{digits}
use Rattle.std.specs.Prelude.{codes, None}
use Rattle.ats_num.specs.Failure.{◌>>=◌}
use Rattle.ats_network.specs.Network.{DeclaredNetwork, long_network}
use Rattle.ats_network.specs.Path.{IsValidPath}
use Rattle.ats_network_table.specs.declared.format.Format.TheVariants.{Three}
use Rattle.ats_network_toml.specs.Document as file
use Rattle.ats_network_toml.specs.Reading.{document_of}
use Rattle.ats_network_file.specs.Reading.{network_in, network_of}
use Rattle.ats_network_file.specs.Senders.{all_added, flow_added, legs_in, path_in, stream_added}
use Rattle.ats_network_file.specs.declared.senders.Place.{Place}
use Rattle.ats_network_file.specs.declared.senders.SenderTable.TheVariants.{LinkLocal, LinkLocalFlow}
use Rattle.ats_network_file.specs.declared.fault.NetFault.{NetFault}
use Rattle.ats_examples.proofs.NetworkTest.{valid_from_by}
use Rattle.ats_file_examples.specs.AtPorts.{pair_topology, several_at_ports, several_document, several_flows}
use Rattle.ats_file_examples.specs.AtPorts.{several_streams, several_text}
use Rattle.ats_file_examples.proofs.Parsing.{parsed}
use Rattle.ats_file_examples.proofs.Steps.{at_flow, at_stream, document_is, flow_is, legs_is, network_is, one_leg}
use Rattle.ats_file_examples.proofs.Steps.{one_more, path_is, stream_is}

-- Two streams and two flows for each port beside a stream and a flow: the tables by computation, and then the senders
-- step by step.

-- where they stand
abbrev local : ℕ → Place
local n = record { table = LinkLocal; number = n }

abbrev local_flow : ℕ → Place
local_flow n = record { table = LinkLocalFlow; number = n }

-- the network with so many of them, the first
abbrev several_to : ℕ → ℕ → DeclaredNetwork
several_to m n = long_network pair_topology (take m several_streams) (take n several_flows)

-- the routes along the two ports
abbrev r0 : file.DeclaredRoute
r0 = file.path (codes "s1" ∷ codes "b1" ∷ [])

abbrev r1 : file.DeclaredRoute
r1 = file.path (codes "b1" ∷ codes "s1" ∷ [])

valid_0 : IsValidPath pair_topology (0 ∷ [])
valid_0 = valid_from_by pair_topology 0 (0 ∷ []) refl

valid_1 : IsValidPath pair_topology (1 ∷ [])
valid_1 = valid_from_by pair_topology 1 (1 ∷ []) refl

legs_0 : (n : Place) → legs_in Three pair_topology n (r0 ∷ []) ≡ Ok (one_leg (0 ∷ []))
legs_0 n = legs_is Three pair_topology n (r0 ∷ []) (0 ∷ []) refl refl valid_0

legs_1 : (n : Place) → legs_in Three pair_topology n (r1 ∷ []) ≡ Ok (one_leg (1 ∷ []))
legs_1 n = legs_is Three pair_topology n (r1 ∷ []) (1 ∷ []) refl refl valid_1

path_0 : (n : Place) → path_in Three pair_topology n r0 ≡ Ok (0 ∷ [])
path_0 n = path_is Three pair_topology n r0 (0 ∷ []) refl refl valid_0

path_1 : (n : Place) → path_in Three pair_topology n r1 ≡ Ok (1 ∷ [])
path_1 n = path_is Three pair_topology n r1 (1 ∷ []) refl refl valid_1

-- their entries along a port
abbrev a : file.DeclaredStream
a = record {
  name = codes "a";
  routes = r0 ∷ [];
  classes = 6 ∷ [];
  rate_bps = 100000000;
  burst_bits = 12336;
  min_octets = 65;
  max_octets = 1522;
  deadline_ns = 1000000;
  identity = None;
}

abbrev g : List ℕ → file.DeclaredRoute → file.DeclaredStream
g name route = record {
  name = name;
  routes = route ∷ [];
  classes = 7 ∷ [];
  rate_bps = 8800;
  burst_bits = 880;
  min_octets = 64;
  max_octets = 90;
  deadline_ns = 1000000000;
  identity = None;
}

abbrev h : List ℕ → file.DeclaredRoute → file.DeclaredStream
h name route = record {
  name = name;
  routes = route ∷ [];
  classes = 5 ∷ [];
  rate_bps = 7700;
  burst_bits = 990;
  min_octets = 70;
  max_octets = 100;
  deadline_ns = 14716;
  identity = None;
}

abbrev of_size : ℕ → List ℕ → file.DeclaredRoute → file.DeclaredFlow
of_size most name route = record { name = name; route = route; max_octets = most }

a_added : stream_added Three (several_to 0 0) (at_stream 1) a ≡ Ok (several_to 1 0)
a_added = stream_is Three (several_to 0 0) (at_stream 1) a (one_leg (0 ∷ [])) (Ok (several_to 1 0))
    (legs_0 (at_stream 1)) refl

g0 : stream_added Three (several_to 1 0) (local 1) (g (codes "g-0") r0) ≡ Ok (several_to 2 0)
g0 = stream_is Three (several_to 1 0) (local 1) (g (codes "g-0") r0) (one_leg (0 ∷ [])) (Ok (several_to 2 0))
    (legs_0 (local 1)) refl

g1 : stream_added Three (several_to 2 0) (local 1) (g (codes "g-1") r1) ≡ Ok (several_to 3 0)
g1 = stream_is Three (several_to 2 0) (local 1) (g (codes "g-1") r1) (one_leg (1 ∷ [])) (Ok (several_to 3 0))
    (legs_1 (local 1)) refl

h0 : stream_added Three (several_to 3 0) (local 2) (h (codes "h-0") r0) ≡ Ok (several_to 4 0)
h0 = stream_is Three (several_to 3 0) (local 2) (h (codes "h-0") r0) (one_leg (0 ∷ [])) (Ok (several_to 4 0))
    (legs_0 (local 2)) refl

h1 : stream_added Three (several_to 4 0) (local 2) (h (codes "h-1") r1) ≡ Ok (several_to 5 0)
h1 = stream_is Three (several_to 4 0) (local 2) (h (codes "h-1") r1) (one_leg (1 ∷ [])) (Ok (several_to 5 0))
    (legs_1 (local 2)) refl

f_added : flow_added Three (several_to 5 0) (at_flow 1) (of_size 1500 (codes "f") r1) ≡ Ok (several_to 5 1)
f_added = flow_is Three (several_to 5 0) (at_flow 1) (of_size 1500 (codes "f") r1) (1 ∷ []) (Ok (several_to 5 1))
    (path_1 (at_flow 1)) refl

l0 : flow_added Three (several_to 5 1) (local_flow 1) (of_size 320 (codes "l-0") r0) ≡ Ok (several_to 5 2)
l0 = flow_is Three (several_to 5 1) (local_flow 1) (of_size 320 (codes "l-0") r0) (0 ∷ []) (Ok (several_to 5 2))
    (path_0 (local_flow 1)) refl

l1 : flow_added Three (several_to 5 2) (local_flow 1) (of_size 320 (codes "l-1") r1) ≡ Ok (several_to 5 3)
l1 = flow_is Three (several_to 5 2) (local_flow 1) (of_size 320 (codes "l-1") r1) (1 ∷ []) (Ok (several_to 5 3))
    (path_1 (local_flow 1)) refl

m0 : flow_added Three (several_to 5 3) (local_flow 2) (of_size 128 (codes "m-0") r0) ≡ Ok (several_to 5 4)
m0 = flow_is Three (several_to 5 3) (local_flow 2) (of_size 128 (codes "m-0") r0) (0 ∷ []) (Ok (several_to 5 4))
    (path_0 (local_flow 2)) refl

m1 : flow_added Three (several_to 5 4) (local_flow 2) (of_size 128 (codes "m-1") r1) ≡ Ok several_at_ports
m1 = flow_is Three (several_to 5 4) (local_flow 2) (of_size 128 (codes "m-1") r1) (1 ∷ []) (Ok several_at_ports)
    (path_1 (local_flow 2)) refl

-- all of them, with their places
abbrev Streams : Type 0
Streams = List (Place × file.DeclaredStream)

abbrev Flows : Type 0
Flows = List (Place × file.DeclaredFlow)

abbrev streams_there : Streams
streams_there =
    (at_stream 1, a) ∷ (local 1, g (codes "g-0") r0) ∷ (local 1, g (codes "g-1") r1)
    ∷ (local 2, h (codes "h-0") r0) ∷ (local 2, h (codes "h-1") r1) ∷ []

abbrev flows_there : Flows
flows_there =
    (at_flow 1, of_size 1500 (codes "f") r1) ∷ (local_flow 1, of_size 320 (codes "l-0") r0)
    ∷ (local_flow 1, of_size 320 (codes "l-1") r1) ∷ (local_flow 2, of_size 128 (codes "m-0") r0)
    ∷ (local_flow 2, of_size 128 (codes "m-1") r1) ∷ []

streams_added : all_added (stream_added Three) (several_to 0 0) streams_there ≡ Ok (several_to 5 0)
streams_added =
    let s4 : Streams = (local 2, h (codes "h-1") r1) ∷ [] in
    let s3 : Streams = (local 2, h (codes "h-0") r0) ∷ s4 in
    let s2 : Streams = (local 1, g (codes "g-1") r1) ∷ s3 in
    let s1 : Streams = (local 1, g (codes "g-0") r0) ∷ s2 in
    one_more (stream_added Three) (several_to 0 0) (several_to 1 0) (at_stream 1) a s1 a_added
    ∙ one_more (stream_added Three) (several_to 1 0) (several_to 2 0) (local 1) (g (codes "g-0") r0) s2 g0
    ∙ one_more (stream_added Three) (several_to 2 0) (several_to 3 0) (local 1) (g (codes "g-1") r1) s3 g1
    ∙ one_more (stream_added Three) (several_to 3 0) (several_to 4 0) (local 2) (h (codes "h-0") r0) s4 h0
    ∙ one_more (stream_added Three) (several_to 4 0) (several_to 5 0) (local 2) (h (codes "h-1") r1) [] h1

flows_added : all_added (flow_added Three) (several_to 5 0) flows_there ≡ Ok several_at_ports
flows_added =
    let s4 : Flows = (local_flow 2, of_size 128 (codes "m-1") r1) ∷ [] in
    let s3 : Flows = (local_flow 2, of_size 128 (codes "m-0") r0) ∷ s4 in
    let s2 : Flows = (local_flow 1, of_size 320 (codes "l-1") r1) ∷ s3 in
    let s1 : Flows = (local_flow 1, of_size 320 (codes "l-0") r0) ∷ s2 in
    one_more (flow_added Three) (several_to 5 0) (several_to 5 1) (at_flow 1) (of_size 1500 (codes "f") r1) s1 f_added
    ∙ one_more (flow_added Three) (several_to 5 1) (several_to 5 2) (local_flow 1) (of_size 320 (codes "l-0") r0) s2 l0
    ∙ one_more (flow_added Three) (several_to 5 2) (several_to 5 3) (local_flow 1) (of_size 320 (codes "l-1") r1) s3 l1
    ∙ one_more (flow_added Three) (several_to 5 3) (several_to 5 4) (local_flow 2) (of_size 128 (codes "m-0") r0) s4 m0
    ∙ one_more (flow_added Three) (several_to 5 4) several_at_ports (local_flow 2) (of_size 128 (codes "m-1") r1) [] m1

pub several_tables_are : document_of several_text ≡ Ok several_document
unfolding parsed
several_tables_are = document_is several_text (Ok several_document) refl refl

senders_are : network_in several_document
    ≡ (all_added (stream_added Three) (several_to 0 0) streams_there
    >>= λ s. all_added (flow_added Three) s flows_there)
unfolding digits
senders_are = refl

made : network_in several_document ≡ Ok several_at_ports
made =
    senders_are
    ∙ ap (λ (r : Result DeclaredNetwork NetFault). r >>= λ s. all_added (flow_added Three) s flows_there) streams_added
    ∙ flows_added

pub several_network_is : network_of several_text ≡ Ok several_at_ports
several_network_is = network_is several_text several_document (Ok several_at_ports) several_tables_are made

use Rattle.std.proofs.Common.{◌≡◌, ℕ, List, [], ◌∷◌, take, Result, Ok, refl, ap, ◌∙◌}
use Rattle.std.specs.Fmt.{digits}
use Rattle.std.specs.Prelude.{codes, None}
use Rattle.ats_num.specs.Failure.{◌>>=◌}
use Rattle.ats_network.specs.Network.{DeclaredNetwork, long_network}
use Rattle.ats_network_table.specs.declared.format.Format.TheVariants.{Three}
use Rattle.ats_network_toml.specs.Document as file
use Rattle.ats_network_toml.specs.Reading.{document_of}
use Rattle.ats_network_file.specs.Reading.{network_in}
use Rattle.ats_network_file.specs.Senders.{all_added, flow_added, stream_added}
use Rattle.ats_network_file.specs.declared.senders.Place.{Place}
use Rattle.ats_network_file.specs.declared.senders.SenderTable.TheVariants.{LinkLocal, LinkLocalFlow}
use Rattle.ats_network_file.specs.declared.fault.NetFault.{NetFault}
use Rattle.ats_examples.proofs.NetworkTest.{valid_from_by}
use Rattle.ats_file_examples.specs.AtPorts.{PortsAreRead, at_ports, at_ports_document, at_ports_text, flows}
use Rattle.ats_file_examples.specs.AtPorts.{line_topology, streams}
use Rattle.ats_file_examples.proofs.Parsing.{parsed}
use Rattle.ats_file_examples.proofs.Steps.{document_is, flow_is, legs_is, network_is, one_leg, one_more, path_is}
use Rattle.ats_file_examples.proofs.Steps.{stream_is}
use Rattle.ats_file_examples.proofs.SeveralAtPorts.{several_network_is, several_tables_are}

-- A stream and a flow for each port: the tables by computation, and then the senders step by step.

-- where they stand
abbrev local : Place
local = record { table = LinkLocal; number = 1 }

abbrev local_flow : Place
local_flow = record { table = LinkLocalFlow; number = 1 }

-- the network with so many of them, the first
abbrev at_ports_to : ℕ → ℕ → DeclaredNetwork
at_ports_to m n = long_network line_topology (take m streams) (take n flows)

-- an entry along one port
abbrev route : List ℕ → List ℕ → file.DeclaredRoute
route a b = file.path (a ∷ b ∷ [])

abbrev g : List ℕ → file.DeclaredRoute → file.DeclaredStream
g name route = record {
  name = name;
  routes = route ∷ [];
  classes = 7 ∷ [];
  rate_bps = 8800;
  burst_bits = 880;
  min_octets = 64;
  max_octets = 90;
  deadline_ns = 1000000000;
  identity = None;
}

abbrev l : List ℕ → file.DeclaredRoute → file.DeclaredFlow
l name route = record { name = name; route = route; max_octets = 320 }

abbrev r0 : file.DeclaredRoute
r0 = route (codes "s1") (codes "b1")

abbrev r1 : file.DeclaredRoute
r1 = route (codes "b1") (codes "s1")

abbrev r2 : file.DeclaredRoute
r2 = route (codes "b1") (codes "s2")

abbrev r3 : file.DeclaredRoute
r3 = route (codes "s2") (codes "b1")

g0 : stream_added Three (at_ports_to 0 0) local (g (codes "g-0") r0) ≡ Ok (at_ports_to 1 0)
g0 = stream_is Three (at_ports_to 0 0) local (g (codes "g-0") r0) (one_leg (0 ∷ [])) (Ok (at_ports_to 1 0))
    (legs_is Three line_topology local (r0 ∷ []) (0 ∷ []) refl refl (valid_from_by line_topology 0 (0 ∷ []) refl)) refl

g1 : stream_added Three (at_ports_to 1 0) local (g (codes "g-1") r1) ≡ Ok (at_ports_to 2 0)
g1 = stream_is Three (at_ports_to 1 0) local (g (codes "g-1") r1) (one_leg (1 ∷ [])) (Ok (at_ports_to 2 0))
    (legs_is Three line_topology local (r1 ∷ []) (1 ∷ []) refl refl (valid_from_by line_topology 2 (1 ∷ []) refl)) refl

g2 : stream_added Three (at_ports_to 2 0) local (g (codes "g-2") r2) ≡ Ok (at_ports_to 3 0)
g2 = stream_is Three (at_ports_to 2 0) local (g (codes "g-2") r2) (one_leg (2 ∷ [])) (Ok (at_ports_to 3 0))
    (legs_is Three line_topology local (r2 ∷ []) (2 ∷ []) refl refl (valid_from_by line_topology 2 (2 ∷ []) refl)) refl

g3 : stream_added Three (at_ports_to 3 0) local (g (codes "g-3") r3) ≡ Ok (at_ports_to 4 0)
g3 = stream_is Three (at_ports_to 3 0) local (g (codes "g-3") r3) (one_leg (3 ∷ [])) (Ok (at_ports_to 4 0))
    (legs_is Three line_topology local (r3 ∷ []) (3 ∷ []) refl refl (valid_from_by line_topology 1 (3 ∷ []) refl)) refl

l0 : flow_added Three (at_ports_to 4 0) local_flow (l (codes "l-0") r0) ≡ Ok (at_ports_to 4 1)
l0 = flow_is Three (at_ports_to 4 0) local_flow (l (codes "l-0") r0) (0 ∷ []) (Ok (at_ports_to 4 1))
    (path_is Three line_topology local_flow r0 (0 ∷ []) refl refl (valid_from_by line_topology 0 (0 ∷ []) refl)) refl

l1 : flow_added Three (at_ports_to 4 1) local_flow (l (codes "l-1") r1) ≡ Ok (at_ports_to 4 2)
l1 = flow_is Three (at_ports_to 4 1) local_flow (l (codes "l-1") r1) (1 ∷ []) (Ok (at_ports_to 4 2))
    (path_is Three line_topology local_flow r1 (1 ∷ []) refl refl (valid_from_by line_topology 2 (1 ∷ []) refl)) refl

l2 : flow_added Three (at_ports_to 4 2) local_flow (l (codes "l-2") r2) ≡ Ok (at_ports_to 4 3)
l2 = flow_is Three (at_ports_to 4 2) local_flow (l (codes "l-2") r2) (2 ∷ []) (Ok (at_ports_to 4 3))
    (path_is Three line_topology local_flow r2 (2 ∷ []) refl refl (valid_from_by line_topology 2 (2 ∷ []) refl)) refl

l3 : flow_added Three (at_ports_to 4 3) local_flow (l (codes "l-3") r3) ≡ Ok (at_ports_to 4 4)
l3 = flow_is Three (at_ports_to 4 3) local_flow (l (codes "l-3") r3) (3 ∷ []) (Ok (at_ports_to 4 4))
    (path_is Three line_topology local_flow r3 (3 ∷ []) refl refl (valid_from_by line_topology 1 (3 ∷ []) refl)) refl

-- all of them, with their places
abbrev Streams : Type 0
Streams = List (Place × file.DeclaredStream)

abbrev Flows : Type 0
Flows = List (Place × file.DeclaredFlow)

abbrev streams_there : Streams
streams_there =
    (local, g (codes "g-0") r0) ∷ (local, g (codes "g-1") r1) ∷ (local, g (codes "g-2") r2)
    ∷ (local, g (codes "g-3") r3) ∷ []

abbrev flows_there : Flows
flows_there =
    (local_flow, l (codes "l-0") r0) ∷ (local_flow, l (codes "l-1") r1) ∷ (local_flow, l (codes "l-2") r2)
    ∷ (local_flow, l (codes "l-3") r3) ∷ []

streams_added : all_added (stream_added Three) (at_ports_to 0 0) streams_there ≡ Ok (at_ports_to 4 0)
streams_added =
    let s3 : Streams = (local, g (codes "g-3") r3) ∷ [] in
    let s2 : Streams = (local, g (codes "g-2") r2) ∷ s3 in
    let s1 : Streams = (local, g (codes "g-1") r1) ∷ s2 in
    one_more (stream_added Three) (at_ports_to 0 0) (at_ports_to 1 0) local (g (codes "g-0") r0) s1 g0
    ∙ one_more (stream_added Three) (at_ports_to 1 0) (at_ports_to 2 0) local (g (codes "g-1") r1) s2 g1
    ∙ one_more (stream_added Three) (at_ports_to 2 0) (at_ports_to 3 0) local (g (codes "g-2") r2) s3 g2
    ∙ one_more (stream_added Three) (at_ports_to 3 0) (at_ports_to 4 0) local (g (codes "g-3") r3) [] g3

flows_added : all_added (flow_added Three) (at_ports_to 4 0) flows_there ≡ Ok at_ports
flows_added =
    let s3 : Flows = (local_flow, l (codes "l-3") r3) ∷ [] in
    let s2 : Flows = (local_flow, l (codes "l-2") r2) ∷ s3 in
    let s1 : Flows = (local_flow, l (codes "l-1") r1) ∷ s2 in
    one_more (flow_added Three) (at_ports_to 4 0) (at_ports_to 4 1) local_flow (l (codes "l-0") r0) s1 l0
    ∙ one_more (flow_added Three) (at_ports_to 4 1) (at_ports_to 4 2) local_flow (l (codes "l-1") r1) s2 l1
    ∙ one_more (flow_added Three) (at_ports_to 4 2) (at_ports_to 4 3) local_flow (l (codes "l-2") r2) s3 l2
    ∙ one_more (flow_added Three) (at_ports_to 4 3) at_ports local_flow (l (codes "l-3") r3) [] l3

tables_are : document_of at_ports_text ≡ Ok at_ports_document
unfolding parsed
tables_are = document_is at_ports_text (Ok at_ports_document) refl refl

senders_are : network_in at_ports_document
    ≡ (all_added (stream_added Three) (at_ports_to 0 0) streams_there
    >>= λ s. all_added (flow_added Three) s flows_there)
unfolding digits
senders_are = refl

made : network_in at_ports_document ≡ Ok at_ports
made =
    senders_are
    ∙ ap (λ (r : Result DeclaredNetwork NetFault). r >>= λ s. all_added (flow_added Three) s flows_there) streams_added
    ∙ flows_added

pub ports_are_read : PortsAreRead
ports_are_read = record {
  tables = tables_are;
  network = network_is at_ports_text at_ports_document (Ok at_ports) tables_are made;
  several_tables = several_tables_are;
  several_network = several_network_is;
}

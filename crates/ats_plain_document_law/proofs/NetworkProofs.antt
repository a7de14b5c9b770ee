use Rattle.std.proofs.Common.{[], Option, Result, refl, ap}
use Rattle.ats_num.specs.Failure.{◌>>=◌, unless}
use Rattle.ats_topology.specs.Topology.{topology_of}
use Rattle.ats_topology.specs.declared.fault.TopologyFault.{TopologyFault}
use Rattle.ats_network.specs.Network.{DeclaredNetwork, network_within}
use Rattle.ats_network_toml.specs.Document.{DeclaredDocument}
use Rattle.ats_network_file.specs.Reading.{links_of, most_ports_of, nodes_of}
use Rattle.ats_network_file.specs.Senders.{all_added, flow_added, flows_in, stream_added, streams_in}
use Rattle.ats_network_file.specs.declared.fault.NetFault.{NetFault}
use Rattle.ats_network_file.specs.declared.fault.NetFault.TheVariants.{Topology}
use Rattle.ats_plain_document_law.specs.Networks.{NetworksAreDeclared}

-- Which network a document declares.

-- the network of a document over its topology, or the fault of its nodes and links
abbrev over : DeclaredDocument → Option TopologyFault → Result DeclaredNetwork NetFault
over d fault =
    unless Topology fault (topology_of (nodes_of d) (links_of d))
    >>= λ t. all_added (stream_added d.format) (network_within t (most_ports_of d.format) [] []) (streams_in t d)
    >>= λ streamed. all_added (flow_added d.format) streamed (flows_in t d)

pub networks_are_declared : NetworksAreDeclared
networks_are_declared = record {
  topology = λ d none. ap (over d) none;
  ports_one = refl;
  ports_two = refl;
  ports_three = refl;
}

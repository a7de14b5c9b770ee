use Rattle.std.specs.Prelude.{◌≡◌, [], None}
use Rattle.ats_num.specs.Failure.{◌>>=◌}
use Rattle.ats_topology.specs.Faults.{topology_fault}
use Rattle.ats_topology.specs.Topology.{topology_of}
use Rattle.ats_network.specs.Network.{network_within}
use Rattle.ats_network_table.specs.declared.format.Format.TheVariants.{One, Three, Two}
use Rattle.ats_network_toml.specs.Document.{DeclaredDocument}
use Rattle.ats_network_file.specs.Reading.{links_of, most_ports_of, network_in, nodes_of}
use Rattle.ats_network_file.specs.Senders.{all_added, flow_added, flows_in, stream_added, streams_in}

-- where the nodes and links of a document have no fault, its network is their topology with no senders, to which its
-- streams are added in turn, and then its flows. A route may have 16 ports, and in format 3 it may have 64
pub record NetworksAreDeclared : Type 0 where
  pub topology : (d : DeclaredDocument) → topology_fault (nodes_of d) (links_of d) ≡ None → network_in d
      ≡ (all_added (stream_added d.format)
      (network_within (topology_of (nodes_of d) (links_of d)) (most_ports_of d.format) [] [])
      (streams_in (topology_of (nodes_of d) (links_of d)) d)
      >>= λ streamed. all_added (flow_added d.format) streamed
      (flows_in (topology_of (nodes_of d) (links_of d)) d))
  pub ports_one : most_ports_of One ≡ 16
  pub ports_two : most_ports_of Two ≡ 16
  pub ports_three : most_ports_of Three ≡ 64

use Rattle.std.proofs.Common.{ℕ, List, [], Option, Result, ap, refl}
use Rattle.ats_num.specs.Failure.{◌>>=◌, unless}
use Rattle.ats_topology.specs.Topology.{DeclaredTopology, topology_of}
use Rattle.ats_topology.specs.declared.fault.TopologyFault.{TopologyFault}
use Rattle.ats_network.specs.Network.{DeclaredNetwork, network_within}
use Rattle.ats_network_table.specs.declared.fault.DocumentFault.{DocumentFault}
use Rattle.ats_network_toml.specs.Document as file
use Rattle.ats_network_file.specs.Reading.{links_of, most_ports_of, network_in, nodes_of, tables_of}
use Rattle.ats_network_file.specs.Senders.{all_added, flow_added, flows_in, stream_added, streams_in}
use Rattle.ats_network_file.specs.declared.fault.NetFault.{NetFault}
use Rattle.ats_network_file.specs.declared.fault.NetFault.TheVariants.{Topology}
use Rattle.ats_network_file_law.specs.Passed.{IsOfTables, PassesTopologyFault, PassOn, TablesAreMeant}

of_tables : (text : List ℕ) → IsOfTables text
of_tables text = record {
  tables = λ document is.
      ap (λ (read : Result file.DeclaredDocument DocumentFault). tables_of read >>= network_in) is;
  fault = λ fault is.
      ap (λ (read : Result file.DeclaredDocument DocumentFault). tables_of read >>= network_in) is;
}

-- the network of a document over a topology
abbrev senders_over : file.DeclaredDocument → DeclaredTopology → Result DeclaredNetwork NetFault
senders_over d topology =
    all_added (stream_added d.format) (network_within topology (most_ports_of d.format) [] []) (streams_in topology d)
    >>= λ streamed. all_added (flow_added d.format) streamed (flows_in topology d)

passes_topology : (document : file.DeclaredDocument) → PassesTopologyFault document
passes_topology d = λ fault is.
    ap (λ (found : Option TopologyFault). unless Topology found (topology_of (nodes_of d) (links_of d))
    >>= senders_over d) is

pub pass_on : PassOn
pass_on = record { text = of_tables; topology = passes_topology }

pub tables_are_meant : TablesAreMeant
tables_are_meant = record {
  station = λ entry. record { name = refl; kind = refl };
  bridge = λ entry. record { name = refl; kind = refl };
  link = λ entry. record { one_end = refl; other_end = refl; rate = refl; propagation = refl };
  classes = refl;
  class = refl;
}

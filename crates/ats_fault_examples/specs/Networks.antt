use Rattle.std.specs.Prelude.{◌≡◌, codes}
use Rattle.ats_network.specs.FaultText.{fault_text as entry_text}
use Rattle.ats_network.specs.declared.fault.PushFault.TheVariants as entry
use Rattle.ats_network_file.specs.FaultText.{fault_text}
use Rattle.ats_network_file.specs.declared.fault.NetFault.TheVariants.{Form, Topology, BadPath, Sender, SenderTwice}
use Rattle.ats_network_file.specs.declared.fault.NetFault.TheVariants.{IdentityTwice}
use Rattle.ats_network_file.specs.declared.senders.SenderTable.TheVariants as sender
use Rattle.ats_network_table.specs.declared.fault.DocumentFault.TheVariants as form
use Rattle.ats_network_table.specs.declared.key.Key.TheVariants as key
use Rattle.ats_network_table.specs.declared.table.Table.TheVariants as table
use Rattle.ats_streams.specs.declared.fault.StreamFault.TheVariants as rule
use Rattle.ats_topology.specs.declared.fault.TopologyFault.TheVariants as topology

-- The words of the faults of a network file, one of each.

-- of its form, with the table, its number and the key
pub record FormFaultsAreWritten : Type 0 where
  pub not_toml : fault_text (Form form.NotToml) ≡ codes "not-toml"
  pub missing : fault_text (Form (form.Missing table.Stream 12 key.RateBps)) ≡ codes "missing stream 12 rate_bps"
  pub missing_at_top : fault_text (Form (form.Missing table.Top 0 key.Format)) ≡ codes "missing top 0 format"
  pub unknown : fault_text (Form (form.Unknown table.Bridge 13)) ≡ codes "unknown bridge 13"
  pub kind : fault_text (Form (form.WrongKind table.Link 14 key.Mbps)) ≡ codes "kind link 14 mbps"
  pub limit : fault_text (Form (form.Limit table.Flow)) ≡ codes "limit flow"

-- of its nodes and links, with the number of the node or link
pub record TopologyFaultsAreWritten : Type 0 where
  pub node_twice : fault_text (Topology (topology.NodeTwice 21)) ≡ codes "node-twice 21"
  pub link_twice : fault_text (Topology (topology.LinkTwice 22)) ≡ codes "link-twice 22"
  pub self_link : fault_text (Topology (topology.SelfLink 23)) ≡ codes "self-link 23"
  pub unknown_node : fault_text (Topology (topology.UnknownNode 24)) ≡ codes "unknown-node 24"
  pub station_links : fault_text (Topology (topology.StationLinks 25)) ≡ codes "station-links 25"
  pub bad_rate : fault_text (Topology (topology.BadRate 26)) ≡ codes "bad-rate 26"
  pub limit : fault_text (Topology topology.Limit) ≡ codes "limit"
  pub bad_processing : fault_text (Topology (topology.BadProcessing 27)) ≡ codes "bad-processing 27"

-- of its streams and flows, with the table and its number
pub record SenderFaultsAreWritten : Type 0 where
  pub stream_path : fault_text (BadPath sender.Stream 31) ≡ codes "bad-path stream 31"
  pub flow_path : fault_text (BadPath sender.Flow 32) ≡ codes "bad-path flow 32"
  pub bad_class : fault_text (Sender sender.Stream 33 rule.BadClass) ≡ codes "stream 33 bad-class"
  pub bad_rate : fault_text (Sender sender.Stream 34 rule.BadRate) ≡ codes "stream 34 bad-rate"
  pub bad_sizes : fault_text (Sender sender.Flow 35 rule.BadSizes) ≡ codes "flow 35 bad-sizes"
  pub short_burst : fault_text (Sender sender.Stream 36 rule.BurstBelowFrame) ≡ codes "stream 36 burst-below-frame"
  pub limit : fault_text (Sender sender.Flow 37 rule.Limit) ≡ codes "flow 37 limit"
  pub stream_twice : fault_text (SenderTwice sender.Stream 38) ≡ codes "sender-twice stream 38"
  pub flow_twice : fault_text (SenderTwice sender.Flow 39) ≡ codes "sender-twice flow 39"
  pub identity_twice : fault_text (IdentityTwice 40) ≡ codes "identity-twice 40"

-- of its streams for each port
pub record StreamsAtPortsAreTold : Type 0 where
  pub missing : fault_text (Form (form.Missing table.LinkLocal 41 key.Class)) ≡ codes "missing link_local 41 class"
  pub unknown : fault_text (Form (form.Unknown table.LinkLocal 42)) ≡ codes "unknown link_local 42"
  pub kind : fault_text (Form (form.WrongKind table.LinkLocal 43 key.DeadlineNs))
      ≡ codes "kind link_local 43 deadline_ns"
  pub too_many : fault_text (Form (form.Limit table.LinkLocal)) ≡ codes "limit link_local"
  pub path : fault_text (BadPath sender.LinkLocal 44) ≡ codes "bad-path link_local 44"
  pub bad_class : fault_text (Sender sender.LinkLocal 45 rule.BadClass) ≡ codes "link_local 45 bad-class"
  pub bad_rate : fault_text (Sender sender.LinkLocal 46 rule.BadRate) ≡ codes "link_local 46 bad-rate"
  pub bad_sizes : fault_text (Sender sender.LinkLocal 47 rule.BadSizes) ≡ codes "link_local 47 bad-sizes"
  pub short_burst : fault_text (Sender sender.LinkLocal 48 rule.BurstBelowFrame)
      ≡ codes "link_local 48 burst-below-frame"
  pub limit : fault_text (Sender sender.LinkLocal 49 rule.Limit) ≡ codes "link_local 49 limit"
  pub twice : fault_text (SenderTwice sender.LinkLocal 50) ≡ codes "sender-twice link_local 50"

-- and of its flows for each port
pub record FlowsAtPortsAreTold : Type 0 where
  pub missing : fault_text (Form (form.Missing table.LinkLocalFlow 51 key.MaxOctets))
      ≡ codes "missing link_local_flow 51 max_octets"
  pub unknown : fault_text (Form (form.Unknown table.LinkLocalFlow 52)) ≡ codes "unknown link_local_flow 52"
  pub kind : fault_text (Form (form.WrongKind table.LinkLocalFlow 53 key.Name)) ≡ codes "kind link_local_flow 53 name"
  pub too_many : fault_text (Form (form.Limit table.LinkLocalFlow)) ≡ codes "limit link_local_flow"
  pub path : fault_text (BadPath sender.LinkLocalFlow 54) ≡ codes "bad-path link_local_flow 54"
  pub bad_sizes : fault_text (Sender sender.LinkLocalFlow 55 rule.BadSizes) ≡ codes "link_local_flow 55 bad-sizes"
  pub limit : fault_text (Sender sender.LinkLocalFlow 56 rule.Limit) ≡ codes "link_local_flow 56 limit"
  pub twice : fault_text (SenderTwice sender.LinkLocalFlow 57) ≡ codes "sender-twice link_local_flow 57"

-- why a stream or a flow can't be added to a network, which is told to callers alone
pub record EntryFaultsAreWritten : Type 0 where
  pub name : entry_text entry.NameTaken ≡ codes "name-taken"
  pub identity : entry_text entry.IdentityTaken ≡ codes "identity-taken"
  pub limit : entry_text entry.Limit ≡ codes "limit"

pub record NetworkFaultsAreWritten : Type 0 where
  pub form : FormFaultsAreWritten
  pub topology : TopologyFaultsAreWritten
  pub senders : SenderFaultsAreWritten
  pub streams_at_ports : StreamsAtPortsAreTold
  pub flows_at_ports : FlowsAtPortsAreTold
  pub entries : EntryFaultsAreWritten

use Rattle.std.proofs.Common.{refl}
use Rattle.std.specs.Fmt.{digits}
use Rattle.ats_fault_examples.specs.Networks.{EntryFaultsAreWritten, FormFaultsAreWritten, TopologyFaultsAreWritten}
use Rattle.ats_fault_examples.specs.Networks.{FlowsAtPortsAreTold, NetworkFaultsAreWritten, SenderFaultsAreWritten}
use Rattle.ats_fault_examples.specs.Networks.{StreamsAtPortsAreTold}

-- Words of faults of network files by computation.

form_faults_are_written : FormFaultsAreWritten
unfolding digits
form_faults_are_written = record {
  not_toml = refl;
  missing = refl;
  missing_at_top = refl;
  unknown = refl;
  kind = refl;
  limit = refl;
}

topology_faults_are_written : TopologyFaultsAreWritten
unfolding digits
topology_faults_are_written = record {
  node_twice = refl;
  link_twice = refl;
  self_link = refl;
  unknown_node = refl;
  station_links = refl;
  bad_rate = refl;
  limit = refl;
  bad_processing = refl;
}

sender_faults_are_written : SenderFaultsAreWritten
unfolding digits
sender_faults_are_written = record {
  stream_path = refl;
  flow_path = refl;
  bad_class = refl;
  bad_rate = refl;
  bad_sizes = refl;
  short_burst = refl;
  limit = refl;
  stream_twice = refl;
  flow_twice = refl;
  identity_twice = refl;
}

streams_at_ports_are_told : StreamsAtPortsAreTold
unfolding digits
streams_at_ports_are_told = record {
  missing = refl;
  unknown = refl;
  kind = refl;
  too_many = refl;
  path = refl;
  bad_class = refl;
  bad_rate = refl;
  bad_sizes = refl;
  short_burst = refl;
  limit = refl;
  twice = refl;
}

flows_at_ports_are_told : FlowsAtPortsAreTold
unfolding digits
flows_at_ports_are_told = record {
  missing = refl;
  unknown = refl;
  kind = refl;
  too_many = refl;
  path = refl;
  bad_sizes = refl;
  limit = refl;
  twice = refl;
}

entry_faults_are_written : EntryFaultsAreWritten
entry_faults_are_written = record { name = refl; identity = refl; limit = refl }

pub network_faults_are_written : NetworkFaultsAreWritten
network_faults_are_written = record {
  form = form_faults_are_written;
  topology = topology_faults_are_written;
  senders = sender_faults_are_written;
  streams_at_ports = streams_at_ports_are_told;
  flows_at_ports = flows_at_ports_are_told;
  entries = entry_faults_are_written;
}

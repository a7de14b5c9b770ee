use Rattle.std.proofs.Common.{refl}
use Rattle.ats_fault_examples.specs.Keys.{TablesAreNamed, TopologyKeysAreNamed, SenderKeysAreNamed, KeysAreNamed}

-- Words of tables and keys by computation.

tables_are_named : TablesAreNamed
tables_are_named = record {
  top = refl;
  station = refl;
  bridge = refl;
  link = refl;
  stream = refl;
  flow = refl;
  stream_at_ports = refl;
  flow_at_ports = refl;
}

topology_keys_are_named : TopologyKeysAreNamed
topology_keys_are_named = record {
  format = refl;
  station = refl;
  bridge = refl;
  link = refl;
  stream = refl;
  flow = refl;
  stream_at_ports = refl;
  flow_at_ports = refl;
  name = refl;
  processing = refl;
  least_processing = refl;
  greatest_processing = refl;
  residence = refl;
  deviation = refl;
  step = refl;
  one_end = refl;
  other_end = refl;
  rate = refl;
  propagation = refl;
}

sender_keys_are_named : SenderKeysAreNamed
sender_keys_are_named = record {
  path = refl;
  paths = refl;
  from = refl;
  to = refl;
  class = refl;
  classes = refl;
  rate = refl;
  burst = refl;
  least = refl;
  greatest = refl;
  deadline = refl;
  address = refl;
  vlan = refl;
}

pub keys_are_named : KeysAreNamed
keys_are_named = record {
  tables = tables_are_named;
  topology = topology_keys_are_named;
  senders = sender_keys_are_named;
}

use Rattle.std.proofs.Common.{refl}
use Rattle.ats_fault_examples.specs.EachFault.{EachFaultIsWritten, EachFormFault, EachLineFault, EachRecordFault}
use Rattle.ats_fault_examples.specs.EachFault.{EachSenderFault, EachTopologyFault}

-- Words of faults with any number, by the definitions.

each_form_fault : EachFormFault
each_form_fault = record {
  missing = λ t n k. refl;
  unknown = λ t n. refl;
  kind = λ t n k. refl;
  limit = λ t. refl;
}

each_topology_fault : EachTopologyFault
each_topology_fault = record {
  node_twice = λ n. refl;
  link_twice = λ n. refl;
  self_link = λ n. refl;
  unknown_node = λ n. refl;
  station_links = λ n. refl;
  bad_rate = λ n. refl;
  bad_processing = λ n. refl;
}

each_sender_fault : EachSenderFault
each_sender_fault = record {
  path = λ t n. refl;
  rule = λ t n fault. refl;
  name = λ t n. refl;
  identity = λ n. refl;
}

each_record_fault : EachRecordFault
each_record_fault = record {
  row_form = λ n. refl;
  row_port = λ n. refl;
  row_number = λ n. refl;
  row_order = λ n. refl;
  release_form = λ n. refl;
  release_name = λ n. refl;
  release_number = λ n. refl;
  release_size = λ n. refl;
  release_time = λ n. refl;
  release_limit = λ n. refl;
  long_record = λ n. refl;
  cut_record = λ n. refl;
  record_limit = λ n. refl;
  joined = λ n. refl;
}

each_line_fault : EachLineFault
each_line_fault = record {
  request_form = λ n. refl;
  request_node = λ n. refl;
  request_path = λ n. refl;
  request_rule = λ n fault. refl;
  request_limit = λ n. refl;
  shape_form = λ n. refl;
  shape_name = λ n. refl;
  shape_rule = λ n fault. refl;
  shape_unknown = λ n. refl;
  shape_time = λ n. refl;
  shape_limit = λ n. refl;
}

pub each_fault_is_written : EachFaultIsWritten
each_fault_is_written = record {
  form = each_form_fault;
  topology = each_topology_fault;
  sender = each_sender_fault;
  record_fault = each_record_fault;
  line = each_line_fault;
}

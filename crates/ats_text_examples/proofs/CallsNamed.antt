use Rattle.std.proofs.Common.{refl, lit<}
use Rattle.ats_command_input.specs.Command.{lrq_with_one, lrq_with_two, with_four, with_one, with_three, with_two}
use Rattle.ats_command_input.specs.Port.{port_in}
use Rattle.ats_command_input.specs.Station.{station_in}
use Rattle.ats_command_input.specs.Stream.{stream_in}
use Rattle.ats_text_examples.specs.Called.{VerbsAreCommands, StationsAreNamed, OrdersAreNamed, CodesAreSeven}
use Rattle.ats_text_examples.specs.Called.{TextsArePrinted, CallsAreNamed, PortsAreNamed, StreamsAreNamed}

-- Words of calls by computation.

verbs_are_commands : VerbsAreCommands
unfolding lrq_with_one lrq_with_two with_four with_one with_three with_two
verbs_are_commands = record {
  shape = refl;
  show = refl;
  bound = refl;
  explain = refl;
  settings = refl;
  check = refl;
  conform = refl;
  admit = refl;
  replay = refl;
  capture = refl;
  generate = refl;
  buffers = refl;
  peaks = refl;
  lrq_shape = refl;
  lrq_bound = refl;
  lrq_check = refl;
  no_lrq = refl;
  port_record = refl;
  no_record = refl;
  found = refl;
  releases = refl;
  fit = refl;
  no_verb = refl;
  no_file = refl;
  no_order = refl;
  none_made = refl;
  three_files = refl;
  files = refl;
}

stations_are_named : StationsAreNamed
unfolding station_in
stations_are_named = record {
  first = refl;
  second = refl;
  bridge = refl;
  other = refl;
  front = refl;
  no_name = refl;
}

ports_are_named : PortsAreNamed
unfolding port_in
ports_are_named = record { first = refl; back = refl; last = refl; apart = refl; node = refl }

streams_are_named : StreamsAreNamed
unfolding stream_in
streams_are_named = record { first = refl; second = refl; flow = refl; other = refl }

orders_are_named : OrdersAreNamed
orders_are_named = record {
  early = refl;
  late = refl;
  mixed = refl;
  no_mixed = refl;
  none = refl;
  lesser_frame = lit< tt;
  greater_sender = lit< tt;
  then_frame = lit< tt;
  exchanged = lit< tt;
  kept_by_one = lit< tt;
  exchanged_by_five = lit< tt;
  then_frame_by_five = lit< tt;
  no_wait = refl;
  whole_wait = refl;
  some_wait = refl;
  less_by_five = refl;
  rest_by_twelve = refl;
}

codes_are_seven : CodesAreSeven
codes_are_seven = record {
  done = refl;
  words = refl;
  input = refl;
  refused = refl;
  read_failed = refl;
  write_failed = refl;
  no_memory = refl;
}

texts_are_printed : TextsArePrinted
texts_are_printed = record {
  done = tt;
  words = tt;
  input = tt;
  refused = tt;
  read_failed = λ h. h;
  write_failed = λ h. h;
  no_memory = λ h. h;
}

pub calls_are_named : CallsAreNamed
calls_are_named = record {
  verbs = verbs_are_commands;
  stations = stations_are_named;
  ports = ports_are_named;
  streams = streams_are_named;
  orders = orders_are_named;
  exit_codes = codes_are_seven;
  printed = texts_are_printed;
}

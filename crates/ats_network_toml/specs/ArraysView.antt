use Rattle.ats_network_toml.specs.Reading as due
use Rattle.ats_network_toml.specs.Views.{tables_of}
use Rattle.ats_network_toml.specs.declared.arrays.Arrays.{Arrays}

-- the format, and the tables of the arrays
abbrev pub arrays_view : Arrays → due.Arrays
arrays_view a = record {
  format = a.format;
  stations = tables_of a.stations;
  bridges = tables_of a.bridges;
  links = tables_of a.links;
  streams = tables_of a.streams;
  link_locals = tables_of a.link_locals;
  flows = tables_of a.flows;
  link_local_flows = tables_of a.link_local_flows;
}

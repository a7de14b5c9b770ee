use Rattle.ats_network_toml.specs.Document.{DeclaredDocument}
use Rattle.ats_network_toml.specs.declared.document.Parts.{Parts}

-- the format, and what the lists hold
abbrev pub parts_view : Parts → DeclaredDocument
parts_view p = record {
  format = p.format;
  stations = p.stations.items;
  bridges = p.bridges.items;
  links = p.links.items;
  streams = p.streams.items;
  link_locals = p.link_locals.items;
  flows = p.flows.items;
  link_local_flows = p.link_local_flows.items;
}

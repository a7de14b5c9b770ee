use Rattle.std.specs.Prelude.{ℕ, [], ◌∷◌, codes}
use Rattle.ats_network_table.specs.declared.format.Format.TheVariants.{Two}
use Rattle.ats_network_toml.specs.Document.{DeclaredDocument, path}
use Rattle.ats_network_file_law.specs.ShortRoutes.{HasShortEntries}
use Rattle.ats_file_examples.specs.AtPorts.{at_ports_document, several_document}
use Rattle.ats_file_examples.specs.Forked as forked
use Rattle.ats_file_examples.specs.LongLines.{line_of, names_from}

-- Tables whose routes are short and between stations, and tables of which a route just is not.

-- a line of one bridge and so many further, with a flow along all of it and no stream
abbrev pub flow_along : ℕ → DeclaredDocument
flow_along n = record (line_of Two n) {
  streams = [];
  flows = record { name = codes "w"; route = path (codes "s1" ∷ names_from 0 n); max_octets = 64 } ∷ [];
}

-- a flow along such a line whose route names a node that is not there
abbrev pub flow_astray : DeclaredDocument
flow_astray = record (line_of Two 0) {
  streams = [];
  flows = record { name = codes "w"; route = path (codes "s1" ∷ codes "s3" ∷ []); max_octets = 64 } ∷ [];
}

-- two stations and a link, with a stream and a flow for each of its ports
abbrev pub stations_joined : DeclaredDocument
stations_joined = record at_ports_document {
  bridges = [];
  links = record { a = codes "s1"; b = codes "s2"; mbps = 1000; propagation_ns = 500 } ∷ [];
}

-- routes of 16 ports are short and those of 17 are not, be it of a stream or of a flow
pub record SixteenAreShort : Type 0 where
  pub stream : HasShortEntries (line_of Two 14)
  pub longer_stream : ¬ HasShortEntries (line_of Two 15)
  pub flow : HasShortEntries (flow_along 14)
  pub longer_flow : ¬ HasShortEntries (flow_along 15)

-- a stream may have several routes, by their ends or by their paths, and a route may have no ports; streams and flows
-- for each port are short where each link joins stations
pub record OthersAreShort : Type 0 where
  pub by_ends : HasShortEntries (forked.document_with forked.ends_routes (6 ∷ 5 ∷ 4 ∷ []))
  pub by_paths : HasShortEntries (forked.document_with forked.paths_routes (6 ∷ 5 ∷ 4 ∷ []))
  pub no_ports : HasShortEntries flow_astray
  pub for_ports : HasShortEntries stations_joined

-- a stream that ends at a bridge is none that is short, nor is a flow that begins at one; nor are streams for each port
-- where a link leads to a bridge, nor flows
pub record BridgesAreNoEnds : Type 0 where
  pub ends : ¬ HasShortEntries (record several_document { link_locals = []; flows = []; link_local_flows = [] })
  pub begins : ¬ HasShortEntries (record several_document { streams = []; link_locals = []; link_local_flows = [] })
  pub stream_for_ports : ¬ HasShortEntries (record at_ports_document { link_local_flows = [] })
  pub flow_for_ports : ¬ HasShortEntries (record at_ports_document { link_locals = [] })

pub record RoutesAreAtEdges : Type 0 where
  pub sixteen : SixteenAreShort
  pub others : OthersAreShort
  pub bridges : BridgesAreNoEnds

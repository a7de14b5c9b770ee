use Rattle.std.proofs.Common.{◌≡◌, ◌∙◌, ℕ, ◌≤◌, Bool, true, false, ◌&&◌, [], ◌∷◌, List, length, Option, Some, None}
use Rattle.std.proofs.Common.{refl, sym, ap, arith}
use Rattle.std.specs.Prelude.{nat_le}
use Rattle.std.specs.List.{list_all}
use Rattle.std.proofs.lemmas.Bool.{and_parts, false≢true}
use Rattle.std.proofs.lemmas.Bool.Decides.{nat_tests}
use Rattle.ats_topology.specs.Topology.{DeclaredTopology, topology_of}
use Rattle.ats_streams.specs.declared.path.TheConstants.{MAX_SHORT_PORTS}
use Rattle.ats_network.specs.Ends.{joins_stations}
use Rattle.ats_network_table.specs.declared.format.Format.TheVariants.{Two}
use Rattle.ats_network_toml.specs.Document as file
use Rattle.ats_network_file.specs.Reading.{links_of, nodes_of}
use Rattle.ats_network_file.specs.Routes.{ports_of}
use Rattle.ats_network_file_law.specs.Entries.{declared_flows, declared_streams}
use Rattle.ats_network_file_law.specs.ShortRoutes.{FlowIsShort, HasShortEntries, HasShortRoute, StreamIsShort}
use Rattle.ats_examples.proofs.Tests.{all_by, le_of, test_of_all}
use Rattle.ats_file_examples.specs.AtPorts.{at_ports_document, several_document}
use Rattle.ats_file_examples.specs.Forked as forked
use Rattle.ats_file_examples.specs.LongLines.{line_of}
use Rattle.ats_edge_examples.specs.ShortRoutes.{RoutesAreAtEdges, flow_along, flow_astray, stations_joined}

-- Short routes, by a test that computes.

-- the ports of a route are few and between stations, where it has some
abbrev are_short : DeclaredTopology → Option (List ℕ) → Bool
are_short topology None = true
are_short topology (Some ports) = nat_le (length ports) MAX_SHORT_PORTS && joins_stations topology ports

abbrev is_short : DeclaredTopology → file.DeclaredRoute → Bool
is_short topology route = are_short topology (ports_of topology route)

-- a route that passes is short, and each short one passes
route_by : (topology : DeclaredTopology) (route : file.DeclaredRoute) → is_short topology route ≡ true
    → HasShortRoute topology route
route_by topology route passed ports found =
    let both : are_short topology (Some ports) ≡ true = sym (ap (are_short topology) found) ∙ passed in
    let parts = and_parts (nat_le (length ports) MAX_SHORT_PORTS) (joins_stations topology ports) both in
    record { few = le_of (length ports) MAX_SHORT_PORTS parts.0; stations = parts.1 }

few_pass : (n most : ℕ) → n ≤ most → nat_le n most ≡ true
few_pass n most few = grind (arith, nat_tests, few)

route_passes : (topology : DeclaredTopology) (route : file.DeclaredRoute) → HasShortRoute topology route
    → is_short topology route ≡ true
route_passes topology route short = passes (ports_of topology route) refl
  where
    passes : (found : Option (List ℕ)) → ports_of topology route ≡ found → are_short topology found ≡ true
    passes None same = refl
    passes (Some ports) same =
        ap (λ (few : Bool). few && joins_stations topology ports)
        (few_pass (length ports) MAX_SHORT_PORTS (short ports same).few)
        ∙ (short ports same).stations

-- so do the routes of a stream
abbrev has_short : DeclaredTopology → file.DeclaredStream → Bool
has_short topology e = list_all (is_short topology) e.routes

stream_by : (topology : DeclaredTopology) (e : file.DeclaredStream) → has_short topology e ≡ true
    → StreamIsShort topology e
stream_by topology e passed = all_by (HasShortRoute topology) (is_short topology) (route_by topology) e.routes passed

stream_passes : (topology : DeclaredTopology) (e : file.DeclaredStream) → StreamIsShort topology e
    → has_short topology e ≡ true
stream_passes topology e short =
    test_of_all (HasShortRoute topology) (is_short topology) (route_passes topology) e.routes short

-- and those of a document
abbrev flow_is_short : DeclaredTopology → file.DeclaredFlow → Bool
flow_is_short topology e = is_short topology e.route

abbrev streams_short : file.DeclaredDocument → Bool
streams_short d =
    let topology = topology_of (nodes_of d) (links_of d) in
    list_all (has_short topology) (declared_streams topology d)

abbrev flows_short : file.DeclaredDocument → Bool
flows_short d =
    let topology = topology_of (nodes_of d) (links_of d) in
    list_all (flow_is_short topology) (declared_flows topology d)

short_by : (d : file.DeclaredDocument) → (streams_short d && flows_short d) ≡ true → HasShortEntries d
short_by d passed =
    let topology : DeclaredTopology = topology_of (nodes_of d) (links_of d) in
    let parts = and_parts (streams_short d) (flows_short d) passed in (
      all_by (StreamIsShort topology) (has_short topology) (stream_by topology) (declared_streams topology d) parts.0,
      all_by (FlowIsShort topology) (flow_is_short topology) (λ e. route_by topology e.route)
          (declared_flows topology d) parts.1,
    )

not_by : (d : file.DeclaredDocument) → (streams_short d && flows_short d) ≡ false → ¬ HasShortEntries d
not_by d fails short =
    let topology : DeclaredTopology = topology_of (nodes_of d) (links_of d) in
    let streams : streams_short d ≡ true =
    test_of_all (StreamIsShort topology) (has_short topology) (stream_passes topology) (declared_streams topology d)
    short.0 in
    let flows : flows_short d ≡ true =
    test_of_all (FlowIsShort topology) (flow_is_short topology) (λ e. route_passes topology e.route)
    (declared_flows topology d) short.1 in
    false≢true (sym fails ∙ ap (λ (passed : Bool). passed && flows_short d) streams ∙ flows)

pub routes_are_at_edges : RoutesAreAtEdges
routes_are_at_edges = record {
  sixteen = record {
    stream = short_by (line_of Two 14) refl;
    longer_stream = not_by (line_of Two 15) refl;
    flow = short_by (flow_along 14) refl;
    longer_flow = not_by (flow_along 15) refl;
  };
  others = record {
    by_ends = short_by (forked.document_with forked.ends_routes (6 ∷ 5 ∷ 4 ∷ [])) refl;
    by_paths = short_by (forked.document_with forked.paths_routes (6 ∷ 5 ∷ 4 ∷ [])) refl;
    no_ports = short_by flow_astray refl;
    for_ports = short_by stations_joined refl;
  };
  bridges = record {
    ends = not_by (record several_document { link_locals = []; flows = []; link_local_flows = [] }) refl;
    begins = not_by (record several_document { streams = []; link_locals = []; link_local_flows = [] }) refl;
    stream_for_ports = not_by (record at_ports_document { link_local_flows = [] }) refl;
    flow_for_ports = not_by (record at_ports_document { link_locals = [] }) refl;
  };
}

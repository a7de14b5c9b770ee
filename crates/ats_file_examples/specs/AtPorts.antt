use Rattle.std.specs.Prelude.{◌≡◌, ℕ, List, [], ◌∷◌, ◌++◌, codes, None, Ok}
use Rattle.ats_topology.specs.Topology.{DeclaredTopology, topology_of}
use Rattle.ats_topology.specs.declared.node.Kind.TheVariants.{Bridge}
use Rattle.ats_streams.specs.Flow.{DeclaredFlow, declared_flow}
use Rattle.ats_streams.specs.Stream.{DeclaredStream, declared_stream}
use Rattle.ats_network.specs.Network.{DeclaredNetwork, long_network}
use Rattle.ats_network_table.specs.declared.format.Format.TheVariants.{Three}
use Rattle.ats_network_toml.specs.Document.{DeclaredDocument, path}
use Rattle.ats_network_toml.specs.Reading.{document_of}
use Rattle.ats_network_file.specs.Reading.{network_of}
use Rattle.ats_examples.specs.Networks.{line_links, line_nodes, link, station}

-- Network files with a stream and a flow for each port, and with two of them, beside a stream and a flow.

-- one bridge between two stations: port 0 leads from s1 to b1, port 1 back, port 2 from b1 to s2, port 3 back
abbrev pub at_ports_text : List ℕ
at_ports_text =
    codes "format = 3\n[[station]]\nname = \"s1\"\n[[station]]\nname = \"s2\"\n[[bridge]]\nname = \"b1\"\n"
    ++ codes "processing_min_ns = 1000\nprocessing_max_ns = 1000\nresidence_ns = 1000000\n"
    ++ codes "[[link]]\na = \"s1\"\nb = \"b1\"\nmbps = 1000\npropagation_ns = 500\n"
    ++ codes "[[link]]\na = \"b1\"\nb = \"s2\"\nmbps = 1000\npropagation_ns = 500\n"
    ++ codes "[[link_local]]\nname = \"g\"\nclass = 7\nrate_bps = 8800\nburst_bits = 880\nmin_octets = 64\n"
    ++ codes "max_octets = 90\n[[link_local_flow]]\nname = \"l\"\nmax_octets = 320\n"

-- what its tables declare
abbrev pub at_ports_document : DeclaredDocument
at_ports_document = record {
  format = Three;
  stations = record { name = codes "s1" } ∷ record { name = codes "s2" } ∷ [];
  bridges =
      record {
        name = codes "b1";
        processing_min_ns = 1000;
        processing_max_ns = 1000;
        residence_ns = 1000000;
        clock_ppm = 0;
        clock_step_ps = 0;
      } ∷ [];
  links =
      record { a = codes "s1"; b = codes "b1"; mbps = 1000; propagation_ns = 500 }
      ∷ record { a = codes "b1"; b = codes "s2"; mbps = 1000; propagation_ns = 500 } ∷ [];
  streams = [];
  link_locals =
      record {
        name = codes "g";
        class = 7;
        rate_bps = 8800;
        burst_bits = 880;
        min_octets = 64;
        max_octets = 90;
        deadline_ns = 1000000000;
      } ∷ [];
  flows = [];
  link_local_flows = record { name = codes "l"; max_octets = 320 } ∷ [];
}

-- the network: a stream and a flow along each port, which leave stations and bridges
abbrev pub line_topology : DeclaredTopology
line_topology = topology_of line_nodes line_links

abbrev pub along : List ℕ → ℕ → DeclaredStream
along name port = declared_stream name (port ∷ []) (7 ∷ []) 8800 880 64 90 1000000000 None

abbrev pub streams : List DeclaredStream
streams =
    along (codes "g-0") 0 ∷ along (codes "g-1") 1 ∷ along (codes "g-2") 2 ∷ along (codes "g-3") 3 ∷ []

abbrev pub flows : List DeclaredFlow
flows =
    declared_flow (codes "l-0") (0 ∷ []) 320 ∷ declared_flow (codes "l-1") (1 ∷ []) 320
    ∷ declared_flow (codes "l-2") (2 ∷ []) 320 ∷ declared_flow (codes "l-3") (3 ∷ []) 320 ∷ []

abbrev pub at_ports : DeclaredNetwork
at_ports = long_network line_topology streams flows

-- one link: port 0 leads from s1 to b1, which has a clock, port 1 back. Two streams for each port, of which the second
-- has a deadline of its own, and two flows, among a flow and a stream
abbrev pub several_text : List ℕ
several_text =
    codes "format = 3\n[[station]]\nname = \"s1\"\n[[bridge]]\nname = \"b1\"\n"
    ++ codes "processing_min_ns = 1000\nprocessing_max_ns = 1000\nresidence_ns = 1000000\n"
    ++ codes "clock_ppm = 100\nclock_step_ps = 8000\n"
    ++ codes "[[link]]\na = \"s1\"\nb = \"b1\"\nmbps = 1000\npropagation_ns = 500\n"
    ++ codes "[[link_local]]\nname = \"g\"\nclass = 7\nrate_bps = 8800\nburst_bits = 880\nmin_octets = 64\n"
    ++ codes "max_octets = 90\n[[flow]]\nname = \"f\"\npath = [\"b1\", \"s1\"]\nmax_octets = 1500\n"
    ++ codes "[[link_local_flow]]\nname = \"l\"\nmax_octets = 320\n"
    ++ codes "[[stream]]\nname = \"a\"\npath = [\"s1\", \"b1\"]\nclass = 6\nrate_bps = 100000000\n"
    ++ codes "burst_bits = 12336\nmin_octets = 65\nmax_octets = 1522\ndeadline_ns = 1000000\n"
    ++ codes "[[link_local]]\nname = \"h\"\nclass = 5\nrate_bps = 7700\nburst_bits = 990\nmin_octets = 70\n"
    ++ codes "max_octets = 100\ndeadline_ns = 14716\n[[link_local_flow]]\nname = \"m\"\nmax_octets = 128\n"

-- what its tables declare
abbrev pub several_document : DeclaredDocument
several_document = record {
  format = Three;
  stations = record { name = codes "s1" } ∷ [];
  bridges =
      record {
        name = codes "b1";
        processing_min_ns = 1000;
        processing_max_ns = 1000;
        residence_ns = 1000000;
        clock_ppm = 100;
        clock_step_ps = 8000;
      } ∷ [];
  links = record { a = codes "s1"; b = codes "b1"; mbps = 1000; propagation_ns = 500 } ∷ [];
  streams =
      record {
        name = codes "a";
        routes = path (codes "s1" ∷ codes "b1" ∷ []) ∷ [];
        classes = 6 ∷ [];
        rate_bps = 100000000;
        burst_bits = 12336;
        min_octets = 65;
        max_octets = 1522;
        deadline_ns = 1000000;
        identity = None;
      } ∷ [];
  link_locals =
      record {
        name = codes "g";
        class = 7;
        rate_bps = 8800;
        burst_bits = 880;
        min_octets = 64;
        max_octets = 90;
        deadline_ns = 1000000000;
      }
      ∷ record {
        name = codes "h";
        class = 5;
        rate_bps = 7700;
        burst_bits = 990;
        min_octets = 70;
        max_octets = 100;
        deadline_ns = 14716;
      } ∷ [];
  flows = record { name = codes "f"; route = path (codes "b1" ∷ codes "s1" ∷ []); max_octets = 1500 } ∷ [];
  link_local_flows =
      record { name = codes "l"; max_octets = 320 } ∷ record { name = codes "m"; max_octets = 128 } ∷ [];
}

-- the network: the stream and then those along the ports, entry by entry, and so the flows
abbrev pub pair_topology : DeclaredTopology
pair_topology = topology_of
    (station (codes "s1") ∷ record { name = codes "b1"; kind = Bridge 1000 1000 1000000 100 8000 } ∷ [])
    (link (codes "s1") (codes "b1") ∷ [])

abbrev pub along_h : List ℕ → ℕ → DeclaredStream
along_h name port = declared_stream name (port ∷ []) (5 ∷ []) 7700 990 70 100 14716 None

abbrev pub several_streams : List DeclaredStream
several_streams =
    declared_stream (codes "a") (0 ∷ []) (6 ∷ []) 100000000 12336 65 1522 1000000 None
    ∷ along (codes "g-0") 0 ∷ along (codes "g-1") 1 ∷ along_h (codes "h-0") 0 ∷ along_h (codes "h-1") 1 ∷ []

abbrev pub several_flows : List DeclaredFlow
several_flows =
    declared_flow (codes "f") (1 ∷ []) 1500
    ∷ declared_flow (codes "l-0") (0 ∷ []) 320 ∷ declared_flow (codes "l-1") (1 ∷ []) 320
    ∷ declared_flow (codes "m-0") (0 ∷ []) 128 ∷ declared_flow (codes "m-1") (1 ∷ []) 128 ∷ []

abbrev pub several_at_ports : DeclaredNetwork
several_at_ports = long_network pair_topology several_streams several_flows

pub record PortsAreRead : Type 0 where
  pub tables : document_of at_ports_text ≡ Ok at_ports_document
  pub network : network_of at_ports_text ≡ Ok at_ports
  pub several_tables : document_of several_text ≡ Ok several_document
  pub several_network : network_of several_text ≡ Ok several_at_ports

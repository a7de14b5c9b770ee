use Rattle.std.specs.Prelude.{◌≡◌, ℕ, List, [], ◌∷◌, ◌++◌, codes, Some, None, Ok, Err}
use Rattle.ats_streams.specs.Flow.{declared_flow}
use Rattle.ats_streams.specs.Stream.{declared_stream}
use Rattle.ats_topology.specs.Topology.{topology_of}
use Rattle.ats_topology.specs.declared.fault.TopologyFault.TheVariants.{LinkTwice, NodeTwice}
use Rattle.ats_topology.specs.declared.link.Link.{Link}
use Rattle.ats_topology.specs.declared.node.Kind.TheVariants.{Bridge, Station}
use Rattle.ats_topology.specs.declared.node.Node.{Node}
use Rattle.ats_network.specs.Network.{DeclaredNetwork, declared_network}
use Rattle.ats_network_table.specs.declared.fault.DocumentFault.TheVariants as form
use Rattle.ats_network_table.specs.declared.key.Key.TheVariants as key
use Rattle.ats_network_table.specs.declared.table.Table.TheVariants as table
use Rattle.ats_network_table.specs.declared.format.Format.TheVariants.{Two}
use Rattle.ats_network_toml.specs.Document.{DeclaredDocument, DeclaredFlow, DeclaredStream, ends, path}
use Rattle.ats_network_toml.specs.Reading.{document_of}
use Rattle.ats_network_toml.specs.declared.entries.BridgeEntry.{BridgeEntry}
use Rattle.ats_network_toml.specs.declared.entries.LinkEntry.{LinkEntry}
use Rattle.ats_network_file.specs.Reading.{network_of}
use Rattle.ats_network_file.specs.declared.fault.NetFault.TheVariants as fault
use Rattle.ats_network_file.specs.declared.senders.SenderTable.TheVariants.{Flow, Stream}
use Rattle.ats_file_examples.specs.NetworkText.{links_text, network_text, nodes_text, streams_text}

-- What the text of the network file declares.

-- a bridge and a link by their numbers, in the order of the keys in the file
abbrev pub bridge : List ℕ → ℕ → ℕ → ℕ → BridgeEntry
bridge name least most residence =
    record {
      name = name;
      processing_min_ns = least;
      processing_max_ns = most;
      residence_ns = residence;
      clock_ppm = 0;
      clock_step_ps = 0;
    }

abbrev pub link : List ℕ → List ℕ → ℕ → ℕ → LinkEntry
link a b mbps propagation = record { a = a; b = b; mbps = mbps; propagation_ns = propagation }

-- its streams: an address is one number of six bytes, and a deadline that is not given is a second
abbrev pub p : DeclaredStream
p = record {
  name = codes "p";
  routes = path (codes "s1" ∷ codes "b1" ∷ codes "b2" ∷ codes "b3" ∷ codes "s3" ∷ []) ∷ [];
  classes = 6 ∷ 5 ∷ 4 ∷ 3 ∷ [];
  rate_bps = 5000001;
  burst_bits = 20001;
  min_octets = 101;
  max_octets = 1001;
  deadline_ns = 900001;
  identity = Some (0x0123456789AB, 701);
}

abbrev pub q : DeclaredStream
q = record {
  name = codes "q";
  routes = ends (codes "s2") (codes "s4") ∷ [];
  classes = 5 ∷ [];
  rate_bps = 5000002;
  burst_bits = 20002;
  min_octets = 102;
  max_octets = 1002;
  deadline_ns = 1000000000;
  identity = None;
}

abbrev pub r : DeclaredStream
r = record {
  name = codes "r";
  routes = path (codes "s3" ∷ codes "b3" ∷ codes "b2" ∷ codes "s2" ∷ []) ∷ [];
  classes = 3 ∷ [];
  rate_bps = 5000003;
  burst_bits = 20003;
  min_octets = 103;
  max_octets = 1003;
  deadline_ns = 900003;
  identity = Some (0x0A1B2C3D4E5F, 703);
}

abbrev pub t : DeclaredStream
t = record {
  name = codes "t";
  routes = ends (codes "s4") (codes "s3") ∷ [];
  classes = 2 ∷ 4 ∷ 6 ∷ 7 ∷ [];
  rate_bps = 5000004;
  burst_bits = 20004;
  min_octets = 104;
  max_octets = 1004;
  deadline_ns = 900004;
  identity = None;
}

abbrev pub streams : List DeclaredStream
streams = p ∷ q ∷ r ∷ t ∷ []

-- its flows
abbrev pub f : DeclaredFlow
f = record { name = codes "f"; route = path (codes "s1" ∷ codes "b1" ∷ codes "s4" ∷ []); max_octets = 501 }

abbrev pub g : DeclaredFlow
g = record { name = codes "g"; route = ends (codes "s3") (codes "s2"); max_octets = 502 }

abbrev pub h : DeclaredFlow
h = record {
  name = codes "h";
  route = path (codes "s2" ∷ codes "b2" ∷ codes "b1" ∷ codes "s4" ∷ []);
  max_octets = 503;
}

abbrev pub flows : List DeclaredFlow
flows = f ∷ g ∷ h ∷ []

-- each table in its order, with these senders
abbrev pub document_with : List DeclaredStream → List DeclaredFlow → DeclaredDocument
document_with streams flows = record {
  format = Two;
  stations =
      record { name = codes "s1" } ∷ record { name = codes "s2" } ∷ record { name = codes "s3" }
      ∷ record { name = codes "s4" } ∷ [];
  bridges =
      bridge (codes "b1") 701 1501 300001 ∷ bridge (codes "b2") 802 1602 300002
      ∷ bridge (codes "b3") 903 1703 300003 ∷ [];
  links =
      link (codes "s1") (codes "b1") 100 41 ∷ link (codes "s2") (codes "b2") 1000 42
      ∷ link (codes "b3") (codes "s3") 10000 43 ∷ link (codes "b1") (codes "b2") 2500 44
      ∷ link (codes "b2") (codes "b3") 5000 45 ∷ link (codes "s4") (codes "b1") 25000 46 ∷ [];
  streams = streams;
  link_locals = [];
  flows = flows;
  link_local_flows = [];
}

abbrev pub document : DeclaredDocument
document = document_with streams flows

-- the nodes: the stations, and then the bridges; and the links. Link i has the ports 2 * i and 2 * i + 1
abbrev pub crowd_nodes : List Node
crowd_nodes =
    record { name = codes "s1"; kind = Station } ∷ record { name = codes "s2"; kind = Station }
    ∷ record { name = codes "s3"; kind = Station } ∷ record { name = codes "s4"; kind = Station }
    ∷ record { name = codes "b1"; kind = Bridge 701 1501 300001 0 0 }
    ∷ record { name = codes "b2"; kind = Bridge 802 1602 300002 0 0 }
    ∷ record { name = codes "b3"; kind = Bridge 903 1703 300003 0 0 } ∷ []

abbrev pub linked : List ℕ → List ℕ → ℕ → ℕ → Link
linked a b mbps propagation = record { a = a; b = b; mbps = mbps; propagation_ns = propagation }

abbrev pub crowd_links : List Link
crowd_links =
    linked (codes "s1") (codes "b1") 100 41 ∷ linked (codes "s2") (codes "b2") 1000 42
    ∷ linked (codes "b3") (codes "s3") 10000 43 ∷ linked (codes "b1") (codes "b2") 2500 44
    ∷ linked (codes "b2") (codes "b3") 5000 45 ∷ linked (codes "s4") (codes "b1") 25000 46 ∷ []

-- the network: each sender with the ports of its path, and each stream with a class for each of them
abbrev pub crowd : DeclaredNetwork
crowd = declared_network (topology_of crowd_nodes crowd_links)
    (declared_stream (codes "p") (0 ∷ 6 ∷ 8 ∷ 4 ∷ []) (6 ∷ 5 ∷ 4 ∷ 3 ∷ []) 5000001 20001 101 1001 900001
    (Some (0x0123456789AB, 701))
    ∷ declared_stream (codes "q") (2 ∷ 7 ∷ 11 ∷ []) (5 ∷ 5 ∷ 5 ∷ []) 5000002 20002 102 1002 1000000000 None
    ∷ declared_stream (codes "r") (5 ∷ 9 ∷ 3 ∷ []) (3 ∷ 3 ∷ 3 ∷ []) 5000003 20003 103 1003 900003
    (Some (0x0A1B2C3D4E5F, 703))
    ∷ declared_stream (codes "t") (10 ∷ 6 ∷ 8 ∷ 4 ∷ []) (2 ∷ 4 ∷ 6 ∷ 7 ∷ []) 5000004 20004 104 1004 900004 None ∷ [])
    (declared_flow (codes "f") (0 ∷ 11 ∷ []) 501 ∷ declared_flow (codes "g") (5 ∷ 9 ∷ 3 ∷ []) 502
    ∷ declared_flow (codes "h") (2 ∷ 7 ∷ 11 ∷ []) 503 ∷ [])

-- the text is read so
pub record NetworkIsRead : Type 0 where
  pub tables : document_of network_text ≡ Ok document
  pub network : network_of network_text ≡ Ok crowd

-- a further table of each array without a key, behind the others: its number is told
pub record FormIsCounted : Type 0 where
  pub station : document_of (network_text ++ codes "[[station]]\n") ≡ Err (form.Missing table.Station 5 key.Name)
  pub bridge : document_of (network_text ++ codes "[[bridge]]\nname = \"b4\"\n")
      ≡ Err (form.Missing table.Bridge 4 key.ProcessingMinNs)
  pub link : document_of (network_text ++ codes "[[link]]\na = \"s5\"\nb = \"b3\"\nmbps = \"1\"\npropagation_ns = 1\n")
      ≡ Err (form.WrongKind table.Link 7 key.Mbps)
  pub stream : document_of (network_text ++ codes "[[stream]]\nname = \"w\"\nto = \"s1\"\n")
      ≡ Err (form.Missing table.Stream 5 key.From)
  pub flow : document_of
      (network_text ++ codes "[[flow]]\nname = \"i\"\nfrom = \"s1\"\nto = \"s2\"\nmax_octets = 64\nx = 0\n")
      ≡ Err (form.Unknown table.Flow 4)

-- and a further table that does not fit to those before
pub record FaultsAreCounted : Type 0 where
  pub node : network_of (nodes_text ++ codes "[[station]]\nname = \"s3\"\n") ≡ Err (fault.Topology (NodeTwice 5))
  pub link : network_of
      (nodes_text ++ links_text ++ codes "[[link]]\na = \"b3\"\nb = \"b2\"\nmbps = 10\npropagation_ns = 1\n")
      ≡ Err (fault.Topology (LinkTwice 7))
  pub stream : network_of (nodes_text ++ links_text ++ streams_text
      ++ codes "[[stream]]\nname = \"t\"\nfrom = \"s1\"\nto = \"s2\"\nclass = 1\nrate_bps = 1\nburst_bits = 672\n"
      ++ codes "min_octets = 64\nmax_octets = 64\n") ≡ Err (fault.SenderTwice Stream 5)
  pub identity : network_of (nodes_text ++ links_text ++ streams_text
      ++ codes "[[stream]]\nname = \"w\"\nfrom = \"s1\"\nto = \"s2\"\nclass = 1\nrate_bps = 1\nburst_bits = 672\n"
      ++ codes "min_octets = 64\nmax_octets = 64\naddress = \"0A:1B:2C:3D:4E:5F\"\nvlan = 703\n")
      ≡ Err (fault.IdentityTwice 5)
  pub flow : network_of (network_text ++ codes "[[flow]]\nname = \"i\"\npath = [\"s1\", \"b2\"]\nmax_octets = 64\n")
      ≡ Err (fault.BadPath Flow 4)

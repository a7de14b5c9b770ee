use Rattle.std.specs.Prelude.{◌≡◌, ℕ, zero, suc, ◌+◌, List, [], ◌∷◌, ◌++◌, codes, replicate, None}
use Rattle.std.specs.Prelude.{Ok, Err}
use Rattle.ats_topology.specs.Topology.{DeclaredTopology, topology_of}
use Rattle.ats_streams.specs.Stream as declared
use Rattle.ats_streams.specs.declared.fault.StreamFault.TheVariants.{Limit}
use Rattle.ats_network.specs.Network.{declared_network, long_network}
use Rattle.ats_network_table.specs.declared.format.Format.{Format}
use Rattle.ats_network_table.specs.declared.format.Format.TheVariants.{One}
use Rattle.ats_network_toml.specs.Document.{DeclaredDocument, DeclaredStream, path}
use Rattle.ats_network_toml.specs.declared.entries.BridgeEntry.{BridgeEntry}
use Rattle.ats_network_toml.specs.declared.entries.LinkEntry.{LinkEntry}
use Rattle.ats_network_file.specs.Reading.{links_of, network_of, nodes_of}
use Rattle.ats_network_file.specs.declared.fault.NetFault.TheVariants as fault
use Rattle.ats_network_file.specs.declared.senders.SenderTable.TheVariants.{Stream}

-- A network file of a line of bridges, with one stream from end to end.

-- bridges are named `a`, `b` and so on
abbrev pub letter : ℕ → List ℕ
letter k = (97 + k) ∷ []

-- one bridge, with what stands there of its times, and so many further
abbrev pub bridge_text : List ℕ → ℕ → List ℕ
bridge_text times k = codes "{name=\"" ++ letter k ++ codes "\"," ++ times ++ codes "}"

abbrev pub bridges_text : List ℕ → ℕ → ℕ → List ℕ
bridges_text times k zero = bridge_text times k ++ codes "]\n"
bridges_text times k (suc n) = bridge_text times k ++ codes "," ++ bridges_text times (k + 1) n

-- a link, and the links from a bridge on, over so many further, to the second station
abbrev pub link_text : List ℕ → List ℕ → List ℕ
link_text a b = codes "{a=\"" ++ a ++ codes "\",b=\"" ++ b ++ codes "\",mbps=100,propagation_ns=0}"

abbrev pub links_text : ℕ → ℕ → List ℕ
links_text k zero = link_text (letter k) (codes "s2") ++ codes "]\n"
links_text k (suc n) = link_text (letter k) (letter (k + 1)) ++ codes "," ++ links_text (k + 1) n

-- the names of these bridges, and of the second station
abbrev pub names_text : ℕ → ℕ → List ℕ
names_text k zero = codes "\"" ++ letter k ++ codes "\",\"s2\"],"
names_text k (suc n) = codes "\"" ++ letter k ++ codes "\"," ++ names_text (k + 1) n

-- the text of a format, with one bridge and so many further between two stations, one behind another
abbrev pub line_text : List ℕ → List ℕ → ℕ → List ℕ
line_text format times n =
    codes "format=" ++ format ++ codes "\nstation=[{name=\"s1\"},{name=\"s2\"}]\nbridge=[" ++ bridges_text times 0 n
    ++ codes "link=[" ++ link_text (codes "s1") (letter 0) ++ codes "," ++ links_text 0 n
    ++ codes "stream=[{name=\"w\",path=[\"s1\"," ++ names_text 0 n
    ++ codes "class=1,rate_bps=1,burst_bits=672,min_octets=64,max_octets=64}]\n"

-- as each format writes that a bridge takes 1 ns
abbrev pub one_time : List ℕ
one_time = codes "processing_ns=1,residence_ns=2"

abbrev pub two_times : List ℕ
two_times = codes "processing_min_ns=1,processing_max_ns=1,residence_ns=2"

-- what the tables of such a text declare
abbrev pub bridges_from : ℕ → ℕ → List BridgeEntry
bridges_from k zero =
    record {
      name = letter k;
      processing_min_ns = 1;
      processing_max_ns = 1;
      residence_ns = 2;
      clock_ppm = 0;
      clock_step_ps = 0;
    } ∷ []
bridges_from k (suc n) =
    record {
      name = letter k;
      processing_min_ns = 1;
      processing_max_ns = 1;
      residence_ns = 2;
      clock_ppm = 0;
      clock_step_ps = 0;
    } ∷ bridges_from (k + 1) n

abbrev pub joined : List ℕ → List ℕ → LinkEntry
joined a b = record { a = a; b = b; mbps = 100; propagation_ns = 0 }

abbrev pub links_from : ℕ → ℕ → List LinkEntry
links_from k zero = joined (letter k) (codes "s2") ∷ []
links_from k (suc n) = joined (letter k) (letter (k + 1)) ∷ links_from (k + 1) n

abbrev pub names_from : ℕ → ℕ → List (List ℕ)
names_from k zero = letter k ∷ codes "s2" ∷ []
names_from k (suc n) = letter k ∷ names_from (k + 1) n

abbrev pub along_all : ℕ → DeclaredStream
along_all n = record {
  name = codes "w";
  routes = path (codes "s1" ∷ names_from 0 n) ∷ [];
  classes = 1 ∷ [];
  rate_bps = 1;
  burst_bits = 672;
  min_octets = 64;
  max_octets = 64;
  deadline_ns = 1000000000;
  identity = None;
}

abbrev pub line_of : Format → ℕ → DeclaredDocument
line_of format n = record {
  format = format;
  stations = record { name = codes "s1" } ∷ record { name = codes "s2" } ∷ [];
  bridges = bridges_from 0 n;
  links = joined (codes "s1") (letter 0) ∷ links_from 0 n;
  streams = along_all n ∷ [];
  link_locals = [];
  flows = [];
  link_local_flows = [];
}

-- its topology, and the ports of so many links one behind another, the first of which has this number
abbrev pub line_topology : ℕ → DeclaredTopology
line_topology n = topology_of (nodes_of (line_of One n)) (links_of (line_of One n))

abbrev pub ports_from : ℕ → ℕ → List ℕ
ports_from p zero = []
ports_from p (suc n) = p ∷ ports_from (p + 2) n

-- its stream, over these ports with class 1 at each
abbrev pub along : ℕ → declared.DeclaredStream
along links =
    declared.declared_stream (codes "w") (ports_from 0 links) (replicate links 1) 1 672 64 64 1000000000 None

-- a route of 16 links is taken in formats 1 and 2, and one of 17 is over their limit; format 3 takes it
pub record LinesAreLimited : Type 0 where
  pub one : network_of (line_text (codes "1") one_time 14)
      ≡ Ok (declared_network (line_topology 14) (along 16 ∷ []) [])
  pub one_over : network_of (line_text (codes "1") one_time 15) ≡ Err (fault.Sender Stream 1 Limit)
  pub two : network_of (line_text (codes "2") two_times 14)
      ≡ Ok (declared_network (line_topology 14) (along 16 ∷ []) [])
  pub two_over : network_of (line_text (codes "2") two_times 15) ≡ Err (fault.Sender Stream 1 Limit)
  pub three : network_of (line_text (codes "3") two_times 15)
      ≡ Ok (long_network (line_topology 15) (along 17 ∷ []) [])

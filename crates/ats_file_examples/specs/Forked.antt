use Rattle.std.specs.Prelude.{◌≡◌, ℕ, List, [], ◌∷◌, ◌++◌, codes, Some, Ok, Err}
use Rattle.ats_streams.specs.Stream.{branching_stream}
use Rattle.ats_network.specs.Network.{DeclaredNetwork, long_network}
use Rattle.ats_network_table.specs.declared.format.Format.TheVariants.{Three}
use Rattle.ats_network_toml.specs.Document.{DeclaredDocument, DeclaredRoute, ends, path}
use Rattle.ats_network_toml.specs.Reading.{document_of}
use Rattle.ats_network_file.specs.Reading.{network_of}
use Rattle.ats_network_file.specs.declared.fault.NetFault.TheVariants as fault
use Rattle.ats_network_file.specs.declared.senders.SenderTable.TheVariants.{Stream}
use Rattle.ats_examples.specs.Networks.{fork}

-- A network file of format 3, whose stream has two listeners.

-- three stations at one bridge, and a stream with these routes, and with these classes
abbrev pub forked_text : List ℕ → List ℕ → List ℕ
forked_text routes classes =
    codes "format = 3\n[[station]]\nname = \"s1\"\n[[station]]\nname = \"s2\"\n[[station]]\nname = \"s3\"\n[[bridge]]\n"
    ++ codes "name = \"b1\"\nprocessing_min_ns = 1000\nprocessing_max_ns = 1000\nresidence_ns = 11664\n"
    ++ codes "[[link]]\na = \"s1\"\nb = \"b1\"\nmbps = 1000\npropagation_ns = 500\n"
    ++ codes "[[link]]\na = \"b1\"\nb = \"s2\"\nmbps = 1000\npropagation_ns = 500\n"
    ++ codes "[[link]]\na = \"s3\"\nb = \"b1\"\nmbps = 1000\npropagation_ns = 500\n"
    ++ codes "[[stream]]\nname = \"a\"\nrate_bps = 100000000\nburst_bits = 12336\nmin_octets = 64\nmax_octets = 1522\n"
    ++ codes "deadline_ns = 26672\naddress = \"01:00:5e:00:00:01\"\nvlan = 5\n" ++ routes ++ classes

-- its routes by the ends alone, and by all nodes; and classes for each of its ports
abbrev pub ends_text : List ℕ
ends_text = codes "from = \"s1\"\nto = [\"s2\", \"s3\"]\n"

abbrev pub paths_text : List ℕ
paths_text = codes "paths = [[\"s1\", \"b1\", \"s2\"], [\"s1\", \"b1\", \"s3\"]]\n"

abbrev pub classes_text : List ℕ
classes_text = codes "classes = [6, 5, 4]\n"

-- what its tables declare
abbrev pub document_with : List DeclaredRoute → List ℕ → DeclaredDocument
document_with routes classes = record {
  format = Three;
  stations = record { name = codes "s1" } ∷ record { name = codes "s2" } ∷ record { name = codes "s3" } ∷ [];
  bridges = record {
    name = codes "b1";
    processing_min_ns = 1000;
    processing_max_ns = 1000;
    residence_ns = 11664;
    clock_ppm = 0;
    clock_step_ps = 0;
  } ∷ [];
  links =
      record { a = codes "s1"; b = codes "b1"; mbps = 1000; propagation_ns = 500 }
      ∷ record { a = codes "b1"; b = codes "s2"; mbps = 1000; propagation_ns = 500 }
      ∷ record { a = codes "s3"; b = codes "b1"; mbps = 1000; propagation_ns = 500 } ∷ [];
  streams =
      record {
        name = codes "a";
        routes = routes;
        classes = classes;
        rate_bps = 100000000;
        burst_bits = 12336;
        min_octets = 64;
        max_octets = 1522;
        deadline_ns = 26672;
        identity = Some (0x01005E000001, 5);
      } ∷ [];
  link_locals = [];
  flows = [];
  link_local_flows = [];
}

abbrev pub ends_routes : List DeclaredRoute
ends_routes = ends (codes "s1") (codes "s2") ∷ ends (codes "s1") (codes "s3") ∷ []

abbrev pub paths_routes : List DeclaredRoute
paths_routes =
    path (codes "s1" ∷ codes "b1" ∷ codes "s2" ∷ []) ∷ path (codes "s1" ∷ codes "b1" ∷ codes "s3" ∷ []) ∷ []

-- the network: the port of the branch is behind those of the trunk, and the branch begins behind the first of these
abbrev pub forked : List ℕ → DeclaredNetwork
forked classes = long_network fork.topology
    (branching_stream (codes "a") (0 ∷ 2 ∷ 5 ∷ []) (record { first = 2; leg = 0; hop = 1 } ∷ []) classes 100000000 12336
    64 1522 26672 (Some (0x01005E000001, 5)) ∷ []) []

-- it is declared by ends and by paths, with a class for each port and with one for all
pub record ForkIsRead : Type 0 where
  pub tables : document_of (forked_text ends_text classes_text) ≡ Ok (document_with ends_routes (6 ∷ 5 ∷ 4 ∷ []))
  pub tables_by_paths : document_of (forked_text paths_text classes_text)
      ≡ Ok (document_with paths_routes (6 ∷ 5 ∷ 4 ∷ []))
  pub by_ends : network_of (forked_text ends_text classes_text) ≡ Ok (forked (6 ∷ 5 ∷ 4 ∷ []))
  pub by_paths : network_of (forked_text paths_text classes_text) ≡ Ok (forked (6 ∷ 5 ∷ 4 ∷ []))
  pub one_class : network_of (forked_text ends_text (codes "class = 6\n")) ≡ Ok (forked (6 ∷ 6 ∷ 6 ∷ []))
  pub listener_twice : network_of (forked_text (codes "from = \"s1\"\nto = [\"s2\", \"s2\"]\n") classes_text)
      ≡ Err (fault.BadPath Stream 1)

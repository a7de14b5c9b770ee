use Rattle.std.specs.Prelude.{◌≡◌, ◌≢◌, ◌<◌, ℕ, List, [], ◌∷◌, ◌++◌, length, map, codes, All, AllPairs}
use Rattle.std.specs.Prelude.{Some, Ok}
use Rattle.ats_topology.specs.Topology.{IsTopology, ports_of}
use Rattle.ats_topology.specs.declared.link.Link.{Link}
use Rattle.ats_topology.specs.declared.node.Kind.TheVariants.{Bridge, Station}
use Rattle.ats_topology.specs.declared.node.Node.{Node}
use Rattle.ats_network_table.specs.declared.format.Format.TheVariants.{One, Three, Two}
use Rattle.ats_network_toml.specs.Document.{DeclaredDocument, DeclaredStream, ends, path}
use Rattle.ats_network_toml.specs.Reading.{format_in}
use Rattle.ats_network_file.specs.Reading.{IsBeforeFormat3}
use Rattle.ats_network_file.specs.Routes.{paths_of}
use Rattle.ats_network_file_law.specs.Formats.{AreOfOneMeaning}
use Rattle.ats_network_file_law.specs.OneListener.{AreWrittenByPath}
use Rattle.ats_network_file_law.specs.Several.{IsStationNamed}
use Rattle.ats_port_names.specs.Laws.{AreSound}
use Rattle.ats_certificate.specs.Form.{AreRows}
use Rattle.ats_certificate.specs.declared.row.Row.{Row}
use Rattle.ats_examples.specs.Networks.{fork}
use Rattle.ats_text_examples.specs.Ports.{row_with}
use Rattle.ats_file_examples.specs.Forked.{classes_text, ends_text, forked_text}
use Rattle.ats_file_examples.specs.Network.{crowd_links, crowd_nodes, document, document_with, flows, linked, p, q, r}
use Rattle.ats_file_examples.specs.Network.{t}
use Rattle.ats_file_examples.specs.NetworkText.{network_text}

-- What the laws of formats, and of names of ports, ask for: each premise is met by worked files.

-- a text of this format with a bridge and two streams, of which one has its path and one its ends
abbrev pub text_of_format : List ℕ → List ℕ
text_of_format n =
    codes "format = " ++ n ++ codes "\n[[station]]\nname = \"s1\"\n"
    ++ codes "[[bridge]]\nname = \"b1\"\nprocessing_min_ns = 1\nprocessing_max_ns = 2\nresidence_ns = 3\n"
    ++ codes "[[stream]]\nname = \"a\"\npath = [\"s1\", \"s2\"]\n"
    ++ codes "class = 6\nrate_bps = 1\nburst_bits = 672\nmin_octets = 64\nmax_octets = 65\n"
    ++ codes "[[stream]]\nname = \"b\"\nfrom = \"s2\"\nto = \"s1\"\n"
    ++ codes "class = 5\nrate_bps = 2\nburst_bits = 673\nmin_octets = 66\nmax_octets = 67\n"

-- the format of a text, and whether it is before the third
pub record FormatsAreRead : Type 0 where
  pub one : format_in (text_of_format (codes "1")) ≡ Ok One
  pub two : format_in network_text ≡ Ok Two
  pub three : format_in (forked_text ends_text classes_text) ≡ Ok Three
  pub one_is_before : IsBeforeFormat3 (text_of_format (codes "1"))
  pub two_is_before : IsBeforeFormat3 network_text
  pub three_is_not : ¬ IsBeforeFormat3 (forked_text ends_text classes_text)

-- the entry of a stream with a path of these names
abbrev pub by_path : DeclaredStream → List (List ℕ) → DeclaredStream
by_path entry names = record entry { routes = path names ∷ [] }

-- the worked file with the path of each stream
abbrev pub document_by_paths : DeclaredDocument
document_by_paths = document_with
    (p ∷ by_path q (codes "s2" ∷ codes "b2" ∷ codes "b1" ∷ codes "s4" ∷ []) ∷ r
    ∷ by_path t (codes "s4" ∷ codes "b1" ∷ codes "b2" ∷ codes "b3" ∷ codes "s3" ∷ []) ∷ []) flows

-- routes by their ends from one station of the fork to two others, each of which is a valid path
pub record EndsHavePaths : Type 0 where
  pub topology : IsTopology fork.topology
  pub apart : AllPairs (λ a b. a ≢ b) (codes "s2" ∷ codes "s3" ∷ [])
  pub stations : All (IsStationNamed fork.topology) (codes "s1" ∷ codes "s2" ∷ codes "s3" ∷ [])
  pub paths : paths_of fork.topology (map (ends (codes "s1")) (codes "s2" ∷ codes "s3" ∷ []))
      ≡ Some ((0 ∷ 2 ∷ []) ∷ (0 ∷ 5 ∷ []) ∷ [])

-- a name of 32 bytes
abbrev pub long : ℕ → List ℕ
long digit = codes "gateway-of-the-left_FRONT_door-" ++ digit ∷ []

abbrev pub long_nodes : List Node
long_nodes =
    record { name = long 49; kind = Station } ∷ record { name = long 50; kind = Station }
    ∷ record { name = long 51; kind = Bridge 1 2 3 0 0 } ∷ []

abbrev pub long_links : List Link
long_links = linked (long 49) (long 51) 100 41 ∷ linked (long 51) (long 50) 1000 42 ∷ []

-- rows of its ports
abbrev pub long_rows : List Row
long_rows = row_with 0 6 1 2 3 4 5 6 7 ∷ row_with 0 7 8 9 10 11 12 13 14 ∷ row_with 3 1 15 16 17 18 19 20 21 ∷ []

pub record NamesAreSound : Type 0 where
  pub short_names : AreSound crowd_nodes crowd_links
  pub length_is : length (long 49) ≡ 32
  pub long_names : AreSound long_nodes long_links
  pub rows : AreRows long_rows
  pub ports : All (λ (row : Row). row.port < length (ports_of long_nodes long_links)) long_rows

pub record PremisesAreMet : Type 0 where
  pub meaning : AreOfOneMeaning (text_of_format (codes "3")) (text_of_format (codes "2"))
  pub paths : AreWrittenByPath document document_by_paths
  pub formats : FormatsAreRead
  pub ends : EndsHavePaths
  pub names : NamesAreSound

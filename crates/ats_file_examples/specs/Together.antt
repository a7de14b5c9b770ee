use Rattle.std.specs.Prelude.{◌≡◌, ℕ, List, [], ◌∷◌, ◌++◌, codes, Some, Ok, Err}
use Rattle.ats_network_table.specs.declared.fault.DocumentFault.TheVariants.{Missing, WrongKind}
use Rattle.ats_network_table.specs.declared.key.Key.TheVariants as key
use Rattle.ats_network_table.specs.declared.table.Table.TheVariants.{Flow, Stream}
use Rattle.ats_network_table.specs.declared.format.Format.TheVariants.{Two}
use Rattle.ats_network_toml.specs.Document.{DeclaredDocument, ends}
use Rattle.ats_network_toml.specs.Reading.{document_of}

-- Keys of a stream or flow of which one asks for another, or stands in its place.

-- a file with one stream, which has these keys beside its name and its traffic
abbrev pub stream_with : List ℕ → List ℕ
stream_with keys =
    codes "format = 2\n[[stream]]\nname = \"w\"\n" ++ keys
    ++ codes "rate_bps = 1\nburst_bits = 672\nmin_octets = 64\nmax_octets = 64\n"

-- its path by its ends
abbrev pub ends_text : List ℕ
ends_text = codes "from = \"s1\"\nto = \"s2\"\n"

-- and by all its nodes
abbrev pub path_text : List ℕ
path_text = codes "path = [\"s1\", \"b1\", \"s2\"]\n"

-- this VLAN, and the greatest address
abbrev pub identity_text : List ℕ → List ℕ
identity_text vlan =
    ends_text ++ codes "class = 1\naddress = \"FF:ff:FF:ff:FF:ff\"\nvlan = " ++ vlan ++ codes "\n"

-- what the file then declares
abbrev pub identified : ℕ → DeclaredDocument
identified vlan = record {
  format = Two;
  stations = [];
  bridges = [];
  links = [];
  streams =
      record {
        name = codes "w";
        routes = ends (codes "s1") (codes "s2") ∷ [];
        classes = 1 ∷ [];
        rate_bps = 1;
        burst_bits = 672;
        min_octets = 64;
        max_octets = 64;
        deadline_ns = 1000000000;
        identity = Some (0xFFFFFFFFFFFF, vlan);
      } ∷ [];
  link_locals = [];
  flows = [];
  link_local_flows = [];
}

-- a VLAN asks for an address, and an address for a VLAN; a stream has a class or classes, a path or both its ends;
-- a VLAN is 1 to 4094
pub record KeysGoTogether : Type 0 where
  pub vlan_alone : document_of (stream_with (ends_text ++ codes "class = 1\nvlan = 5\n"))
      ≡ Err (Missing Stream 1 key.Address)
  pub address_alone : document_of (stream_with (ends_text ++ codes "class = 1\naddress = \"02:00:00:00:00:01\"\n"))
      ≡ Err (Missing Stream 1 key.Vlan)
  pub no_class : document_of (stream_with ends_text) ≡ Err (Missing Stream 1 key.Class)
  pub both_classes : document_of (stream_with (ends_text ++ codes "class = 1\nclasses = [1, 1]\n"))
      ≡ Err (WrongKind Stream 1 key.Classes)
  pub no_path : document_of (stream_with (codes "class = 1\n")) ≡ Err (Missing Stream 1 key.Path)
  pub path_and_from : document_of (stream_with (path_text ++ codes "from = \"s1\"\nclass = 1\n"))
      ≡ Err (Missing Stream 1 key.To)
  pub path_and_ends : document_of (stream_with (path_text ++ ends_text ++ codes "class = 1\n"))
      ≡ Err (WrongKind Stream 1 key.Path)
  pub flow_no_path : document_of (codes "format = 2\n[[flow]]\nname = \"i\"\nmax_octets = 64\n")
      ≡ Err (Missing Flow 1 key.Path)
  pub flow_path_and_ends : document_of
      (codes "format = 2\n[[flow]]\nname = \"i\"\nmax_octets = 64\n" ++ path_text ++ ends_text)
      ≡ Err (WrongKind Flow 1 key.Path)
  pub least_vlan : document_of (stream_with (identity_text (codes "1"))) ≡ Ok (identified 1)
  pub greatest_vlan : document_of (stream_with (identity_text (codes "4094"))) ≡ Ok (identified 4094)
  pub vlan_below : document_of (stream_with (identity_text (codes "0"))) ≡ Err (WrongKind Stream 1 key.Vlan)
  pub vlan_over : document_of (stream_with (identity_text (codes "4095"))) ≡ Err (WrongKind Stream 1 key.Vlan)

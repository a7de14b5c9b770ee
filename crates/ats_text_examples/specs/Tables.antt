use Rattle.std.specs.Prelude.{◌≡◌, ℕ, pos, true, false, List, [], ◌∷◌, codes, Some, None, Ok, Err}
use Rattle.std.specs.Str.{is_utf8}
use Rattle.toml.specs.Data.{Data, Members, string, integer, array, table, no_items, item, no_members, member}
use Rattle.toml.specs.Parse.{parse_document}
use Rattle.ats_network_table.specs.declared.fault.DocumentFault.TheVariants.{NotToml}
use Rattle.ats_network_table.specs.declared.format.Format.{Format}
use Rattle.ats_network_table.specs.declared.format.Format.TheVariants.{One, Two}
use Rattle.ats_network_toml.specs.Document.{DeclaredDocument, path, ends}
use Rattle.ats_network_toml.specs.Reading.{document_in, document_of}

-- The tables of two network files, and the documents that they are.

-- a text and a number as a value
abbrev pub text : List ℕ → Data
text bytes = string bytes

abbrev pub number : ℕ → Data
number n = integer (pos n)

-- an array of two values, and of two tables
abbrev pub two : Data → Data → Data
two first second = array (item first (item second no_items))

abbrev pub tables : Members → Members → Data
tables first second = two (table first) (table second)

-- a station, with its name alone
abbrev pub station_table : List ℕ → Members
station_table name = member (codes "name") (text name) no_members

-- a bridge in a file of format 2, and one in a file of format 1
abbrev pub bridge_table : List ℕ → ℕ → ℕ → ℕ → Members
bridge_table name least most residence =
    member (codes "name") (text name) (member (codes "processing_max_ns") (number most)
    (member (codes "processing_min_ns") (number least) (member (codes "residence_ns") (number residence) no_members)))

abbrev pub plain_bridge_table : List ℕ → ℕ → ℕ → Members
plain_bridge_table name processing residence =
    member (codes "name") (text name) (member (codes "processing_ns") (number processing)
    (member (codes "residence_ns") (number residence) no_members))

-- a link
abbrev pub link_table : List ℕ → List ℕ → ℕ → ℕ → Members
link_table a b mbps propagation =
    member (codes "a") (text a) (member (codes "b") (text b) (member (codes "mbps") (number mbps)
    (member (codes "propagation_ns") (number propagation) no_members)))

-- a stream by its path, with a class at each port, an address and a deadline
abbrev pub path_stream_table : Members
path_stream_table =
    member (codes "address") (text (codes "01:23:45:67:89:aB"))
    (member (codes "burst_bits") (number 20001) (member (codes "classes") (two (number 6) (number 5))
    (member (codes "deadline_ns") (number 30002) (member (codes "max_octets") (number 1503)
    (member (codes "min_octets") (number 104) (member (codes "name") (text (codes "u"))
    (member (codes "path") (array (item (text (codes "s1")) (item (text (codes "b1")) (item (text (codes "s2"))
    no_items)))) (member (codes "rate_bps") (number 5000005) (member (codes "vlan") (number 706) no_members)))))))))

-- a stream by its two ends, with one class, and neither an address nor a deadline
abbrev pub ends_stream_table : Members
ends_stream_table =
    member (codes "burst_bits") (number 20011) (member (codes "class") (number 3)
    (member (codes "from") (text (codes "s2")) (member (codes "max_octets") (number 1513)
    (member (codes "min_octets") (number 114) (member (codes "name") (text (codes "v"))
    (member (codes "rate_bps") (number 5000015) (member (codes "to") (text (codes "s1")) no_members)))))))

-- a flow by its path, and one by its two ends
abbrev pub path_flow_table : Members
path_flow_table =
    member (codes "max_octets") (number 901) (member (codes "name") (text (codes "f"))
    (member (codes "path") (two (text (codes "s1")) (text (codes "b2"))) no_members))

abbrev pub ends_flow_table : Members
ends_flow_table =
    member (codes "from") (text (codes "b2")) (member (codes "max_octets") (number 902)
    (member (codes "name") (text (codes "g")) (member (codes "to") (text (codes "s2")) no_members)))

-- the tables of a file of a format, with these bridges
abbrev pub file_with : ℕ → Data → Members
file_with format bridges =
    member (codes "bridge") bridges (member (codes "flow") (tables path_flow_table ends_flow_table)
    (member (codes "format") (number format)
    (member (codes "link") (tables (link_table (codes "s1") (codes "b1") 100 41)
    (link_table (codes "b2") (codes "s2") 2500 42))
    (member (codes "station") (tables (station_table (codes "s1")) (station_table (codes "s2")))
    (member (codes "stream") (tables path_stream_table ends_stream_table) no_members)))))

-- a file of format 2, whose bridges have a spread, and one of format 1
abbrev pub file_of_two : Members
file_of_two = file_with 2 (tables (bridge_table (codes "b1") 211 1001 50001)
    (bridge_table (codes "b2") 312 1302 50302))

abbrev pub file_of_one : Members
file_of_one = file_with 1 (tables (plain_bridge_table (codes "b1") 1001 50001)
    (plain_bridge_table (codes "b2") 1302 50302))

-- the document of a format with these least processing times of the two bridges. An address is one number of six
-- bytes, and a deadline that is not given is a second
abbrev pub document_with : Format → ℕ → ℕ → DeclaredDocument
document_with format first second = record {
  format = format;
  stations = record { name = codes "s1" } ∷ record { name = codes "s2" } ∷ [];
  bridges =
      record {
        name = codes "b1";
        processing_min_ns = first;
        processing_max_ns = 1001;
        residence_ns = 50001;
        clock_ppm = 0;
        clock_step_ps = 0;
      }
      ∷ record {
        name = codes "b2";
        processing_min_ns = second;
        processing_max_ns = 1302;
        residence_ns = 50302;
        clock_ppm = 0;
        clock_step_ps = 0;
      } ∷ [];
  links =
      record { a = codes "s1"; b = codes "b1"; mbps = 100; propagation_ns = 41 }
      ∷ record { a = codes "b2"; b = codes "s2"; mbps = 2500; propagation_ns = 42 } ∷ [];
  streams =
      record {
        name = codes "u";
        routes = path (codes "s1" ∷ codes "b1" ∷ codes "s2" ∷ []) ∷ [];
        classes = 6 ∷ 5 ∷ [];
        rate_bps = 5000005;
        burst_bits = 20001;
        min_octets = 104;
        max_octets = 1503;
        deadline_ns = 30002;
        identity = Some (0x0123456789AB, 706);
      }
      ∷ record {
        name = codes "v";
        routes = ends (codes "s2") (codes "s1") ∷ [];
        classes = 3 ∷ [];
        rate_bps = 5000015;
        burst_bits = 20011;
        min_octets = 114;
        max_octets = 1513;
        deadline_ns = 1000000000;
        identity = None;
      } ∷ [];
  link_locals = [];
  flows =
      record { name = codes "f"; route = path (codes "s1" ∷ codes "b2" ∷ []); max_octets = 901 }
      ∷ record { name = codes "g"; route = ends (codes "b2") (codes "s2"); max_octets = 902 } ∷ [];
  link_local_flows = [];
}

-- a text declares what its tables do, which are those that TOML reads in it; else it is no TOML
pub record IsParsed (bytes : List ℕ) : Type 0 where
  pub tables : (members : Members) → is_utf8 bytes ≡ true → parse_document bytes ≡ Some members
      → document_of bytes ≡ document_in members
  pub no_tables : parse_document bytes ≡ None → document_of bytes ≡ Err NotToml
  pub no_text : is_utf8 bytes ≡ false → document_of bytes ≡ Err NotToml

-- each entry stands there, in its order, each value under its key. In format 1 the least processing is the greatest
pub record TablesAreRead : Type 0 where
  pub parsed : (bytes : List ℕ) → IsParsed bytes
  pub in_two : document_in file_of_two ≡ Ok (document_with Two 211 312)
  pub in_one : document_in file_of_one ≡ Ok (document_with One 1001 1302)

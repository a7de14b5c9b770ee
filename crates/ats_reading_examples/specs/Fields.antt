use Rattle.std.specs.Prelude.{◌≡◌, ℕ, ◌+◌, ◌-◌, List, [], ◌∷◌, ◌++◌, length, take, drop, map, replicate, codes}
use Rattle.std.specs.Prelude.{Some, None, Result, Ok, Err}
use Rattle.ats_num.specs.Number.{number_of}
use Rattle.ats_streams.specs.Stream.{declared_stream}
use Rattle.ats_topology.specs.Topology.{DeclaredTopology}
use Rattle.ats_network.specs.Network.{DeclaredNetwork}
use Rattle.ats_port_names.specs.PortName.{port_named}
use Rattle.ats_csv.specs.Reading.{field_of}
use Rattle.ats_certificate.specs.declared.row.Row.{Row}
use Rattle.ats_certificate_file.specs.Reading.{header as row_header, row_in, rows_under}
use Rattle.ats_certificate_file.specs.declared.fault.CertFault.{CertFault}
use Rattle.ats_certificate_file.specs.declared.fault.CertFault.TheVariants as row
use Rattle.ats_trace.specs.declared.journey.Release.{Release}
use Rattle.ats_schedule.specs.Reading.{header as release_header, release_after, releases_under, sender_named}
use Rattle.ats_schedule.specs.declared.fault.ScheduleFault.TheVariants as release
use Rattle.ats_words.specs.Words.{word}
use Rattle.ats_shape.specs.Reading.{residence_in, shape_of}
use Rattle.ats_shape.specs.declared.fault.ShapeFault.TheVariants as line
use Rattle.ats_requests.specs.declared.request.Request.{Request}
use Rattle.ats_requests.specs.declared.request.Request.TheVariants.{Admit}
use Rattle.ats_request_file.specs.Reading.{request_in}
use Rattle.ats_request_file.specs.Words.{numbered}
use Rattle.ats_request_file.specs.declared.fault.RequestFault.{RequestFault}
use Rattle.ats_request_file.specs.declared.fault.RequestFault.TheVariants as ask
use Rattle.ats_examples.specs.Networks.{line_and_flow}
use Rattle.ats_reading_examples.specs.Keys.{capital}
use Rattle.ats_reading_examples.specs.Lines.{behind_stream, release_behind}

-- Headers that are nearly right, numbers with a needless 0 in front, and fields with nothing in them.

-- a column without its last byte, with a blank in front, with a blank behind, and with a capital
abbrev pub nearly : List ℕ → List (List ℕ)
nearly column = take (length column - 1) column ∷ (32 ∷ column) ∷ (column ++ 32 ∷ []) ∷ capital column ∷ []

-- a header in which one column is nearly the one that is due
abbrev pub nearly_headers : List (List ℕ) → List (List (List ℕ))
nearly_headers [] = []
nearly_headers (column ∷ columns) =
    map (λ other. other ∷ columns) (nearly column) ++ map (λ others. column ∷ others) (nearly_headers columns)

-- a certificate and a schedule begin with just the header that is due
pub record HeadersAreExact : Type 0 where
  pub rows : rows_under line_and_flow.topology (row_header ∷ []) ≡ Ok []
  pub nearly_rows : map (λ first. rows_under line_and_flow.topology (first ∷ [])) (nearly_headers row_header)
      ≡ replicate 36 (Err (row.BadRow 1))
  pub releases : releases_under line_and_flow (release_header ∷ []) ≡ Ok []
  pub nearly_releases : map (λ first. releases_under line_and_flow (first ∷ [])) (nearly_headers release_header)
      ≡ replicate 12 (Err (release.BadRow 1))

-- each number of a row is the one that its field writes, and its port the one that the first field names
pub record IsRowOf (topology : DeclaredTopology) (fields : List (List ℕ)) (read : Row) : Type 0 where
  pub port : port_named topology (field_of fields 0) ≡ Some read.port
  pub class : number_of (field_of fields 1) ≡ Some read.class
  pub higher : number_of (field_of fields 2) ≡ Some read.higher
  pub equal : number_of (field_of fields 3) ≡ Some read.equal
  pub bursts : number_of (field_of fields 4) ≡ Some read.bursts
  pub lower : number_of (field_of fields 5) ≡ Some read.lower
  pub least : number_of (field_of fields 6) ≡ Some read.least
  pub wait : number_of (field_of fields 7) ≡ Some read.wait
  pub bound : number_of (field_of fields 8) ≡ Some read.bound

-- and so they are of a release
pub record IsReleaseOf (network : DeclaredNetwork) (fields : List (List ℕ)) (read : Release) : Type 0 where
  pub time : number_of (field_of fields 0) ≡ Some read.at.0
  pub sender : sender_named network (field_of fields 1) ≡ Some read.sender
  pub octets : number_of (field_of fields 2) ≡ Some read.octets

-- what is read as a number is one, of all fields and words
pub record NumbersAreOfFields : Type 0 where
  pub rows : (topology : DeclaredTopology) (n : ℕ) (fields : List (List ℕ)) (read : Row)
      → row_in topology n fields ≡ Ok read → IsRowOf topology fields read
  pub releases : (network : DeclaredNetwork) (before : List Release) (fields : List (List ℕ)) (read : Release)
      → release_after network before fields ≡ Ok read → IsReleaseOf network fields read
  pub residence : (n : ℕ) (words : List (List ℕ)) (ns : ℕ) → residence_in n words ≡ Ok ns
      → number_of (word words 1) ≡ Some ns
  pub requests : (n : ℕ) (words : List (List ℕ)) (k value : ℕ) → numbered n words k ≡ Ok value
      → number_of (word words k) ≡ Some value

-- fields or words with this at a place
abbrev pub with_field : List (List ℕ) → ℕ → List ℕ → List (List ℕ)
with_field fields k text = take k fields ++ text ∷ drop (k + 1) fields

-- a row, and what is read of it with this at a place
abbrev pub row_fields : List (List ℕ)
row_fields = codes "s1>b1" ∷ codes "6" ∷ codes "0" ∷ codes "100000000000" ∷ codes "12336" ∷ codes "0" ∷ codes "672"
    ∷ codes "11664000" ∷ codes "13836000" ∷ []

abbrev pub row_with : ℕ → List ℕ → Result Row CertFault
row_with k text = row_in line_and_flow.topology 2 (with_field row_fields k text)

abbrev pub row_read : Row
row_read = record {
  port = 0;
  class = 6;
  higher = 0;
  equal = 100000000000;
  bursts = 12336;
  lower = 0;
  least = 672;
  wait = 11664000;
  bound = 13836000;
}

abbrev pub row_numbers : List ℕ
row_numbers = 1 ∷ 2 ∷ 3 ∷ 4 ∷ 5 ∷ 6 ∷ 7 ∷ 8 ∷ []

-- the same of a line that asks for a stream
abbrev pub request_words : List (List ℕ)
request_words = codes "admit" ∷ codes "c" ∷ codes "s1" ∷ codes "s2" ∷ codes "7" ∷ codes "10000000" ∷ codes "680"
    ∷ codes "64" ∷ codes "65" ∷ codes "1000000" ∷ []

abbrev pub request_with : ℕ → List ℕ → Result Request RequestFault
request_with k text = request_in line_and_flow 1 (with_field request_words k text)

abbrev pub request_numbers : List ℕ
request_numbers = 4 ∷ 5 ∷ 6 ∷ 7 ∷ 8 ∷ 9 ∷ []

-- a needless 0 in front of any number is told, and so is a field with nothing in it
pub record NumbersAreExact : Type 0 where
  pub row_right : row_in line_and_flow.topology 2 row_fields ≡ Ok row_read
  pub row_zero : map (λ k. row_with k (48 ∷ field_of row_fields k)) row_numbers ≡ replicate 8 (Err (row.BadNumber 2))
  pub row_empty : map (λ k. row_with k []) row_numbers ≡ replicate 8 (Err (row.BadNumber 2))
  pub time_zero : release_behind 0 (codes "01") (codes "64") ≡ Err (release.BadNumber 3)
  pub time_zeros : release_behind 0 (codes "00") (codes "64") ≡ Err (release.BadNumber 3)
  pub time_empty : release_behind 0 [] (codes "64") ≡ Err (release.BadNumber 3)
  pub octets_zero : release_behind 0 (codes "1") (codes "064") ≡ Err (release.BadNumber 3)
  pub octets_empty : release_behind 0 (codes "1") [] ≡ Err (release.BadNumber 3)
  pub residence_zero : shape_of (codes "residence 01000\n") ≡ Err (line.BadLine 1)
  pub residence_zeros : shape_of (codes "residence 00\n") ≡ Err (line.BadLine 1)
  pub frame_time_zero : behind_stream (codes "frame 00 a 64\n") ≡ Err (line.BadLine 3)
  pub frame_octets_zero : behind_stream (codes "frame 0 a 064\n") ≡ Err (line.BadLine 3)
  pub request_right : request_in line_and_flow 1 request_words
      ≡ Ok (Admit (declared_stream (codes "c") (0 ∷ 2 ∷ []) (7 ∷ 7 ∷ []) 10000000 680 64 65 1000000 None))
  pub request_zero : map (λ k. request_with k (48 ∷ word request_words k)) request_numbers
      ≡ replicate 6 (Err (ask.BadLine 1))
  pub request_empty : map (λ k. request_with k []) request_numbers ≡ replicate 6 (Err (ask.BadLine 1))

pub record FieldsAreExact : Type 0 where
  pub headers : HeadersAreExact
  pub law : NumbersAreOfFields
  pub numbers : NumbersAreExact

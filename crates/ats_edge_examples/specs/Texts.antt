use Rattle.std.specs.Prelude.{◌≡◌, ℕ, List, [], ◌∷◌, ◌++◌, codes, Result, Ok, Err}
use Rattle.ats_certificate.specs.declared.row.Row.{Row}
use Rattle.ats_certificate_file.specs.Reading.{rows_of}
use Rattle.ats_certificate_file.specs.declared.fault.CertFault.{CertFault}
use Rattle.ats_certificate_file.specs.declared.fault.CertFault.TheVariants as row
use Rattle.ats_csv.specs.Reading.{records_of}
use Rattle.ats_network_text.specs.Text.{classes_text}
use Rattle.ats_request_file.specs.Reading.{requests_of}
use Rattle.ats_request_file.specs.declared.fault.RequestFault.{RequestFault}
use Rattle.ats_request_file.specs.declared.fault.RequestFault.TheVariants as asked
use Rattle.ats_requests.specs.declared.request.Request.{Request}
use Rattle.ats_schedule.specs.Reading.{releases_of}
use Rattle.ats_schedule.specs.declared.fault.ScheduleFault.TheVariants as release
use Rattle.ats_shape.specs.Reading.{shape_of}
use Rattle.ats_shape.specs.Shape.{DeclaredShape}
use Rattle.ats_shape.specs.declared.fault.ShapeFault.TheVariants as shape
use Rattle.ats_text_examples.specs.Tabled.{three_releases, two_rows}
use Rattle.ats_text_examples.specs.Worked.{way}

-- Texts at edges of their forms.

-- a line that ends in CR LF
abbrev pub returned : List ℕ → List ℕ
returned line = line ++ 13 ∷ 10 ∷ []

-- the lines of a certificate: its header, and both rows
abbrev pub header_line : List ℕ
header_line = codes "port,class,higher,equal,bursts,lower,least,wait,bound"

abbrev pub first_line : List ℕ
first_line = codes "b1>b2,6,11,12,13,14,15,16,17"

abbrev pub second_line : List ℕ
second_line = codes "b2>s2,4,21,22,23,24,25,26,27"

-- what is read of these lines behind the header and the first row
abbrev pub rows_then : List ℕ → Result (List Row) CertFault
rows_then lines = rows_of way.topology (header_line ++ codes "\n" ++ first_line ++ codes "\n" ++ lines)

-- lines may end in CR LF, or in CR, the last may have no end, and fields may be in quotes. A line without bytes is no
-- record and is not counted; no other line is passed over, whatever it begins with
pub record TablesAreCut : Type 0 where
  pub ends : rows_of way.topology (returned header_line ++ returned first_line ++ returned second_line) ≡ Ok two_rows
  pub returns : rows_of way.topology (header_line ++ 13 ∷ first_line ++ 13 ∷ second_line ++ 13 ∷ []) ≡ Ok two_rows
  pub no_end : rows_then second_line ≡ Ok two_rows
  pub quotes : rows_then (codes "\"b2>s2\",\"4\",21,22,23,24,25,26,\"27\"\n") ≡ Ok two_rows
  pub blank : rows_of way.topology (header_line ++ codes "\n\n" ++ first_line ++ codes "\n\nx\n") ≡ Err (row.BadRow 3)
  pub number_sign : rows_then (codes "# x\n") ≡ Err (row.BadRow 3)
  pub space : rows_then (codes " \n") ≡ Err (row.BadRow 3)
  pub release_ends : releases_of way (returned (codes "at_ps,sender,octets") ++ returned (codes "1001,f,1402")
      ++ returned (codes "2003,u,504") ++ returned (codes "2003,v,605")) ≡ Ok three_releases
  pub release_quotes : releases_of way (codes "at_ps,sender,octets\n\"1001\",\"f\",1402\n\n2003,u,\"504\"\n2003,v,605")
      ≡ Ok three_releases
  pub release_blank : releases_of way (codes "at_ps,sender,octets\n\n1001,f,1402\n\nx\n") ≡ Err (release.BadRow 3)
  pub release_sign : releases_of way (codes "at_ps,sender,octets\n1001,f,1402\n# x\n") ≡ Err (release.BadRow 3)

-- quotes begin a field only in front of it; within a field in quotes two of them are one, and a comma and an end of
-- line are bytes like others; a backslash is one always. What stands behind the last quote belongs to the field.
-- One that is not closed takes in the rest. Refuses quotes that are taken out in pairs, and ones that a backslash
-- spares
pub record QuotesAreCut : Type 0 where
  pub twice : records_of (codes "\"a\"\",b\",c\n") ≡ (codes "a\",b" ∷ codes "c" ∷ []) ∷ []
  pub only : records_of (codes "\"\"\"\",\"\"\n") ≡ (codes "\"" ∷ [] ∷ []) ∷ []
  pub backslash : records_of (codes "\"a\\\",b\n") ≡ (codes "a\\" ∷ codes "b" ∷ []) ∷ []
  pub backslashes : records_of (codes "a\\,\\b\n") ≡ (codes "a\\" ∷ codes "\\b" ∷ []) ∷ []
  pub line : records_of (codes "\"a\nb\",c\n") ≡ (codes "a\nb" ∷ codes "c" ∷ []) ∷ []
  pub inside : records_of (codes "a\"b\"\"c,d\n") ≡ (codes "a\"b\"\"c" ∷ codes "d" ∷ []) ∷ []
  pub behind : records_of (codes "\"a\"b,c\n") ≡ (codes "ab" ∷ codes "c" ∷ []) ∷ []
  pub unclosed : records_of (codes "a,\"b,c\nd\"\"e\n") ≡ (codes "a" ∷ codes "b,c\nd\"e\n" ∷ []) ∷ []
  pub single : records_of (codes "'a,b'\n") ≡ (codes "'a" ∷ codes "b'" ∷ []) ∷ []

-- a byte order mark is passed over in front of all records, and it alone: not a second one, nor one that stands
-- elsewhere or is not whole
abbrev pub mark : List ℕ
mark = 0xEF ∷ 0xBB ∷ 0xBF ∷ []

pub record MarksArePassed : Type 0 where
  pub one : records_of (mark ++ codes "a,b\n") ≡ (codes "a" ∷ codes "b" ∷ []) ∷ []
  pub two : records_of (mark ++ mark ++ codes "a,b\n") ≡ ((mark ++ codes "a") ∷ codes "b" ∷ []) ∷ []
  pub later : records_of (codes "a\n" ++ mark ++ codes "b\n") ≡ (codes "a" ∷ []) ∷ ((mark ++ codes "b") ∷ []) ∷ []
  pub part : records_of (0xEF ∷ 0xBB ∷ codes "a\n") ≡ ((0xEF ∷ 0xBB ∷ codes "a") ∷ []) ∷ []

-- a residence of 0, and a stream whose burst is its longest frame, with a frame at time 0
abbrev pub at_zero : DeclaredShape
at_zero = record {
  residence_ns = 0;
  streams =
      record {
        name = codes "a";
        declared = record { rate = 1000; burst_bits = 672; min_octets = 64; max_octets = 64 };
      }
      ∷ [];
  frames = record { at = record { 0 = 0 }; stream = 0; octets = 64 } ∷ [];
}

-- a residence and a time may be 0; a byte order mark is no part of a shape file
pub record ShapesAreCut : Type 0 where
  pub zero : shape_of (codes "residence 0\nstream a 1000 672 64 64\nframe 0 a 64\n") ≡ Ok at_zero
  pub mark : shape_of (0xEF ∷ 0xBB ∷ 0xBF ∷ codes "residence 1000\n") ≡ Err (shape.BadLine 1)

-- what is read of these lines over the worked network
abbrev pub asked_of : List ℕ → Result (List Request) RequestFault
asked_of text = requests_of way (codes "withdraw a\n" ++ text)

-- each number of an `admit` line has at most 18 digits, which is judged before its nodes
pub record NumbersAreShort : Type 0 where
  pub most : asked_of (codes "admit b x y 999999999999999999 999999999999999999 999999999999999999 "
      ++ codes "999999999999999999 999999999999999999 999999999999999999\n") ≡ Err (asked.UnknownNode 2)
  pub class : asked_of (codes "admit b x y 1000000000000000000 0 0 0 0 0\n") ≡ Err (asked.BadLine 2)
  pub rate : asked_of (codes "admit b x y 0 1000000000000000000 0 0 0 0\n") ≡ Err (asked.BadLine 2)
  pub burst : asked_of (codes "admit b x y 0 0 1000000000000000000 0 0 0\n") ≡ Err (asked.BadLine 2)
  pub least : asked_of (codes "admit b x y 0 0 0 1000000000000000000 0 0\n") ≡ Err (asked.BadLine 2)
  pub greatest : asked_of (codes "admit b x y 0 0 0 0 1000000000000000000 0\n") ≡ Err (asked.BadLine 2)
  pub deadline : asked_of (codes "admit b x y 0 0 0 0 0 1000000000000000000\n") ≡ Err (asked.BadLine 2)

-- classes are told one by one where any of them differs from the first
pub record ClassesAreTold : Type 0 where
  pub same : classes_text (6 ∷ 6 ∷ 6 ∷ []) ≡ codes "6"
  pub last : classes_text (6 ∷ 6 ∷ 5 ∷ []) ≡ codes "6,6,5"
  pub middle : classes_text (6 ∷ 5 ∷ 6 ∷ []) ≡ codes "6,5,6"

pub record TextsAreAtEdges : Type 0 where
  pub tables : TablesAreCut
  pub quotes : QuotesAreCut
  pub marks : MarksArePassed
  pub shapes : ShapesAreCut
  pub numbers : NumbersAreShort
  pub classes : ClassesAreTold

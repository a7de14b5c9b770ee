use Rattle.std.specs.Prelude.{◌≡◌, ℕ, ◌+◌, ◌-◌, ◌<◌, ◌≤◌, nat_lt, min, List, [], ◌∷◌, ◌++◌, length, take}
use Rattle.std.specs.Prelude.{Bool, true, false, Option, Some, None, Result, Ok, if◌then◌else◌}
use Rattle.ats_pcap.specs.Capture.{Position, captured_of, form_of, header_fault, is_whole, record_fault, record_of}
use Rattle.ats_pcap.specs.Capture.{without}
use Rattle.ats_pcap.specs.declared.fault.CaptureFault.{CaptureFault}
use Rattle.ats_pcap.specs.declared.form.Form.{Form}

-- how many of the bytes to come belong to the header, to the next record's header, or to its captured bytes
unfoldable pub room_at : Position → ℕ
room_at p =
    if nat_lt (length p.header) 24 then 24 - length p.header
    else if nat_lt p.there 16 then 16 - p.there
    else 16 + captured_of (form_of p.header) p.front - p.there

-- the position is between two bytes of a header or of a record
pub record IsOpen (p : Position) : Type 0 where
  pub header : length p.header ≤ 24
  pub before : length p.header < 24 → p.there ≡ 0
  pub few : length p.records ≤ 1_000_000
  pub front : length p.front ≡ min p.there 32
  pub short : 16 ≤ p.there → captured_of (form_of p.header) p.front ≤ 262_144
  pub within : 16 ≤ p.there → p.there < 16 + captured_of (form_of p.header) p.front

-- the position is at the end of a record's bytes at most, and one byte of it at least is there
pub record MayEnd (p : Position) : Type 0 where
  pub header : 24 ≤ length p.header
  pub few : length p.records ≤ 1_000_000
  pub some : 0 < p.there
  pub front : length p.front ≡ min p.there 32
  pub most : 16 ≤ p.there → p.there ≤ 16 + captured_of (form_of p.header) p.front

-- the position once a record is whole: behind it
abbrev pub behind_whole : Position → Position
behind_whole p = if is_whole (form_of p.header) p.there p.front
    then record {
      header = p.header;
      records = p.records ++ record_of (form_of p.header) p.front ∷ [];
      there = 0;
      front = [];
    }
    else p

-- the position after bytes of a record came, or the fault that they show
unfoldable pub settled : Position → Result Position CaptureFault
settled p = without (record_fault (form_of p.header) (length p.records) p.there p.front) (Ok (behind_whole p))

-- the position after this part, which is within the room, or the fault that it shows
unfoldable pub taken : Position → List ℕ → Result Position CaptureFault
taken p part =
    if nat_lt (length p.header) 24
    then without (header_fault (p.header ++ part)) (Ok (record p { header = p.header ++ part }))
    else settled (record p { there = p.there + length part; front = take 32 (p.front ++ part) })

-- a size, where there is no fault and all the bytes are there
abbrev pub size_where : Option CaptureFault → Bool → ℕ → Option ℕ
size_where None true size = Some size
size_where None false size = None
size_where (Some fault) whole size = None

-- how many bytes the record has that these begin with, behind so many others, where it is whole and has no fault
unfoldable pub whole_size : Form → ℕ → List ℕ → Option ℕ
whole_size form before bytes =
    size_where (record_fault form before (length bytes) bytes) (is_whole form (length bytes) bytes)
    (16 + captured_of form bytes)

use Rattle.std.specs.Prelude.{◌≡◌, ℕ, ◌+◌, ◌≤◌, List, [], ◌∷◌, ◌++◌, length, map, take, replicate, flat_map, All}
use Rattle.std.specs.Prelude.{Some, None, Ok}
use Rattle.ats_pcap.specs.Capture.{captured_of, form_of, header_fault, record_of, records_of}
use Rattle.ats_pcap.specs.Identity.{identity_of}
use Rattle.ats_pcap.specs.declared.form.Form.{Form}

-- What identifies a frame with any number of tags, and what is read of records of any length.

-- what identifies a frame stands in its first 16 bytes, whatever is behind them. Refuses the tag of a frame that is
-- behind another tag
abbrev pub FrontIdentifies : Type 0
FrontIdentifies = (frame : List ℕ) → identity_of frame ≡ identity_of (take 16 frame)

-- so the outer of two tags counts
pub record IdentityIsInFront : Type 0 where
  pub all : FrontIdentifies
  pub outer : identity_of (replicate 12 1 ++ 0x81 ∷ 0 ∷ 0 ∷ 5 ∷ 0x81 ∷ 0 ∷ 0 ∷ 7 ∷ [])
      ≡ Some (record { 0 = 0x010101010101; 1 = 5 })

-- these are the bytes of a whole record, no more of which are captured than may be
pub record IsWholeRecord (form : Form) (bytes : List ℕ) : Type 0 where
  pub few : captured_of form bytes ≤ 262_144
  pub exact : length bytes ≡ 16 + captured_of form bytes

-- behind a header without a fault, of either order of bytes and fraction, any whole records are read, each as its own
-- bytes say, at most 1,000,000 of them. Refuses a reader that goes on elsewhere than behind a record's captured bytes
abbrev pub WholeRecordsAreRead : Type 0
WholeRecordsAreRead = (header : List ℕ) (parts : List (List ℕ)) → length header ≡ 24 → header_fault header ≡ None
    → All (IsWholeRecord (form_of header)) parts → length parts ≤ 1_000_000
    → records_of (header ++ flat_map (λ part. part) parts) ≡ Ok (map (record_of (form_of header)) parts)

pub record RecordsAreRead : Type 0 where
  pub identity : IdentityIsInFront
  pub whole : WholeRecordsAreRead

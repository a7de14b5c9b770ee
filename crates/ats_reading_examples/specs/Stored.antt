use Rattle.std.specs.Prelude.{◌≡◌, ℕ, List, [], ◌∷◌, ◌++◌, replicate, Result, Ok}
use Rattle.ats_pcap.specs.Capture.{records_of}
use Rattle.ats_pcap.specs.declared.fault.CaptureFault.{CaptureFault}
use Rattle.ats_pcap.specs.declared.record.Record.{Record}
use Rattle.ats_reading_examples.specs.Bytes.{high_header, high_read, low_header, none, one_record}

-- Records of captures that hold other bytes than the frame had, and fractions of a second or more.

-- what is read of a record of the second 1 that holds so many bytes of 0, by the four bytes that say how many these are
-- and by the four that say how many the frame had; and the same where the high byte is first
abbrev pub held : ℕ → List ℕ → List ℕ → Result (List Record) CaptureFault
held count captured original =
    records_of (low_header (2 ∷ 0 ∷ 4 ∷ 0 ∷ []) (1 ∷ 0 ∷ 0 ∷ 0 ∷ []) ++ 1 ∷ 0 ∷ 0 ∷ 0 ∷ none ++ captured ++ original
    ++ replicate count 0)

abbrev pub held_high : ℕ → List ℕ → List ℕ → Result (List Record) CaptureFault
held_high count captured original =
    records_of (high_header (0 ∷ 2 ∷ 0 ∷ 4 ∷ []) (0 ∷ 0 ∷ 0 ∷ 1 ∷ []) ++ 0 ∷ 0 ∷ 0 ∷ 1 ∷ none ++ captured ++ original
    ++ replicate count 0)

-- a frame has the octets of the frame, with the check sequence and 64 at least, whether fewer bytes of it are held or
-- more. Refuses the octets that are held, and the more of both
pub record OctetsAreOfTheFrame : Type 0 where
  pub one_more : held 62 (62 ∷ 0 ∷ 0 ∷ 0 ∷ []) (61 ∷ 0 ∷ 0 ∷ 0 ∷ []) ≡ Ok (one_record 1000000000 65)
  pub one_less : held 61 (61 ∷ 0 ∷ 0 ∷ 0 ∷ []) (62 ∷ 0 ∷ 0 ∷ 0 ∷ []) ≡ Ok (one_record 1000000000 66)
  pub more_of_least : held 70 (70 ∷ 0 ∷ 0 ∷ 0 ∷ []) (42 ∷ 0 ∷ 0 ∷ 0 ∷ []) ≡ Ok (one_record 1000000000 64)
  pub one_more_high : held_high 62 (0 ∷ 0 ∷ 0 ∷ 62 ∷ []) (0 ∷ 0 ∷ 0 ∷ 61 ∷ []) ≡ Ok (one_record 1000000000 65)
  pub one_less_high : held_high 61 (0 ∷ 0 ∷ 0 ∷ 61 ∷ []) (0 ∷ 0 ∷ 0 ∷ 62 ∷ []) ≡ Ok (one_record 1000000000 66)

-- a fraction in nanoseconds, behind the second 1: a nanosecond below a second, a second, and the greatest. It is taken
-- as it stands. Refuses one that is cut at a second, or counted within it
pub record FractionsAreAny : Type 0 where
  pub below : high_read (0 ∷ 0 ∷ 0 ∷ 1 ∷ []) (0x3B ∷ 0x9A ∷ 0xC9 ∷ 0xFF ∷ []) none (0 ∷ 0 ∷ 0 ∷ 60 ∷ [])
      ≡ Ok (one_record 1999999999 64)
  pub second : high_read (0 ∷ 0 ∷ 0 ∷ 1 ∷ []) (0x3B ∷ 0x9A ∷ 0xCA ∷ 0 ∷ []) none (0 ∷ 0 ∷ 0 ∷ 60 ∷ [])
      ≡ Ok (one_record 2000000000 64)
  pub greatest : high_read (0 ∷ 0 ∷ 0 ∷ 1 ∷ []) (0xFF ∷ 0xFF ∷ 0xFF ∷ 0xFF ∷ []) none (0 ∷ 0 ∷ 0 ∷ 60 ∷ [])
      ≡ Ok (one_record 5294967295 64)

pub record RecordsAreAsWritten : Type 0 where
  pub octets : OctetsAreOfTheFrame
  pub fractions : FractionsAreAny

use Rattle.std.specs.Prelude.{◌≡◌, ℕ, true, List, [], ◌∷◌, ◌++◌, map, codes, replicate, IsOk, Some, None, Ok, Err}
use Rattle.std.specs.List.{count_by, range_with_len}
use Rattle.ats_num.specs.Name.{is_name, is_name_byte, name_of, padded}
use Rattle.ats_num.specs.Number.{number_of}
use Rattle.ats_num.specs.Wire.{bits_of}
use Rattle.ats_command_input.specs.Making.{count_named, seed_named}
use Rattle.ats_schedule.specs.Reading.{within_limits}
use Rattle.ats_schedule.specs.declared.fault.ScheduleFault.TheVariants as schedule
use Rattle.ats_shape.specs.Reading.{DraftShape, frame_line, stream_line}
use Rattle.ats_shape.specs.declared.fault.ShapeFault.TheVariants.{Limit, NameTwice, TimeBack, UnknownName}
use Rattle.ats_shape.specs.declared.fault.ShapeFault.TheVariants as line
use Rattle.ats_streams.specs.declared.fault.StreamFault.TheVariants as rule
use Rattle.ats_text_examples.specs.Shaped.{frame, stream}

-- The texts that write numbers, and how many things one file may declare.

-- the least and the longest number, all ten digits, and texts that write none
pub record NumbersAreRead : Type 0 where
  pub zero : number_of (codes "0") ≡ Some 0
  pub one : number_of (codes "7") ≡ Some 7
  pub each_digit : number_of (codes "1023456789") ≡ Some 1023456789
  pub longest : number_of (codes "999999999999999999999999999999999999") ≡ Some 999999999999999999999999999999999999
  pub digit_more : number_of (codes "1000000000000000000000000000000000000") ≡ None
  pub empty : number_of [] ≡ None
  pub two_zeros : number_of (codes "00") ≡ None
  pub leading_zero : number_of (codes "01") ≡ None
  pub plus : number_of (codes "+1") ≡ None
  pub minus : number_of (codes "-1") ≡ None
  pub minus_zero : number_of (codes "-0") ≡ None
  pub grouped : number_of (codes "1_000") ≡ None
  pub point : number_of (codes "1.0") ≡ None
  pub power : number_of (codes "1e3") ≡ None
  pub letter : number_of (codes "0x1") ≡ None
  pub space_before : number_of (codes " 1") ≡ None
  pub space_behind : number_of (codes "1 ") ≡ None
  pub below_digits : number_of (codes "1/") ≡ None
  pub above_digits : number_of (codes "1:") ≡ None

-- a name is its bytes, and stands before zeros; 64 of the bytes may be in one, and each of them alone, in front and at
-- the end: a digit and a sign too. Refuses names that begin with a letter alone
pub record NamesAreRead : Type 0 where
  pub whole : name_of (codes "a-B_9") ≡ Some (codes "a-B_9")
  pub none : name_of (codes "a b") ≡ None
  pub stored : padded (codes "ab") ≡ 97 ∷ 98 ∷ replicate 30 0
  pub name_bytes : count_by is_name_byte (range_with_len 0 256) ≡ 64
  pub alone : count_by (λ byte. is_name (byte ∷ [])) (range_with_len 0 256) ≡ 64
  pub in_front : count_by (λ byte. is_name (byte ∷ codes "ab")) (range_with_len 0 256) ≡ 64
  pub in_middle : count_by (λ byte. is_name (codes "a" ++ byte ∷ codes "b")) (range_with_len 0 256) ≡ 64
  pub at_end : count_by (λ byte. is_name (codes "ab" ++ byte ∷ [])) (range_with_len 0 256) ≡ 64
  pub fronts : map is_name (codes "1a" ∷ codes "-a" ∷ codes "_a" ∷ codes "_" ∷ codes "-" ∷ codes "7" ∷ [])
      ≡ replicate 6 true

-- the wire bits of the shortest and of the longest frame
pub record FramesAreCounted : Type 0 where
  pub shortest : bits_of 64 ≡ 672
  pub longest : bits_of 2000 ≡ 16160

-- the seeds and the numbers of frames that a word may name
pub record MakingIsNamed : Type 0 where
  pub least_seed : seed_named (codes "0") ≡ Some 0
  pub greatest_seed : seed_named (codes "18446744073709551615") ≡ Some 18446744073709551615
  pub seed_over : seed_named (codes "18446744073709551616") ≡ None
  pub seed_none : seed_named (codes "04") ≡ None
  pub least_count : count_named (codes "1") ≡ Some 1
  pub greatest_count : count_named (codes "200000") ≡ Some 200000
  pub count_below : count_named (codes "0") ≡ None
  pub count_over : count_named (codes "200001") ≡ None
  pub count_none : count_named (codes "1 ") ≡ None

-- the last release that a schedule may have, by its time, by the number of those before it, and by the ports of their
-- frames and its own
pub record ReleaseLimits : Type 0 where
  pub last : within_limits 9 199999 3200000 100000000000000000 ≡ Ok 100000000000000000
  pub more : within_limits 9 200000 0 0 ≡ Err (schedule.Limit 9)
  pub wider : within_limits 9 0 3200001 0 ≡ Err (schedule.Limit 9)
  pub past : within_limits 9 0 0 100000000000000001 ≡ Err (schedule.Limit 9)

-- so many streams and so many frames that a shape file declares
abbrev pub draft_with : ℕ → ℕ → DraftShape
draft_with streams frames = record {
  residence = Some 1000;
  streams = replicate streams (stream (codes "a") 1000 672 64 64);
  frames = replicate frames (frame 5 0 64);
}

-- the words of one stream more, by its name and its rate, and of one frame more, by its time and its name
abbrev pub stream_words : List ℕ → List ℕ → List (List ℕ)
stream_words name rate = codes "stream" ∷ name ∷ rate ∷ codes "672" ∷ codes "64" ∷ codes "64" ∷ []

abbrev pub frame_words : List ℕ → List ℕ → List (List ℕ)
frame_words at name = codes "frame" ∷ at ∷ name ∷ codes "64" ∷ []

-- the last of each that there may be, and one more, of which that is told behind all other faults of its line
pub record ShapeLimits : Type 0 where
  pub last_stream : IsOk (stream_line (draft_with 4095 0) 9 (stream_words (codes "b") (codes "1000")))
  pub stream_over : stream_line (draft_with 4096 0) 9 (stream_words (codes "b") (codes "1000")) ≡ Err (Limit 9)
  pub stream_named : stream_line (draft_with 4096 0) 9 (stream_words (codes "a") (codes "0")) ≡ Err (NameTwice 9)
  pub stream_ruled : stream_line (draft_with 4096 0) 9 (stream_words (codes "b") (codes "0"))
      ≡ Err (line.Stream 9 rule.BadRate)
  pub last_frame : IsOk (frame_line (draft_with 1 199999) 9 (frame_words (codes "5") (codes "a")))
  pub frame_over : frame_line (draft_with 1 200000) 9 (frame_words (codes "5") (codes "a")) ≡ Err (Limit 9)
  pub frame_unnamed : frame_line (draft_with 1 200000) 9 (frame_words (codes "4") (codes "b")) ≡ Err (UnknownName 9)
  pub frame_back : frame_line (draft_with 1 200000) 9 (frame_words (codes "4") (codes "a")) ≡ Err (TimeBack 9)

pub record NumbersAreWithin : Type 0 where
  pub numbers : NumbersAreRead
  pub names : NamesAreRead
  pub frames : FramesAreCounted
  pub making : MakingIsNamed
  pub releases : ReleaseLimits
  pub shapes : ShapeLimits

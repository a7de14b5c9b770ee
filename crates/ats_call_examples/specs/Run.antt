use Rattle.std.specs.Prelude.{◌≡◌, ℕ, List, [], ◌∷◌, ◌++◌, codes, Option, Some}
use Rattle.ats_command_input.specs.Command.{Capture, Check, Conform, Fit, Generate, Record, Releases, Replay, Unknown}
use Rattle.ats_command_input.specs.Command.{Witness}
use Rattle.ats_command_input.specs.declared.order.Order.TheVariants.{Early, Late, Mixed}
use Rattle.ats_command_input.specs.declared.status.Status.TheVariants.{Words}
use Rattle.ats_command_due.specs.Due.{IsDueAnswer}
use Rattle.ats_file_examples.specs.Captured.{low_header}
use Rattle.ats_call_examples.specs.Files.{crowded_schedule, done_with, faulty_with, fork_text, late, network, no_text}
use Rattle.ats_call_examples.specs.Files.{refused_with, rows, schedule, told, told_also}
use Rattle.ats_call_examples.specs.Judged.{accepted}

-- What is due to whole calls that run a network: an example for each status.

abbrev pub departures : List ℕ
departures =
    codes "frame 0 a 1522 0\nhop s1>b1 0 eligible 0 start 0 end 12336000\n"
    ++ codes "hop b1>s2 13836000 eligible 13836000 start 13836000 end 26172000\nsink 26672000\n"
    ++ codes "total frames 1 sunk 1 late 0 size 0\n"

pub record ReplayIsAnswered : Type 0 where
  pub done : IsDueAnswer (told network [] schedule) (Replay (codes "n") (codes "s") Late) (done_with departures)
  pub faulty : IsDueAnswer (told network [] rows) (Replay (codes "n") (codes "s") Early)
      (faulty_with (codes "input s bad-row 1\n"))
  pub both_faulty : IsDueAnswer (told no_text [] rows) (Replay (codes "n") (codes "s") Early)
      (faulty_with (codes "input n not-toml\n"))

-- a capture of a frame of 1518 octets without its check sequence, to the address of the stream and in its VLAN
abbrev pub captured : List ℕ
captured =
    low_header
    ++ 1 ∷ 0 ∷ 0 ∷ 0 ∷ 0 ∷ 0 ∷ 0 ∷ 0 ∷ 16 ∷ 0 ∷ 0 ∷ 0 ∷ 0xEE ∷ 0x05 ∷ 0 ∷ 0
    ∷ 0 ∷ 0 ∷ 0 ∷ 0 ∷ 0 ∷ 1 ∷ 0 ∷ 0 ∷ 0 ∷ 0 ∷ 0 ∷ 2 ∷ 0x81 ∷ 0x00 ∷ 0x00 ∷ 0x05 ∷ []

-- at a station; at a bridge, which is none; and of a file that is none, which is judged last
pub record CaptureIsAnswered : Type 0 where
  pub done : IsDueAnswer (told network [] captured) (Capture (codes "n") (codes "s1") (codes "s") (Mixed 9))
      (done_with (departures ++ codes "records 1 unidentified 0 oversize 0\n"))
  pub refused : IsDueAnswer (told network [] rows) (Capture (codes "n") (codes "b1") (codes "s") Early)
      (refused_with (codes "refused station b1\n"))
  pub faulty : IsDueAnswer (told network [] rows) (Capture (codes "n") (codes "s1") (codes "s") Early)
      (faulty_with (codes "input s bad-magic\n"))
  pub both_faulty : IsDueAnswer (told no_text [] rows) (Capture (codes "n") (codes "b1") (codes "s") Early)
      (faulty_with (codes "input n not-toml\n"))

-- a network without a stream
abbrev pub still : List ℕ
still =
    codes "format = 1\n" ++ codes "[[station]]\nname = \"s1\"\n" ++ codes "[[station]]\nname = \"s2\"\n"
    ++ codes "[[link]]\na = \"s1\"\nb = \"s2\"\nmbps = 1000\npropagation_ns = 500\n"

-- one frame, which is of 1374 octets
pub record GenerateIsAnswered : Type 0 where
  pub done : IsDueAnswer (told network [] []) (Generate (codes "n") 7 1)
      (done_with (codes "stream a frames 1 sunk 1 late 0 size 0 worst 24304000 bound 26672000\n"
      ++ codes "total frames 1 sunk 1 late 0 size 0\n"))
  pub refused : IsDueAnswer (told still [] []) (Generate (codes "n") 7 1) (refused_with (codes "refused no-stream\n"))
  pub faulty : IsDueAnswer (told no_text [] []) (Generate (codes "n") 7 1) (faulty_with (codes "input n not-toml\n"))

-- the header of a capture with nanoseconds
abbrev pub nano_header : List ℕ
nano_header =
    0x4D ∷ 0x3C ∷ 0xB2 ∷ 0xA1 ∷ 2 ∷ 0 ∷ 4 ∷ 0 ∷ 0 ∷ 0 ∷ 0 ∷ 0 ∷ 0 ∷ 0 ∷ 0 ∷ 0
    ∷ 0 ∷ 0 ∷ 4 ∷ 0 ∷ 1 ∷ 0 ∷ 0 ∷ 0 ∷ []

-- one with a frame of 1518 octets without its check sequence, in the second 0 and at a nanosecond of these two bytes;
-- of the frame are kept the address of the stream, a source, the tag with class 6 and the VLAN of the stream, and a
-- type
abbrev pub recorded : ℕ → ℕ → List ℕ
recorded low high =
    nano_header
    ++ 0 ∷ 0 ∷ 0 ∷ 0 ∷ low ∷ high ∷ 0 ∷ 0 ∷ 18 ∷ 0 ∷ 0 ∷ 0 ∷ 0xEE ∷ 0x05 ∷ 0 ∷ 0
    ∷ 0 ∷ 0 ∷ 0 ∷ 0 ∷ 0 ∷ 1 ∷ 2 ∷ 0 ∷ 0 ∷ 0 ∷ 0 ∷ 0 ∷ 0x81 ∷ 0x00 ∷ 0xC0 ∷ 0x05 ∷ 0x88 ∷ 0xB5 ∷ []

-- at the first port of the stream, where a frame starts at 0 ns, and at the second, at 13836 ns; at one that sends
-- none; at two stations that no link joins, which is judged before the schedule; and of a file that is no schedule
pub record RecordIsAnswered : Type 0 where
  pub first : IsDueAnswer (told network [] schedule) (Record (codes "n") (codes "s") Early (codes "s1>b1"))
      (done_with (recorded 0 0))
  pub second : IsDueAnswer (told network [] schedule) (Record (codes "n") (codes "s") Late (codes "b1>s2"))
      (done_with (recorded 0x0C 0x36))
  pub none_sent : IsDueAnswer (told network [] schedule) (Record (codes "n") (codes "s") Early (codes "b1>s1"))
      (done_with nano_header)
  pub refused : IsDueAnswer (told network [] rows) (Record (codes "n") (codes "s") Early (codes "s1>s2"))
      (refused_with (codes "refused port s1>s2\n"))
  pub faulty : IsDueAnswer (told network [] rows) (Record (codes "n") (codes "s") Early (codes "s1>b1"))
      (faulty_with (codes "input s bad-row 1\n"))
  pub both_faulty : IsDueAnswer (told no_text [] rows) (Record (codes "n") (codes "s") Early (codes "s1>s2"))
      (faulty_with (codes "input n not-toml\n"))

abbrev pub witnessed : List ℕ
witnessed =
    codes "hop s1>b1 26672000\nhop b1>s2 39008000\nrelease 1 a 1522\nrelease 1 z 1522\n"
    ++ codes "witness a delay 39008000 bound 39008000 gap 0\n"

-- a delay that is just the bound; a word that names no stream; and a network for which no certificate holds
pub record WitnessIsAnswered : Type 0 where
  pub done : IsDueAnswer (told fork_text [] []) (Witness (codes "n") (codes "a")) (done_with witnessed)
  pub refused : IsDueAnswer (told fork_text [] []) (Witness (codes "n") (codes "q"))
      (refused_with (codes "refused stream q\n"))
  pub none_holds : IsDueAnswer (told late [] []) (Witness (codes "n") (codes "a"))
      (refused_with (codes "refused deadline a 26672000\n"))
  pub faulty : IsDueAnswer (told no_text [] []) (Witness (codes "n") (codes "a"))
      (faulty_with (codes "input n not-toml\n"))

-- the same of `releases`, which prints the schedule of the frame
pub record ReleasesAreAnswered : Type 0 where
  pub done : IsDueAnswer (told network [] captured) (Releases (codes "n") (codes "s1") (codes "s"))
      (done_with schedule)
  pub refused : IsDueAnswer (told network [] rows) (Releases (codes "n") (codes "b1") (codes "s"))
      (refused_with (codes "refused station b1\n"))
  pub faulty : IsDueAnswer (told network [] rows) (Releases (codes "n") (codes "s1") (codes "s"))
      (faulty_with (codes "input s bad-magic\n"))
  pub both_faulty : IsDueAnswer (told no_text [] rows) (Releases (codes "n") (codes "b1") (codes "s"))
      (faulty_with (codes "input n not-toml\n"))

abbrev pub fitted : List ℕ
fitted =
    codes "stream a frames 1 octets 1522 1522 burst 12336 of 12336\n" ++ codes "total frames 1 streams 1 over 0\n"

-- of two frames at once and a third
abbrev pub crowded : List ℕ
crowded = codes "stream a frames 3 octets 64 1522 burst 24672 of 12336\n" ++ codes "total frames 3 streams 1 over 1\n"

-- of releases that need just the burst that is declared, and of others that need more
pub record FitIsAnswered : Type 0 where
  pub just : IsDueAnswer (told network [] schedule) (Fit (codes "n") (codes "s")) (done_with fitted)
  pub over : IsDueAnswer (told network [] crowded_schedule) (Fit (codes "n") (codes "s")) (done_with crowded)
  pub faulty : IsDueAnswer (told network [] rows) (Fit (codes "n") (codes "s"))
      (faulty_with (codes "input s bad-row 1\n"))
  pub both_faulty : IsDueAnswer (told no_text [] rows) (Fit (codes "n") (codes "s"))
      (faulty_with (codes "input n not-toml\n"))

-- whatever is told
abbrev pub WordsAreAnswered : Type 0
WordsAreAnswered = (tells : List ℕ → Option (List ℕ))
    → IsDueAnswer tells Unknown (record { status = Words; text = codes "words\n" })

-- with one certificate and one schedule told, Done is due to `check`, `conform` and `replay`, as the laws
-- `replay_keeps_bounds` and `conform_keeps_bounds` ask
pub record BoundsAreMet : Type 0 where
  pub check : IsDueAnswer (told network rows schedule) (Check (codes "n") (codes "c")) (done_with accepted)
  pub conform : IsDueAnswer (told network rows schedule) (Conform (codes "n") (codes "s"))
      (done_with (codes "conforms 1\n"))
  pub replay : IsDueAnswer (told network rows schedule) (Replay (codes "n") (codes "s") Early) (done_with departures)

-- with one certificate and one capture told, and the text of `releases` under the name of a schedule, Done is due to
-- `releases`, to `conform` and `replay` of that text, to `check` and to `capture`, as the law `releases_keep_bounds`
-- asks
abbrev pub told_capture : List ℕ → Option (List ℕ)
told_capture = told_also network rows schedule captured

pub record CaptureBoundsAreMet : Type 0 where
  pub releases : IsDueAnswer told_capture (Releases (codes "n") (codes "s1") (codes "p")) (done_with schedule)
  pub told_on : told_capture (codes "s") ≡ Some schedule
  pub conform : IsDueAnswer told_capture (Conform (codes "n") (codes "s")) (done_with (codes "conforms 1\n"))
  pub check : IsDueAnswer told_capture (Check (codes "n") (codes "c")) (done_with accepted)
  pub capture : IsDueAnswer told_capture (Capture (codes "n") (codes "s1") (codes "p") (Mixed 9))
      (done_with (departures ++ codes "records 1 unidentified 0 oversize 0\n"))
  pub replay : IsDueAnswer told_capture (Replay (codes "n") (codes "s") Early) (done_with departures)

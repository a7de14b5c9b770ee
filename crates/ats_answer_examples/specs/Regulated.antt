use Rattle.std.specs.Prelude.{ℕ, List, [], ◌++◌, codes}
use Rattle.ats_command_input.specs.Command.{Bound, Check, LrqBound, LrqCheck, LrqShape}
use Rattle.ats_command_due.specs.Due.{IsDueAnswer}
use Rattle.ats_call_examples.specs.Files.{done_with, faulty_with, no_text, refused_with, rows, schedule, short_rows}
use Rattle.ats_call_examples.specs.Files.{told}
use Rattle.ats_call_examples.specs.Judged.{accepted}

-- What is due to whole calls about the other regulator: an example for each status.

-- the network of `ats_call_examples` whose stream has a burst of two frames, with this deadline
abbrev pub burst_text : List ℕ → List ℕ
burst_text deadline =
    codes "format = 1\n" ++ codes "[[station]]\nname = \"s1\"\n" ++ codes "[[station]]\nname = \"s2\"\n"
    ++ codes "[[bridge]]\nname = \"b1\"\nprocessing_ns = 1000\nresidence_ns = 1000000\n"
    ++ codes "[[link]]\na = \"s1\"\nb = \"b1\"\nmbps = 1000\npropagation_ns = 500\n"
    ++ codes "[[link]]\na = \"b1\"\nb = \"s2\"\nmbps = 1000\npropagation_ns = 500\n"
    ++ codes "[[stream]]\nname = \"a\"\nfrom = \"s1\"\nto = \"s2\"\nclass = 6\nrate_bps = 100000000\n"
    ++ codes "burst_bits = 24672\nmin_octets = 64\nmax_octets = 1522\ndeadline_ns = " ++ deadline ++ codes "\n"

-- with its burst narrowed to one frame the deadline is just the sum of its bounds, and with 1 ns less it is late
abbrev pub bursts : List ℕ
bursts = burst_text (codes "26672")

abbrev pub late_bursts : List ℕ
late_bursts = burst_text (codes "26671")

-- frames of which the second waits for all bits of the first, though the burst covers both
abbrev pub shape_text : List ℕ
shape_text = codes "residence 20000\nstream a 50000000 8000 64 900\nframe 1001 a 100\nframe 1001 a 90\n"

pub record LrqShapeIsAnswered : Type 0 where
  pub done : IsDueAnswer (told [] [] shape_text) (LrqShape (codes "s"))
      (done_with (codes "frame 0 a 100 1001 eligible 1001\nframe 1 a 90 1001 eligible 19201001\n"
      ++ codes "total frames 2 eligible 2 late 0 size 0\n"))
  pub faulty : IsDueAnswer (told [] [] (codes "residence -1\n")) (LrqShape (codes "s"))
      (faulty_with (codes "input s bad-line 1\n"))

-- the rows are those with the narrowed burst, and with the declared one it is late
pub record LrqBoundIsAnswered : Type 0 where
  pub done : IsDueAnswer (told bursts [] []) (LrqBound (codes "n")) (done_with rows)
  pub declared : IsDueAnswer (told bursts [] []) (Bound (codes "n"))
      (refused_with (codes "refused deadline a 51344000\n"))
  pub refused : IsDueAnswer (told late_bursts [] []) (LrqBound (codes "n"))
      (refused_with (codes "refused deadline a 26672000\n"))
  pub faulty : IsDueAnswer (told no_text [] []) (LrqBound (codes "n")) (faulty_with (codes "input n not-toml\n"))

-- they hold with the narrowed burst, and with the declared one they do not; the network's file is judged first
pub record LrqCheckIsAnswered : Type 0 where
  pub done : IsDueAnswer (told bursts rows []) (LrqCheck (codes "n") (codes "c")) (done_with accepted)
  pub declared : IsDueAnswer (told bursts rows []) (Check (codes "n") (codes "c"))
      (refused_with (codes "refused field s1>b1 6 bursts 24672\n"))
  pub refused : IsDueAnswer (told bursts short_rows []) (LrqCheck (codes "n") (codes "c"))
      (refused_with (codes "refused field s1>b1 6 bound 13836000\n"))
  pub late : IsDueAnswer (told late_bursts rows []) (LrqCheck (codes "n") (codes "c"))
      (refused_with (codes "refused deadline a 26672000\n"))
  pub faulty : IsDueAnswer (told bursts schedule []) (LrqCheck (codes "n") (codes "c"))
      (faulty_with (codes "input c bad-row 1\n"))
  pub both_faulty : IsDueAnswer (told no_text schedule []) (LrqCheck (codes "n") (codes "c"))
      (faulty_with (codes "input n not-toml\n"))

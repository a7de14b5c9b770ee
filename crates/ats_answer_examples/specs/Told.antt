use Rattle.std.specs.Prelude.{ℕ, List, [], ◌++◌, codes}
use Rattle.ats_command_input.specs.Command.{Buffers, Peaks, Settings}
use Rattle.ats_command_input.specs.declared.order.Order.TheVariants.{Mixed}
use Rattle.ats_command_due.specs.Due.{IsDueAnswer}
use Rattle.ats_call_examples.specs.Files.{done_with, faulty_with, network, no_text, refused_with, rows, schedule}
use Rattle.ats_call_examples.specs.Files.{short_rows, told}

-- What is due to whole calls that tell what to set in bridges, and what may be held there: an example for each status.

abbrev pub set : List ℕ
set =
    codes "bridge,received_from,class,stream,rate_bps,burst_bits,max_octets,residence_ns,sent_to,class_there\n"
    ++ codes "b1,s1>b1,6,a,100000000,12336,1522,1000000,b1>s2,6\n"

pub record SettingsIsAnswered : Type 0 where
  pub done : IsDueAnswer (told network [] []) (Settings (codes "n")) (done_with set)
  pub faulty : IsDueAnswer (told no_text [] []) (Settings (codes "n")) (faulty_with (codes "input n not-toml\n"))

abbrev pub buffered : List ℕ
buffered = codes "buffer s1>b1 6 13569\nbuffer b1>s2 6 14736\nrows 2\n"

-- the network's file is judged first
pub record BuffersIsAnswered : Type 0 where
  pub done : IsDueAnswer (told network rows []) (Buffers (codes "n") (codes "c")) (done_with buffered)
  pub refused : IsDueAnswer (told network short_rows []) (Buffers (codes "n") (codes "c"))
      (refused_with (codes "refused field s1>b1 6 bound 13836000\n"))
  pub faulty : IsDueAnswer (told network schedule []) (Buffers (codes "n") (codes "c"))
      (faulty_with (codes "input c bad-row 1\n"))
  pub both_faulty : IsDueAnswer (told no_text schedule []) (Buffers (codes "n") (codes "c"))
      (faulty_with (codes "input n not-toml\n"))

-- two frames, of which the second is released when the first is sent
abbrev pub two_frames : List ℕ
two_frames = codes "at_ps,sender,octets\n0,a,1522\n12336000,a,64\n"

-- so the station holds one at a time, and the bridge both
abbrev pub peaked : List ℕ
peaked = codes "buffer s1>b1 6 13569 peak 12336\nbuffer b1>s2 6 14736 peak 13008\nrows 2\n"

-- each file is judged in its turn, and then the rows
pub record PeaksIsAnswered : Type 0 where
  pub done : IsDueAnswer (told network rows two_frames) (Peaks (codes "n") (codes "c") (codes "s") (Mixed 9))
      (done_with peaked)
  pub refused : IsDueAnswer (told network short_rows two_frames) (Peaks (codes "n") (codes "c") (codes "s") (Mixed 9))
      (refused_with (codes "refused field s1>b1 6 bound 13836000\n"))
  pub schedule_faulty : IsDueAnswer (told network short_rows rows) (Peaks (codes "n") (codes "c") (codes "s") (Mixed 9))
      (faulty_with (codes "input s bad-row 1\n"))
  pub rows_faulty : IsDueAnswer (told network schedule rows) (Peaks (codes "n") (codes "c") (codes "s") (Mixed 9))
      (faulty_with (codes "input c bad-row 1\n"))
  pub all_faulty : IsDueAnswer (told no_text schedule rows) (Peaks (codes "n") (codes "c") (codes "s") (Mixed 9))
      (faulty_with (codes "input n not-toml\n"))

use Rattle.std.specs.Prelude.{ℕ, List, [], ◌++◌, codes}
use Rattle.ats_command_input.specs.Command.{Admit, Bound, Check, Conform, Explain, Shape, Show}
use Rattle.ats_command_due.specs.Due.{IsDueAnswer}
use Rattle.ats_call_examples.specs.Files.{done_with, faulty_with, late, long_schedule, network, no_text}
use Rattle.ats_call_examples.specs.Files.{overloaded, refused_with, rows, schedule, short_rows, told}

-- What is due to whole calls that judge what files declare: an example for each status.

pub record ShapeIsAnswered : Type 0 where
  pub done : IsDueAnswer (told [] [] (codes "residence 20000\nstream a 50000000 8000 64 900\nframe 1001 a 880\n"))
      (Shape (codes "s"))
      (done_with (codes "frame 0 a 880 1001 eligible 1001\ntotal frames 1 eligible 1 late 0 size 0\n"))
  pub faulty : IsDueAnswer (told [] [] (codes "residence -1\n")) (Shape (codes "s"))
      (faulty_with (codes "input s bad-line 1\n"))

abbrev pub shown : List ℕ
shown =
    codes "port 0 s1>b1 1000 1500000\nport 1 b1>s1 1000 500000\nport 2 b1>s2 1000 500000\n"
    ++ codes "port 3 s2>b1 1000 1500000\nstream a 6 s1>b1 b1>s2\ntotal ports 4 streams 1 flows 0\n"

pub record ShowIsAnswered : Type 0 where
  pub done : IsDueAnswer (told network [] []) (Show (codes "n")) (done_with shown)
  pub faulty : IsDueAnswer (told no_text [] []) (Show (codes "n")) (faulty_with (codes "input n not-toml\n"))

pub record BoundIsAnswered : Type 0 where
  pub done : IsDueAnswer (told network [] []) (Bound (codes "n")) (done_with rows)
  pub refused : IsDueAnswer (told late [] []) (Bound (codes "n")) (refused_with (codes "refused deadline a 26672000\n"))
  pub faulty : IsDueAnswer (told no_text [] []) (Bound (codes "n")) (faulty_with (codes "input n not-toml\n"))

abbrev pub explained : List ℕ
explained =
    codes "stream a sum 26672000 deadline 26672000 slack 0\n"
    ++ codes "hop s1>b1 6 lower 0 - bursts 11664000 higher 0 frame 672000 latency 1500000 bound 13836000 "
    ++ codes "stay 11664000 of 1000000000\n"
    ++ codes "hop b1>s2 6 lower 0 - bursts 11664000 higher 0 frame 672000 latency 500000 bound 12836000\n"
    ++ codes "port s1>b1 load 100000000000\nport b1>s2 load 100000000000\n"
    ++ codes "total streams 1 late 0 over 0 tightest a slack 0\n"

pub record ExplainIsAnswered : Type 0 where
  pub done : IsDueAnswer (told network [] []) (Explain (codes "n")) (done_with explained)
  pub refused : IsDueAnswer (told overloaded [] []) (Explain (codes "n"))
      (refused_with (codes "refused overloaded s1>b1 6 2000000000000\n"))
  pub faulty : IsDueAnswer (told no_text [] []) (Explain (codes "n")) (faulty_with (codes "input n not-toml\n"))

abbrev pub accepted : List ℕ
accepted = codes "hop a s1>b1 13836000\nhop a b1>s2 12836000\nsum a 26672000\naccepted 1\n"

-- the network's file is judged first
pub record CheckIsAnswered : Type 0 where
  pub done : IsDueAnswer (told network rows []) (Check (codes "n") (codes "c")) (done_with accepted)
  pub refused : IsDueAnswer (told network short_rows []) (Check (codes "n") (codes "c"))
      (refused_with (codes "refused field s1>b1 6 bound 13836000\n"))
  pub faulty : IsDueAnswer (told network schedule []) (Check (codes "n") (codes "c"))
      (faulty_with (codes "input c bad-row 1\n"))
  pub both_faulty : IsDueAnswer (told no_text schedule []) (Check (codes "n") (codes "c"))
      (faulty_with (codes "input n not-toml\n"))

pub record ConformIsAnswered : Type 0 where
  pub done : IsDueAnswer (told network [] schedule) (Conform (codes "n") (codes "s")) (done_with (codes "conforms 1\n"))
  pub refused : IsDueAnswer (told network [] long_schedule) (Conform (codes "n") (codes "s"))
      (refused_with (codes "refused size 0\n"))
  pub faulty : IsDueAnswer (told network [] rows) (Conform (codes "n") (codes "s"))
      (faulty_with (codes "input s bad-row 1\n"))
  pub both_faulty : IsDueAnswer (told no_text [] rows) (Conform (codes "n") (codes "s"))
      (faulty_with (codes "input n not-toml\n"))

abbrev pub requests : List ℕ
requests = codes "admit b s1 s2 5 100000000 12336 64 1522 1000000\nwithdraw a\n"

pub record AdmitIsAnswered : Type 0 where
  pub done : IsDueAnswer (told network [] requests) (Admit (codes "n") (codes "s"))
      (done_with (codes "denied b deadline a 51344000\nwithdrawn a\nstreams 0\n"))
  pub refused : IsDueAnswer (told late [] requests) (Admit (codes "n") (codes "s"))
      (refused_with (codes "refused deadline a 26672000\n"))
  pub faulty : IsDueAnswer (told late [] rows) (Admit (codes "n") (codes "s"))
      (faulty_with (codes "input s bad-line 1\n"))
  pub both_faulty : IsDueAnswer (told no_text [] rows) (Admit (codes "n") (codes "s"))
      (faulty_with (codes "input n not-toml\n"))

use Rattle.std.proofs.Common.{◌≡◌, ◌∙◌, ℕ, List, [], ap, refl, sym}
use Rattle.std.specs.Prelude.{codes, Result, Ok}
use Rattle.std.specs.Fmt.{digits}
use Rattle.ats_num.specs.Failure.{◌>>=◌}
use Rattle.ats_schedule.specs.Reading.{header}
use Rattle.ats_schedule.specs.Text.{schedule_text}
use Rattle.ats_command_input.specs.Answer.{Answer, settled}
use Rattle.ats_command_input.specs.declared.order.Order.TheVariants.{Early}
use Rattle.ats_command_due.specs.Captured.{Captured, captured_in}
use Rattle.ats_command_due.specs.Due.{releases_answer}
use Rattle.ats_command_due.specs.Released.{released_in, released_text}
use Rattle.ats_call_examples.specs.Files.{done_with, faulty_with, network, no_text, refused_with, rows, schedule, told}
use Rattle.ats_call_examples.specs.Run.{CaptureBoundsAreMet, ReleasesAreAnswered, captured, told_capture}
use Rattle.ats_call_examples.proofs.Captures.{captured_is, counted, neither, no_capture, no_station, replays}
use Rattle.ats_call_examples.proofs.Conformed.{conforms}
use Rattle.ats_call_examples.proofs.JudgedByTwo.{check_done}
use Rattle.ats_call_examples.proofs.Line.{line, one_release}
use Rattle.ats_call_examples.proofs.Replayed.{replays_by, runs_early}
use Rattle.ats_call_examples.proofs.Telling.{two_told}

-- Calls that print the releases of a capture.

-- what is printed of what was captured
abbrev printed : Result Captured Answer → Answer
printed due = settled (due >>= λ captured. Ok (released_text captured.network captured.traffic))

schedule_written : schedule ≡ schedule_text line (one_release 1522)
unfolding digits header
schedule_written = refl

releases_done : (file : List ℕ) → captured_in (codes "n") (codes "s1") file network captured
    ≡ Ok (record { network = line; traffic = counted })
    → done_with schedule ≡ releases_answer (codes "n") (codes "s1") file network captured
unfolding releases_answer released_in
releases_done file is = ap done_with schedule_written ∙ ap printed (sym is)

releases_refused : refused_with (codes "refused station b1\n")
    ≡ releases_answer (codes "n") (codes "b1") (codes "s") network rows
unfolding releases_answer released_in
releases_refused = ap printed (sym no_station)

releases_faulty : faulty_with (codes "input s bad-magic\n")
    ≡ releases_answer (codes "n") (codes "s1") (codes "s") network rows
unfolding releases_answer released_in
releases_faulty = ap printed (sym no_capture)

releases_both : faulty_with (codes "input n not-toml\n")
    ≡ releases_answer (codes "n") (codes "b1") (codes "s") no_text rows
unfolding releases_answer released_in
releases_both = ap printed (sym neither)

pub releases_are_answered : ReleasesAreAnswered
releases_are_answered = record {
  done = record {
    is_told = two_told (told network [] captured) (codes "n") (codes "s") refl refl;
    answers = releases_done (codes "s") (captured_is (codes "s"));
  };
  refused = record {
    is_told = two_told (told network [] rows) (codes "n") (codes "s") refl refl;
    answers = releases_refused;
  };
  faulty = record {
    is_told = two_told (told network [] rows) (codes "n") (codes "s") refl refl;
    answers = releases_faulty;
  };
  both_faulty = record {
    is_told = two_told (told no_text [] rows) (codes "n") (codes "s") refl refl;
    answers = releases_both;
  };
}

pub capture_bounds_are_met : CaptureBoundsAreMet
capture_bounds_are_met = record {
  releases = record {
    is_told = two_told told_capture (codes "n") (codes "p") refl refl;
    answers = releases_done (codes "p") (captured_is (codes "p"));
  };
  told_on = refl;
  conform = record { is_told = two_told told_capture (codes "n") (codes "s") refl refl; answers = conforms };
  check = record { is_told = two_told told_capture (codes "n") (codes "c") refl refl; answers = check_done };
  capture = record {
    is_told = two_told told_capture (codes "n") (codes "p") refl refl;
    answers = replays (codes "p");
  };
  replay = record {
    is_told = two_told told_capture (codes "n") (codes "s") refl refl;
    answers = replays_by Early runs_early;
  };
}

use Rattle.std.proofs.Common.{◌≡◌, [], refl}
use Rattle.std.specs.Prelude.{codes, Ok, Err}
use Rattle.std.specs.Fmt.{digits}
use Rattle.ats_replay.specs.Departures.{departures_text, frame_line, hop_line, journey_text}
use Rattle.ats_replay.specs.Totals.{counts_text, totals_line}
use Rattle.ats_command_input.specs.Order.{key_of, wait_of}
use Rattle.ats_command_input.specs.declared.order.Order.{Order}
use Rattle.ats_command_input.specs.declared.order.Order.TheVariants.{Early, Late}
use Rattle.ats_command_due.specs.Due.{IsReplayAnswer}
use Rattle.ats_command_due.specs.Replayed.{IsOneOf, IsReplayed, IsRunIn, scheduled_in}
use Rattle.ats_examples.proofs.LegalProofs.{run_by}
use Rattle.ats_call_examples.specs.Files.{done_with, faulty_with, network, no_text, rows, schedule, told}
use Rattle.ats_call_examples.specs.Run.{BoundsAreMet, ReplayIsAnswered, departures}
use Rattle.ats_call_examples.proofs.Conformed.{conforms}
use Rattle.ats_call_examples.proofs.JudgedByTwo.{check_done}
use Rattle.ats_call_examples.proofs.Line.{line, one_journey, one_release}
use Rattle.ats_call_examples.proofs.Scheduled.{neither, no_schedule, schedule_is, scheduled}
use Rattle.ats_call_examples.proofs.Telling.{of_declared, two_told}

-- Calls that replay a schedule: the run is worked out, and its text is by computation.

-- in two orders
pub runs_early : IsRunIn Early line (one_release 1522) (one_journey 1522 12336000)
runs_early = record {
  by_order = run_by (key_of Early) (wait_of Early) line (one_journey 1522 12336000) refl refl refl;
  exactly = refl;
}

pub runs_late : IsRunIn Late line (one_release 1522) (one_journey 1522 12336000)
runs_late = record {
  by_order = run_by (key_of Late) (wait_of Late) line (one_journey 1522 12336000) refl refl refl;
  exactly = refl;
}

pub departures_are : departures ≡ departures_text line (one_journey 1522 12336000)
unfolding digits departures_text frame_line hop_line journey_text counts_text totals_line
departures_are = refl

pub replays_by : (order : Order) → IsRunIn order line (one_release 1522) (one_journey 1522 12336000)
    → IsReplayAnswer (codes "n") (codes "s") order network schedule (done_with departures)
replays_by order runs =
    of_declared (IsOneOf (IsReplayed order)) (scheduled_in (codes "n") (codes "s") network schedule)
    (Ok (scheduled 1522))
    (done_with departures) schedule_is
    (refl, (one_journey 1522 12336000, record { is_run = runs; written = departures_are }))

has_none : IsReplayAnswer (codes "n") (codes "s") Early network rows (faulty_with (codes "input s bad-row 1\n"))
has_none = of_declared (IsOneOf (IsReplayed Early)) (scheduled_in (codes "n") (codes "s") network rows)
    (Err (faulty_with (codes "input s bad-row 1\n"))) (faulty_with (codes "input s bad-row 1\n")) no_schedule refl

has_no_network : IsReplayAnswer (codes "n") (codes "s") Early no_text rows (faulty_with (codes "input n not-toml\n"))
has_no_network = of_declared (IsOneOf (IsReplayed Early)) (scheduled_in (codes "n") (codes "s") no_text rows)
    (Err (faulty_with (codes "input n not-toml\n"))) (faulty_with (codes "input n not-toml\n")) neither refl

pub replay_is_answered : ReplayIsAnswered
replay_is_answered = record {
  done = record {
    is_told = two_told (told network [] schedule) (codes "n") (codes "s") refl refl;
    answers = replays_by Late runs_late;
  };
  faulty = record { is_told = two_told (told network [] rows) (codes "n") (codes "s") refl refl; answers = has_none };
  both_faulty = record {
    is_told = two_told (told no_text [] rows) (codes "n") (codes "s") refl refl;
    answers = has_no_network;
  };
}

pub bounds_are_met : BoundsAreMet
bounds_are_met = record {
  check = record {
    is_told = two_told (told network rows schedule) (codes "n") (codes "c") refl refl;
    answers = check_done;
  };
  conform = record {
    is_told = two_told (told network rows schedule) (codes "n") (codes "s") refl refl;
    answers = conforms;
  };
  replay = record {
    is_told = two_told (told network rows schedule) (codes "n") (codes "s") refl refl;
    answers = replays_by Early runs_early;
  };
}

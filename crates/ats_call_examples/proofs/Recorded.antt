use Rattle.std.proofs.Common.{◌≡◌, ℕ, List, [], lit≤, refl}
use Rattle.std.specs.Prelude.{codes, Result, Ok, Err}
use Rattle.std.specs.Fmt.{digits}
use Rattle.csv.specs.Machine.{next_record}
use Rattle.csv.specs.Reading.{records_from, strip_bom}
use Rattle.ats_csv.specs.Reading.{records_of, same_fields}
use Rattle.ats_num.specs.Failure.{◌>>=◌}
use Rattle.ats_network.specs.Network.{DeclaredNetwork}
use Rattle.ats_schedule.specs.Reading as schedule_file
use Rattle.ats_schedule.specs.Reading.{release_after}
use Rattle.ats_port_capture.specs.Capture.{IsCapture, header, record_bytes}
use Rattle.ats_port_capture.specs.Frame.{tagged, untagged}
use Rattle.ats_port_capture.specs.Numbers.{high_first16, high_first32, high_first48, low_first16, low_first32}
use Rattle.ats_port_capture_law.proofs.WorkedProofs.{short}
use Rattle.ats_command_input.specs.Answer.{Answer}
use Rattle.ats_command_input.specs.Input.{network_in, releases_in}
use Rattle.ats_command_input.specs.Port.{port_in}
use Rattle.ats_command_input.specs.declared.order.Order.{Order}
use Rattle.ats_command_input.specs.declared.order.Order.TheVariants.{Early, Late}
use Rattle.ats_command_due.specs.Due.{IsRecordAnswer}
use Rattle.ats_command_due.specs.Recorded.{IsRecorded, Recorded, recorded_in}
use Rattle.ats_command_due.specs.Replayed.{IsOneOf, IsRunIn}
use Rattle.ats_call_examples.specs.Files.{done_with, faulty_with, network, no_text, refused_with, rows, schedule, told}
use Rattle.ats_call_examples.specs.Run.{RecordIsAnswered, nano_header, recorded}
use Rattle.ats_call_examples.proofs.Line.{answered, line, line_is, no_network, one_journey, one_release}
use Rattle.ats_call_examples.proofs.Replayed.{runs_early, runs_late}
use Rattle.ats_call_examples.proofs.Telling.{of_declared, two_told}

-- Calls that record what a port sends.

-- what is to be recorded of this network, by the bytes of a schedule and the name of a port
abbrev recorded_of : List ℕ → List ℕ → DeclaredNetwork → Result Recorded Answer
recorded_of port bytes over =
    port_in over.topology port
    >>= λ place. releases_in over (codes "s") bytes
    >>= λ releases. Ok (record { network = over; port = place; releases = releases })

-- by what the network's file declares
recorded_by : (port net bytes : List ℕ) (declared : Result DeclaredNetwork Answer) (due : Result Recorded Answer)
    → network_in (codes "n") net ≡ declared → (declared >>= recorded_of port bytes) ≡ due
    → recorded_in (codes "n") (codes "s") port net bytes ≡ due
unfolding recorded_in
recorded_by port net bytes declared due is h = answered (network_in (codes "n") net) (recorded_of port bytes)
    (λ (r : Result Recorded Answer). r ≡ due) declared is h

-- one frame, and the port with this number
abbrev at_port : ℕ → Recorded
at_port place = record { network = line; port = place; releases = one_release 1522 }

first_is : recorded_in (codes "n") (codes "s") (codes "s1>b1") network schedule ≡ Ok (at_port 0)
unfolding
    port_in releases_in next_record records_from strip_bom records_of same_fields schedule_file.header release_after
first_is = recorded_by (codes "s1>b1") network schedule (Ok line) (Ok (at_port 0)) line_is refl

second_is : recorded_in (codes "n") (codes "s") (codes "b1>s2") network schedule ≡ Ok (at_port 2)
unfolding
    port_in releases_in next_record records_from strip_bom records_of same_fields schedule_file.header release_after
second_is = recorded_by (codes "b1>s2") network schedule (Ok line) (Ok (at_port 2)) line_is refl

back_is : recorded_in (codes "n") (codes "s") (codes "b1>s1") network schedule ≡ Ok (at_port 1)
unfolding
    port_in releases_in next_record records_from strip_bom records_of same_fields schedule_file.header release_after
back_is = recorded_by (codes "b1>s1") network schedule (Ok line) (Ok (at_port 1)) line_is refl

no_port : recorded_in (codes "n") (codes "s") (codes "s1>s2") network rows
    ≡ Err (refused_with (codes "refused port s1>s2\n"))
unfolding port_in
no_port = recorded_by (codes "s1>s2") network rows (Ok line) (Err (refused_with (codes "refused port s1>s2\n"))) line_is
    refl

no_schedule : recorded_in (codes "n") (codes "s") (codes "s1>b1") network rows
    ≡ Err (faulty_with (codes "input s bad-row 1\n"))
unfolding digits port_in releases_in next_record records_from strip_bom records_of same_fields schedule_file.header
no_schedule = recorded_by (codes "s1>b1") network rows (Ok line) (Err (faulty_with (codes "input s bad-row 1\n")))
    line_is refl

neither : recorded_in (codes "n") (codes "s") (codes "s1>s2") no_text rows
    ≡ Err (faulty_with (codes "input n not-toml\n"))
neither = recorded_by (codes "s1>s2") no_text rows (Err (faulty_with (codes "input n not-toml\n")))
    (Err (faulty_with (codes "input n not-toml\n"))) no_network refl

-- what each port of the line sent
first_sent : IsCapture line (one_journey 1522 12336000) 0 (recorded 0 0)
unfolding header record_bytes tagged untagged high_first16 high_first32 high_first48 low_first16 low_first32
first_sent = short line (one_journey 1522 12336000) 0 (recorded 0 0) (lit≤ tt) refl refl

second_sent : IsCapture line (one_journey 1522 12336000) 2 (recorded 0x0C 0x36)
unfolding header record_bytes tagged untagged high_first16 high_first32 high_first48 low_first16 low_first32
second_sent = short line (one_journey 1522 12336000) 2 (recorded 0x0C 0x36) (lit≤ tt) refl refl

none_sent : IsCapture line (one_journey 1522 12336000) 1 nano_header
unfolding header record_bytes tagged untagged high_first16 high_first32 high_first48 low_first16 low_first32
none_sent = short line (one_journey 1522 12336000) 1 nano_header (lit≤ tt) refl refl

records_by : (order : Order) (port file : List ℕ) (place : ℕ)
    → recorded_in (codes "n") (codes "s") port network schedule ≡ Ok (at_port place)
    → IsRunIn order line (one_release 1522) (one_journey 1522 12336000)
    → IsCapture line (one_journey 1522 12336000) place file
    → IsRecordAnswer (codes "n") (codes "s") order port network schedule (done_with file)
records_by order port file place is runs capture =
    of_declared (IsOneOf (IsRecorded order)) (recorded_in (codes "n") (codes "s") port network schedule)
    (Ok (at_port place)) (done_with file) is
    (refl, (one_journey 1522 12336000, record { is_run = runs; capture = capture }))

has_no_port : IsRecordAnswer (codes "n") (codes "s") Early (codes "s1>s2") network rows
    (refused_with (codes "refused port s1>s2\n"))
has_no_port = of_declared (IsOneOf (IsRecorded Early))
    (recorded_in (codes "n") (codes "s") (codes "s1>s2") network rows)
    (Err (refused_with (codes "refused port s1>s2\n"))) (refused_with (codes "refused port s1>s2\n")) no_port refl

has_no_schedule : IsRecordAnswer (codes "n") (codes "s") Early (codes "s1>b1") network rows
    (faulty_with (codes "input s bad-row 1\n"))
has_no_schedule = of_declared (IsOneOf (IsRecorded Early))
    (recorded_in (codes "n") (codes "s") (codes "s1>b1") network rows)
    (Err (faulty_with (codes "input s bad-row 1\n"))) (faulty_with (codes "input s bad-row 1\n")) no_schedule refl

has_no_network : IsRecordAnswer (codes "n") (codes "s") Early (codes "s1>s2") no_text rows
    (faulty_with (codes "input n not-toml\n"))
has_no_network = of_declared (IsOneOf (IsRecorded Early))
    (recorded_in (codes "n") (codes "s") (codes "s1>s2") no_text rows)
    (Err (faulty_with (codes "input n not-toml\n"))) (faulty_with (codes "input n not-toml\n")) neither refl

pub record_is_answered : RecordIsAnswered
record_is_answered = record {
  first = record {
    is_told = two_told (told network [] schedule) (codes "n") (codes "s") refl refl;
    answers = records_by Early (codes "s1>b1") (recorded 0 0) 0 first_is runs_early first_sent;
  };
  second = record {
    is_told = two_told (told network [] schedule) (codes "n") (codes "s") refl refl;
    answers = records_by Late (codes "b1>s2") (recorded 0x0C 0x36) 2 second_is runs_late second_sent;
  };
  none_sent = record {
    is_told = two_told (told network [] schedule) (codes "n") (codes "s") refl refl;
    answers = records_by Early (codes "b1>s1") nano_header 1 back_is runs_early none_sent;
  };
  refused = record {
    is_told = two_told (told network [] rows) (codes "n") (codes "s") refl refl;
    answers = has_no_port;
  };
  faulty = record {
    is_told = two_told (told network [] rows) (codes "n") (codes "s") refl refl;
    answers = has_no_schedule;
  };
  both_faulty = record {
    is_told = two_told (told no_text [] rows) (codes "n") (codes "s") refl refl;
    answers = has_no_network;
  };
}

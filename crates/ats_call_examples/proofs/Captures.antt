use Rattle.std.proofs.Common.{◌≡◌, ℕ, List, [], ◌++◌, ap, ◌∙◌, refl}
use Rattle.std.specs.Prelude.{codes, Result, Ok, Err}
use Rattle.std.specs.Fmt.{digits}
use Rattle.ats_num.specs.Failure.{◌>>=◌}
use Rattle.ats_network.specs.Network.{DeclaredNetwork}
use Rattle.ats_capture.specs.Counts.{counts_text}
use Rattle.ats_capture.specs.Reading as capture
use Rattle.ats_capture.specs.Traffic.{Traffic}
use Rattle.ats_pcap.specs.Capture.{form_of, is_whole, order_of, position_of, record_of}
use Rattle.ats_pcap.specs.Capture.{header_fault as of_header, record_fault as of_record}
use Rattle.ats_pcap.specs.Identity.{address_of, identity_of}
use Rattle.ats_pcap.specs.Numbers.{number16, number32}
use Rattle.ats_command_input.specs.Answer.{Answer}
use Rattle.ats_command_input.specs.Input.{network_in, records_in, traffic_in}
use Rattle.ats_command_input.specs.Order.{key_of, wait_of}
use Rattle.ats_command_input.specs.Station.{station_in}
use Rattle.ats_command_input.specs.declared.order.Order.TheVariants.{Early, Mixed}
use Rattle.ats_command_due.specs.Captured.{Captured, IsCaptured, captured_in}
use Rattle.ats_command_due.specs.Due.{IsCaptureAnswer}
use Rattle.ats_command_due.specs.Replayed.{IsOneOf, IsRunIn}
use Rattle.ats_examples.proofs.LegalProofs.{run_by}
use Rattle.ats_call_examples.specs.Files.{done_with, faulty_with, network, no_text, refused_with, rows, told}
use Rattle.ats_call_examples.specs.Run.{CaptureIsAnswered, captured, departures}
use Rattle.ats_call_examples.proofs.Line.{answered, line, line_is, no_network, one_journey, one_release}
use Rattle.ats_call_examples.proofs.Replayed.{departures_are}
use Rattle.ats_call_examples.proofs.Telling.{of_declared, two_told}

-- Calls that run a capture.

abbrev pub counted : Traffic
counted = record { releases = one_release 1522; records = 1; unidentified = 0; oversize = 0 }

-- what was captured of this network, by the bytes of a capture at the station that a word names
abbrev captured_of : List ℕ → List ℕ → List ℕ → DeclaredNetwork → Result Captured Answer
captured_of station file bytes over =
    station_in over.topology station
    >>= λ place. traffic_in over place file bytes
    >>= λ traffic. Ok (record { network = over; traffic = traffic })

-- by what the network's file declares
captured_by : (station file net bytes : List ℕ) (declared : Result DeclaredNetwork Answer)
    (due : Result Captured Answer)
    → network_in (codes "n") net ≡ declared → (declared >>= captured_of station file bytes) ≡ due
    → captured_in (codes "n") station file net bytes ≡ due
unfolding captured_in
captured_by station file net bytes declared due is h =
    answered (network_in (codes "n") net) (captured_of station file bytes)
    (λ (r : Result Captured Answer). r ≡ due) declared is h

pub captured_is : (file : List ℕ) → captured_in (codes "n") (codes "s1") file network captured
    ≡ Ok (record { network = line; traffic = counted })
unfolding
    station_in traffic_in records_in capture.records_in form_of of_header is_whole order_of position_of of_record
    record_of address_of identity_of number16 number32
captured_is file = captured_by (codes "s1") file network captured (Ok line)
    (Ok (record { network = line; traffic = counted })) line_is refl

pub no_station : captured_in (codes "n") (codes "b1") (codes "s") network rows
    ≡ Err (refused_with (codes "refused station b1\n"))
unfolding station_in
no_station = captured_by (codes "b1") (codes "s") network rows (Ok line)
    (Err (refused_with (codes "refused station b1\n"))) line_is refl

pub no_capture : captured_in (codes "n") (codes "s1") (codes "s") network rows
    ≡ Err (faulty_with (codes "input s bad-magic\n"))
unfolding station_in traffic_in records_in capture.records_in of_header order_of position_of number32
no_capture = captured_by (codes "s1") (codes "s") network rows (Ok line)
    (Err (faulty_with (codes "input s bad-magic\n"))) line_is refl

pub neither : captured_in (codes "n") (codes "b1") (codes "s") no_text rows
    ≡ Err (faulty_with (codes "input n not-toml\n"))
neither = captured_by (codes "b1") (codes "s") no_text rows (Err (faulty_with (codes "input n not-toml\n")))
    (Err (faulty_with (codes "input n not-toml\n"))) no_network refl

runs_mixed : IsRunIn (Mixed 9) line (one_release 1522) (one_journey 1522 12336000)
runs_mixed = record {
  by_order = run_by (key_of (Mixed 9)) (wait_of (Mixed 9)) line (one_journey 1522 12336000) refl refl refl;
  exactly = refl;
}

counts_are : codes "records 1 unidentified 0 oversize 0\n" ≡ counts_text counted
unfolding digits
counts_are = refl

pub replays : (file : List ℕ) → IsCaptureAnswer (codes "n") (codes "s1") file (Mixed 9) network captured
    (done_with (departures ++ codes "records 1 unidentified 0 oversize 0\n"))
replays file =
    of_declared (IsOneOf (IsCaptured (Mixed 9))) (captured_in (codes "n") (codes "s1") file network captured)
    (Ok (record { network = line; traffic = counted }))
    (done_with (departures ++ codes "records 1 unidentified 0 oversize 0\n")) (captured_is file) (
      refl,
      (
        one_journey 1522 12336000,
        record {
          is_run = runs_mixed;
          written = ap (λ (text : List ℕ). departures ++ text) counts_are
              ∙ ap (λ (text : List ℕ). text ++ counts_text counted) departures_are;
        },
      ),
    )

has_no_station : IsCaptureAnswer (codes "n") (codes "b1") (codes "s") Early network rows
    (refused_with (codes "refused station b1\n"))
has_no_station = of_declared (IsOneOf (IsCaptured Early))
    (captured_in (codes "n") (codes "b1") (codes "s") network rows)
    (Err (refused_with (codes "refused station b1\n"))) (refused_with (codes "refused station b1\n")) no_station refl

has_no_capture : IsCaptureAnswer (codes "n") (codes "s1") (codes "s") Early network rows
    (faulty_with (codes "input s bad-magic\n"))
has_no_capture = of_declared (IsOneOf (IsCaptured Early))
    (captured_in (codes "n") (codes "s1") (codes "s") network rows)
    (Err (faulty_with (codes "input s bad-magic\n"))) (faulty_with (codes "input s bad-magic\n")) no_capture refl

has_no_network : IsCaptureAnswer (codes "n") (codes "b1") (codes "s") Early no_text rows
    (faulty_with (codes "input n not-toml\n"))
has_no_network = of_declared (IsOneOf (IsCaptured Early))
    (captured_in (codes "n") (codes "b1") (codes "s") no_text rows)
    (Err (faulty_with (codes "input n not-toml\n"))) (faulty_with (codes "input n not-toml\n")) neither refl

pub capture_is_answered : CaptureIsAnswered
capture_is_answered = record {
  done = record {
    is_told = two_told (told network [] captured) (codes "n") (codes "s") refl refl;
    answers = replays (codes "s");
  };
  refused = record {
    is_told = two_told (told network [] rows) (codes "n") (codes "s") refl refl;
    answers = has_no_station;
  };
  faulty = record {
    is_told = two_told (told network [] rows) (codes "n") (codes "s") refl refl;
    answers = has_no_capture;
  };
  both_faulty = record {
    is_told = two_told (told no_text [] rows) (codes "n") (codes "s") refl refl;
    answers = has_no_network;
  };
}

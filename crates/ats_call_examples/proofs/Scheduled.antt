use Rattle.std.proofs.Common.{◌≡◌, ℕ, List, refl}
use Rattle.std.specs.Prelude.{codes, Result, Ok, Err}
use Rattle.std.specs.Fmt.{digits}
use Rattle.csv.specs.Machine.{next_record}
use Rattle.csv.specs.Reading.{records_from, strip_bom}
use Rattle.ats_csv.specs.Reading.{records_of, same_fields}
use Rattle.ats_network.specs.Network.{DeclaredNetwork}
use Rattle.ats_num.specs.Failure.{◌>>=◌}
use Rattle.ats_schedule.specs.Reading.{header, release_after}
use Rattle.ats_command_input.specs.Answer.{Answer}
use Rattle.ats_command_input.specs.Input.{network_in, releases_in}
use Rattle.ats_command_due.specs.Replayed.{Scheduled, scheduled_in}
use Rattle.ats_call_examples.specs.Files.{faulty_with, long_schedule, network, no_text, rows, schedule}
use Rattle.ats_call_examples.proofs.Line.{answered, line, line_is, no_network, one_release}

-- What the schedules of the calls declare: what the network's file declares, and then by computation.

-- what is to be run of this network, by the bytes of a schedule
abbrev scheduled_of : List ℕ → DeclaredNetwork → Result Scheduled Answer
scheduled_of bytes over =
    releases_in over (codes "s") bytes >>= λ releases. Ok (record { network = over; releases = releases })

-- by what the network's file declares
pub scheduled_by : (net bytes : List ℕ) (declared : Result DeclaredNetwork Answer) (due : Result Scheduled Answer)
    → network_in (codes "n") net ≡ declared → (declared >>= scheduled_of bytes) ≡ due
    → scheduled_in (codes "n") (codes "s") net bytes ≡ due
unfolding scheduled_in
scheduled_by net bytes declared due is h =
    answered (network_in (codes "n") net) (scheduled_of bytes) (λ (r : Result Scheduled Answer). r ≡ due) declared is h

-- a frame of so many octets
abbrev pub scheduled : ℕ → Scheduled
scheduled octets = record { network = line; releases = one_release octets }

pub schedule_is : scheduled_in (codes "n") (codes "s") network schedule ≡ Ok (scheduled 1522)
unfolding releases_in next_record records_from strip_bom records_of same_fields header release_after
schedule_is = scheduled_by network schedule (Ok line) (Ok (scheduled 1522)) line_is refl

pub long_schedule_is : scheduled_in (codes "n") (codes "s") network long_schedule ≡ Ok (scheduled 1523)
unfolding releases_in next_record records_from strip_bom records_of same_fields header release_after
long_schedule_is = scheduled_by network long_schedule (Ok line) (Ok (scheduled 1523)) line_is refl

pub no_schedule : scheduled_in (codes "n") (codes "s") network rows ≡ Err (faulty_with (codes "input s bad-row 1\n"))
unfolding digits releases_in next_record records_from strip_bom records_of same_fields header
no_schedule = scheduled_by network rows (Ok line) (Err (faulty_with (codes "input s bad-row 1\n"))) line_is refl

pub neither : scheduled_in (codes "n") (codes "s") no_text rows ≡ Err (faulty_with (codes "input n not-toml\n"))
neither = scheduled_by no_text rows (Err (faulty_with (codes "input n not-toml\n")))
    (Err (faulty_with (codes "input n not-toml\n"))) no_network refl

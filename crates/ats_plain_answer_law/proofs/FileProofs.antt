use Rattle.std.proofs.Common.{◌≡◌, ℕ, ◌<◌, ◌≤◌, Bool, List, length, ap, ◌∙◌}
use Rattle.std.specs.Prelude.{codes, Result, Ok, Err, if◌then◌else◌}
use Rattle.std.proofs.lemmas.Bool.{le-ltb, lt-ltb}
use Rattle.ats_num.specs.Failure.{◌>>=◌}
use Rattle.ats_network.specs.Network.{DeclaredNetwork}
use Rattle.ats_shape.specs.FaultText as shape
use Rattle.ats_shape.specs.Reading.{shape_of}
use Rattle.ats_network_file.specs.FaultText as network
use Rattle.ats_network_file.specs.Reading.{network_of}
use Rattle.ats_certificate_file.specs.FaultText as certificate
use Rattle.ats_certificate_file.specs.Reading.{rows_of}
use Rattle.ats_schedule.specs.FaultText as schedule
use Rattle.ats_schedule.specs.Reading.{releases_of}
use Rattle.ats_request_file.specs.FaultText as request
use Rattle.ats_request_file.specs.Reading.{requests_of}
use Rattle.ats_pcap.specs.declared.record.Record.{Record}
use Rattle.ats_capture.specs.FaultText as capture
use Rattle.ats_capture.specs.Traffic.{Traffic, traffic_of}
use Rattle.ats_command_input.specs.Answer.{Answer}
use Rattle.ats_command_input.specs.Input.{bytes_in, declared_in, network_in, releases_in, requests_in, rows_in}
use Rattle.ats_command_input.specs.Input.{records_in, shape_in, traffic_in}
use Rattle.ats_plain_answer_law.specs.Files.{CapturesAreTaken, InputsAreTaken, NetworksAreTaken, RequestFilesAreTaken}
use Rattle.ats_plain_answer_law.specs.Files.{RowsAreTaken, SchedulesAreTaken, ShapesAreTaken}
use Rattle.ats_plain_answer_law.specs.Lines.{not_taken}

-- What is taken from each kind of file.

-- what is taken of bytes of which at most so many are, and which declare this
abbrev taken : {A F : Type 0} → ℕ → (F → List ℕ) → (List ℕ → Result A F) → List ℕ → List ℕ → Result A Answer
taken most words declared file bytes = bytes_in most file bytes >>= λ text. declared_in file words (declared text)

-- the same by whether they are more
abbrev by_test : {A F : Type 0} → (F → List ℕ) → (List ℕ → Result A F) → List ℕ → List ℕ → Bool → Result A Answer
by_test words declared file bytes more =
    (if more then Err (not_taken file (codes "too-long")) else Ok bytes)
    >>= λ text. declared_in file words (declared text)

too_long : {A F : Type 0} (most : ℕ) (words : F → List ℕ) (declared : List ℕ → Result A F) (file bytes : List ℕ)
    → most < length bytes → taken most words declared file bytes ≡ Err (not_taken file (codes "too-long"))
too_long most words declared file bytes more =
    ap (by_test words declared file bytes) (lt-ltb most (length bytes) more)

-- of no more it is what they declare
fits : {A F : Type 0} (most : ℕ) (words : F → List ℕ) (declared : List ℕ → Result A F) (file bytes : List ℕ)
    (due : Result A F) → length bytes ≤ most → declared bytes ≡ due
    → taken most words declared file bytes ≡ declared_in file words due
fits most words declared file bytes due few is =
    ap (by_test words declared file bytes) (le-ltb most (length bytes) few) ∙ ap (declared_in file words) is

shapes : ShapesAreTaken
unfolding shape_in
shapes = record {
  too_long = λ file bytes more. too_long 16777216 shape.fault_text shape_of file bytes more;
  faulty = λ file bytes fault few is. fits 16777216 shape.fault_text shape_of file bytes (Err fault) few is;
  declared = λ file bytes found few is. fits 16777216 shape.fault_text shape_of file bytes (Ok found) few is;
}

networks : NetworksAreTaken
unfolding network_in
networks = record {
  too_long = λ file bytes more. too_long 16777216 network.fault_text network_of file bytes more;
  faulty = λ file bytes fault few is. fits 16777216 network.fault_text network_of file bytes (Err fault) few is;
  declared = λ file bytes found few is. fits 16777216 network.fault_text network_of file bytes (Ok found) few is;
}

rows : RowsAreTaken
unfolding rows_in
rows = record {
  too_long = λ topology file bytes more. too_long 16777216 certificate.fault_text (rows_of topology) file bytes more;
  faulty = λ topology file bytes fault few is.
      fits 16777216 certificate.fault_text (rows_of topology) file bytes (Err fault) few is;
  declared = λ topology file bytes found few is.
      fits 16777216 certificate.fault_text (rows_of topology) file bytes (Ok found) few is;
}

schedules : SchedulesAreTaken
unfolding releases_in
schedules = record {
  too_long = λ over file bytes more. too_long 33554432 schedule.fault_text (releases_of over) file bytes more;
  faulty = λ over file bytes fault few is.
      fits 33554432 schedule.fault_text (releases_of over) file bytes (Err fault) few is;
  declared = λ over file bytes found few is.
      fits 33554432 schedule.fault_text (releases_of over) file bytes (Ok found) few is;
}

asked : RequestFilesAreTaken
unfolding requests_in
asked = record {
  too_long = λ over file bytes more. too_long 16777216 request.fault_text (requests_of over) file bytes more;
  faulty = λ over file bytes fault few is.
      fits 16777216 request.fault_text (requests_of over) file bytes (Err fault) few is;
  declared = λ over file bytes found few is.
      fits 16777216 request.fault_text (requests_of over) file bytes (Ok found) few is;
}

-- the traffic of what is read
abbrev traffic_by : DeclaredNetwork → ℕ → List ℕ → Result (List Record) Answer → Result Traffic Answer
traffic_by over station file read =
    read >>= λ records. declared_in file capture.fault_text (traffic_of over station records)

captures : CapturesAreTaken
unfolding records_in traffic_in
captures = record {
  faulty = λ file bytes fault is. ap (declared_in file capture.records_fault_text) is;
  declared = λ file bytes records is. ap (declared_in file capture.records_fault_text) is;
  unread = λ over station file bytes due is. ap (traffic_by over station file) is;
}

pub inputs_are_taken : InputsAreTaken
inputs_are_taken = record {
  shapes = shapes;
  networks = networks;
  rows = rows;
  schedules = schedules;
  requests = asked;
  captures = captures;
}

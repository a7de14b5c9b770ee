-- What is told of each kind of file that does not declare what it should, and that a refusal is told otherwise.
use Rattle.std.proofs.Common.{◌≡◌, ◌⊎◌, ℕ, List, Option, Some, None, Result, Ok, Err, refl, inl, inr}
use Rattle.std.specs.Prelude.{IfErr}
use Rattle.std.specs.Option.{option_map}
use Rattle.ats_num.specs.Failure.{◌>>=◌, or_fault}
use Rattle.ats_topology.specs.Topology.{DeclaredTopology, station_named}
use Rattle.ats_streams.specs.Stream.{DeclaredStream}
use Rattle.ats_network.specs.Network.{DeclaredNetwork}
use Rattle.ats_port_names.specs.PortName.{port_named}
use Rattle.ats_network_file.specs.FaultText as network
use Rattle.ats_network_file.specs.Reading.{network_of}
use Rattle.ats_shape.specs.FaultText as shape
use Rattle.ats_shape.specs.Reading.{shape_of}
use Rattle.ats_certificate.specs.declared.row.Row.{Row}
use Rattle.ats_certificate_file.specs.FaultText as certificate
use Rattle.ats_certificate_file.specs.Reading.{rows_of}
use Rattle.ats_schedule.specs.FaultText as schedule
use Rattle.ats_schedule.specs.Reading.{releases_of}
use Rattle.ats_requests.specs.declared.request.Request.{Request}
use Rattle.ats_request_file.specs.FaultText as requests
use Rattle.ats_request_file.specs.Reading.{requests_of}
use Rattle.ats_pcap.specs.declared.record.Record.{Record}
use Rattle.ats_capture.specs.FaultText as capture
use Rattle.ats_capture.specs.Reading as file
use Rattle.ats_capture.specs.Traffic.{Traffic, traffic_of}
use Rattle.ats_capture.specs.declared.fault.JoinFault.{JoinFault}
use Rattle.ats_capture.specs.declared.fault.RecordsFault.{RecordsFault}
use Rattle.ats_certificate.specs.Used.{places_of}
use Rattle.ats_certificate_file.specs.Text.{certificate_text}
use Rattle.ats_tally.specs.Reason.{first_some}
use Rattle.ats_bound.specs.Least.{least_certificate}
use Rattle.ats_bound.specs.Reason.{overload, reason_of}
use Rattle.ats_checker.specs.Refusal.{refusal_of}
use Rattle.ats_explain_text.specs.Text.{explain_text}
use Rattle.ats_admission_text.specs.Text.{admission_text}
use Rattle.ats_verdict_text.specs.Text.{accepted_text, reason_text, refusal_text}
use Rattle.ats_gen.specs.Made.{gen_fault}
use Rattle.ats_gen.specs.declared.fault.GenFault.{GenFault}
use Rattle.ats_command_input.specs.Answer.{Answer}
use Rattle.ats_command_input.specs.Input.{declared_in, network_in, records_in, releases_in, requests_in, rows_in}
use Rattle.ats_command_input.specs.Input.{shape_in, traffic_in}
use Rattle.ats_command_input.specs.Port.{port_answer, port_in}
use Rattle.ats_command_input.specs.Station.{station_answer, station_in}
use Rattle.ats_command_input.specs.Stream.{stream_answer, stream_in, stream_named}
use Rattle.ats_command_due.specs.Generated.{made_for, network_unless}
use Rattle.ats_command_due.specs.Judged.{admission_judged, bound_judged, check_judged, explain_judged}
use Rattle.ats_command_due.specs.Witnessed.{witness_judged, witnessed}
use Rattle.ats_answer_law.specs.Faults.{NetworkFails, OneFails, ReleasesFail, RequestsFail, RowsFail}
use Rattle.ats_answer_law.specs.Faults.{ShapeFails, HasNoRecords, IsOverLimit}
use Rattle.ats_answer_law.proofs.Failing.{Tells, file_fails, judged_fails, refused_is_not}
use Rattle.ats_answer_law.proofs.Failing.{steps_fail, told_more}

pub shape_fails : (file bytes : List ℕ) → IfErr (shape_in file bytes) (Tells (ShapeFails file bytes))
unfolding shape_in
shape_fails file bytes = file_fails 16777216 file bytes shape.fault_text shape_of

pub network_fails : (net bytes : List ℕ) → IfErr (network_in net bytes) (Tells (NetworkFails net bytes))
unfolding network_in
network_fails net bytes = file_fails 16777216 net bytes network.fault_text network_of

pub rows_fail : (topology : DeclaredTopology) (file bytes : List ℕ)
    → IfErr (rows_in topology file bytes) (Tells (λ text. RowsFail file bytes text topology))
unfolding rows_in
rows_fail topology file bytes = file_fails 16777216 file bytes certificate.fault_text (rows_of topology)

pub releases_fail : (over : DeclaredNetwork) (file bytes : List ℕ)
    → IfErr (releases_in over file bytes) (Tells (λ text. ReleasesFail file bytes text over))
unfolding releases_in
releases_fail over file bytes = file_fails 33554432 file bytes schedule.fault_text (releases_of over)

pub requests_fail : (network : DeclaredNetwork) (file bytes : List ℕ)
    → IfErr (requests_in network file bytes) (Tells (λ text. RequestsFail file bytes text network))
unfolding requests_in
requests_fail network file bytes = file_fails 16777216 file bytes requests.fault_text (requests_of network)

-- a word that names no station is refused
pub station_refuses : (Fails : List ℕ → Type 0) (topology : DeclaredTopology) (word : List ℕ)
    → IfErr (station_in topology word) (Tells Fails)
unfolding station_in
station_refuses Fails topology word = either (station_named topology word)
  where
    either : (named : Option ℕ) → IfErr (or_fault (station_answer word) named) (Tells Fails)
    either None = λ input. absurd (refused_is_not input)
    either (Some place) = tt

-- so is one that names no port
pub port_refuses : (Fails : List ℕ → Type 0) (topology : DeclaredTopology) (word : List ℕ)
    → IfErr (port_in topology word) (Tells Fails)
unfolding port_in
port_refuses Fails topology word = either (port_named topology word)
  where
    either : (named : Option ℕ) → IfErr (or_fault (port_answer word) named) (Tells Fails)
    either None = λ input. absurd (refused_is_not input)
    either (Some place) = tt

-- or no stream
pub stream_refuses : (Fails : List ℕ → Type 0) (streams : List DeclaredStream) (word : List ℕ)
    → IfErr (stream_in streams word) (Tells Fails)
unfolding stream_in
stream_refuses Fails streams word = either (stream_named streams word)
  where
    either : (named : Option ℕ) → IfErr (or_fault (stream_answer word) named) (Tells Fails)
    either None = λ input. absurd (refused_is_not input)
    either (Some place) = tt

-- a capture, at the station with a place
abbrev pub RecordsFail : List ℕ → List ℕ → DeclaredNetwork → ℕ → List ℕ → Type 0
RecordsFail file bytes over place text =
    ((fault : RecordsFault) × HasNoRecords file bytes text fault)
    ⊎ ((records : List Record) × (fault : JoinFault) × IsOverLimit file bytes text over place records fault)

joined_fails : (over : DeclaredNetwork) (place : ℕ) (name bytes : List ℕ) (records : List Record)
    (joined : Result Traffic JoinFault) → file.records_in bytes ≡ Ok records → traffic_of over place records ≡ joined
    → IfErr (declared_in name capture.fault_text joined) (Tells (RecordsFail name bytes over place))
joined_fails over place name bytes records (Ok traffic) read is = tt
joined_fails over place name bytes records (Err fault) read is =
    λ input. inr (records, fault, record { read = read; first = is; written = refl })

read_fails : (over : DeclaredNetwork) (place : ℕ) (name bytes : List ℕ) (read : Result (List Record) RecordsFault)
    → file.records_in bytes ≡ read
    → IfErr (declared_in name capture.records_fault_text read
    >>= λ records. declared_in name capture.fault_text (traffic_of over place records))
    (Tells (RecordsFail name bytes over place))
read_fails over place name bytes (Ok records) is =
    joined_fails over place name bytes records (traffic_of over place records) is refl
read_fails over place name bytes (Err fault) is = λ input. inl (fault, record { first = is; written = refl })

pub traffic_fails : (over : DeclaredNetwork) (place : ℕ) (name bytes : List ℕ)
    → IfErr (traffic_in over place name bytes) (Tells (RecordsFail name bytes over place))
unfolding traffic_in records_in
traffic_fails over place name bytes = read_fails over place name bytes (file.records_in bytes) refl

-- none are made for a network
pub making_refuses : (Fails : List ℕ → Type 0) (seed count : ℕ) (over : DeclaredNetwork)
    → IfErr (made_for seed count over) (Tells Fails)
unfolding made_for
making_refuses Fails seed count over = either (gen_fault over seed count)
  where
    either : (fault : Option GenFault) → IfErr (network_unless over fault) (Tells Fails)
    either None = tt
    either (Some fault) = λ input. absurd (refused_is_not input)

-- nor is what is judged of what files declare
pub bound_refuses : (Fails : List ℕ → Type 0) (over : DeclaredNetwork) → IfErr (bound_judged over) (Tells Fails)
unfolding bound_judged
bound_refuses Fails over = judged_fails Fails (certificate_text over.topology (least_certificate over))
    (option_map (reason_text over.topology) (reason_of over))

pub explain_refuses : (Fails : List ℕ → Type 0) (over : DeclaredNetwork) → IfErr (explain_judged over) (Tells Fails)
unfolding explain_judged
explain_refuses Fails over = judged_fails Fails (explain_text over)
    (option_map (reason_text over.topology) (first_some (overload over) (places_of over)))

pub check_refuses : (Fails : List ℕ → Type 0) (over : DeclaredNetwork) (rows : List Row)
    → IfErr (check_judged over rows) (Tells Fails)
unfolding check_judged
check_refuses Fails over rows = judged_fails Fails (accepted_text over rows)
    (option_map (refusal_text over.topology) (refusal_of over rows))

pub admit_refuses : (Fails : List ℕ → Type 0) (over : DeclaredNetwork) (asked : List Request)
    → IfErr (admission_judged over asked) (Tells Fails)
unfolding admission_judged
admit_refuses Fails over asked = judged_fails Fails (admission_text over asked)
    (option_map (reason_text over.topology) (reason_of over))

pub witness_refuses : (Fails : List ℕ → Type 0) (over : DeclaredNetwork) (stream : ℕ)
    → IfErr (witness_judged over stream) (Tells Fails)
unfolding witness_judged
witness_refuses Fails over stream = judged_fails Fails (witnessed over stream)
    (option_map (reason_text over.topology) (reason_of over))

-- the first of two files, and then the second
pub either_fails : {A : Type 0} (net net_bytes : List ℕ) (Second : List ℕ → DeclaredNetwork → Type 0)
    (next : DeclaredNetwork → Result A Answer)
    → ((declared : DeclaredNetwork) → IfErr (next declared) (Tells (λ text. Second text declared)))
    → IfErr (network_in net net_bytes >>= next) (Tells (λ text. OneFails net net_bytes text (Second text)))
either_fails {A} net net_bytes Second next second =
    steps_fail Either (network_in net net_bytes) next
    (told_more (NetworkFails net net_bytes) Either (network_in net net_bytes) (λ text fails. inl fails)
    (network_fails net net_bytes))
    (λ declared is. told_more (λ text. Second text declared) Either (next declared)
    (λ text fails. inr (declared, is, fails)) (second declared))
  where
    Either : List ℕ → Type 0
    Either text = OneFails net net_bytes text (Second text)

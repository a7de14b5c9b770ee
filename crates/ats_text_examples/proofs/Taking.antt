use Rattle.std.proofs.Common.{◌≡◌, ℕ, ◌+◌, ◌<◌, ◌≤◌, Bool, true, false, cond, List, length, refl, sym, ap, ◌∙◌}
use Rattle.std.specs.Prelude.{◌==◌, codes, nat_lt, take, Result, Ok, Err, IfErr, if◌then◌else◌}
use Rattle.std.proofs.lemmas.Bool.{le-ltb, lt-ltb}
use Rattle.ats_num.specs.Failure.{◌>>=◌}
use Rattle.ats_network.specs.Network.{DeclaredNetwork}
use Rattle.ats_shape.specs.FaultText as shape
use Rattle.ats_shape.specs.Reading.{shape_of}
use Rattle.ats_network_file.specs.FaultText as network
use Rattle.ats_network_file.specs.Reading.{network_of}
use Rattle.ats_certificate_file.specs.FaultText as certificate
use Rattle.ats_certificate_file.specs.Reading.{rows_of}
use Rattle.ats_schedule.specs.FaultText as schedule
use Rattle.ats_schedule.specs.Reading.{releases_of}
use Rattle.ats_request_file.specs.FaultText as requests
use Rattle.ats_request_file.specs.Reading.{requests_of}
use Rattle.ats_topology.specs.Topology.{DeclaredTopology}
use Rattle.ats_pcap.specs.Capture.{Position, position_of, records_at, records_of}
use Rattle.ats_pcap.specs.FaultText as shown
use Rattle.ats_pcap.specs.declared.record.Record.{Record}
use Rattle.ats_pcap.specs.declared.fault.CaptureFault.{CaptureFault}
use Rattle.ats_pcap.specs.declared.fault.CaptureFault.TheVariants.{CutShort}
use Rattle.ats_capture.specs.FaultText.{records_fault_text}
use Rattle.ats_capture.specs.FaultText as traffic
use Rattle.ats_capture.specs.Reading as capture
use Rattle.ats_capture.specs.Traffic.{Traffic, traffic_of}
use Rattle.ats_capture.specs.declared.fault.RecordsFault.TheVariants.{TooLong}
use Rattle.ats_command_input.specs.Answer.{Answer, input_answer}
use Rattle.ats_command_input.specs.Input.{bytes_in, declared_in, shape_in, network_in, rows_in, releases_in}
use Rattle.ats_command_input.specs.Input.{requests_in, records_in, traffic_in}
use Rattle.ats_text_examples.specs.Taken.{IsTaken, CaptureIsTaken, TrafficIsTaken, FilesAreTaken, told_fault}
use Rattle.ats_text_examples.proofs.CutShorts.{IsNoCut, position_shows}

-- What is taken from files.

-- a file's bytes are judged by their number, and then by what they declare
taken_by : {A F : Type 0} (most : ℕ) (declared : List ℕ → Result A F) (words : F → List ℕ)
    (taken : List ℕ → List ℕ → Result A Answer)
    → ((file bytes : List ℕ)
    → taken file bytes ≡ (bytes_in most file bytes >>= λ text. declared_in file words (declared text)))
    → IsTaken most declared words taken
taken_by {A} most declared words taken same file bytes = record {
  value = λ x few e. same file bytes ∙ fits few ∙ ap (declared_in file words) e;
  fault = λ e few is. same file bytes ∙ fits few ∙ ap (declared_in file words) is;
  too_long = λ many. same file bytes ∙ ap step (lt-ltb most (length bytes) many);
}
  where
    step : Bool → Result A Answer
    step long = cond long (Err (input_answer file (codes "too-long"))) (Ok bytes)
        >>= λ text. declared_in file words (declared text)

    fits : length bytes ≤ most → step (nat_lt most (length bytes)) ≡ declared_in file words (declared bytes)
    fits few = ap step (le-ltb most (length bytes) few)

shapes : IsTaken 16777216 shape_of shape.fault_text shape_in
unfolding shape_in
shapes = taken_by 16777216 shape_of shape.fault_text shape_in (λ file bytes. refl)

networks : IsTaken 16777216 network_of network.fault_text network_in
unfolding network_in
networks = taken_by 16777216 network_of network.fault_text network_in (λ file bytes. refl)

certificates : (topology : DeclaredTopology)
    → IsTaken 16777216 (rows_of topology) certificate.fault_text (rows_in topology)
unfolding rows_in
certificates topology =
    taken_by 16777216 (rows_of topology) certificate.fault_text (rows_in topology) (λ file bytes. refl)

schedules : (over : DeclaredNetwork) → IsTaken 33554432 (releases_of over) schedule.fault_text (releases_in over)
unfolding releases_in
schedules over = taken_by 33554432 (releases_of over) schedule.fault_text (releases_in over) (λ file bytes. refl)

requested : (over : DeclaredNetwork) → IsTaken 16777216 (requests_of over) requests.fault_text (requests_in over)
unfolding requests_in
requested over = taken_by 16777216 (requests_of over) requests.fault_text (requests_in over) (λ file bytes. refl)

same_fault : {A : Type 0} (a b : CaptureFault) → ◌≡◌ {A = Result A CaptureFault} (Err a) (Err b) → a ≡ b
same_fault a b h = cc

-- what is told of the first of too many bytes
abbrev first_told : List ℕ → Result Position CaptureFault → Result (List Record) Answer
first_told file due = declared_in file records_fault_text (capture.of_file due >>= (λ _. Err TooLong))

long_and_whole : (file : List ℕ) (due : Result Position CaptureFault) (records : List Record)
    → (due >>= records_at) ≡ Ok records → first_told file due ≡ Err (told_fault file (codes "too-long"))
long_and_whole file (Ok end) records h = refl
long_and_whole file (Err e) records h = absurd cc

long_and_cut : (file : List ℕ) (due : Result Position CaptureFault) (n : ℕ) → IfErr due IsNoCut
    → (due >>= records_at) ≡ Err (CutShort n) → first_told file due ≡ Err (told_fault file (codes "too-long"))
long_and_cut file (Ok end) n shows h = refl
long_and_cut file (Err e) n shows h = absurd (shows n (same_fault e (CutShort n) h))

-- at its end a capture has no fault but to be cut short
end_is_cut : (p q : Bool) (records : List Record) (n : ℕ) (e : CaptureFault)
    → (if p then Err (CutShort 0) else if q then Ok records else Err (CutShort n)) ≡ Err e → IsNoCut e → ⊥
end_is_cut true q records n e h other = other 0 (sym (same_fault (CutShort 0) e h))
end_is_cut false true records n e h other = cc
end_is_cut false false records n e h other = other n (sym (same_fault (CutShort n) e h))

long_fault : (file : List ℕ) (due : Result Position CaptureFault) (e : CaptureFault) → IsNoCut e
    → (due >>= records_at) ≡ Err e → first_told file due ≡ Err (told_fault file (shown.fault_text e))
long_fault file (Ok end) e other h = absurd (end_is_cut (nat_lt (length end.header) 24) (end.there == 0) end.records
    (length end.records + 1) e h other)
long_fault file (Err fault) e other h =
    ap (λ (f : CaptureFault). first_told file (Err f)) (same_fault fault e h)

captures : (file bytes : List ℕ) → CaptureIsTaken file bytes
unfolding records_in capture.records_in
captures file bytes = record {
  value = λ records few e. fits few ∙ ap judged e;
  fault = λ fault few e. fits few ∙ ap judged e;
  long_fault = λ e other many is. goes_on many ∙ long_fault file front e other is;
  long_and_cut = λ n many is. goes_on many ∙ long_and_cut file front n (position_shows (take 268435456 bytes)) is;
  long_and_whole = λ records many is. goes_on many ∙ long_and_whole file front records is;
}
  where
    front : Result Position CaptureFault
    front = position_of (take 268435456 bytes)

    judged : Result (List Record) CaptureFault → Result (List Record) Answer
    judged due = declared_in file records_fault_text (capture.of_file due)

    step : Bool → Result (List Record) Answer
    step long = declared_in file records_fault_text (cond long (capture.of_file front >>= (λ _. Err TooLong))
        (capture.of_file (records_of bytes)))

    fits : length bytes ≤ 268435456 → step (nat_lt 268435456 (length bytes)) ≡ judged (records_of bytes)
    fits few = ap step (le-ltb 268435456 (length bytes) few)

    goes_on : 268435456 < length bytes → step (nat_lt 268435456 (length bytes)) ≡ first_told file front
    goes_on many = ap step (lt-ltb 268435456 (length bytes) many)

traffics : (over : DeclaredNetwork) (station : ℕ) (file bytes : List ℕ) (records : List Record)
    → TrafficIsTaken over station file bytes records
unfolding traffic_in
traffics over station file bytes records = record {
  value = λ come_to read e. ap step read ∙ ap (declared_in file traffic.fault_text) e;
  fault = λ fault read e. ap step read ∙ ap (declared_in file traffic.fault_text) e;
}
  where
    step : Result (List Record) Answer → Result Traffic Answer
    step read = read >>= λ records. declared_in file traffic.fault_text (traffic_of over station records)

pub files_are_taken : FilesAreTaken
files_are_taken = record {
  shapes = shapes;
  networks = networks;
  certificates = certificates;
  schedules = schedules;
  requested = requested;
  captures = captures;
  traffics = traffics;
}

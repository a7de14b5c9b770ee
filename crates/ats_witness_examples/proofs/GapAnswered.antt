use Rattle.std.proofs.Common.{◌≡◌, ℕ, List, [], ◌∷◌, None, refl, ap, ◌∙◌}
use Rattle.std.specs.Prelude.{codes, Result, Ok, Err}
use Rattle.std.specs.Fmt.{digits}
use Rattle.ats_num.specs.Failure.{◌>>=◌}
use Rattle.ats_network.specs.Network.{DeclaredNetwork, declared_network}
use Rattle.ats_network_file.specs.Reading.{network_of}
use Rattle.ats_network_file.specs.Senders.{all_added, alone, flow_added, placed, stream_added}
use Rattle.ats_network_file.specs.declared.senders.SenderTable.TheVariants.{Flow, Stream}
use Rattle.ats_network_file.specs.declared.fault.NetFault.{NetFault}
use Rattle.ats_network_table.specs.declared.format.Format.TheVariants.{One}
use Rattle.ats_network_toml.specs.Document as file
use Rattle.ats_network_toml.specs.Document.{ends}
use Rattle.ats_witness.specs.Found.{AreFound, FoundDelays, found_delays}
use Rattle.ats_witness_law.proofs.WorkedBursts.{found_delays_are_met}
use Rattle.ats_witness_law.specs.Worked.{release}
use Rattle.ats_witness_text.specs.Text.{found_text, hop_line, release_line, title_line, witness_line, witness_text}
use Rattle.ats_command_input.specs.Answer.{Answer}
use Rattle.ats_command_input.specs.Input.{network_in}
use Rattle.ats_command_input.specs.Stream.{stream_in}
use Rattle.ats_command_due.specs.Due.{IsWitnessAnswer}
use Rattle.ats_command_due.specs.Replayed.{IsOneOf}
use Rattle.ats_command_due.specs.Witnessed as due
use Rattle.ats_command_due.specs.Witnessed.{IsWitnessed, Witnessed, least_sum, witness_judged, witnessed_in}
use Rattle.ats_examples.proofs.NetworkTest.{valid_from_by}
use Rattle.ats_examples.specs.Networks.{line, line_and_flow}
use Rattle.ats_file_examples.proofs.Parsing.{parsed}
use Rattle.ats_file_examples.proofs.Steps.{at_flow, at_stream, document_is, flow_is, legs_is, network_is}
use Rattle.ats_file_examples.proofs.Steps.{one_leg, one_more, path_is}
use Rattle.ats_file_examples.proofs.Steps.{stream_is}
use Rattle.ats_call_examples.specs.Files.{done_with, refused_with, told}
use Rattle.ats_call_examples.proofs.Line.{answered, taken}
use Rattle.ats_call_examples.proofs.Telling.{of_declared, one_told}
use Rattle.ats_witness_examples.specs.Gap.{GapIsAnswered, flow_text, gap_text}

-- A call that finds delays of a stream behind a flow: what the file declares, and what is due.

-- its tables
abbrev entry : file.DeclaredStream
entry = record {
  name = codes "a";
  routes = ends (codes "s1") (codes "s2") ∷ [];
  classes = 6 ∷ [];
  rate_bps = 100000000;
  burst_bits = 12336;
  min_octets = 64;
  max_octets = 1522;
  deadline_ns = 1000000;
  identity = None;
}

abbrev flow_entry : file.DeclaredFlow
flow_entry = record { name = codes "f"; route = ends (codes "s1") (codes "s2"); max_octets = 1522 }

abbrev document : file.DeclaredDocument
document = record {
  format = One;
  stations = record { name = codes "s1" } ∷ record { name = codes "s2" } ∷ [];
  bridges =
      record {
        name = codes "b1";
        processing_min_ns = 1000;
        processing_max_ns = 1000;
        residence_ns = 1000000;
        clock_ppm = 0;
        clock_step_ps = 0;
      } ∷ [];
  links =
      record { a = codes "s1"; b = codes "b1"; mbps = 1000; propagation_ns = 500 }
      ∷ record { a = codes "b1"; b = codes "s2"; mbps = 1000; propagation_ns = 500 } ∷ [];
  streams = entry ∷ [];
  link_locals = [];
  flows = flow_entry ∷ [];
  link_local_flows = [];
}

abbrev no_senders : DeclaredNetwork
no_senders = declared_network line.topology [] []

streams_added : all_added (stream_added One) no_senders (placed alone Stream 1 document.streams) ≡ Ok line
streams_added = one_more (stream_added One) no_senders line (at_stream 1) entry []
    (stream_is One no_senders (at_stream 1) entry (one_leg (0 ∷ 2 ∷ [])) (Ok line)
    (legs_is One line.topology (at_stream 1) (ends (codes "s1") (codes "s2") ∷ []) (0 ∷ 2 ∷ []) refl refl
    (valid_from_by line.topology 0 (0 ∷ 2 ∷ []) refl)) refl)

flows_added : all_added (flow_added One) line (placed alone Flow 1 document.flows) ≡ Ok line_and_flow
flows_added = one_more (flow_added One) line line_and_flow (at_flow 1) flow_entry []
    (flow_is One line (at_flow 1) flow_entry (0 ∷ 2 ∷ []) (Ok line_and_flow)
    (path_is One line.topology (at_flow 1) (ends (codes "s1") (codes "s2")) (0 ∷ 2 ∷ []) refl refl
    (valid_from_by line.topology 0 (0 ∷ 2 ∷ []) refl)) refl)

flow_text_is : network_of flow_text ≡ Ok line_and_flow
unfolding parsed
flow_text_is = network_is flow_text document (Ok line_and_flow) (document_is flow_text (Ok document) refl refl)
    (ap (λ (s : Result DeclaredNetwork NetFault). s >>= λ streamed. all_added
    (flow_added One) streamed (placed alone Flow 1 document.flows))
    streams_added ∙ flows_added)

file_is : network_in (codes "n") flow_text ≡ Ok line_and_flow
unfolding network_in taken
file_is = ap taken flow_text_is

-- of which stream of this network, by its name
abbrev witnessed_of : List ℕ → DeclaredNetwork → Result Witnessed Answer
witnessed_of name over = stream_in over.streams name >>= λ stream. witness_judged over stream

-- by what the file declares
witnessed_by : (name : List ℕ) (judged : Result Witnessed Answer) → witnessed_of name line_and_flow ≡ judged
    → witnessed_in (codes "n") name flow_text ≡ judged
unfolding witnessed_in
witnessed_by name judged h = answered (network_in (codes "n") flow_text) (witnessed_of name)
    (λ (r : Result Witnessed Answer). r ≡ judged) (Ok line_and_flow) file_is h

stream_found : witnessed_in (codes "n") (codes "a") flow_text ≡ Ok (due.witnessed line_and_flow 0)
unfolding stream_in witness_judged
stream_found = witnessed_by (codes "a") (Ok (due.witnessed line_and_flow 0)) refl

no_stream : witnessed_in (codes "n") (codes "f") flow_text ≡ Err (refused_with (codes "refused stream f\n"))
unfolding stream_in
no_stream = witnessed_by (codes "f") (Err (refused_with (codes "refused stream f\n"))) refl

-- what is found of the stream
abbrev found : FoundDelays
found = found_delays (39007999 ∷ 39007999 ∷ []) 0 (release 0 1 ∷ release 1 0 ∷ [])

are_found : AreFound line_and_flow 0 0 found
are_found = record {
  each = (found_delays_are_met.line_behind, (found_delays_are_met.line_also, tt));
  first = found_delays_are_met.line_greatest;
  burst = found_delays_are_met.line_first;
}

written : gap_text ≡ witness_text line_and_flow 0 (found ∷ []) (least_sum line_and_flow 0)
unfolding digits witness_text found_text title_line hop_line release_line witness_line
written = refl

has_gap : IsWitnessAnswer (codes "n") (codes "a") flow_text (done_with gap_text)
has_gap = of_declared (IsOneOf IsWitnessed) (witnessed_in (codes "n") (codes "a") flow_text)
    (Ok (due.witnessed line_and_flow 0)) (done_with gap_text) stream_found
    (refl, (found ∷ [], record { are_found = (are_found, tt); written = written }))

has_no_stream : IsWitnessAnswer (codes "n") (codes "f") flow_text (refused_with (codes "refused stream f\n"))
has_no_stream = of_declared (IsOneOf IsWitnessed) (witnessed_in (codes "n") (codes "f") flow_text)
    (Err (refused_with (codes "refused stream f\n"))) (refused_with (codes "refused stream f\n")) no_stream refl

pub gap_is_answered : GapIsAnswered
gap_is_answered = record {
  done = record { is_told = one_told (told flow_text [] []) (codes "n") refl; answers = has_gap };
  refused = record { is_told = one_told (told flow_text [] []) (codes "n") refl; answers = has_no_stream };
}

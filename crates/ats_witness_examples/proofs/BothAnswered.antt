use Rattle.std.proofs.Common.{◌≡◌, ℕ, List, [], ◌∷◌, None, refl, ap, ◌∙◌}
use Rattle.std.specs.Prelude.{codes, Result, Ok}
use Rattle.std.specs.Fmt.{digits}
use Rattle.std.specs.List.{All}
use Rattle.std.proofs.lemmas.List.Elements.{All-cons, All-nil}
use Rattle.ats_num.specs.Failure.{◌>>=◌}
use Rattle.ats_network.specs.Network.{DeclaredNetwork, long_network}
use Rattle.ats_network.specs.Path.{IsValidPath}
use Rattle.ats_route_tree.specs.Legs.{DeclaredLegs}
use Rattle.ats_network_file.specs.Reading.{network_of}
use Rattle.ats_network_file.specs.Senders.{all_added, alone, flow_added, placed, stream_added}
use Rattle.ats_network_file.specs.declared.senders.SenderTable.TheVariants.{Flow, Stream}
use Rattle.ats_network_file.specs.declared.fault.NetFault.{NetFault}
use Rattle.ats_network_file.proofs.LegsFound.{legs_are}
use Rattle.ats_network_table.specs.declared.format.Format.TheVariants.{Three}
use Rattle.ats_network_toml.specs.Document as file
use Rattle.ats_network_toml.specs.Document.{ends}
use Rattle.ats_witness.specs.Found.{FoundDelays, found_delays}
use Rattle.ats_witness_law.proofs.WorkedBursts.{each_listener_is_found}
use Rattle.ats_witness_law.specs.Worked.{release}
use Rattle.ats_witness_text.specs.Text.{found_text, hop_line, release_line, title_line, witness_line, witness_text}
use Rattle.ats_command_input.specs.Answer.{Answer}
use Rattle.ats_command_input.specs.Input.{network_in}
use Rattle.ats_command_input.specs.Stream.{stream_in}
use Rattle.ats_command_due.specs.Due.{IsWitnessAnswer}
use Rattle.ats_command_due.specs.Replayed.{IsOneOf}
use Rattle.ats_command_due.specs.Witnessed as due
use Rattle.ats_command_due.specs.Witnessed.{IsWitnessed, Witnessed, least_sum, witness_judged, witnessed_in}
use Rattle.ats_examples.proofs.NetworkTest.{valid_from_by}
use Rattle.ats_tree_examples.specs.Networks.{split, split_and_flow, split_topology}
use Rattle.ats_file_examples.proofs.Parsing.{parsed}
use Rattle.ats_file_examples.proofs.Steps.{at_flow, at_stream, document_is, flow_is, network_is, one_more}
use Rattle.ats_file_examples.proofs.Steps.{path_is, stream_is}
use Rattle.ats_call_examples.specs.Files.{done_with, told}
use Rattle.ats_call_examples.proofs.Line.{answered, taken}
use Rattle.ats_call_examples.proofs.Telling.{of_declared, one_told}
use Rattle.ats_witness_examples.specs.Both.{BothAreAnswered, both_text, to_both_text}

-- A call that finds delays of a stream with two listeners: what the file declares, and what is due.

-- its tables
abbrev routes : List file.DeclaredRoute
routes = ends (codes "s1") (codes "s2") ∷ ends (codes "s1") (codes "s3") ∷ []

abbrev entry : file.DeclaredStream
entry = record {
  name = codes "a";
  routes = routes;
  classes = 6 ∷ [];
  rate_bps = 100000000;
  burst_bits = 12336;
  min_octets = 64;
  max_octets = 1522;
  deadline_ns = 1000000;
  identity = None;
}

abbrev flow_entry : file.DeclaredFlow
flow_entry = record { name = codes "f"; route = ends (codes "s3") (codes "s2"); max_octets = 1522 }

abbrev document : file.DeclaredDocument
document = record {
  format = Three;
  stations = record { name = codes "s1" } ∷ record { name = codes "s2" } ∷ record { name = codes "s3" } ∷ [];
  bridges =
      record {
        name = codes "b1";
        processing_min_ns = 1000;
        processing_max_ns = 1000;
        residence_ns = 1000000;
        clock_ppm = 0;
        clock_step_ps = 0;
      } ∷ [];
  links =
      record { a = codes "s1"; b = codes "b1"; mbps = 1000; propagation_ns = 500 }
      ∷ record { a = codes "b1"; b = codes "s2"; mbps = 1000; propagation_ns = 500 }
      ∷ record { a = codes "b1"; b = codes "s3"; mbps = 1000; propagation_ns = 500 } ∷ [];
  streams = entry ∷ [];
  link_locals = [];
  flows = flow_entry ∷ [];
  link_local_flows = [];
}

abbrev no_senders : DeclaredNetwork
no_senders = long_network split_topology [] []

-- the legs of the stream
abbrev legs : DeclaredLegs
legs = record { ports = 0 ∷ 2 ∷ 4 ∷ []; branches = record { first = 2; leg = 0; hop = 1 } ∷ [] }

both_valid : All (IsValidPath split_topology) ((0 ∷ 2 ∷ []) ∷ (0 ∷ 4 ∷ []) ∷ [])
both_valid =
    let P : List ℕ → Type 0 = IsValidPath split_topology in
    All-cons P (0 ∷ 2 ∷ []) ((0 ∷ 4 ∷ []) ∷ []) (valid_from_by split_topology 0 (0 ∷ 2 ∷ []) refl)
    (All-cons P (0 ∷ 4 ∷ []) [] (valid_from_by split_topology 0 (0 ∷ 4 ∷ []) refl) (All-nil P))

streams_added : all_added (stream_added Three) no_senders (placed alone Stream 1 document.streams) ≡ Ok split
streams_added = one_more (stream_added Three) no_senders split (at_stream 1) entry []
    (stream_is Three no_senders (at_stream 1) entry legs (Ok split)
    (legs_are Three split_topology (at_stream 1) routes ((0 ∷ 2 ∷ []) ∷ (0 ∷ 4 ∷ []) ∷ []) legs refl both_valid refl
    refl) refl)

flows_added : all_added (flow_added Three) split (placed alone Flow 1 document.flows) ≡ Ok split_and_flow
flows_added = one_more (flow_added Three) split split_and_flow (at_flow 1) flow_entry []
    (flow_is Three split (at_flow 1) flow_entry (5 ∷ 2 ∷ []) (Ok split_and_flow)
    (path_is Three split_topology (at_flow 1) (ends (codes "s3") (codes "s2")) (5 ∷ 2 ∷ []) refl refl
    (valid_from_by split_topology 2 (5 ∷ 2 ∷ []) refl)) refl)

both_text_is : network_of both_text ≡ Ok split_and_flow
unfolding parsed
both_text_is = network_is both_text document (Ok split_and_flow) (document_is both_text (Ok document) refl refl)
    (ap (λ (s : Result DeclaredNetwork NetFault). s >>= λ streamed. all_added
    (flow_added Three) streamed (placed alone Flow 1 document.flows))
    streams_added ∙ flows_added)

file_is : network_in (codes "n") both_text ≡ Ok split_and_flow
unfolding network_in taken
file_is = ap taken both_text_is

stream_found : witnessed_in (codes "n") (codes "a") both_text ≡ Ok (due.witnessed split_and_flow 0)
unfolding witnessed_in stream_in witness_judged
stream_found = answered (network_in (codes "n") both_text)
    (λ (over : DeclaredNetwork). stream_in over.streams (codes "a") >>= λ stream. witness_judged over stream)
    (λ (r : Result Witnessed Answer). r ≡ Ok (due.witnessed split_and_flow 0)) (Ok split_and_flow) file_is refl

-- what is found of the stream for each listener
abbrev first : FoundDelays
first = found_delays (26672000 ∷ 39007999 ∷ []) 1 (release 0 1 ∷ release 1 0 ∷ [])

abbrev second : FoundDelays
second = found_delays (26672000 ∷ 26672000 ∷ []) 0 (release 1 0 ∷ [])

written : to_both_text ≡ witness_text split_and_flow 0 (first ∷ second ∷ []) (least_sum split_and_flow 0)
unfolding digits witness_text found_text title_line hop_line release_line witness_line
written = refl

has_both : IsWitnessAnswer (codes "n") (codes "a") both_text (done_with to_both_text)
has_both = of_declared (IsOneOf IsWitnessed) (witnessed_in (codes "n") (codes "a") both_text)
    (Ok (due.witnessed split_and_flow 0)) (done_with to_both_text) stream_found (
      refl,
      (
        first ∷ second ∷ [],
        record {
          are_found = (each_listener_is_found.first, (each_listener_is_found.second, tt));
          written = written;
        },
      ),
    )

pub both_are_answered : BothAreAnswered
both_are_answered = record {
  done = record { is_told = one_told (told both_text [] []) (codes "n") refl; answers = has_both };
}

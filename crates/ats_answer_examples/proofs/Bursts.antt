use Rattle.std.proofs.Common.{◌≡◌, ℕ, List, [], ◌∷◌, None, refl, ap}
use Rattle.std.specs.Prelude.{codes, Result, Ok}
use Rattle.ats_num.specs.Failure.{◌>>=◌, unless}
use Rattle.ats_topology.specs.Topology.{topology_of}
use Rattle.ats_streams.specs.Stream.{declared_stream}
use Rattle.ats_network.specs.Network.{DeclaredNetwork, declared_network}
use Rattle.ats_network.specs.Pushes.{stream_push_fault, with_stream}
use Rattle.ats_network_file.specs.FaultText as network_file
use Rattle.ats_network_file.specs.Reading.{network_of}
use Rattle.ats_network_file.specs.Senders.{all_added, flow_added, refusal_of, stream_added, stream_made, stream_over}
use Rattle.ats_network_file.specs.declared.fault.NetFault.{NetFault}
use Rattle.ats_network_table.specs.declared.format.Format.TheVariants.{One}
use Rattle.ats_network_toml.specs.Document as file
use Rattle.ats_network_toml.specs.Document.{ends}
use Rattle.ats_network_toml.specs.Reading.{document_of}
use Rattle.ats_command_input.specs.Answer.{Answer}
use Rattle.ats_command_input.specs.Input.{declared_in, network_in}
use Rattle.ats_examples.proofs.NetworkTest.{valid_from_by}
use Rattle.ats_examples.specs.Networks.{line_links, line_nodes}
use Rattle.ats_file_examples.proofs.Parsing.{parsed}
use Rattle.ats_file_examples.proofs.Steps.{at_stream, document_is, legs_is, network_is, one_leg, one_more, stream_is}
use Rattle.ats_answer_examples.specs.Regulated.{bursts, late_bursts}

-- What the network files of the calls declare: their tables by computation, and then their stream.

-- the line, whose stream has a burst of two frames and this deadline
abbrev pub line_until : ℕ → DeclaredNetwork
line_until deadline = declared_network (topology_of line_nodes line_links)
    (declared_stream (codes "a") (0 ∷ 2 ∷ []) (6 ∷ 6 ∷ []) 100000000 24672 64 1522 deadline None ∷ []) []

-- the tables of its file
abbrev entry_until : ℕ → file.DeclaredStream
entry_until deadline = record {
  name = codes "a";
  routes = ends (codes "s1") (codes "s2") ∷ [];
  classes = 6 ∷ [];
  rate_bps = 100000000;
  burst_bits = 24672;
  min_octets = 64;
  max_octets = 1522;
  deadline_ns = deadline;
  identity = None;
}

abbrev document_until : ℕ → file.DeclaredDocument
document_until deadline = record {
  format = One;
  stations = record { name = codes "s1" } ∷ record { name = codes "s2" } ∷ [];
  bridges =
      record {
        name = codes "b1";
        processing_min_ns = 1000;
        processing_max_ns = 1000;
        residence_ns = 1000000;
        clock_ppm = 0;
        clock_step_ps = 0;
      } ∷ [];
  links =
      record { a = codes "s1"; b = codes "b1"; mbps = 1000; propagation_ns = 500 }
      ∷ record { a = codes "b1"; b = codes "s2"; mbps = 1000; propagation_ns = 500 } ∷ [];
  streams = entry_until deadline ∷ [];
  link_locals = [];
  flows = [];
  link_local_flows = [];
}

abbrev empty : DeclaredNetwork
empty = declared_network (topology_of line_nodes line_links) [] []

-- the network with the stream of such an entry, where it is added
abbrev with_entry : ℕ → Result DeclaredNetwork NetFault
with_entry deadline =
    stream_made empty.topology 16 (at_stream 1) (entry_until deadline)
    (stream_over (one_leg (0 ∷ 2 ∷ [])) (entry_until deadline))
    >>= λ stream. unless (refusal_of (at_stream 1)) (stream_push_fault empty stream) (with_stream empty stream)

text_is : (text : List ℕ) (deadline : ℕ) → document_of text ≡ Ok (document_until deadline)
    → with_entry deadline ≡ Ok (line_until deadline) → network_of text ≡ Ok (line_until deadline)
text_is text deadline tables made =
    network_is text (document_until deadline) (Ok (line_until deadline)) tables
    (ap (λ (s : Result DeclaredNetwork NetFault). s >>= λ streamed. all_added (flow_added One) streamed [])
    (one_more (stream_added One) empty (line_until deadline) (at_stream 1) (entry_until deadline) []
    (stream_is One empty (at_stream 1) (entry_until deadline) (one_leg (0 ∷ 2 ∷ [])) (Ok (line_until deadline))
    (legs_is One empty.topology (at_stream 1) (ends (codes "s1") (codes "s2") ∷ []) (0 ∷ 2 ∷ []) refl refl
    (valid_from_by empty.topology 0 (0 ∷ 2 ∷ []) refl)) made)))

-- the files of both networks
bursts_text_is : network_of bursts ≡ Ok (line_until 26672)
unfolding parsed
bursts_text_is = text_is bursts 26672 (document_is bursts (Ok (document_until 26672)) refl refl) refl

late_text_is : network_of late_bursts ≡ Ok (line_until 26671)
unfolding parsed
late_text_is = text_is late_bursts 26671 (document_is late_bursts (Ok (document_until 26671)) refl refl) refl

-- so they are taken
taken : Result DeclaredNetwork NetFault → Result DeclaredNetwork Answer
taken = declared_in (codes "n") network_file.fault_text

pub bursts_is : network_in (codes "n") bursts ≡ Ok (line_until 26672)
unfolding network_in taken
bursts_is = ap taken bursts_text_is

pub late_is : network_in (codes "n") late_bursts ≡ Ok (line_until 26671)
unfolding network_in taken
late_is = ap taken late_text_is

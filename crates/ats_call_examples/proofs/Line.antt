use Rattle.std.proofs.Common.{◌≡◌, ℕ, ◌+◌, ◌*◌, List, [], ◌∷◌, Some, refl, sym, subst, ap}
use Rattle.std.specs.Prelude.{codes, Result, Ok, Err}
use Rattle.std.specs.Str.{chars, is_utf8}
use Rattle.ats_num.specs.Failure.{◌>>=◌, unless}
use Rattle.ats_topology.specs.Topology.{topology_of}
use Rattle.ats_topology.specs.declared.node.Kind.TheVariants.{Station}
use Rattle.ats_streams.specs.Stream.{declared_stream}
use Rattle.ats_network.specs.Network.{DeclaredNetwork, declared_network}
use Rattle.ats_network.specs.Pushes.{stream_push_fault, with_stream}
use Rattle.ats_network_file.specs.FaultText as network_file
use Rattle.ats_network_file.specs.Reading.{network_of}
use Rattle.ats_network_file.specs.Senders.{all_added, flow_added, refusal_of, stream_added, stream_made, stream_over}
use Rattle.ats_network_file.specs.declared.fault.NetFault.{NetFault}
use Rattle.ats_network_file.specs.declared.senders.SenderTable.TheVariants.{Stream}
use Rattle.ats_network_table.specs.declared.format.Format.TheVariants.{One}
use Rattle.ats_network_toml.specs.Document as file
use Rattle.ats_network_toml.specs.Document.{ends}
use Rattle.ats_network_toml.specs.Reading.{document_of}
use Rattle.ats_trace.specs.Journey.{Travel}
use Rattle.ats_trace.specs.declared.journey.Release.{Release}
use Rattle.ats_command_input.specs.Answer.{Answer}
use Rattle.ats_command_input.specs.Input.{declared_in, network_in}
use Rattle.ats_examples.proofs.NetworkTest.{valid_from_by}
use Rattle.ats_examples.specs.Networks.{line_links, line_nodes}
use Rattle.ats_examples.specs.Runs.{hop, sunk}
use Rattle.ats_file_examples.proofs.Parsing.{parsed}
use Rattle.ats_file_examples.proofs.Steps.{at_stream, document_is, legs_is, network_is, one_leg, one_more, stream_is}
use Rattle.ats_call_examples.specs.Files.{faulty_with, late, network, no_text, overloaded}
use Rattle.ats_call_examples.specs.Run.{still}

-- What the network files of the calls declare: their tables by computation, and then their stream.

-- the line, whose stream has this rate and this deadline
abbrev pub line_with : ℕ → ℕ → DeclaredNetwork
line_with rate deadline = declared_network (topology_of line_nodes line_links)
    (declared_stream (codes "a") (0 ∷ 2 ∷ []) (6 ∷ 6 ∷ []) rate 12336 64 1522 deadline (Some (1, 5)) ∷ []) []

abbrev pub line : DeclaredNetwork
line = line_with 100000000 26672

-- the tables of its file
abbrev entry_with : ℕ → ℕ → file.DeclaredStream
entry_with rate deadline = record {
  name = codes "a";
  routes = ends (codes "s1") (codes "s2") ∷ [];
  classes = 6 ∷ [];
  rate_bps = rate;
  burst_bits = 12336;
  min_octets = 64;
  max_octets = 1522;
  deadline_ns = deadline;
  identity = Some (1, 5);
}

abbrev document_with : ℕ → ℕ → file.DeclaredDocument
document_with rate deadline = record {
  format = One;
  stations = record { name = codes "s1" } ∷ record { name = codes "s2" } ∷ [];
  bridges =
      record {
        name = codes "b1";
        processing_min_ns = 1000;
        processing_max_ns = 1000;
        residence_ns = 1000000;
        clock_ppm = 0;
        clock_step_ps = 0;
      } ∷ [];
  links =
      record { a = codes "s1"; b = codes "b1"; mbps = 1000; propagation_ns = 500 }
      ∷ record { a = codes "b1"; b = codes "s2"; mbps = 1000; propagation_ns = 500 } ∷ [];
  streams = entry_with rate deadline ∷ [];
  link_locals = [];
  flows = [];
  link_local_flows = [];
}

abbrev empty : DeclaredNetwork
empty = declared_network line.topology [] []

-- the network with the stream of such an entry, where it is added
abbrev with_entry : ℕ → ℕ → Result DeclaredNetwork NetFault
with_entry rate deadline =
    stream_made empty.topology 16 (at_stream 1) (entry_with rate deadline)
    (stream_over (one_leg (0 ∷ 2 ∷ [])) (entry_with rate deadline))
    >>= λ stream. unless (refusal_of (at_stream 1)) (stream_push_fault empty stream) (with_stream empty stream)

text_is : (text : List ℕ) (rate deadline : ℕ) → document_of text ≡ Ok (document_with rate deadline)
    → with_entry rate deadline ≡ Ok (line_with rate deadline) → network_of text ≡ Ok (line_with rate deadline)
text_is text rate deadline tables made =
    network_is text (document_with rate deadline) (Ok (line_with rate deadline)) tables
    (ap (λ (s : Result DeclaredNetwork NetFault). s >>= λ streamed. all_added (flow_added One) streamed [])
    (one_more (stream_added One) empty (line_with rate deadline) (at_stream 1) (entry_with rate deadline) []
    (stream_is One empty (at_stream 1) (entry_with rate deadline) (one_leg (0 ∷ 2 ∷ [])) (Ok (line_with rate deadline))
    (legs_is One line.topology (at_stream 1) (ends (codes "s1") (codes "s2") ∷ []) (0 ∷ 2 ∷ []) refl refl
    (valid_from_by line.topology 0 (0 ∷ 2 ∷ []) refl)) made)))

-- the files of the three networks
network_text_is : network_of network ≡ Ok line
unfolding parsed
network_text_is = text_is network 100000000 26672
    (document_is network (Ok (document_with 100000000 26672)) refl refl) refl

late_text_is : network_of late ≡ Ok (line_with 100000000 26671)
unfolding parsed
late_text_is = text_is late 100000000 26671 (document_is late (Ok (document_with 100000000 26671)) refl refl) refl

overloaded_text_is : network_of overloaded ≡ Ok (line_with 2000000000 26672)
unfolding parsed
overloaded_text_is = text_is overloaded 2000000000 26672
    (document_is overloaded (Ok (document_with 2000000000 26672)) refl refl) refl

-- and of the one without a stream
abbrev pub still_network : DeclaredNetwork
still_network = declared_network
    (topology_of (record { name = codes "s1"; kind = Station } ∷ record { name = codes "s2"; kind = Station } ∷ [])
    (record { a = codes "s1"; b = codes "s2"; mbps = 1000; propagation_ns = 500 } ∷ []))
    [] []

abbrev still_document : file.DeclaredDocument
still_document = record {
  format = One;
  stations = record { name = codes "s1" } ∷ record { name = codes "s2" } ∷ [];
  bridges = [];
  links = record { a = codes "s1"; b = codes "s2"; mbps = 1000; propagation_ns = 500 } ∷ [];
  streams = [];
  link_locals = [];
  flows = [];
  link_local_flows = [];
}

still_text_is : network_of still ≡ Ok still_network
unfolding parsed
still_text_is = network_is still still_document (Ok still_network)
    (document_is still (Ok still_document) refl refl) refl

-- so they are taken
unfoldable pub taken : Result DeclaredNetwork NetFault → Result DeclaredNetwork Answer
taken = declared_in (codes "n") network_file.fault_text

pub line_is : network_in (codes "n") network ≡ Ok line
unfolding network_in taken
line_is = ap taken network_text_is

pub late_is : network_in (codes "n") late ≡ Ok (line_with 100000000 26671)
unfolding network_in taken
late_is = ap taken late_text_is

pub overloaded_is : network_in (codes "n") overloaded ≡ Ok (line_with 2000000000 26672)
unfolding network_in taken
overloaded_is = ap taken overloaded_text_is

pub still_is : network_in (codes "n") still ≡ Ok still_network
unfolding network_in taken
still_is = ap taken still_text_is

pub no_network : network_in (codes "n") no_text ≡ Err (faulty_with (codes "input n not-toml\n"))
unfolding network_in is_utf8 chars
no_network = refl

-- an answer by what a network file declares, or by its fault
pub answered : {A B : Type 0} (over : Result A Answer) (step : A → Result B Answer) (Holds : Result B Answer → Type 0)
    (declared : Result A Answer) → over ≡ declared → Holds (declared >>= step) → Holds (over >>= step)
answered {A} over step Holds declared is h = subst (λ (r : Result A Answer). Holds (r >>= step)) (sym is) h

-- one frame of so many octets, which is released at 0 ps
abbrev pub one_release : ℕ → List Release
one_release octets = record { at = record { 0 = 0 }; sender = 0; octets = octets } ∷ []

-- it has the line to itself: it takes this time at each port
abbrev pub one_journey : ℕ → ℕ → List Travel
one_journey octets time =
    sunk 0 0 octets
    (hop 0 0 0 time ∷ hop (time + 1500000) (time + 1500000) (time + 1500000) (2 * time + 1500000) ∷ [])
    (2 * time + 2000000) ∷ []

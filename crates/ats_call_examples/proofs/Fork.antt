use Rattle.std.proofs.Common.{◌≡◌, ℕ, List, [], ◌∷◌, None, refl, ap, ◌∙◌}
use Rattle.std.specs.Prelude.{codes, Result, Ok}
use Rattle.ats_num.specs.Failure.{◌>>=◌}
use Rattle.ats_network.specs.Network.{DeclaredNetwork, declared_network}
use Rattle.ats_network_file.specs.Reading.{network_of}
use Rattle.ats_network_file.specs.Senders.{all_added, alone, flow_added, placed, stream_added}
use Rattle.ats_network_file.specs.declared.senders.SenderTable.TheVariants.{Stream}
use Rattle.ats_network_file.specs.declared.fault.NetFault.{NetFault}
use Rattle.ats_network_table.specs.declared.format.Format.TheVariants.{One}
use Rattle.ats_network_toml.specs.Document as file
use Rattle.ats_network_toml.specs.Document.{ends}
use Rattle.ats_command_input.specs.Input.{network_in}
use Rattle.ats_examples.proofs.NetworkTest.{valid_from_by}
use Rattle.ats_examples.specs.Networks.{fork, stream}
use Rattle.ats_file_examples.proofs.Parsing.{parsed}
use Rattle.ats_file_examples.proofs.Steps.{at_stream, document_is, legs_is, network_is, one_leg, one_more, stream_is}
use Rattle.ats_call_examples.specs.Files.{fork_text}
use Rattle.ats_call_examples.proofs.Line.{taken}

-- What the network file with two streams declares: its tables by computation, and then its streams.

-- the table of a stream, and all tables
abbrev entry : List ℕ → List ℕ → file.DeclaredStream
entry name from = record {
  name = name;
  routes = ends from (codes "s2") ∷ [];
  classes = 6 ∷ [];
  rate_bps = 100000000;
  burst_bits = 12336;
  min_octets = 64;
  max_octets = 1522;
  deadline_ns = 1000000;
  identity = None;
}

abbrev document : file.DeclaredDocument
document = record {
  format = One;
  stations = record { name = codes "s1" } ∷ record { name = codes "s2" } ∷ record { name = codes "s3" } ∷ [];
  bridges = record {
    name = codes "b1";
    processing_min_ns = 1000;
    processing_max_ns = 1000;
    residence_ns = 11664;
    clock_ppm = 0;
    clock_step_ps = 0;
  } ∷ [];
  links =
      record { a = codes "s1"; b = codes "b1"; mbps = 1000; propagation_ns = 500 }
      ∷ record { a = codes "b1"; b = codes "s2"; mbps = 1000; propagation_ns = 500 }
      ∷ record { a = codes "s3"; b = codes "b1"; mbps = 1000; propagation_ns = 500 } ∷ [];
  streams = entry (codes "a") (codes "s1") ∷ entry (codes "z") (codes "s3") ∷ [];
  link_locals = [];
  flows = [];
  link_local_flows = [];
}

-- the network without a stream, and with the first
abbrev no_streams : DeclaredNetwork
no_streams = declared_network fork.topology [] []

abbrev with_first : DeclaredNetwork
with_first = declared_network fork.topology (stream (codes "a") (0 ∷ 2 ∷ []) ∷ []) []

first_added : stream_added One no_streams (at_stream 1) (entry (codes "a") (codes "s1")) ≡ Ok with_first
first_added = stream_is One no_streams (at_stream 1) (entry (codes "a") (codes "s1")) (one_leg (0 ∷ 2 ∷ []))
    (Ok with_first)
    (legs_is One fork.topology (at_stream 1) (ends (codes "s1") (codes "s2") ∷ []) (0 ∷ 2 ∷ []) refl refl
    (valid_from_by fork.topology 0 (0 ∷ 2 ∷ []) refl)) refl

second_added : stream_added One with_first (at_stream 2) (entry (codes "z") (codes "s3")) ≡ Ok fork
second_added = stream_is One with_first (at_stream 2) (entry (codes "z") (codes "s3")) (one_leg (4 ∷ 2 ∷ [])) (Ok fork)
    (legs_is One fork.topology (at_stream 2) (ends (codes "s3") (codes "s2") ∷ []) (4 ∷ 2 ∷ []) refl refl
    (valid_from_by fork.topology 2 (4 ∷ 2 ∷ []) refl)) refl

streams_added : all_added (stream_added One) no_streams (placed alone Stream 1 document.streams) ≡ Ok fork
streams_added =
    one_more (stream_added One) no_streams with_first (at_stream 1) (entry (codes "a") (codes "s1"))
    ((at_stream 2, entry (codes "z") (codes "s3")) ∷ []) first_added
    ∙ one_more (stream_added One) with_first fork (at_stream 2) (entry (codes "z") (codes "s3")) [] second_added

fork_text_is : network_of fork_text ≡ Ok fork
unfolding parsed
fork_text_is = network_is fork_text document (Ok fork) (document_is fork_text (Ok document) refl refl)
    (ap (λ (s : Result DeclaredNetwork NetFault). s >>= λ streamed. all_added
    (flow_added One) streamed []) streams_added)

pub fork_is : network_in (codes "n") fork_text ≡ Ok fork
unfolding network_in taken
fork_is = ap taken fork_text_is

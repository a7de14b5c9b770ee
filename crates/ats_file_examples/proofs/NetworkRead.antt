use Rattle.std.proofs.Common.{◌≡◌, List, [], ◌++◌, Result, Ok, refl, ap, ◌∙◌}
use Rattle.ats_num.specs.Failure.{◌>>=◌}
use Rattle.ats_network.specs.Network.{DeclaredNetwork}
use Rattle.ats_network_table.specs.declared.format.Format.TheVariants.{Two}
use Rattle.ats_network_toml.specs.Document as file
use Rattle.ats_network_toml.specs.Reading.{document_of}
use Rattle.ats_network_file.specs.Reading.{network_in}
use Rattle.ats_network_file.specs.Senders.{all_added, alone, flow_added, placed, stream_added}
use Rattle.ats_network_file.specs.declared.senders.SenderTable.TheVariants.{Flow, Stream}
use Rattle.ats_network_file.specs.declared.fault.NetFault.{NetFault}
use Rattle.ats_file_examples.specs.Network.{NetworkIsRead, crowd, document, document_with, flows, streams}
use Rattle.ats_file_examples.specs.NetworkText.{network_text}
use Rattle.ats_file_examples.proofs.Parsing.{parsed}
use Rattle.ats_file_examples.proofs.Senders.{crowd_to, flows_added, streams_added}
use Rattle.ats_file_examples.proofs.Steps.{document_is, network_is}

-- The network file: its tables by computation, and then its senders step by step.

tables_are : document_of network_text ≡ Ok document
unfolding parsed
tables_are = document_is network_text (Ok document) refl refl

-- the senders behind all streams, and behind all flows
pub behind_streams : (rest : List file.DeclaredStream) (flows : List file.DeclaredFlow)
    → network_in (document_with (streams ++ rest) flows)
    ≡ (all_added (stream_added Two) (crowd_to 4 0) (placed alone Stream 5 rest ++ [])
    >>= λ streamed. all_added (flow_added Two) streamed (placed alone Flow 1 flows ++ []))
behind_streams rest flows =
    ap (λ (s : Result DeclaredNetwork NetFault). s
    >>= λ streamed. all_added (flow_added Two) streamed (placed alone Flow 1 flows ++ []))
    (streams_added (placed alone Stream 5 rest ++ []))

pub behind_flows : (rest : List file.DeclaredFlow)
    → network_in (document_with streams (flows ++ rest))
    ≡ all_added (flow_added Two) crowd (placed alone Flow 4 rest ++ [])
behind_flows rest = behind_streams [] (flows ++ rest) ∙ flows_added (placed alone Flow 4 rest ++ [])

pub network_is_read : NetworkIsRead
network_is_read = record {
  tables = tables_are;
  network = network_is network_text document (Ok crowd) tables_are (behind_flows []);
}

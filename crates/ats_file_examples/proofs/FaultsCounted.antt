use Rattle.std.proofs.Common.{◌≡◌, ℕ, List, [], ◌∷◌, ◌++◌, Some, None, Result, Ok, Err, refl, ap, ◌∙◌}
use Rattle.std.specs.Prelude.{codes}
use Rattle.ats_num.specs.Failure.{◌>>=◌}
use Rattle.ats_network.specs.Network.{DeclaredNetwork}
use Rattle.ats_topology.specs.declared.fault.TopologyFault.TheVariants.{LinkTwice, NodeTwice}
use Rattle.ats_network_table.specs.declared.format.Format.TheVariants.{Two}
use Rattle.ats_network_toml.specs.Document as file
use Rattle.ats_network_toml.specs.Document.{ends, path}
use Rattle.ats_network_file.specs.Reading.{network_in, network_of}
use Rattle.ats_network_file.specs.Senders.{all_added, flow_added, stream_added}
use Rattle.ats_network_file.specs.declared.fault.NetFault.{NetFault}
use Rattle.ats_network_file.specs.declared.fault.NetFault.TheVariants as fault
use Rattle.ats_network_file.specs.declared.senders.SenderTable.TheVariants.{Flow, Stream}
use Rattle.ats_examples.proofs.NetworkTest.{valid_from_by}
use Rattle.ats_file_examples.specs.Network.{FaultsAreCounted, crowd, document, document_with, flows, link, streams}
use Rattle.ats_file_examples.specs.NetworkText.{links_text, network_text, nodes_text, streams_text}
use Rattle.ats_file_examples.proofs.NetworkRead.{behind_flows, behind_streams}
use Rattle.ats_file_examples.proofs.Parsing.{parsed}
use Rattle.ats_file_examples.proofs.Senders.{crowd_to}
use Rattle.ats_file_examples.proofs.Steps.{at_flow, at_stream}
use Rattle.ats_file_examples.proofs.Steps.{document_is, legs_is, network_is, none_more, one_leg, stream_is}

-- Tables that do not fit to many others: their document by computation, and then their senders step by step.

-- a fifth station, and a seventh link
abbrev with_station : file.DeclaredDocument
with_station = record {
  format = Two;
  stations = document.stations ++ record { name = codes "s3" } ∷ [];
  bridges = document.bridges;
  links = [];
  streams = [];
  link_locals = [];
  flows = [];
  link_local_flows = [];
}

abbrev with_link : file.DeclaredDocument
with_link = record {
  format = Two;
  stations = document.stations;
  bridges = document.bridges;
  links = document.links ++ link (codes "b3") (codes "b2") 10 1 ∷ [];
  streams = [];
  link_locals = [];
  flows = [];
  link_local_flows = [];
}

abbrev station_text : List ℕ
station_text = nodes_text ++ codes "[[station]]\nname = \"s3\"\n"

abbrev link_text : List ℕ
link_text = nodes_text ++ links_text ++ codes "[[link]]\na = \"b3\"\nb = \"b2\"\nmbps = 10\npropagation_ns = 1\n"

station_is : network_of station_text ≡ Err (fault.Topology (NodeTwice 5))
unfolding parsed
station_is = network_is station_text with_station (Err (fault.Topology (NodeTwice 5)))
    (document_is station_text (Ok with_station) refl refl) refl

link_is : network_of link_text ≡ Err (fault.Topology (LinkTwice 7))
unfolding parsed
link_is = network_is link_text with_link (Err (fault.Topology (LinkTwice 7)))
    (document_is link_text (Ok with_link) refl refl) refl

-- a fifth stream, with the name of the fourth, and one with the identity of the third
abbrev fifth : file.DeclaredStream
fifth = record {
  name = codes "t";
  routes = ends (codes "s1") (codes "s2") ∷ [];
  classes = 1 ∷ [];
  rate_bps = 1;
  burst_bits = 672;
  min_octets = 64;
  max_octets = 64;
  deadline_ns = 1000000000;
  identity = None;
}

abbrev identified : file.DeclaredStream
identified = record {
  name = codes "w";
  routes = ends (codes "s1") (codes "s2") ∷ [];
  classes = 1 ∷ [];
  rate_bps = 1;
  burst_bits = 672;
  min_octets = 64;
  max_octets = 64;
  deadline_ns = 1000000000;
  identity = Some (0x0A1B2C3D4E5F, 703);
}

abbrev front : List ℕ
front = nodes_text ++ links_text ++ streams_text

abbrev fifth_text : List ℕ
fifth_text =
    front ++ codes "[[stream]]\nname = \"t\"\nfrom = \"s1\"\nto = \"s2\"\nclass = 1\nrate_bps = 1\nburst_bits = 672\n"
    ++ codes "min_octets = 64\nmax_octets = 64\n"

abbrev identified_text : List ℕ
identified_text =
    front ++ codes "[[stream]]\nname = \"w\"\nfrom = \"s1\"\nto = \"s2\"\nclass = 1\nrate_bps = 1\nburst_bits = 672\n"
    ++ codes "min_octets = 64\nmax_octets = 64\naddress = \"0A:1B:2C:3D:4E:5F\"\nvlan = 703\n"

-- it is not added
not_added : (entry : file.DeclaredStream) (why : NetFault)
    → stream_added Two (crowd_to 4 0) (at_stream 5) entry ≡ Err why
    → network_in (document_with (streams ++ entry ∷ []) []) ≡ Err why
not_added entry why is =
    behind_streams (entry ∷ []) []
    ∙ ap (λ (due : Result DeclaredNetwork NetFault). due >>= λ streamed. all_added (flow_added Two) streamed [])
    (none_more (stream_added Two) (crowd_to 4 0) (at_stream 5) entry [] why is)

fifth_not_added : stream_added Two (crowd_to 4 0) (at_stream 5) fifth ≡ Err (fault.SenderTwice Stream 5)
fifth_not_added = stream_is Two (crowd_to 4 0) (at_stream 5) fifth (one_leg (0 ∷ 6 ∷ 3 ∷ []))
    (Err (fault.SenderTwice Stream 5))
    (legs_is Two crowd.topology (at_stream 5) fifth.routes (0 ∷ 6 ∷ 3 ∷ []) refl refl
    (valid_from_by crowd.topology 0 (0 ∷ 6 ∷ 3 ∷ []) refl)) refl

identified_not_added : stream_added Two (crowd_to 4 0) (at_stream 5) identified ≡ Err (fault.IdentityTwice 5)
identified_not_added = stream_is Two (crowd_to 4 0) (at_stream 5) identified (one_leg (0 ∷ 6 ∷ 3 ∷ []))
    (Err (fault.IdentityTwice 5))
    (legs_is Two crowd.topology (at_stream 5) identified.routes (0 ∷ 6 ∷ 3 ∷ []) refl refl
    (valid_from_by crowd.topology 0 (0 ∷ 6 ∷ 3 ∷ []) refl)) refl

stream_not_read : network_of fifth_text ≡ Err (fault.SenderTwice Stream 5)
unfolding parsed
stream_not_read = network_is fifth_text (document_with (streams ++ fifth ∷ []) []) (Err (fault.SenderTwice Stream 5))
    (document_is fifth_text (Ok (document_with (streams ++ fifth ∷ []) [])) refl refl)
    (not_added fifth (fault.SenderTwice Stream 5) fifth_not_added)

identity_not_read : network_of identified_text ≡ Err (fault.IdentityTwice 5)
unfolding parsed
identity_not_read =
    network_is identified_text (document_with (streams ++ identified ∷ []) []) (Err (fault.IdentityTwice 5))
    (document_is identified_text (Ok (document_with (streams ++ identified ∷ []) [])) refl refl)
    (not_added identified (fault.IdentityTwice 5) identified_not_added)

-- a fourth flow, along nodes that no link joins
abbrev fourth : file.DeclaredFlow
fourth = record { name = codes "i"; route = path (codes "s1" ∷ codes "b2" ∷ []); max_octets = 64 }

abbrev fourth_text : List ℕ
fourth_text = network_text ++ codes "[[flow]]\nname = \"i\"\npath = [\"s1\", \"b2\"]\nmax_octets = 64\n"

flow_not_read : network_of fourth_text ≡ Err (fault.BadPath Flow 4)
unfolding parsed
flow_not_read =
    network_is fourth_text (document_with streams (flows ++ fourth ∷ [])) (Err (fault.BadPath Flow 4))
    (document_is fourth_text (Ok (document_with streams (flows ++ fourth ∷ []))) refl refl)
    (behind_flows (fourth ∷ []) ∙ none_more (flow_added Two) crowd (at_flow 4) fourth [] (fault.BadPath Flow 4) refl)

pub faults_are_counted : FaultsAreCounted
faults_are_counted = record {
  node = station_is;
  link = link_is;
  stream = stream_not_read;
  identity = identity_not_read;
  flow = flow_not_read;
}

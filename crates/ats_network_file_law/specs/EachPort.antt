use Rattle.std.specs.Prelude.{◌≡◌, ℕ, List, [], ◌∷◌, ◌++◌, length, map, drop, Ok, None, codes, decimal}
use Rattle.std.specs.List.{AllZip, flat_map, range_with_len}
use Rattle.ats_streams.specs.Flow.{DeclaredFlow}
use Rattle.ats_streams.specs.Stream.{DeclaredStream}
use Rattle.ats_network.specs.Network.{DeclaredNetwork}
use Rattle.ats_network_toml.specs.Document as file
use Rattle.ats_network_toml.specs.Reading.{document_of}
use Rattle.ats_network_file.specs.Reading.{network_of}

-- each entry with the number of each port: the first entry with 0, 1, and so on, then the second one with each, ..
abbrev pub at_each : {E : Type 0} → ℕ → List E → List (E × ℕ)
at_each ports entries = flat_map (λ e. map (λ port. (e, port)) (range_with_len 0 ports)) entries

-- the stream of a table for each port at the port with this number: it goes along this port alone
pub record IsStreamAt (at : file.DeclaredLinkLocal × ℕ) (stream : DeclaredStream) : Type 0 where
  pub name : stream.name ≡ at.0.name ++ codes "-" ++ decimal at.1
  pub ports : stream.ports ≡ at.1 ∷ []
  pub branches : stream.branches ≡ []
  pub classes : stream.classes ≡ at.0.class ∷ []
  pub rate : stream.rate ≡ at.0.rate_bps
  pub burst : stream.burst_bits ≡ at.0.burst_bits
  pub least : stream.min_octets ≡ at.0.min_octets
  pub greatest : stream.max_octets ≡ at.0.max_octets
  pub deadline : stream.deadline_ns ≡ at.0.deadline_ns
  pub identity : stream.identity ≡ None

-- and the flow
pub record IsFlowAt (at : file.DeclaredLinkLocalFlow × ℕ) (flow : DeclaredFlow) : Type 0 where
  pub name : flow.name ≡ at.0.name ++ codes "-" ++ decimal at.1
  pub path : flow.path ≡ at.1 ∷ []
  pub greatest : flow.max_octets ≡ at.0.max_octets

-- behind the streams that stand in a document, a network has for each table for each port and each port one stream, in
-- this order, and no other; and so it has flows
pub record HasEachPort (document : file.DeclaredDocument) (network : DeclaredNetwork) : Type 0 where
  pub streams : AllZip IsStreamAt (at_each (length network.topology.ports) document.link_locals)
      (drop (length document.streams) network.streams)
  pub flows : AllZip IsFlowAt (at_each (length network.topology.ports) document.link_local_flows)
      (drop (length document.flows) network.flows)

-- so does each network that a text declares by this document
abbrev pub EachPortHasItsSender : Type 0
EachPortHasItsSender = (text : List ℕ) (document : file.DeclaredDocument) (network : DeclaredNetwork)
    → document_of text ≡ Ok document → network_of text ≡ Ok network → HasEachPort document network

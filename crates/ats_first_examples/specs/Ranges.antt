use Rattle.std.specs.Prelude.{◌≡◌, [], ◌∷◌, ◌++◌, take, drop, codes, None, Ok, Err}
use Rattle.toml.specs.Data.{Data}
use Rattle.ats_network_table.specs.declared.format.Format.TheVariants.{Two}
use Rattle.ats_network_table.specs.declared.fault.DocumentFault.TheVariants.{WrongKind}
use Rattle.ats_network_table.specs.declared.key.Key.TheVariants as key
use Rattle.ats_network_table.specs.declared.table.Table.TheVariants as table
use Rattle.ats_network_toml.specs.Document.{path}
use Rattle.ats_network_toml.specs.Document as file
use Rattle.ats_first_examples.specs.Ports.{local_flow_of, local_of, number}
use Rattle.ats_first_examples.specs.Tables.{Values, a_name, bridge_of, bridge_right, flow_of, link_of}
use Rattle.ats_first_examples.specs.Tables.{link_right, members_of, stream_of, two_names}

-- Which numbers of a network file are of 32 bits, and which take more.

-- the least number that takes 33 bits
abbrev pub over : Data
over = number 4294967296

-- those of a bridge and of a link are of 32 bits. Refuses a reading of any whole numbers
pub record NodesAreShort : Type 0 where
  pub least : bridge_of Two (members_of (take 1 bridge_right ++ (key.ProcessingMinNs, over) ∷ drop 2 bridge_right))
      ≡ Err (WrongKind table.Bridge 3 key.ProcessingMinNs)
  pub greatest : bridge_of Two (members_of (take 2 bridge_right ++ (key.ProcessingMaxNs, over) ∷ drop 3 bridge_right))
      ≡ Err (WrongKind table.Bridge 3 key.ProcessingMaxNs)
  pub residence : bridge_of Two (members_of (take 3 bridge_right ++ (key.ResidenceNs, over) ∷ []))
      ≡ Err (WrongKind table.Bridge 3 key.ResidenceNs)
  pub rate : link_of (members_of (take 2 link_right ++ (key.Mbps, over) ∷ drop 3 link_right))
      ≡ Err (WrongKind table.Link 3 key.Mbps)
  pub time : link_of (members_of (take 3 link_right ++ (key.PropagationNs, over) ∷ []))
      ≡ Err (WrongKind table.Link 3 key.PropagationNs)

-- a stream with five such numbers and a class, in its table and as it is declared
abbrev pub great_stream : Values
great_stream =
    (key.Name, a_name) ∷ (key.Path, two_names) ∷ (key.Class, over) ∷ (key.RateBps, over) ∷ (key.BurstBits, over)
    ∷ (key.MinOctets, over) ∷ (key.MaxOctets, over) ∷ (key.DeadlineNs, over) ∷ []

abbrev pub great_declared : file.DeclaredStream
great_declared = record {
  name = codes "n";
  routes = path (codes "n" ∷ codes "n" ∷ []) ∷ [];
  classes = 4294967296 ∷ [];
  rate_bps = 4294967296;
  burst_bits = 4294967296;
  min_octets = 4294967296;
  max_octets = 4294967296;
  deadline_ns = 4294967296;
  identity = None;
}

-- the same for each port
abbrev pub great_local : Values
great_local =
    (key.Name, a_name) ∷ (key.Class, over) ∷ (key.RateBps, over) ∷ (key.BurstBits, over) ∷ (key.MinOctets, over)
    ∷ (key.MaxOctets, over) ∷ (key.DeadlineNs, over) ∷ []

abbrev pub local_declared : file.DeclaredLinkLocal
local_declared = record {
  name = codes "n";
  class = 4294967296;
  rate_bps = 4294967296;
  burst_bits = 4294967296;
  min_octets = 4294967296;
  max_octets = 4294967296;
  deadline_ns = 4294967296;
}

-- those of streams and flows take more, whatever the rules say of them later. Refuses a reading of 32 bits
pub record SendersAreLong : Type 0 where
  pub stream : stream_of (members_of great_stream) ≡ Ok great_declared
  pub flow : flow_of (members_of ((key.Name, a_name) ∷ (key.Path, two_names) ∷ (key.MaxOctets, over) ∷ []))
      ≡ Ok (record {
        name = codes "n";
        route = path (codes "n" ∷ codes "n" ∷ []);
        max_octets = 4294967296;
      })
  pub local : local_of (members_of great_local) ≡ Ok local_declared
  pub local_flow : local_flow_of (members_of ((key.Name, a_name) ∷ (key.MaxOctets, over) ∷ []))
      ≡ Ok (record { name = codes "n"; max_octets = 4294967296 })

pub record RangesAreRead : Type 0 where
  pub nodes : NodesAreShort
  pub senders : SendersAreLong

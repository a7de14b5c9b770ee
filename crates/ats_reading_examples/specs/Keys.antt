use Rattle.std.specs.Prelude.{◌≡◌, ℕ, ◌-◌, List, [], ◌∷◌, ◌++◌, length, take, drop, map, replicate, codes, pos, Result}
use Rattle.std.specs.Prelude.{Err}
use Rattle.std.specs.List.{flat_map}
use Rattle.toml.specs.Data.{Data, Members, string, integer, array, no_items, item, no_members, member}
use Rattle.ats_network_table.specs.Walk.{Entry}
use Rattle.ats_network_table.specs.Words.{key_text}
use Rattle.ats_network_table.specs.declared.format.Format.{Format}
use Rattle.ats_network_table.specs.declared.format.Format.TheVariants.{One, Two, Three}
use Rattle.ats_network_table.specs.declared.fault.DocumentFault.{DocumentFault}
use Rattle.ats_network_table.specs.declared.fault.DocumentFault.TheVariants.{Unknown}
use Rattle.ats_network_table.specs.declared.key.Key.{Key}
use Rattle.ats_network_table.specs.declared.key.Key.TheVariants as key
use Rattle.ats_network_table.specs.declared.table.Table.{Table}
use Rattle.ats_network_table.specs.declared.table.Table.TheVariants as table
use Rattle.ats_network_toml.specs.Document.{DeclaredDocument, DeclaredFlow, DeclaredLinkLocal, DeclaredLinkLocalFlow}
use Rattle.ats_network_toml.specs.Document.{DeclaredStream}
use Rattle.ats_network_toml.specs.Entries.{bridge_in, flow_in, link_in, link_local_flow_in, link_local_in, station_in}
use Rattle.ats_network_toml.specs.Entries.{stream_in}
use Rattle.ats_network_toml.specs.Reading.{document_in}
use Rattle.ats_network_toml.specs.declared.entries.BridgeEntry.{BridgeEntry}
use Rattle.ats_network_toml.specs.declared.entries.LinkEntry.{LinkEntry}
use Rattle.ats_network_toml.specs.declared.entries.StationEntry.{StationEntry}

-- Keys that are nearly those of a table of a network file, and keys of the other tables.

-- a key with a capital
abbrev pub capital : List ℕ → List ℕ
capital [] = []
capital (b ∷ text) = (b - 32) ∷ text

-- a key without its last byte, with one more of three, and with a capital
abbrev pub nearly : Key → List (List ℕ)
nearly k =
    take (length (key_text k) - 1) (key_text k)
    ∷ (key_text k ++ codes "s") ∷ (key_text k ++ codes "_") ∷ (key_text k ++ codes " ") ∷ capital (key_text k) ∷ []

-- a name, a number and two names, as values of a table
abbrev pub a_name : Data
a_name = string (codes "n")

abbrev pub a_number : Data
a_number = integer (pos 7)

abbrev pub two_names : Data
two_names = array (item a_name (item a_name no_items))

-- tables that have each key that they need, with a value of its kind
abbrev pub of_station : Members
of_station = member (codes "name") a_name no_members

abbrev pub of_bridge : Members
of_bridge = member (codes "name") a_name (member (codes "processing_max_ns") a_number
    (member (codes "processing_min_ns") a_number (member (codes "residence_ns") a_number no_members)))

abbrev pub of_plain_bridge : Members
of_plain_bridge = member (codes "name") a_name (member (codes "processing_ns") a_number
    (member (codes "residence_ns") a_number no_members))

abbrev pub of_link : Members
of_link = member (codes "a") a_name (member (codes "b") a_name (member (codes "mbps") a_number
    (member (codes "propagation_ns") a_number no_members)))

abbrev pub of_flow : Members
of_flow = member (codes "max_octets") a_number (member (codes "name") a_name
    (member (codes "path") two_names no_members))

abbrev pub of_stream : Members
of_stream = member (codes "burst_bits") a_number (member (codes "class") a_number
    (member (codes "max_octets") a_number (member (codes "min_octets") a_number
    (member (codes "name") a_name (member (codes "path") two_names (member (codes "rate_bps") a_number no_members))))))

abbrev pub of_link_local : Members
of_link_local = member (codes "burst_bits") a_number (member (codes "class") a_number
    (member (codes "max_octets") a_number (member (codes "min_octets") a_number
    (member (codes "name") a_name (member (codes "rate_bps") a_number no_members)))))

abbrev pub of_link_local_flow : Members
of_link_local_flow = member (codes "max_octets") a_number (member (codes "name") a_name no_members)

abbrev pub of_top : Members
of_top = member (codes "format") (integer (pos 2)) no_members

abbrev pub of_top_of_three : Members
of_top_of_three = member (codes "format") (integer (pos 3)) no_members

-- the third table of an array, with one key more, which has a number
abbrev pub with_key : Format → Table → Members → List ℕ → Entry
with_key format t members text =
    record { format = format; table = t; number = 3; members = member text a_number members }

abbrev pub station_with : List ℕ → Result StationEntry DocumentFault
station_with text = station_in (with_key Two table.Station of_station text)

abbrev pub bridge_with : List ℕ → Result BridgeEntry DocumentFault
bridge_with text = bridge_in (with_key Two table.Bridge of_bridge text)

abbrev pub plain_bridge_with : List ℕ → Result BridgeEntry DocumentFault
plain_bridge_with text = bridge_in (with_key One table.Bridge of_plain_bridge text)

-- in format 3, whose bridges may have clocks
abbrev pub clocked_bridge_with : List ℕ → Result BridgeEntry DocumentFault
clocked_bridge_with text = bridge_in (with_key Three table.Bridge of_bridge text)

abbrev pub link_with : List ℕ → Result LinkEntry DocumentFault
link_with text = link_in (with_key Two table.Link of_link text)

abbrev pub flow_with : List ℕ → Result DeclaredFlow DocumentFault
flow_with text = flow_in (with_key Two table.Flow of_flow text)

abbrev pub stream_with : List ℕ → Result DeclaredStream DocumentFault
stream_with text = stream_in (with_key Two table.Stream of_stream text)

-- the same in format 3, whose streams may have several paths
abbrev pub stream_of_three : List ℕ → Result DeclaredStream DocumentFault
stream_of_three text = stream_in (with_key Three table.Stream of_stream text)

-- and a stream and a flow for each port, which it alone has
abbrev pub link_local_with : List ℕ → Result DeclaredLinkLocal DocumentFault
link_local_with text = link_local_in (with_key Three table.LinkLocal of_link_local text)

abbrev pub link_local_flow_with : List ℕ → Result DeclaredLinkLocalFlow DocumentFault
link_local_flow_with text = link_local_flow_in (with_key Three table.LinkLocalFlow of_link_local_flow text)

abbrev pub top_with : List ℕ → Result DeclaredDocument DocumentFault
top_with text = document_in (member text a_number of_top)

abbrev pub top_of_three_with : List ℕ → Result DeclaredDocument DocumentFault
top_of_three_with text = document_in (member text a_number of_top_of_three)

-- so many times an unknown key
abbrev pub unknown : {A : Type 0} → Table → ℕ → List (Result A DocumentFault)
unknown t count = replicate count (Err (Unknown t 3))

-- keys of streams alone
abbrev pub of_streams : List Key
of_streams =
    key.Class ∷ key.Classes ∷ key.RateBps ∷ key.BurstBits ∷ key.MinOctets ∷ key.DeadlineNs ∷ key.Address ∷ key.Vlan ∷ []

-- and of flows too, of links, of bridges in each format, and of the top
abbrev pub of_senders : List Key
of_senders = key.Path ∷ key.Paths ∷ key.From ∷ key.To ∷ key.MaxOctets ∷ of_streams

abbrev pub of_links : List Key
of_links = key.A ∷ key.B ∷ key.Mbps ∷ key.PropagationNs ∷ []

abbrev pub of_bridges : List Key
of_bridges = key.ResidenceNs ∷ key.ProcessingNs ∷ key.ProcessingMinNs ∷ key.ProcessingMaxNs ∷ key.ClockPpm
    ∷ key.ClockStepPs ∷ []

abbrev pub of_the_top : List Key
of_the_top = key.Format ∷ key.Station ∷ key.Bridge ∷ key.Link ∷ key.Stream ∷ key.LinkLocal ∷ key.Flow
    ∷ key.LinkLocalFlow ∷ []

-- of each key of a table five that are nearly that one are unknown; of several paths four, the fifth being a path
pub record NearlyAreUnknown : Type 0 where
  pub station : map station_with (nearly key.Name) ≡ unknown table.Station 5
  pub bridge : map bridge_with
      (flat_map nearly (key.Name ∷ key.ProcessingMinNs ∷ key.ProcessingMaxNs ∷ key.ResidenceNs ∷ []))
      ≡ unknown table.Bridge 20
  pub plain_bridge : map plain_bridge_with (flat_map nearly (key.Name ∷ key.ProcessingNs ∷ key.ResidenceNs ∷ []))
      ≡ unknown table.Bridge 15
  pub clocked_bridge : map clocked_bridge_with
      (flat_map nearly (key.Name ∷ key.ProcessingMinNs ∷ key.ProcessingMaxNs ∷ key.ResidenceNs ∷ key.ClockPpm
      ∷ key.ClockStepPs ∷ []))
      ≡ unknown table.Bridge 30
  pub link : map link_with (flat_map nearly (key.A ∷ key.B ∷ key.Mbps ∷ key.PropagationNs ∷ []))
      ≡ unknown table.Link 20
  pub flow : map flow_with (flat_map nearly (key.Name ∷ key.Path ∷ key.From ∷ key.To ∷ key.MaxOctets ∷ []))
      ≡ unknown table.Flow 25
  pub stream_route : map stream_with
      (flat_map nearly (key.Name ∷ key.Path ∷ key.From ∷ key.To ∷ key.Class ∷ key.Classes ∷ []))
      ≡ unknown table.Stream 30
  pub stream_numbers : map stream_with
      (flat_map nearly (key.RateBps ∷ key.BurstBits ∷ key.MinOctets ∷ key.MaxOctets ∷ []))
      ≡ unknown table.Stream 20
  pub stream_others : map stream_with (flat_map nearly (key.DeadlineNs ∷ key.Address ∷ key.Vlan ∷ []))
      ≡ unknown table.Stream 15
  pub stream_paths : map stream_of_three (drop 1 (nearly key.Paths)) ≡ unknown table.Stream 4
  pub link_local : map link_local_with
      (flat_map nearly (key.Name ∷ key.Class ∷ key.RateBps ∷ key.BurstBits ∷ key.MinOctets ∷ key.MaxOctets
      ∷ key.DeadlineNs ∷ []))
      ≡ unknown table.LinkLocal 35
  pub link_local_flow : map link_local_flow_with (flat_map nearly (key.Name ∷ key.MaxOctets ∷ []))
      ≡ unknown table.LinkLocalFlow 10
  pub top : map top_with
      (flat_map nearly (key.Format ∷ key.Station ∷ key.Bridge ∷ key.Link ∷ key.Stream ∷ key.Flow ∷ []))
      ≡ replicate 30 (Err (Unknown table.Top 0))
  pub top_of_three : map top_of_three_with (flat_map nearly of_the_top) ≡ replicate 40 (Err (Unknown table.Top 0))

-- each key of the other tables is unknown to a table
pub record OthersAreUnknown : Type 0 where
  pub station : map (λ k. station_with (key_text k)) (of_senders ++ of_links ++ of_bridges ++ of_the_top)
      ≡ unknown table.Station 31
  pub bridge : map (λ k. bridge_with (key_text k))
      (key.ProcessingNs ∷ key.ClockPpm ∷ key.ClockStepPs ∷ of_senders ++ of_links ++ of_the_top)
      ≡ unknown table.Bridge 28
  pub plain_bridge : map (λ k. plain_bridge_with (key_text k))
      (key.ProcessingMinNs ∷ key.ProcessingMaxNs ∷ key.ClockPpm ∷ key.ClockStepPs ∷ of_senders ++ of_links
      ++ of_the_top)
      ≡ unknown table.Bridge 29
  pub clocked_bridge : map (λ k. clocked_bridge_with (key_text k))
      (key.ProcessingNs ∷ of_senders ++ of_links ++ of_the_top)
      ≡ unknown table.Bridge 26
  pub link : map (λ k. link_with (key_text k)) (key.Name ∷ of_senders ++ of_bridges ++ of_the_top)
      ≡ unknown table.Link 28
  pub flow : map (λ k. flow_with (key_text k)) (key.Paths ∷ of_streams ++ of_links ++ of_bridges ++ of_the_top)
      ≡ unknown table.Flow 27
  pub stream : map (λ k. stream_with (key_text k)) (key.Paths ∷ of_links ++ of_bridges ++ of_the_top)
      ≡ unknown table.Stream 19
  pub stream_of_three : map (λ k. stream_of_three (key_text k)) (of_links ++ of_bridges ++ of_the_top)
      ≡ unknown table.Stream 18
  pub link_local : map (λ k. link_local_with (key_text k))
      (key.Path ∷ key.Paths ∷ key.From ∷ key.To ∷ key.Classes ∷ key.Address ∷ key.Vlan ∷ of_links ++ of_bridges
      ++ of_the_top)
      ≡ unknown table.LinkLocal 25
  pub link_local_flow : map (λ k. link_local_flow_with (key_text k))
      (key.Path ∷ key.Paths ∷ key.From ∷ key.To ∷ of_streams ++ of_links ++ of_bridges ++ of_the_top)
      ≡ unknown table.LinkLocalFlow 30
  pub top : map (λ k. top_with (key_text k))
      (key.Name ∷ key.LinkLocal ∷ key.LinkLocalFlow ∷ of_senders ++ of_links ++ of_bridges)
      ≡ replicate 26 (Err (Unknown table.Top 0))
  pub top_of_three : map (λ k. top_of_three_with (key_text k)) (key.Name ∷ of_senders ++ of_links ++ of_bridges)
      ≡ replicate 24 (Err (Unknown table.Top 0))

pub record KeysAreExact : Type 0 where
  pub nearly : NearlyAreUnknown
  pub others : OthersAreUnknown

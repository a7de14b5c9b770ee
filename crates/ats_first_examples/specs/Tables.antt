use Rattle.std.specs.Prelude.{◌≡◌, ℕ, List, [], ◌∷◌, ◌++◌, take, drop, codes, pos, Result, Ok, Err}
use Rattle.toml.specs.Data.{Data, Members, string, integer, array, no_items, item, no_members, member}
use Rattle.ats_network_table.specs.Walk.{Entry}
use Rattle.ats_network_table.specs.Words.{key_text}
use Rattle.ats_network_table.specs.declared.format.Format.{Format}
use Rattle.ats_network_table.specs.declared.format.Format.TheVariants.{One, Three, Two}
use Rattle.ats_network_table.specs.declared.fault.DocumentFault.{DocumentFault}
use Rattle.ats_network_table.specs.declared.fault.DocumentFault.TheVariants.{Missing, Unknown, WrongKind}
use Rattle.ats_network_table.specs.declared.key.Key.{Key}
use Rattle.ats_network_table.specs.declared.key.Key.TheVariants as key
use Rattle.ats_network_table.specs.declared.table.Table.{Table}
use Rattle.ats_network_table.specs.declared.table.Table.TheVariants as table
use Rattle.ats_network_toml.specs.Document.{DeclaredFlow, DeclaredStream}
use Rattle.ats_network_toml.specs.Entries.{bridge_in, flow_in, link_in, station_in, stream_in}
use Rattle.ats_network_toml.specs.declared.entries.BridgeEntry.{BridgeEntry}
use Rattle.ats_network_toml.specs.declared.entries.LinkEntry.{LinkEntry}
use Rattle.ats_network_toml.specs.declared.entries.StationEntry.{StationEntry}

-- Tables of a network file with several faults at once, and which of them is named.

-- keys, each with a value
abbrev pub Values : Type 0
Values = List (Key × Data)

-- what stands in a table with these; and with a key beside them that no table has
abbrev pub members_of : Values → Members
members_of [] = no_members
members_of (value ∷ values) = member (key_text value.0) value.1 (members_of values)

abbrev pub with_unknown : Values → Members
with_unknown values = member (codes "x") (integer (pos 1)) (members_of values)

-- the third table of an array, in a file of a format
abbrev pub third : Format → Table → Members → Entry
third format t members = record { format = format; table = t; number = 3; members = members }

-- what such a table declares
abbrev pub station_of : Members → Result StationEntry DocumentFault
station_of members = station_in (third Two table.Station members)

abbrev pub bridge_of : Format → Members → Result BridgeEntry DocumentFault
bridge_of format members = bridge_in (third format table.Bridge members)

abbrev pub link_of : Members → Result LinkEntry DocumentFault
link_of members = link_in (third Two table.Link members)

abbrev pub stream_of : Members → Result DeclaredStream DocumentFault
stream_of members = stream_in (third Two table.Stream members)

abbrev pub flow_of : Members → Result DeclaredFlow DocumentFault
flow_of members = flow_in (third Two table.Flow members)

-- a name and a number, each of which is wrong where the other is asked
abbrev pub a_name : Data
a_name = string (codes "n")

abbrev pub a_number : Data
a_number = integer (pos 7)

-- an array of two names
abbrev pub two_names : Data
two_names = array (item a_name (item a_name no_items))

-- each key of a stream that has a path, with what is wrong there, and with what is right
abbrev pub stream_wrong : Values
stream_wrong =
    (key.Name, a_number) ∷ (key.Path, a_number) ∷ (key.Class, a_name) ∷ (key.RateBps, a_name) ∷ (key.BurstBits, a_name)
    ∷ (key.MinOctets, a_name) ∷ (key.MaxOctets, a_name) ∷ (key.DeadlineNs, a_name) ∷ (key.Address, a_number)
    ∷ (key.Vlan, a_name) ∷ []

abbrev pub stream_right : Values
stream_right =
    (key.Name, a_name) ∷ (key.Path, two_names) ∷ (key.Class, a_number) ∷ (key.RateBps, a_number)
    ∷ (key.BurstBits, a_number) ∷ (key.MinOctets, a_number) ∷ (key.MaxOctets, a_number) ∷ (key.DeadlineNs, a_number)
    ∷ (key.Address, string (codes "00:00:00:00:00:01")) ∷ (key.Vlan, a_number) ∷ []

-- so many of them as they are right, and the others wrong
abbrev pub stream_with : ℕ → Members
stream_with k = members_of (take k stream_right ++ drop k stream_wrong)

-- first a key is told that is missing, whatever else is wrong: of those that are, the first in this order. An address
-- asks for a VLAN, and a VLAN for an address
pub record StreamKeysAreMissing : Type 0 where
  pub name : stream_of (with_unknown []) ≡ Err (Missing table.Stream 3 key.Name)
  pub path : stream_of (with_unknown (take 1 stream_wrong)) ≡ Err (Missing table.Stream 3 key.Path)
  pub class : stream_of (with_unknown (take 2 stream_wrong)) ≡ Err (Missing table.Stream 3 key.Class)
  pub rate : stream_of (with_unknown (take 3 stream_wrong)) ≡ Err (Missing table.Stream 3 key.RateBps)
  pub burst : stream_of (with_unknown (take 4 stream_wrong)) ≡ Err (Missing table.Stream 3 key.BurstBits)
  pub least : stream_of (with_unknown (take 5 stream_wrong)) ≡ Err (Missing table.Stream 3 key.MinOctets)
  pub greatest : stream_of (with_unknown (take 6 stream_wrong)) ≡ Err (Missing table.Stream 3 key.MaxOctets)
  pub vlan : stream_of (with_unknown (take 9 stream_wrong)) ≡ Err (Missing table.Stream 3 key.Vlan)
  pub address : stream_of (with_unknown (take 7 stream_wrong ++ (key.Vlan, a_name) ∷ []))
      ≡ Err (Missing table.Stream 3 key.Address)
  pub from : stream_of (with_unknown ((key.Name, a_number) ∷ (key.To, a_number) ∷ []))
      ≡ Err (Missing table.Stream 3 key.From)
  pub to : stream_of (with_unknown ((key.Name, a_number) ∷ (key.From, a_number) ∷ []))
      ≡ Err (Missing table.Stream 3 key.To)
  pub behind_ends : stream_of (with_unknown ((key.Name, a_number) ∷ (key.From, a_number) ∷ (key.To, a_number) ∷ []))
      ≡ Err (Missing table.Stream 3 key.Class)

-- then one that is unknown, and then one with what is wrong there, in the same order; a deadline and an identity may be
-- left out
pub record StreamKindsAreWrong : Type 0 where
  pub unknown : stream_of (with_unknown stream_wrong) ≡ Err (Unknown table.Stream 3)
  pub name : stream_of (stream_with 0) ≡ Err (WrongKind table.Stream 3 key.Name)
  pub path : stream_of (stream_with 1) ≡ Err (WrongKind table.Stream 3 key.Path)
  pub class : stream_of (stream_with 2) ≡ Err (WrongKind table.Stream 3 key.Class)
  pub rate : stream_of (stream_with 3) ≡ Err (WrongKind table.Stream 3 key.RateBps)
  pub burst : stream_of (stream_with 4) ≡ Err (WrongKind table.Stream 3 key.BurstBits)
  pub least : stream_of (stream_with 5) ≡ Err (WrongKind table.Stream 3 key.MinOctets)
  pub greatest : stream_of (stream_with 6) ≡ Err (WrongKind table.Stream 3 key.MaxOctets)
  pub deadline : stream_of (stream_with 7) ≡ Err (WrongKind table.Stream 3 key.DeadlineNs)
  pub address : stream_of (stream_with 8) ≡ Err (WrongKind table.Stream 3 key.Address)
  pub vlan : stream_of (stream_with 9) ≡ Err (WrongKind table.Stream 3 key.Vlan)

-- a stream by its ends, and with a list of classes: what stands behind its name
abbrev pub by_ends : Values → Members
by_ends values = members_of ((key.Name, a_name) ∷ values ++ drop 3 stream_wrong)

-- a path beside ends is wrong before these are, and then comes the first of them; classes beside a class are wrong
-- behind it
pub record RoutesAreWrong : Type 0 where
  pub path : stream_of
      (by_ends ((key.Path, a_number) ∷ (key.From, a_number) ∷ (key.To, a_number) ∷ (key.Class, a_name) ∷ []))
      ≡ Err (WrongKind table.Stream 3 key.Path)
  pub right_path : stream_of
      (by_ends ((key.Path, two_names) ∷ (key.From, a_name) ∷ (key.To, a_name) ∷ (key.Class, a_name) ∷ []))
      ≡ Err (WrongKind table.Stream 3 key.Path)
  pub from : stream_of (by_ends ((key.From, a_number) ∷ (key.To, a_number) ∷ (key.Class, a_name) ∷ []))
      ≡ Err (WrongKind table.Stream 3 key.From)
  pub to : stream_of (by_ends ((key.From, a_name) ∷ (key.To, a_number) ∷ (key.Class, a_name) ∷ []))
      ≡ Err (WrongKind table.Stream 3 key.To)
  pub class : stream_of
      (by_ends ((key.From, a_name) ∷ (key.To, a_name) ∷ (key.Class, a_name) ∷ (key.Classes, a_name) ∷ []))
      ≡ Err (WrongKind table.Stream 3 key.Class)
  pub classes : stream_of
      (by_ends ((key.From, a_name) ∷ (key.To, a_name) ∷ (key.Class, a_number) ∷ (key.Classes, a_name) ∷ []))
      ≡ Err (WrongKind table.Stream 3 key.Classes)
  pub classes_alone : stream_of (by_ends ((key.From, a_name) ∷ (key.To, a_name) ∷ (key.Classes, a_name) ∷ []))
      ≡ Err (WrongKind table.Stream 3 key.Classes)

-- the same of stations and links
abbrev pub link_wrong : Values
link_wrong =
    (key.A, a_number) ∷ (key.B, a_number) ∷ (key.Mbps, a_name) ∷ (key.PropagationNs, a_name) ∷ []

abbrev pub link_right : Values
link_right =
    (key.A, a_name) ∷ (key.B, a_name) ∷ (key.Mbps, a_number) ∷ (key.PropagationNs, a_number) ∷ []

abbrev pub link_with : ℕ → Members
link_with k = members_of (take k link_right ++ drop k link_wrong)

pub record LinkTablesAreJudged : Type 0 where
  pub no_name : station_of (with_unknown []) ≡ Err (Missing table.Station 3 key.Name)
  pub unknown_at_station : station_of (with_unknown ((key.Name, a_number) ∷ [])) ≡ Err (Unknown table.Station 3)
  pub wrong_name : station_of (members_of ((key.Name, a_number) ∷ [])) ≡ Err (WrongKind table.Station 3 key.Name)
  pub no_end : link_of (with_unknown []) ≡ Err (Missing table.Link 3 key.A)
  pub no_other_end : link_of (with_unknown (take 1 link_wrong)) ≡ Err (Missing table.Link 3 key.B)
  pub no_rate : link_of (with_unknown (take 2 link_wrong)) ≡ Err (Missing table.Link 3 key.Mbps)
  pub no_time : link_of (with_unknown (take 3 link_wrong)) ≡ Err (Missing table.Link 3 key.PropagationNs)
  pub unknown : link_of (with_unknown link_wrong) ≡ Err (Unknown table.Link 3)
  pub end : link_of (link_with 0) ≡ Err (WrongKind table.Link 3 key.A)
  pub other_end : link_of (link_with 1) ≡ Err (WrongKind table.Link 3 key.B)
  pub rate : link_of (link_with 2) ≡ Err (WrongKind table.Link 3 key.Mbps)
  pub time : link_of (link_with 3) ≡ Err (WrongKind table.Link 3 key.PropagationNs)

-- and of bridges, whose keys go by the format
abbrev pub bridge_wrong : Values
bridge_wrong =
    (key.Name, a_number) ∷ (key.ProcessingMinNs, a_name) ∷ (key.ProcessingMaxNs, a_name) ∷ (key.ResidenceNs, a_name)
    ∷ []

abbrev pub bridge_with : ℕ → Members
bridge_with k = members_of
    (take k ((key.Name, a_name) ∷ (key.ProcessingMinNs, a_number) ∷ (key.ProcessingMaxNs, a_number) ∷ [])
    ++ drop k bridge_wrong)

abbrev pub plain_wrong : Values
plain_wrong = (key.Name, a_number) ∷ (key.ProcessingNs, a_name) ∷ (key.ResidenceNs, a_name) ∷ []

abbrev pub plain_with : ℕ → Members
plain_with k = members_of (take k ((key.Name, a_name) ∷ (key.ProcessingNs, a_number) ∷ []) ++ drop k plain_wrong)

pub record BridgeTablesAreJudged : Type 0 where
  pub no_name : bridge_of Two (with_unknown []) ≡ Err (Missing table.Bridge 3 key.Name)
  pub no_least : bridge_of Two (with_unknown (take 1 bridge_wrong)) ≡ Err (Missing table.Bridge 3 key.ProcessingMinNs)
  pub no_greatest : bridge_of Two (with_unknown (take 2 bridge_wrong))
      ≡ Err (Missing table.Bridge 3 key.ProcessingMaxNs)
  pub no_residence : bridge_of Two (with_unknown (take 3 bridge_wrong)) ≡ Err (Missing table.Bridge 3 key.ResidenceNs)
  pub unknown : bridge_of Two (with_unknown bridge_wrong) ≡ Err (Unknown table.Bridge 3)
  pub of_format_one : bridge_of Two (members_of ((key.ProcessingNs, a_name) ∷ bridge_wrong))
      ≡ Err (Unknown table.Bridge 3)
  pub name : bridge_of Two (bridge_with 0) ≡ Err (WrongKind table.Bridge 3 key.Name)
  pub least : bridge_of Two (bridge_with 1) ≡ Err (WrongKind table.Bridge 3 key.ProcessingMinNs)
  pub greatest : bridge_of Two (bridge_with 2) ≡ Err (WrongKind table.Bridge 3 key.ProcessingMaxNs)
  pub residence : bridge_of Two (bridge_with 3) ≡ Err (WrongKind table.Bridge 3 key.ResidenceNs)
  pub no_time : bridge_of One (with_unknown (take 1 plain_wrong)) ≡ Err (Missing table.Bridge 3 key.ProcessingNs)
  pub no_residence_there : bridge_of One (with_unknown (take 2 plain_wrong))
      ≡ Err (Missing table.Bridge 3 key.ResidenceNs)
  pub of_format_two : bridge_of One (members_of ((key.ProcessingMinNs, a_name) ∷ plain_wrong))
      ≡ Err (Unknown table.Bridge 3)
  pub name_there : bridge_of One (plain_with 0) ≡ Err (WrongKind table.Bridge 3 key.Name)
  pub time : bridge_of One (plain_with 1) ≡ Err (WrongKind table.Bridge 3 key.ProcessingNs)
  pub residence_there : bridge_of One (plain_with 2) ≡ Err (WrongKind table.Bridge 3 key.ResidenceNs)

-- and of those that have a clock in format 3, where either of its numbers may be left out
abbrev pub clocked_wrong : Values
clocked_wrong = bridge_wrong ++ ((key.ClockPpm, a_name) ∷ (key.ClockStepPs, a_name) ∷ [])

abbrev pub bridge_right : Values
bridge_right = (key.Name, a_name) ∷ (key.ProcessingMinNs, integer (pos 1)) ∷ (key.ProcessingMaxNs, integer (pos 2))
    ∷ (key.ResidenceNs, integer (pos 3)) ∷ []

abbrev pub clocked_with : ℕ → Members
clocked_with k = members_of (take k (bridge_right ++ ((key.ClockPpm, a_number) ∷ [])) ++ drop k clocked_wrong)

-- what is declared of a bridge with these numbers of its clock
abbrev pub clocked : ℕ → ℕ → Result BridgeEntry DocumentFault
clocked deviation step = Ok (record {
  name = codes "n";
  processing_min_ns = 1;
  processing_max_ns = 2;
  residence_ns = 3;
  clock_ppm = deviation;
  clock_step_ps = step;
})

pub record ClockedTablesAreJudged : Type 0 where
  pub no_residence : bridge_of Three (with_unknown (take 3 clocked_wrong))
      ≡ Err (Missing table.Bridge 3 key.ResidenceNs)
  pub unknown : bridge_of Three (with_unknown clocked_wrong) ≡ Err (Unknown table.Bridge 3)
  pub residence : bridge_of Three (clocked_with 3) ≡ Err (WrongKind table.Bridge 3 key.ResidenceNs)
  pub deviation : bridge_of Three (clocked_with 4) ≡ Err (WrongKind table.Bridge 3 key.ClockPpm)
  pub step : bridge_of Three (clocked_with 5) ≡ Err (WrongKind table.Bridge 3 key.ClockStepPs)
  pub none : bridge_of Three (members_of bridge_right) ≡ clocked 0 0
  pub deviation_alone : bridge_of Three (members_of ((key.ClockPpm, integer (pos 4)) ∷ bridge_right)) ≡ clocked 4 0
  pub step_alone : bridge_of Three (members_of ((key.ClockStepPs, integer (pos 5)) ∷ bridge_right)) ≡ clocked 0 5
  pub both : bridge_of Three
      (members_of ((key.ClockPpm, integer (pos 4)) ∷ (key.ClockStepPs, integer (pos 5)) ∷ bridge_right))
      ≡ clocked 4 5
  pub greatest : bridge_of Three
      (members_of ((key.ClockPpm, integer (pos 4294967295)) ∷ (key.ClockStepPs, integer (pos 4294967295))
      ∷ bridge_right)) ≡ clocked 4294967295 4294967295
  pub too_great : bridge_of Three (members_of ((key.ClockStepPs, integer (pos 4294967296)) ∷ bridge_right))
      ≡ Err (WrongKind table.Bridge 3 key.ClockStepPs)
  pub of_format_two : bridge_of Two (members_of ((key.ClockPpm, a_number) ∷ bridge_right))
      ≡ Err (Unknown table.Bridge 3)
  pub step_of_format_two : bridge_of Two (members_of ((key.ClockStepPs, a_number) ∷ bridge_right))
      ≡ Err (Unknown table.Bridge 3)

-- and of flows
abbrev pub flow_wrong : Values
flow_wrong = (key.Name, a_number) ∷ (key.Path, a_number) ∷ (key.MaxOctets, a_name) ∷ []

abbrev pub flow_with : ℕ → Members
flow_with k = members_of (take k stream_right ++ drop k flow_wrong)

pub record FlowTablesAreJudged : Type 0 where
  pub no_name : flow_of (with_unknown []) ≡ Err (Missing table.Flow 3 key.Name)
  pub no_path : flow_of (with_unknown (take 1 flow_wrong)) ≡ Err (Missing table.Flow 3 key.Path)
  pub no_size : flow_of (with_unknown (take 2 flow_wrong)) ≡ Err (Missing table.Flow 3 key.MaxOctets)
  pub no_from : flow_of (with_unknown ((key.Name, a_number) ∷ (key.To, a_number) ∷ []))
      ≡ Err (Missing table.Flow 3 key.From)
  pub no_to : flow_of (with_unknown ((key.Name, a_number) ∷ (key.From, a_number) ∷ []))
      ≡ Err (Missing table.Flow 3 key.To)
  pub unknown : flow_of (with_unknown flow_wrong) ≡ Err (Unknown table.Flow 3)
  pub of_streams : flow_of (members_of ((key.Class, a_name) ∷ flow_wrong)) ≡ Err (Unknown table.Flow 3)
  pub name : flow_of (flow_with 0) ≡ Err (WrongKind table.Flow 3 key.Name)
  pub path : flow_of (flow_with 1) ≡ Err (WrongKind table.Flow 3 key.Path)
  pub size : flow_of (flow_with 2) ≡ Err (WrongKind table.Flow 3 key.MaxOctets)

pub record TablesAreFirst : Type 0 where
  pub missing : StreamKeysAreMissing
  pub wrong : StreamKindsAreWrong
  pub routes : RoutesAreWrong
  pub links : LinkTablesAreJudged
  pub bridges : BridgeTablesAreJudged
  pub clocked : ClockedTablesAreJudged
  pub flows : FlowTablesAreJudged

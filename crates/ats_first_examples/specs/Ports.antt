use Rattle.std.specs.Prelude.{◌≡◌, ℕ, List, [], ◌∷◌, ◌++◌, take, drop, map, replicate, codes, pos, Some, None}
use Rattle.std.specs.Prelude.{Result, Ok, Err}
use Rattle.toml.specs.Data.{Data, Members, integer, string, array, table, no_items, item, no_members}
use Rattle.ats_streams.specs.declared.fault.StreamFault.TheVariants as rule
use Rattle.ats_network_table.specs.Kinds.{short_name_in}
use Rattle.ats_network_table.specs.declared.format.Format.TheVariants.{Three}
use Rattle.ats_network_table.specs.declared.fault.DocumentFault.{DocumentFault}
use Rattle.ats_network_table.specs.declared.fault.DocumentFault.TheVariants.{Limit, Missing, Unknown, WrongKind}
use Rattle.ats_network_table.specs.declared.key.Key.{Key}
use Rattle.ats_network_table.specs.declared.key.Key.TheVariants as key
use Rattle.ats_network_table.specs.declared.table.Table.TheVariants as at
use Rattle.ats_network_toml.specs.Document as file
use Rattle.ats_network_toml.specs.Entries.{link_local_flow_in, link_local_in}
use Rattle.ats_network_toml.specs.Reading.{arrays_read, document_in}
use Rattle.ats_network_file.specs.LinkLocal as port
use Rattle.ats_network_file.specs.Reading.{network_in}
use Rattle.ats_network_file.specs.declared.fault.NetFault.TheVariants as fault
use Rattle.ats_network_file.specs.declared.senders.SenderTable.TheVariants.{Flow, LinkLocal, LinkLocalFlow, Stream}
use Rattle.ats_first_examples.specs.Tables.{Values, a_name, a_number, members_of, third, with_unknown}
use Rattle.ats_first_examples.specs.Arrays.{empty, link, of_nothing}
use Rattle.ats_first_examples.specs.Arrays as plain

-- Tables of streams and flows for each port with several faults at once, alone and among the other tables of a file of
-- format 3, and which of them is named.

-- what the third table of such a stream declares, or of such a flow
abbrev pub local_of : Members → Result file.DeclaredLinkLocal DocumentFault
local_of members = link_local_in (third Three at.LinkLocal members)

abbrev pub local_flow_of : Members → Result file.DeclaredLinkLocalFlow DocumentFault
local_flow_of members = link_local_flow_in (third Three at.LinkLocalFlow members)

abbrev pub number : ℕ → Data
number n = integer (pos n)

-- each key of the stream, with what is wrong there, and with what is right
abbrev pub local_wrong : Values
local_wrong =
    (key.Name, a_number) ∷ (key.Class, a_name) ∷ (key.RateBps, a_name) ∷ (key.BurstBits, a_name)
    ∷ (key.MinOctets, a_name) ∷ (key.MaxOctets, a_name) ∷ (key.DeadlineNs, a_name) ∷ []

abbrev pub local_right : Values
local_right =
    (key.Name, a_name) ∷ (key.Class, number 7) ∷ (key.RateBps, number 8800) ∷ (key.BurstBits, number 880)
    ∷ (key.MinOctets, number 64) ∷ (key.MaxOctets, number 90) ∷ (key.DeadlineNs, number 14716) ∷ []

-- so many of them as they are right, and the others wrong
abbrev pub local_with : ℕ → Members
local_with k = members_of (take k local_right ++ drop k local_wrong)

-- first a key is told that is missing, of those that are the first in this order; there are no classes in the place of
-- a class
pub record LocalKeysAreMissing : Type 0 where
  pub name : local_of (with_unknown []) ≡ Err (Missing at.LinkLocal 3 key.Name)
  pub class : local_of (with_unknown (take 1 local_wrong)) ≡ Err (Missing at.LinkLocal 3 key.Class)
  pub rate : local_of (with_unknown (take 2 local_wrong)) ≡ Err (Missing at.LinkLocal 3 key.RateBps)
  pub burst : local_of (with_unknown (take 3 local_wrong)) ≡ Err (Missing at.LinkLocal 3 key.BurstBits)
  pub least : local_of (with_unknown (take 4 local_wrong)) ≡ Err (Missing at.LinkLocal 3 key.MinOctets)
  pub greatest : local_of (with_unknown (take 5 local_wrong)) ≡ Err (Missing at.LinkLocal 3 key.MaxOctets)
  pub classes : local_of (members_of ((key.Name, a_name) ∷ (key.Classes, array (item a_number no_items))
      ∷ drop 2 local_right)) ≡ Err (Missing at.LinkLocal 3 key.Class)

-- then one that is unknown, as are those of a route and of an identity, and then one with what is wrong there, in the
-- same order; a deadline may be left out
pub record LocalKindsAreWrong : Type 0 where
  pub unknown : local_of (with_unknown local_wrong) ≡ Err (Unknown at.LinkLocal 3)
  pub no_deadline : local_of (with_unknown (take 6 local_wrong)) ≡ Err (Unknown at.LinkLocal 3)
  pub route : local_of (members_of ((key.From, a_name) ∷ (key.To, a_name) ∷ local_right))
      ≡ Err (Unknown at.LinkLocal 3)
  pub identity : local_of (members_of ((key.Address, string (codes "02:00:00:00:00:01")) ∷ (key.Vlan, a_number)
      ∷ local_right)) ≡ Err (Unknown at.LinkLocal 3)
  pub classes : local_of (members_of ((key.Classes, array (item a_number no_items)) ∷ local_right))
      ≡ Err (Unknown at.LinkLocal 3)
  pub name : local_of (local_with 0) ≡ Err (WrongKind at.LinkLocal 3 key.Name)
  pub class : local_of (local_with 1) ≡ Err (WrongKind at.LinkLocal 3 key.Class)
  pub rate : local_of (local_with 2) ≡ Err (WrongKind at.LinkLocal 3 key.RateBps)
  pub burst : local_of (local_with 3) ≡ Err (WrongKind at.LinkLocal 3 key.BurstBits)
  pub least : local_of (local_with 4) ≡ Err (WrongKind at.LinkLocal 3 key.MinOctets)
  pub greatest : local_of (local_with 5) ≡ Err (WrongKind at.LinkLocal 3 key.MaxOctets)
  pub deadline : local_of (local_with 6) ≡ Err (WrongKind at.LinkLocal 3 key.DeadlineNs)
  pub list : local_of (members_of ((key.Name, a_name) ∷ (key.Class, array (item a_number no_items))
      ∷ drop 2 local_right)) ≡ Err (WrongKind at.LinkLocal 3 key.Class)

-- what such a table declares; a deadline that is left out is a second
abbrev pub local_declared : ℕ → file.DeclaredLinkLocal
local_declared deadline_ns = record {
  name = codes "n";
  class = 7;
  rate_bps = 8800;
  burst_bits = 880;
  min_octets = 64;
  max_octets = 90;
  deadline_ns = deadline_ns;
}

pub record LocalsAreRead : Type 0 where
  pub with_deadline : local_of (local_with 7) ≡ Ok (local_declared 14716)
  pub without : local_of (members_of (take 6 local_right)) ≡ Ok (local_declared 1000000000)

-- the same of flows
abbrev pub local_flow_wrong : Values
local_flow_wrong = (key.Name, a_number) ∷ (key.MaxOctets, a_name) ∷ []

abbrev pub local_flow_right : Values
local_flow_right = (key.Name, a_name) ∷ (key.MaxOctets, number 320) ∷ []

abbrev pub local_flow_with : ℕ → Members
local_flow_with k = members_of (take k local_flow_right ++ drop k local_flow_wrong)

pub record LocalFlowTablesAreJudged : Type 0 where
  pub no_name : local_flow_of (with_unknown []) ≡ Err (Missing at.LinkLocalFlow 3 key.Name)
  pub no_size : local_flow_of (with_unknown (take 1 local_flow_wrong)) ≡ Err (Missing at.LinkLocalFlow 3 key.MaxOctets)
  pub unknown : local_flow_of (with_unknown local_flow_wrong) ≡ Err (Unknown at.LinkLocalFlow 3)
  pub of_flows : local_flow_of (members_of ((key.From, a_name) ∷ (key.To, a_name) ∷ local_flow_right))
      ≡ Err (Unknown at.LinkLocalFlow 3)
  pub of_streams : local_flow_of (members_of ((key.Class, a_number) ∷ local_flow_right))
      ≡ Err (Unknown at.LinkLocalFlow 3)
  pub name : local_flow_of (local_flow_with 0) ≡ Err (WrongKind at.LinkLocalFlow 3 key.Name)
  pub size : local_flow_of (local_flow_with 1) ≡ Err (WrongKind at.LinkLocalFlow 3 key.MaxOctets)
  pub declared : local_flow_of (local_flow_with 2) ≡ Ok (record { name = codes "n"; max_octets = 320 })

-- names that leave room for the number of a port: 26 bytes are the most, and a number has four digits at most
abbrev pub name_of : ℕ → List ℕ
name_of count = replicate count 97

abbrev pub local_named : List ℕ → Members
local_named name = members_of ((key.Name, string name) ∷ drop 1 local_right)

abbrev pub local_flow_named : List ℕ → Members
local_flow_named name = members_of ((key.Name, string name) ∷ drop 1 local_flow_right)

pub record NamesLeaveRoom : Type 0 where
  pub at_port : map (port.name_at (codes "g")) (0 ∷ 10 ∷ 207 ∷ 4095 ∷ [])
      ≡ codes "g-0" ∷ codes "g-10" ∷ codes "g-207" ∷ codes "g-4095" ∷ []
  pub longest : short_name_in (string (name_of 26)) ≡ Some (name_of 26)
  pub longer : short_name_in (string (name_of 27)) ≡ None
  pub none : short_name_in (string []) ≡ None
  pub two_words : short_name_in (string (codes "g 1")) ≡ None
  pub of_stream : local_of (local_named (name_of 27)) ≡ Err (WrongKind at.LinkLocal 3 key.Name)
  pub of_flow : local_flow_of (local_flow_named (name_of 27)) ≡ Err (WrongKind at.LinkLocalFlow 3 key.Name)
  pub of_flow_longest : local_flow_of (local_flow_named (name_of 26))
      ≡ Ok (record { name = name_of 26; max_octets = 320 })

-- the top of a file of format 3: each of its keys, with what is wrong there, and with what is right
abbrev pub top_wrong : Values
top_wrong =
    (key.Format, a_name) ∷ (key.Station, a_name) ∷ (key.Bridge, a_name) ∷ (key.Link, a_name) ∷ (key.Stream, a_name)
    ∷ (key.LinkLocal, a_name) ∷ (key.Flow, a_name) ∷ (key.LinkLocalFlow, a_name) ∷ []

abbrev pub top_right : Values
top_right =
    (key.Format, number 3) ∷ (key.Station, of_nothing) ∷ (key.Bridge, of_nothing) ∷ (key.Link, of_nothing)
    ∷ (key.Stream, of_nothing) ∷ (key.LinkLocal, of_nothing) ∷ (key.Flow, of_nothing)
    ∷ (key.LinkLocalFlow, of_nothing) ∷ []

abbrev pub top_with : ℕ → Members
top_with k = members_of (take k top_right ++ drop k top_wrong)

-- a top of this format with an array of no tables, or with a value in its place
abbrev pub top_of : Data → Key → Data → Result file.DeclaredDocument DocumentFault
top_of format k value = document_in (members_of ((key.Format, format) ∷ (k, value) ∷ []))

-- the arrays are asked in this order, and their tables behind them; a file whose top gives no format, or another one,
-- has no tables for each port
pub record TopOfThreeIsFirst : Type 0 where
  pub no_format : document_in (with_unknown (drop 1 top_wrong)) ≡ Err (Missing at.Top 0 key.Format)
  pub unknown : document_in (with_unknown ((key.Format, number 3) ∷ drop 1 top_wrong)) ≡ Err (Unknown at.Top 0)
  pub format : document_in (top_with 0) ≡ Err (Unknown at.Top 0)
  pub station : document_in (top_with 1) ≡ Err (WrongKind at.Top 0 key.Station)
  pub bridge : document_in (top_with 2) ≡ Err (WrongKind at.Top 0 key.Bridge)
  pub link : document_in (top_with 3) ≡ Err (WrongKind at.Top 0 key.Link)
  pub stream : document_in (top_with 4) ≡ Err (WrongKind at.Top 0 key.Stream)
  pub link_local : document_in (top_with 5) ≡ Err (WrongKind at.Top 0 key.LinkLocal)
  pub flow : document_in (top_with 6) ≡ Err (WrongKind at.Top 0 key.Flow)
  pub link_local_flow : document_in (top_with 7) ≡ Err (WrongKind at.Top 0 key.LinkLocalFlow)
  pub tables : document_in (top_with 8) ≡ Err (Missing at.Station 1 key.Name)
  pub others : map (λ format. top_of format key.LinkLocal (array no_items))
      (number 1 ∷ number 2 ∷ number 4 ∷ string (codes "3") ∷ []) ≡ replicate 4 (Err (Unknown at.Top 0))
  pub others_for_flows : map (λ format. top_of format key.LinkLocalFlow (array no_items))
      (number 1 ∷ number 2 ∷ number 4 ∷ string (codes "3") ∷ []) ≡ replicate 4 (Err (Unknown at.Top 0))
  pub no_table : top_of (number 3) key.LinkLocal (array (item a_number no_items))
      ≡ Err (WrongKind at.Top 0 key.LinkLocal)
  pub one_table : top_of (number 3) key.LinkLocalFlow (table no_members) ≡ Err (WrongKind at.Top 0 key.LinkLocalFlow)

-- a file of format 3 with one link and these tables
abbrev pub file_of : List Members → List Members → List Members → List Members
    → Result file.DeclaredDocument DocumentFault
file_of streams link_locals flows link_local_flows = arrays_read (record {
  format = Three;
  stations = [];
  bridges = [];
  links = link ∷ [];
  streams = streams;
  link_locals = link_locals;
  flows = flows;
  link_local_flows = link_local_flows;
})

abbrev pub local : Members
local = members_of local_right

abbrev pub local_flow : Members
local_flow = members_of local_flow_right

-- streams before those for each port, these before flows, and those for each port last; that there are too many comes
-- before their faults, and behind those of the arrays before
pub record ArraysOfThreeAreFirst : Type 0 where
  pub streams : file_of (plain.stream ∷ empty 2) (empty 2049) (empty 1025) (empty 2049)
      ≡ Err (Missing at.Stream 2 key.Name)
  pub too_many : file_of (plain.stream ∷ []) (empty 2049) (empty 1025) (empty 2049) ≡ Err (Limit at.LinkLocal)
  pub link_locals : file_of (plain.stream ∷ []) (local ∷ empty 2) (empty 1025) (empty 2049)
      ≡ Err (Missing at.LinkLocal 2 key.Name)
  pub too_many_flows : file_of (plain.stream ∷ []) (local ∷ []) (empty 1025) (empty 2049) ≡ Err (Limit at.Flow)
  pub flows : file_of (plain.stream ∷ []) (local ∷ []) (plain.flow ∷ empty 2) (empty 2049)
      ≡ Err (Missing at.Flow 2 key.Name)
  pub too_many_for_ports : file_of (plain.stream ∷ []) (local ∷ []) (plain.flow ∷ []) (empty 2049)
      ≡ Err (Limit at.LinkLocalFlow)
  pub link_local_flows : file_of (plain.stream ∷ []) (local ∷ []) (plain.flow ∷ []) (local_flow ∷ empty 2)
      ≡ Err (Missing at.LinkLocalFlow 2 key.Name)

-- a file of format 3 with a station, a bridge and the link between them: port 0 leads from s1 to b1, port 1 back. Its
-- senders are these
abbrev pub pair_with : List file.DeclaredStream → List file.DeclaredLinkLocal → List file.DeclaredFlow
    → List file.DeclaredLinkLocalFlow → file.DeclaredDocument
pair_with streams link_locals flows link_local_flows = record {
  format = Three;
  stations = record { name = codes "s1" } ∷ [];
  bridges = record {
    name = codes "b1";
    processing_min_ns = 1;
    processing_max_ns = 1;
    residence_ns = 1;
    clock_ppm = 0;
    clock_step_ps = 0;
  } ∷ [];
  links = record { a = codes "s1"; b = codes "b1"; mbps = 1000; propagation_ns = 500 } ∷ [];
  streams = streams;
  link_locals = link_locals;
  flows = flows;
  link_local_flows = link_local_flows;
}

-- a stream, a flow, and those for each port
abbrev pub along : file.DeclaredRoute
along = file.path (codes "s1" ∷ codes "b1" ∷ [])

abbrev pub nowhere : file.DeclaredRoute
nowhere = file.path (codes "s1" ∷ codes "x" ∷ [])

abbrev pub a_stream : List ℕ → ℕ → file.DeclaredStream
a_stream name class = record {
  name = name;
  routes = along ∷ [];
  classes = class ∷ [];
  rate_bps = 1;
  burst_bits = 672;
  min_octets = 64;
  max_octets = 64;
  deadline_ns = 1;
  identity = None;
}

abbrev pub a_flow : List ℕ → file.DeclaredRoute → file.DeclaredFlow
a_flow name route = record { name = name; route = route; max_octets = 64 }

abbrev pub for_ports : List ℕ → ℕ → file.DeclaredLinkLocal
for_ports name class = record {
  name = name;
  class = class;
  rate_bps = 1;
  burst_bits = 672;
  min_octets = 64;
  max_octets = 64;
  deadline_ns = 1;
}

abbrev pub flow_for_ports : List ℕ → ℕ → file.DeclaredLinkLocalFlow
flow_for_ports name most = record { name = name; max_octets = most }

-- streams are taken before those for each port, these before flows, and then those for each port: of each table the
-- entry is named whose stream or flow it is, whichever port it leaves by. A name that an earlier one has is that of a
-- port too
pub record PortSendersAreFirst : Type 0 where
  pub stream : network_in (pair_with (a_stream (codes "a") 0 ∷ []) (for_ports (codes "g") 0 ∷ []) [] [])
      ≡ Err (fault.Sender Stream 1 rule.BadClass)
  pub local : network_in (pair_with [] (for_ports (codes "g") 0 ∷ []) (a_flow (codes "f") nowhere ∷ []) [])
      ≡ Err (fault.Sender LinkLocal 1 rule.BadClass)
  pub flow : network_in (pair_with [] [] (a_flow (codes "f") nowhere ∷ []) (flow_for_ports (codes "l") 63 ∷ []))
      ≡ Err (fault.BadPath Flow 1)
  pub local_flow : network_in (pair_with [] [] [] (flow_for_ports (codes "l") 63 ∷ []))
      ≡ Err (fault.Sender LinkLocalFlow 1 rule.BadSizes)
  pub second : network_in (pair_with [] (for_ports (codes "g") 1 ∷ for_ports (codes "h") 8 ∷ []) [] [])
      ≡ Err (fault.Sender LinkLocal 2 rule.BadClass)
  pub second_flow : network_in
      (pair_with [] [] [] (flow_for_ports (codes "l") 64 ∷ flow_for_ports (codes "m") 2001 ∷ []))
      ≡ Err (fault.Sender LinkLocalFlow 2 rule.BadSizes)
  pub name : network_in (pair_with (a_stream (codes "g-1") 1 ∷ []) (for_ports (codes "g") 1 ∷ []) [] [])
      ≡ Err (fault.SenderTwice LinkLocal 1)
  pub second_name : network_in (pair_with [] (for_ports (codes "g") 1 ∷ for_ports (codes "g") 2 ∷ []) [] [])
      ≡ Err (fault.SenderTwice LinkLocal 2)
  pub flow_name : network_in (pair_with [] (for_ports (codes "g") 1 ∷ []) [] (flow_for_ports (codes "g") 64 ∷ []))
      ≡ Err (fault.SenderTwice LinkLocalFlow 1)

pub record PortsAreFirst : Type 0 where
  pub missing : LocalKeysAreMissing
  pub wrong : LocalKindsAreWrong
  pub read : LocalsAreRead
  pub flows : LocalFlowTablesAreJudged
  pub names : NamesLeaveRoom
  pub top : TopOfThreeIsFirst
  pub arrays : ArraysOfThreeAreFirst
  pub senders : PortSendersAreFirst

use Rattle.std.specs.Prelude.{◌≡◌, ℕ, List, [], ◌∷◌, ◌++◌, take, drop, map, replicate, pos, Result, Ok}
use Rattle.std.specs.Prelude.{Some, Err}
use Rattle.toml.specs.Data.{Data, Members, integer, array, table, no_items, item, no_members}
use Rattle.ats_network_table.specs.declared.format.Format.TheVariants.{Three, Two}
use Rattle.ats_network_table.specs.declared.fault.DocumentFault.{DocumentFault}
use Rattle.ats_network_table.specs.declared.fault.DocumentFault.TheVariants.{Limit, Missing, Unknown, WrongKind}
use Rattle.ats_network_table.specs.declared.key.Key.TheVariants as key
use Rattle.ats_network_table.specs.declared.table.Table.TheVariants.{Bridge, Flow, Link, LinkLocal, LinkLocalFlow}
use Rattle.ats_network_table.specs.declared.table.Table.TheVariants.{Station}
use Rattle.ats_network_table.specs.declared.table.Table.TheVariants.{Stream, Top}
use Rattle.ats_network_toml.specs.Document.{DeclaredDocument}
use Rattle.ats_network_toml.specs.Reading.{arrays_read, document_in, tables_in}
use Rattle.ats_first_examples.specs.Tables.{Values, a_name, a_number, link_right, members_of, stream_right}
use Rattle.ats_first_examples.specs.Tables.{with_unknown}

-- Arrays of a network file with several faults at once, and how many tables each may have.

-- the top of a file: each key of the top, with what is wrong there
abbrev pub top_wrong : Values
top_wrong =
    (key.Format, a_name) ∷ (key.Station, a_name) ∷ (key.Bridge, a_name) ∷ (key.Link, a_name) ∷ (key.Stream, a_name)
    ∷ (key.Flow, a_name) ∷ []

-- an array of one table, which has nothing in it
abbrev pub of_nothing : Data
of_nothing = array (item (table no_members) no_items)

-- and with what is right: the tables in the arrays have faults of their own
abbrev pub top_right : Values
top_right =
    (key.Format, integer (pos 2)) ∷ (key.Station, of_nothing) ∷ (key.Bridge, of_nothing) ∷ (key.Link, of_nothing)
    ∷ (key.Stream, of_nothing) ∷ (key.Flow, of_nothing) ∷ []

abbrev pub top_with : ℕ → Members
top_with k = members_of (take k top_right ++ drop k top_wrong)

-- the top is judged before any table of an array, its keys in this order; a format is 1 to 3, and an array holds tables
-- alone
pub record TopIsFirst : Type 0 where
  pub no_format : document_in (with_unknown (drop 1 top_wrong)) ≡ Err (Missing Top 0 key.Format)
  pub unknown : document_in (with_unknown top_wrong) ≡ Err (Unknown Top 0)
  pub format : document_in (top_with 0) ≡ Err (WrongKind Top 0 key.Format)
  pub format_below : document_in (members_of ((key.Format, integer (pos 0)) ∷ drop 1 top_wrong))
      ≡ Err (WrongKind Top 0 key.Format)
  pub format_over : document_in (members_of ((key.Format, integer (pos 4)) ∷ drop 1 top_wrong))
      ≡ Err (WrongKind Top 0 key.Format)
  pub station : document_in (top_with 1) ≡ Err (WrongKind Top 0 key.Station)
  pub bridge : document_in (top_with 2) ≡ Err (WrongKind Top 0 key.Bridge)
  pub link : document_in (top_with 3) ≡ Err (WrongKind Top 0 key.Link)
  pub stream : document_in (top_with 4) ≡ Err (WrongKind Top 0 key.Stream)
  pub flow : document_in (top_with 5) ≡ Err (WrongKind Top 0 key.Flow)
  pub tables : document_in (top_with 6) ≡ Err (Missing Station 1 key.Name)
  pub no_table : document_in (members_of ((key.Format, integer (pos 2))
      ∷ (key.Station, array (item (table no_members) (item a_number no_items))) ∷ []))
      ≡ Err (WrongKind Top 0 key.Station)
  pub one_table : document_in (members_of ((key.Format, integer (pos 2)) ∷ (key.Station, table no_members) ∷ []))
      ≡ Err (WrongKind Top 0 key.Station)

-- tables of each array without a fault
abbrev pub station : Members
station = members_of ((key.Name, a_name) ∷ [])

abbrev pub bridge : Members
bridge = members_of ((key.Name, a_name) ∷ (key.ProcessingMinNs, a_number) ∷ (key.ProcessingMaxNs, a_number)
    ∷ (key.ResidenceNs, a_number) ∷ [])

abbrev pub link : Members
link = members_of link_right

abbrev pub stream : Members
stream = members_of stream_right

abbrev pub flow : Members
flow = members_of ((key.Name, a_name) ∷ (key.From, a_name) ∷ (key.To, a_name) ∷ (key.MaxOctets, a_number) ∷ [])

-- what the arrays of a file declare, by their tables
abbrev pub file_of : List Members → List Members → List Members → List Members → List Members
    → Result DeclaredDocument DocumentFault
file_of stations bridges links streams flows = arrays_read (record {
  format = Two;
  stations = stations;
  bridges = bridges;
  links = links;
  streams = streams;
  link_locals = [];
  flows = flows;
  link_local_flows = [];
})

-- and those of a file of format 3 with links and tables for each port alone, beside streams and flows
abbrev pub for_ports : ℕ → ℕ → ℕ → ℕ → ℕ → Result DeclaredDocument DocumentFault
for_ports links streams at_ports flows flows_there = arrays_read (record {
  format = Three;
  stations = [];
  bridges = [];
  links = replicate links link;
  streams = replicate streams stream;
  link_locals = replicate at_ports no_members;
  flows = replicate flows flow;
  link_local_flows = replicate flows_there no_members;
})

-- so many tables with nothing in them
abbrev pub empty : ℕ → List Members
empty count = replicate count no_members

-- each array has a table with a fault, or too many tables, and one array less each time: the arrays go in this order,
-- and in each of them the tables; that there are too many of them comes before their faults
pub record ArraysAreFirst : Type 0 where
  pub stations : file_of (station ∷ empty 2) (empty 1024) (empty 2049) (empty 4097) (empty 1025)
      ≡ Err (Missing Station 2 key.Name)
  pub too_many_nodes : file_of (station ∷ []) (empty 1024) (empty 2049) (empty 4097) (empty 1025) ≡ Err (Limit Bridge)
  pub bridges : file_of (station ∷ []) (bridge ∷ empty 2) (empty 2049) (empty 4097) (empty 1025)
      ≡ Err (Missing Bridge 2 key.Name)
  pub too_many_links : file_of (station ∷ []) (bridge ∷ []) (empty 2049) (empty 4097) (empty 1025) ≡ Err (Limit Link)
  pub links : file_of (station ∷ []) (bridge ∷ []) (link ∷ link ∷ empty 2) (empty 4097) (empty 1025)
      ≡ Err (Missing Link 3 key.A)
  pub too_many_streams : file_of (station ∷ []) (bridge ∷ []) (link ∷ []) (empty 4097) (empty 1025)
      ≡ Err (Limit Stream)
  pub streams : file_of (station ∷ []) (bridge ∷ []) (link ∷ []) (stream ∷ empty 2) (empty 1025)
      ≡ Err (Missing Stream 2 key.Name)
  pub too_many_flows : file_of (station ∷ []) (bridge ∷ []) (link ∷ []) (stream ∷ []) (empty 1025) ≡ Err (Limit Flow)

-- the most tables that each array may have, whose faults are told then, and one more: stations and bridges count
-- together
pub record ArraysHaveLimits : Type 0 where
  pub most_stations : file_of (empty 1024) [] [] [] [] ≡ Err (Missing Station 1 key.Name)
  pub stations : file_of (empty 1025) [] [] [] [] ≡ Err (Limit Station)
  pub most_bridges : file_of [] (empty 1024) [] [] [] ≡ Err (Missing Bridge 1 key.Name)
  pub bridges : file_of [] (empty 1025) [] [] [] ≡ Err (Limit Bridge)
  pub most_nodes : file_of (station ∷ station ∷ []) (empty 1022) [] [] [] ≡ Err (Missing Bridge 1 key.Name)
  pub nodes : file_of (station ∷ station ∷ []) (empty 1023) [] [] [] ≡ Err (Limit Bridge)
  pub most_links : file_of [] [] (empty 2048) [] [] ≡ Err (Missing Link 1 key.A)
  pub links : file_of [] [] (empty 2049) [] [] ≡ Err (Limit Link)
  pub most_streams : file_of [] [] [] (empty 4096) [] ≡ Err (Missing Stream 1 key.Name)
  pub streams : file_of [] [] [] (empty 4097) [] ≡ Err (Limit Stream)
  pub most_flows : file_of [] [] [] [] (empty 1024) ≡ Err (Missing Flow 1 key.Name)
  pub flows : file_of [] [] [] [] (empty 1025) ≡ Err (Limit Flow)
  pub most_for_ports : for_ports 64 0 32 0 0 ≡ Err (Missing LinkLocal 1 key.Name)
  pub over_for_ports : for_ports 64 0 33 0 33 ≡ Err (Limit LinkLocal)
  pub beside_streams : for_ports 64 1 32 0 33 ≡ Err (Limit LinkLocal)
  pub most_beside : for_ports 1024 0 2 0 0 ≡ Err (Missing LinkLocal 1 key.Name)
  pub flows_for_ports : for_ports 64 0 0 0 33 ≡ Err (Limit LinkLocalFlow)
  pub beside_flows : for_ports 64 0 0 1 32 ≡ Err (Limit LinkLocalFlow)
  pub most_flows_for_ports : for_ports 64 0 0 0 32 ≡ Err (Missing LinkLocalFlow 1 key.Name)
  pub without_links : for_ports 0 0 5000 0 0 ≡ Err (Missing LinkLocal 1 key.Name)

-- an array without tables is as good as none
pub record EmptyAreTaken : Type 0 where
  pub tables : tables_in (array no_items) ≡ Some []
  pub each : map (λ k. document_in (members_of ((key.Format, integer (pos 2)) ∷ (k, array no_items) ∷ [])))
      (key.Station ∷ key.Bridge ∷ key.Link ∷ key.Stream ∷ key.Flow ∷ []) ≡ replicate 5 (file_of [] [] [] [] [])
  pub declared : file_of [] [] [] [] []
      ≡ Ok (record {
        format = Two;
        stations = [];
        bridges = [];
        links = [];
        streams = [];
        link_locals = [];
        flows = [];
        link_local_flows = [];
      })

pub record ArraysAreJudged : Type 0 where
  pub top : TopIsFirst
  pub first : ArraysAreFirst
  pub limits : ArraysHaveLimits
  pub empty : EmptyAreTaken

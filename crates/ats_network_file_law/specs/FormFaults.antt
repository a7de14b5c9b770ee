use Rattle.std.specs.Prelude.{◌≡◌, ◌↔◌, ◌⊎◌, ℕ, ◌+◌, ◌-◌, ◌*◌, ◌<◌, nat_le, Bool, true, false, not, ◌&&◌, ◌||◌, List}
use Rattle.std.specs.Prelude.{[]}
use Rattle.std.specs.Prelude.{◌∷◌, ◌++◌, length, All, Option, None, Some, is_some, option_and_then, unwrap_or, Err}
use Rattle.toml.specs.Data.{Data, Members, get_member}
use Rattle.ats_network_table.specs.Kinds.{address_in, list_in, long_in, name_in, some_where, whole_in}
use Rattle.ats_network_table.specs.Walk.{Entry, format_of, has, has_unknown, is_missing, may_branch}
use Rattle.ats_network_table.specs.Words.{key_text, keys_of}
use Rattle.ats_network_table.specs.declared.format.Format.{Format}
use Rattle.ats_network_table.specs.declared.table.Table.{Table}
use Rattle.ats_network_table.specs.declared.table.Table.TheVariants.{Top, Station, Bridge, Link, Stream, LinkLocal}
use Rattle.ats_network_table.specs.declared.table.Table.TheVariants.{Flow, LinkLocalFlow}
use Rattle.ats_network_table.specs.declared.key.Key.{Key}
use Rattle.ats_network_table.specs.declared.key.Key.TheVariants as key
use Rattle.ats_network_table.specs.declared.fault.DocumentFault.{DocumentFault}
use Rattle.ats_network_table.specs.declared.fault.DocumentFault.TheVariants.{NotToml, Missing, Unknown, WrongKind}
use Rattle.ats_network_table.specs.declared.fault.DocumentFault.TheVariants.{Limit}
use Rattle.ats_network_toml.specs.Reading.{document_of, tables_in, tree_of}
use Rattle.ats_network_file_law.specs.First.{IsFirstIn, NoneIn}

-- this key passes a test, and none before it in a list does
pub record IsFirstKey (test : Key → Bool) (keys : List Key) (k : Key) : Type 0 where
  pub number : ℕ
  pub first : IsFirstIn test keys number
  pub is : first.entry ≡ k

-- what stands with a key is of this kind
abbrev pub is_kind : {A : Type 0} → (Data → Option A) → Entry → Key → Bool
is_kind kind e k = is_some (option_and_then kind (get_member (key_text k) e.members))

-- an array of names, two of them at least
abbrev pub nodes_in : Data → Option (List (List ℕ))
nodes_in d = option_and_then (λ names. some_where (nat_le 2 (length names)) names) (list_in name_in d)

-- an array of such arrays, one of them at least
abbrev pub several_in : Data → Option (List (List (List ℕ)))
several_in d = option_and_then (λ paths. some_where (nat_le 1 (length paths)) paths) (list_in nodes_in d)

-- an array of names, one of them at least
abbrev pub listeners_in : Data → Option (List (List ℕ))
listeners_in d = option_and_then (λ names. some_where (nat_le 1 (length names)) names) (list_in name_in d)

-- a name of at most 26 bytes, as a table for each port has: the number of a port may stand behind it
abbrev pub short_name_in : Data → Option (List ℕ)
short_name_in d = option_and_then (λ name. some_where (nat_le (length name) 26) name) (name_in d)

abbrev pub name_for : Table → Data → Option (List ℕ)
name_for LinkLocal = short_name_in
name_for LinkLocalFlow = short_name_in
name_for table = name_in

-- a whole number of 32 bits
abbrev pub short_in : Data → Option ℕ
short_in = whole_in 0 4294967295

-- what stands with a key is of the kind that the key asks; of a path, paths and ends one kind alone stands, and beside
-- classes no class; a stream of format 3 may name several listeners
abbrev pub is_right : Entry → Key → Bool
is_right e key.Format = is_kind (whole_in 1 3) e key.Format
is_right e key.Station = is_kind tables_in e key.Station
is_right e key.Bridge = is_kind tables_in e key.Bridge
is_right e key.Link = is_kind tables_in e key.Link
is_right e key.Stream = is_kind tables_in e key.Stream
is_right e key.LinkLocal = is_kind tables_in e key.LinkLocal
is_right e key.Flow = is_kind tables_in e key.Flow
is_right e key.LinkLocalFlow = is_kind tables_in e key.LinkLocalFlow
is_right e key.Name = is_kind (name_for e.table) e key.Name
is_right e key.From = is_kind name_in e key.From
is_right e key.To = is_kind name_in e key.To || (may_branch e.format e.table && is_kind listeners_in e key.To)
is_right e key.A = is_kind name_in e key.A
is_right e key.B = is_kind name_in e key.B
is_right e key.Path = not (has e key.From || has e key.To || has e key.Paths) && is_kind nodes_in e key.Path
is_right e key.Paths = not (has e key.Path || has e key.From || has e key.To) && is_kind several_in e key.Paths
is_right e key.Class = is_kind long_in e key.Class
is_right e key.Classes = not (has e key.Class) && is_kind (list_in long_in) e key.Classes
is_right e key.RateBps = is_kind long_in e key.RateBps
is_right e key.BurstBits = is_kind long_in e key.BurstBits
is_right e key.MinOctets = is_kind long_in e key.MinOctets
is_right e key.MaxOctets = is_kind long_in e key.MaxOctets
is_right e key.DeadlineNs = is_kind long_in e key.DeadlineNs
is_right e key.Address = is_kind address_in e key.Address
is_right e key.Vlan = is_kind (whole_in 1 4094) e key.Vlan
is_right e key.Mbps = is_kind short_in e key.Mbps
is_right e key.PropagationNs = is_kind short_in e key.PropagationNs
is_right e key.ProcessingNs = is_kind short_in e key.ProcessingNs
is_right e key.ProcessingMinNs = is_kind short_in e key.ProcessingMinNs
is_right e key.ProcessingMaxNs = is_kind short_in e key.ProcessingMaxNs
is_right e key.ResidenceNs = is_kind short_in e key.ResidenceNs
is_right e key.ClockPpm = is_kind short_in e key.ClockPpm
is_right e key.ClockStepPs = is_kind short_in e key.ClockStepPs

-- a key stands in the table, and what stands with it is not of its kind
abbrev pub is_wrong : Entry → Key → Bool
is_wrong e k = has e k && not (is_right e k)

-- the keys that a table may have, in the order in which faults are looked for
abbrev pub keys_in : Entry → List Key
keys_in e = keys_of e.format e.table

-- a fault names this table by its array and number
pub record Names (e : Entry) (t : Table) (n : ℕ) : Type 0 where
  pub stands : t ≡ e.table
  pub counted : n ≡ e.number

-- no key is missing in the table
abbrev pub IsComplete : Entry → Type 0
IsComplete e = NoneIn (is_missing e) (keys_in e)

-- no key is missing, and yet a key stands there that the table does not have
pub record HasUnknown (e : Entry) : Type 0 where
  pub complete : IsComplete e
  pub unknown : has_unknown (keys_in e) e.members ≡ true

-- no key is missing and none is unknown, and this is the first key with what is not of its kind
pub record HasWrong (e : Entry) (k : Key) : Type 0 where
  pub complete : IsComplete e
  pub known : has_unknown (keys_in e) e.members ≡ false
  pub first : IsFirstKey (is_wrong e) (keys_in e) k

-- the fault of a table: first a missing key, then one that is unknown, then one of the wrong kind
abbrev pub HasTableFault : Entry → DocumentFault → Type 0
HasTableFault e (Missing t n k) = Names e t n × IsFirstKey (is_missing e) (keys_in e) k
HasTableFault e (Unknown t n) = Names e t n × HasUnknown e
HasTableFault e (WrongKind t n k) = Names e t n × HasWrong e k
HasTableFault e _ = ⊥

-- what is judged of a file: how many tables an array has, of so many that it may have; and each table
pub data Piece : Type 0 where
  array : Table → ℕ → ℕ → Piece
  table : Entry → Piece

-- an array has too many tables, or a table has a fault
abbrev pub HasPieceFault : Piece → DocumentFault → Type 0
HasPieceFault (array t most many) (Limit u) = (u ≡ t) × (most < many)
HasPieceFault (array t most many) _ = ⊥
HasPieceFault (table e) fault = HasTableFault e fault

-- the tables of an array, the first of which has this number
abbrev pub tables_from : Format → Table → ℕ → List Members → List Piece
tables_from format t n [] = []
tables_from format t n (ms ∷ rest) =
    table (record { format = format; table = t; number = n; members = ms }) ∷ tables_from format t (n + 1) rest

-- an array that may have so many tables, and its tables, which are counted from 1
abbrev pub pieces_in : Format → Table → ℕ → List Members → List Piece
pieces_in format t most tables = array t most (length tables) ∷ tables_from format t 1 tables

-- an array whose tables stand for a sender at each port of so many links, two to a link, behind so many senders that
-- stand alone: they are 4096 at most together
abbrev pub pieces_at_ports : Format → Table → ℕ → ℕ → List Members → List Piece
pieces_at_ports format t senders links tables =
    array t 4096 (senders + length tables * (2 * links)) ∷ tables_from format t 1 tables

-- the format that the top table gives, and the tables of an array; where it gives none, format 1 and no tables
abbrev pub format_told : Members → Format
format_told tree = format_of (unwrap_or (option_and_then (whole_in 1 3) (get_member (key_text key.Format) tree)) 1)

abbrev pub tables_told : Entry → Key → List Members
tables_told top k = unwrap_or (option_and_then tables_in (get_member (key_text k) top.members)) []

-- the top table, whose keys are those of the format that it gives
abbrev pub top_of : Members → Entry
top_of tree = record { format = format_told tree; table = Top; number = 0; members = tree }

-- the arrays of a file in their order: bridges are counted on from the stations, and tables for each port by the links
abbrev pub arrays_of : Entry → List Piece
arrays_of top =
    pieces_in top.format Station 1024 (tables_told top key.Station)
    ++ pieces_in top.format Bridge (1024 - length (tables_told top key.Station)) (tables_told top key.Bridge)
    ++ pieces_in top.format Link 2048 (tables_told top key.Link)
    ++ pieces_in top.format Stream 4096 (tables_told top key.Stream)
    ++ pieces_at_ports top.format LinkLocal (length (tables_told top key.Stream)) (length (tables_told top key.Link))
    (tables_told top key.LinkLocal)
    ++ pieces_in top.format Flow 1024 (tables_told top key.Flow)
    ++ pieces_at_ports top.format LinkLocalFlow (length (tables_told top key.Flow)) (length (tables_told top key.Link))
    (tables_told top key.LinkLocalFlow)

-- all that is judged of a file, in order: the top table, then the arrays
abbrev pub pieces_of : Entry → List Piece
pieces_of top = table top ∷ arrays_of top

-- a piece has no fault
abbrev pub IsWell : Piece → Type 0
IsWell piece = (fault : DocumentFault) → HasPieceFault piece fault → ⊥

-- a piece has this fault, and no piece before it has any
pub record IsFirstOf (pieces : List Piece) (fault : DocumentFault) : Type 0 where
  pub before : List Piece
  pub piece : Piece
  pub after : List Piece
  pub cut : before ++ piece ∷ after ≡ pieces
  pub well : All IsWell before
  pub found : HasPieceFault piece fault

-- a text is no TOML
pub record IsNoToml (text : List ℕ) (fault : DocumentFault) : Type 0 where
  pub none : tree_of text ≡ None
  pub is : fault ≡ NotToml

-- a text is TOML, and of what is judged of it the first fault is this one
pub record IsFirstInToml (text : List ℕ) (fault : DocumentFault) : Type 0 where
  pub tree : Members
  pub some : tree_of text ≡ Some tree
  pub first : IsFirstOf (pieces_of (top_of tree)) fault

abbrev pub IsFirstFormFault : List ℕ → DocumentFault → Type 0
IsFirstFormFault text fault = IsNoToml text fault ⊎ IsFirstInToml text fault

-- a text gives a fault of form exactly where it is its first
abbrev pub FormFaultIsTheFirst : Type 0
FormFaultIsTheFirst = (text : List ℕ) (fault : DocumentFault)
    → document_of text ≡ Err fault ↔ IsFirstFormFault text fault

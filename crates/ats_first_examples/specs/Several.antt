use Rattle.std.specs.Prelude.{◌≡◌, [], ◌∷◌, ◌++◌, codes, Result, Ok, Err}
use Rattle.toml.specs.Data.{Data, array, item, no_items, string}
use Rattle.ats_network_table.specs.Walk.{Entry, listeners_at, path_at, paths_at}
use Rattle.ats_network_table.specs.declared.fault.DocumentFault.{DocumentFault}
use Rattle.ats_network_table.specs.declared.fault.DocumentFault.TheVariants.{Missing, Unknown, WrongKind}
use Rattle.ats_network_table.specs.declared.format.Format.{Format}
use Rattle.ats_network_table.specs.declared.format.Format.TheVariants.{One, Three, Two}
use Rattle.ats_network_table.specs.declared.key.Key.TheVariants as key
use Rattle.ats_network_table.specs.declared.table.Table.TheVariants.{Flow, Stream}
use Rattle.ats_network_toml.specs.Document.{DeclaredFlow, DeclaredStream, ends, path}
use Rattle.ats_network_toml.specs.Entries.{flow_in, routes_at, stream_in}
use Rattle.ats_first_examples.specs.Tables.{Values, a_name, a_number, members_of, third}

-- Tables of streams of format 3, which may have several listeners, and which fault of their routes is named.

-- a table of a stream in format 3 with these, and in format 2
abbrev pub stream_with : Values → Entry
stream_with values = third Three Stream (members_of values)

abbrev pub older_with : Values → Entry
older_with values = third Two Stream (members_of values)

abbrev pub other : Data
other = string (codes "o")

-- one name, or an array of names, of at least one
pub record ListenersAreRead : Type 0 where
  pub one : listeners_at (stream_with ((key.To, a_name) ∷ [])) ≡ Ok (codes "n" ∷ [])
  pub one_of_many : listeners_at (stream_with ((key.To, array (item a_name no_items)) ∷ [])) ≡ Ok (codes "n" ∷ [])
  pub two : listeners_at (stream_with ((key.To, array (item other (item a_name no_items))) ∷ []))
      ≡ Ok (codes "o" ∷ codes "n" ∷ [])
  pub none : listeners_at (stream_with ((key.To, array no_items) ∷ [])) ≡ Err (WrongKind Stream 3 key.To)
  pub no_name : listeners_at (stream_with ((key.To, array (item a_name (item a_number no_items))) ∷ []))
      ≡ Err (WrongKind Stream 3 key.To)
  pub number : listeners_at (stream_with ((key.To, a_number) ∷ [])) ≡ Err (WrongKind Stream 3 key.To)
  pub older : listeners_at (older_with ((key.To, a_name) ∷ [])) ≡ Ok (codes "n" ∷ [])
  pub older_array : listeners_at (older_with ((key.To, array (item a_name no_items)) ∷ []))
      ≡ Err (WrongKind Stream 3 key.To)

-- a path of two names, and an array of this path
abbrev pub names : Data
names = array (item a_name (item other no_items))

abbrev pub one_path : Data
one_path = array (item names no_items)

-- an array of paths, of at least one, each of two names or more
pub record PathsAreRead : Type 0 where
  pub one : paths_at (stream_with ((key.Paths, one_path) ∷ [])) ≡ Ok ((codes "n" ∷ codes "o" ∷ []) ∷ [])
  pub two : paths_at (stream_with ((key.Paths, array (item names (item names no_items))) ∷ []))
      ≡ Ok ((codes "n" ∷ codes "o" ∷ []) ∷ (codes "n" ∷ codes "o" ∷ []) ∷ [])
  pub none : paths_at (stream_with ((key.Paths, array no_items) ∷ [])) ≡ Err (WrongKind Stream 3 key.Paths)
  pub flat : paths_at (stream_with ((key.Paths, names) ∷ [])) ≡ Err (WrongKind Stream 3 key.Paths)
  pub short : paths_at (stream_with
      ((key.Paths, array (item names (item (array (item a_name no_items)) no_items))) ∷ []))
      ≡ Err (WrongKind Stream 3 key.Paths)
  pub no_name : paths_at (stream_with
      ((key.Paths, array (item (array (item a_name (item a_number no_items))) no_items)) ∷ []))
      ≡ Err (WrongKind Stream 3 key.Paths)
  pub beside_path : paths_at (stream_with ((key.Path, names) ∷ (key.Paths, one_path) ∷ []))
      ≡ Err (WrongKind Stream 3 key.Paths)
  pub beside_end : paths_at (stream_with ((key.Paths, one_path) ∷ (key.To, a_name) ∷ []))
      ≡ Err (WrongKind Stream 3 key.Paths)
  pub path_beside : path_at (stream_with ((key.Path, names) ∷ (key.Paths, one_path) ∷ []))
      ≡ Err (WrongKind Stream 3 key.Path)

-- the routes are those of a path, of paths or of ends, each in the place of the others
pub record RoutesAreRead : Type 0 where
  pub by_path : routes_at (stream_with ((key.Path, names) ∷ [])) ≡ Ok (path (codes "n" ∷ codes "o" ∷ []) ∷ [])
  pub by_paths : routes_at (stream_with ((key.Paths, array (item names (item names no_items))) ∷ []))
      ≡ Ok (path (codes "n" ∷ codes "o" ∷ []) ∷ path (codes "n" ∷ codes "o" ∷ []) ∷ [])
  pub by_ends : routes_at (stream_with ((key.From, a_name) ∷ (key.To, array (item other (item a_name no_items))) ∷ []))
      ≡ Ok (ends (codes "n") (codes "o") ∷ ends (codes "n") (codes "n") ∷ [])
  pub older : routes_at (older_with ((key.From, a_name) ∷ (key.To, other) ∷ []))
      ≡ Ok (ends (codes "n") (codes "o") ∷ [])

-- a stream's table with these keys of routes, and with all others that it needs
abbrev pub routed : Format → Values → Result DeclaredStream DocumentFault
routed format values = stream_in (third format Stream (members_of ((key.Name, a_name) ∷ values
    ++ (key.Class, a_number) ∷ (key.RateBps, a_number) ∷ (key.BurstBits, a_number) ∷ (key.MinOctets, a_number)
    ∷ (key.MaxOctets, a_number) ∷ [])))

abbrev pub flow_routed : Format → Values → Result DeclaredFlow DocumentFault
flow_routed format values =
    flow_in (third format Flow (members_of ((key.Name, a_name) ∷ values ++ (key.MaxOctets, a_number) ∷ [])))

-- of the keys of routes the first missing one is named, or the first with what is not of its kind; formats 1 and 2 have
-- no `paths`
pub record RoutesGoTogether : Type 0 where
  pub none : routed Three [] ≡ Err (Missing Stream 3 key.Path)
  pub paths_and_from : routed Three ((key.Paths, one_path) ∷ (key.From, a_name) ∷ [])
      ≡ Err (Missing Stream 3 key.To)
  pub paths_and_to : routed Three ((key.Paths, one_path) ∷ (key.To, a_name) ∷ []) ≡ Err (Missing Stream 3 key.From)
  pub paths_and_ends : routed Three ((key.Paths, one_path) ∷ (key.From, a_name) ∷ (key.To, other) ∷ [])
      ≡ Err (WrongKind Stream 3 key.Paths)
  pub path_and_paths : routed Three ((key.Path, names) ∷ (key.Paths, one_path) ∷ [])
      ≡ Err (WrongKind Stream 3 key.Path)
  pub all : routed Three ((key.Path, names) ∷ (key.Paths, one_path) ∷ (key.From, a_name) ∷ (key.To, other) ∷ [])
      ≡ Err (WrongKind Stream 3 key.Path)
  pub paths_first : routed Three ((key.Paths, a_number) ∷ (key.From, a_number) ∷ (key.To, a_number) ∷ [])
      ≡ Err (WrongKind Stream 3 key.Paths)
  pub from_first : routed Three ((key.From, a_number) ∷ (key.To, a_number) ∷ []) ≡ Err (WrongKind Stream 3 key.From)
  pub older_paths : routed Two ((key.Paths, one_path) ∷ []) ≡ Err (Missing Stream 3 key.Path)
  pub older_both : routed Two ((key.Path, names) ∷ (key.Paths, one_path) ∷ []) ≡ Err (Unknown Stream 3)
  pub older_array : routed Two ((key.From, a_name) ∷ (key.To, array (item other no_items)) ∷ [])
      ≡ Err (WrongKind Stream 3 key.To)
  pub in_one_paths : routed One ((key.Paths, one_path) ∷ []) ≡ Err (Missing Stream 3 key.Path)
  pub in_one_both : routed One ((key.Path, names) ∷ (key.Paths, one_path) ∷ []) ≡ Err (Unknown Stream 3)
  pub in_one_all : routed One ((key.Paths, one_path) ∷ (key.From, a_name) ∷ (key.To, other) ∷ [])
      ≡ Err (Unknown Stream 3)
  pub in_one_array : routed One ((key.From, a_name) ∷ (key.To, array (item other no_items)) ∷ [])
      ≡ Err (WrongKind Stream 3 key.To)
  pub flow_array : flow_routed Three ((key.From, a_name) ∷ (key.To, array (item other no_items)) ∷ [])
      ≡ Err (WrongKind Flow 3 key.To)
  pub flow_paths : flow_routed Three ((key.Paths, one_path) ∷ []) ≡ Err (Missing Flow 3 key.Path)
  pub flow_both : flow_routed Three ((key.Path, names) ∷ (key.Paths, one_path) ∷ []) ≡ Err (Unknown Flow 3)

pub record SeveralAreRead : Type 0 where
  pub listeners : ListenersAreRead
  pub paths : PathsAreRead
  pub routes : RoutesAreRead
  pub together : RoutesGoTogether

use Rattle.std.specs.Prelude.{◌≡◌, ℕ, ◌+◌, ◌*◌, pos, negsuc, Bool, false, not, ◌&&◌, ◌||◌, ◌==◌, nat_le, nat_lt, List}
use Rattle.std.specs.Prelude.{[], ◌∷◌, length}
use Rattle.std.specs.Prelude.{map, slice_index, is_some, Option, Some, None, option_and_then, Result, Ok, Err}
use Rattle.std.specs.Prelude.{if◌then◌else◌}
use Rattle.std.specs.Char.{digit_value, is_digit}
use Rattle.std.specs.List.{list_any}
use Rattle.std.specs.Option.{option_map, option_or}
use Rattle.std.specs.Str.{bytes_eq, is_utf8}
use Rattle.toml.specs.Data.{Data, Items, Members, as_array, as_integer, as_str, as_table, get_member, item, member}
use Rattle.toml.specs.Data.{no_items, no_members}
use Rattle.toml.specs.Parse.{parse_document}
use Rattle.ats_num.specs.Failure.{◌>>=◌, ok_where, or_fault}
use Rattle.ats_num.specs.Name.{name_of}
use Rattle.ats_network_table.specs.Kinds.{address_in, address_of, all_in, digit_at, in_front, joined_at, list_in}
use Rattle.ats_network_table.specs.Kinds.{long_in}
use Rattle.ats_network_table.specs.Kinds.{name_in, names_in, one_or_more, pair_at, paths_in, ranged, short_name_in}
use Rattle.ats_network_table.specs.Kinds.{two_more, whole_in}
use Rattle.ats_network_table.specs.Walk.{Entry, at, classes_at, clock_at, deadline_at, has, has_unknown}
use Rattle.ats_network_table.specs.Walk.{identity_at, is_known, listeners_at, long_at, may_branch, may_have_clock}
use Rattle.ats_network_table.specs.Walk.{name_at}
use Rattle.ats_network_table.specs.Walk.{path_at, paths_at, short_at, short_name_at, whole_at, wrong_kind}
use Rattle.ats_network_table.specs.Words.{key_text, keys_of}
use Rattle.ats_network_table.specs.declared.fault.DocumentFault.{DocumentFault}
use Rattle.ats_network_table.specs.declared.fault.DocumentFault.TheVariants.{Limit, NotToml, WrongKind}
use Rattle.ats_network_table.specs.declared.format.Format.{Format}
use Rattle.ats_network_table.specs.declared.format.Format.TheVariants.{One, Three, Two}
use Rattle.ats_network_table.specs.declared.key.Key.{Key}
use Rattle.ats_network_table.specs.declared.key.Key.TheVariants as key
use Rattle.ats_network_table.specs.declared.table.Table.{Table}
use Rattle.ats_network_table.specs.declared.table.Table.TheVariants as table
use Rattle.ats_network_toml.specs.Document as file
use Rattle.ats_network_toml.specs.Entries.{route_at, routes_at}
use Rattle.ats_network_toml.specs.Reading.{document_in, document_of, entries_from, entries_within, tables_at}
use Rattle.ats_network_toml.specs.Reading.{tables_in}
use Rattle.ats_network_toml.specs.Reading.{tree_of}

-- The words by which network files are read, written out for all values, keys and tables.

-- names, numbers and addresses
pub record ValuesAreMeant : Type 0 where
  pub name : (d : Data) → name_in d ≡ option_and_then name_of (as_str d)
  pub short_name : (d : Data) → short_name_in d
      ≡ option_and_then (λ name. if nat_le (length name) 26 then Some name else None) (name_in d)
  pub whole : (least most : ℕ) (d : Data) → whole_in least most d
      ≡ option_and_then (ranged least most) (as_integer d)
  pub within : (least most n : ℕ) → ranged least most (pos n)
      ≡ (if nat_le least n && nat_le n most then Some n else None)
  pub below : (least most n : ℕ) → ranged least most (negsuc n) ≡ None
  pub long : (d : Data) → long_in d ≡ whole_in 0 9223372036854775807 d
  pub digit : (text : List ℕ) (k : ℕ) → digit_at text k
      ≡ (if is_digit (slice_index text k) 16 then Some (digit_value (slice_index text k)) else None)
  pub pair : (text : List ℕ) (k : ℕ) → pair_at text k
      ≡ option_and_then (λ high. option_and_then (λ low. Some (high * 16 + low)) (digit_at text (k + 1)))
      (digit_at text k)
  pub joined : (text : List ℕ) (k : ℕ) → joined_at text k
      ≡ (if slice_index text k == 58 then pair_at text (k + 1) else None)
  pub three : (text : List ℕ) (k high : ℕ) → two_more text k high
      ≡ option_and_then (λ middle. option_and_then (λ low. Some ((high * 256 + middle) * 256 + low))
      (joined_at text (k + 3))) (joined_at text k)
  pub six : (text : List ℕ) → address_of text
      ≡ option_and_then (λ first. option_and_then (λ high. option_and_then (λ fourth. option_and_then (λ low.
      if length text == 17 then Some (high * 16777216 + low) else None) (two_more text 11 fourth)) (joined_at text 8))
      (two_more text 2 first)) (pair_at text 0)
  pub address : (d : Data) → address_in d ≡ option_and_then address_of (as_str d)

-- arrays
pub record ArraysAreMeant : Type 0 where
  pub front : (x : ℕ) (xs : List ℕ) → in_front (Some x) (Some xs) ≡ Some (x ∷ xs)
  pub no_front : (xs : Option (List ℕ)) → in_front None xs ≡ None
  pub no_rest : (x : ℕ) → in_front (Some x) None ≡ None
  pub none : (kind : Data → Option ℕ) → all_in kind no_items ≡ Some []
  pub more : (kind : Data → Option ℕ) (d : Data) (ds : Items)
      → all_in kind (item d ds) ≡ in_front (kind d) (all_in kind ds)
  pub list : (kind : Data → Option ℕ) (d : Data) → list_in kind d ≡ option_and_then (all_in kind) (as_array d)
  pub names : (least : ℕ) (d : Data) → names_in least d
      ≡ option_and_then (λ names. if nat_le least (length names) then Some names else None) (list_in name_in d)
  pub paths : (d : Data) → paths_in d
      ≡ option_and_then (λ paths. if nat_le 1 (length paths) then Some paths else None) (list_in (names_in 2) d)
  pub listeners : (several : Bool) (d : Data) → one_or_more several d
      ≡ option_or (option_map (λ name. name ∷ []) (name_in d)) (if several then names_in 1 d else None)
  pub tables : (d : Data) → tables_in d ≡ list_in as_table d

-- the keys that each table may have, in the order in which faults are looked for
pub record KeysAreMeant : Type 0 where
  pub top : keys_of One table.Top ≡ key.Format ∷ key.Station ∷ key.Bridge ∷ key.Link ∷ key.Stream ∷ key.Flow ∷ []
  pub top_two : keys_of Two table.Top ≡ keys_of One table.Top
  pub top_three : keys_of Three table.Top
      ≡ key.Format ∷ key.Station ∷ key.Bridge ∷ key.Link ∷ key.Stream ∷ key.LinkLocal ∷ key.Flow ∷ key.LinkLocalFlow
      ∷ []
  pub station : (f : Format) → keys_of f table.Station ≡ key.Name ∷ []
  pub bridge : keys_of One table.Bridge ≡ key.Name ∷ key.ProcessingNs ∷ key.ResidenceNs ∷ []
  pub bridge_two : keys_of Two table.Bridge
      ≡ key.Name ∷ key.ProcessingMinNs ∷ key.ProcessingMaxNs ∷ key.ResidenceNs ∷ []
  pub bridge_three : keys_of Three table.Bridge
      ≡ key.Name ∷ key.ProcessingMinNs ∷ key.ProcessingMaxNs ∷ key.ResidenceNs ∷ key.ClockPpm ∷ key.ClockStepPs ∷ []
  pub link : (f : Format) → keys_of f table.Link ≡ key.A ∷ key.B ∷ key.Mbps ∷ key.PropagationNs ∷ []
  pub stream : keys_of One table.Stream
      ≡ key.Name ∷ key.Path ∷ key.From ∷ key.To ∷ key.Class ∷ key.Classes ∷ key.RateBps ∷ key.BurstBits
      ∷ key.MinOctets ∷ key.MaxOctets ∷ key.DeadlineNs ∷ key.Address ∷ key.Vlan ∷ []
  pub stream_two : keys_of Two table.Stream ≡ keys_of One table.Stream
  pub stream_three : keys_of Three table.Stream
      ≡ key.Name ∷ key.Path ∷ key.Paths ∷ key.From ∷ key.To ∷ key.Class ∷ key.Classes ∷ key.RateBps ∷ key.BurstBits
      ∷ key.MinOctets ∷ key.MaxOctets ∷ key.DeadlineNs ∷ key.Address ∷ key.Vlan ∷ []
  pub link_local : (f : Format) → keys_of f table.LinkLocal
      ≡ key.Name ∷ key.Class ∷ key.RateBps ∷ key.BurstBits ∷ key.MinOctets ∷ key.MaxOctets ∷ key.DeadlineNs ∷ []
  pub flow : (f : Format) → keys_of f table.Flow
      ≡ key.Name ∷ key.Path ∷ key.From ∷ key.To ∷ key.MaxOctets ∷ []
  pub link_local_flow : (f : Format) → keys_of f table.LinkLocalFlow ≡ key.Name ∷ key.MaxOctets ∷ []
  pub stands : (e : Entry) (k : Key) → has e k ≡ is_some (get_member (key_text k) e.members)
  pub known : (ks : List Key) (text : List ℕ) → is_known ks text ≡ list_any (λ k. bytes_eq text (key_text k)) ks
  pub no_unknown : (ks : List Key) → has_unknown ks no_members ≡ false
  pub unknown : (ks : List Key) (text : List ℕ) (d : Data) (ms : Members)
      → has_unknown ks (member text d ms) ≡ (not (is_known ks text) || has_unknown ks ms)

-- what stands with the keys of a table
pub record TablesAreMeant : Type 0 where
  pub stands : (e : Entry) (k : Key) (kind : Data → Option ℕ) → at e k kind
      ≡ or_fault (WrongKind e.table e.number k) (option_and_then kind (get_member (key_text k) e.members))
  pub name : (e : Entry) (k : Key) → name_at e k ≡ at e k name_in
  pub short_name : (e : Entry) (k : Key) → short_name_at e k ≡ at e k short_name_in
  pub whole : (e : Entry) (k : Key) (least most : ℕ) → whole_at e k least most ≡ at e k (whole_in least most)
  pub short : (e : Entry) (k : Key) → short_at e k ≡ whole_at e k 0 4294967295
  pub long : (e : Entry) (k : Key) → long_at e k ≡ whole_at e k 0 9223372036854775807
  pub path : (e : Entry) → path_at e
      ≡ (if has e key.From || has e key.To || has e key.Paths then Err (wrong_kind e key.Path)
      else (at e key.Path (list_in name_in)
      >>= λ names. ok_where (nat_le 2 (length names)) (wrong_kind e key.Path) names))
  pub paths : (e : Entry) → paths_at e
      ≡ (if has e key.Path || has e key.From || has e key.To then Err (wrong_kind e key.Paths)
      else at e key.Paths paths_in)
  pub listeners : (e : Entry) → listeners_at e ≡ at e key.To (one_or_more (may_branch e.format e.table))
  pub classes : (e : Entry) → classes_at e
      ≡ (if has e key.Class then (at e key.Class long_in
      >>= λ class. ok_where (not (has e key.Classes)) (wrong_kind e key.Classes) (class ∷ []))
      else at e key.Classes (list_in long_in))
  pub deadline : (e : Entry) → deadline_at e
      ≡ (if has e key.DeadlineNs then long_at e key.DeadlineNs else Ok 1000000000)
  pub clock : (e : Entry) (k : Key) → clock_at e k
      ≡ (if may_have_clock e.format && has e k then short_at e k else Ok 0)
  pub identity : (e : Entry) → identity_at e
      ≡ (if has e key.Address then (at e key.Address address_in
      >>= λ address. whole_at e key.Vlan 1 4094 >>= λ vlan. Ok (Some (address, vlan)))
      else Ok None)
  pub route : (e : Entry) → route_at e
      ≡ (if has e key.Path then (path_at e >>= λ names. Ok (file.path names))
      else (name_at e key.From >>= λ from. name_at e key.To >>= λ to. Ok (file.ends from to)))
  pub routes : (e : Entry) → routes_at e
      ≡ (if has e key.Path then (path_at e >>= λ names. Ok (file.path names ∷ []))
      else if may_branch e.format e.table && has e key.Paths
      then (paths_at e >>= λ paths. Ok (map file.path paths))
      else (name_at e key.From >>= λ from. listeners_at e >>= λ listeners. Ok (map (file.ends from) listeners)))

-- tables one by one, arrays, and all of a text
pub record TextsAreMeant : Type 0 where
  pub no_entry : (read : Entry → Result ℕ DocumentFault) (f : Format) (t : Table) (n : ℕ)
      → entries_from read f t n [] ≡ Ok []
  pub entry : (read : Entry → Result ℕ DocumentFault) (f : Format) (t : Table) (n : ℕ) (ms : Members)
      (rest : List Members) → entries_from read f t n (ms ∷ rest)
      ≡ (read (record { format = f; table = t; number = n; members = ms })
      >>= λ entry. entries_from read f t (n + 1) rest >>= λ more. Ok (entry ∷ more))
  pub within : (read : Entry → Result ℕ DocumentFault) (f : Format) (t : Table) (most many : ℕ) (tables : List Members)
      → entries_within read f t most many tables
      ≡ (if nat_lt most many then Err (Limit t) else entries_from read f t 1 tables)
  pub array : (e : Entry) (k : Key) → tables_at e k ≡ (if has e k then at e k tables_in else Ok [])
  pub tree : (text : List ℕ) → tree_of text ≡ (if is_utf8 text then parse_document text else None)
  pub document : (text : List ℕ) → document_of text ≡ or_fault NotToml (tree_of text) >>= document_in

pub record WordsAreWritten : Type 0 where
  pub values : ValuesAreMeant
  pub arrays : ArraysAreMeant
  pub keys : KeysAreMeant
  pub tables : TablesAreMeant
  pub texts : TextsAreMeant

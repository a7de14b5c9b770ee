use Rattle.std.specs.Prelude.{ℕ, ◌≤◌, ◌<◌, ◌^◌, ◌==◌, nat_le, Bool, true, false, not, ◌&&◌, ◌||◌, if◌then◌else◌}
use Rattle.std.specs.Prelude.{List, [], ◌∷◌, length, Option, Some, None, is_some, option_and_then, unwrap_or, Result}
use Rattle.std.specs.Prelude.{Ok}
use Rattle.std.specs.Prelude.{Err}
use Rattle.std.specs.List.{list_any, find}
use Rattle.std.specs.Str.{bytes_eq}
use Rattle.toml.specs.Data.{Data, Members, no_members, member, get_member}
use Rattle.ats_network_table.specs.Words.{key_text, keys_of}
use Rattle.ats_num.specs.Failure.{◌>>=◌, or_fault, ok_where}
use Rattle.ats_network_table.specs.Kinds.{name_in, short_name_in, whole_in, long_in, address_in, list_in}
use Rattle.ats_network_table.specs.Kinds.{paths_in, one_or_more}
use Rattle.ats_network_table.specs.declared.format.Format.{Format}
use Rattle.ats_network_table.specs.declared.format.Format.TheVariants.{One, Two, Three}
use Rattle.ats_network_table.specs.declared.table.Table.{Table}
use Rattle.ats_network_table.specs.declared.table.Table.TheVariants.{Top, Stream}
use Rattle.ats_network_table.specs.declared.key.Key.{Key}
use Rattle.ats_network_table.specs.declared.key.Key.TheVariants as key
use Rattle.ats_network_table.specs.declared.fault.DocumentFault.{DocumentFault}
use Rattle.ats_network_table.specs.declared.fault.DocumentFault.TheVariants.{Missing, Unknown, WrongKind}

-- one table of a file: the file's format, which table it is, its number among those of its array, counted from 1 (0 for
-- the top table), and what stands in it
pub record Entry : Type 0 where
  pub format : Format
  pub table : Table
  pub number : ℕ
  pub members : Members

-- a key stands in the table
abbrev pub has : Entry → Key → Bool
has e k = is_some (get_member (key_text k) e.members)

-- a table may declare several listeners: a stream does in format 3
abbrev pub may_branch : Format → Table → Bool
may_branch Three Stream = true
may_branch format table = false

-- several paths stand in a table that may have them
abbrev pub has_paths : Entry → Bool
has_paths e = may_branch e.format e.table && has e key.Paths

-- classes stand in a table that may list them: in that of a stream
abbrev pub lists_classes : Table → Bool
lists_classes Stream = true
lists_classes table = false

abbrev pub has_classes : Entry → Bool
has_classes e = lists_classes e.table && has e key.Classes

-- a key of the table's list has to stand there: all but the arrays at the top, the deadline, the clock, and these: a
-- path, or paths, or both ends; a class, or classes; address and VLAN, or neither
abbrev pub is_due : Entry → Key → Bool
is_due e key.Station = false
is_due e key.Bridge = false
is_due e key.Link = false
is_due e key.Stream = false
is_due e key.LinkLocal = false
is_due e key.Flow = false
is_due e key.LinkLocalFlow = false
is_due e key.Path = not (has e key.From || has e key.To || has_paths e)
is_due e key.Paths = false
is_due e key.From = has e key.To
is_due e key.To = has e key.From
is_due e key.Class = not (has_classes e)
is_due e key.Classes = false
is_due e key.DeadlineNs = false
is_due e key.ClockPpm = false
is_due e key.ClockStepPs = false
is_due e key.Address = has e key.Vlan
is_due e key.Vlan = has e key.Address
is_due e _ = true

-- a key that has to stand there does not
abbrev pub is_missing : Entry → Key → Bool
is_missing e k = is_due e k && not (has e k)

-- the first missing key in the order of the table's list
abbrev pub missing_key : Entry → Option Key
missing_key e = find (is_missing e) (keys_of e.format e.table)

-- one of these keys is written so
abbrev pub is_known : List Key → List ℕ → Bool
is_known ks text = list_any (λ k. bytes_eq text (key_text k)) ks

-- a key stands in the table that is none of these
abbrev pub has_unknown : List Key → Members → Bool
has_unknown ks no_members = false
has_unknown ks (member text d ms) = not (is_known ks text) || has_unknown ks ms

abbrev pub none_missing : Entry → Option Key → Result (Unit {0}) DocumentFault
none_missing e None = Ok tt
none_missing e (Some k) = Err (Missing e.table e.number k)

-- no key is missing, and then, no key is unknown
abbrev pub formed : Entry → Result (Unit {0}) DocumentFault
formed e = do
  complete ← none_missing e (missing_key e)
  ok_where (not (has_unknown (keys_of e.format e.table) e.members)) (Unknown e.table e.number) complete

-- the fault of a key whose value is of the wrong kind
abbrev pub wrong_kind : Entry → Key → DocumentFault
wrong_kind e k = WrongKind e.table e.number k

-- what stands with a key, where it is of the right kind
abbrev pub at : {A : Type 0} → Entry → Key → (Data → Option A) → Result A DocumentFault
at e k kind = or_fault (wrong_kind e k) (option_and_then kind (get_member (key_text k) e.members))

abbrev pub name_at : Entry → Key → Result (List ℕ) DocumentFault
name_at e k = at e k name_in

abbrev pub short_name_at : Entry → Key → Result (List ℕ) DocumentFault
short_name_at e k = at e k short_name_in

abbrev pub whole_at : Entry → Key → ℕ → ℕ → Result ℕ DocumentFault
whole_at e k least most = at e k (whole_in least most)

-- a whole number of 32 bits, and one that is as great as TOML allows
abbrev pub short_at : Entry → Key → Result ℕ DocumentFault
short_at e k = whole_at e k 0 4294967295

abbrev pub long_at : Entry → Key → Result ℕ DocumentFault
long_at e k = whole_at e k 0 9223372036854775807

-- the names of a path, at least two, which has neither an end nor paths beside it
abbrev pub path_at : Entry → Result (List (List ℕ)) DocumentFault
path_at e =
    if has e key.From || has e key.To || has e key.Paths then Err (wrong_kind e key.Path)
    else (at e key.Path (list_in name_in)
    >>= λ names. ok_where (nat_le 2 (length names)) (wrong_kind e key.Path) names)

-- the names of several paths, one at least, each of two at least, which have neither a path nor an end beside them
abbrev pub paths_at : Entry → Result (List (List (List ℕ))) DocumentFault
paths_at e =
    if has e key.Path || has e key.From || has e key.To then Err (wrong_kind e key.Paths)
    else at e key.Paths paths_in

-- the names of the listeners of a stream: one or, where several may be declared, an array of at least one
abbrev pub listeners_at : Entry → Result (List (List ℕ)) DocumentFault
listeners_at e = at e key.To (one_or_more (may_branch e.format e.table))

-- the classes of a stream: one, or a list in its place
abbrev pub classes_at : Entry → Result (List ℕ) DocumentFault
classes_at e =
    if has e key.Class
    then (at e key.Class long_in
    >>= λ class. ok_where (not (has e key.Classes)) (wrong_kind e key.Classes) (class ∷ []))
    else at e key.Classes (list_in long_in)

-- the format of the file, 1, 2 or 3
abbrev pub format_of : ℕ → Format
format_of n = if n == 1 then One else if n == 2 then Two else Three

abbrev pub format_at : Entry → Result Format DocumentFault
format_at top = whole_at top key.Format 1 3 >>= λ n. Ok (format_of n)

-- the format that a value gives; where it gives none, format 1
abbrev pub format_from : Option Data → Format
format_from value = format_of (unwrap_or (option_and_then (whole_in 1 3) value) 1)

-- the top table of a file, in the format that it gives: in format 3 it may have more arrays
abbrev pub top_of : Members → Entry
top_of tree = record {
  format = format_from (get_member (key_text key.Format) tree);
  table = Top;
  number = 0;
  members = tree;
}

-- the deadline; an absent one is a second
abbrev pub deadline_at : Entry → Result ℕ DocumentFault
deadline_at e = if has e key.DeadlineNs then long_at e key.DeadlineNs else Ok 1000000000

-- a bridge may have a clock in format 3
abbrev pub may_have_clock : Format → Bool
may_have_clock Three = true
may_have_clock format = false

-- a number of a bridge's clock; an absent one is 0
abbrev pub clock_at : Entry → Key → Result ℕ DocumentFault
clock_at e k = if may_have_clock e.format && has e k then short_at e k else Ok 0

-- an address has 48 bits, and a VLAN identifier is 1 to 4094
pub record IsIdentity (identity : ℕ × ℕ) : Type 0 where
  pub address : identity.0 < 2 ^ 48
  pub vlan_least : 1 ≤ identity.1
  pub vlan_most : identity.1 ≤ 4094

-- destination address and VLAN identifier, where they are given
abbrev pub identity_at : Entry → Result (Option (ℕ × ℕ)) DocumentFault
identity_at e =
    if has e key.Address then (at e key.Address address_in >>= λ address. whole_at e key.Vlan 1 4094
    >>= λ vlan. Ok (Some (address, vlan)))
    else Ok None

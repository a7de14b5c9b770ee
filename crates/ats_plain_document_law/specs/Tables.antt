use Rattle.std.specs.Prelude.{◌≡◌, ◌↔◌, ℕ, ◌==◌, not, ◌&&◌, IsTrue, true, false, List, [], ◌∷◌, find, Some, None, Ok}
use Rattle.std.specs.Prelude.{Err, codes, if◌then◌else◌, option_and_then, unwrap_or}
use Rattle.std.specs.List.{list_any}
use Rattle.toml.specs.Data.{Members, get_member, member, no_members}
use Rattle.ats_network_table.specs.Kinds.{whole_in}
use Rattle.ats_network_table.specs.Walk.{Entry, format_at, format_of, formed, has, has_classes, has_paths, has_unknown}
use Rattle.ats_network_table.specs.Walk.{is_known, is_missing, lists_classes, may_branch, may_have_clock, top_of}
use Rattle.ats_network_table.specs.Walk.{whole_at, wrong_kind}
use Rattle.ats_network_table.specs.Words.{greatest_processing_key, keys_of, least_processing_key}
use Rattle.ats_network_table.specs.declared.fault.DocumentFault.{DocumentFault}
use Rattle.ats_network_table.specs.declared.fault.DocumentFault.TheVariants.{Missing, Unknown, WrongKind}
use Rattle.ats_network_table.specs.declared.format.Format.{Format}
use Rattle.ats_network_table.specs.declared.format.Format.TheVariants.{One, Three, Two}
use Rattle.ats_network_table.specs.declared.key.Key.{Key}
use Rattle.ats_network_table.specs.declared.key.Key.TheVariants as key
use Rattle.ats_network_table.specs.declared.table.Table.{Table}
use Rattle.ats_network_table.specs.declared.table.Table.TheVariants.{Stream, Top}

-- the keys of the top table and of a stream's in format 2, which are those of format 1; and those of the least and the
-- greatest processing time of a bridge: before format 2 both are one number, with one key
pub record TablesHaveKeys : Type 0 where
  pub top_two : keys_of Two Top ≡ key.Format ∷ key.Station ∷ key.Bridge ∷ key.Link ∷ key.Stream ∷ key.Flow ∷ []
  pub stream_two : keys_of Two Stream
      ≡ key.Name ∷ key.Path ∷ key.From ∷ key.To ∷ key.Class ∷ key.Classes ∷ key.RateBps ∷ key.BurstBits
      ∷ key.MinOctets ∷ key.MaxOctets ∷ key.DeadlineNs ∷ key.Address ∷ key.Vlan ∷ []
  pub least_one : least_processing_key One ≡ key.ProcessingNs
  pub least_two : least_processing_key Two ≡ key.ProcessingMinNs
  pub least_three : least_processing_key Three ≡ key.ProcessingMinNs
  pub greatest_one : greatest_processing_key One ≡ key.ProcessingNs
  pub greatest_two : greatest_processing_key Two ≡ key.ProcessingMaxNs
  pub greatest_three : greatest_processing_key Three ≡ key.ProcessingMaxNs

-- a table may have several listeners where it is that of a stream in format 3, and a list of classes where it is that
-- of a stream; a bridge may have a clock in format 3. A table has several paths, or a list of classes, where it may
-- have them and they stand in it
pub record SomeMayHaveMore : Type 0 where
  pub branch : (f : Format) (t : Table) → IsTrue (may_branch f t) ↔ ((f ≡ Three) × (t ≡ Stream))
  pub list : (t : Table) → IsTrue (lists_classes t) ↔ (t ≡ Stream)
  pub clock : (f : Format) → IsTrue (may_have_clock f) ↔ (f ≡ Three)
  pub paths : (e : Entry) → has_paths e ≡ (may_branch e.format e.table && has e key.Paths)
  pub classes : (e : Entry) → has_classes e ≡ (lists_classes e.table && has e key.Classes)

-- the keys that stand in a table, in their order there
abbrev pub keys_told : Members → List (List ℕ)
keys_told no_members = []
keys_told (member text d ms) = text ∷ keys_told ms

-- a table has a fault of form where a key is missing, and it tells the first of them; else where it has a key that is
-- not its own; and else it is well formed. Each fault names the table and its number; and so does that of a key whose
-- value is of a wrong kind
pub record FormsAreJudged : Type 0 where
  pub unknown : (ks : List Key) (ms : Members) → has_unknown ks ms
      ≡ list_any (λ text. not (is_known ks text)) (keys_told ms)
  pub missing : (e : Entry) (k : Key) → find (is_missing e) (keys_of e.format e.table) ≡ Some k
      → formed e ≡ Err (Missing e.table e.number k)
  pub not_its_own : (e : Entry) → find (is_missing e) (keys_of e.format e.table) ≡ None
      → has_unknown (keys_of e.format e.table) e.members ≡ true → formed e ≡ Err (Unknown e.table e.number)
  pub well : (e : Entry) → find (is_missing e) (keys_of e.format e.table) ≡ None
      → has_unknown (keys_of e.format e.table) e.members ≡ false → formed e ≡ Ok tt
  pub wrong : (e : Entry) (k : Key) → wrong_kind e k ≡ WrongKind e.table e.number k

-- the number that stands in a file for each format
abbrev pub number_of : Format → ℕ
number_of One = 1
number_of Two = 2
number_of Three = 3

-- the top table has the number 0 and all that stands in the file, and it is read as one of the format whose number
-- stands in it, and of format 1 where none does; 1 and 2 stand for formats 1 and 2, and any other number for 3. A file
-- is of this format, and of none where what stands there is no number of 1 to 3
pub record TopsAreRead : Type 0 where
  pub format : (tree : Members) → (top_of tree).format
      ≡ format_of (unwrap_or (option_and_then (whole_in 1 3) (get_member (codes "format") tree)) 1)
  pub table : (tree : Members) → (top_of tree).table ≡ Top
  pub number : (tree : Members) → (top_of tree).number ≡ 0
  pub members : (tree : Members) → (top_of tree).members ≡ tree
  pub of : (n : ℕ) → format_of n ≡ (if n == 1 then One else if n == 2 then Two else Three)
  pub given : (top : Entry) (f : Format) → format_at top ≡ Ok f ↔ (whole_at top key.Format 1 3 ≡ Ok (number_of f))
  pub not_given : (top : Entry) (fault : DocumentFault) → format_at top ≡ Err fault
      ↔ (whole_at top key.Format 1 3 ≡ Err fault)

pub record TablesAreDeclared : Type 0 where
  pub keys : TablesHaveKeys
  pub more : SomeMayHaveMore
  pub forms : FormsAreJudged
  pub tops : TopsAreRead

use Rattle.std.specs.Prelude.{◌≡◌, ℕ, ◌+◌, List, [], ◌∷◌, ◌++◌, take, drop, map, replicate, codes, pos, negsuc, true}
use Rattle.std.specs.Prelude.{Float, Some, None, Ok, Err}
use Rattle.toml.specs.Data.{Data, array, as_array, as_integer, as_str, boolean, float, integer, item, no_items}
use Rattle.toml.specs.Data.{no_members, string, table}
use Rattle.ats_network_table.specs.Kinds.{address_in, address_of, list_in, long_in, name_in, whole_in}
use Rattle.ats_network_table.specs.Walk.{Entry, classes_at, deadline_at, identity_at, path_at, short_at}
use Rattle.ats_network_table.specs.declared.format.Format.TheVariants.{Two}
use Rattle.ats_network_table.specs.declared.fault.DocumentFault.TheVariants.{WrongKind}
use Rattle.ats_network_table.specs.declared.key.Key.TheVariants as key
use Rattle.ats_network_table.specs.declared.table.Table.TheVariants.{Stream}
use Rattle.ats_first_examples.specs.Tables.{Values, a_name, a_number, members_of, third}

-- The values that a network file may have, at their limits, and those next to them.

-- whole numbers: from 0 to the greatest of TOML, or of 32 bits, or of a range; a text or a truth is none
pub record WholesAreRanged : Type 0 where
  pub zero : long_in (integer (pos 0)) ≡ Some 0
  pub greatest : long_in (integer (pos 9223372036854775807)) ≡ Some 9223372036854775807
  pub over : long_in (integer (pos 9223372036854775808)) ≡ None
  pub below : long_in (integer (negsuc 0)) ≡ None
  pub text : long_in (string (codes "1")) ≡ None
  pub truth : long_in (boolean true) ≡ None
  pub list : long_in (array (item a_number no_items)) ≡ None
  pub least_in : whole_in 1 4094 (integer (pos 1)) ≡ Some 1
  pub below_least : whole_in 1 4094 (integer (pos 0)) ≡ None
  pub greatest_in : whole_in 1 4094 (integer (pos 4094)) ≡ Some 4094
  pub over_greatest : whole_in 1 4094 (integer (pos 4095)) ≡ None

-- a table of a stream with these
abbrev pub with_values : Values → Entry
with_values values = third Two Stream (members_of values)

-- a number of 32 bits
pub record ShortsAreRanged : Type 0 where
  pub greatest : short_at (with_values ((key.Mbps, integer (pos 4294967295)) ∷ [])) key.Mbps ≡ Ok 4294967295
  pub over : short_at (with_values ((key.Mbps, integer (pos 4294967296)) ∷ [])) key.Mbps
      ≡ Err (WrongKind Stream 3 key.Mbps)
  pub below : short_at (with_values ((key.Mbps, integer (negsuc 4)) ∷ [])) key.Mbps ≡ Err (WrongKind Stream 3 key.Mbps)

-- six pairs of zeros with this byte at a place
abbrev pub with_byte : ℕ → ℕ → List ℕ
with_byte byte place =
    take place (codes "00:00:00:00:00:00") ++ byte ∷ drop (place + 1) (codes "00:00:00:00:00:00")

-- six pairs of digits, the first of them highest, in small letters or capitals; a `-` at any place between two pairs,
-- or a `g` at any place of a digit, makes it none
pub record AddressesAreRead : Type 0 where
  pub least : address_of (codes "00:00:00:00:00:00") ≡ Some 0
  pub in_order : address_of (codes "01:23:45:67:89:ab") ≡ Some 1250999896491
  pub greatest : address_of (codes "ff:ff:ff:ff:ff:ff") ≡ Some 281474976710655
  pub capitals : address_of (codes "FF:FF:FF:FF:FF:FE") ≡ Some 281474976710654
  pub both : address_of (codes "aB:00:00:00:00:0C") ≡ Some 188016488349708
  pub short : address_of (codes "00:00:00:00:00:0") ≡ None
  pub long : address_of (codes "00:00:00:00:00:000") ≡ None
  pub five : address_of (codes "00:00:00:00:00") ≡ None
  pub seven : address_of (codes "00:00:00:00:00:00:00") ≡ None
  pub dashes : address_of (codes "00-00-00-00-00-00") ≡ None
  pub unjoined : address_of (codes "000000000000") ≡ None
  pub letter : address_of (codes "00:00:00:00:00:0g") ≡ None
  pub first_letter : address_of (codes "g0:00:00:00:00:00") ≡ None
  pub space : address_of (codes "00:00:00:00:00: 0") ≡ None
  pub empty : address_of [] ≡ None
  pub joined : map (λ place. address_of (with_byte 45 place)) (2 ∷ 5 ∷ 8 ∷ 11 ∷ 14 ∷ []) ≡ replicate 5 None
  pub digits : map (λ place. address_of (with_byte 103 place))
      (0 ∷ 1 ∷ 3 ∷ 4 ∷ 6 ∷ 7 ∷ 9 ∷ 10 ∷ 12 ∷ 13 ∷ 15 ∷ 16 ∷ []) ≡ replicate 12 None
  pub number : address_in a_number ≡ None

-- a path of two names or more; a list of numbers, and one number in its place
pub record ListsAreRead : Type 0 where
  pub two : path_at (with_values ((key.Path, array (item a_name (item a_name no_items))) ∷ []))
      ≡ Ok (codes "n" ∷ codes "n" ∷ [])
  pub one : path_at (with_values ((key.Path, array (item a_name no_items)) ∷ [])) ≡ Err (WrongKind Stream 3 key.Path)
  pub none : path_at (with_values ((key.Path, array no_items) ∷ [])) ≡ Err (WrongKind Stream 3 key.Path)
  pub no_name : path_at (with_values ((key.Path, array (item a_name (item (string (codes "n.")) no_items))) ∷ []))
      ≡ Err (WrongKind Stream 3 key.Path)
  pub with_end : path_at (with_values
      ((key.To, a_name) ∷ (key.Path, array (item a_name (item a_name no_items))) ∷ []))
      ≡ Err (WrongKind Stream 3 key.Path)
  pub classes : classes_at (with_values
      ((key.Classes, array (item a_number (item (integer (pos 300)) no_items))) ∷ [])) ≡ Ok (7 ∷ 300 ∷ [])
  pub no_classes : classes_at (with_values ((key.Classes, array no_items) ∷ [])) ≡ Ok []
  pub no_class : classes_at (with_values ((key.Classes, array (item a_number (item a_name no_items))) ∷ []))
      ≡ Err (WrongKind Stream 3 key.Classes)
  pub class : classes_at (with_values ((key.Class, a_number) ∷ [])) ≡ Ok (7 ∷ [])
  pub both : classes_at (with_values ((key.Class, a_number) ∷ (key.Classes, array no_items) ∷ []))
      ≡ Err (WrongKind Stream 3 key.Classes)
  pub no_list : list_in name_in a_name ≡ None
  pub in_table : list_in name_in (table no_members) ≡ None

-- a deadline and an identity, which may be absent
pub record AbsentAreRead : Type 0 where
  pub deadline : deadline_at (with_values []) ≡ Ok 1000000000
  pub own_deadline : deadline_at (with_values ((key.DeadlineNs, a_number) ∷ [])) ≡ Ok 7
  pub identity : identity_at (with_values []) ≡ Ok None
  pub own_identity : identity_at (with_values
      ((key.Address, string (codes "00:00:00:00:00:0a")) ∷ (key.Vlan, integer (pos 4094)) ∷ [])) ≡ Ok (Some (10, 4094))
  pub address_first : identity_at (with_values ((key.Address, a_name) ∷ (key.Vlan, a_name) ∷ []))
      ≡ Err (WrongKind Stream 3 key.Address)
  pub vlan_below : identity_at (with_values
      ((key.Address, string (codes "00:00:00:00:00:0a")) ∷ (key.Vlan, integer (pos 0)) ∷ []))
      ≡ Err (WrongKind Stream 3 key.Vlan)

-- what is of no such kind of TOML: a number with a fraction or a time is no whole number, even where the fraction is 0,
-- and no name, and so is all else
pub record OthersAreNone : Type 0 where
  pub float_is_no_number : (x : Float) → long_in (float x) ≡ None
  pub float_is_no_class : (x : Float) (least most : ℕ) → whole_in least most (float x) ≡ None
  pub float_is_no_name : (x : Float) → name_in (float x) ≡ None
  pub number : (d : Data) → as_integer d ≡ None → (least most : ℕ) → whole_in least most d ≡ None
  pub name : (d : Data) → as_str d ≡ None → name_in d ≡ None
  pub address : (d : Data) → as_str d ≡ None → address_in d ≡ None
  pub list : (d : Data) → as_array d ≡ None → list_in name_in d ≡ None

pub record KindsAreRead : Type 0 where
  pub wholes : WholesAreRanged
  pub shorts : ShortsAreRanged
  pub addresses : AddressesAreRead
  pub lists : ListsAreRead
  pub absent : AbsentAreRead
  pub others : OthersAreNone

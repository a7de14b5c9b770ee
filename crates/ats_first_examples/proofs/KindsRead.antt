use Rattle.std.proofs.Common.{ℕ, List, refl, ap}
use Rattle.std.specs.Prelude.{ℤ, Option, option_and_then}
use Rattle.toml.specs.Data.{Items}
use Rattle.ats_num.specs.Name.{name_of}
use Rattle.ats_network_table.specs.Kinds.{address_of, all_in, name_in, ranged}
use Rattle.ats_first_examples.specs.Kinds.{AbsentAreRead, AddressesAreRead, KindsAreRead, ListsAreRead}
use Rattle.ats_first_examples.specs.Kinds.{OthersAreNone, ShortsAreRanged, WholesAreRanged}

-- The values that a network file may have, by computation.

wholes_are_ranged : WholesAreRanged
wholes_are_ranged = record {
  zero = refl;
  greatest = refl;
  over = refl;
  below = refl;
  text = refl;
  truth = refl;
  list = refl;
  least_in = refl;
  below_least = refl;
  greatest_in = refl;
  over_greatest = refl;
}

shorts_are_ranged : ShortsAreRanged
shorts_are_ranged = record { greatest = refl; over = refl; below = refl }

addresses_are_read : AddressesAreRead
addresses_are_read = record {
  least = refl;
  in_order = refl;
  greatest = refl;
  capitals = refl;
  both = refl;
  short = refl;
  long = refl;
  five = refl;
  seven = refl;
  dashes = refl;
  unjoined = refl;
  letter = refl;
  first_letter = refl;
  space = refl;
  empty = refl;
  joined = refl;
  digits = refl;
  number = refl;
}

lists_are_read : ListsAreRead
lists_are_read = record {
  two = refl;
  one = refl;
  none = refl;
  no_name = refl;
  with_end = refl;
  classes = refl;
  no_classes = refl;
  no_class = refl;
  class = refl;
  both = refl;
  no_list = refl;
  in_table = refl;
}

absent_are_read : AbsentAreRead
absent_are_read = record {
  deadline = refl;
  own_deadline = refl;
  identity = refl;
  own_identity = refl;
  address_first = refl;
  vlan_below = refl;
}

others_are_none : OthersAreNone
others_are_none = record {
  float_is_no_number = λ x. refl;
  float_is_no_class = λ x least most. refl;
  float_is_no_name = λ x. refl;
  number = λ d h least most. ap (λ (o : Option ℤ). option_and_then (ranged least most) o) h;
  name = λ d h. ap (λ (o : Option (List ℕ)). option_and_then name_of o) h;
  address = λ d h. ap (λ (o : Option (List ℕ)). option_and_then address_of o) h;
  list = λ d h. ap (λ (o : Option Items). option_and_then (all_in name_in) o) h;
}

pub kinds_are_read : KindsAreRead
kinds_are_read = record {
  wholes = wholes_are_ranged;
  shorts = shorts_are_ranged;
  addresses = addresses_are_read;
  lists = lists_are_read;
  absent = absent_are_read;
  others = others_are_none;
}

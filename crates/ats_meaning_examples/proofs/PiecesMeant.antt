use Rattle.std.proofs.Common.{Option, ap, refl, unwrap_or}
use Rattle.std.specs.Option.{option_map}
use Rattle.ats_certificate.specs.declared.row.Row.{Row}
use Rattle.ats_meaning_examples.specs.Pieces.{ClassesAreOfGiven, GroupsKeepLast, MeteredAreOfReleases, NumbersAreOfRows}
use Rattle.ats_meaning_examples.specs.Pieces.{PiecesAreMeant, PortsAreOfLinks}

ports_are_of_links : PortsAreOfLinks
ports_are_of_links = record {
  from = λ nodes l a b. refl;
  to = λ nodes l a b. refl;
  per_bit = λ nodes l a b. refl;
  earliest = λ nodes l a b. refl;
  latency = λ nodes l a b. refl;
  least_there = refl;
  least = λ min max residence ppm step. refl;
  greatest_there = refl;
  greatest = λ min max residence ppm step. refl;
}

classes_are_of_given : ClassesAreOfGiven
classes_are_of_given = record {
  one = λ ports class. refl;
  none = λ ports. refl;
  more = λ ports class other others. refl;
}

numbers_are_of_rows : NumbersAreOfRows
numbers_are_of_rows = record {
  there = λ amount rows port class row is. ap (λ (found : Option Row). unwrap_or (option_map amount found) 0) is;
  none = λ amount rows port class is. ap (λ (found : Option Row). unwrap_or (option_map amount found) 0) is;
}

metered_are_of_releases : MeteredAreOfReleases
metered_are_of_releases = record {
  frame = λ n r. refl;
  at = λ n r. refl;
  bits = λ n r. refl;
}

groups_keep_last : GroupsKeepLast
groups_keep_last = record {
  time = λ s o e. refl;
  last = λ s o e m. refl;
  late = λ s o e. refl;
  size = λ s o. refl;
  next = λ declared ns s o. refl;
  no_frame = λ declared ns s. refl;
  frame = λ declared ns s o os. refl;
  begun = refl;
  fresh = λ m. refl;
}

pub pieces_are_meant : PiecesAreMeant
pieces_are_meant = record {
  ports = ports_are_of_links;
  classes = classes_are_of_given;
  numbers = numbers_are_of_rows;
  metered = metered_are_of_releases;
  groups = groups_keep_last;
}

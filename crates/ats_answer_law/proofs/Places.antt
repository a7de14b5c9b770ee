use Rattle.std.proofs.Common.{ℕ, Option, ap}
use Rattle.std.specs.Prelude.{unwrap_or}
use Rattle.ats_answer_law.specs.Places.{PlacesAreMeant}

-- Where settings stand, and where frames that are together at a port are counted.

pub places_are_meant : PlacesAreMeant
places_are_meant = record {
  settings = λ network settings. (
    λ are. (are.same, are.by_place, are.ties),
    λ are. record { same = are.0; by_place = are.1; ties = are.2 },
  );
  behind = λ sender port before is. ap (λ (o : Option ℕ). unwrap_or o port) is;
  first = λ sender port none. ap (λ (o : Option ℕ). unwrap_or o port) none;
}

use Rattle.std.specs.Prelude.{◌≡◌, ℕ, ◌+◌, ◌<◌, ◌^◌, List, length, Option}
use Rattle.std.specs.List.{position_from}
use Rattle.std.specs.Str.{bytes_eq}
use Rattle.std.specs.Ordering.{nat_cmp}
use Rattle.std.specs.Cmp.Lexicographic.{slice_cmp}
use Rattle.std.specs.BTreeMap.{BTreeMap, get}

-- the place of the first name with these bytes, if there is one
abbrev pub place_of : List ℕ → List (List ℕ) → Option ℕ
place_of name names = position_from (bytes_eq name) 0 names

-- the map finds each name at its place, and nothing else
pub record AreNumbered (names : List (List ℕ)) (places : BTreeMap (List ℕ) ℕ) : Type 0 where
  pub found : (name : List ℕ) → get (slice_cmp nat_cmp) places name ≡ place_of name names
  pub few : length names < 2 ^ 32 + 1

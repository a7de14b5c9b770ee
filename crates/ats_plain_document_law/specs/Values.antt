use Rattle.std.specs.Prelude.{◌≡◌, ◌↔◌, ℕ, ◌≤◌, pos, List, [], ◌∷◌, Option, Some}
use Rattle.std.specs.List.{AllZip}
use Rattle.toml.specs.Data.{Data, Items, Members, as_array, as_integer, item, no_items}
use Rattle.ats_network_table.specs.Kinds.{list_in, whole_in}

-- the items of an array of TOML, in their order
abbrev pub items_told : Items → List Data
items_told no_items = []
items_told (item d ds) = d ∷ items_told ds

-- a whole number is of a range where it is one of TOML, at least its least and at most its greatest
abbrev pub WholesAreRanged : Type 0
WholesAreRanged = (least most n : ℕ) (d : Data) → whole_in least most d ≡ Some n
    ↔ ((as_integer d ≡ Some (pos n)) × (least ≤ n) × (n ≤ most))

-- a list is read where an array stands, of whose items each is of the kind: it has what each of them is, in their order
abbrev pub ListsAreRead : Type 0 → Type 0
ListsAreRead A = (kind : Data → Option A) (d : Data) (xs : List A) → list_in kind d ≡ Some xs
    ↔ ((items : Items) × (as_array d ≡ Some items) × AllZip (λ i x. kind i ≡ Some x) (items_told items) xs)

-- so it is of whole numbers, and of lists of numbers, of names, of lists of names, and of tables
pub record ValuesAreDeclared : Type 0 where
  pub wholes : WholesAreRanged
  pub numbers : ListsAreRead ℕ
  pub names : ListsAreRead (List ℕ)
  pub paths : ListsAreRead (List (List ℕ))
  pub tables : ListsAreRead Members

use Rattle.std.specs.Prelude.{ℕ, ◌+◌, ◌*◌, ℤ, pos, negsuc, Bool, ◌&&◌, ◌==◌, nat_le, List, [], ◌∷◌, length, slice_index}
use Rattle.std.specs.Prelude.{Option, Some, None, option_and_then, if◌then◌else◌}
use Rattle.std.specs.Option.{option_map, option_or}
use Rattle.std.specs.Char.{is_digit, digit_value}
use Rattle.ats_num.specs.Name.{name_of}
use Rattle.toml.specs.Data.{Data, Items, no_items, item, as_str, as_integer, as_array}

infixl 10 ◌>>=◌
abbrev pub ◌>>=◌ : {A B : Type 0} → Option A → (A → Option B) → Option B
o >>= f = option_and_then f o

-- this value where the test passes
abbrev pub some_where : {A : Type 0} → Bool → A → Option A
some_where passes x = if passes then Some x else None

-- a string that is a name
abbrev pub name_in : Data → Option (List ℕ)
name_in d = as_str d >>= name_of

-- the same, of at most 26 bytes: with `-` and up to four digits behind it, it is a name
abbrev pub short_name_in : Data → Option (List ℕ)
short_name_in d = name_in d >>= λ name. some_where (nat_le (length name) 26) name

-- a whole number of a range
abbrev pub ranged : ℕ → ℕ → ℤ → Option ℕ
ranged least most (pos n) = some_where (nat_le least n && nat_le n most) n
ranged least most (negsuc n) = None

abbrev pub whole_in : ℕ → ℕ → Data → Option ℕ
whole_in least most d = as_integer d >>= ranged least most

-- a whole number that is as great as TOML allows
abbrev pub long_in : Data → Option ℕ
long_in = whole_in 0 9223372036854775807

-- the hexadecimal digit at a place of a text
abbrev pub digit_at : List ℕ → ℕ → Option ℕ
digit_at text k = some_where (is_digit (slice_index text k) 16) (digit_value (slice_index text k))

-- the number that two hexadecimal digits write
abbrev pub pair_at : List ℕ → ℕ → Option ℕ
pair_at text k = do
  high ← digit_at text k
  low ← digit_at text (k + 1)
  Some (high * 16 + low)

-- a colon, and the number that two hexadecimal digits behind it write
abbrev pub joined_at : List ℕ → ℕ → Option ℕ
joined_at text k = if slice_index text k == 58 then pair_at text (k + 1) else None

-- two pairs behind a number, each behind a colon, as a number with the first given one highest
abbrev pub two_more : List ℕ → ℕ → ℕ → Option ℕ
two_more text k high = do
  middle ← joined_at text k
  low ← joined_at text (k + 3)
  Some ((high * 256 + middle) * 256 + low)

-- six pairs of hexadecimal digits, joined by colons, as a number with the first pair highest
abbrev pub address_of : List ℕ → Option ℕ
address_of text = do
  first ← pair_at text 0
  high ← two_more text 2 first
  fourth ← joined_at text 8
  low ← two_more text 11 fourth
  some_where (length text == 17) (high * 16777216 + low)

abbrev pub address_in : Data → Option ℕ
address_in d = as_str d >>= address_of

-- what stands in front of a list
abbrev pub in_front : {A : Type 0} → Option A → Option (List A) → Option (List A)
in_front None xs = None
in_front (Some x) None = None
in_front (Some x) (Some xs) = Some (x ∷ xs)

-- items that are all of one kind
abbrev pub all_in : {A : Type 0} → (Data → Option A) → Items → Option (List A)
all_in kind no_items = Some []
all_in kind (item d ds) = in_front (kind d) (all_in kind ds)

-- an array whose items are all of one kind, as a list
abbrev pub list_in : {A : Type 0} → (Data → Option A) → Data → Option (List A)
list_in kind d = as_array d >>= all_in kind

-- an array of names, of so many at least
abbrev pub names_in : ℕ → Data → Option (List (List ℕ))
names_in least d = list_in name_in d >>= λ names. some_where (nat_le least (length names)) names

-- an array of paths, one at least, each an array of at least two names
abbrev pub paths_in : Data → Option (List (List (List ℕ)))
paths_in d = list_in (names_in 2) d >>= λ paths. some_where (nat_le 1 (length paths)) paths

-- one name or, where several may stand there, an array of at least one
abbrev pub one_or_more : Bool → Data → Option (List (List ℕ))
one_or_more several d =
    option_or (option_map (λ name. name ∷ []) (name_in d)) (if several then names_in 1 d else None)

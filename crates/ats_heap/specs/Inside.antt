use Rattle.std.specs.Prelude.{◌≡◌, ◌≢◌, ℕ, ◌+◌, ◌*◌, ◌<◌, ◌≤◌, Option, IfNone, List, [], ◌∷◌, length, slice_index_or}
use Rattle.std.specs.Prelude.{All, AllPairs}

-- the order covers both items, and y does not go before x
pub record Leads {T : Type 0} (covers : T → Type 0) (before : T → T → Type 0) (x y : T) : Type 0 where
  pub first : covers x
  pub second : covers y
  pub after : ¬ before y x

-- k is one of the four places below j
pub record IsBelow (j k : ℕ) : Type 0 where
  pub least : 4 * j + 1 ≤ k
  pub most : k ≤ 4 * j + 4

-- each item leads those below it
abbrev pub IsHeap : {T : Type 0} → (T → T → Type 0) → List T → Type 0
IsHeap {T} leads xs =
    (j k : ℕ) (d : T) → IsBelow j k → k < length xs → leads (slice_index_or xs j d) (slice_index_or xs k d)

-- a heap but for what stands at the hole: each other item leads those below it, and what is above the hole leads what
-- is below
pub record IsHeapAround {T : Type 0} (leads : T → T → Type 0) (xs : List T) (hole : ℕ) : Type 0 where
  pub edges : (j k : ℕ) (d : T) → IsBelow j k → k < length xs → j ≢ hole → k ≢ hole
      → leads (slice_index_or xs j d) (slice_index_or xs k d)
  pub across : (j k : ℕ) (d : T) → IsBelow j hole → IsBelow hole k → k < length xs
      → leads (slice_index_or xs j d) (slice_index_or xs k d)

-- at the hole this item would lead what is below
abbrev pub Fits : {T : Type 0} → (T → T → Type 0) → List T → ℕ → T → Type 0
Fits {T} leads xs hole item = (k : ℕ) (d : T) → IsBelow hole k → k < length xs → leads item (slice_index_or xs k d)

-- the hole is below this place, and the item leads what stands here
pub record IsLaterAbove {T : Type 0} (leads : T → T → Type 0) (xs : List T) (hole : ℕ) (item : T) (place : ℕ) : Type 0
  where
    pub below : IsBelow place hole
    pub later : (d : T) → leads item (slice_index_or xs place d)

-- of the items below a place, the one that stands here leads each
pub record IsFirstBelow {T : Type 0} (leads : T → T → Type 0) (xs : List T) (above place : ℕ) : Type 0 where
  pub below : IsBelow above place
  pub within : place < length xs
  pub first : (k : ℕ) (d : T) → IsBelow above k → k < length xs → leads (slice_index_or xs place d)
      (slice_index_or xs k d)

-- each of four places is the one before or follows it
pub record AreFour (a b c d : ℕ) : Type 0 where
  pub second : a ≤ b
  pub after_first : b ≤ a + 1
  pub third : b ≤ c
  pub after_second : c ≤ b + 1
  pub last : c ≤ d
  pub after_third : d ≤ c + 1

-- of the items from one place to another, the one that stands here leads each
pub record IsFirstOf {T : Type 0} (leads : T → T → Type 0) (xs : List T) (from to place : ℕ) : Type 0 where
  pub least : from ≤ place
  pub most : place ≤ to
  pub first : (k : ℕ) (d : T) → from ≤ k → k ≤ to → leads (slice_index_or xs place d) (slice_index_or xs k d)

-- there is room for all that may come, the order covers each item, and the items form a heap
pub record IsKept {T : Type 0} (covers : T → Type 0) (before : T → T → Type 0) (items : List T) (capacity room : ℕ)
    : Type 0 where
  pub reserved : capacity ≤ room
  pub within : length items ≤ capacity
  pub covered : All covers items
  pub heap : IsHeap (Leads covers before) items

-- the order covers each item, and each leads all behind it
pub record IsLine {T : Type 0} (covers : T → Type 0) (before : T → T → Type 0) (line : List T) : Type 0 where
  pub covered : All covers line
  pub ascends : AllPairs (Leads covers before) line

-- the item at this place leads the new one, which leads each behind it
pub record IsLastLeader {T : Type 0} (leads : T → T → Type 0) (line : List T) (item : T) (place : ℕ) : Type 0 where
  pub within : place < length line
  pub led : (d : T) → leads (slice_index_or line place d) item
  pub behind : (k : ℕ) (d : T) → place < k → k < length line → leads item (slice_index_or line k d)

-- the line has a first item, and this leads all in the tree
abbrev pub IsAhead : {T : Type 0} → (T → T → Type 0) → List T → List T → Type 0
IsAhead leads [] tree = ⊥
IsAhead leads (x ∷ xs) tree = All (leads x) tree

-- what a heap keeps of the items in its line and in its tree
pub record AreKept {T : Type 0} (covers : T → Type 0) (before : T → T → Type 0) (waiting standing : List T)
    : Type 0 where
  pub line : IsLine covers before waiting
  pub tree : All covers standing

-- of a stored line the items from this place on wait behind the first, and where there is no first, none waits
pub record IsStored {T : Type 0} (first : Option T) (gone : ℕ) (items : List T) : Type 0 where
  pub within : gone ≤ length items
  pub none : IfNone first (gone ≡ length items)

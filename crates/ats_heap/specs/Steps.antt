use Rattle.std.specs.Prelude.{List, ◌∷◌, All, Contains, IsPermutation}

-- a heap loses this item, and none that stays goes before it
pub record Pops {T : Type 0} (before : T → T → Type 0) (old new : List T) (item : T) : Type 0 where
  pub items : IsPermutation old (item ∷ new)
  pub first : All (λ (other : T). ¬ before other item) new

-- this item is one of these, and none goes before it
pub record IsFirst {T : Type 0} (before : T → T → Type 0) (items : List T) (item : T) : Type 0 where
  pub among : Contains items item
  pub first : All (λ (other : T). ¬ before other item) items

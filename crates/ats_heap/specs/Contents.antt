use Rattle.std.specs.Prelude.{ℕ, List, ◌++◌}

-- a heap: its items, in an order that means nothing, how many it may have, and which of two goes before
pub record Contents (T O : Type 0) : Type 0 where
  pub items : List T
  pub capacity : ℕ
  pub order : O

-- a heap with these items more
abbrev pub joined : {T O : Type 0} → List T → Contents T O → Contents T O
joined line tree = record { items = line ++ tree.items; capacity = tree.capacity; order = tree.order }

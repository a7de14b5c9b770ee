use Rattle.std.specs.Prelude.{◌≡◌, ℕ, ◌+◌, ◌-◌, ◌^◌, ◌≤◌, min, List, ◌++◌, length, take, drop, Option, Some, option_map}

-- between two counts of faults a fault came: the count grew, or it stands at the last value of a 64-bit counter
abbrev pub Rose : ℕ → ℕ → Type 0
Rose before now = min (before + 1) (2 ^ 64 - 1) ≤ now

-- where the bytes are told, they are such bytes
abbrev pub IfTold : Option (List ℕ) → (List ℕ → Type 0) → Type 0
IfTold held P = (bytes : List ℕ) → held ≡ Some bytes → P bytes

-- the outside goes on from `old` to `new`: each name holds what it held, and no count of faults fell
pub record Continues {S : Type 0} (told : S → List ℕ → Option (List ℕ)) (faults : S → List ℕ → ℕ)
    (old new : S) : Type 0 where
  pub holds : told new ≡ told old
  pub counts : (name : List ℕ) → faults old name ≤ faults new name

-- the first `count` bytes of the buffer are the ones that stand in `bytes` from place `at`; there are none only at
-- their end
pub record IsPieceAt (bytes : List ℕ) (at count : ℕ) (buffer : List ℕ) : Type 0 where
  pub piece : take count buffer ≡ take count (drop at bytes)
  pub within : count ≤ length (drop at bytes)
  pub ends : count ≡ 0 → length bytes ≤ at

-- what a sink holds after a piece more, where it tells what it holds
abbrev pub appended : Option (List ℕ) → List ℕ → Option (List ℕ)
appended held piece = option_map (λ bytes. bytes ++ piece) held

-- from `old` to `new` a sink took a prefix of the text, and no more
pub record TakesPrefix (text : List ℕ) (old new : Option (List ℕ)) : Type 0 where
  pub front : List ℕ
  pub rest : List ℕ
  pub parts : front ++ rest ≡ text
  pub taken : new ≡ appended old front

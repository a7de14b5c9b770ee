use Rattle.std.specs.Prelude.{◌≡◌, ℕ, ◌+◌, ◌<◌, Bool, true, false, List, ◌∷◌, ◌++◌, length, All}
use Rattle.ats_topology.specs.Laws.{IsLeastBelow}

-- the entry with this number passes a test, and none before it does; entries are counted from 1
pub record IsFirstIn {E : Type 0} (test : E → Bool) (entries : List E) (number : ℕ) : Type 0 where
  pub before : List E
  pub entry : E
  pub after : List E
  pub cut : before ++ entry ∷ after ≡ entries
  pub passes : test entry ≡ true
  pub earlier : All (λ e. test e ≡ false) before
  pub counted : number ≡ length before + 1

-- the same of a test on places, which are counted from 0
pub record IsFirstPlace (test : ℕ → Bool) (count number : ℕ) : Type 0 where
  pub place : ℕ
  pub least : IsLeastBelow test count place
  pub counted : number ≡ place + 1

-- no entry passes the test
abbrev pub NoneIn : {E : Type 0} → (E → Bool) → List E → Type 0
NoneIn test entries = All (λ e. test e ≡ false) entries

-- the same of places
abbrev pub NonePlace : (ℕ → Bool) → ℕ → Type 0
NonePlace test count = (k : ℕ) → k < count → test k ≡ false

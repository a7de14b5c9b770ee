use Rattle.std.specs.Prelude.{ℕ, ◌<◌, List, AllPairs}

-- each of the serial numbers is below those behind it
abbrev pub AreRising : List ℕ → Type 0
AreRising serials = AllPairs (λ a b. a < b) serials

-- of two items at most one goes before the other, and "does not go before" is handed on; items may tie
pub record IsWeakOrder {T : Type 0} (covers : T → Type 0) (before : T → T → Type 0) : Type 0 where
  pub one_way : (x y : T) → covers x → covers y → before x y → ¬ before y x
  pub handed_on : (x y z : T) → covers x → covers y → covers z → ¬ before y x → ¬ before z y → ¬ before z x
